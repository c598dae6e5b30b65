use Rattle.std.proofs.Common.{length}
use Rattle.std.proofs.lemmas.Result.{err_from_is_err_and}
use Rattle.goal_text.specs.Reading.{begun_of}
use Rattle.goal_text.proofs.ReadingLaws.{loop_step, loop_few, loop_fails}
use Rattle.goal_text.proofs.read.sessions.Goals as goal

pub returns-in_err-reader : goal.returns-in_err-reader
returns-in_err-reader c =
    let p = err_from_is_err_and c.from_residual-in_err-reader.result c.from_residual-in_err-reader.ensures.1 in
    rw (p.1, p.2) (loop_fails (length c.args.bytes.now) c.loop-reader.reader (begun_of c.loop-reader.counters) c.in_ok-token.field-0 c.in-Some.token c.loop-reader.lexer c.next_token.new.self _ c.in_err-reader.field-0.0 c.in_ok-token.ensures.next c.in-Some.is c.in_err-reader.ensures c.loop-reader.invariant.rest)

pub loop-reader-preserved : goal.loop-reader-preserved
loop-reader-preserved c = record {
  rest = loop_step (length c.args.bytes.now) c.loop-reader.reader c.in_ok-reader.reader (begun_of c.loop-reader.counters) (begun_of c.begun_with-more.result) c.in_ok-token.field-0 c.in-Some.token c.loop-reader.lexer c.next_token.new.self _ c.in_ok-token.ensures.next c.in-Some.is c.in_ok-reader.ensures c.begun_with-more.ensures c.loop-reader.invariant.rest;
  few = loop_few c.loop-reader.reader c.in_ok-reader.reader (begun_of c.loop-reader.counters) (begun_of c.begun_with-more.result) c.in-Some.token c.in_ok-reader.ensures c.begun_with-more.ensures c.loop-reader.invariant.few;
}
