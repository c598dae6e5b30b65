use Rattle.std.proofs.Common.{arith}
use Rattle.std.proofs.lemmas.Result.{err_from_is_err_and}
use Rattle.cert_kit.specs.Bytes.{term_bytes}
use Rattle.cert_kit.proofs.SinkLaws.{item_refused}
use Rattle.cert_kit.proofs.bytes.put_terms.Goals as goal

pub returns-in_err-put_term-clause-refused : goal.returns-in_err-put_term-clause-refused
returns-in_err-put_term-clause-refused g c =
    let p = err_from_is_err_and c.from_residual.result c.from_residual.ensures.1 in
    rw p.1 (item_refused g.S.ByteSink.took g.S.ByteSink.refuses g.met.S.ByteSink.at_once g.met.S.ByteSink.later term_bytes c.args.terms.now c.loop-term.term-index c.term-item.result c.args.sink.now c.loop-term.sink (omega arith) c.term-item.is c.loop-term.invariant c.in_err-put_term.ensures.refused)
