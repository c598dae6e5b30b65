use Rattle.std.proofs.Common.{arith}
use Rattle.mm_io.proofs.FrontLaws.{appends_more}
use Rattle.mm_io.proofs.sink.write_all.Goals as goal

pub loop-done-preserved : goal.loop-done-preserved
loop-done-preserved g c =
    (omega (arith, c.in_ok-done.ensures.count), appends_more _ _ _ c.args.bytes.now c.loop-done.done c.in_ok-done.field-0 c.loop-done.invariant.1 c.in_ok-done.ensures.bytes, omega arith)
