use Rattle.std.proofs.Common.{drop, arith}
use Rattle.box_enum.specs.machine.Reading.{span_of}
use Rattle.box_enum.proofs.BoundLaws.{rising, row_more, nothing_more, reading_is}
use Rattle.box_enum.proofs.bounds.spans.Goals as goal

pub narrow-requires-clause-rising : goal.narrow-requires-clause-rising
narrow-requires-clause-rising c = rising c.args.rows.now c.args.vars.now c.requires

pub loop-n-preserved-in-Some : goal.loop-n-preserved-in-Some
loop-n-preserved-in-Some c = row_more c.args.rows.now c.args.vars.now c.loop-n.n _ _ _ (omega arith) (omega arith) c.index-rows-n.is (reading_is c.index-rows-n.result _ _ c.in-Some.is c.in_ok-reading.ensures)
    (c.narrow.ensures (span_of (drop c.loop-n.n c.args.rows.now)) c.loop-n.invariant)

pub loop-n-preserved : goal.loop-n-preserved
loop-n-preserved c = nothing_more c.args.rows.now c.args.vars.now c.loop-n.n _ _ _ (omega arith) (omega arith) c.index-rows-n.is c.in_ok-reading.ensures c.in_default.not-Some c.loop-n.invariant
