use Rattle.box_enum.proofs.PlacedLaws.{placed_more}
use Rattle.box_enum.proofs.waiting.all_waiting.Goals as goal

pub loop-row-preserved : goal.loop-row-preserved
loop-row-preserved c = placed_more c.args.vars.now c.args.rows.now c.loop-row.waiting.items _ c.loop-row.row-index _ _ c.loop-row-test.true c.row-item.is c.in_ok-wait.ensures c.in_ok-push.ensures.items c.loop-row.invariant
