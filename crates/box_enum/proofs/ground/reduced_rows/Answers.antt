use Rattle.std.proofs.Common.{map, refl, arith}
use Rattle.box_enum.specs.machine.Trunks.{single_row, with_singles}
use Rattle.box_enum.proofs.ReducingLaws.{none_put, one_put, singles_stand, singles_within, singles_counted, row_tame}
use Rattle.box_enum.proofs.ground.reduced_rows.Goals as goal

pub loop-n-init : goal.loop-n-init
loop-n-init c = none_put c.args.rows.now (with_singles c.args.rows.now c.args.single.now) c.args.choices.now _ _ c.requires.none c.in_ok-standing.ensures.items

pub reduced_row-requires-clause-tame : goal.reduced_row-requires-clause-tame
reduced_row-requires-clause-tame c = row_tame c.args.rows.now c.args.reach c.loop-n.n _ _ c.requires.walled c.loop-n-test.true c.index-rows-n.is

pub reduced_row-requires-clause-within : goal.reduced_row-requires-clause-within
reduced_row-requires-clause-within c = singles_within c.args.rows.now c.args.reach c.args.single.now c.args.free.now c.args.choices.now c.requires.walled c.requires.choices

pub loop-n-preserved : goal.loop-n-preserved
loop-n-preserved c =
    one_put c.args.rows.now (with_singles c.args.rows.now c.args.single.now) (map single_row c.args.single.now) c.args.choices.now c.loop-n.n _ c.loop-n.steps.items _ c.loop-n.standing.items _ _ _ c.loop-n-test.true c.index-rows-n.is refl
    (singles_stand c.args.rows.now c.args.single.now c.args.choices.now c.requires.choices) (omega (arith, singles_counted c.args.rows.now c.args.single.now)) c.in_ok-numbered.ensures c.in_ok-push.ensures.items c.loop-n.invariant
