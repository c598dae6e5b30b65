use Rattle.std.proofs.Common.{◌+◌, arith}
use Rattle.box_enum.proofs.RefutingLaws.{good_refuted, shallow_refuted, holds_left}
use Rattle.box_enum.proofs.refuting.refuted.Goals as goal

pub returns-then-not-false_row-clause-none : goal.returns-then-not-false_row-clause-none
returns-then-not-false_row-clause-none c e named x a =
    holds_left _ _ c.args.count c.args.reach c.args.row.now c.in_ok-left.left c.args.choices.now c.in_ok-left.ensures c.requires.tame c.requires.within c.if-not-false_row.ensures named x a

pub returns-clause-good : goal.returns-clause-good
returns-clause-good c =
    good_refuted _ _ _ _ c.args.count (c.args.count + c.len.result) c.args.reach c.args.row.now c.in_ok-left.left c.args.choices.now c.new-steps.ensures.items c.in_ok-left.ensures c.requires.tame c.requires.within c.if-not-false_row.ensures
    (omega (arith, c.len.ensures, c.put_values.new.steps.ok)) c.in_ok-end_with.ensures c.from_vec.ensures

pub returns-clause-shallow : goal.returns-clause-shallow
returns-clause-shallow c = shallow_refuted _ _ _ _ _ _ _ c.new-steps.ensures.items c.in_ok-left.ensures.steps c.in_ok-end_with.ensures c.from_vec.ensures
