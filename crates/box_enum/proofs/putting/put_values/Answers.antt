use Rattle.std.proofs.Common.{pos, sym, arith}
use Rattle.box_enum.specs.declared.numbered.Choice.{Choice}
use Rattle.box_enum.proofs.PutSteps.{begin, pass, put}
use Rattle.box_enum.proofs.putting.put_values.Goals as goal

-- what stands for a choice past the last one
abbrev none : Choice
none = record { variable = 0; value = pos 0; row = 0 }

pub loop-choice-init : goal.loop-choice-init
loop-choice-init c = begin c.args.reach c.args.steps.now.items c.args.count c.args.from.now c.in_ok-left.left c.in_ok-left.ensures c.requires.tame

pub loop-choice-preserved-then-not-has_variable : goal.loop-choice-preserved-then-not-has_variable
loop-choice-preserved-then-not-has_variable c = pass c.args.reach c.args.steps.now.items c.loop-choice.steps.items c.args.count c.args.from.now c.loop-choice.left c.args.choices.now
    c.loop-choice.choice-index none c.loop-choice.next c.loop-choice.invariant (omega arith) (sym c.if-not-has_variable.ensures)

pub loop-choice-preserved : goal.loop-choice-preserved
loop-choice-preserved c = put c.args.reach c.args.steps.now.items c.loop-choice.steps.items c.put_value.new.steps.items c.args.count c.args.from.now c.loop-choice.left c.in_ok-left-2.left
    c.args.choices.now c.loop-choice.choice-index none c.loop-choice.next c.loop-choice.invariant (omega arith) c.requires.within (sym c.if-not-has_variable.ensures)
    c.in_ok-left-2.ensures.pushed c.in_ok-left-2.ensures.row c.in_ok-left-2.ensures.number
