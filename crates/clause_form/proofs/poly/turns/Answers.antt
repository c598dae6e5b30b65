use Rattle.std.proofs.Common.{◌∙◌, ◌+◌, sym, refl, None, arith}
use Rattle.clause_form.proofs.FittingLaws.{turn_more, turns_stop}
use Rattle.clause_form.proofs.poly.turns.Goals as goal

pub returns-in-None : goal.returns-in-None
returns-in-None c =
    sym (turns_stop c.args.base.now (c.loop.counter + 1) c.args.count (omega arith)
    (turn_more c.args.base.now _ c.loop.counter (c.loop.counter + 1) None c.loop.invariant (sym c.in-None.is ∙ c.in_ok-next.ensures) refl))
