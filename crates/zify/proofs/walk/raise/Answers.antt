use Rattle.goal_ast.specs.declared.term.Operator.{Operator}
use Rattle.goal_ast.proofs.CountingLaws.{both_same}
use Rattle.zify.specs.declared.term.ZTerm.{ZTerm}
use Rattle.zify.specs.machine.Walking.{shape, placed}
use Rattle.zify.proofs.StepLaws.{found_part}
use Rattle.zify.proofs.walk.raise.Goals as goal

pub returns-clause-part : goal.returns-clause-part
returns-clause-part c =
    found_part _ c.plain.result _ _ (both_same (λ (o : Operator) (z : ZTerm). placed (shape o c.args.a.place 0) z c.args.table.now) _ _ _ _ c.power_operator.ensures c.in_ok-term.ensures) c.plain.ensures.part
