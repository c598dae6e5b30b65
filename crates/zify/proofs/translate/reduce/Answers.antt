use Rattle.std.proofs.Common.{ap, ◌∙◌}
use Rattle.goal_ast.specs.declared.term.Operator.{Operator}
use Rattle.zify.specs.declared.translate.Placed.{Placed}
use Rattle.zify.specs.machine.Walking.{shape, placed, divided, part_of}
use Rattle.zify.proofs.StepLaws.{found_part, reduced_is}
use Rattle.zify.proofs.translate.reduce.Goals as goal

pub returns-clause-part : goal.returns-clause-part
returns-clause-part c =
    let k = c.args.k.now in
    let a = c.args.a in
    let s = c.divide.new.table in
    found_part _ c.plain.result _ _
    (ap (λ (o : Operator). placed (shape o a.place 0) c.in_ok-rest.rest s) c.remainder_operator.ensures
    ∙ reduced_is c.args.bound k (part_of a c.args.table.now) c.in_ok-quotient.quotient s c.in_ok-rest.rest
    (let e = ap (λ (p : Placed). divided c.args.bound k (part_of p c.args.table.now)) c.in_ok-copy.ensures in (cc (e, c.in_ok-quotient.ensures.part.0), cc (e, c.in_ok-quotient.ensures.part.1)))
    (cc (c.in_ok-quotient.ensures.table, c.in_ok-copy.ensures)) c.in_ok-rest.ensures)
    c.plain.ensures.part
