use Rattle.std.proofs.Common.{◌≡◌, ℤ, neg_ℤ, to_z, of_z, ap, ◌∙◌, arith}
use Rattle.std.specs.Int.{w128}
use Rattle.std.specs.Ordering.{int_eq}
use Rattle.std.proofs.lemmas.Int.{ints}
use Rattle.mm_poly.proofs.OppositeLaws.{first_fails, second_decides}
use Rattle.mm_poly.proofs.parts.is_opposite_term.Goals as goal

pub returns-then-same : goal.returns-then-same
returns-then-same c =
    let p : to_z w128 (of_z w128 c.args.first.now.coeff) ≡ c.args.first.now.coeff = omega (arith, ints) in
    let q : to_z w128 (of_z w128 c.args.second.now.coeff) ≡ c.args.second.now.coeff = omega (arith, ints) in
    second_decides _ _ _ _ _ c.same.ensures.0 c.same.ensures.1 c.if-same.true
    (c.sum_to_0.ensures
    ∙ ap (λ (z : ℤ). int_eq z (neg_ℤ (to_z w128 (of_z w128 c.args.first.now.coeff)))) q
    ∙ ap (λ (z : ℤ). int_eq c.args.second.now.coeff (neg_ℤ z)) p)

pub returns-else-same : goal.returns-else-same
returns-else-same c = first_fails _ _ _ _ c.same.ensures.0 c.same.ensures.1 c.if-same.false
