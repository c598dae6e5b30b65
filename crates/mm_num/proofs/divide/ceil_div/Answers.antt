use Rattle.std.proofs.Common.{◌≡◌, pos, to_z, of_z, arith, ap, ◌∙◌, neg_ℤ, ◌-ℤ◌}
use Rattle.std.proofs.lemmas.Int.{ints}
use Rattle.std.specs.Int.{w128}
use Rattle.mm_num.specs.Quotient.{floor_quotient}
use Rattle.mm_num.proofs.QuotientLaws.{ceiling_is}
use Rattle.mm_num.proofs.divide.ceil_div.Goals as goal

floor_of_negated : (c : goal.After-rounded_down) → c.rounded_down.result ≡ floor_quotient (neg_ℤ c.args.a) c.args.b
floor_of_negated c =
    let a : to_z w128 (of_z w128 (pos 0 -ℤ to_z w128 (of_z w128 c.args.a))) ≡ neg_ℤ c.args.a = omega (arith, ints) in
    let b : to_z w128 (of_z w128 c.args.b) ≡ c.args.b = omega (arith, ints) in
    c.rounded_down.ensures.value
    ∙ ap (λ n. floor_quotient n (to_z w128 (of_z w128 c.args.b))) a ∙ ap (λ d. floor_quotient (neg_ℤ c.args.a) d) b

negated : (c : goal.After-rounded_down)
    → to_z w128 (of_z w128 (pos 0 -ℤ to_z w128 (of_z w128 c.rounded_down.result))) ≡ neg_ℤ c.rounded_down.result
negated c = omega (arith, ints)

pub returns-clause-ceiling : goal.returns-clause-ceiling
returns-clause-ceiling c = rw (negated c) (ceiling_is _ _ _ c.requires.positive (floor_of_negated c))

pub returns-clause-value : goal.returns-clause-value
returns-clause-value c = negated c ∙ ap neg_ℤ (floor_of_negated c)
