use Rattle.std.proofs.Common.{◌≡◌, ℕ, ℤ, pos, to_z, of_z, unsigned_abs, arith, ap, sym, ◌∙◌, subst}
use Rattle.std.proofs.lemmas.Int.{ints}
use Rattle.std.specs.Int.{IsGcd, w128}
use Rattle.mm_num.proofs.DivisorLaws.{gcd_is}
use Rattle.mm_num.proofs.divisor.gcd.Goals as goal

natural : (c : goal.After-natural_gcd) → to_z w128 c.natural_gcd.result ≡ pos c.natural_gcd.result
natural c = omega (arith, ints)

divisor : (c : goal.After-natural_gcd) → IsGcd (unsigned_abs c.args.a) (unsigned_abs c.args.b) c.natural_gcd.result
divisor c =
    let a : to_z w128 (of_z w128 c.args.a) ≡ c.args.a = omega (arith, ints) in
    let b : to_z w128 (of_z w128 c.args.b) ≡ c.args.b = omega (arith, ints) in
    subst (λ (n : ℕ). IsGcd (unsigned_abs c.args.a) n c.natural_gcd.result) (c.unsigned_abs-2.ensures.value ∙ ap unsigned_abs b)
    (subst (λ (n : ℕ). IsGcd n c.unsigned_abs-2.result c.natural_gcd.result) (c.unsigned_abs.ensures.value ∙ ap unsigned_abs a)
    c.natural_gcd.ensures.divisor)

pub returns-clause-divisor : goal.returns-clause-divisor
returns-clause-divisor c =
    subst (λ (z : ℤ). IsGcd (unsigned_abs c.args.a) (unsigned_abs c.args.b) (unsigned_abs z)) (sym (natural c)) (divisor c)

pub returns-clause-value : goal.returns-clause-value
returns-clause-value c = natural c ∙ ap pos (sym (gcd_is _ _ _ (divisor c)))
