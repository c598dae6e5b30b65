use Rattle.std.proofs.Common.{◌≡◌, ◌^◌, true, false, refl, sym, subst}
use Rattle.std.specs.Bool.{OnTrue}
use Rattle.mm_poly.specs.Mono.{IsMonomial, VarsBelow}
use Rattle.mm_poly.specs.Tests.{rises}
use Rattle.mm_poly.proofs.TestLaws.{monomial_if, monomial_then}
use Rattle.mm_poly.proofs.mono.Mono.from_factors.Goals as goal

pub invariant_of-result : goal.invariant_of-result
invariant_of-result c =
    let e : rises 0 c.args.factors.items ≡ true = cc (c.as_slice.ensures, c.is_monomial.ensures.value, c.if-is_monomial.true) in
    let v : OnTrue true (VarsBelow (2 ^ 32) c.as_slice.result.now) = subst (λ b. OnTrue b (VarsBelow (2 ^ 32) c.as_slice.result.now)) c.if-is_monomial.true c.is_monomial.ensures.room in
    subst (λ fs. IsMonomial fs) (sym c.shrink_to_fit.ensures.items) (monomial_if c.args.factors.items e (subst (λ fs. VarsBelow (2 ^ 32) fs) c.as_slice.ensures v))

pub returns-then-is_monomial-clause-some : goal.returns-then-is_monomial-clause-some
returns-then-is_monomial-clause-some c =
    let e : rises 0 c.args.factors.items ≡ true = cc (c.as_slice.ensures, c.is_monomial.ensures.value, c.if-is_monomial.true) in
    let v : OnTrue true (VarsBelow (2 ^ 32) c.as_slice.result.now) = subst (λ b. OnTrue b (VarsBelow (2 ^ 32) c.as_slice.result.now)) c.if-is_monomial.true c.is_monomial.ensures.room in
    (λ h. monomial_if c.args.factors.items e (subst (λ fs. VarsBelow (2 ^ 32) fs) c.as_slice.ensures v), λ h. refl)

pub returns-else-is_monomial-clause-some : goal.returns-else-is_monomial-clause-some
returns-else-is_monomial-clause-some c =
    let e : rises 0 c.args.factors.items ≡ false = cc (c.as_slice.ensures, c.is_monomial.ensures.value, c.if-is_monomial.false) in
    (λ h. cc, λ m. let k = monomial_then c.args.factors.items m in cc)
