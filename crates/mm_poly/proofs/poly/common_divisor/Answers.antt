use Rattle.std.proofs.Common.{◌≡◌, pos, drop, ap, sym, arith}
use Rattle.std.proofs.lemmas.Int.{ints}
use Rattle.mm_poly.specs.Poly.{content}
use Rattle.mm_poly.proofs.ContentLaws.{coeff_small, content_one}
use Rattle.mm_poly.proofs.poly.common_divisor.Goals as goal

-- the content of the terms from here on is 1
one : (c : goal.Then-divisor-eq1) → content c.args.terms.now ≡ 1
one c =
    let e : content (drop c.loop-n.n c.args.terms.now) ≡ 1 = omega (arith, ints, c.loop-n.invariant.0, c.if-divisor-eq1.true) in
    content_one c.args.terms.now c.loop-n.n e

pub returns-then-divisor-eq1-clause-value : goal.returns-then-divisor-eq1-clause-value
returns-then-divisor-eq1-clause-value c = ap pos (sym (one c))

pub returns-then-divisor-eq1-clause-small : goal.returns-then-divisor-eq1-clause-small
returns-then-divisor-eq1-clause-small c = let e = one c in omega arith

pub gcd-divisor-requires-clause-a : goal.gcd-divisor-requires-clause-a
gcd-divisor-requires-clause-a c = coeff_small _ _ _ (omega arith) c.index-terms-n.is c.requires
