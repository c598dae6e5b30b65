use Rattle.std.proofs.Common.{◌^◌, ◌<◌, ◌≤◌, List, [], sym, subst, ◌∙◌, ap, arith}
use Rattle.mm_poly.specs.declared.term.Term.{Term}
use Rattle.mm_poly.specs.Mono.{IsMonomial}
use Rattle.mm_poly.specs.Poly.{norm, spread, plus, EachMono, Fits}
use Rattle.mm_poly.specs.Product.{AllNonZero}
use Rattle.mm_poly.proofs.JoinedLaws.{nonzero_are, norm_nonzero, fits_joined}
use Rattle.mm_poly.proofs.poly.Poly.joined.Goals as goal

pub join-requires-clause-nonzero : goal.join-requires-clause-nonzero
join-requires-clause-nonzero c = subst (λ ts. AllNonZero ts) (sym c.without_zeros.ensures) (nonzero_are c.args.terms.items)

pub join-requires-clause-small : goal.join-requires-clause-small
join-requires-clause-small c =
    let n : norm c.args.terms.items < 2 ^ 126 = subst (λ ts. norm ts < 2 ^ 126) c.deref.ensures.value (c.is_small.ensures.0 c.if-not-is_small.false) in
    omega (arith, ap (λ (ts : List Term). norm ts) c.without_zeros.ensures, norm_nonzero c.args.terms.items)

pub invariant_of-result : goal.invariant_of-result
invariant_of-result c =
    let n : norm c.args.terms.items < 2 ^ 126 = subst (λ ts. norm ts < 2 ^ 126) c.deref.ensures.value (c.is_small.ensures.0 c.if-not-is_small.false) in
    let s : spread c.args.terms.items ≤ 65536 = omega arith in
    let a : EachMono IsMonomial c.args.terms.items = subst (λ ts. EachMono IsMonomial ts) c.deref-2.ensures.value c.have_monomials.ensures in
    let e = c.in_ok-terms.ensures ∙ ap (λ (ts : List Term). plus ts []) c.without_zeros.ensures in
    subst (λ ts. Fits ts) (sym e) (fits_joined c.args.terms.items a n s)
