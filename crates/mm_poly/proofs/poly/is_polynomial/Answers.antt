use Rattle.std.proofs.Common.{sym, ◌∙◌, subst, leb-true, arith}
use Rattle.std.specs.Bool.{OnTrue}
use Rattle.mm_poly.specs.Mono.{IsMonomial}
use Rattle.mm_poly.specs.Poly.{EachMono}
use Rattle.mm_num.proofs.BoolLaws.{never}
use Rattle.mm_poly.proofs.TestLaws.{fits_if, poly_then}
use Rattle.mm_poly.proofs.poly.is_polynomial.Goals as goal
use Rattle.mm_poly.proofs.poly.is_polynomial.Goals.{then-terms, else-terms}

pub returns-then-is_ordered : goal.returns-then-is_ordered
returns-then-is_ordered c = elim c.if-terms.branch [
  | then-terms w ↦
      let yes = sym w.value-is ∙ c.if-is_ordered.true in
      let each = subst (λ b. OnTrue b (EachMono IsMonomial c.args.terms.now)) yes w.is_ordered.ensures.monos in
      (λ s. fits_if c.args.terms.now (omega arith) (sym w.is_ordered.ensures.value ∙ yes) each (c.is_small.ensures.0 s), λ f. c.is_small.ensures.1 f.norm)
  | else-terms w ↦ absurd (let few = leb-true _ _ (sym w.value-is ∙ c.if-is_ordered.true) in omega arith)
]

pub returns-else-is_ordered : goal.returns-else-is_ordered
returns-else-is_ordered c = elim c.if-terms.branch [
  | then-terms w ↦ (
    λ s. absurd (never (sym c.if-is_ordered.false ∙ s)),
    λ f. absurd (never (sym c.if-is_ordered.false ∙ w.value-is ∙ w.is_ordered.ensures.value ∙ poly_then c.args.terms.now f.order)),
  )
  | else-terms w ↦ (λ s. absurd (never (sym c.if-is_ordered.false ∙ s)), λ f. absurd (omega (arith, f.spread)))
]
