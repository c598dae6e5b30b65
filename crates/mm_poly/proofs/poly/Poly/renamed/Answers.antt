use Rattle.std.proofs.Common.{List, sym, subst, ◌∙◌, ap}
use Rattle.mm_poly.specs.declared.term.Term.{Term}
use Rattle.mm_poly.specs.Mono.{IsMonomial}
use Rattle.mm_poly.specs.Poly.{EachMono, Fits}
use Rattle.mm_poly.specs.Renaming.{by_table, renamed_terms}
use Rattle.mm_poly.proofs.RenamingLaws.{renamed_nonzero, renamed_small, renamed_fits}
use Rattle.mm_poly.proofs.poly.Poly.renamed.Goals as goal

pub join-requires-clause-nonzero : goal.join-requires-clause-nonzero
join-requires-clause-nonzero c =
    let e = c.in_ok-terms.ensures ∙ ap (λ (ts : List Term). renamed_terms (by_table c.args.table.now) ts) c.deref.ensures.value in
    renamed_nonzero (by_table c.args.table.now) c.self.inside.terms.items _ e c.self.invariant

pub join-requires-clause-small : goal.join-requires-clause-small
join-requires-clause-small c =
    let e = c.in_ok-terms.ensures ∙ ap (λ (ts : List Term). renamed_terms (by_table c.args.table.now) ts) c.deref.ensures.value in
    renamed_small (by_table c.args.table.now) c.self.inside.terms.items _ e c.self.invariant

pub invariant_of-result : goal.invariant_of-result
invariant_of-result c =
    let e = c.in_ok-terms.ensures ∙ ap (λ (ts : List Term). renamed_terms (by_table c.args.table.now) ts) c.deref.ensures.value in
    let each = subst (λ ts. EachMono IsMonomial ts) c.deref-2.ensures.value c.have_monomials.ensures in
    subst (λ ts. Fits ts) (sym c.in_ok-terms-2.ensures) (renamed_fits (by_table c.args.table.now) c.self.inside.terms.items _ e c.self.invariant each)
