use Rattle.std.proofs.Common.{◌≡◌, ◌<◌, length, slice_index_or, to_z, of_z, refl, sym, ◌∙◌, ap, subst, arith}
use Rattle.mm_poly.specs.Insertion.{place, added}
use Rattle.std.proofs.lemmas.Int.{ints}
use Rattle.std.specs.Int.{w128}
use Rattle.std.specs.List.{insert}
use Rattle.mm_poly.specs.declared.term.Term.{Term}
use Rattle.mm_poly.specs.Poly.{add_term}
use Rattle.mm_poly.proofs.InsertionLaws.{at_new, at_same}
use Rattle.mm_poly.proofs.insert.put.Goals.{else-n-len-via-then-n-len+else-same, else-n-len-via-else-n-len}
use Rattle.mm_poly.proofs.insert.put.Goals as goal

pub returns-then-same : goal.returns-then-same
returns-then-same c =
    let us = c.args.terms.now.items in
    let t = c.args.term in
    let d = c.index.result.now in
    let e : c.place_of-n.result ≡ place t.mono us = c.place_of-n.ensures.place ∙ ap (place t.mono) c.deref.ensures.value in
    let here : (slice_index_or us c.place_of-n.result d).mono ≡ t.mono = ap (λ (r : Term). r.mono) (sym c.index.ensures) ∙ c.if-same.ensures.0 refl in
    let low : c.place_of-n.result < length us = omega (arith, c.if-n-len.true) in
    let whole : to_z w128 (of_z w128 t.coeff) ≡ t.coeff = omega (arith, ints, c.requires.small) in
    c.add_at.ensures
    ∙ ap (λ a. added a c.place_of-n.result us) whole
    ∙ subst (λ n. added t.coeff n us ≡ add_term t us) (sym e)
    (at_same t us d (subst (λ n. n < length us) e low) (subst (λ n. (slice_index_or us n d).mono ≡ t.mono) e here))

pub returns-in_ok-insert : goal.returns-in_ok-insert
returns-in_ok-insert c =
    let us = c.args.terms.now.items in
    let t = c.args.term in
    let e : c.place_of-n.result ≡ place t.mono us = c.place_of-n.ensures.place ∙ ap (place t.mono) c.deref.ensures.value in
    c.in_ok-insert.ensures.items
    ∙ subst (λ n. insert us n t ≡ add_term t us) (sym e)
    (elim c.else-n-len.branch as (λ _. insert us (place t.mono us) t ≡ add_term t us) [
      | else-n-len-via-then-n-len+else-same w ↦ at_new t us w.index.result.now
          (λ l same. let k = w.if-same.ensures.1 (ap (λ (r : Term). r.mono) w.index.ensures ∙ subst (λ n. (slice_index_or us n w.index.result.now).mono ≡ t.mono) (sym e) same) in cc)
      | else-n-len-via-else-n-len w ↦ at_new t us t (λ l same. absurd (omega (arith, e, l, w.if-n-len)))
    ])
