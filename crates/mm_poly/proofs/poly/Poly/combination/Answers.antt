use Rattle.std.proofs.Common.{◌≡◌, ◌+◌, ◌≤◌, List, unsigned_abs, sym, subst, ◌∙◌, ap, arith}
use Rattle.std.proofs.lemmas.Int.{to_z-of_z}
use Rattle.std.proofs.lemmas.Grind.{common_steps}
use Rattle.mm_poly.specs.declared.term.Term.{Term}
use Rattle.mm_poly.specs.Poly.{norm, spread, plus, scaled, Fits}
use Rattle.mm_poly.proofs.CombinationSteps.{combined_as}
use Rattle.mm_poly.proofs.JoinedLaws.{fits_combination, small_as}
use Rattle.mm_poly.proofs.poly.Poly.combination.Goals as goal

pub invariant_of-result : goal.invariant_of-result
invariant_of-result c =
    let p = c.self.inside.terms.items in
    let q = c.other.inside.terms.items in
    let e = c.in_ok-terms.ensures
    ∙ combined_as _ _ _ _ _ _ (to_z-of_z _ _ c.ranges.times) (to_z-of_z _ _ c.ranges.other_times)
    ∙ ap (λ (ts : List Term). plus (scaled c.args.times ts) (scaled c.args.other_times c.deref-4.result.now)) c.deref-3.ensures.value
    ∙ ap (λ (ts : List Term). plus (scaled c.args.times p) (scaled c.args.other_times ts)) c.deref-4.ensures.value in
    let m : c.sum_of_magnitudes.result ≡ norm p = cc (c.sum_of_magnitudes.ensures, c.deref.ensures.value) in
    let k : c.sum_of_magnitudes-2.result ≡ norm q = cc (c.sum_of_magnitudes-2.ensures, c.deref-2.ensures.value) in
    let u = c.unsigned_abs.ensures.value ∙ ap unsigned_abs (to_z-of_z _ _ c.ranges.times) in
    let v = c.unsigned_abs-2.ensures.value ∙ ap unsigned_abs (to_z-of_z _ _ c.ranges.other_times) in
    let n = small_as _ _ _ _ _ _ _ _ m u k v (c.is_small_combination.ensures.0 c.if-not-is_small_combination.false) in
    let s : spread p + spread q ≤ 65536 = grind (arith, common_steps) in
    subst (λ ts. Fits ts) (sym e) (fits_combination c.args.times c.args.other_times p q c.self.invariant c.other.invariant n s)
