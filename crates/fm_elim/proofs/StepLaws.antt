-- Tidying and each rule, as their results say it.
use Rattle.std.specs.Prelude.{◌≡◌, ◌↔◌, ◌⊎◌, ◌<◌, ℕ, ℤ, pos, ◌+ℤ◌, ◌*ℤ◌, ◌≤ℤ◌, neg_ℤ, List, [], Result, Ok, Err, refl}
use Rattle.std.proofs.Common.{ap, sym, ◌∙◌, subst, arith}
use Rattle.std.proofs.lemmas.Int.{ints}
use Rattle.std.specs.List.{remove}
use Rattle.mm_num.specs.Quotient.{floor_by}
use Rattle.mm_num.proofs.Ring.{dist, swap, mul_neg}
use Rattle.mm_poly.specs.Mono.{mono_value}
use Rattle.mm_poly.proofs.LinearLaws.{at_point}
use Rattle.cert_kit.specs.declared.row.PRow.{PRow}
use Rattle.cert_kit.specs.Row.{Compares, Holds, Solves, HasNoSolution}
use Rattle.fm_elim.specs.declared.rule.Rule.TheVariants.{Solve, Halve}
use Rattle.fm_elim.specs.Tidy.{End, Contra, tidied, kept_after, cuts}
use Rattle.fm_elim.specs.Steps.{rule_of, poly_at, solved, halved, eliminated}
use Rattle.fm_elim.specs.Points.{HoldsBy}
use Rattle.fm_elim.proofs.ListLaws.{all_with}
use Rattle.fm_elim.proofs.TidyLaws.{Allows, tidied_allows, by_tidied, tidy_back}
use Rattle.fm_elim.proofs.RuleLaws.{Applies, rule_applies}
use Rattle.fm_elim.proofs.ContraLaws.{solved_allows, halved_holds, eliminated_allows}
use Rattle.fm_elim.proofs.ShadowLaws.{allows_both, lower_holds, upper_holds, times_at}

abbrev same_result : Result (List PRow) End → Result (List PRow) End → Type 0
same_result r s = r ≡ s

rows_are : (rows kept : List PRow) → same_result (Ok rows) (Ok kept) → rows ≡ kept
rows_are rows kept e = cc

back : (x : ℕ → ℤ) (rows kept : List PRow) → tidied rows ≡ Ok kept → Solves x kept → Solves x rows
back x rows kept e s = by_tidied rows (λ res. res ≡ Ok kept → Solves x rows) (λ f q. absurd cc) (λ q. absurd cc)
    (λ f q. all_with (HoldsBy (mono_value x)) (Holds x) rows (λ r h. subst (Compares r.op) (sym (at_point x r.poly)) h)
    (tidy_back (mono_value x) rows refl f
    (all_with (Holds x) (HoldsBy (mono_value x)) (kept_after (cuts rows) []) (λ r h. subst (Compares r.op) (at_point x r.poly) h)
    (subst (Solves x) (sym (rows_are (kept_after (cuts rows) []) kept q)) s)))) e

pub tidied_same : (x : ℕ → ℤ) (rows kept : List PRow) → tidied rows ≡ Ok kept → Solves x rows ↔ Solves x kept
tidied_same x rows kept e = (λ s. subst (Allows x) e (tidied_allows x rows s), back x rows kept e)

pub tidied_contra : (rows : List PRow) → tidied rows ≡ Err Contra → HasNoSolution rows
tidied_contra rows e x s = subst (Allows x) e (tidied_allows x rows s)

pub solved_keeps : (x : ℕ → ℤ) (rows after : List PRow) (k : ℕ) (u : List (ℕ × ℕ)) → rule_of rows ≡ Solve k u → solved u (poly_at k rows) (remove rows k) ≡ Ok after
    → Solves x rows → Solves x after
solved_keeps x rows after k u e f s = subst (Allows x) f (solved_allows x rows k u (subst (Applies rows) e (rule_applies rows)) s)

pub halved_keeps : (x : ℕ → ℤ) (rows : List PRow) (k : ℕ) → rule_of rows ≡ Halve k → Solves x rows → Solves x (halved k rows)
halved_keeps x rows k e s = halved_holds x rows k (subst (Applies rows) e (rule_applies rows)) s

pub eliminated_keeps : (x : ℕ → ℤ) (rows after : List PRow) (u : List (ℕ × ℕ)) → eliminated u rows ≡ Ok after → Solves x rows → Solves x after
eliminated_keeps x rows after u f s = subst (Allows x) f (eliminated_allows x u rows s)

-- a whole number between two bounds

between : (a b : ℕ) (k m : ℤ) → 0 < a → 0 < b → (a ≡ 1) ⊎ (b ≡ 1) → pos 0 ≤ℤ (pos b *ℤ k +ℤ pos a *ℤ m)
    → (z : ℤ) × (pos 0 ≤ℤ (pos a *ℤ z +ℤ k)) × (pos 0 ≤ℤ (neg_ℤ (pos b *ℤ z) +ℤ m))
between a b k m h i o l =
    let most : floor_by m b ≤ℤ floor_by m b = omega (arith, ints) in
    (floor_by m b, lower_holds a k (floor_by m b) h (allows_both a b k m h i o l), upper_holds b m (floor_by m b) i most)

sum_of_both : (s p q : ℤ) → pos 0 ≤ℤ (s +ℤ p) → pos 0 ≤ℤ (neg_ℤ s +ℤ q) → pos 0 ≤ℤ (p +ℤ q)
sum_of_both s p q h k = omega (arith, ints)

room : (a b : ℕ) (k m z : ℤ) → pos 0 ≤ℤ (pos a *ℤ z +ℤ k) → pos 0 ≤ℤ (neg_ℤ (pos b *ℤ z) +ℤ m) → pos 0 ≤ℤ (pos b *ℤ k +ℤ pos a *ℤ m)
room a b k m z h l =
    let p = times_at b (pos a *ℤ z +ℤ k) h in
    let q = times_at a (neg_ℤ (pos b *ℤ z) +ℤ m) l in
    let first = subst (λ y. pos 0 ≤ℤ y) (dist (pos b) (pos a *ℤ z) k) p in
    let second = subst (λ y. pos 0 ≤ℤ y)
    (dist (pos a) (neg_ℤ (pos b *ℤ z)) m ∙ ap (λ y. y +ℤ pos a *ℤ m) (mul_neg (pos a) (pos b *ℤ z) ∙ ap neg_ℤ (swap (pos a) (pos b) z))) q in
    sum_of_both (pos b *ℤ (pos a *ℤ z)) (pos b *ℤ k) (pos a *ℤ m) first second

pub shadow_exact : (a b : ℕ) (k m : ℤ) → 0 < a → 0 < b → (a ≡ 1) ⊎ (b ≡ 1)
    → (pos 0 ≤ℤ (pos b *ℤ k +ℤ pos a *ℤ m)) ↔ ((z : ℤ) × (pos 0 ≤ℤ (pos a *ℤ z +ℤ k)) × (pos 0 ≤ℤ (neg_ℤ (pos b *ℤ z) +ℤ m)))
shadow_exact a b k m h i o = (between a b k m h i o, λ e. room a b k m e.0 e.1 e.2)
