-- The values of a tame point are small.
use Rattle.std.specs.Prelude.{◌≡◌, ◌⊎◌, ℕ, ◌+◌, ◌*◌, ◌^◌, ◌<◌, ◌≤◌, max, unsigned_abs, List, [], ◌∷◌, map, Bool, true, false, cond, refl}
use Rattle.std.specs.List.{AllByRecursion}
use Rattle.std.specs.Ordering.{is_eq}
use Rattle.std.proofs.Common.{arith, inl, inr}
use Rattle.std.proofs.lemmas.Int.{ints}
use Rattle.mm_num.specs.Small.{IsSmall}
use Rattle.mm_poly.specs.declared.term.Term.{Term}
use Rattle.mm_poly.specs.Mono.{mono_cmp}
use Rattle.mm_poly.specs.Poly.{norm, coeff_of, Fits}
use Rattle.cert_kit.specs.declared.row.PRow.{PRow}
use Rattle.fm_elim.specs.declared.removal.Removal.{Removal}
use Rattle.fm_elim.specs.declared.removal.Removal.TheVariants.{Solved, Bounded}
use Rattle.fm_elim.specs.Unknowns.{unknowns}
use Rattle.fm_elim.specs.Elimination.{outcome}
use Rattle.fm_elim.specs.Points.{no_values, value_after, values_of, greatest_value, point_of, IsTame, AreRows}
use Rattle.fm_elim.specs.machine.Giving.{IsBound, IsRemoval}
use Rattle.fm_elim.proofs.ListLaws.{all_with}
use Rattle.fm_elim.proofs.TidyLaws.{IsPolyRow}
use Rattle.fm_elim.proofs.RemovalLaws.{removals_are}

coeff_norm : (ts : List Term) (m : List (ℕ × ℕ)) → unsigned_abs (coeff_of ts m) ≤ norm ts
coeff_norm [] m = omega (arith, ints)
coeff_norm (t ∷ ts) m = by_first (is_eq (mono_cmp t.mono m)) (coeff_norm ts m)
  where
    by_first : (b : Bool) → unsigned_abs (coeff_of ts m) ≤ norm ts → unsigned_abs (cond b t.coeff (coeff_of ts m)) ≤ unsigned_abs t.coeff + norm ts
    by_first true h = omega arith
    by_first false h = omega arith

bound_norm : (n : ℕ) (u : List (ℕ × ℕ)) (r : PRow) → IsBound n u r → 1 ≤ n
bound_norm n u r b = omega (arith, b.there, b.within, coeff_norm r.poly u)

-- no value is other than 0, or the norms are at least 1
one_norm : (n : ℕ) (removed : List Removal) → AllByRecursion (IsRemoval n) removed → (greatest_value removed ≡ 0) ⊎ (1 ≤ n)
one_norm n [] a = inl refl
one_norm n (Solved u p ∷ later) a = inr (omega (arith, a.0.0, a.0.1, coeff_norm p u))
one_norm n (Bounded u (l ∷ ls) hs ∷ later) a = inr (bound_norm n u l a.0.0.0)
one_norm n (Bounded u [] (h ∷ hs) ∷ later) a = inr (bound_norm n u h a.0.1.0)
one_norm n (Bounded u [] [] ∷ later) a = elim (one_norm n later a.1) [
  | inl e ↦ inl (omega (arith, e))
  | inr l ↦ inr l
]

none_within : (m : List (ℕ × ℕ)) → unsigned_abs (no_values m) ≤ 1
none_within [] = omega (arith, ints)
none_within (f ∷ fs) = omega (arith, ints)

value_within : (removed : List Removal) (m : List (ℕ × ℕ)) → unsigned_abs (values_of removed m) ≤ 1 + greatest_value removed
value_within [] m = let n = none_within m in omega arith
value_within (r ∷ later) m = by_here (is_eq (mono_cmp m _)) (value_within later m)
  where
    by_here : (b : Bool) → unsigned_abs (values_of later m) ≤ 1 + greatest_value later
        → unsigned_abs (cond b (value_after (values_of later) r) (values_of later m)) ≤ 1 + max (unsigned_abs (value_after (values_of later) r)) (greatest_value later)
    by_here true h = omega arith
    by_here false h = omega arith

greatest_small : (n g : ℕ) → (g ≡ 0) ⊎ (1 ≤ n) → n * (1 + g) < 2 ^ 126 → 1 + g < 2 ^ 126
greatest_small n g (inl e) t = omega arith
greatest_small n g (inr l) t = let m : 1 + g ≤ n * (1 + g) = at_least_once n (1 + g) l in omega arith
  where
    at_least_once : (n k : ℕ) → 1 ≤ n → k ≤ n * k
    at_least_once n k l = grind arith

each_small : (removed : List Removal) (us : List (List (ℕ × ℕ))) → 1 + greatest_value removed < 2 ^ 126 → AllByRecursion IsSmall (map (values_of removed) us)
each_small removed [] h = tt
each_small removed (u ∷ us) h = (let v = value_within removed u in omega arith, each_small removed us h)

pub point_small : (rows : List PRow) → AreRows rows → IsTame rows → AllByRecursion IsSmall (point_of rows)
point_small rows a t =
    let polys = all_with (λ (r : PRow). Fits r.poly) IsPolyRow rows (λ r h. h.order) a in
    let o = outcome rows in
    each_small o.removed (unknowns rows) (greatest_small o.norm (greatest_value o.removed) (one_norm o.norm o.removed (removals_are rows polys)) t)
