-- Each point that solves rows with a box lies in the box.
use Rattle.std.specs.Prelude.{◌≡◌, ℕ, zero, suc, ◌<◌, ℤ, pos, negsuc, neg_ℤ, ◌+ℤ◌, ◌-ℤ◌, ◌*ℤ◌, ◌≤ℤ◌, ◌<ℤ◌, int_lt, List, [], ◌∷◌, map, length, Bool, true, false, cond, Option, Some, None, slice_index_or, refl}
use Rattle.std.proofs.Common.{inl, inr, ap, sym, ◌∙◌, subst, arith}
use Rattle.std.proofs.lemmas.Int.{ints}
use Rattle.std.proofs.lemmas.Bool.{and_parts}
use Rattle.std.proofs.lemmas.Option.{same_Some}
use Rattle.std.proofs.Math.IntN.{*ℤ_comm}
use Rattle.std.specs.Int.{int_min, int_max}
use Rattle.std.specs.List.{find, flat_map}
use Rattle.std.specs.Ordering.{is_eq}
use Rattle.std.specs.declared.cmp.Ordering.{Ordering}
use Rattle.std.specs.declared.cmp.Ordering.TheVariants.{Less, Equal, Greater}
use Rattle.mm_num.proofs.OptionLaws.{bind_some, test_some}
use Rattle.mm_num.proofs.TestLaws.{is_int}
use Rattle.mm_num.proofs.Ring.{minus_one}
use Rattle.mm_poly.specs.declared.term.Term.{Term}
use Rattle.mm_poly.specs.Mono.{mono_value}
use Rattle.mm_poly.specs.Poly.{value, constant_part, without_constant}
use Rattle.mm_poly.proofs.OrderLaws.{mono_exact}
use Rattle.mm_poly.proofs.CutLaws.{value_parts}
use Rattle.mm_poly.proofs.ValueLaws.{one_mul, sum_zero}
use Rattle.cert_kit.specs.declared.row.Op.{Op}
use Rattle.cert_kit.specs.declared.row.Op.TheVariants.{Ge, Eq}
use Rattle.cert_kit.specs.declared.row.PRow.{PRow}
use Rattle.cert_kit.specs.Row.{Compares, Solves, HasNoSolution, all_hold}
use Rattle.cert_kit.specs.Cut.{cut_of}
use Rattle.cert_kit.specs.Variables.{variables_of, place_of, point_over}
use Rattle.cert_kit.proofs.CutBackLaws.{cut_same}
use Rattle.cert_kit.proofs.SolvingLaws.{rows_tested}
use Rattle.cert_kit.proofs.VariableLaws.{rows_local, found, place_within, occurs_there}
use Rattle.box_enum.specs.Box.{Side, is_multiple_of, is_shifted, lower_by, upper_by, better, low_of, high_of, side_of, sides_of, box_of, points_of, integers_from, count_of, not_below_0, solved_by, first_point, AreBetween}
use Rattle.std.specs.Option.{option_map, option_or}
use Rattle.std.proofs.lemmas.List.Folds.{find-append}
use Rattle.box_enum.proofs.SearchLaws.{map_find}
use Rattle.box_enum.proofs.PointLaws.{IsPoint, first_in, sides_length, point_is}
use Rattle.box_enum.proofs.PlainLaws.{is_equal}

-- ---- what a row of one variable says of its value

single_value : (x : ℕ → ℤ) (v : ℕ) → mono_value x ((v, 1) ∷ []) ≡ x v
single_value x v = *ℤ_comm (x v *ℤ pos 1) (pos 1) ∙ one_mul (x v *ℤ pos 1) ∙ *ℤ_comm (x v) (pos 1) ∙ one_mul (x v)

multiple_value : (x : ℕ → ℤ) (v : ℕ) (c : ℤ) (ts : List Term) → is_multiple_of v c ts ≡ true → value x ts ≡ c *ℤ x v
multiple_value x v c [] h = absurd cc
multiple_value x v c (t ∷ u ∷ us) h = absurd cc
multiple_value x v c (t ∷ []) h =
    let p = and_parts _ _ h in
    let m : t.mono ≡ (v, 1) ∷ [] = mono_exact t.mono ((v, 1) ∷ []) (is_equal _ p.0) in
    sum_zero (t.coeff *ℤ mono_value x t.mono)
    ∙ ap (λ (k : List (ℕ × ℕ)). t.coeff *ℤ mono_value x k) m
    ∙ ap (λ z. t.coeff *ℤ z) (single_value x v)
    ∙ ap (λ k. k *ℤ x v) (is_int t.coeff c p.1)

shifted_value : (x : ℕ → ℤ) (v : ℕ) (c : ℤ) (p : List Term) → is_shifted v c p ≡ true → value x p ≡ c *ℤ x v +ℤ constant_part p
shifted_value x v c p h = value_parts x p ∙ ap (λ z. z +ℤ constant_part p) (multiple_value x v c (without_constant p) h)

up_value : (x : ℕ → ℤ) (v : ℕ) (p : List Term) → is_shifted v (pos 1) p ≡ true → value x p ≡ x v +ℤ constant_part p
up_value x v p h = shifted_value x v (pos 1) p h ∙ ap (λ z. z +ℤ constant_part p) (one_mul (x v))

down_value : (x : ℕ → ℤ) (v : ℕ) (p : List Term) → is_shifted v (negsuc 0) p ≡ true → value x p ≡ neg_ℤ (x v) +ℤ constant_part p
down_value x v p h = shifted_value x v (negsuc 0) p h ∙ ap (λ z. z +ℤ constant_part p) (minus_one (x v))

none_some : (z : ℤ) → None ≡ Some z → ⊥
none_some z e = cc

above : (x : ℕ → ℤ) (v : ℕ) (o : Op) (p : List Term) (z : ℤ) → Compares o (value x p) → lower_by v o p ≡ Some z → z ≤ℤ x v
above x v Ge p z h e = elim (test_some (is_shifted v (pos 1) p) _ _ z e) [
  | inl a ↦ let s : neg_ℤ (constant_part p) ≡ z = same_Some _ _ a.1 in let w = up_value x v p a.0 in omega (arith, ints, s, w, h)
  | inr a ↦ absurd (none_some z a.1)
]
above x v Eq p z h e = elim (test_some (is_shifted v (pos 1) p) _ _ z e) [
  | inl a ↦ let s : neg_ℤ (constant_part p) ≡ z = same_Some _ _ a.1 in let w = up_value x v p a.0 in omega (arith, ints, s, w, h)
  | inr a ↦ elim (test_some (is_shifted v (negsuc 0) p) _ _ z a.1) [
    | inl b ↦ let s : constant_part p ≡ z = same_Some _ _ b.1 in let w = down_value x v p b.0 in omega (arith, ints, s, w, h)
    | inr b ↦ absurd (none_some z b.1)
  ]
]

below : (x : ℕ → ℤ) (v : ℕ) (o : Op) (p : List Term) (z : ℤ) → Compares o (value x p) → upper_by v o p ≡ Some z → x v ≤ℤ z
below x v Ge p z h e = elim (test_some (is_shifted v (negsuc 0) p) _ _ z e) [
  | inl a ↦ let s : constant_part p ≡ z = same_Some _ _ a.1 in let w = down_value x v p a.0 in omega (arith, ints, s, w, h)
  | inr a ↦ absurd (none_some z a.1)
]
below x v Eq p z h e = elim (test_some (is_shifted v (negsuc 0) p) _ _ z e) [
  | inl a ↦ let s : constant_part p ≡ z = same_Some _ _ a.1 in let w = down_value x v p a.0 in omega (arith, ints, s, w, h)
  | inr a ↦ elim (test_some (is_shifted v (pos 1) p) _ _ z a.1) [
    | inl b ↦ let s : neg_ℤ (constant_part p) ≡ z = same_Some _ _ b.1 in let w = up_value x v p b.0 in omega (arith, ints, s, w, h)
    | inr b ↦ absurd (none_some z b.1)
  ]
]

-- ---- the better of two bounds

abbrev IsLow : ℤ → Option ℤ → Type 0
IsLow y o = (z : ℤ) → o ≡ Some z → z ≤ℤ y

abbrev IsHigh : ℤ → Option ℤ → Type 0
IsHigh y o = (z : ℤ) → o ≡ Some z → y ≤ℤ z

max_low : (y a b : ℤ) → a ≤ℤ y → b ≤ℤ y → int_max a b ≤ℤ y
max_low y a b h k = by_test (int_lt b a)
  where
    by_test : (t : Bool) → cond t a b ≤ℤ y
    by_test true = h
    by_test false = k

min_high : (y a b : ℤ) → y ≤ℤ a → y ≤ℤ b → y ≤ℤ int_min a b
min_high y a b h k = by_test (int_lt b a)
  where
    by_test : (t : Bool) → y ≤ℤ cond t b a
    by_test true = k
    by_test false = h

better_low : (y : ℤ) (a b : Option ℤ) → IsLow y a → IsLow y b → IsLow y (better int_max a b)
better_low y None b h k = k
better_low y (Some a) None h k = h
better_low y (Some a) (Some b) h k = λ z e. subst (λ w. w ≤ℤ y) (same_Some _ _ e) (max_low y a b (h a refl) (k b refl))

better_high : (y : ℤ) (a b : Option ℤ) → IsHigh y a → IsHigh y b → IsHigh y (better int_min a b)
better_high y None b h k = k
better_high y (Some a) None h k = h
better_high y (Some a) (Some b) h k = λ z e. subst (λ w. y ≤ℤ w) (same_Some _ _ e) (min_high y a b (h a refl) (k b refl))

low_is : (x : ℕ → ℤ) (v : ℕ) (rows : List PRow) → Solves x rows → IsLow (x v) (low_of v rows)
low_is x v [] s = λ z e. absurd (none_some z e)
low_is x v (r ∷ rows) s = better_low (x v) (lower_by v (cut_of r).op (cut_of r).poly) (low_of v rows)
    (λ z e. above x v (cut_of r).op (cut_of r).poly z ((cut_same x r).0 s.0) e) (low_is x v rows s.1)

high_is : (x : ℕ → ℤ) (v : ℕ) (rows : List PRow) → Solves x rows → IsHigh (x v) (high_of v rows)
high_is x v [] s = λ z e. absurd (none_some z e)
high_is x v (r ∷ rows) s = better_high (x v) (upper_by v (cut_of r).op (cut_of r).poly) (high_of v rows)
    (λ z e. below x v (cut_of r).op (cut_of r).poly z ((cut_same x r).0 s.0) e) (high_is x v rows s.1)

sides_between : (x : ℕ → ℤ) (rows : List PRow) (xs : List ℕ) (ss : List Side) → Solves x rows → sides_of rows xs ≡ Some ss → AreBetween x xs ss
sides_between x rows [] ss s e = tt
sides_between x rows (v ∷ xs) ss s e =
    let p = bind_some (side_of rows v) _ ss e in
    let q = bind_some (sides_of rows xs) _ ss p.2 in
    let l = bind_some (low_of v rows) _ p.0 p.1 in
    let h = bind_some (high_of v rows) _ p.0 l.2 in
    let low : l.0 ≤ℤ x v = low_is x v rows s l.0 l.1 in
    let high : x v ≤ℤ h.0 = high_is x v rows s h.0 h.1 in
    let both : (p.0.low ≤ℤ x v) × (x v ≤ℤ p.0.high) = subst (λ (t : Side). (t.low ≤ℤ x v) × (x v ≤ℤ t.high)) (same_Some _ _ h.2) (low, high) in
    subst (λ (ts : List Side). AreBetween x (v ∷ xs) ts) (same_Some _ _ q.2) (both.0, both.1, sides_between x rows xs q.0 s q.1)

pub within : (x : ℕ → ℤ) (rows : List PRow) (sides : List Side) → box_of rows ≡ Some sides → Solves x rows → AreBetween x (variables_of rows) sides
within x rows sides e s = sides_between x rows (variables_of rows) sides s e

pub first_solves : (rows : List PRow) (zs : List ℤ) → first_point rows ≡ Some zs → Solves (point_over (variables_of rows) zs) rows
first_solves rows zs e =
    let b = bind_some (box_of rows) _ zs e in
    (rows_tested (point_over (variables_of rows) zs) rows).0 (point_is rows b.0 zs b.1 e).1

-- ---- no point of the box is left out

between_point : (x : ℕ → ℤ) (vars : List ℕ) (ss : List Side) → length ss ≡ length vars → AreBetween x vars ss → IsPoint ss (map x vars)
between_point x [] [] e a = tt
between_point x [] (s ∷ ss) e a = absurd (omega arith)
between_point x (v ∷ vars) [] e a = absurd a
between_point x (v ∷ vars) (s ∷ ss) e a = (a.0, a.1, between_point x vars ss (omega arith) a.2)

none_first_part : (a b : Option (List ℤ)) → option_or a b ≡ None → a ≡ None
none_first_part None b e = refl
none_first_part (Some z) b e = absurd cc

none_second_part : (a b : Option (List ℤ)) → option_or a b ≡ None → b ≡ None
none_second_part None b e = e
none_second_part (Some z) b e = absurd cc

none_mapped : (z : ℤ) (o : Option (List ℤ)) → option_map (λ zs. z ∷ zs) o ≡ None → o ≡ None
none_mapped z None e = refl
none_mapped z (Some zs) e = absurd cc

none_among : (test : List ℤ → Bool) (f : ℤ → List (List ℤ)) (low z : ℤ) (n : ℕ) → low ≤ℤ z → z <ℤ (low +ℤ pos n) → find test (flat_map f (integers_from low n)) ≡ None → find test (f z) ≡ None
none_among test f low z zero h k e = absurd (omega (arith, ints, h, k))
none_among test f low z (suc n) h k e =
    let p : option_or (find test (f low)) (find test (flat_map f (integers_from (low +ℤ pos 1) n))) ≡ None = sym (find-append test (f low) (flat_map f (integers_from (low +ℤ pos 1) n))) ∙ e in
    by_place (int_lt low z) refl (λ l. none_among test f (low +ℤ pos 1) z n (omega (arith, ints, l)) (omega (arith, ints, k)) (none_second_part _ _ p))
    (λ q. subst (λ y. find test (f y) ≡ None) q (none_first_part _ _ p))
  where
    by_place : (b : Bool) → int_lt low z ≡ b → (low <ℤ z → find test (f z) ≡ None) → (low ≡ z → find test (f z) ≡ None) → find test (f z) ≡ None
    by_place true e g j = g (grind (arith, ints))
    by_place false e g j = j (let l : z ≤ℤ low = grind (arith, ints) in omega (arith, ints, h, l))

count_past : (low high z : ℤ) → low ≤ℤ z → z ≤ℤ high → z <ℤ (low +ℤ pos (not_below_0 ((high -ℤ low) +ℤ pos 1)))
count_past low high z h k = by_size ((high -ℤ low) +ℤ pos 1) refl
  where
    by_size : (n : ℤ) → (high -ℤ low) +ℤ pos 1 ≡ n → z <ℤ (low +ℤ pos (not_below_0 n))
    by_size (pos n) e = omega (arith, ints, e, h, k)
    by_size (negsuc n) e = absurd (omega (arith, ints, e, h, k))

none_here : (b : Bool) → cond {A = Option (List ℤ)} b (Some []) None ≡ None → b ≡ false
none_here true e = absurd cc
none_here false e = refl

none_at_point : (ss : List Side) (zs : List ℤ) (test : List ℤ → Bool) → IsPoint ss zs → find test (points_of ss) ≡ None → test zs ≡ false
none_at_point [] [] test p e = none_here (test []) e
none_at_point [] (z ∷ zs) test p e = absurd p
none_at_point (s ∷ ss) [] test p e = absurd p
none_at_point (s ∷ ss) (z ∷ zs) test p e =
    let one : find test (map (λ ys. z ∷ ys) (points_of ss)) ≡ None = none_among test (λ v. map (λ ys. v ∷ ys) (points_of ss)) s.low z (count_of s) p.0 (count_past s.low s.high z p.0 p.1) e in
    none_at_point ss zs (λ ys. test (z ∷ ys)) p.2 (none_mapped z _ (sym (map_find z test (points_of ss)) ∙ one))

mapped_at : (x : ℕ → ℤ) (vars : List ℕ) (n : ℕ) → n < length vars → slice_index_or (map x vars) n (pos 0) ≡ x (slice_index_or vars n 0)
mapped_at x [] n h = absurd (omega arith)
mapped_at x (v ∷ vars) zero h = refl
mapped_at x (v ∷ vars) (suc n) h = mapped_at x vars n (omega arith)

seen_over : (x : ℕ → ℤ) (rows : List PRow) → all_hold (point_over (variables_of rows) (map x (variables_of rows))) rows ≡ all_hold x rows
seen_over x rows = rows_local (point_over (variables_of rows) (map x (variables_of rows))) x rows (λ v h.
    let o = occurs_there v rows h in
    mapped_at x (variables_of rows) (place_of (variables_of rows) v) (place_within v (variables_of rows) o) ∙ ap x (found v (variables_of rows) o))

pub no_solution : (rows : List PRow) (sides : List Side) → box_of rows ≡ Some sides → first_point rows ≡ None → HasNoSolution rows
no_solution rows sides e n x s =
    let p : IsPoint sides (map x (variables_of rows)) = between_point x (variables_of rows) sides (sides_length rows (variables_of rows) sides e) (within x rows sides e s) in
    let f : solved_by rows (map x (variables_of rows)) ≡ false = none_at_point sides (map x (variables_of rows)) (solved_by rows) p (sym (first_in rows sides e) ∙ n) in
    let t : solved_by rows (map x (variables_of rows)) ≡ true = seen_over x rows ∙ (rows_tested x rows).1 s in
    cc
