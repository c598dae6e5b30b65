-- The rows' own equations are the form of the basis of all slacks.
use Rattle.std.specs.Prelude.{◌≡◌, ◌≢◌, ℕ, zero, suc, ◌==◌, ◌+◌, ◌-◌, ◌<◌, ◌≤◌, List, [], ◌∷◌, ◌++◌, length, drop, ℤ, pos, negsuc, ◌+ℤ◌, ◌-ℤ◌, ◌*ℤ◌, neg_ℤ, unsigned_abs, refl}
use Rattle.std.proofs.Common.{ap, sym, ◌∙◌, subst, inl, inr, arith, length-append}
use Rattle.std.proofs.lemmas.Int.{ints}
use Rattle.std.proofs.lemmas.List.{get_or_append_left, get_or-append-add, drop_more, drop_all}
use Rattle.std.specs.List.{AllByRecursion}
use Rattle.std.specs.Int.{◌∣◌}
use Rattle.std.proofs.Math.Nat.{eq-one_of_dvd-one}
use Rattle.std.proofs.Math.IntN.{*ℤ_comm}
use Rattle.mm_num.proofs.Ring.{neg_mul, mul_zero}
use Rattle.simplex_core.specs.declared.row.LinRow.{LinRow}
use Rattle.simplex_core.specs.Rows.{dot, row_value, AreWide}
use Rattle.simplex_core.specs.Form.{at, Among, Distinct, Follows, basis_of, Vanish, IsLine, IsForm}
use Rattle.simplex_core.specs.Walk.{numbers_from}
use Rattle.simplex_core.specs.machine.Tableau.{negated, zeros, mark, first_line, first_lines}
use Rattle.simplex_core.proofs.DotLaws.{length-negated, dot-negated, from, dot-append}
use Rattle.simplex_core.proofs.ContentLaws.{divides_at}
use Rattle.simplex_core.proofs.ExchangeLaws.{same_or_not, other_test}
use mir.Val.{bool_byte}
use Rattle.mm_num.proofs.TestLaws.{number_test}

pub length-zeros : (m : ℕ) → length (zeros m) ≡ m
length-zeros zero = refl
length-zeros (suc m) = ap suc (length-zeros m)

pub at-zeros : (m j : ℕ) → at (zeros m) j ≡ pos 0
at-zeros zero j = refl
at-zeros (suc m) zero = refl
at-zeros (suc m) (suc j) = at-zeros m j

dot-zeros : (m : ℕ) (v : ℕ → ℤ) → dot v (zeros m) ≡ pos 0
dot-zeros zero v = refl
dot-zeros (suc m) v =
    let e : dot (λ j. v (suc j)) (zeros m) ≡ pos 0 = dot-zeros m (λ j. v (suc j)) in
    let z : pos 0 *ℤ v 0 ≡ pos 0 = *ℤ_comm (pos 0) (v 0) ∙ mul_zero (v 0) in
    omega (arith, ints, e, z)

one_times : (a d : ℤ) → d ≡ pos 0 → pos 1 *ℤ a +ℤ d ≡ a
one_times (pos n) d e = omega (arith, ints, e)
one_times (negsuc n) d e = omega (arith, ints, e)

pub length-mark : (m i : ℕ) → length (mark m i) ≡ m
length-mark zero i = refl
length-mark (suc m) zero = ap suc (length-zeros m)
length-mark (suc m) (suc i) = ap suc (length-mark m i)

pub at-mark_same : (m i : ℕ) → i < m → at (mark m i) i ≡ pos 1
at-mark_same zero i h = absurd (omega arith)
at-mark_same (suc m) zero h = refl
at-mark_same (suc m) (suc i) h = at-mark_same m i (omega arith)

pub at-mark_other : (m i j : ℕ) → i ≢ j → at (mark m i) j ≡ pos 0
at-mark_other zero i j d = refl
at-mark_other (suc m) zero zero d = absurd (d refl)
at-mark_other (suc m) zero (suc j) d = at-zeros m j
at-mark_other (suc m) (suc i) zero d = refl
at-mark_other (suc m) (suc i) (suc j) d = at-mark_other m i j (λ e. d (ap suc e))

pub dot-mark : (m i : ℕ) (v : ℕ → ℤ) → i < m → dot v (mark m i) ≡ v i
dot-mark zero i v h = absurd (omega arith)
dot-mark (suc m) zero v h = let e : dot (λ j. v (suc j)) (zeros m) ≡ pos 0 = dot-zeros m (λ j. v (suc j)) in one_times (v 0) (dot (λ j. v (suc j)) (zeros m)) e
dot-mark (suc m) (suc i) v h =
    let e : dot (λ j. v (suc j)) (mark m i) ≡ v (suc i) = dot-mark m i (λ j. v (suc j)) (omega arith) in
    let z : pos 0 *ℤ v 0 ≡ pos 0 = *ℤ_comm (pos 0) (v 0) ∙ mul_zero (v 0) in
    omega (arith, ints, e, z)

-- the lines' variables are the slacks
pub basis_of-first_lines : (n m i : ℕ) (rows : List LinRow) → basis_of (first_lines n m i rows) ≡ numbers_from (n + i) (length rows)
basis_of-first_lines n m i [] = refl
basis_of-first_lines n m i (r ∷ rs) =
    let e : n + suc i ≡ suc (n + i) = omega arith in
    ap (λ bs. (n + i) ∷ bs) (basis_of-first_lines n m (suc i) rs ∙ ap (λ s. numbers_from s (length rs)) e)

pub from_numbers : (s k x : ℕ) → Among x (numbers_from s k) → (s ≤ x) × (x < s + k)
from_numbers s zero x h = absurd h
from_numbers s (suc k) x h = elim h as (λ _. (s ≤ x) × (x < s + suc k)) [
  | inl e ↦ (omega (arith, e), omega (arith, e))
  | inr m ↦ let r : (suc s ≤ x) × (x < suc s + k) = from_numbers (suc s) k x m in let a = r.0 in let b = r.1 in (omega (arith, a), omega (arith, b))
]

Distinct-numbers_from : (s k : ℕ) → Distinct (numbers_from s k)
Distinct-numbers_from s zero = tt
Distinct-numbers_from s (suc k) = (λ h. let r : (suc s ≤ s) × (s < suc s + k) = from_numbers (suc s) k s h in let a = r.0 in absurd (omega (arith, a)), Distinct-numbers_from (suc s) k)

length-first_lines : (n m i : ℕ) (rows : List LinRow) → length (first_lines n m i rows) ≡ length rows
length-first_lines n m i [] = refl
length-first_lines n m i (r ∷ rs) = ap suc (length-first_lines n m (suc i) rs)

length-first_line : (n m i : ℕ) (r : LinRow) → length r.coeffs.items ≡ n → length (first_line n m i r).1 ≡ suc (n + m)
length-first_line n m i r h =
    let a = length-append (negated r.coeffs.items) (mark m i ++ (neg_ℤ r.constant ∷ [])) in
    let b = length-append (mark m i) (neg_ℤ r.constant ∷ []) in
    let c = length-negated r.coeffs.items in
    let d = length-mark m i in
    omega (arith, a, b, c, d, h)

-- the number at a slack
at-slack : (n m i j : ℕ) (r : LinRow) → length r.coeffs.items ≡ n → j < m → at (first_line n m i r).1 (n + j) ≡ at (mark m i) j
at-slack n m i j r h l =
    let c : length (negated r.coeffs.items) ≡ n = length-negated r.coeffs.items ∙ h in
    ap (λ k. at (negated r.coeffs.items ++ (mark m i ++ (neg_ℤ r.constant ∷ []))) (k + j)) (sym c)
    ∙ get_or-append-add (negated r.coeffs.items) (mark m i ++ (neg_ℤ r.constant ∷ [])) j (pos 0)
    ∙ get_or_append_left (mark m i) (neg_ℤ r.constant ∷ []) (pos 0) j (let d = length-mark m i in omega (arith, d))

-- a first line times a point
dot-first_line : (n m i : ℕ) (r : LinRow) (v : ℕ → ℤ) → length r.coeffs.items ≡ n → i < m → dot v (first_line n m i r).1 ≡ v (n + i) -ℤ row_value v (v (n + m)) r
dot-first_line n m i r v h l =
    let rest : List ℤ = mark m i ++ (neg_ℤ r.constant ∷ []) in
    let c : length (negated r.coeffs.items) ≡ n = length-negated r.coeffs.items ∙ h in
    let a : dot v (negated r.coeffs.items ++ (mark m i ++ (neg_ℤ r.constant ∷ []))) ≡ dot v (negated r.coeffs.items) +ℤ dot (from n v) (mark m i ++ (neg_ℤ r.constant ∷ [])) =
    dot-append (negated r.coeffs.items) (mark m i ++ (neg_ℤ r.constant ∷ [])) v
    ∙ ap (λ k. dot v (negated r.coeffs.items) +ℤ dot (from k v) (mark m i ++ (neg_ℤ r.constant ∷ []))) c in
    let b : dot (from n v) (mark m i ++ (neg_ℤ r.constant ∷ [])) ≡ dot (from n v) (mark m i) +ℤ dot (from m (from n v)) (neg_ℤ r.constant ∷ []) =
    dot-append (mark m i) (neg_ℤ r.constant ∷ []) (from n v) ∙ ap (λ k. dot (from n v) (mark m i) +ℤ dot (from k (from n v)) (neg_ℤ r.constant ∷ [])) (length-mark m i) in
    let d : dot (from n v) (mark m i) ≡ v (n + i) = dot-mark m i (from n v) l in
    let e = dot-negated r.coeffs.items v in
    let p : neg_ℤ r.constant *ℤ v (n + (m + 0)) ≡ neg_ℤ (r.constant *ℤ v (n + m)) =
    (let z : n + (m + 0) ≡ n + m = omega arith in ap (λ k. neg_ℤ r.constant *ℤ v k) z) ∙ neg_mul r.constant (v (n + m)) in
    omega (arith, ints, a, b, d, e, p)

first_is_line : (n m i k : ℕ) (r : LinRow) → length r.coeffs.items ≡ n → i < m → k ≡ m → IsLine (n + m) (numbers_from n k) (first_line n m i r)
first_is_line n m i k r h l km = record {
  long = length-first_line n m i r h;
  inside = omega arith;
  own = let e : at (first_line n m i r).1 (n + i) ≡ pos 1 = at-slack n m i i r h l ∙ at-mark_same m i l in omega (arith, ints, e);
  others = λ b q d.
      let s : (n ≤ b) × (b < n + k) = from_numbers n k b q in
      let low : n ≤ b = s.0 in
      let high : b < n + k = s.1 in
      let e : n + (b - n) ≡ b = omega (arith, low) in
      let j : i ≢ b - n = λ z. d (sym e ∙ ap (λ x. n + x) (sym z)) in
      ap (at (first_line n m i r).1) (sym e) ∙ at-slack n m i (b - n) r h (omega (arith, low, high, km)) ∙ at-mark_other m i (b - n) j;
  lowest = λ g q.
      let e : at (first_line n m i r).1 (n + i) ≡ pos 1 = at-slack n m i i r h l ∙ at-mark_same m i l in
      eq-one_of_dvd-one (subst (λ (z : ℤ). g ∣ unsigned_abs z) e (divides_at g (first_line n m i r).1 (n + i) q));
}

first_are_lines : (n m i k : ℕ) (rows : List LinRow) → AreWide n rows → i + length rows ≡ m → k ≡ m → AllByRecursion (IsLine (n + m) (numbers_from n k)) (first_lines n m i rows)
first_are_lines n m i k [] h e km = tt
first_are_lines n m i k (r ∷ rs) h e km = (first_is_line n m i k r h.0 (omega (arith, e)) km, first_are_lines n m (suc i) k rs h.1 (omega (arith, e)) km)

follow_vanish : (n m i : ℕ) (rows : List LinRow) (v : ℕ → ℤ) → AreWide n rows → i + length rows ≡ m → Follows (n + i) (n + m) rows v → Vanish (first_lines n m i rows) v
follow_vanish n m i [] v h e f = tt
follow_vanish n m i (r ∷ rs) v h e f =
    let z : suc (n + i) ≡ n + suc i = omega arith in
    let a = dot-first_line n m i r v h.0 (omega (arith, e)) in
    let b : v (n + i) ≡ row_value v (v (n + m)) r = f.0 in
    (omega (arith, ints, a, b), follow_vanish n m (suc i) rs v h.1 (omega (arith, e)) (subst (λ (s : ℕ). Follows s (n + m) rs v) z f.1))

vanish_follow : (n m i : ℕ) (rows : List LinRow) (v : ℕ → ℤ) → AreWide n rows → i + length rows ≡ m → Vanish (first_lines n m i rows) v → Follows (n + i) (n + m) rows v
vanish_follow n m i [] v h e f = tt
vanish_follow n m i (r ∷ rs) v h e f =
    let z : n + suc i ≡ suc (n + i) = omega arith in
    let a = dot-first_line n m i r v h.0 (omega (arith, e)) in
    let b : dot v (first_line n m i r).1 ≡ pos 0 = f.0 in
    (omega (arith, ints, a, b), subst (λ (s : ℕ). Follows s (n + m) rs v) z (vanish_follow n m (suc i) rs v h.1 (omega (arith, e)) f.1))

-- the form of all slacks
pub first_form : (n : ℕ) (rows : List LinRow) → AreWide n rows → IsForm n rows (first_lines n (length rows) 0 rows)
first_form n rows h =
    let z : n + 0 ≡ n = omega arith in
    let zero_rows : 0 + length rows ≡ length rows = omega arith in
    let basis : basis_of (first_lines n (length rows) 0 rows) ≡ numbers_from n (length rows) =
    basis_of-first_lines n (length rows) 0 rows ∙ ap (λ s. numbers_from s (length rows)) z in
    record {
      distinct = subst Distinct (sym basis) (Distinct-numbers_from n (length rows));
      count = length-first_lines n (length rows) 0 rows;
      lines = subst (λ (bs : List ℕ). AllByRecursion (IsLine (n + length rows) bs) (first_lines n (length rows) 0 rows)) (sym basis)
          (first_are_lines n (length rows) 0 (length rows) rows h zero_rows refl);
      holds = λ v f. follow_vanish n (length rows) 0 rows v h zero_rows (subst (λ (s : ℕ). Follows s (n + length rows) rows v) (sym z) f);
      enough = λ v f. subst (λ (s : ℕ). Follows s (n + length rows) rows v) z (vanish_follow n (length rows) 0 rows v h zero_rows f);
    }

pub first_basis : (n : ℕ) (rows : List LinRow) → basis_of (first_lines n (length rows) 0 rows) ≡ numbers_from n (length rows)
first_basis n rows = let z : n + 0 ≡ n = omega arith in basis_of-first_lines n (length rows) 0 rows ∙ ap (λ s. numbers_from s (length rows)) z

-- one place of the marks, and none left
pub drop-mark : (m i k : ℕ) → k < m → drop k (mark m i) ≡ at (mark m i) k ∷ drop (k + 1) (mark m i)
drop-mark m i k h = drop_more (mark m i) k (pos 0) (let e = length-mark m i in omega (arith, h, e))

pub drop-mark_all : (m i k : ℕ) → m ≤ k → drop k (mark m i) ≡ []
drop-mark_all m i k h = drop_all k (mark m i) (let e = length-mark m i in omega (arith, h, e))

-- each mark is whether its place is the one
pub at-mark : (m i k : ℕ) → k < m → at (mark m i) k ≡ pos (bool_byte (k == i))
at-mark m i k h = elim (same_or_not k i) as (λ _. at (mark m i) k ≡ pos (bool_byte (k == i))) [
  | inl e ↦ ap (at (mark m i)) e ∙ at-mark_same m i (omega (arith, h, e)) ∙ ap (λ t. pos (bool_byte t)) (sym (number_test k i e))
  | inr d ↦ at-mark_other m i k (λ e. d (sym e)) ∙ ap (λ t. pos (bool_byte t)) (sym (other_test k i d))
]
