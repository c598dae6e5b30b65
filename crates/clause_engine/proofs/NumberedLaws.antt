-- Variables that are numbered from 0 on stand at their own places.
use Rattle.std.specs.Prelude.{◌≡◌, ℕ, zero, suc, ◌+◌, ◌<◌, ℤ, pos, List, [], ◌∷◌, length, map, true, nat_eq, slice_index_or, refl}
use Rattle.std.proofs.Common.{ap, sym, ◌∙◌, subst, arith}
use Rattle.std.proofs.lemmas.List.{length-map, get_or-map}
use Rattle.mm_poly.specs.Point.{point_of}
use Rattle.cert_kit.specs.declared.row.PRow.{PRow}
use Rattle.cert_kit.specs.Row.{Solves}
use Rattle.cert_kit.specs.Variables.{variables_of, place_of, numbers_from, point_over}
use Rattle.cert_kit.proofs.SolvingLaws.{rows_tested}
use Rattle.cert_kit.proofs.VariableLaws.{occurs, any_self, or_first, or_second, found, place_within, occurs_there, rows_local}
use Rattle.fm_elim.specs.Unknowns.{unknowns}
use Rattle.fm_elim.specs.Points.{AreRows, AreLinear}
use Rattle.fm_elim.specs.Answers.{AreNumbered}
use Rattle.clause_engine.specs.Settled.{IsNumbered}
use Rattle.relaxation.proofs.LinearLaws.{single, rows_unknowns}

-- ---- the numbers themselves

number_at : (j n k : ℕ) → k < n → slice_index_or (numbers_from j n) k 0 ≡ j + k
number_at j zero k h = absurd (omega arith)
number_at j (suc n) zero h = omega arith
number_at j (suc n) (suc k) h = let e = number_at (j + 1) n k (omega arith) in e ∙ (let s : (j + 1) + k ≡ j + suc k = omega arith in s)

number_there : (j n k : ℕ) → k < n → occurs (j + k) (numbers_from j n) ≡ true
number_there j zero k h = absurd (omega arith)
number_there j (suc n) zero h =
    let e : j ≡ j + 0 = omega arith in
    subst (λ w. occurs w (numbers_from j (suc n)) ≡ true) e (or_first (nat_eq j j) (occurs j (numbers_from (j + 1) n)) (any_self j))
number_there j (suc n) (suc k) h =
    let e : (j + 1) + k ≡ j + suc k = omega arith in
    or_second (nat_eq (j + suc k) j) (occurs (j + suc k) (numbers_from (j + 1) n)) (subst (λ w. occurs w (numbers_from (j + 1) n) ≡ true) e (number_there (j + 1) n k (omega arith)))

pub count_numbers : (j n : ℕ) → length (numbers_from j n) ≡ n
count_numbers j zero = refl
count_numbers j (suc n) = ap suc (count_numbers (j + 1) n)

-- ---- places

own_place : (vars : List ℕ) (v : ℕ) → vars ≡ numbers_from 0 (length vars) → occurs v vars ≡ true → place_of vars v ≡ v
own_place vars v n o =
    let f : slice_index_or vars (place_of vars v) 0 ≡ v = found v vars o in
    let g : slice_index_or vars (place_of vars v) 0 ≡ 0 + place_of vars v = ap (λ us. slice_index_or us (place_of vars v) 0) n ∙ number_at 0 (length vars) (place_of vars v) (place_within v vars o) in
    omega (arith, f, g)

there : (vars : List ℕ) (v : ℕ) → vars ≡ numbers_from 0 (length vars) → v < length vars → occurs v vars ≡ true
there vars v n h =
    let e : 0 + v ≡ v = omega arith in
    subst (λ us. occurs v us ≡ true) (sym n) (subst (λ w. occurs w (numbers_from 0 (length vars)) ≡ true) e (number_there 0 (length vars) v h))

-- ---- points

-- the value of each variable stands at the variable's number
pub by_number : (rows : List PRow) (zs : List ℤ) (v : ℕ) → IsNumbered rows → v < length (variables_of rows) → point_of zs v ≡ point_over (variables_of rows) zs v
by_number rows zs v n h = ap (λ k. slice_index_or zs k (pos 0)) (sym (own_place (variables_of rows) v n (there (variables_of rows) v n h)))

pub solved_by_number : (rows : List PRow) (zs : List ℤ) → IsNumbered rows → Solves (point_over (variables_of rows) zs) rows → Solves (point_of zs) rows
solved_by_number rows zs n s =
    (rows_tested (point_of zs) rows).0
    (sym (rows_local (point_over (variables_of rows) zs) (point_of zs) rows (λ v o. ap (λ k. slice_index_or zs k (pos 0)) (own_place (variables_of rows) v n (occurs_there v rows o))))
    ∙ (rows_tested (point_over (variables_of rows) zs) rows).1 s)

-- ---- the unknowns of linear rows

pub count_unknowns : (rows : List PRow) → AreRows rows → AreLinear rows → length (unknowns rows) ≡ length (variables_of rows)
count_unknowns rows a l = ap (λ (us : List (List (ℕ × ℕ))). length us) (rows_unknowns rows a l) ∙ length-map (variables_of rows) single

pub are_numbered : (rows : List PRow) → IsNumbered rows → AreRows rows → AreLinear rows → AreNumbered rows
are_numbered rows n a l k b =
    let c : k < length (variables_of rows) = omega (arith, count_unknowns rows a l) in
    let e : 0 + k ≡ k = omega arith in
    ap (λ us. slice_index_or us k []) (rows_unknowns rows a l)
    ∙ get_or-map single (variables_of rows) k 0 [] c
    ∙ ap single (ap (λ us. slice_index_or us k 0) n ∙ number_at 0 (length (variables_of rows)) k c ∙ e)
