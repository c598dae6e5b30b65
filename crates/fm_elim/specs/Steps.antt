-- The four rules of elimination (Pugh 1991), in the order in which they are tried.
use Rattle.std.specs.Prelude.{ℕ, suc, ◌+◌, ◌*◌, ◌^◌, pos, negsuc, ◌*ℤ◌, neg_ℤ, unsigned_abs, List, [], ◌∷◌, ◌++◌, map, take, drop, slice_get, Bool, true, not, ◌&&◌, ◌||◌, ◌==◌, nat_lt, nat_le, int_le, Option, Some, None, Result, Ok, Err, if◌then◌else◌}
use Rattle.std.specs.Ordering.{int_eq}
use Rattle.std.specs.List.{list_all}
use Rattle.std.specs.Option.{option_map_or}
use Rattle.mm_poly.specs.declared.term.Term.{Term}
use Rattle.mm_poly.specs.Mono.{is_constant}
use Rattle.mm_poly.specs.Poly.{norm, spread, plus, scaled}
use Rattle.cert_kit.specs.declared.row.PRow.{PRow}
use Rattle.cert_kit.specs.Meaning.{at_least_0}
use Rattle.fm_elim.specs.declared.rule.Rule.{Rule}
use Rattle.fm_elim.specs.declared.rule.Rule.TheVariants.{Finished, Solve, Halve, Exact, Inexact}
use Rattle.fm_elim.specs.Unknowns.{unknowns, coeff_in, without, lowers, uppers}
use Rattle.fm_elim.specs.Tidy.{End, Over, is_inequality}

-- the first unknown with the coefficient 1 or -1
abbrev pub unit_unknown : List Term → Option (List (ℕ × ℕ))
unit_unknown [] = None
unit_unknown (t ∷ ts) = if not (is_constant t.mono) && (unsigned_abs t.coeff == 1) then Some t.mono else unit_unknown ts

-- an equality gives the value of such an unknown
abbrev pub solved_unknown : PRow → Option (List (ℕ × ℕ))
solved_unknown r = if is_inequality r.op then None else unit_unknown r.poly

-- the place n and the unknown that was found there, or what is found later
abbrev pub found_at : ℕ → Option (List (ℕ × ℕ)) → Option (ℕ × List (ℕ × ℕ)) → Option (ℕ × List (ℕ × ℕ))
found_at n (Some u) later = Some (n, u)
found_at n None later = later

-- the place of the first equality that gives one, and the unknown; rows count from n
abbrev pub solvable_from : List PRow → ℕ → Option (ℕ × List (ℕ × ℕ))
solvable_from [] n = None
solvable_from (r ∷ rows) n = found_at n (solved_unknown r) (solvable_from rows (n + 1))

-- the place of the first equality
abbrev pub equality_from : List PRow → ℕ → Option ℕ
equality_from [] n = None
equality_from (r ∷ rows) n = if is_inequality r.op then equality_from rows (n + 1) else Some n

-- the positive coefficients of the unknown are all 1, or its negative ones are all -1
abbrev pub is_exact : List PRow → List (ℕ × ℕ) → Bool
is_exact rows u = list_all (λ r. int_le (coeff_in u r) (pos 1)) rows || list_all (λ r. int_le (negsuc 0) (coeff_in u r)) rows

abbrev pub first_exact : List PRow → List (List (ℕ × ℕ)) → Option (List (ℕ × ℕ))
first_exact rows [] = None
first_exact rows (u ∷ us) = if is_exact rows u then Some u else first_exact rows us

abbrev pub first_of : List (List (ℕ × ℕ)) → Rule
first_of [] = Finished
first_of (u ∷ us) = Inexact u

abbrev pub exact_or : Option (List (ℕ × ℕ)) → Rule → Rule
exact_or (Some u) rule = Exact u
exact_or None rule = rule

abbrev pub halve_or : Option ℕ → Rule → Rule
halve_or (Some k) rule = Halve k
halve_or None rule = rule

abbrev pub solve_or : Option (ℕ × List (ℕ × ℕ)) → Rule → Rule
solve_or (Some e) rule = Solve e.0 e.1
solve_or None rule = rule

-- The first rule that applies: an equality with an unknown of coefficient 1 or -1; an equality; an unknown whose
-- positive coefficients are all 1 or whose negative ones are all -1; an unknown.
abbrev pub rule_of : List PRow → Rule
rule_of rows = solve_or (solvable_from rows 0) (halve_or (equality_from rows 0) (exact_or (first_exact rows (unknowns rows)) (first_of (unknowns rows))))

-- whether the limits leave room for the sum of two polynomials, each times a number of this magnitude
abbrev pub has_room : ℕ → List Term → ℕ → List Term → Bool
has_room a p b q = nat_lt (norm p * a + norm q * b) (2 ^ 126) && nat_le (spread p + spread q) 65536

abbrev pub poly_at : ℕ → List PRow → List Term
poly_at k rows = option_map_or (λ (r : PRow). r.poly) (slice_get rows k) []

-- the unknown taken out of a row by a multiple of an equality p = 0, where its coefficient is 1 or -1
abbrev pub substituted : List (ℕ × ℕ) → List Term → PRow → PRow
substituted u p r = if int_eq (coeff_in u r) (pos 0) then r
    else record { poly = plus r.poly (scaled (neg_ℤ (coeff_in u r *ℤ coeff_in u (at_least_0 p))) p); op = r.op }

abbrev pub solve_has_room : List (ℕ × ℕ) → List Term → List PRow → Bool
solve_has_room u p [] = true
solve_has_room u p (r ∷ rows) = (int_eq (coeff_in u r) (pos 0) || has_room 1 r.poly (unsigned_abs (coeff_in u r)) p) && solve_has_room u p rows

-- the rows but for an equality p = 0 that gives the unknown's value, without that unknown
abbrev pub solved : List (ℕ × ℕ) → List Term → List PRow → Result (List PRow) End
solved u p rows = if solve_has_room u p rows then Ok (map (substituted u p) rows) else Err Over

-- an equality becomes two inequalities
abbrev pub halved : ℕ → List PRow → List PRow
halved k rows = take k rows ++ at_least_0 (poly_at k rows) ∷ at_least_0 (scaled (negsuc 0) (poly_at k rows)) ∷ drop (suc k) rows

-- the sum of a lower and an upper row in which the unknown cancels
abbrev pub combined : List (ℕ × ℕ) → PRow → PRow → PRow
combined u l h = at_least_0 (plus (scaled (pos (unsigned_abs (coeff_in u h))) l.poly) (scaled (pos (unsigned_abs (coeff_in u l))) h.poly))

abbrev pub pair_has_room : List (ℕ × ℕ) → PRow → PRow → Bool
pair_has_room u l h = has_room (unsigned_abs (coeff_in u h)) l.poly (unsigned_abs (coeff_in u l)) h.poly

-- each lower row in order with each upper row in order
abbrev pub combined_all : List (ℕ × ℕ) → List PRow → List PRow → List PRow
combined_all u [] hs = []
combined_all u (l ∷ ls) hs = map (combined u l) hs ++ combined_all u ls hs

abbrev pub pairs_have_room : List (ℕ × ℕ) → List PRow → List PRow → Bool
pairs_have_room u ls hs = list_all (λ l. list_all (pair_has_room u l) hs) ls

-- the rows without the unknown, and the sums of its pairs
abbrev pub eliminated : List (ℕ × ℕ) → List PRow → Result (List PRow) End
eliminated u rows = if pairs_have_room u (lowers u rows) (uppers u rows) then Ok (without u rows ++ combined_all u (lowers u rows) (uppers u rows)) else Err Over
