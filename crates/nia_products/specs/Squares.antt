-- Square monomials: their exponents are even, so that they are at least 0 at each point (the Micromega chapter of the
-- Rocq manual, at `nra`: where the square of a monomial stands in an expression, it is added that it is at least 0).
use Rattle.std.specs.Prelude.{ℕ, ◌/◌, ◌%◌, ◌==◌, pos, List, [], ◌∷◌, map, Bool, not, ◌&&◌}
use Rattle.std.specs.List.{filter, flat_map, list_all}
use Rattle.mm_poly.specs.declared.term.Term.{Term}
use Rattle.mm_poly.specs.Mono.{mono_cmp, is_constant}
use Rattle.cert_kit.specs.declared.row.PRow.{PRow}
use Rattle.cert_kit.specs.declared.cert.Psatz.{Psatz}
use Rattle.cert_kit.specs.declared.cert.Psatz.TheVariants.{Square}
use Rattle.cert_kit.specs.Meaning.{at_least_0}
use Rattle.cert_kit.specs.Variables.{in_order}

abbrev pub is_even : ℕ × ℕ → Bool
is_even f = f.1 % 2 == 0

-- not constant, with even exponents
abbrev pub is_square : List (ℕ × ℕ) → Bool
is_square m = not (is_constant m) && list_all is_even m

-- the square monomials of a polynomial and of rows, as they stand
abbrev pub poly_squares : List Term → List (List (ℕ × ℕ))
poly_squares ts = filter is_square (map (λ t. t.mono) ts)

abbrev pub row_squares : List PRow → List (List (ℕ × ℕ))
row_squares rows = flat_map (λ r. poly_squares r.poly) rows

-- the square monomials of rows, in monomial order, each once
abbrev pub squares_of : List PRow → List (List (ℕ × ℕ))
squares_of rows = in_order mono_cmp (row_squares rows)

-- the monomial with halved exponents
abbrev pub half_of : List (ℕ × ℕ) → List (ℕ × ℕ)
half_of m = map (λ f. (f.0, f.1 / 2)) m

-- the polynomial of a monomial
abbrev pub poly_of : List (ℕ × ℕ) → List Term
poly_of m = record { coeff = pos 1; mono = m } ∷ []

-- m >= 0, and why: m is the square of its half
abbrev pub square_row : List (ℕ × ℕ) → PRow
square_row m = at_least_0 (poly_of m)

abbrev pub square_source : List (ℕ × ℕ) → Psatz
square_source m = Square (poly_of (half_of m))
