-- Unknowns: the monomials that aren't constant, each of which counts as a variable of its own.
use Rattle.std.specs.Prelude.{ℕ, ℤ, pos, List, [], ◌∷◌, cond, int_lt}
use Rattle.std.specs.Ordering.{int_eq}
use Rattle.std.specs.List.{filter}
use Rattle.std.specs.declared.cmp.Ordering.TheVariants.{Less, Equal, Greater}
use Rattle.mm_poly.specs.declared.term.Term.{Term}
use Rattle.mm_poly.specs.Mono.{mono_cmp, is_constant}
use Rattle.mm_poly.specs.Poly.{coeff_of}
use Rattle.cert_kit.specs.declared.row.PRow.{PRow}

-- a monomial put at its place in a list in monomial order, where it isn't there yet
abbrev pub with_unknown : List (ℕ × ℕ) → List (List (ℕ × ℕ)) → List (List (ℕ × ℕ))
with_unknown m [] = m ∷ []
with_unknown m (u ∷ us) = elim (mono_cmp m u) [
  | Less ↦ m ∷ u ∷ us
  | Equal ↦ u ∷ us
  | Greater ↦ u ∷ with_unknown m us
]

abbrev pub with_unknowns : List Term → List (List (ℕ × ℕ)) → List (List (ℕ × ℕ))
with_unknowns [] us = us
with_unknowns (t ∷ ts) us = cond (is_constant t.mono) (with_unknowns ts us) (with_unknown t.mono (with_unknowns ts us))

-- the unknowns of rows, in monomial order
abbrev pub unknowns : List PRow → List (List (ℕ × ℕ))
unknowns [] = []
unknowns (r ∷ rows) = with_unknowns r.poly (unknowns rows)

-- an unknown's coefficient in a row
abbrev pub coeff_in : List (ℕ × ℕ) → PRow → ℤ
coeff_in u r = coeff_of r.poly u

-- rows without an unknown, its lower rows and its upper rows, in order
abbrev pub without : List (ℕ × ℕ) → List PRow → List PRow
without u rows = filter (λ r. int_eq (coeff_in u r) (pos 0)) rows

abbrev pub lowers : List (ℕ × ℕ) → List PRow → List PRow
lowers u rows = filter (λ r. int_lt (pos 0) (coeff_in u r)) rows

abbrev pub uppers : List (ℕ × ℕ) → List PRow → List PRow
uppers u rows = filter (λ r. int_lt (coeff_in u r) (pos 0)) rows
