-- Rows, clauses and their solutions (the Micromega chapter of the Rocq manual; Besson 2006, section 2).
use Rattle.std.specs.Prelude.{◌≡◌, ℕ, ℤ, pos, ◌≤ℤ◌, List, [], ◌∷◌, Bool, true, false, not, ◌&&◌, int_lt, int_le}
use Rattle.std.specs.List.{AllByRecursion, list_all}
use Rattle.std.specs.Ordering.{int_eq}
use Rattle.mm_poly.specs.declared.term.Term.{Term}
use Rattle.mm_poly.specs.Poly.{value, constant_part, without_constant}
use Rattle.cert_kit.specs.declared.row.Op.{Op}
use Rattle.cert_kit.specs.declared.row.Op.TheVariants.{Ge, Eq}
use Rattle.cert_kit.specs.declared.row.PRow.{PRow}

-- at least 0, or 0
abbrev pub Compares : Op → ℤ → Type 0
Compares Ge v = pos 0 ≤ℤ v
Compares Eq v = v ≡ pos 0

-- a row holds at a point, which gives each variable an integer
abbrev pub Holds : (ℕ → ℤ) → PRow → Type 0
Holds x r = Compares r.op (value x r.poly)

-- the point solves a list of rows
abbrev pub Solves : (ℕ → ℤ) → List PRow → Type 0
Solves x rows = AllByRecursion (Holds x) rows

-- the same as tests
abbrev pub compares_0 : Op → ℤ → Bool
compares_0 Ge v = int_le (pos 0) v
compares_0 Eq v = int_eq v (pos 0)

abbrev pub row_holds : (ℕ → ℤ) → PRow → Bool
row_holds x r = compares_0 r.op (value x r.poly)

abbrev pub all_hold : (ℕ → ℤ) → List PRow → Bool
all_hold x rows = list_all (row_holds x) rows

abbrev pub HasNoSolution : List PRow → Type 0
HasNoSolution rows = (x : ℕ → ℤ) → Solves x rows → ⊥

-- a constant doesn't compare to 0 as it should
abbrev pub is_false_constant : Op → ℤ → Bool
is_false_constant Ge k = int_lt k (pos 0)
is_false_constant Eq k = not (int_eq k (pos 0))

abbrev pub has_no_terms : List Term → Bool
has_no_terms [] = true
has_no_terms (t ∷ ts) = false

-- whether a row is constant and false
abbrev pub is_false : PRow → Bool
is_false r = has_no_terms (without_constant r.poly) && is_false_constant r.op (constant_part r.poly)
