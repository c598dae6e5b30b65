-- Rows of one width are as wide as they say.
use Rattle.std.specs.Prelude.{◌≡◌, ℕ, ◌≤◌, List, [], ◌∷◌, length}
use Rattle.std.proofs.Common.{sym, subst, arith}
use Rattle.std.specs.List.{All, AllByRecursion}
use Rattle.std.proofs.lemmas.List.Elements.{recursion_from_All}
use Rattle.simplex_core.specs.declared.row.LinRow.{LinRow}
use Rattle.simplex_core.specs.Rows.{unknowns, AreWide}

pub wide_unknowns : (n : ℕ) (rows : List LinRow) → AreWide n rows → AreWide (unknowns rows) rows
wide_unknowns n [] h = tt
wide_unknowns n (r ∷ rs) h = subst (λ (k : ℕ). AreWide k (r ∷ rs)) (sym h.0) h

pub unknowns_within : (n : ℕ) (rows : List LinRow) → AreWide n rows → unknowns rows ≤ n
unknowns_within n [] h = omega arith
unknowns_within n (r ∷ rs) h = let e = h.0 in omega (arith, e)

-- by the widths one for one
pub wide_from_all : (n : ℕ) (rows : List LinRow) → All (λ r. length r.coeffs.items ≡ n) rows → AreWide n rows
wide_from_all n rows h = recursion_from_All (λ r. length r.coeffs.items ≡ n) rows h
