-- The rational relaxation of rows: each unknown, a monomial that isn't constant, may have any rational value.
use Rattle.std.specs.Prelude.{◌≡◌, ℕ, ◌+◌, ◌≤◌, List, [], ◌∷◌, length, map, Bool, true, false, cond, ℤ, pos}
use Rattle.std.specs.List.{AllByRecursion}
use Rattle.std.specs.Ordering.{is_eq}
use Rattle.mm_num.specs.Frac.{IsFraction}
use Rattle.mm_poly.specs.Mono.{mono_cmp, is_constant}
use Rattle.mm_poly.specs.Poly.{coeff_of}
use Rattle.cert_kit.specs.declared.row.Op.{Op}
use Rattle.cert_kit.specs.declared.row.Op.TheVariants.{Ge, Eq}
use Rattle.cert_kit.specs.declared.row.PRow.{PRow}
use Rattle.cert_kit.specs.declared.cert.Cert.{Cert}
use Rattle.fm_elim.specs.Unknowns.{unknowns}
use Rattle.farkas_rows.specs.Fractions.{denominator, numerators}
use Rattle.farkas_rows.specs.Combining.{spreads, HoldsAt, HasNoRationalSolution}
use Rattle.simplex_core.specs.declared.row.LinRow.{LinRow}
use Rattle.simplex_core.specs.Solved.{AreFormsNarrow}
use Rattle.simplex_core.specs.Walk.{choose}
use Rattle.relaxation.specs.declared.relaxed.Relaxed.{Relaxed}
use Rattle.relaxation.specs.declared.relaxed.Relaxed.TheVariants as relaxed

abbrev pub Mono : Type 0
Mono = List (ℕ × ℕ)

-- the number that stands where the unknown does, 0 where it doesn't
abbrev pub number_of : List Mono → List ℤ → Mono → ℤ
number_of [] zs m = pos 0
number_of (u ∷ us) [] m = pos 0
number_of (u ∷ us) (z ∷ zs) m = cond (is_eq (mono_cmp u m)) z (number_of us zs m)

-- the numerators of the unknowns' values, and the denominator for the constant
abbrev pub weights : List Mono → List (ℤ × ℤ) → Mono → ℤ
weights us xs m = cond (is_constant m) (denominator xs) (number_of us (numerators xs) m)

-- fractions for the unknowns at which all rows hold
pub record IsRationalPoint (rows : List PRow) (xs : List (ℤ × ℤ)) : Type 0 where
  pub count : length xs ≡ length (unknowns rows)
  pub fractions : AllByRecursion IsFraction xs
  pub holds : AllByRecursion (HoldsAt (weights (unknowns rows) xs)) rows

abbrev pub is_equality : Op → Bool
is_equality Ge = false
is_equality Eq = true

-- a row as a linear form of the unknowns
pub record IsFormOf (us : List Mono) (r : PRow) (l : LinRow) : Type 0 where
  pub coeffs : l.coeffs.items ≡ map (coeff_of r.poly) us
  pub constant : l.constant ≡ coeff_of r.poly []
  pub equal : l.equal ≡ is_equality r.op

abbrev pub AreFormsOf : List Mono → List PRow → List LinRow → Type 0
AreFormsOf us [] [] = Unit {0}
AreFormsOf us [] (l ∷ ls) = ⊥
AreFormsOf us (r ∷ rows) [] = ⊥
AreFormsOf us (r ∷ rows) (l ∷ ls) = IsFormOf us r l × AreFormsOf us rows ls

-- the sets of as many variables as rows, out of the unknowns and a slack for each row
abbrev pub candidate_bases : List PRow → ℕ
candidate_bases rows = choose (length (unknowns rows) + length rows) (length rows)

-- the form of each basis has numbers below 2^30
abbrev pub AreBasesNarrow : List PRow → Type 0
AreBasesNarrow rows = (ls : List LinRow) → AreFormsOf (unknowns rows) rows ls → AreFormsNarrow ls

-- rows that so many turns refute
pub record IsRefutable (turns : ℕ) (rows : List PRow) : Type 0 where
  pub none : HasNoRationalSolution rows
  pub terms : spreads rows ≤ 65536
  pub bases : candidate_bases rows ≤ turns
  pub narrow : AreBasesNarrow rows

abbrev pub IfCert : (Cert → Type 0) → Relaxed → Type 0
IfCert P (relaxed.Cert c) = P c
IfCert P r = Unit {0}

abbrev pub IfPoint : (List (ℤ × ℤ) → Type 0) → Relaxed → Type 0
IfPoint P (relaxed.Point xs) = P xs.items
IfPoint P r = Unit {0}

abbrev pub IsCert : Relaxed → Type 0
IsCert (relaxed.Cert c) = Unit {0}
IsCert r = ⊥
