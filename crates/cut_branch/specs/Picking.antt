-- What is picked at a rational point: a cut that it doesn't solve, or a split between whole numbers (Schrijver, Theory of
-- Linear and Integer Programming, sections 23 and 24).
use Rattle.std.specs.Prelude.{◌≡◌, ◌≤◌, ℤ, pos, neg_ℤ, ◌<ℤ◌, List, true, Some}
use Rattle.mm_poly.specs.declared.term.Term.{Term}
use Rattle.mm_poly.specs.Poly.{degree}
use Rattle.cert_kit.specs.declared.row.PRow.{PRow}
use Rattle.cert_kit.specs.declared.cert.Psatz.{Psatz}
use Rattle.cert_kit.specs.Cut.{cut_of}
use Rattle.cert_kit.specs.Meaning.{meaning, measure, own_bounds, are_within}
use Rattle.cert_kit.specs.Acceptance.{below_bounds}
use Rattle.cert_kit.specs.Depth.{psatz_depth, has_constants_in_range}
use Rattle.cut_branch.specs.declared.types.Pick.{Pick}
use Rattle.cut_branch.specs.declared.types.Pick.TheVariants.{Cut, Split, Integral}
use Rattle.farkas_rows.specs.Fractions.{denominator}
use Rattle.cut_branch.specs.Points.{value_at, HoldsAt}

abbrev pub IfCut : (Psatz → Type 0) → Pick → Type 0
IfCut P (Cut e) = P e
IfCut P (Split p) = Unit {0}
IfCut P Integral = Unit {0}

abbrev pub IfSplit : (List Term → Type 0) → Pick → Type 0
IfSplit P (Cut e) = Unit {0}
IfSplit P (Split p) = P p
IfSplit P Integral = Unit {0}

abbrev pub PicksIntegral : Pick → Type 0
PicksIntegral (Cut e) = ⊥
PicksIntegral (Split p) = ⊥
PicksIntegral Integral = Unit {0}

-- the cut of the expression's row, which is linear, is false at the point
pub record IsCutOff (rows : List PRow) (xs : List (ℤ × ℤ)) (e : Psatz) : Type 0 where
  pub row : PRow
  pub means : meaning e rows ≡ Some row
  pub linear : degree row.poly ≤ 1
  pub cut : HoldsAt rows xs (cut_of row) → ⊥

-- each node of the expression is within its bounds, as a step asks for, and a certificate may have it
pub record FitsStep (rows : List PRow) (e : Psatz) : Type 0 where
  pub within : (measure e rows).within ≡ true
  pub shallow : psatz_depth e ≤ 4000
  pub constants : has_constants_in_range e ≡ true

-- above -1 and below 0 at the point
pub record IsBetween (rows : List PRow) (xs : List (ℤ × ℤ)) (p : List Term) : Type 0 where
  pub above : neg_ℤ (denominator xs) <ℤ value_at rows xs p
  pub below : value_at rows xs p <ℤ pos 0

-- linear, and within the bounds that a split asks for
pub record FitsSplit (p : List Term) : Type 0 where
  pub linear : degree p ≤ 1
  pub own : are_within (own_bounds p) ≡ true
  pub opposite : are_within (below_bounds p) ≡ true
