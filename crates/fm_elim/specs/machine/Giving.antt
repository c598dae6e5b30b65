-- Values given one after another.
use Rattle.std.specs.Prelude.{◌≡◌, ℕ, ◌^◌, ◌≤◌, ◌<◌, unsigned_abs, List, [], ◌∷◌}
use Rattle.std.specs.List.{AllByRecursion}
use Rattle.mm_poly.specs.Poly.{norm, coeff_of, with_weight}
use Rattle.cert_kit.specs.declared.row.PRow.{PRow}
use Rattle.fm_elim.specs.declared.removal.Removal.{Removal}
use Rattle.fm_elim.specs.declared.removal.Removal.TheVariants.{Solved, Bounded}
use Rattle.fm_elim.specs.declared.value.Value.{Value}
use Rattle.fm_elim.specs.declared.value.Given.{Given}
use Rattle.fm_elim.specs.Unknowns.{coeff_in}
use Rattle.fm_elim.specs.Points.{Values, no_values, values_of, greatest_value}

-- these values and those given after them
abbrev pub given_after : List Value → Values → Values
given_after [] v = v
given_after (x ∷ xs) v = given_after xs (with_weight v x.unknown x.value)

abbrev pub given : List Value → Values
given xs = given_after xs no_values

-- each magnitude is at most this
abbrev pub AreWithin : ℕ → List Value → Type 0
AreWithin g xs = AllByRecursion (λ (x : Value). unsigned_abs x.value ≤ g) xs

-- a row with the unknown, whose norm is at most n
pub record IsBound (n : ℕ) (u : List (ℕ × ℕ)) (r : PRow) : Type 0 where
  pub there : 1 ≤ unsigned_abs (coeff_in u r)
  pub within : norm r.poly ≤ n

abbrev pub IsRemoval : ℕ → Removal → Type 0
IsRemoval n (Solved u p) = (unsigned_abs (coeff_of p u) ≡ 1) × (norm p ≤ n)
IsRemoval n (Bounded u ls hs) = AllByRecursion (IsBound n u) ls × AllByRecursion (IsBound n u) hs

-- the values of the unknowns of these removals
pub record IsGiven (removed : List Removal) (g : Given) : Type 0 where
  pub same : given g.values.items ≡ values_of removed
  pub most : g.greatest ≡ greatest_value removed
  pub within : AreWithin g.greatest g.values.items
  pub small : g.greatest < 2 ^ 126
