-- What the answers of an elimination say.
use Rattle.std.specs.Prelude.{◌≡◌, ◌⊎◌, ℕ, ◌<◌, ℤ, pos, List, [], ◌∷◌, length, slice_index_or}
use Rattle.std.specs.List.{Any, position_or_len}
use Rattle.std.specs.Ordering.{is_eq}
use Rattle.mm_poly.specs.declared.term.Term.{Term}
use Rattle.mm_poly.specs.Mono.{mono_cmp}
use Rattle.cert_kit.specs.declared.row.PRow.{PRow}
use Rattle.cert_kit.specs.declared.cert.Cert.{Cert}
use Rattle.fm_elim.specs.declared.eliminating.Elim.{Elim}
use Rattle.fm_elim.specs.declared.eliminating.Elim.TheVariants as answer
use Rattle.fm_elim.specs.Unknowns.{unknowns}
use Rattle.fm_elim.specs.Tidy.{Contra, Point, Grey, Over}
use Rattle.fm_elim.specs.Elimination.{elimination}
use Rattle.fm_elim.specs.Points.{IsTame}

-- each end exactly where the elimination ends so; a point that isn't tame counts as over
abbrev pub Ends : List PRow → Elim → Type 0
Ends rows (answer.Contra c) = elimination rows ≡ Contra
Ends rows (answer.Point zs) = (elimination rows ≡ Point) × IsTame rows
Ends rows answer.Grey = elimination rows ≡ Grey
Ends rows answer.Over = (elimination rows ≡ Over) ⊎ ((elimination rows ≡ Point) × (IsTame rows → ⊥))

abbrev pub IfContra : (Cert → Type 0) → Elim → Type 0
IfContra P (answer.Contra c) = P c
IfContra P e = Unit {0}

abbrev pub IfPoint : (List ℤ → Type 0) → Elim → Type 0
IfPoint P (answer.Point zs) = P zs.items
IfPoint P e = Unit {0}

-- each variable has the value at the place of its unknown, 0 where it is none
abbrev pub by_unknowns : List PRow → List ℤ → ℕ → ℤ
by_unknowns rows zs v = slice_index_or zs (position_or_len (λ u. is_eq (mono_cmp ((v, 1) ∷ []) u)) (unknowns rows)) (pos 0)

-- the unknowns are the variables from 0 on
abbrev pub AreNumbered : List PRow → Type 0
AreNumbered rows = (k : ℕ) → k < length (unknowns rows) → slice_index_or (unknowns rows) k [] ≡ (k, 1) ∷ []

-- a variable occurs in some row
abbrev pub Occurs : ℕ → List PRow → Type 0
Occurs v rows = Any (λ (r : PRow). Any (λ (t : Term). Any (λ (f : ℕ × ℕ). f.0 ≡ v) t.mono) r.poly) rows
