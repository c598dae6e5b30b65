-- Values put for variables: what is left of a polynomial, and the steps that lead there.
use Rattle.std.specs.Prelude.{◌≡◌, ℕ, zero, suc, ◌+◌, ◌*◌, ◌^◌, ◌<◌, ◌≤◌, ℤ, ◌*ℤ◌, unsigned_abs, List, [], ◌∷◌, ◌++◌, length, Bool, true, ◌==◌, Some, slice_get, nat_lt, neg_ℤ, if◌then◌else◌}
use Rattle.std.specs.List.{AllByRecursion, list_any}
use Rattle.mm_num.specs.Power.{power}
use Rattle.mm_poly.specs.declared.term.Term.{Term}
use Rattle.mm_poly.specs.Mono.{mono_degree, exponent_of, without_variable, with_exponent}
use Rattle.mm_poly.specs.Poly.{Fits, AllMono, spread, degree, plus, joined, with_coeff, variable_of, constant_of}
use Rattle.cert_kit.specs.declared.row.PRow.{PRow}
use Rattle.cert_kit.specs.declared.cert.Psatz.TheVariants.{Hyp, MulPoly, Add}
use Rattle.cert_kit.specs.declared.cert.Step.{Step}
use Rattle.cert_kit.specs.declared.cert.Step.TheVariants.{Rat}
use Rattle.cert_kit.specs.Depth.{steps_depth, steps_in_range}
use Rattle.cert_kit.specs.Acceptance.{value_row}
use Rattle.cert_kit.specs.Making.{Makes}
use Rattle.box_enum.specs.declared.numbered.Numbered.{Numbered}
use Rattle.box_enum.specs.declared.numbered.Choice.{Choice}

-- ---- a value put for a variable

-- the exponent of x in a monomial, and the monomial without x
abbrev pub exponent : ℕ → List (ℕ × ℕ) → ℕ
exponent x [] = 0
exponent x (f ∷ fs) = if x == f.0 then f.1 else exponent x fs

abbrev pub without : ℕ → List (ℕ × ℕ) → List (ℕ × ℕ)
without x [] = []
without x (f ∷ fs) = if x == f.0 then fs else f ∷ without x fs

abbrev pub put_value : ℕ → ℤ → List Term → List Term
put_value x v [] = []
put_value x v (t ∷ ts) = plus (with_coeff (t.coeff *ℤ power v (exponent x t.mono)) (without x t.mono) []) (put_value x v ts)

-- one value after another
abbrev pub put_all : List Choice → List Term → List Term
put_all [] p = p
put_all (c ∷ cs) p = put_all cs (put_value c.variable c.value p)

-- the terms of what is left, in any order
abbrev pub put_terms : ℕ → ℤ → List Term → List Term
put_terms x v [] = []
put_terms x v (t ∷ ts) = record { coeff = t.coeff *ℤ power v (exponent_of t.mono x); mono = without_variable t.mono x } ∷ put_terms x v ts

-- whether a variable occurs
abbrev pub has_variable : ℕ → List Term → Bool
has_variable x p = list_any (λ (t : Term). nat_lt 0 (exponent_of t.mono x)) p

-- ---- by what a variable less its value is multiplied

-- c * (x^k - v^k) / (x - v), times a monomial without x
abbrev pub quotient_terms : ℕ → ℤ → ℤ → ℕ → List (ℕ × ℕ) → List Term
quotient_terms x v c zero m = []
quotient_terms x v c (suc k) m = record { coeff = c; mono = with_exponent m x k } ∷ quotient_terms x v (c *ℤ v) k m

abbrev pub cofactor_terms : ℕ → ℤ → List Term → List Term
cofactor_terms x v [] = []
cofactor_terms x v (t ∷ ts) = quotient_terms x v (neg_ℤ t.coeff) (exponent_of t.mono x) t.mono ++ cofactor_terms x v ts

-- its product with x - v, added to the polynomial, puts v for x
abbrev pub cofactor : ℕ → ℤ → List Term → List Term
cofactor x v p = joined (cofactor_terms x v p)

-- x - v
abbrev pub difference : ℕ → ℤ → List Term
difference x v = plus (variable_of x) (constant_of (neg_ℤ v))

-- ---- within the bounds of certificates

-- the norm, each variable worth 1 + b
abbrev pub weight : ℕ → List Term → ℕ
weight b [] = 0
weight b (t ∷ ts) = unsigned_abs t.coeff * (1 + b) ^ mono_degree t.mono + weight b ts

-- small enough for a step that puts a value of magnitude at most b for a variable
pub record IsTame (b : ℕ) (p : List Term) : Type 0 where
  pub fits : Fits p
  pub monos : AllMono p
  pub weight : weight b p < 2 ^ 100
  pub spread : spread p * (2 * degree p + 1) ≤ 65536

-- ---- the steps

-- a row, and the multiple of a choice's row that puts the value
abbrev pub put_step : ℕ → Choice → List Term → Step
put_step number c p = Rat (Add (Hyp number) (MulPoly (cofactor c.variable c.value p) (Hyp c.row)))

-- what is left of a row
abbrev pub row_left : PRow → Choice → PRow
row_left r c = record { poly = put_value c.variable c.value r.poly; op = r.op }

-- the row of this number says that the variable has the value
abbrev pub StandsChosen : List PRow → Choice → Type 0
StandsChosen rows c = slice_get rows c.row ≡ Some (value_row (variable_of c.variable) c.value)

abbrev pub StandsNumbered : List PRow → Numbered → Type 0
StandsNumbered rows n = slice_get rows n.number ≡ Some n.row

-- a value of magnitude at most b
abbrev pub IsWithinReach : ℕ → Choice → Type 0
IsWithinReach b c = unsigned_abs c.value ≤ b

-- one step more for each choice whose variable occurs: each a product and a sum
pub record StepsMore (before after : List Step) (most : ℕ) : Type 0 where
  pub more : List Step
  pub is : after ≡ before ++ more
  pub few : length more ≤ most
  pub flat : steps_depth more ≤ 2
  pub constants : steps_in_range more ≡ true

-- the steps that were pushed make more rows, over any rows where the row and the choices' rows stand, and this many rows
-- stood after the steps before; the last of them, or the row itself, is what is left
pub record Puts (before after : List Step) (count : ℕ) (from : Numbered) (choices : List Choice) (left : Numbered) : Type 0 where
  pub row : left.row ≡ record { poly = put_all choices from.row.poly; op = from.row.op }
  pub steps : StepsMore before after (length choices)
  pub makes : (rows : List PRow) → length rows ≡ count → StandsNumbered rows from → AllByRecursion (StandsChosen rows) choices
      → (more : List PRow) × Makes rows steps.more (rows ++ more) × StandsNumbered (rows ++ more) left × (length (rows ++ more) ≡ count + length steps.more)
