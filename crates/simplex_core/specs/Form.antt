-- Bases, and their forms in whole numbers without common divisor.
--
-- The variables are the unknowns from 0 on, then the slacks of the rows. A point gives a whole number to each, and
-- one to the constant, which stands after them: the denominator of the others.
use Rattle.std.specs.Prelude.{◌≡◌, ◌≢◌, ℕ, suc, ◌+◌, ◌<◌, ◌⊎◌, List, [], ◌∷◌, length, get_or, ℤ, pos, ◌<ℤ◌, unsigned_abs}
use Rattle.std.specs.Int.{◌∣◌}
use Rattle.std.specs.List.{AllByRecursion}
use Rattle.simplex_core.specs.declared.row.LinRow.{LinRow}
use Rattle.simplex_core.specs.Rows.{dot, row_value}

abbrev pub at : List ℤ → ℕ → ℤ
at cs i = get_or cs i (pos 0)

-- an element of the list
abbrev pub Among : {A : Type 0} → A → List A → Type 0
Among x [] = ⊥
Among x (y ∷ ys) = (x ≡ y) ⊎ Among x ys

-- the first list has each element of the second
abbrev pub HasAll : List ℕ → List ℕ → Type 0
HasAll xs ys = (x : ℕ) → Among x ys → Among x xs

abbrev pub Distinct : List ℕ → Type 0
Distinct [] = Unit {0}
Distinct (x ∷ xs) = (Among x xs → ⊥) × Distinct xs

-- the constant's place, after n unknowns and the slacks
abbrev pub one_of : ℕ → List LinRow → ℕ
one_of n rows = n + length rows

-- the slacks from s on have the values of the rows
abbrev pub Follows : ℕ → ℕ → List LinRow → (ℕ → ℤ) → Type 0
Follows s one [] v = Unit {0}
Follows s one (r ∷ rs) v = (v s ≡ row_value v (v one) r) × Follows (suc s) one rs v

-- a point of the rows
abbrev pub IsOfRows : ℕ → List LinRow → (ℕ → ℤ) → Type 0
IsOfRows n rows v = Follows n (one_of n rows) rows v

-- a basic variable, and the numbers of an equation: times a point they sum to 0
abbrev pub Line : Type 0
Line = ℕ × List ℤ

abbrev pub basis_of : List Line → List ℕ
basis_of [] = []
basis_of (l ∷ ls) = l.0 ∷ basis_of ls

-- the equations hold at the point
abbrev pub Vanish : List Line → (ℕ → ℤ) → Type 0
Vanish form v = AllByRecursion (λ l. dot v l.1 ≡ pos 0) form

abbrev pub DividesAll : ℕ → List ℤ → Type 0
DividesAll g cs = AllByRecursion (λ c. g ∣ unsigned_abs c) cs

-- a number for each variable and the constant
abbrev pub IsPlaced : ℕ → Line → Type 0
IsPlaced one l = (length l.1 ≡ one + 1) × (l.0 < one)

-- an equation for its basic variable, whose number is above 0, by the variables outside the basis
pub record IsLine (one : ℕ) (basis : List ℕ) (l : Line) : Type 0 where
  pub long : length l.1 ≡ suc one
  pub inside : l.0 < one
  pub own : pos 0 <ℤ at l.1 l.0
  pub others : (b : ℕ) → Among b basis → b ≢ l.0 → at l.1 b ≡ pos 0
  pub lowest : (g : ℕ) → DividesAll g l.1 → g ≡ 1

-- the form of a basis: an equation for each basic variable, as many as rows, which together say what the rows say
pub record IsForm (n : ℕ) (rows : List LinRow) (form : List Line) : Type 0 where
  pub distinct : Distinct (basis_of form)
  pub count : length form ≡ length rows
  pub lines : AllByRecursion (IsLine (one_of n rows) (basis_of form)) form
  pub holds : (v : ℕ → ℤ) → IsOfRows n rows v → Vanish form v
  pub enough : (v : ℕ → ℤ) → Vanish form v → IsOfRows n rows v
