-- Walks by Bland's rule: the least broken slack leaves, the least variable that can mend it enters.
use Rattle.std.specs.Prelude.{◌≡◌, ◌≢◌, ℕ, zero, suc, ◌+◌, ◌^◌, ◌<◌, ◌≤◌, ◌⊎◌, Bool, true, false, if◌then◌else◌, ◌==◌, List, [], ◌∷◌, length, ℤ, pos, ◌<ℤ◌, unsigned_abs}
use Rattle.std.specs.List.{All}
use Rattle.simplex_core.specs.declared.row.LinRow.{LinRow}
use Rattle.simplex_core.specs.declared.solved.Pivot.{Pivot}
use Rattle.simplex_core.specs.Form.{at, Among, one_of, Line, basis_of, IsForm}

-- whether the variable is the slack of an equality
abbrev pub is_equality : ℕ → List LinRow → ℕ → Bool
is_equality n [] i = false
is_equality n (r ∷ rs) i = (if i == n then r.equal else is_equality (suc n) rs i)

-- the variable's value at the basis's point is this, times a number below 0
abbrev pub shortfall : ℕ → List LinRow → Line → ℤ
shortfall n rows l = at l.1 (one_of n rows)

-- a slack below 0, or of an equality and not 0
abbrev pub IsBroken : ℕ → List LinRow → Line → Type 0
IsBroken n rows l =
    (n ≤ l.0) × ((pos 0 <ℤ shortfall n rows l) ⊎ ((is_equality n rows l.0 ≡ true) × (shortfall n rows l ≢ pos 0)))

abbrev pub IsOutside : ℕ → List LinRow → List Line → ℕ → Type 0
IsOutside n rows form e = (e < one_of n rows) × (Among e (basis_of form) → ⊥)

-- a greater value of the slack of an inequality brings the line's slack to 0; an unknown may go both ways
abbrev pub CanMend : ℕ → List LinRow → Line → ℕ → Type 0
CanMend n rows l e =
    ((e < n) × (at l.1 e ≢ pos 0))
    ⊎ ((n ≤ e)
    × (is_equality n rows e ≡ false)
    × (((pos 0 <ℤ shortfall n rows l) × (at l.1 e <ℤ pos 0)) ⊎ ((shortfall n rows l <ℤ pos 0) × (pos 0 <ℤ at l.1 e))))

pub record IsLeastBroken (n : ℕ) (rows : List LinRow) (form : List Line) (l : Line) : Type 0 where
  pub stands : Among l form
  pub broken : IsBroken n rows l
  pub least : (k : Line) → Among k form → IsBroken n rows k → l.0 ≤ k.0

-- the pivot that is due at a basis, at the line of the least broken slack
pub record IsDue (n : ℕ) (rows : List LinRow) (form : List Line) (l : Line) (p : Pivot) : Type 0 where
  pub line : IsLeastBroken n rows form l
  pub leaves : p.leaves ≡ l.0
  pub outside : IsOutside n rows form p.enters
  pub mends : CanMend n rows l p.enters
  pub first : (e : ℕ) → IsOutside n rows form e → CanMend n rows l e → p.enters ≤ e

-- e in the place of s
abbrev pub exchanged : ℕ → ℕ → List ℕ → List ℕ
exchanged s e [] = []
exchanged s e (b ∷ bs) = (if b == s then e else b) ∷ exchanged s e bs

-- the pivots lead from the form f to the form g, each of them due
abbrev pub Leads : ℕ → List LinRow → List Line → List Pivot → List Line → Type 0
Leads n rows f [] g = f ≡ g
Leads n rows f (p ∷ ps) g =
    (l : Line)
    × (h : List Line)
    × IsDue n rows f l p
    × IsForm n rows h
    × (basis_of h ≡ exchanged p.leaves p.enters (basis_of f))
    × Leads n rows h ps g

abbrev pub numbers_from : ℕ → ℕ → List ℕ
numbers_from s zero = []
numbers_from s (suc k) = s ∷ numbers_from (suc s) k

-- a walk from the basis of all slacks to the form g
abbrev pub IsWalk : ℕ → List LinRow → List Pivot → List Line → Type 0
IsWalk n rows ps g =
    (f : List Line) × IsForm n rows f × (basis_of f ≡ numbers_from n (length rows)) × Leads n rows f ps g

-- all numbers are below 2^30 in magnitude
abbrev pub AreNarrow : List ℤ → Type 0
AreNarrow cs = All (λ c. unsigned_abs c < 2 ^ 30) cs

abbrev pub IsNarrow : List Line → Type 0
IsNarrow form = All (λ l. AreNarrow l.1) form

-- how many sets of k things out of n there are
abbrev pub choose : ℕ → ℕ → ℕ
choose n zero = 1
choose zero (suc k) = 0
choose (suc n) (suc k) = choose n k + choose n (suc k)
