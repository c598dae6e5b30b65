-- What the code computes: a form as a list of lines, and one exchange over whole numbers.
use Rattle.std.specs.Prelude.{◌≡◌, ◌⊎◌, ◌<◌, ◌≤◌, ℕ, Option, Some, None, length, get_or, zero, suc, ◌+◌, if◌then◌else◌, ◌==◌, List, [], ◌∷◌, ◌++◌, take, drop, map, ℤ, pos, ◌+ℤ◌, ◌*ℤ◌, neg_ℤ, unsigned_abs, int_lt}
use Rattle.std.specs.List.{All}
use Rattle.std.specs.Ordering.{int_eq}
use Rattle.mm_num.specs.Divisor.{gcd_of}
use Rattle.mm_num.specs.Frac.{IsFraction, HasValue}
use Rattle.mm_num.specs.Quotient.{floor_by}
use Rattle.simplex_core.specs.declared.row.LinRow.{LinRow}
use Rattle.simplex_core.specs.Form.{at, Among, Distinct, one_of, Line, basis_of}
use Rattle.simplex_core.specs.Walk.{AreNarrow, IsBroken, IsLeastBroken, IsOutside, CanMend}

-- each number of the other sign
abbrev pub negated : List ℤ → List ℤ
negated cs = map neg_ℤ cs

-- a times one list and b times another, place by place
abbrev pub combined : ℤ → ℤ → List ℤ → List ℤ → List ℤ
combined a b [] ds = []
combined a b (c ∷ cs) [] = []
combined a b (c ∷ cs) (d ∷ ds) = (a *ℤ c +ℤ b *ℤ d) ∷ combined a b cs ds

-- the greatest common divisor of all
abbrev pub content : List ℤ → ℕ
content [] = 0
content (c ∷ cs) = gcd_of (unsigned_abs c) (content cs)

-- each number divided
abbrev pub divided : ℕ → List ℤ → List ℤ
divided g cs = map (λ c. floor_by c g) cs

abbrev pub lowered : List ℤ → List ℤ
lowered cs = divided (content cs) cs

-- the line without e, by the line p that is solved for e
abbrev pub swept : ℕ → List ℤ → List ℤ → List ℤ
swept e p cs = if int_eq (at cs e) (pos 0) then cs else lowered (combined (at p e) (neg_ℤ (at cs e)) cs p)

-- the line with a number at e above 0
abbrev pub turned : ℕ → List ℤ → List ℤ
turned e cs = if int_lt (at cs e) (pos 0) then negated cs else cs

-- a line after the exchange of s for e
abbrev pub moved : ℕ → ℕ → List ℤ → Line → Line
moved s e p l = (if l.0 == s then e else l.0, if l.0 == s then p else swept e p l.1)

abbrev pub pivoted : ℕ → ℕ → List ℤ → List Line → List Line
pivoted s e p form = map (moved s e p) form

abbrev pub zeros : ℕ → List ℤ
zeros zero = []
zeros (suc m) = pos 0 ∷ zeros m

-- m places, with 1 at the place i
abbrev pub mark : ℕ → ℕ → List ℤ
mark zero i = []
mark (suc m) zero = pos 1 ∷ zeros m
mark (suc m) (suc i) = pos 0 ∷ mark m i

-- the equation of the slack i among m: minus the coefficients, 1 at the slack, minus the constant
abbrev pub first_line : ℕ → ℕ → ℕ → LinRow → Line
first_line n m i r = (n + i, negated r.coeffs.items ++ (mark m i ++ (neg_ℤ r.constant ∷ [])))

abbrev pub first_lines : ℕ → ℕ → ℕ → List LinRow → List Line
first_lines n m i [] = []
first_lines n m i (r ∷ rs) = first_line n m i r ∷ first_lines n m (suc i) rs

-- the numbers of the slacks
abbrev pub slacks_of : ℕ → ℕ → List ℤ → List ℤ
slacks_of n m cs = take m (drop n cs)

-- a slack isn't below 0 where nothing is broken, and that of an equality is 0
abbrev pub NoneBroken : ℕ → List LinRow → List Line → Type 0
NoneBroken n rows form = (k : Line) → Among k form → IsBroken n rows k → ⊥

-- nothing can mend the line
abbrev pub NoneMends : ℕ → List LinRow → List Line → Line → Type 0
NoneMends n rows form l = (e : ℕ) → IsOutside n rows form e → CanMend n rows l e → ⊥

-- the line at a place
abbrev pub line_at : List Line → ℕ → Line
line_at form k = get_or form k (0, [])

-- the place of the least broken slack's line
pub record IsLeastAt (n : ℕ) (rows : List LinRow) (form : List Line) (i : ℕ) : Type 0 where
  pub inside : i < length form
  pub least : IsLeastBroken n rows form (line_at form i)

-- of two places that with the lesser variable
abbrev pub IsLesser : List Line → Option ℕ → ℕ → ℕ → Type 0
IsLesser form None i j = j ≡ i
IsLesser form (Some b) i j =
    ((j ≡ b) × ((line_at form b).0 ≤ (line_at form i).0)) ⊎ ((j ≡ i) × ((line_at form i).0 < (line_at form b).0))

-- the least variable that can mend the line
pub record IsFirstMender (n : ℕ) (rows : List LinRow) (l : Line) (e : ℕ) : Type 0 where
  pub inside : e < one_of n rows
  pub mends : CanMend n rows l e
  pub first : (k : ℕ) → k < e → CanMend n rows l k → ⊥

abbrev pub swept_by : ℕ → List ℤ → Line → Line
swept_by e p l = (l.0, swept e p l.1)

abbrev pub swept_all : ℕ → List ℤ → List Line → List Line
swept_all e p form = map (swept_by e p) form

-- a line of so many numbers below 2^30
pub record IsSweepable (size : ℕ) (l : Line) : Type 0 where
  pub long : length l.1 ≡ size
  pub narrow : AreNarrow l.1

-- a form whose line at the place i can be solved for e
pub record CanExchange (form : List Line) (i e : ℕ) : Type 0 where
  pub inside : i < length form
  pub distinct : Distinct (basis_of form)
  pub sweepable : All (IsSweepable (length (line_at form i).1)) form
  pub place : e < length (line_at form i).1

-- the fraction of a basic variable by its line, and 0 outside the basis
pub record IsValueOf (one : ℕ) (form : List Line) (j : ℕ) (x : ℤ × ℤ) : Type 0 where
  pub fraction : IsFraction x
  pub basic : (l : Line) → Among l form → l.0 ≡ j → HasValue x (neg_ℤ (at l.1 one)) (at l.1 l.0)
  pub outside : (Among j (basis_of form) → ⊥) → x.0 ≡ pos 0

-- of the variables from s on
abbrev pub AreValues : ℕ → List Line → ℕ → List (ℤ × ℤ) → Type 0
AreValues one form s [] = Unit {0}
AreValues one form s (x ∷ xs) = IsValueOf one form s x × AreValues one form (suc s) xs
