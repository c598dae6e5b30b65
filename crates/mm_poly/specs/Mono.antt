-- Monomials: a finite map from variables to exponents of at least 1, written as the list of its factors.
use Rattle.std.specs.Prelude.{ℕ, ◌+◌, ◌^◌, ◌<◌, ◌≤◌, ◌==◌, ℤ, pos, ◌*ℤ◌, List, [], ◌∷◌, Bool, true, false, cond, not, ◌++◌, replicate}
use Rattle.std.specs.List.{filter}
use Rattle.std.specs.declared.cmp.Ordering.{Ordering}
use Rattle.std.specs.declared.cmp.Ordering.TheVariants.{Less, Equal, Greater}
use Rattle.std.specs.Ordering.{nat_cmp, ordering_then}
use Rattle.std.specs.Cmp.Lexicographic.{slice_cmp}
use Rattle.mm_num.specs.Power.{power}

-- a monomial's value at a point
abbrev pub mono_value : (ℕ → ℤ) → List (ℕ × ℕ) → ℤ
mono_value x [] = pos 1
mono_value x (f ∷ fs) = power (x f.0) f.1 *ℤ mono_value x fs

-- the sum of its exponents
abbrev pub mono_degree : List (ℕ × ℕ) → ℕ
mono_degree [] = 0
mono_degree (f ∷ fs) = f.1 + mono_degree fs

-- the constant monomial has no factor
abbrev pub is_constant : List (ℕ × ℕ) → Bool
is_constant [] = true
is_constant (f ∷ fs) = false

-- every variable is above this one
abbrev pub VarsAbove : ℕ → List (ℕ × ℕ) → Type 0
VarsAbove v [] = Unit {0}
VarsAbove v (f ∷ fs) = (v < f.0) × VarsAbove v fs

-- the variables rise, and each exponent is at least 1
abbrev pub IsMono : List (ℕ × ℕ) → Type 0
IsMono [] = Unit {0}
IsMono (f ∷ fs) = (1 ≤ f.1) × VarsAbove f.0 fs × IsMono fs

-- the smaller variable first, and then the higher exponent
abbrev pub factor_cmp : (ℕ × ℕ) → (ℕ × ℕ) → Ordering
factor_cmp f g = ordering_then (nat_cmp f.0 g.0) (nat_cmp g.1 f.1)

-- The monomial order: the higher degree first; with equal degrees the lists of variables, each repeated by its
-- exponent, are compared, and the smaller comes first. So x0^2, x0*x1, x1^2, x0, x1, and the constant last.
abbrev pub mono_cmp : List (ℕ × ℕ) → List (ℕ × ℕ) → Ordering
mono_cmp a b = ordering_then (nat_cmp (mono_degree b) (mono_degree a)) (slice_cmp factor_cmp a b)

-- each variable as often as its exponent says
abbrev pub repeated : List (ℕ × ℕ) → List ℕ
repeated [] = []
repeated (f ∷ fs) = replicate f.1 f.0 ++ repeated fs

-- a factor times a monomial
abbrev pub times_factor : (ℕ × ℕ) → List (ℕ × ℕ) → List (ℕ × ℕ)
times_factor f [] = f ∷ []
times_factor f (g ∷ gs) = elim (nat_cmp f.0 g.0) [
  | Less ↦ f ∷ g ∷ gs
  | Equal ↦ (f.0, f.1 + g.1) ∷ gs
  | Greater ↦ g ∷ times_factor f gs
]

-- a product of monomials: the exponents of a variable are added
abbrev pub mono_times : List (ℕ × ℕ) → List (ℕ × ℕ) → List (ℕ × ℕ)
mono_times [] b = b
mono_times (f ∷ fs) b = times_factor f (mono_times fs b)

-- every variable is below this one
abbrev pub VarsBelow : ℕ → List (ℕ × ℕ) → Type 0
VarsBelow n [] = Unit {0}
VarsBelow n (f ∷ fs) = (f.0 < n) × VarsBelow n fs

-- a monomial with variables below 2^32, and its degree within the bound
pub record IsMonomial (factors : List (ℕ × ℕ)) : Type 0 where
  pub order : IsMono factors
  pub degree : mono_degree factors ≤ 255
  pub room : VarsBelow (2 ^ 32) factors

-- the exponent of a variable, 0 where it doesn't occur
abbrev pub exponent_of : List (ℕ × ℕ) → ℕ → ℕ
exponent_of [] v = 0
exponent_of (f ∷ fs) v = cond (f.0 == v) f.1 (exponent_of fs v)

-- the factors of the other variables
abbrev pub without_variable : List (ℕ × ℕ) → ℕ → List (ℕ × ℕ)
without_variable fs v = filter (λ f. not (f.0 == v)) fs

-- the same monomial but for the exponent of a variable, which becomes this one
abbrev pub with_exponent : List (ℕ × ℕ) → ℕ → ℕ → List (ℕ × ℕ)
with_exponent fs v n = cond (n == 0) (without_variable fs v) (times_factor (v, n) (without_variable fs v))
