-- Polynomials: a finite map from monomials to integers other than 0, written as the list of its terms in
-- monomial order.
use Rattle.std.specs.Prelude.{◌≡◌, ◌≢◌, ℕ, ◌+◌, ◌^◌, ◌<◌, ◌≤◌, max, ℤ, pos, ◌+ℤ◌, ◌*ℤ◌, unsigned_abs, neg_ℤ, List, [], ◌∷◌, length, Bool, true, false, not, ◌&&◌, cond}
use Rattle.std.specs.declared.cmp.Ordering.TheVariants.{Less, Equal, Greater}
use Rattle.std.specs.declared.cmp.Ordering.{Ordering}
use Rattle.std.specs.Ordering.{int_eq, is_eq, int_cmp, ordering_then}
use Rattle.std.specs.Cmp.Lexicographic.{slice_cmp}
use Rattle.std.specs.Int.{◌∣◌}
use Rattle.std.specs.List.{AllByRecursion, filter}
use Rattle.mm_num.specs.Quotient.{floor_by}
use Rattle.mm_num.specs.Divisor.{gcd_of}
use Rattle.mm_poly.specs.declared.term.Term.{Term}
use Rattle.mm_poly.specs.Mono.{mono_value, mono_degree, mono_cmp, mono_times, is_constant, IsMono, VarsBelow}

abbrev pub term_value : (ℕ → ℤ) → Term → ℤ
term_value x t = t.coeff *ℤ mono_value x t.mono

-- the value at an integer point, where a point gives each variable a value
abbrev pub value : (ℕ → ℤ) → List Term → ℤ
value x [] = pos 0
value x (t ∷ ts) = term_value x t +ℤ value x ts

-- the value where each monomial counts for itself, with a weight
abbrev pub linear_value : (List (ℕ × ℕ) → ℤ) → List Term → ℤ
linear_value w [] = pos 0
linear_value w (t ∷ ts) = t.coeff *ℤ w t.mono +ℤ linear_value w ts

-- the same weights but for one monomial
abbrev pub with_weight : (List (ℕ × ℕ) → ℤ) → List (ℕ × ℕ) → ℤ → List (ℕ × ℕ) → ℤ
with_weight w u z m = cond (is_eq (mono_cmp m u)) z (w m)

-- the sum of the coefficients' magnitudes
abbrev pub norm : List Term → ℕ
norm [] = 0
norm (t ∷ ts) = unsigned_abs t.coeff + norm ts

-- the number of terms
abbrev pub spread : List Term → ℕ
spread ts = length ts

-- the greatest degree of a term, 0 where there is none
abbrev pub degree : List Term → ℕ
degree [] = 0
degree (t ∷ ts) = max (mono_degree t.mono) (degree ts)

-- the coefficient of a monomial, 0 where it doesn't occur
abbrev pub coeff_of : List Term → List (ℕ × ℕ) → ℤ
coeff_of [] m = pos 0
coeff_of (t ∷ ts) m = cond (is_eq (mono_cmp t.mono m)) t.coeff (coeff_of ts m)

-- every term comes after this monomial
abbrev pub AllAfter : List (ℕ × ℕ) → List Term → Type 0
AllAfter m [] = Unit {0}
AllAfter m (t ∷ ts) = (mono_cmp m t.mono ≡ Less) × AllAfter m ts

-- the terms stand in monomial order, and no coefficient is 0
abbrev pub IsPoly : List Term → Type 0
IsPoly [] = Unit {0}
IsPoly (t ∷ ts) = (t.coeff ≢ pos 0) × AllAfter t.mono ts × IsPoly ts

-- every term's monomial is one of these
abbrev pub EachMono : (List (ℕ × ℕ) → Type 0) → List Term → Type 0
EachMono P ts = AllByRecursion (λ (t : Term). P t.mono) ts

-- every monomial is one
abbrev pub AllMono : List Term → Type 0
AllMono = EachMono IsMono

-- every variable has one of this many places
abbrev pub HasPlaces : ℕ → List Term → Type 0
HasPlaces n = EachMono (VarsBelow n)

-- a polynomial with variables below 2^32, within the bounds of norm, spread and degree
pub record Fits (terms : List Term) : Type 0 where
  pub order : IsPoly terms
  pub monos : AllMono terms
  pub room : HasPlaces (2 ^ 32) terms
  pub norm : norm terms < 2 ^ 126
  pub spread : spread terms ≤ 65536
  pub degree : degree terms ≤ 255

-- a term put in front, left out where its coefficient is 0
abbrev pub with_coeff : ℤ → List (ℕ × ℕ) → List Term → List Term
with_coeff c m ts = cond (int_eq c (pos 0)) ts (record { coeff = c; mono = m } ∷ ts)

-- a term added at its place, joined to the term of the same monomial
abbrev pub add_term : Term → List Term → List Term
add_term t [] = t ∷ []
add_term t (u ∷ us) = elim (mono_cmp t.mono u.mono) [
  | Less ↦ t ∷ u ∷ us
  | Equal ↦ with_coeff (t.coeff +ℤ u.coeff) u.mono us
  | Greater ↦ u ∷ add_term t us
]

-- the sum
abbrev pub plus : List Term → List Term → List Term
plus [] q = q
plus (t ∷ p) q = add_term t (plus p q)

-- a multiple
abbrev pub scaled : ℤ → List Term → List Term
scaled c [] = []
scaled c (t ∷ ts) = with_coeff (c *ℤ t.coeff) t.mono (scaled c ts)

-- a term times each term; their monomials may need to be put in order again
abbrev pub times_term : Term → List Term → List Term
times_term t [] = []
times_term t (u ∷ us) = add_term (record { coeff = t.coeff *ℤ u.coeff; mono = mono_times t.mono u.mono }) (times_term t us)

-- the product
abbrev pub times : List Term → List Term → List Term
times [] q = []
times (t ∷ p) q = plus (times_term t q) (times p q)

-- the constant polynomial, without terms for 0
abbrev pub constant_of : ℤ → List Term
constant_of c = with_coeff c [] []

-- the polynomial of one variable
abbrev pub variable_of : ℕ → List Term
variable_of v = record { coeff = pos 1; mono = (v, 1) ∷ [] } ∷ []

-- the sum of the coefficients of the constant monomial, of which a polynomial has at most one
abbrev pub constant_part : List Term → ℤ
constant_part [] = pos 0
constant_part (t ∷ ts) = cond (is_constant t.mono) (t.coeff +ℤ constant_part ts) (constant_part ts)

-- the terms that aren't constant
abbrev pub without_constant : List Term → List Term
without_constant [] = []
without_constant (t ∷ ts) = cond (is_constant t.mono) (without_constant ts) (t ∷ without_constant ts)

-- the greatest divisor common to the coefficients that aren't constant, 0 where there are none
abbrev pub content : List Term → ℕ
content [] = 0
content (t ∷ ts) = cond (is_constant t.mono) (content ts) (gcd_of (unsigned_abs t.coeff) (content ts))

-- a number divides the coefficient of each term
abbrev pub DividesAll : ℕ → List Term → Type 0
DividesAll g [] = Unit {0}
DividesAll g (t ∷ ts) = (g ∣ unsigned_abs t.coeff) × DividesAll g ts

-- it divides each coefficient that isn't constant, and each number that does so divides it
pub record IsContent (terms : List Term) (g : ℕ) : Type 0 where
  pub divides : DividesAll g (without_constant terms)
  pub greatest : (d : ℕ) → DividesAll d (without_constant terms) → d ∣ g

-- each coefficient divided by g, from 1, and rounded down; terms that get 0 are left out
abbrev pub floor_divided : ℕ → List Term → List Term
floor_divided g [] = []
floor_divided g (t ∷ ts) = with_coeff (floor_by t.coeff g) t.mono (floor_divided g ts)

-- terms in any order summed, each monomial once; a term with the coefficient 0 counts for nothing
abbrev pub nonzero_terms : List Term → List Term
nonzero_terms ts = filter (λ t. not (int_eq t.coeff (pos 0))) ts

abbrev pub joined : List Term → List Term
joined ts = plus (nonzero_terms ts) []

-- whether the second polynomial is the first times -1
abbrev pub is_opposite : List Term → List Term → Bool
is_opposite [] [] = true
is_opposite (t ∷ ts) (u ∷ us) = is_eq (mono_cmp t.mono u.mono) && (int_eq u.coeff (neg_ℤ t.coeff) && is_opposite ts us)
is_opposite [] (u ∷ us) = false
is_opposite (t ∷ ts) [] = false

-- by the monomial, and then by the coefficient
abbrev pub term_cmp : Term → Term → Ordering
term_cmp t u = ordering_then (mono_cmp t.mono u.mono) (int_cmp t.coeff u.coeff)

-- term by term: the first that differ decide, and else the polynomial with fewer terms comes first
abbrev pub poly_cmp : List Term → List Term → Ordering
poly_cmp p q = slice_cmp term_cmp p q
