-- The products of two polynomials' terms, before equal monomials are joined.
use Rattle.std.specs.Prelude.{◌≢◌, ℕ, ℤ, pos, ◌+ℤ◌, ◌*ℤ◌, List, [], ◌∷◌, ◌++◌}
use Rattle.std.specs.declared.cmp.Ordering.TheVariants.{Greater}
use Rattle.mm_poly.specs.declared.term.Term.{Term}
use Rattle.mm_poly.specs.Mono.{mono_cmp, mono_times}
use Rattle.mm_poly.specs.Poly.{coeff_of}

abbrev pub term_times : Term → Term → Term
term_times t u = record { coeff = t.coeff *ℤ u.coeff; mono = mono_times t.mono u.mono }

-- a term times each term
abbrev pub term_products : Term → List Term → List Term
term_products t [] = []
term_products t (u ∷ us) = term_times t u ∷ term_products t us

-- each term of one times each term of the other
abbrev pub all_products : List Term → List Term → List Term
all_products [] q = []
all_products (t ∷ p) q = term_products t q ++ all_products p q

-- the sum of a monomial's coefficients
abbrev pub total_of : List Term → List (ℕ × ℕ) → ℤ
total_of [] m = pos 0
total_of (t ∷ ts) m = coeff_of (t ∷ []) m +ℤ total_of ts m

-- no coefficient is 0
abbrev pub AllNonZero : List Term → Type 0
AllNonZero [] = Unit {0}
AllNonZero (t ∷ ts) = (t.coeff ≢ pos 0) × AllNonZero ts

-- a term doesn't come after a monomial
abbrev pub NotAfter : List (ℕ × ℕ) → Term → Type 0
NotAfter m t = mono_cmp t.mono m ≢ Greater
