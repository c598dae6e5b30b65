-- Where a term is put among terms in monomial order.
use Rattle.std.specs.Prelude.{ℕ, zero, suc, ℤ, ◌+ℤ◌, List, [], ◌∷◌, if◌then◌else◌}
use Rattle.std.specs.Ordering.{is_lt}
use Rattle.mm_poly.specs.declared.term.Term.{Term}
use Rattle.mm_poly.specs.Mono.{mono_cmp}
use Rattle.mm_poly.specs.Poly.{with_coeff}

-- how many terms come before a monomial
abbrev pub place : List (ℕ × ℕ) → List Term → ℕ
place m [] = 0
place m (t ∷ ts) = if is_lt (mono_cmp t.mono m) then suc (place m ts) else 0

-- a number added to the coefficient of the term at a place
abbrev pub added : ℤ → ℕ → List Term → List Term
added c n [] = []
added c zero (t ∷ ts) = with_coeff (c +ℤ t.coeff) t.mono ts
added c (suc n) (t ∷ ts) = t ∷ added c n ts
