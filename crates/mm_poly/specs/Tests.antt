-- The tests that tell whether factors are a monomial and terms a polynomial: each element is compared with the
-- next one.
use Rattle.std.specs.Prelude.{ℕ, ◌+◌, ◌^◌, nat_lt, nat_le, List, [], ◌∷◌, Bool, true, false, cond, ◌&&◌, pos}
use Rattle.std.specs.List.{list_all}
use Rattle.std.specs.Ordering.{is_lt, int_eq}
use Rattle.mm_poly.specs.declared.term.Term.{Term}
use Rattle.mm_poly.specs.Mono.{mono_cmp}
use Rattle.mm_poly.specs.Poly.{norm, spread}

-- the first variable is below the second one
abbrev pub starts_rising : List (ℕ × ℕ) → Bool
starts_rising [] = true
starts_rising (f ∷ []) = true
starts_rising (f ∷ g ∷ gs) = nat_lt f.0 g.0

-- the variables rise, no exponent is 0, and the exponents and `degree` sum to less than 256
abbrev pub rises : ℕ → List (ℕ × ℕ) → Bool
rises degree [] = true
rises degree (f ∷ fs) = (nat_lt 0 f.1 && starts_rising (f ∷ fs)) && (nat_lt (degree + f.1) 256 && rises (degree + f.1) fs)

-- every variable is below 2^32
abbrev pub have_room : List (ℕ × ℕ) → Bool
have_room fs = list_all (λ f. nat_lt f.0 (2 ^ 32)) fs

-- whether factors are a monomial with variables below 2^32, and its degree within the bound
unfoldable pub is_monomial : List (ℕ × ℕ) → Bool
is_monomial fs = rises 0 fs && have_room fs

-- the first term comes before the second one
abbrev pub starts_ordered : List Term → Bool
starts_ordered [] = true
starts_ordered (t ∷ []) = true
starts_ordered (t ∷ u ∷ us) = is_lt (mono_cmp t.mono u.mono)

-- the terms stand in monomial order, and no coefficient is 0
abbrev pub ordered : List Term → Bool
ordered [] = true
ordered (t ∷ ts) = cond (int_eq t.coeff (pos 0)) false (starts_ordered (t ∷ ts) && ordered ts)

-- whether terms are a polynomial with variables below 2^32, within the bounds of norm, spread and degree
unfoldable pub is_polynomial : List Term → Bool
is_polynomial ts = (ordered ts && list_all (λ t. is_monomial t.mono) ts) && (nat_lt (norm ts) (2 ^ 126) && nat_le (spread ts) 65536)
