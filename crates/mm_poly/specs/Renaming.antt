-- Variables exchanged by others.
use Rattle.std.specs.Prelude.{ℕ, ◌<◌, List, [], ◌∷◌, map, slice_index_or}
use Rattle.mm_poly.specs.declared.term.Term.{Term}
use Rattle.mm_poly.specs.Mono.{times_factor}
use Rattle.mm_poly.specs.Poly.{plus}

-- the number at each variable's place, 0 past the end
abbrev pub by_table : List ℕ → ℕ → ℕ
by_table table v = slice_index_or table v 0

abbrev pub renamed_mono : (ℕ → ℕ) → List (ℕ × ℕ) → List (ℕ × ℕ)
renamed_mono r [] = []
renamed_mono r (f ∷ fs) = times_factor (r f.0, f.1) (renamed_mono r fs)

abbrev pub renamed_term : (ℕ → ℕ) → Term → Term
renamed_term r t = record { coeff = t.coeff; mono = renamed_mono r t.mono }

abbrev pub renamed_terms : (ℕ → ℕ) → List Term → List Term
renamed_terms r ts = map (renamed_term r) ts

-- each variable exchanged, and what becomes the same monomial joined
abbrev pub renamed : (ℕ → ℕ) → List Term → List Term
renamed r ts = plus (renamed_terms r ts) []

-- of variables below n the smaller gets the smaller one
abbrev pub Rises : ℕ → (ℕ → ℕ) → Type 0
Rises n r = (v w : ℕ) → v < w → w < n → r v < r w
