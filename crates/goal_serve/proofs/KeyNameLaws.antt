-- A list by its items.
use Rattle.std.proofs.Common.{◌≡◌, ℕ, List, length, map, slice_index, EachIndex, sym, ◌∙◌, arith}
use Rattle.std.specs.List.{range_with_len}
use Rattle.std.proofs.lemmas.List.{ext_get_or}
use Rattle.std.proofs.lemmas.List.FromFn.{length-map-range_with_len, get_or-map-range_with_len}

pub of_digits : (f : ℕ → ℕ) (xs : List ℕ) (n : ℕ) → length xs ≡ n → EachIndex xs (λ k. slice_index xs k ≡ f k) → xs ≡ map f (range_with_len 0 n)
of_digits f xs n len each =
    ext_get_or 0 xs (map f (range_with_len 0 n)) (len ∙ sym (length-map-range_with_len f 0 n)) (λ i lt. each i lt ∙ sym (get_or-map-range_with_len f 0 n i i 0 (omega (arith, lt, len)) (omega arith)))
