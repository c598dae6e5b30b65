-- Bytes that are too few for a sign.
use Rattle.std.proofs.Common.{◌≡◌, ℕ, ◌<◌, List, [], ◌∷◌, length, take, None, refl, sym, arith}
use Rattle.goal_token.specs.Words.{lookup, signs_of_3, signs_of_2, signs_of_1}
use Rattle.goal_token.proofs.WordLaws.{by_length}

pub too_few_for_3 : (bytes : List ℕ) → length bytes < 3 → lookup (take 3 bytes) signs_of_3 ≡ None
unfolding signs_of_3
too_few_for_3 [] lt = refl
too_few_for_3 (a ∷ []) lt = sym (by_length 1 (a ∷ []) signs_of_3 refl)
too_few_for_3 (a ∷ b ∷ []) lt = sym (by_length 2 (a ∷ b ∷ []) signs_of_3 refl)
too_few_for_3 (a ∷ b ∷ c ∷ bytes) lt = absurd (omega arith)

pub too_few_for_2 : (bytes : List ℕ) → length bytes < 2 → lookup (take 2 bytes) signs_of_2 ≡ None
unfolding signs_of_2
too_few_for_2 [] lt = refl
too_few_for_2 (a ∷ []) lt = sym (by_length 1 (a ∷ []) signs_of_2 refl)
too_few_for_2 (a ∷ b ∷ bytes) lt = absurd (omega arith)

pub too_few_for_1 : (bytes : List ℕ) → length bytes < 1 → lookup (take 1 bytes) signs_of_1 ≡ None
unfolding signs_of_1
too_few_for_1 [] lt = refl
too_few_for_1 (a ∷ bytes) lt = absurd (omega arith)
