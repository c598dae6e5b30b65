-- The item at a place of a list, and those from there on.
use Rattle.std.proofs.Common.{◌≡◌, ℕ, zero, suc, ◌+◌, List, [], ◌∷◌, ◌++◌, drop, length, Some, None, refl, sym, ap, ◌∙◌, length-append, arith}
use Rattle.std.specs.Prelude.{slice_get}

pub got : {A : Type 0} → (xs : List A) (i : ℕ) (x : A) → slice_get xs i ≡ Some x → drop i xs ≡ x ∷ drop (i + 1) xs
got xs i x e = let next : suc i ≡ i + 1 = omega arith in by_suc xs i x e ∙ ap (λ j. x ∷ drop j xs) next
  where
    by_suc : {A : Type 0} → (xs : List A) (i : ℕ) (x : A) → slice_get xs i ≡ Some x → drop i xs ≡ x ∷ drop (suc i) xs
    by_suc [] i x e = absurd (cc)
    by_suc (y ∷ xs) zero x e = cc
    by_suc (y ∷ xs) (suc i) x e = by_suc xs i x e

pub first_of : {A : Type 0} → (xs : List A) (i : ℕ) (x : A) (ys : List A) → drop i xs ≡ x ∷ ys → slice_get xs i ≡ Some x
first_of [] zero x ys e = absurd (cc)
first_of [] (suc i) x ys e = absurd (cc)
first_of (y ∷ xs) zero x ys e = cc
first_of (y ∷ xs) (suc i) x ys e = first_of xs i x ys e

pub others_of : {A : Type 0} → (xs : List A) (i : ℕ) (x : A) (ys : List A) → drop i xs ≡ x ∷ ys → drop (i + 1) xs ≡ ys
others_of xs i x ys e = let next : i + 1 ≡ suc i = omega arith in ap (λ j. drop j xs) next ∙ by_suc xs i x ys e
  where
    by_suc : {A : Type 0} → (xs : List A) (i : ℕ) (x : A) (ys : List A) → drop i xs ≡ x ∷ ys → drop (suc i) xs ≡ ys
    by_suc [] zero x ys e = absurd (cc)
    by_suc [] (suc i) x ys e = absurd (cc)
    by_suc (y ∷ xs) zero x ys e = cc
    by_suc (y ∷ xs) (suc i) x ys e = by_suc xs i x ys e

-- a list that is as long as its front is that front
pub no_more : {A : Type 0} → (xs ys more : List A) → xs ≡ ys ++ more → length ys ≡ length xs → xs ≡ ys
no_more xs ys [] e same = e ∙ append_nil ys
  where
    append_nil : {A : Type 0} → (ys : List A) → ys ++ [] ≡ ys
    append_nil [] = refl
    append_nil (y ∷ ys) = ap (λ zs. y ∷ zs) (append_nil ys)
no_more xs ys (m ∷ more) e same = absurd (omega (arith, ap length e, length-append ys (m ∷ more), same))
