-- What holds of each element of lists that are made of others.
use Rattle.std.specs.Prelude.{◌≡◌, ℕ, zero, suc, List, [], ◌∷◌, ◌++◌, map, take, drop, slice_get, Bool, true, false, cond, refl, Some}
use Rattle.std.proofs.Common.{subst}
use Rattle.std.proofs.lemmas.Option.{same_Some}
use Rattle.std.specs.List.{AllByRecursion, filter}

pub all_first : {X : Type 0} (P : X → Type 0) (xs ys : List X) → AllByRecursion P (xs ++ ys) → AllByRecursion P xs
all_first P [] ys a = tt
all_first P (x ∷ xs) ys a = (a.0, all_first P xs ys a.1)

pub all_second : {X : Type 0} (P : X → Type 0) (xs ys : List X) → AllByRecursion P (xs ++ ys) → AllByRecursion P ys
all_second P [] ys a = a
all_second P (x ∷ xs) ys a = all_second P xs ys a.1

pub all_take : {X : Type 0} (P : X → Type 0) (k : ℕ) (xs : List X) → AllByRecursion P xs → AllByRecursion P (take k xs)
all_take P zero xs a = tt
all_take P (suc k) [] a = tt
all_take P (suc k) (x ∷ xs) a = (a.0, all_take P k xs a.1)

pub all_drop : {X : Type 0} (P : X → Type 0) (k : ℕ) (xs : List X) → AllByRecursion P xs → AllByRecursion P (drop k xs)
all_drop P zero xs a = a
all_drop P (suc k) [] a = tt
all_drop P (suc k) (x ∷ xs) a = all_drop P k xs a.1

pub all_at : {X : Type 0} (P : X → Type 0) (xs : List X) (k : ℕ) (x : X) → slice_get xs k ≡ Some x → AllByRecursion P xs → P x
all_at P [] k x e a = absurd cc
all_at P (y ∷ xs) zero x e a = subst P (same_Some y x e) a.0
all_at P (y ∷ xs) (suc k) x e a = all_at P xs k x e a.1

-- an element put back between those before it and those behind it
pub all_around : {X : Type 0} (P : X → Type 0) (xs : List X) (k : ℕ) (x : X) → slice_get xs k ≡ Some x → P x
    → AllByRecursion P (take k xs) → AllByRecursion P (drop (suc k) xs) → AllByRecursion P xs
all_around P [] k x e h a b = tt
all_around P (y ∷ xs) zero x e h a b = (subst P (sym_some y x e) h, b)
  where
    sym_some : {X : Type 0} (y x : X) → Some y ≡ Some x → x ≡ y
    sym_some y x e = cc
all_around P (y ∷ xs) (suc k) x e h a b = (a.0, all_around P xs k x e h a.1 b)

pub all_map : {X Y : Type 0} (P : Y → Type 0) (f : X → Y) (xs : List X) → AllByRecursion (λ x. P (f x)) xs → AllByRecursion P (map f xs)
all_map P f [] a = tt
all_map P f (x ∷ xs) a = (a.0, all_map P f xs a.1)

pub all_unmap : {X Y : Type 0} (P : Y → Type 0) (f : X → Y) (xs : List X) → AllByRecursion P (map f xs) → AllByRecursion (λ x. P (f x)) xs
all_unmap P f [] a = tt
all_unmap P f (x ∷ xs) a = (a.0, all_unmap P f xs a.1)

pub all_with : {X : Type 0} (P Q : X → Type 0) (xs : List X) → ((x : X) → P x → Q x) → AllByRecursion P xs → AllByRecursion Q xs
all_with P Q [] f a = tt
all_with P Q (x ∷ xs) f a = (f x a.0, all_with P Q xs f a.1)

pub all_zip : {X : Type 0} (P Q R : X → Type 0) (xs : List X) → ((x : X) → P x → Q x → R x) → AllByRecursion P xs → AllByRecursion Q xs → AllByRecursion R xs
all_zip P Q R [] f a b = tt
all_zip P Q R (x ∷ xs) f a b = (f x a.0 b.0, all_zip P Q R xs f a.1 b.1)

-- each element that a test keeps passes it
pub all_filter : {X : Type 0} (test : X → Bool) (P Q : X → Type 0) (xs : List X) → ((x : X) → test x ≡ true → P x → Q x) → AllByRecursion P xs → AllByRecursion Q (filter test xs)
all_filter test P Q [] f a = tt
all_filter test P Q (x ∷ xs) f a = by_test (test x) refl (all_filter test P Q xs f a.1)
  where
    by_test : (b : Bool) → test x ≡ b → AllByRecursion Q (filter test xs) → AllByRecursion Q (cond b (x ∷ filter test xs) (filter test xs))
    by_test true e rest = (f x e a.0, rest)
    by_test false e rest = rest
