-- The first element of a list made of others that passes a test.
use Rattle.std.specs.Prelude.{◌≡◌, List, [], ◌∷◌, ◌++◌, map, Bool, true, false, cond, Some, None, refl}
use Rattle.std.specs.List.{find}
use Rattle.std.proofs.Common.{ap, sym, ◌∙◌}

pub find_here : {A : Type 0} → (test : A → Bool) (x : A) (xs : List A) → test x ≡ true → find test (x ∷ xs) ≡ Some x
find_here test x xs e = ap (λ b. cond b (Some x) (find test xs)) e

pub find_later : {A : Type 0} → (test : A → Bool) (x : A) (xs : List A) → test x ≡ false → find test (x ∷ xs) ≡ find test xs
find_later test x xs e = ap (λ b. cond b (Some x) (find test xs)) e

pub find_first : {A : Type 0} → (test : A → Bool) (xs ys : List A) (x : A) → find test xs ≡ Some x → find test (xs ++ ys) ≡ Some x
find_first test [] ys x e = absurd cc
find_first test (y ∷ xs) ys x e = by_test (test y) (find_first test xs ys x) e
  where
    by_test : (b : Bool) → (find test xs ≡ Some x → find test (xs ++ ys) ≡ Some x) → cond b (Some y) (find test xs) ≡ Some x → cond b (Some y) (find test (xs ++ ys)) ≡ Some x
    by_test true f h = h
    by_test false f h = f h

pub find_second : {A : Type 0} → (test : A → Bool) (xs ys : List A) → find test xs ≡ None → find test (xs ++ ys) ≡ find test ys
find_second test [] ys e = refl
find_second test (y ∷ xs) ys e = by_test (test y) (find_second test xs ys) e
  where
    by_test : (b : Bool) → (find test xs ≡ None → find test (xs ++ ys) ≡ find test ys) → cond b (Some y) (find test xs) ≡ None → cond b (Some y) (find test (xs ++ ys)) ≡ find test ys
    by_test true f h = absurd cc
    by_test false f h = f h

pub find_map : {A B : Type 0} → (test : B → Bool) (f : A → B) (xs : List A) (x : A) → find (λ y. test (f y)) xs ≡ Some x → find test (map f xs) ≡ Some (f x)
find_map test f [] x e = absurd cc
find_map test f (y ∷ xs) x e = by_test (test (f y)) (find_map test f xs x) e
  where
    by_test : (b : Bool) → (find (λ z. test (f z)) xs ≡ Some x → find test (map f xs) ≡ Some (f x)) → cond b (Some y) (find (λ z. test (f z)) xs) ≡ Some x → cond b (Some (f y)) (find test (map f xs)) ≡ Some (f x)
    by_test true g h = let e : y ≡ x = cc in ap (λ z. Some (f z)) e
    by_test false g h = g h

pub find_map_none : {A B : Type 0} → (test : B → Bool) (f : A → B) (xs : List A) → find (λ y. test (f y)) xs ≡ None → find test (map f xs) ≡ None
find_map_none test f [] e = refl
find_map_none test f (y ∷ xs) e = by_test (test (f y)) (find_map_none test f xs) e
  where
    by_test : (b : Bool) → (find (λ z. test (f z)) xs ≡ None → find test (map f xs) ≡ None) → cond b (Some y) (find (λ z. test (f z)) xs) ≡ None → cond b (Some (f y)) (find test (map f xs)) ≡ None
    by_test true g h = absurd cc
    by_test false g h = g h

-- tests that agree find the same
pub find_same : {A : Type 0} → (s t : A → Bool) (xs : List A) → ((x : A) → s x ≡ t x) → find s xs ≡ find t xs
find_same s t [] f = refl
find_same s t (x ∷ xs) f = ap (λ b. cond b (Some x) (find s xs)) (f x) ∙ ap (λ o. cond (t x) (Some x) o) (find_same s t xs f)

-- what is found passes
pub find_passes : {A : Type 0} → (test : A → Bool) (xs : List A) (x : A) → find test xs ≡ Some x → test x ≡ true
find_passes test [] x e = absurd cc
find_passes test (y ∷ xs) x e = by_test (test y) refl (find_passes test xs x) e
  where
    by_test : (b : Bool) → test y ≡ b → (find test xs ≡ Some x → test x ≡ true) → cond b (Some y) (find test xs) ≡ Some x → test x ≡ true
    by_test true t f h = let s : y ≡ x = cc in ap test (sym s) ∙ t
    by_test false t f h = f h
