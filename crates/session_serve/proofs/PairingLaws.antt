-- Two lists, item by item.
use Rattle.std.proofs.Common.{◌≡◌, ℕ, zero, suc, ◌<◌, ◌+◌, List, [], ◌∷◌, ◌++◌, length, take, get_or, refl, sym, ap, subst, arith}
use Rattle.std.proofs.lemmas.List.{take_more}
use Rattle.session_serve.specs.Pairing.{OneEach}

one_more : {A B : Type 0} (P : A → B → Type 0) (xs : List A) (ys : List B) (x : A) (y : B) → OneEach P xs ys → P x y → OneEach P (xs ++ x ∷ []) (ys ++ y ∷ [])
one_more P [] [] x y each p = (p, tt)
one_more P [] (w ∷ ys) x y each p = absurd each
one_more P (z ∷ xs) [] x y each p = absurd each
one_more P (z ∷ xs) (w ∷ ys) x y each p = (each.0, one_more P xs ys x y each.1 p)

-- one more of those that are taken
pub next_taken : {A B : Type 0} (P : A → B → Type 0) (xs : List A) (ys more : List B) (i : ℕ) (d : A) (y : B) → i < length xs → OneEach P (take i xs) ys → P (get_or xs i d) y → more ≡ ys ++ y ∷ []
    → OneEach P (take (i + 1) xs) more
next_taken P xs ys more i d y lt each p e = rw (take_more xs i d lt, e) (one_more P (take i xs) ys (get_or xs i d) y each p)

pub each_weaker : {A B : Type 0} {P Q : A → B → Type 0} → ((x : A) (y : B) → P x y → Q x y) → (xs : List A) (ys : List B) → OneEach P xs ys → OneEach Q xs ys
each_weaker f [] [] each = tt
each_weaker f [] (y ∷ ys) each = absurd each
each_weaker f (x ∷ xs) [] each = absurd each
each_weaker f (x ∷ xs) (y ∷ ys) each = (f x y each.0, each_weaker f xs ys each.1)

pub as_many : {A B : Type 0} (P : A → B → Type 0) (xs : List A) (ys : List B) → OneEach P xs ys → length xs ≡ length ys
as_many P [] [] each = refl
as_many P [] (y ∷ ys) each = absurd each
as_many P (x ∷ xs) [] each = absurd each
as_many P (x ∷ xs) (y ∷ ys) each = ap suc (as_many P xs ys each.1)

pair_at : {A B : Type 0} (P : A → B → Type 0) (xs : List A) (ys : List B) (i : ℕ) (d : A) (e : B) → OneEach P xs ys → i < length xs → P (get_or xs i d) (get_or ys i e)
pair_at P [] ys i d e each lt = absurd (omega (arith, lt))
pair_at P (x ∷ xs) [] i d e each lt = absurd each
pair_at P (x ∷ xs) (y ∷ ys) zero d e each lt = each.0
pair_at P (x ∷ xs) (y ∷ ys) (suc i) d e each lt = pair_at P xs ys i d e each.1 (omega (arith, lt))

-- the items at a place are such a pair
pub pair_is : {A B : Type 0} (P : A → B → Type 0) (xs : List A) (ys : List B) (i : ℕ) (x : A) (y : B) → OneEach P xs ys → i < length xs → x ≡ get_or xs i x → y ≡ get_or ys i y → P x y
pair_is P xs ys i x y each lt e f = subst (λ z. P z y) (sym e) (subst (λ w. P (get_or xs i x) w) (sym f) (pair_at P xs ys i x y each lt))
