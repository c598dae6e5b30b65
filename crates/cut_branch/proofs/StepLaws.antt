-- Steps of the loops over a point's values, and over terms.
use Rattle.std.specs.Prelude.{◌≡◌, ℕ, zero, suc, ◌+◌, ◌<◌, ℤ, pos, ◌*ℤ◌, List, [], ◌∷◌, ◌++◌, length, take, Some, slice_get}
use Rattle.std.proofs.Common.{ap, sym, ◌∙◌, subst, arith, get_or}
use Rattle.std.specs.List.{AllByRecursion}
use Rattle.mm_num.proofs.Ring.{assoc}
use Rattle.mm_num.proofs.ListLaws.{all_join}
use Rattle.cut_branch.specs.Points.{IsIntegral}
use Rattle.cut_branch.specs.machine.Scaling.{AreOver, IsFractional}

-- a multiple of the denominator, as many times the numerator
pub numerator_is : (n t a b h : ℤ) → t *ℤ b ≡ h → n ≡ a *ℤ t → n *ℤ b ≡ a *ℤ h
numerator_is n t a b h e f = ap (λ z. z *ℤ b) f ∙ assoc a t b ∙ ap (λ z. a *ℤ z) e

over_more : (h n : ℤ) (ns : List ℤ) (xs : List (ℤ × ℤ)) (x : ℤ × ℤ) → AreOver h ns xs → n *ℤ x.1 ≡ x.0 *ℤ h → AreOver h (ns ++ n ∷ []) (xs ++ x ∷ [])
over_more h n [] [] x a e = (e, tt)
over_more h n [] (y ∷ xs) x a e = absurd a
over_more h n (m ∷ ns) [] x a e = absurd a
over_more h n (m ∷ ns) (y ∷ xs) x a e = (a.0, over_more h n ns xs x a.1 e)

pub front_more : (xs : List (ℤ × ℤ)) (i : ℕ) (x d : ℤ × ℤ) → i < length xs → x ≡ get_or xs i d → take (i + 1) xs ≡ take i xs ++ x ∷ []
front_more [] i x d h e = absurd (omega arith)
front_more (y ∷ xs) zero x d h e = ap (λ (z : ℤ × ℤ). z ∷ []) (sym e)
front_more (y ∷ xs) (suc i) x d h e =
    let s : suc i + 1 ≡ suc (i + 1) = omega arith in
    ap (λ n. take n (y ∷ xs)) s ∙ ap (λ (zs : List (ℤ × ℤ)). y ∷ zs) (front_more xs i x d (omega arith) e)

pub over_next : (h n : ℤ) (ns new : List ℤ) (xs : List (ℤ × ℤ)) (i : ℕ) (x d : ℤ × ℤ) → i < length xs → x ≡ get_or xs i d → AreOver h ns (take i xs) → n *ℤ x.1 ≡ x.0 *ℤ h
    → new ≡ ns ++ n ∷ [] → AreOver h new (take (i + 1) xs)
over_next h n ns new xs i x d l is a e f =
    subst (λ (ms : List ℤ). AreOver h ms (take (i + 1) xs)) (sym f)
    (subst (λ (ys : List (ℤ × ℤ)). AreOver h (ns ++ n ∷ []) ys) (sym (front_more xs i x d l is)) (over_more h n ns (take i xs) x a e))

pub all_next : (P : ℤ × ℤ → Type 0) (xs : List (ℤ × ℤ)) (i : ℕ) (x d : ℤ × ℤ) → i < length xs → x ≡ get_or xs i d → AllByRecursion P (take i xs) → P x
    → AllByRecursion P (take (i + 1) xs)
all_next P xs i x d l is a p = subst (λ (ys : List (ℤ × ℤ)). AllByRecursion P ys) (sym (front_more xs i x d l is)) (all_join P (take i xs) (x ∷ []) a (p, tt))

-- one value that isn't whole
pub not_integral : (xs : List (ℤ × ℤ)) (i : ℕ) (x d : ℤ × ℤ) → i < length xs → x ≡ get_or xs i d → (x.1 ≡ pos 1 → ⊥) → IsIntegral xs → ⊥
not_integral [] i x d l is n a = absurd (omega arith)
not_integral (y ∷ xs) zero x d l is n a = n (ap (λ (z : ℤ × ℤ). z.1) is ∙ a.0)
not_integral (y ∷ xs) (suc i) x d l is n a = not_integral xs i x d (omega arith) is n a.1

pub get_here : {A : Type 0} → (xs : List A) (i : ℕ) (x d : A) → i < length xs → x ≡ get_or xs i d → slice_get xs i ≡ Some x
get_here [] i x d l is = absurd (omega arith)
get_here (y ∷ xs) zero x d l is = let e : y ≡ x = sym is in ap Some e
get_here (y ∷ xs) (suc i) x d l is = get_here xs i x d (omega arith) is

pub fractional_here : (xs : List (ℤ × ℤ)) (i : ℕ) (x d : ℤ × ℤ) → i < length xs → x ≡ get_or xs i d → (x.1 ≡ pos 1 → ⊥) → IsFractional xs i
fractional_here xs i x d l is n = record { value = x; here = get_here xs i x d l is; split = n }

pub get_inside : (xs : List (ℤ × ℤ)) (i : ℕ) (x : ℤ × ℤ) → slice_get xs i ≡ Some x → i < length xs
get_inside [] i x e = absurd cc
get_inside (y ∷ xs) zero x e = omega arith
get_inside (y ∷ xs) (suc i) x e = let l = get_inside xs i x e in omega (arith, l)
