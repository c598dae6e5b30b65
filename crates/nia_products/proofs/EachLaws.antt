-- What holds of each element of a list holds of each that is taken or made of them.
use Rattle.std.specs.Prelude.{◌≡◌, ℕ, List, [], ◌∷◌, map, take, Bool, true}
use Rattle.std.specs.List.{AllByRecursion, filter, flat_map}
use Rattle.std.specs.declared.cmp.Ordering.{Ordering}
use Rattle.std.proofs.Common.{subst, sym}
use Rattle.std.proofs.lemmas.List.{take-append-drop}
use Rattle.std.specs.Prelude.{drop}
use Rattle.mm_num.proofs.ListLaws.{all_join, all_split}
use Rattle.mm_poly.proofs.CaseLaws.{by_if}
use Rattle.cert_kit.specs.Variables.{in_order}
use Rattle.cert_kit.proofs.OrderedLaws.{all_with_element}

pub each_taken : {A : Type 0} → (P : A → Type 0) (n : ℕ) (xs : List A) → AllByRecursion P xs → AllByRecursion P (take n xs)
each_taken P n xs h = let p = all_split P (take n xs) (drop n xs) (subst (AllByRecursion P) (sym (take-append-drop n xs)) h) in p.0

-- those that pass a test
pub each_passed : {A : Type 0} → (P : A → Type 0) (test : A → Bool) (xs : List A) → AllByRecursion P xs → AllByRecursion (λ x. P x × (test x ≡ true)) (filter test xs)
each_passed P test [] h = tt
each_passed P test (x ∷ xs) h = by_if (test x) (x ∷ filter test xs) (filter test xs) (AllByRecursion (λ x. P x × (test x ≡ true))) (λ e. ((h.0, e), each_passed P test xs h.1)) (λ e. each_passed P test xs h.1)

pub each_ordered : {A : Type 0} → (P : A → Type 0) (cmp : A → A → Ordering) (xs : List A) → AllByRecursion P xs → AllByRecursion P (in_order cmp xs)
each_ordered P cmp [] h = tt
each_ordered P cmp (x ∷ xs) h = all_with_element cmp P x (in_order cmp xs) h.0 (each_ordered P cmp xs h.1)

pub each_of_lists : {A B : Type 0} → (P : A → Type 0) (Q : B → Type 0) (f : B → List A) → ((x : B) → Q x → AllByRecursion P (f x)) → (xs : List B) → AllByRecursion Q xs → AllByRecursion P (flat_map f xs)
each_of_lists P Q f g [] h = tt
each_of_lists P Q f g (x ∷ xs) h = all_join P (f x) (flat_map f xs) (g x h.0) (each_of_lists P Q f g xs h.1)

pub each_made : {A B : Type 0} → (P : A → Type 0) (Q : B → Type 0) (f : B → A) → ((x : B) → Q x → P (f x)) → (xs : List B) → AllByRecursion Q xs → AllByRecursion P (map f xs)
each_made P Q f g [] h = tt
each_made P Q f g (x ∷ xs) h = (g x h.0, each_made P Q f g xs h.1)
