-- A list in order is determined by its elements, so a sort that drops doubles puts a list in order.
use Rattle.std.specs.Prelude.{◌≡◌, ℕ, nat_eq, List, [], ◌∷◌, ◌++◌, Bool, true, false, ◌&&◌, ◌||◌, refl}
use Rattle.std.specs.List.{list_any, list_all, AllByRecursion, dedup, dedup_from}
use Rattle.std.specs.List.Sorted.{IsPermutation, IsSorted, IsStrictlySortedBy}
use Rattle.std.specs.Ordering.{nat_cmp, is_eq, is_lt, eq_by_cmp, ordering_reverse}
use Rattle.std.specs.declared.cmp.Ordering.{Ordering}
use Rattle.std.specs.declared.cmp.Ordering.TheVariants.{Less, Equal, Greater}
use Rattle.std.specs.Cmp.{IsTotalOrder, nat_cmp_total, tied_itself}
use Rattle.std.specs.FinMap.{IsAntisymmetric, nat_cmp-IsAntisymmetric}
use Rattle.std.proofs.Common.{ap, ◌∙◌, sym, append-nil, arith}
use Rattle.std.proofs.lemmas.List.Kept.{IsStrictlySortedBy-dedup}
use Rattle.std.proofs.lemmas.List.Sorted.{list_any-IsPermutation}
use Rattle.mm_poly.proofs.CaseLaws.{by_cases, by_if}
use Rattle.cert_kit.specs.declared.row.PRow.{PRow}
use Rattle.cert_kit.specs.Variables.{with_element, in_order, row_variables, variables_of}

both_same : {A B C : Type 0} → (f : A → B → C) (a c : A) (b d : B) → a ≡ c → b ≡ d → f a b ≡ f c d
both_same f a c b d e g = ap (λ z. f z b) e ∙ ap (λ z. f c z) g

and_true : (a : Bool) → (a && true) ≡ a
and_true true = refl
and_true false = refl

-- ---- elements in order

-- what holds of the list with an element, by how it compares to the first
pub by_place : {A : Type 0} → (cmp : A → A → Ordering) (a b : A) (bs : List A) (P : List A → Type 0)
    → (cmp a b ≡ Less → P (a ∷ b ∷ bs))
    → (cmp a b ≡ Equal → P (b ∷ bs))
    → (cmp a b ≡ Greater → P (b ∷ with_element cmp a bs))
    → P (with_element cmp a (b ∷ bs))
by_place cmp a b bs P l e g = by_cases (cmp a b) (λ o. rw (o, with_element) (l o)) (λ o. rw (o, with_element) (e o)) (λ o. rw (o, with_element) (g o))

twice : (s t : Bool) → (s && t) ≡ (s && (s && t))
twice true t = refl
twice false t = refl

pub either_twice : (s t : Bool) → (s || t) ≡ (s || (s || t))
either_twice true t = refl
either_twice false t = refl

and_turned : (s t u : Bool) → (s && (t && u)) ≡ (t && (s && u))
and_turned true true u = refl
and_turned true false u = refl
and_turned false true u = refl
and_turned false false u = refl

or_turned : (s t u : Bool) → (s || (t || u)) ≡ (t || (s || u))
or_turned true true u = refl
or_turned true false u = refl
or_turned false true u = refl
or_turned false false u = refl

all_with : {A : Type 0} → (cmp : A → A → Ordering) (test : A → Bool) → IsAntisymmetric cmp → (a : A) (bs : List A)
    → list_all test (with_element cmp a bs) ≡ (test a && list_all test bs)
all_with cmp test exact a [] = refl
all_with cmp test exact a (b ∷ bs) = by_place cmp a b bs (λ r. list_all test r ≡ (test a && (test b && list_all test bs)))
    (λ o. refl)
    (λ o. twice (test b) (list_all test bs) ∙ ap (λ c. test c && (test b && list_all test bs)) (sym (exact a b o)))
    (λ o. ap (λ s. test b && s) (all_with cmp test exact a bs) ∙ and_turned (test b) (test a) (list_all test bs))

any_with : {A : Type 0} → (cmp : A → A → Ordering) (test : A → Bool) → IsAntisymmetric cmp → (a : A) (bs : List A)
    → list_any test (with_element cmp a bs) ≡ (test a || list_any test bs)
any_with cmp test exact a [] = refl
any_with cmp test exact a (b ∷ bs) = by_place cmp a b bs (λ r. list_any test r ≡ (test a || (test b || list_any test bs)))
    (λ o. refl)
    (λ o. either_twice (test b) (list_any test bs) ∙ ap (λ c. test c || (test b || list_any test bs)) (sym (exact a b o)))
    (λ o. ap (λ s. test b || s) (any_with cmp test exact a bs) ∙ or_turned (test b) (test a) (list_any test bs))

-- a test of all elements, or of some, says the same of them in order
pub all_in_order : {A : Type 0} → (cmp : A → A → Ordering) (test : A → Bool) → IsAntisymmetric cmp → (xs : List A) → list_all test (in_order cmp xs) ≡ list_all test xs
all_in_order cmp test exact [] = refl
all_in_order cmp test exact (a ∷ rest) = all_with cmp test exact a (in_order cmp rest) ∙ ap (λ s. test a && s) (all_in_order cmp test exact rest)

pub any_in_order : {A : Type 0} → (cmp : A → A → Ordering) (test : A → Bool) → IsAntisymmetric cmp → (xs : List A) → list_any test (in_order cmp xs) ≡ list_any test xs
any_in_order cmp test exact [] = refl
any_in_order cmp test exact (a ∷ rest) = any_with cmp test exact a (in_order cmp rest) ∙ ap (λ s. test a || s) (any_in_order cmp test exact rest)

-- ---- a list in order rises

all_more : {A : Type 0} → (P Q : A → Type 0) → ((x : A) → P x → Q x) → (xs : List A) → AllByRecursion P xs → AllByRecursion Q xs
all_more P Q f [] a = tt
all_more P Q f (x ∷ xs) a = (f x a.0, all_more P Q f xs a.1)

pub all_with_element : {A : Type 0} → (cmp : A → A → Ordering) (P : A → Type 0) (a : A) (bs : List A) → P a → AllByRecursion P bs → AllByRecursion P (with_element cmp a bs)
all_with_element cmp P a [] h k = (h, tt)
all_with_element cmp P a (b ∷ bs) h k = by_place cmp a b bs (λ r. AllByRecursion P r) (λ o. (h, k)) (λ o. k) (λ o. (k.0, all_with_element cmp P a bs h k.1))

rises_with : {A : Type 0} → (cmp : A → A → Ordering) → IsTotalOrder cmp → (a : A) (bs : List A) → IsStrictlySortedBy cmp bs → IsStrictlySortedBy cmp (with_element cmp a bs)
unfolding IsStrictlySortedBy
rises_with cmp total a [] s = (tt, tt)
rises_with cmp total a (b ∷ bs) s = by_place cmp a b bs (λ r. IsStrictlySortedBy cmp r)
    (λ o. ((o, all_more (λ y. cmp b y ≡ Less) (λ y. cmp a y ≡ Less) (λ y k. total.trans a b y o k) bs s.0), s))
    (λ o. s)
    (λ o. (all_with_element cmp (λ y. cmp b y ≡ Less) a bs (total.antisymm b a ∙ ap ordering_reverse o) s.0, rises_with cmp total a bs s.1))

pub in_order_rises : {A : Type 0} → (cmp : A → A → Ordering) → IsTotalOrder cmp → (xs : List A) → IsStrictlySortedBy cmp (in_order cmp xs)
unfolding IsStrictlySortedBy
in_order_rises cmp total [] = tt
in_order_rises cmp total (a ∷ rest) = rises_with cmp total a (in_order cmp rest) (in_order_rises cmp total rest)

-- ---- its elements determine it

none_equal : {A : Type 0} → (cmp : A → A → Ordering) (x : A) (xs : List A) → AllByRecursion (λ y. cmp x y ≡ Less) xs → list_any (eq_by_cmp cmp x) xs ≡ false
none_equal cmp x [] a = refl
none_equal cmp x (y ∷ ys) a = both_same (λ s t. s || t) _ _ _ _ (ap is_eq a.0) (none_equal cmp x ys a.1)

after_alone : {A : Type 0} → (cmp : A → A → Ordering) (test : A → Bool) (x : A) (xs : List A) → AllByRecursion (λ y. cmp x y ≡ Less) xs
    → list_any (λ y. test y && is_lt (cmp x y)) xs ≡ list_any test xs
after_alone cmp test x [] a = refl
after_alone cmp test x (y ∷ ys) a = both_same (λ s t. s || t) _ _ _ _ (ap (λ o. test y && is_lt o) a.0 ∙ and_true (test y)) (after_alone cmp test x ys a.1)

-- two lists say the same of each test
abbrev pub SameTests : {A : Type 0} → List A → List A → Type 0
SameTests {A} xs ys = (test : A → Bool) → list_any test xs ≡ list_any test ys

-- the first of one isn't below all of the other
not_below : {A : Type 0} → (cmp : A → A → Ordering) → IsTotalOrder cmp → (x y : A) (xs ys : List A)
    → cmp x y ≡ Less
    → AllByRecursion (λ z. cmp y z ≡ Less) ys
    → list_any (eq_by_cmp cmp x) (x ∷ xs) ≡ list_any (eq_by_cmp cmp x) (y ∷ ys)
    → ⊥
not_below cmp total x y xs ys l a e =
    let here : list_any (eq_by_cmp cmp x) (x ∷ xs) ≡ true = ap (λ o. is_eq o || list_any (eq_by_cmp cmp x) xs) (tied_itself total x) in
    let there : list_any (eq_by_cmp cmp x) (y ∷ ys) ≡ false = none_equal cmp x (y ∷ ys) (l, all_more (λ z. cmp y z ≡ Less) (λ z. cmp x z ≡ Less) (λ z k. total.trans x y z l k) ys a) in
    cc

and_false : (b : Bool) → (b && false) ≡ false
and_false true = refl
and_false false = refl

rest_tests : {A : Type 0} → (cmp : A → A → Ordering) → IsTotalOrder cmp → (x y : A) (xs ys : List A)
    → cmp x y ≡ Equal
    → AllByRecursion (λ z. cmp x z ≡ Less) xs
    → AllByRecursion (λ z. cmp y z ≡ Less) ys
    → SameTests (x ∷ xs) (y ∷ ys)
    → SameTests xs ys
rest_tests cmp total x y xs ys q a b f test =
    let first : (test x && is_lt (cmp x x)) ≡ false = ap (λ o. test x && is_lt o) (tied_itself total x) ∙ and_false (test x) in
    let second : (test y && is_lt (cmp x y)) ≡ false = ap (λ o. test y && is_lt o) q ∙ and_false (test y) in
    let c : AllByRecursion (λ z. cmp x z ≡ Less) ys = all_more (λ z. cmp y z ≡ Less) (λ z. cmp x z ≡ Less) (λ z k. total.congr x y z q ∙ k) ys b in
    sym (after_alone cmp test x xs a)
    ∙ sym (ap (λ s. s || list_any (λ z. test z && is_lt (cmp x z)) xs) first)
    ∙ f (λ z. test z && is_lt (cmp x z))
    ∙ ap (λ s. s || list_any (λ z. test z && is_lt (cmp x z)) ys) second
    ∙ after_alone cmp test x ys c

pub determined : {A : Type 0} → (cmp : A → A → Ordering) → IsTotalOrder cmp → IsAntisymmetric cmp → (xs ys : List A)
    → IsStrictlySortedBy cmp xs
    → IsStrictlySortedBy cmp ys
    → SameTests xs ys
    → xs ≡ ys
unfolding IsStrictlySortedBy
determined cmp total exact [] [] s r f = refl
determined cmp total exact [] (y ∷ ys) s r f = absurd (let e = f (λ z. true) in cc)
determined cmp total exact (x ∷ xs) [] s r f = absurd (let e = f (λ z. true) in cc)
determined cmp total exact (x ∷ xs) (y ∷ ys) s r f = by_cases (cmp x y)
    (λ o. absurd (not_below cmp total x y xs ys o r.0 (f (eq_by_cmp cmp x))))
    (λ o. both_same (λ z zs. z ∷ zs) _ _ _ _ (exact x y o) (determined cmp total exact xs ys s.1 r.1 (rest_tests cmp total x y xs ys o s.0 r.0 f)))
    (λ o. absurd (not_below cmp total y x ys xs (total.antisymm y x ∙ ap ordering_reverse o) s.0 (sym (f (eq_by_cmp cmp y)))))

-- ---- a sort that drops doubles

any_dedup_from : {A : Type 0} → (same : A → A → Bool) → ((x y : A) → same x y ≡ true → x ≡ y) → (test : A → Bool) (k : A) (xs : List A)
    → list_any test (dedup_from same k xs) ≡ (test k || list_any test xs)
any_dedup_from same exact test k [] = refl
any_dedup_from same exact test k (x ∷ xs) = by_if (same x k) (dedup_from same k xs) (k ∷ dedup_from same x xs) (λ r. list_any test r ≡ (test k || (test x || list_any test xs)))
    (λ e. any_dedup_from same exact test k xs ∙ either_twice (test k) (list_any test xs) ∙ ap (λ z. test k || (test z || list_any test xs)) (sym (exact x k e)))
    (λ e. ap (λ s. test k || s) (any_dedup_from same exact test x xs))

any_dedup : {A : Type 0} → (same : A → A → Bool) → ((x y : A) → same x y ≡ true → x ≡ y) → (test : A → Bool) (xs : List A) → list_any test (dedup same xs) ≡ list_any test xs
any_dedup same exact test [] = refl
any_dedup same exact test (x ∷ xs) = any_dedup_from same exact test x xs

is_equal : (o : Ordering) → is_eq o ≡ true → o ≡ Equal
is_equal Less e = cc
is_equal Equal e = refl
is_equal Greater e = cc

-- sorted, and doubles dropped
pub sorted_once : {A : Type 0} → (cmp : A → A → Ordering) → IsTotalOrder cmp → IsAntisymmetric cmp → (same : A → A → Bool) → ((x y : A) → same x y ≡ eq_by_cmp cmp x y) → (xs ys : List A)
    → IsPermutation xs ys
    → IsSorted cmp ys
    → dedup same ys ≡ in_order cmp xs
sorted_once cmp total exact same ties xs ys p s = determined cmp total exact (dedup same ys) (in_order cmp xs)
    (IsStrictlySortedBy-dedup total ties ys s)
    (in_order_rises cmp total xs)
    (λ test.
    any_dedup same (λ x y e. exact x y (is_equal (cmp x y) (sym (ties x y) ∙ e))) test ys
    ∙ sym (list_any-IsPermutation test xs ys p)
    ∙ sym (any_in_order cmp test exact xs))

-- numbers too
pub numbers_once : (xs sorted once : List ℕ) → IsPermutation xs sorted → IsSorted nat_cmp sorted → once ≡ dedup nat_eq sorted → once ≡ in_order nat_cmp xs
numbers_once xs sorted once p s e = e ∙ sorted_once nat_cmp nat_cmp_total nat_cmp-IsAntisymmetric nat_eq same_number xs sorted p s
  where
    same_number : (x y : ℕ) → nat_eq x y ≡ eq_by_cmp nat_cmp x y
    same_number x y = grind arith

-- the variables of rows, once no row is left
pub variables_once : (rows rest : List PRow) (given sorted once : List ℕ) → rest ≡ [] → given ++ row_variables rest ≡ row_variables rows → IsPermutation given sorted → IsSorted nat_cmp sorted → once ≡ dedup nat_eq sorted
    → once ≡ variables_of rows
variables_once rows rest given sorted once n e p s d =
    let r : row_variables rest ≡ [] = ap row_variables n in
    let g : given ≡ row_variables rows = sym (append-nil given) ∙ ap (λ vs. given ++ vs) (sym r) ∙ e in
    numbers_once given sorted once p s d ∙ ap (in_order nat_cmp) g
