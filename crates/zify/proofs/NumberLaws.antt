-- The number of a term is its place in a list of terms, and the shape of a node has the numbers of its parts.
use Rattle.std.specs.Prelude.{◌≡◌, ℕ, ◌+◌, ◌==◌, pos, List, [], ◌∷◌, ◌++◌, map, Bool, true, false, not, ◌||◌, cond, refl, Option, Some, slice_get}
use Rattle.std.specs.List.{AllByRecursion, list_any, position_or_len}
use Rattle.std.specs.Option.{option_map_or}
use Rattle.std.proofs.Common.{ap, sym, ◌∙◌, subst}
use Rattle.std.proofs.lemmas.Option.{same_Some}
use Rattle.std.proofs.lemmas.Bool.{and_parts, and_from}
use Rattle.goal_ast.specs.declared.term.Term.{Term}
use Rattle.goal_ast.specs.declared.term.Term.TheVariants as terms
use Rattle.goal_ast.specs.declared.term.Term.TheOpen.{Term-F}
use Rattle.goal_ast.specs.declared.term.Term.TheViews.{roll-Term, out-Term, roll-out-Term, out-roll-Term}
use Rattle.goal_ast.specs.Equality.{operator_of, parts_of, same_term}
use Rattle.goal_ast.proofs.EqualityLaws.{operator_is, operator_same, rebuilt, same_is, same_self, is_same}
use Rattle.goal_ast.proofs.CountingLaws.{both_same}
use Rattle.zify.specs.declared.shape.Shape.{Shape}
use Rattle.zify.specs.Operations.{with_new, firsts}
use Rattle.zify.specs.machine.Walking.{same_shape, shape}
use Rattle.zify.proofs.TableLaws.{Has, found_at, has_more, new_is, new_keeps}
use Rattle.mm_num.proofs.TestLaws.{number_test, is_number}
use Rattle.mm_num.proofs.BoolLaws.{same_tests}

-- ---- tests and places in lists

or_false_left : (a b : Bool) → (a || b) ≡ false → a ≡ false
or_false_left true b h = h
or_false_left false b h = refl

or_false_right : (a b : Bool) → (a || b) ≡ false → b ≡ false
or_false_right true b h = absurd (cc)
or_false_right false b h = h

first_step : (b any : Bool) (m n : ℕ) → (b || any) ≡ true → (any ≡ true → m ≡ n) → cond (not b) (1 + m) 0 ≡ cond (not b) (1 + n) 0
first_step true any m n h f = refl
first_step false any m n h f = ap (λ k. 1 + k) (f h)

-- a place stands still where the list goes on
place_stays : {A : Type 0} → (p : A → Bool) (xs ys : List A) → list_any p xs ≡ true → position_or_len p xs ≡ position_or_len p (xs ++ ys)
place_stays p [] ys h = absurd (cc)
place_stays p (x ∷ xs) ys h = first_step (p x) (list_any p xs) _ _ h (place_stays p xs ys)

-- what is at no place stands at the end
place_at_end : {A : Type 0} → (p : A → Bool) (xs : List A) (x : A) → list_any p xs ≡ false → p x ≡ true → position_or_len p xs ≡ position_or_len p (xs ++ x ∷ [])
place_at_end p [] x h k = ap (λ b. cond (not b) (1 + 0) 0) (sym k)
place_at_end p (y ∷ ys) x h k = ap (λ n. cond (not (p y)) (1 + n) 0) (place_at_end p ys x (or_false_right (p y) (list_any p ys) h) k)

-- tests that agree on a list's members
pub any_in : {A : Type 0} → (P : A → Type 0) (p q : A → Bool) → ((a : A) → P a → p a ≡ q a) → (xs : List A) → AllByRecursion P xs → list_any p xs ≡ list_any q xs
any_in P p q f [] h = refl
any_in P p q f (x ∷ xs) h = both_same (λ a b. a || b) _ _ _ _ (f x h.0) (any_in P p q f xs h.1)

pub position_in : {A : Type 0} → (P : A → Type 0) (p q : A → Bool) → ((a : A) → P a → p a ≡ q a) → (xs : List A) → AllByRecursion P xs → position_or_len p xs ≡ position_or_len q xs
position_in P p q f [] h = refl
position_in P p q f (x ∷ xs) h = both_same (λ a n. cond (not a) (1 + n) 0) _ _ _ _ (f x h.0) (position_in P p q f xs h.1)

pub any_of_map : {A B : Type 0} → (p : B → Bool) (f : A → B) (xs : List A) → list_any p (map f xs) ≡ list_any (λ x. p (f x)) xs
any_of_map p f [] = refl
any_of_map p f (x ∷ xs) = ap (λ b. p (f x) || b) (any_of_map p f xs)

pub position_of_map : {A B : Type 0} → (p : B → Bool) (f : A → B) (xs : List A) → position_or_len p (map f xs) ≡ position_or_len (λ x. p (f x)) xs
position_of_map p f [] = refl
position_of_map p f (x ∷ xs) = ap (λ n. cond (not (p (f x))) (1 + n) 0) (position_of_map p f xs)

pub map_in : {A B : Type 0} → (P : A → Type 0) (f g : A → B) → ((a : A) → P a → f a ≡ g a) → (xs : List A) → AllByRecursion P xs → map f xs ≡ map g xs
map_in P f g h [] k = refl
map_in P f g h (x ∷ xs) k = both_same (λ a bs. a ∷ bs) _ _ _ _ (h x k.0) (map_in P f g h xs k.1)

pub map_join : {A B : Type 0} → (f : A → B) (xs ys : List A) → map f (xs ++ ys) ≡ map f xs ++ map f ys
map_join f [] ys = refl
map_join f (x ∷ xs) ys = ap (λ zs. f x ∷ zs) (map_join f xs ys)

-- ---- numbers of terms

abbrev pub id_in : List Term → Term → ℕ
id_in ts t = position_or_len (same_term t) ts

-- each term that a list has stands at the same place in another
abbrev pub Keeps : List Term → List Term → Type 0
Keeps ts us = (t : Term) → Has ts t → Has us t × (id_in ts t ≡ id_in us t)

pub keeps_self : (ts : List Term) → Keeps ts ts
keeps_self ts t h = (h, refl)

pub keeps_on : (ts us vs : List Term) → Keeps ts us → Keeps us vs → Keeps ts vs
keeps_on ts us vs f g t h = let p = f t h in let q = g t p.0 in (q.0, p.1 ∙ q.1)

pub keeps_more : (ts us : List Term) → Keeps ts (ts ++ us)
keeps_more ts us t h = (has_more t ts us h, place_stays (same_term t) ts us h)

pub keeps_new : (ts : List Term) (t : Term) → Keeps ts (with_new ts t)
keeps_new ts t u h = (new_keeps ts t u h, new_is (λ us. id_in ts u ≡ id_in us u) ts t (λ k. refl) (λ k. place_stays (same_term u) ts (t ∷ []) h))

pub keeps_firsts : (ts us : List Term) → Keeps ts (firsts ts us)
keeps_firsts ts [] = keeps_self ts
keeps_firsts ts (u ∷ us) = keeps_on ts (with_new ts u) (firsts (with_new ts u) us) (keeps_new ts u) (keeps_firsts (with_new ts u) us)

pub firsts_join : (ts us vs : List Term) → firsts ts (us ++ vs) ≡ firsts (firsts ts us) vs
firsts_join ts [] vs = refl
firsts_join ts (u ∷ us) vs = firsts_join (with_new ts u) us vs

-- the number that a term has, or that it gets
pub new_id : (ts : List Term) (t : Term) → id_in ts t ≡ id_in (with_new ts t) t
new_id ts t = new_is (λ us. id_in ts t ≡ id_in us t) ts t (λ h. refl) (λ h. place_at_end (same_term t) ts t h (same_self t))

pub id_is : (ts : List Term) (t u : Term) → Has ts t → Has ts u → id_in ts t ≡ id_in ts u → t ≡ u
id_is ts t u h k e = same_Some t u (sym (found_at t ts h) ∙ ap (λ n. slice_get ts n) e ∙ found_at u ts k)

-- numbers are equal where the terms are
pub ids_test : (ts : List Term) (t u : Term) → Has ts t → Has ts u → (id_in ts t == id_in ts u) ≡ same_term t u
ids_test ts t u h k = same_tests _ _
    (λ e. is_same t u (id_is ts t u h k (is_number (id_in ts t) (id_in ts u) e)))
    (λ e. number_test (id_in ts t) (id_in ts u) (ap (id_in ts) (same_is t u e)))

pub ids_stay : (ts us : List Term) → Keeps ts us → (vs : List Term) → AllByRecursion (Has ts) vs → map (id_in ts) vs ≡ map (id_in us) vs
ids_stay ts us f vs h = map_in (Has ts) (id_in ts) (id_in us) (λ v k. (f v k).1) vs h

-- ---- shapes of nodes

abbrev pub first_number : List ℕ → ℕ
first_number [] = 0
first_number (n ∷ ns) = n

abbrev pub second_number : List ℕ → ℕ
second_number [] = 0
second_number (n ∷ ns) = first_number ns

abbrev pub shape_of : List Term → Term-F Term → Shape
shape_of seen d = shape (operator_of d) (first_number (map (id_in seen) (parts_of d))) (second_number (map (id_in seen) (parts_of d)))

abbrev pub shape_in : List Term → Term → Shape
shape_in seen t = shape_of seen (out-Term t)

abbrev pub PartsIn : List Term → Term-F Term → Type 0
PartsIn seen d = AllByRecursion (Has seen) (parts_of d)

abbrev pub Closed : List Term → Term → Type 0
Closed seen t = PartsIn seen (out-Term t)

pub shape_stays : (ts us : List Term) → Keeps ts us → (d : Term-F Term) → PartsIn ts d → shape_of ts d ≡ shape_of us d
shape_stays ts us f d h = ap (λ ns. shape (operator_of d) (first_number ns) (second_number ns)) (ids_stay ts us f (parts_of d) h)

-- the term at a place
abbrev term_at : List Term → ℕ → Term
term_at ts n = option_map_or (λ t. t) (slice_get ts n) (terms.Lit (pos 0))

at_id : (ts : List Term) (t : Term) → Has ts t → term_at ts (id_in ts t) ≡ t
at_id ts t h = ap (λ o. option_map_or (λ u. u) o (terms.Lit (pos 0))) (found_at t ts h)

-- the node of a shape
abbrev node_at : List Term → Shape → Option (Term-F Term)
node_at ts s = rebuilt s.operator (term_at ts s.left ∷ term_at ts s.right ∷ [])

node_of_shape : (ts : List Term) (d : Term-F Term) → PartsIn ts d → node_at ts (shape_of ts d) ≡ Some d
node_of_shape ts (Term-F.Lit n) h = refl
node_of_shape ts (Term-F.Var v) h = refl
node_of_shape ts (Term-F.Neg a) h = ap (λ t. Some (Term-F.Neg t)) (at_id ts a h.0)
node_of_shape ts (Term-F.Add a b) h = both_same (λ t u. Some (Term-F.Add t u)) _ _ _ _ (at_id ts a h.0) (at_id ts b h.1.0)
node_of_shape ts (Term-F.Sub s a b) h = both_same (λ t u. Some (Term-F.Sub s t u)) _ _ _ _ (at_id ts a h.0) (at_id ts b h.1.0)
node_of_shape ts (Term-F.Mul a b) h = both_same (λ t u. Some (Term-F.Mul t u)) _ _ _ _ (at_id ts a h.0) (at_id ts b h.1.0)
node_of_shape ts (Term-F.Pow a k) h = ap (λ t. Some (Term-F.Pow t k)) (at_id ts a h.0)
node_of_shape ts (Term-F.Div a k) h = ap (λ t. Some (Term-F.Div t k)) (at_id ts a h.0)
node_of_shape ts (Term-F.Rem a k) h = ap (λ t. Some (Term-F.Rem t k)) (at_id ts a h.0)
node_of_shape ts (Term-F.Call1 f a) h = ap (λ t. Some (Term-F.Call1 f t)) (at_id ts a h.0)
node_of_shape ts (Term-F.Call2 f a b) h = both_same (λ t u. Some (Term-F.Call2 f t u)) _ _ _ _ (at_id ts a h.0) (at_id ts b h.1.0)

shapes_are : (a b : Shape) → same_shape a b ≡ true → a ≡ b
shapes_are a b h =
    let p = and_parts _ _ h in
    let q = and_parts _ _ p.1 in
    ap (λ o. shape o a.left a.right) (operator_is a.operator b.operator p.0)
    ∙ ap (λ n. shape b.operator n a.right) (is_number a.left b.left q.0)
    ∙ ap (λ n. shape b.operator b.left n) (is_number a.right b.right q.1)

shape_same : (a : Shape) → same_shape a a ≡ true
shape_same a = and_from _ _ (operator_same a.operator) (and_from _ _ (number_test a.left a.left refl) (number_test a.right a.right refl))

-- a node of a term, whose parts a list has
pub record IsNode (seen : List Term) (d : Term-F Term) (t : Term) : Type 0 where
  pub rolls : roll-Term d ≡ t
  pub parts : PartsIn seen d

pub opened : (seen : List Term) (d : Term-F Term) (t : Term) → IsNode seen d t → out-Term t ≡ d
opened seen d t n = ap out-Term (sym n.rolls) ∙ out-roll-Term d

-- shapes are equal where the terms are
pub shape_tests : (seen : List Term) (d : Term-F Term) (t : Term) → IsNode seen d t → (u : Term) → Closed seen u → same_shape (shape_of seen d) (shape_in seen u) ≡ same_term t u
shape_tests seen d t n u h = same_tests _ _
    (λ e. is_same t u
    (sym n.rolls ∙ ap roll-Term (same_Some d (out-Term u) (sym (node_of_shape seen d n.parts) ∙ ap (node_at seen) (shapes_are (shape_of seen d) (shape_in seen u) e) ∙ node_of_shape seen (out-Term u) h))
    ∙ roll-out-Term u))
    (λ e. subst (λ (z : Term-F Term). same_shape (shape_of seen d) (shape_of seen z) ≡ true) (sym (opened seen d t n) ∙ ap out-Term (same_is t u e)) (shape_same (shape_of seen d)))
