-- Tables of operations: what is new, what is found, where it stands.
use Rattle.std.specs.Prelude.{◌≡◌, ℕ, ◌+◌, ◌-◌, ◌<◌, nat_lt, pos, List, [], ◌∷◌, ◌++◌, Bool, true, false, ◌||◌, cond, if◌then◌else◌, refl, Option, Some, find, slice_get}
use Rattle.std.specs.List.{AllByRecursion, list_any, position_or_len}
use Rattle.std.specs.Option.{option_map_or}
use Rattle.std.proofs.Common.{ap, sym, ◌∙◌, subst, arith}
use Rattle.std.proofs.lemmas.List.Folds.{find_at, list_any-append}
use Rattle.goal_ast.specs.declared.term.Term.{Term}
use Rattle.goal_ast.specs.Truth.{Point, value_of}
use Rattle.goal_ast.specs.Equality.{same_term}
use Rattle.goal_ast.proofs.EqualityLaws.{same_is, same_self}
use Rattle.zify.specs.Operations.{with_new, firsts}
use Rattle.zify.specs.Translation.{Table, number_of}
use Rattle.std.proofs.lemmas.Bool.{or_left, or_right}
use Rattle.mm_num.proofs.TestLaws.{below_test, past_test}
use Rattle.mm_num.proofs.ListLaws.{all_join}

-- a list has a term
abbrev pub Has : List Term → Term → Type 0
Has ts t = list_any (same_term t) ts ≡ true

abbrev pub InTable : Table → Term → Type 0
InTable e t = Has e.operations t

found_step : (t u : Term) (rest : Option Term) (any b : Bool) → same_term t u ≡ b → (any ≡ true → rest ≡ Some t) → (b || any) ≡ true → cond b (Some u) rest ≡ Some t
found_step t u rest any true e k h = ap Some (sym (same_is t u e))
found_step t u rest any false e k h = k h

found_first : (t : Term) (ts : List Term) → Has ts t → find (same_term t) ts ≡ Some t
found_first t [] h = absurd (cc)
found_first t (u ∷ ts) h = found_step t u (find (same_term t) ts) (list_any (same_term t) ts) (same_term t u) refl (found_first t ts) h

-- a term that a list has stands at its place
pub found_at : (t : Term) (ts : List Term) → Has ts t → slice_get ts (position_or_len (same_term t) ts) ≡ Some t
found_at t ts h = sym (find_at (same_term t) ts) ∙ found_first t ts h

has_step : (P : Term → Type 0) (t u : Term) (any b : Bool) → same_term t u ≡ b → P u → (any ≡ true → P t) → (b || any) ≡ true → P t
has_step P t u any true e p q h = subst P (sym (same_is t u e)) p
has_step P t u any false e p q h = q h

-- what holds of all members holds of a term that the list has
pub all_has : (P : Term → Type 0) (t : Term) (ts : List Term) → AllByRecursion P ts → Has ts t → P t
all_has P t [] a h = absurd (cc)
all_has P t (u ∷ ts) a h = has_step P t u (list_any (same_term t) ts) (same_term t u) refl a.0 (all_has P t ts a.1) h

pub has_more : (t : Term) (ts us : List Term) → Has ts t → Has (ts ++ us) t
has_more t ts us h = list_any-append (same_term t) ts us ∙ or_left _ _ h

has_last : (t : Term) (ts : List Term) → Has (ts ++ t ∷ []) t
has_last t ts = list_any-append (same_term t) ts (t ∷ []) ∙ or_right _ _ (or_left _ false (same_self t))

-- `with_new`, by whether the list has the term
pub new_is : (P : List Term → Type 0) (ts : List Term) (t : Term) → (Has ts t → P ts) → (list_any (same_term t) ts ≡ false → P (ts ++ t ∷ [])) → P (with_new ts t)
new_is P ts t f g = step (list_any (same_term t) ts) refl
  where
    step : (b : Bool) → list_any (same_term t) ts ≡ b → P (if b then ts else ts ++ t ∷ [])
    step true e = f e
    step false e = g e

pub new_has : (ts : List Term) (t : Term) → Has (with_new ts t) t
new_has ts t = new_is (λ us. Has us t) ts t (λ h. h) (λ h. has_last t ts)

pub new_keeps : (ts : List Term) (t u : Term) → Has ts u → Has (with_new ts t) u
new_keeps ts t u h = new_is (λ us. Has us u) ts t (λ k. h) (λ k. has_more u ts (t ∷ []) h)

pub firsts_keeps : (ts us : List Term) (u : Term) → Has ts u → Has (firsts ts us) u
firsts_keeps ts [] u h = h
firsts_keeps ts (t ∷ us) u h = firsts_keeps (with_new ts t) us u (new_keeps ts t u h)

pub firsts_has : (ts us : List Term) → AllByRecursion (Has (firsts ts us)) us
firsts_has ts [] = tt
firsts_has ts (t ∷ us) = (firsts_keeps (with_new ts t) us t (new_has ts t), firsts_has (with_new ts t) us)

pub all_new : (P : Term → Type 0) (ts : List Term) (t : Term) → AllByRecursion P ts → P t → AllByRecursion P (with_new ts t)
all_new P ts t a p = new_is (λ us. AllByRecursion P us) ts t (λ h. a) (λ h. all_join P ts (t ∷ []) a (p, tt))

pub all_firsts : (P : Term → Type 0) (ts us : List Term) → AllByRecursion P ts → AllByRecursion P us → AllByRecursion P (firsts ts us)
all_firsts P ts [] a b = a
all_firsts P ts (t ∷ us) a b = all_firsts P (with_new ts t) us (all_new P ts t a b.0) b.1

-- ---- the point that gives each new variable the value of its operation

abbrev pub extended : Table → Point → Point
extended e x v = if nat_lt v e.bound then x v else option_map_or (value_of x) (slice_get e.operations (v - e.bound)) (pos 0)

back : (n k : ℕ) → (n + k) - n ≡ k
back n k = omega arith

pub extended_below : (e : Table) (x : Point) (v : ℕ) → v < e.bound → extended e x v ≡ x v
extended_below e x v h = ap (λ b. if b then x v else option_map_or (value_of x) (slice_get e.operations (v - e.bound)) (pos 0)) (below_test v e.bound h)

pub extended_at : (e : Table) (x : Point) (t : Term) → InTable e t → extended e x (number_of e t) ≡ value_of x t
extended_at e x t h =
    let k = position_or_len (same_term t) e.operations in
    ap (λ b. if b then x (e.bound + k) else option_map_or (value_of x) (slice_get e.operations ((e.bound + k) - e.bound)) (pos 0)) (past_test e.bound k)
    ∙ ap (λ n. option_map_or (value_of x) (slice_get e.operations n) (pos 0)) (back e.bound k)
    ∙ ap (λ o. option_map_or (value_of x) o (pos 0)) (found_at t e.operations h)
