-- The comparison of shapes is that of their operators and numbers.
use Rattle.std.specs.Prelude.{◌≡◌, ℕ, ◌≤◌, length, ◌==◌, List, [], ◌∷◌, ◌++◌, Bool, true, false, ◌&&◌, ◌||◌, not, cond, if◌then◌else◌, refl}
use Rattle.std.specs.List.{list_any, position_or_len}
use Rattle.std.proofs.Common.{ap, sym, ◌∙◌, rules, arith, length-append, ◌+◌}
use Rattle.goal_ast.specs.declared.term.Operator.{Operator}
use Rattle.goal_ast.specs.Equality.{same_operator}
use Rattle.goal_ast.specs.contracts.term.OperatorPartialEq.TheImpl.{eq-value as operator_eq}
use Rattle.goal_ast.proofs.CountingLaws.{both_same}
use Rattle.zify.specs.declared.shape.Shape.{Shape}
use Rattle.zify.specs.contracts.shape.ShapePartialEq.TheImpl.{eq-value}
use Rattle.zify.specs.machine.Walking.{same_shape, number_in, has_number, with_number, with_condition}
use Rattle.zify.specs.machine.Table.{State}
use Rattle.zify.specs.declared.form.ZForm.{ZForm}
use Rattle.std.proofs.lemmas.List.Sums.{prefix_len-le-length}

operators_tested : (a b : Operator) → operator_eq.it a b ≡ same_operator a b
operators_tested a b = search rules

pub shapes_tested : (a b : Shape) → eq-value.it a b ≡ same_shape a b
shapes_tested a b = ap (λ c. c && (a.left == b.left && a.right == b.right)) (operators_tested a.operator b.operator)

pub any_same : {A : Type 0} → (p q : A → Bool) → ((a : A) → p a ≡ q a) → (xs : List A) → list_any p xs ≡ list_any q xs
any_same p q h [] = refl
any_same p q h (x ∷ xs) = both_same (λ a b. a || b) _ _ _ _ (h x) (any_same p q h xs)

pub position_same : {A : Type 0} → (p q : A → Bool) → ((a : A) → p a ≡ q a) → (xs : List A) → position_or_len p xs ≡ position_or_len q xs
position_same p q h [] = refl
position_same p q h (x ∷ xs) = both_same (λ a n. cond (not a) (1 + n) 0) _ _ _ _ (h x) (position_same p q h xs)

pub number_within : (n : ℕ) (ns : List ℕ) → number_in n ns ≤ length ns
number_within n ns = prefix_len-le-length (λ m. not (n == m)) ns

-- an operation that isn't new adds no condition
pub no_condition : (new : Bool) (f : ZForm) (s t : State) → t ≡ s → new ≡ false → t ≡ with_condition new f s
no_condition new f s t e h = e ∙ ap (λ b. with_condition b f s) (sym h)

longer_by_one : (b : Bool) (ns : List ℕ) (n : ℕ) → length (if b then ns else ns ++ n ∷ []) ≤ length ns + 1
longer_by_one true ns n = omega arith
longer_by_one false ns n = omega (arith, length-append ns (n ∷ []))

pub number_grows : (ns : List ℕ) (n : ℕ) → length (with_number ns n) ≤ length ns + 1
number_grows ns n = longer_by_one (has_number n ns) ns n
