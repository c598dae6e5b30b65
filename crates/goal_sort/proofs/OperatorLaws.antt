-- The tables of operators give the heads of nodes, and the other way.
use Rattle.std.proofs.Common.{◌≡◌, ℕ, List, [], ◌∷◌, ◌++◌, map, true, Option, Some, None, refl, inl, inr, sym, ap, ◌∙◌, subst}
use Rattle.std.specs.Prelude.{◌==◌}
use Rattle.std.proofs.lemmas.Bool.{eqb-true}
use Rattle.std.proofs.lemmas.Option.{same_Some}
use Rattle.goal_ast.specs.declared.term.Fn1.TheVariants as one
use Rattle.goal_ast.specs.declared.term.Fn2.{Fn2}
use Rattle.goal_ast.specs.declared.term.Fn2.TheVariants as two
use Rattle.goal_ast.specs.declared.formula.Cmp.{Cmp}
use Rattle.goal_ast.specs.declared.formula.Cmp.TheVariants as cmps
use Rattle.goal_ast.specs.declared.formula.BCmp.{BCmp}
use Rattle.goal_ast.specs.declared.formula.BCmp.TheVariants as tests
use Rattle.goal_ast.specs.declared.formula.BFn.TheVariants as bools
use Rattle.goal_token.specs.Numbers.{sign_number}
use Rattle.goal_token.specs.Spelling.{cmp_sign}
use Rattle.goal_ast.specs.Sorted.{makes_chain}
use Rattle.goal_sort.specs.declared.raw.Head.{Head}
use Rattle.goal_sort.specs.declared.raw.Head.TheVariants as heads
use Rattle.goal_sort.specs.declared.operator.Unary.{Unary}
use Rattle.goal_sort.specs.declared.operator.Unary.TheVariants as unary
use Rattle.goal_sort.specs.declared.operator.Arithmetic.{Arithmetic}
use Rattle.goal_sort.specs.declared.operator.Arithmetic.TheVariants as arithmetics
use Rattle.goal_sort.specs.declared.operator.ByLiteral.{ByLiteral}
use Rattle.goal_sort.specs.declared.operator.ByLiteral.TheVariants as literals
use Rattle.goal_sort.specs.declared.operator.BoolOperator.{BoolOperator}
use Rattle.goal_sort.specs.declared.operator.BoolOperator.TheVariants as operators
use Rattle.goal_sort.specs.declared.operator.Connective.{Connective}
use Rattle.goal_sort.specs.declared.operator.Connective.TheVariants as connectives
use Rattle.goal_sort.specs.declared.operator.Binary.{Binary}
use Rattle.goal_sort.specs.declared.operator.Binary.TheVariants as binary
use Rattle.goal_sort.specs.Operators.{entry, prefixes, functions_of_one, unary_of, by_literals, by_literal_of, infixes, functions_of_two, binary_of, chained, both, chain_of}
use Rattle.goal_sort.specs.Heads.{unary_head, literal_head, binary_head, chain_head}
use Rattle.goal_sort.proofs.GivingLaws.{test_some}

-- ---- tables

-- each entry of a table
abbrev AllEntries : {A : Type 0} → (ℕ → A → Type 0) → List (ℕ × A) → Type 0
AllEntries P [] = Unit {0}
AllEntries P (e ∷ table) = P e.0 e.1 × AllEntries P table

entry_is : {A : Type 0} (P : ℕ → A → Type 0) (n : ℕ) (x : A) (table : List (ℕ × A)) → AllEntries P table → entry n table ≡ Some x → P n x
entry_is P n x [] h is = absurd cc
entry_is P n x (e ∷ table) h is = elim (test_some (n == e.0) (Some e.1) (entry n table) x is) [
  | inl k ↦ subst (λ m. P m x) (sym (eqb-true n e.0 k.0)) (subst (λ y. P e.0 y) (same_Some e.1 x k.1) h.0)
  | inr k ↦ entry_is P n x table h.1 k.1
]

all_mapped : {A B : Type 0} (P : ℕ → A → Type 0) (number : B → ℕ) (f : B → A) (xs : List B) → ((x : B) → P (number x) (f x)) → AllEntries P (map (λ x. (number x, f x)) xs)
all_mapped P number f [] h = tt
all_mapped P number f (x ∷ xs) h = (h x, all_mapped P number f xs h)

all_joined : {A : Type 0} (P : ℕ → A → Type 0) (xs ys : List (ℕ × A)) → AllEntries P xs → AllEntries P ys → AllEntries P (xs ++ ys)
all_joined P [] ys h k = k
all_joined P (x ∷ xs) ys h k = (h.0, all_joined P xs ys h.1 k)

-- ---- from a head's operator to the head

prefix_is : (n : ℕ) (op : Unary) → entry n prefixes ≡ Some op → heads.Prefix n ≡ unary_head op
prefix_is n op is = entry_is (λ n op. heads.Prefix n ≡ unary_head op) n op prefixes (refl, (refl, tt)) is

function_is : (n : ℕ) (op : Unary) → entry n functions_of_one ≡ Some op → heads.Apply n ≡ unary_head op
function_is n op is = entry_is (λ n op. heads.Apply n ≡ unary_head op) n op functions_of_one
    (refl, (refl, (refl, (refl, (refl, (refl, (refl, (refl, (refl, (refl, (refl, (refl, (refl, (refl, (refl, (refl, (refl, tt))))))))))))))))) is

infix_is : (n : ℕ) (op : Binary) → entry n infixes ≡ Some op → heads.Infix n ≡ binary_head op
infix_is n op is = entry_is (λ n op. heads.Infix n ≡ binary_head op) n op infixes
    (refl, (refl, (refl, (refl, (refl, (refl, (refl, (refl, (refl, (refl, (refl, (refl, (refl, (refl, (refl, (refl, (refl, (refl, (refl, (refl, tt)))))))))))))))))))) is

two_is : (n : ℕ) (op : Binary) → entry n functions_of_two ≡ Some op → heads.Apply n ≡ binary_head op
two_is n op is = entry_is (λ n op. heads.Apply n ≡ binary_head op) n op functions_of_two
    (refl, (refl, (refl, (refl, (refl, (refl, (refl, (refl, (refl, (refl, (refl, tt))))))))))) is

by_is : (n : ℕ) (op : ByLiteral) → entry n by_literals ≡ Some op → heads.Infix n ≡ literal_head op
by_is n op is = entry_is (λ n op. heads.Infix n ≡ literal_head op) n op by_literals (refl, (refl, (refl, tt))) is

pub unary_is : (h : Head) (op : Unary) → unary_of h ≡ Some op → h ≡ unary_head op
unfolding unary_of
unary_is (heads.Prefix n) op is = prefix_is n op is
unary_is (heads.Apply n) op is = function_is n op is
unary_is (heads.Lit n) op is = absurd cc
unary_is (heads.Name x) op is = absurd cc
unary_is (heads.Infix n) op is = absurd cc
unary_is (heads.Chain m n) op is = absurd cc

pub literal_is : (h : Head) (op : ByLiteral) → by_literal_of h ≡ Some op → h ≡ literal_head op
unfolding by_literal_of
literal_is (heads.Infix n) op is = by_is n op is
literal_is (heads.Prefix n) op is = absurd cc
literal_is (heads.Apply n) op is = absurd cc
literal_is (heads.Lit n) op is = absurd cc
literal_is (heads.Name x) op is = absurd cc
literal_is (heads.Chain m n) op is = absurd cc

pub binary_is : (h : Head) (op : Binary) → binary_of h ≡ Some op → h ≡ binary_head op
unfolding binary_of
binary_is (heads.Infix n) op is = infix_is n op is
binary_is (heads.Apply n) op is = two_is n op is
binary_is (heads.Prefix n) op is = absurd cc
binary_is (heads.Lit n) op is = absurd cc
binary_is (heads.Name x) op is = absurd cc
binary_is (heads.Chain m n) op is = absurd cc

-- a sign of chains
pub record IsLink (n : ℕ) (c : Cmp) : Type 0 where
  pub number : n ≡ sign_number (cmp_sign c)
  pub makes : makes_chain c ≡ true

link_is : (n : ℕ) (c : Cmp) → entry n chained ≡ Some c → IsLink n c
link_is n c is = entry_is IsLink n c chained (record { number = refl; makes = refl }, (record { number = refl; makes = refl }, tt)) is

both_some : {A : Type 0} (a b : Option A) (p : A × A) → both a b ≡ Some p → (a ≡ Some p.0) × (b ≡ Some p.1)
both_some (Some x) (Some y) p is = let e = same_Some (x, y) p is in (ap (λ q. Some q.0) e, ap (λ q. Some q.1) e)
both_some (Some x) None p is = absurd cc
both_some None b p is = absurd cc

-- what a chain's head is
pub record IsChain (h : Head) (c : Cmp × Cmp) : Type 0 where
  pub head : h ≡ chain_head c.0 c.1
  pub first_makes : makes_chain c.0 ≡ true
  pub second_makes : makes_chain c.1 ≡ true

pub chain_is : (h : Head) (c : Cmp × Cmp) → chain_of h ≡ Some c → IsChain h c
unfolding chain_of
chain_is (heads.Chain m n) c is =
    let b = both_some (entry m chained) (entry n chained) c is in
    let d = link_is m c.0 b.0 in
    let e = link_is n c.1 b.1 in
    record { head = ap (λ i. heads.Chain i n) d.number ∙ ap (λ i. heads.Chain (sign_number (cmp_sign c.0)) i) e.number; first_makes = d.makes; second_makes = e.makes }
chain_is (heads.Infix n) c is = absurd cc
chain_is (heads.Apply n) c is = absurd cc
chain_is (heads.Prefix n) c is = absurd cc
chain_is (heads.Lit n) c is = absurd cc
chain_is (heads.Name x) c is = absurd cc

-- ---- from a head to its operator

pub unary_again : (op : Unary) → unary_of (unary_head op) ≡ Some op
unfolding unary_of
unary_again unary.Minus = refl
unary_again unary.Not = refl
unary_again unary.Negb = refl
unary_again (unary.Call one.ZSucc) = refl
unary_again (unary.Call f) = refl

pub literal_again : (op : ByLiteral) → by_literal_of (literal_head op) ≡ Some op
unfolding by_literal_of
literal_again literals.Power = refl
literal_again literals.Quotient = refl
literal_again literals.Remainder = refl

-- the operator of a comparison: `=` and `<>` are operators of their own, since they join bools too
abbrev pub comparing : Cmp → Binary
comparing cmps.Eq = binary.Equal
comparing cmps.Ne = binary.Differ
comparing c = binary.Compare c

pub comparing_again : (c : Cmp) → binary_of (binary_head (binary.Compare c)) ≡ Some (comparing c)
unfolding binary_of
comparing_again cmps.Eq = refl
comparing_again c = refl

pub arithmetic_again : (op : Arithmetic) → binary_of (binary_head (binary.Arithmetic op)) ≡ Some (binary.Arithmetic op)
unfolding binary_of
arithmetic_again arithmetics.Sum = refl
arithmetic_again op = refl

pub test_again : (c : BCmp) → binary_of (binary_head (binary.Test c)) ≡ Some (binary.Test c)
unfolding binary_of
test_again tests.Eq = refl
test_again c = refl

pub bool_again : (op : BoolOperator) → binary_of (binary_head (binary.Bool op)) ≡ Some (binary.Bool op)
unfolding binary_of
bool_again operators.And = refl
bool_again operators.Or = refl
bool_again (operators.Call bools.Imp) = refl
bool_again (operators.Call f) = refl

pub connective_again : (op : Connective) → binary_of (binary_head (binary.Connect op)) ≡ Some (binary.Connect op)
unfolding binary_of
connective_again connectives.And = refl
connective_again op = refl

pub call_again : (f : Fn2) → binary_of (binary_head (binary.Call f)) ≡ Some (binary.Call f)
unfolding binary_of
call_again two.ZMin = refl
call_again f = refl

pub equal_again : binary_of (binary_head binary.Equal) ≡ Some binary.Equal
unfolding binary_of
equal_again = refl

pub differ_again : binary_of (binary_head binary.Differ) ≡ Some binary.Differ
unfolding binary_of
differ_again = refl

pub chain_again : (c d : Cmp) → makes_chain c ≡ true → makes_chain d ≡ true → chain_of (chain_head c d) ≡ Some (c, d)
unfolding chain_of
chain_again cmps.Lt cmps.Lt h k = refl
chain_again cmps.Lt cmps.Le h k = refl
chain_again cmps.Le cmps.Lt h k = refl
chain_again cmps.Le cmps.Le h k = refl
chain_again cmps.Lt d h k = absurd cc
chain_again cmps.Le d h k = absurd cc
chain_again c d h k = absurd cc

-- what has two operands of its own has no literal for its right side
pub no_literal : (op : Binary) → by_literal_of (binary_head op) ≡ None
unfolding by_literal_of
no_literal binary.Equal = refl
no_literal binary.Differ = refl
no_literal (binary.Arithmetic arithmetics.Sum) = refl
no_literal (binary.Arithmetic op) = refl
no_literal (binary.Compare cmps.Eq) = refl
no_literal (binary.Compare c) = refl
no_literal (binary.Test tests.Eq) = refl
no_literal (binary.Test c) = refl
no_literal (binary.Bool operators.And) = refl
no_literal (binary.Bool operators.Or) = refl
no_literal (binary.Bool (operators.Call f)) = refl
no_literal (binary.Connect connectives.And) = refl
no_literal (binary.Connect op) = refl
no_literal (binary.Call f) = refl
