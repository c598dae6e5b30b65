-- One walk that numbers the terms, gives each new operation its variable, and makes the conditions.
use Rattle.std.specs.Prelude.{◌≡◌, ℕ, ◌+◌, ◌==◌, ℤ, pos, List, [], ◌∷◌, ◌++◌, Bool, not, ◌&&◌, if◌then◌else◌}
use Rattle.std.specs.List.{list_any, position_or_len}
use Rattle.goal_ast.specs.declared.term.Sort.{Sort}
use Rattle.goal_ast.specs.declared.term.Fn1.{Fn1}
use Rattle.goal_ast.specs.declared.term.Operator.{Operator}
use Rattle.goal_ast.specs.declared.term.Operator.TheVariants as operators
use Rattle.goal_ast.specs.declared.term.Term.{Term}
use Rattle.goal_ast.specs.declared.term.Term.TheOpen.{Term-F}
use Rattle.goal_ast.specs.declared.term.Term.TheFolds.{fold-Term}
use Rattle.goal_ast.specs.declared.formula.Cmp.{Cmp}
use Rattle.goal_ast.specs.declared.formula.Cmp.TheVariants as cmps
use Rattle.goal_ast.specs.declared.formula.BTerm.{BTerm}
use Rattle.goal_ast.specs.declared.formula.BTerm.TheOpen.{BTerm-F}
use Rattle.goal_ast.specs.declared.formula.BTerm.TheFolds.{fold-BTerm}
use Rattle.goal_ast.specs.declared.formula.Formula.{Formula}
use Rattle.goal_ast.specs.declared.formula.Formula.TheOpen.{Formula-F}
use Rattle.goal_ast.specs.declared.formula.Formula.TheFolds.{fold-Formula}
use Rattle.goal_ast.specs.Equality.{same_operator}
use Rattle.zify.specs.declared.term.ZTerm.{ZTerm}
use Rattle.zify.specs.declared.term.ZTerm.TheVariants as zterms
use Rattle.zify.specs.declared.form.ZForm.{ZForm}
use Rattle.zify.specs.declared.form.ZForm.TheVariants as forms
use Rattle.zify.specs.declared.shape.Shape.{Shape}
use Rattle.zify.specs.declared.translate.Placed.{Placed}
use Rattle.zify.specs.Operations.{is_plain, has_variable}
use Rattle.zify.specs.Translation.{number, remainder_term, plain_call, difference_condition, call_condition, call_2_condition, quotient_condition, cmp_of, call_form}
use Rattle.zify.specs.machine.Table.{State}

abbrev pub same_shape : Shape → Shape → Bool
same_shape a b = same_operator a.operator b.operator && (a.left == b.left && a.right == b.right)

-- the number of a shape in a list, or the number that it gets
abbrev pub place_of : Shape → List Shape → ℕ
place_of s ss = position_or_len (same_shape s) ss

abbrev pub with_shape : List Shape → Shape → List Shape
with_shape ss s = if list_any (same_shape s) ss then ss else ss ++ s ∷ []

-- the same of numbers
abbrev pub number_in : ℕ → List ℕ → ℕ
number_in n ns = position_or_len (λ m. n == m) ns

abbrev pub has_number : ℕ → List ℕ → Bool
has_number n ns = list_any (λ m. n == m) ns

abbrev pub with_number : List ℕ → ℕ → List ℕ
with_number ns n = if has_number n ns then ns else ns ++ n ∷ []

-- what a term becomes: its number, its translation, and the state after it
pub record Walked : Type 0 where
  pub place : ℕ
  pub term : ZTerm
  pub state : State

abbrev pub shape : Operator → ℕ → ℕ → Shape
shape o l r = record { operator = o; left = l; right = r }

abbrev pub with_place : Shape → State → State
with_place n s = record s { shapes = with_shape s.shapes n }

-- a node that isn't an operation
abbrev pub placed : Shape → ZTerm → State → Walked
placed n t s = record { place = place_of n s.shapes; term = t; state = with_place n s }

abbrev pub entered : Shape → State → State
entered n s = record s { shapes = with_shape s.shapes n; operations = with_number s.operations (place_of n s.shapes) }

-- the number of an operation's variable, after the bound ones
abbrev pub variable_in : ℕ → Shape → State → ℕ
variable_in b n s = b + number_in (place_of n s.shapes) s.operations

abbrev pub is_new : Shape → State → Bool
is_new n s = not (has_number (place_of n s.shapes) s.operations)

abbrev pub with_condition : Bool → ZForm → State → State
with_condition new f s = record s { conditions = if new then s.conditions ++ f ∷ [] else s.conditions }

-- a node that is an operation, with what its condition says of its variable
abbrev pub operated : ℕ → Shape → (ZTerm → ZForm) → State → Walked
operated b n f s = record {
  place = place_of n s.shapes;
  term = zterms.Var (variable_in b n s);
  state = with_condition (is_new n s) (f (zterms.Var (variable_in b n s))) (entered n s);
}

abbrev pub subtracted : ℕ → Sort → Walked → Walked → Walked
subtracted b s p q =
    if is_plain s
    then placed (shape (operators.Sub s) p.place q.place) (zterms.Sub p.term q.term) q.state
    else operated b (shape (operators.Sub s) p.place q.place) (difference_condition s p.term q.term) q.state

abbrev pub divided : ℕ → ℤ → Walked → Walked
divided b k p = operated b (shape (operators.Div k) p.place 0) (quotient_condition p.term k) p.state

abbrev pub reduced : ℕ → ℤ → Walked → Walked
reduced b k p = placed (shape (operators.Rem k) p.place 0) (remainder_term p.term k (divided b k p).term) (divided b k p).state

abbrev pub called : ℕ → Fn1 → Walked → Walked
called b f p =
    if has_variable f
    then operated b (shape (operators.Call1 f) p.place 0) (call_condition f p.term) p.state
    else placed (shape (operators.Call1 f) p.place 0) (plain_call f p.term) p.state

abbrev pub Walk : Type 0
Walk = State → Walked

abbrev pub walk_level : ℕ → Term-F Walk → Walk
walk_level b (Term-F.Lit n) s = placed (shape (operators.Lit n) 0 0) (zterms.Lit n) s
walk_level b (Term-F.Var v) s = placed (shape (operators.Var v) 0 0) (zterms.Var v) s
walk_level b (Term-F.Neg a) s = placed (shape operators.Neg (a s).place 0) (zterms.Neg (a s).term) (a s).state
walk_level b (Term-F.Add x y) s = placed (shape operators.Add (x s).place (y (x s).state).place) (zterms.Add (x s).term (y (x s).state).term) (y (x s).state).state
walk_level b (Term-F.Sub t x y) s = subtracted b t (x s) (y (x s).state)
walk_level b (Term-F.Mul x y) s = placed (shape operators.Mul (x s).place (y (x s).state).place) (zterms.Mul (x s).term (y (x s).state).term) (y (x s).state).state
walk_level b (Term-F.Pow a k) s = placed (shape (operators.Pow k) (a s).place 0) (zterms.Pow (a s).term k) (a s).state
walk_level b (Term-F.Div a k) s = divided b k (a s)
walk_level b (Term-F.Rem a k) s = reduced b k (a s)
walk_level b (Term-F.Call1 f a) s = called b f (a s)
walk_level b (Term-F.Call2 f x y) s = operated b (shape (operators.Call2 f) (x s).place (y (x s).state).place) (call_2_condition f (x s).term (y (x s).state).term) (y (x s).state).state

-- the walk over a term, with so many bound variables
abbrev pub walk : ℕ → Term → Walk
walk b = fold-Term Walk (walk_level b)

-- a part of a term that was walked, with the state after it
abbrev pub part_of : Placed → State → Walked
part_of p s = record { place = p.place; term = p.term; state = s }

-- what was found is what the walk finds
abbrev pub IsPart : Placed → Walked → Type 0
IsPart p w = (p.place ≡ w.place) × (p.term ≡ w.term)

-- what a bool term or a formula becomes, and the state after it
pub record Formed : Type 0 where
  pub form : ZForm
  pub state : State

abbrev pub FormWalk : Type 0
FormWalk = State → Formed

-- two terms and their comparison
abbrev pub compared : ℕ → Cmp → Term → Term → FormWalk
compared b c t u s = record { form = forms.Atom c (walk b t s).term (walk b u (walk b t s).state).term; state = (walk b u (walk b t s).state).state }

-- two formulas, joined
abbrev pub paired : (ZForm → ZForm → ZForm) → FormWalk → FormWalk → FormWalk
paired f x y s = record { form = f (x s).form (y (x s).state).form; state = (y (x s).state).state }

abbrev pub negated : FormWalk → FormWalk
negated x s = record { form = forms.Not (x s).form; state = (x s).state }

-- three terms, and the comparisons of each two
abbrev pub chained : Cmp → Cmp → Walked → Walked → Walked → Formed
chained c d p q r = record { form = forms.And (forms.Atom c p.term q.term) (forms.Atom d q.term r.term); state = r.state }

abbrev pub chain : ℕ → Term → Cmp → Term → Cmp → Term → FormWalk
chain b t c u d v s = chained c d (walk b t s) (walk b u (walk b t s).state) (walk b v (walk b u (walk b t s).state).state)

abbrev pub bool_walk_level : ℕ → BTerm-F FormWalk → FormWalk
bool_walk_level b BTerm-F.True s = record { form = forms.True; state = s }
bool_walk_level b BTerm-F.False s = record { form = forms.False; state = s }
bool_walk_level b (BTerm-F.Var v) s = record { form = forms.Atom cmps.Ge (zterms.Var v) (number (pos 1)); state = s }
bool_walk_level b (BTerm-F.Test c t u) s = compared b (cmp_of c) t u s
bool_walk_level b (BTerm-F.Not x) s = negated x s
bool_walk_level b (BTerm-F.And x y) s = paired (λ f g. forms.And f g) x y s
bool_walk_level b (BTerm-F.Or x y) s = paired (λ f g. forms.Or f g) x y s
bool_walk_level b (BTerm-F.Call f x y) s = paired (call_form f) x y s

abbrev pub bool_walk : ℕ → BTerm → FormWalk
bool_walk b = fold-BTerm FormWalk (bool_walk_level b)

abbrev pub formula_walk_level : ℕ → Formula-F FormWalk → FormWalk
formula_walk_level b Formula-F.True s = record { form = forms.True; state = s }
formula_walk_level b Formula-F.False s = record { form = forms.False; state = s }
formula_walk_level b (Formula-F.Atom c t u) s = compared b c t u s
formula_walk_level b (Formula-F.Chain t c u d v) s = chain b t c u d v s
formula_walk_level b (Formula-F.Same x y) s = paired (λ f g. forms.Iff f g) (bool_walk b x) (bool_walk b y) s
formula_walk_level b (Formula-F.Differ x y) s = negated (paired (λ f g. forms.Iff f g) (bool_walk b x) (bool_walk b y)) s
formula_walk_level b (Formula-F.Not x) s = negated x s
formula_walk_level b (Formula-F.And x y) s = paired (λ f g. forms.And f g) x y s
formula_walk_level b (Formula-F.Or x y) s = paired (λ f g. forms.Or f g) x y s
formula_walk_level b (Formula-F.Imp x y) s = paired (λ f g. forms.Imp f g) x y s
formula_walk_level b (Formula-F.Iff x y) s = paired (λ f g. forms.Iff f g) x y s

abbrev pub formula_walk : ℕ → Formula → FormWalk
formula_walk b = fold-Formula FormWalk (formula_walk_level b)
