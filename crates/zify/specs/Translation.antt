-- The translation of a goal to the integers.
use Rattle.std.specs.Prelude.{ℕ, suc, ◌+◌, ℤ, pos, negsuc, List, [], ◌∷◌, ◌++◌, length, map, if◌then◌else◌}
use Rattle.std.specs.List.{position_or_len}
use Rattle.goal_ast.specs.declared.term.Sort.{Sort}
use Rattle.goal_ast.specs.declared.term.Sort.TheVariants as sorts
use Rattle.goal_ast.specs.declared.term.Fn1.{Fn1}
use Rattle.goal_ast.specs.declared.term.Fn1.TheVariants.{ZSucc, ZPred, ZOpp, ZAbs, ZSgn, S, NatPred, NSucc, NPred, PosSucc, PosPred, OfNat, OfN, OfPos, ToNat, ToN}
use Rattle.goal_ast.specs.declared.term.Fn2.{Fn2}
use Rattle.goal_ast.specs.declared.term.Fn2.TheVariants.{ZMin, ZMax, NatMin, NatMax, NMin, NMax, PosMin, PosMax}
use Rattle.goal_ast.specs.declared.term.Term.{Term}
use Rattle.goal_ast.specs.declared.term.Term.TheVariants as terms
use Rattle.goal_ast.specs.declared.term.Term.TheOpen.{Term-F}
use Rattle.goal_ast.specs.declared.term.Term.TheViews.{out-Term}
use Rattle.goal_ast.specs.declared.term.Term.TheFolds.{map-Term, para-Term}
use Rattle.goal_ast.specs.declared.formula.Cmp.{Cmp}
use Rattle.goal_ast.specs.declared.formula.Cmp.TheVariants as cmps
use Rattle.goal_ast.specs.declared.formula.BCmp.{BCmp}
use Rattle.goal_ast.specs.declared.formula.BCmp.TheVariants as tests
use Rattle.goal_ast.specs.declared.formula.BFn.{BFn}
use Rattle.goal_ast.specs.declared.formula.BFn.TheVariants.{Imp, Xor, Eqb}
use Rattle.goal_ast.specs.declared.formula.BTerm.{BTerm}
use Rattle.goal_ast.specs.declared.formula.BTerm.TheOpen.{BTerm-F}
use Rattle.goal_ast.specs.declared.formula.BTerm.TheFolds.{fold-BTerm}
use Rattle.goal_ast.specs.declared.formula.Formula.{Formula}
use Rattle.goal_ast.specs.declared.formula.Formula.TheOpen.{Formula-F}
use Rattle.goal_ast.specs.declared.formula.Formula.TheFolds.{fold-Formula}
use Rattle.goal_ast.specs.declared.goal.Goal.{Goal}
use Rattle.goal_ast.specs.Equality.{same_term}
use Rattle.goal_ast.specs.Range.{sorts_of}
use Rattle.zify.specs.declared.term.ZTerm.{ZTerm}
use Rattle.zify.specs.declared.term.ZTerm.TheVariants as zterms
use Rattle.zify.specs.declared.form.ZForm.{ZForm}
use Rattle.zify.specs.declared.form.ZForm.TheVariants as forms
use Rattle.zify.specs.declared.goal.ZGoal.{ZGoal}
use Rattle.zify.specs.Operations.{is_plain, has_variable, distinct_operations}

-- how many variables are bound, and the operations that have the variables after them, in their order
pub record Table : Type 0 where
  pub bound : ℕ
  pub operations : List Term

-- the number of an operation's variable
abbrev pub number_of : Table → Term → ℕ
number_of e t = e.bound + position_or_len (same_term t) e.operations

abbrev pub variable_of : Table → Term → ZTerm
variable_of e t = zterms.Var (number_of e t)

-- a number; a negative one is the negation of a literal
abbrev pub number : ℤ → ZTerm
number (pos n) = zterms.Lit (pos n)
number (negsuc n) = zterms.Neg (zterms.Lit (pos (suc n)))

-- a - k * z
abbrev pub remainder_term : ZTerm → ℤ → ZTerm → ZTerm
remainder_term a k z = zterms.Sub a (zterms.Mul (number k) z)

-- a function that is polynomial in its argument
abbrev pub plain_call : Fn1 → ZTerm → ZTerm
plain_call ZSucc a = zterms.Add a (number (pos 1))
plain_call ZPred a = zterms.Sub a (number (pos 1))
plain_call ZOpp a = zterms.Neg a
plain_call ZAbs a = a
plain_call ZSgn a = a
plain_call S a = zterms.Add a (number (pos 1))
plain_call NatPred a = a
plain_call NSucc a = zterms.Add a (number (pos 1))
plain_call NPred a = a
plain_call PosSucc a = zterms.Add a (number (pos 1))
plain_call PosPred a = a
plain_call OfNat a = a
plain_call OfN a = a
plain_call OfPos a = a
plain_call ToNat a = a
plain_call ToN a = a

abbrev pub term_level : Table → Term-F (Term × ZTerm) → ZTerm
term_level e (Term-F.Lit n) = zterms.Lit n
term_level e (Term-F.Var v) = zterms.Var v
term_level e (Term-F.Neg a) = zterms.Neg a.1
term_level e (Term-F.Add a b) = zterms.Add a.1 b.1
term_level e (Term-F.Sub s a b) = if is_plain s then zterms.Sub a.1 b.1 else variable_of e (terms.Sub s a.0 b.0)
term_level e (Term-F.Mul a b) = zterms.Mul a.1 b.1
term_level e (Term-F.Pow a k) = zterms.Pow a.1 k
term_level e (Term-F.Div a k) = variable_of e (terms.Div a.0 k)
term_level e (Term-F.Rem a k) = remainder_term a.1 k (variable_of e (terms.Div a.0 k))
term_level e (Term-F.Call1 f a) = if has_variable f then variable_of e (terms.Call1 f a.0) else plain_call f a.1
term_level e (Term-F.Call2 f a b) = variable_of e (terms.Call2 f a.0 b.0)

-- the translation of a term
abbrev pub term_of : Table → Term → ZTerm
term_of e = para-Term ZTerm (term_level e)

abbrev pub equals : ZTerm → ZTerm → ZForm
equals z a = forms.Atom cmps.Eq z a

-- a c b and z = v, or a d b and z = w
abbrev pub cases : Cmp → Cmp → ZTerm → ZTerm → ZTerm → ZTerm → ZTerm → ZForm
cases c d a b z v w = forms.Or (forms.And (forms.Atom c a b) (equals z v)) (forms.And (forms.Atom d a b) (equals z w))

-- what says that z is the difference of a and b, on a sort where it stops
abbrev pub difference_condition : Sort → ZTerm → ZTerm → ZTerm → ZForm
difference_condition sorts.Int a b z = forms.True
difference_condition sorts.Bool a b z = forms.True
difference_condition sorts.Bin a b z = cases cmps.Ge cmps.Lt a b z (zterms.Sub a b) (number (pos 0))
difference_condition sorts.Nat a b z = cases cmps.Ge cmps.Lt a b z (zterms.Sub a b) (number (pos 0))
difference_condition sorts.Pos a b z = cases cmps.Gt cmps.Le a b z (zterms.Sub a b) (number (pos 1))

-- what says that z is the number before a, where that is at least n - 1, and n - 1 else
abbrev pub predecessor_condition : ℤ → ℤ → ZTerm → ZTerm → ZForm
predecessor_condition n m a z = cases cmps.Ge cmps.Lt a (number n) z (zterms.Sub a (number (pos 1))) (number m)

abbrev pub sign_condition : ZTerm → ZTerm → ZForm
sign_condition a z = forms.Or (forms.And (forms.Atom cmps.Gt a (number (pos 0))) (equals z (number (pos 1))))
    (cases cmps.Eq cmps.Lt a (number (pos 0)) z (number (pos 0)) (number (negsuc 0)))

abbrev pub call_condition : Fn1 → ZTerm → ZTerm → ZForm
call_condition ZSucc a z = forms.True
call_condition ZPred a z = forms.True
call_condition ZOpp a z = forms.True
call_condition ZAbs a z = cases cmps.Ge cmps.Lt a (number (pos 0)) z a (zterms.Neg a)
call_condition ZSgn a z = sign_condition a z
call_condition S a z = forms.True
call_condition NatPred a z = predecessor_condition (pos 1) (pos 0) a z
call_condition NSucc a z = forms.True
call_condition NPred a z = predecessor_condition (pos 1) (pos 0) a z
call_condition PosSucc a z = forms.True
call_condition PosPred a z = predecessor_condition (pos 2) (pos 1) a z
call_condition OfNat a z = forms.True
call_condition OfN a z = forms.True
call_condition OfPos a z = forms.True
call_condition ToNat a z = cases cmps.Ge cmps.Lt a (number (pos 0)) z a (number (pos 0))
call_condition ToN a z = cases cmps.Ge cmps.Lt a (number (pos 0)) z a (number (pos 0))

abbrev pub least_condition : ZTerm → ZTerm → ZTerm → ZForm
least_condition a b z = cases cmps.Le cmps.Gt a b z a b

abbrev pub greatest_condition : ZTerm → ZTerm → ZTerm → ZForm
greatest_condition a b z = cases cmps.Ge cmps.Lt a b z a b

abbrev pub call_2_condition : Fn2 → ZTerm → ZTerm → ZTerm → ZForm
call_2_condition ZMin a b z = least_condition a b z
call_2_condition ZMax a b z = greatest_condition a b z
call_2_condition NatMin a b z = least_condition a b z
call_2_condition NatMax a b z = greatest_condition a b z
call_2_condition NMin a b z = least_condition a b z
call_2_condition NMax a b z = greatest_condition a b z
call_2_condition PosMin a b z = least_condition a b z
call_2_condition PosMax a b z = greatest_condition a b z

-- what says that z is the quotient of a by k: the remainder has the sign of k, and a smaller magnitude
abbrev pub quotient_condition : ZTerm → ℤ → ZTerm → ZForm
quotient_condition a (pos n) z = forms.And (forms.Atom cmps.Ge (remainder_term a (pos n) z) (number (pos 0))) (forms.Atom cmps.Lt (remainder_term a (pos n) z) (number (pos n)))
quotient_condition a (negsuc n) z = forms.And (forms.Atom cmps.Le (remainder_term a (negsuc n) z) (number (pos 0))) (forms.Atom cmps.Gt (remainder_term a (negsuc n) z) (number (negsuc n)))

-- what says that z is the value of an operation on operands
abbrev pub condition_level : Term-F ZTerm → ZTerm → ZForm
condition_level (Term-F.Lit n) z = forms.True
condition_level (Term-F.Var v) z = forms.True
condition_level (Term-F.Neg a) z = forms.True
condition_level (Term-F.Add a b) z = forms.True
condition_level (Term-F.Sub s a b) z = difference_condition s a b z
condition_level (Term-F.Mul a b) z = forms.True
condition_level (Term-F.Pow a k) z = forms.True
condition_level (Term-F.Div a k) z = quotient_condition a k z
condition_level (Term-F.Rem a k) z = forms.True
condition_level (Term-F.Call1 f a) z = call_condition f a z
condition_level (Term-F.Call2 f a b) z = call_2_condition f a b z

-- the defining condition of an operation's variable
abbrev pub condition_of : Table → Term → ZForm
condition_of e t = condition_level (map-Term Term ZTerm (term_of e) (out-Term t)) (variable_of e t)

abbrev pub cmp_of : BCmp → Cmp
cmp_of tests.Eq = cmps.Eq
cmp_of tests.Lt = cmps.Lt
cmp_of tests.Le = cmps.Le
cmp_of tests.Gt = cmps.Gt
cmp_of tests.Ge = cmps.Ge

abbrev pub call_form : BFn → ZForm → ZForm → ZForm
call_form Imp a b = forms.Imp a b
call_form Xor a b = forms.Not (forms.Iff a b)
call_form Eqb a b = forms.Iff a b

abbrev pub bool_form_level : Table → BTerm-F ZForm → ZForm
bool_form_level e BTerm-F.True = forms.True
bool_form_level e BTerm-F.False = forms.False
bool_form_level e (BTerm-F.Var v) = forms.Atom cmps.Ge (zterms.Var v) (number (pos 1))
bool_form_level e (BTerm-F.Test c t u) = forms.Atom (cmp_of c) (term_of e t) (term_of e u)
bool_form_level e (BTerm-F.Not a) = forms.Not a
bool_form_level e (BTerm-F.And a b) = forms.And a b
bool_form_level e (BTerm-F.Or a b) = forms.Or a b
bool_form_level e (BTerm-F.Call f a b) = call_form f a b

-- the translation of a bool term
abbrev pub bool_form_of : Table → BTerm → ZForm
bool_form_of e = fold-BTerm ZForm (bool_form_level e)

abbrev pub form_level : Table → Formula-F ZForm → ZForm
form_level e Formula-F.True = forms.True
form_level e Formula-F.False = forms.False
form_level e (Formula-F.Atom c t u) = forms.Atom c (term_of e t) (term_of e u)
form_level e (Formula-F.Chain t c u d v) = forms.And (forms.Atom c (term_of e t) (term_of e u)) (forms.Atom d (term_of e u) (term_of e v))
form_level e (Formula-F.Same b c) = forms.Iff (bool_form_of e b) (bool_form_of e c)
form_level e (Formula-F.Differ b c) = forms.Not (forms.Iff (bool_form_of e b) (bool_form_of e c))
form_level e (Formula-F.Not f) = forms.Not f
form_level e (Formula-F.And f g) = forms.And f g
form_level e (Formula-F.Or f g) = forms.Or f g
form_level e (Formula-F.Imp f g) = forms.Imp f g
form_level e (Formula-F.Iff f g) = forms.Iff f g

-- the translation of a formula
abbrev pub form_of : Table → Formula → ZForm
form_of e = fold-Formula ZForm (form_level e)

-- the range of a variable of a sort
abbrev pub range_of : ℕ → Sort → List ZForm
range_of v sorts.Int = []
range_of v sorts.Bin = forms.Atom cmps.Ge (zterms.Var v) (number (pos 0)) ∷ []
range_of v sorts.Nat = forms.Atom cmps.Ge (zterms.Var v) (number (pos 0)) ∷ []
range_of v sorts.Pos = forms.Atom cmps.Ge (zterms.Var v) (number (pos 1)) ∷ []
range_of v sorts.Bool = forms.Atom cmps.Ge (zterms.Var v) (number (pos 0)) ∷ forms.Atom cmps.Le (zterms.Var v) (number (pos 1)) ∷ []

-- the ranges of variables of these sorts, numbered from v on
abbrev pub ranges_from : ℕ → List Sort → List ZForm
ranges_from v [] = []
ranges_from v (s ∷ ss) = range_of v s ++ ranges_from (v + 1) ss

abbrev pub table_of : Goal → Table
table_of goal = record { bound = length goal.vars; operations = distinct_operations goal.body }

-- the ranges, then the defining conditions in the order of their variables, and the body
abbrev pub translated : Goal → ZGoal
translated goal = record {
  vars = length goal.vars + length (distinct_operations goal.body);
  bound = length goal.vars;
  hyps = ranges_from 0 (sorts_of goal.vars) ++ map (condition_of (table_of goal)) (distinct_operations goal.body);
  body = form_of (table_of goal) goal.body;
}
