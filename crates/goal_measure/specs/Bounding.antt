-- The measures of a term's translation and of the conditions of its operations, found without making them; each stops
-- at its limit.
use Rattle.std.specs.Prelude.{ℕ, ◌^◌, min, unsigned_abs, ℤ}
use Rattle.goal_ast.specs.declared.term.Sort.{Sort}
use Rattle.goal_ast.specs.declared.term.Sort.TheVariants as sorts
use Rattle.goal_ast.specs.declared.term.Fn1.{Fn1}
use Rattle.goal_ast.specs.declared.term.Fn1.TheVariants.{ZSucc, ZPred, ZOpp, ZAbs, ZSgn, S, NatPred, NSucc, NPred, PosSucc, PosPred, OfNat, OfN, OfPos, ToNat, ToN}
use Rattle.goal_ast.specs.declared.term.Term.{Term}
use Rattle.goal_ast.specs.declared.term.Term.TheOpen.{Term-F}
use Rattle.goal_ast.specs.declared.term.Term.TheFolds.{fold-Term}
use Rattle.goal_ast.specs.declared.formula.BTerm.{BTerm}
use Rattle.goal_ast.specs.declared.formula.BTerm.TheOpen.{BTerm-F}
use Rattle.goal_ast.specs.declared.formula.BTerm.TheFolds.{fold-BTerm}
use Rattle.goal_ast.specs.declared.formula.Formula.{Formula}
use Rattle.goal_ast.specs.declared.formula.Formula.TheOpen.{Formula-F}
use Rattle.goal_ast.specs.declared.formula.Formula.TheFolds.{fold-Formula}
use Rattle.goal_measure.specs.declared.measure.Measure.{Measure}
use Rattle.goal_measure.specs.declared.weigh.Weighed.{Weighed}
use Rattle.goal_measure.specs.Measure.{of_literal, of_variable, of_sum, of_product, of_power, of_atom, nothing, greater}

abbrev pub cap : Measure → Measure
cap a = record { weight = min a.weight (2 ^ 100); spread = min a.spread 257; degree = min a.degree 9 }

abbrev pub of_literal_capped : ℕ → Measure
of_literal_capped n = cap (of_literal n)

abbrev pub sum_capped : Measure → Measure → Measure
sum_capped a b = cap (of_sum a b)

abbrev pub atom_capped : Measure → Measure → Measure
atom_capped a b = cap (of_atom a b)

-- the atoms of: a and b compared and the variable equal to v, or compared otherwise and the variable equal to w
abbrev pub cases_bound : Measure → Measure → Measure → Measure → Measure
cases_bound a b v w = greater (greater (atom_capped a b) (atom_capped of_variable v)) (greater (atom_capped a b) (atom_capped of_variable w))

abbrev pub difference_bound : Sort → Measure → Measure → Measure
difference_bound sorts.Int a b = nothing
difference_bound sorts.Bool a b = nothing
difference_bound sorts.Bin a b = cases_bound a b (sum_capped a b) (of_literal_capped 0)
difference_bound sorts.Nat a b = cases_bound a b (sum_capped a b) (of_literal_capped 0)
difference_bound sorts.Pos a b = cases_bound a b (sum_capped a b) (of_literal_capped 1)

-- a - k * z
abbrev pub remainder_bound : Measure → ℤ → Measure
remainder_bound a k = sum_capped a (cap (of_product (of_literal_capped (unsigned_abs k)) of_variable))

abbrev pub quotient_bound : Measure → ℤ → Measure
quotient_bound a k = greater (atom_capped (remainder_bound a k) (of_literal_capped 0)) (atom_capped (remainder_bound a k) (of_literal_capped (unsigned_abs k)))

abbrev pub predecessor_bound : ℕ → ℕ → Measure → Measure
predecessor_bound n m a = cases_bound a (of_literal_capped n) (sum_capped a (of_literal_capped 1)) (of_literal_capped m)

abbrev pub sign_bound : Measure → Measure
sign_bound a = greater (greater (atom_capped a (of_literal_capped 0)) (atom_capped of_variable (of_literal_capped 1))) (cases_bound a (of_literal_capped 0) (of_literal_capped 0) (of_literal_capped 1))

abbrev pub call_bound : Fn1 → Measure → Measure
call_bound ZSucc a = nothing
call_bound ZPred a = nothing
call_bound ZOpp a = nothing
call_bound ZAbs a = cases_bound a (of_literal_capped 0) a a
call_bound ZSgn a = sign_bound a
call_bound S a = nothing
call_bound NatPred a = predecessor_bound 1 0 a
call_bound NSucc a = nothing
call_bound NPred a = predecessor_bound 1 0 a
call_bound PosSucc a = nothing
call_bound PosPred a = predecessor_bound 2 1 a
call_bound OfNat a = nothing
call_bound OfN a = nothing
call_bound OfPos a = nothing
call_bound ToNat a = cases_bound a (of_literal_capped 0) a (of_literal_capped 0)
call_bound ToN a = cases_bound a (of_literal_capped 0) a (of_literal_capped 0)

-- the measures of a call's own term
abbrev pub called_bound : Fn1 → Measure → Measure
called_bound ZSucc a = sum_capped a (of_literal_capped 1)
called_bound ZPred a = sum_capped a (of_literal_capped 1)
called_bound ZOpp a = a
called_bound ZAbs a = of_variable
called_bound ZSgn a = of_variable
called_bound S a = sum_capped a (of_literal_capped 1)
called_bound NatPred a = of_variable
called_bound NSucc a = sum_capped a (of_literal_capped 1)
called_bound NPred a = of_variable
called_bound PosSucc a = sum_capped a (of_literal_capped 1)
called_bound PosPred a = of_variable
called_bound OfNat a = a
called_bound OfN a = a
called_bound OfPos a = a
called_bound ToNat a = of_variable
called_bound ToN a = of_variable

abbrev pub difference_term_bound : Sort → Measure → Measure → Measure
difference_term_bound sorts.Int a b = sum_capped a b
difference_term_bound sorts.Bool a b = sum_capped a b
difference_term_bound sorts.Bin a b = of_variable
difference_term_bound sorts.Nat a b = of_variable
difference_term_bound sorts.Pos a b = of_variable

abbrev pub weighed_level : Term-F Weighed → Weighed
weighed_level (Term-F.Lit n) = record { term = of_literal_capped (unsigned_abs n); atoms = nothing }
weighed_level (Term-F.Var v) = record { term = of_variable; atoms = nothing }
weighed_level (Term-F.Neg a) = a
weighed_level (Term-F.Add a b) = record { term = sum_capped a.term b.term; atoms = greater a.atoms b.atoms }
weighed_level (Term-F.Sub s a b) = record { term = difference_term_bound s a.term b.term; atoms = greater (greater a.atoms b.atoms) (difference_bound s a.term b.term) }
weighed_level (Term-F.Mul a b) = record { term = cap (of_product a.term b.term); atoms = greater a.atoms b.atoms }
weighed_level (Term-F.Pow a k) = record { term = cap (of_power a.term (unsigned_abs k)); atoms = a.atoms }
weighed_level (Term-F.Div a k) = record { term = of_variable; atoms = greater a.atoms (quotient_bound a.term k) }
weighed_level (Term-F.Rem a k) = record { term = remainder_bound a.term k; atoms = greater a.atoms (quotient_bound a.term k) }
weighed_level (Term-F.Call1 f a) = record { term = called_bound f a.term; atoms = greater a.atoms (call_bound f a.term) }
weighed_level (Term-F.Call2 f a b) = record { term = of_variable; atoms = greater (greater a.atoms b.atoms) (cases_bound a.term b.term a.term b.term) }

-- the measures of a term's translation, and the greatest ones of the conditions of its operations
abbrev pub weighed : Term → Weighed
weighed = fold-Term Weighed weighed_level

-- those of the atoms of a comparison, and of the conditions of its operations
abbrev pub compared_bound : Weighed → Weighed → Measure
compared_bound a b = greater (greater a.atoms b.atoms) (atom_capped a.term b.term)

abbrev pub bool_bound_level : BTerm-F Measure → Measure
bool_bound_level BTerm-F.True = nothing
bool_bound_level BTerm-F.False = nothing
bool_bound_level (BTerm-F.Var v) = atom_capped of_variable (of_literal_capped 1)
bool_bound_level (BTerm-F.Test c t u) = compared_bound (weighed t) (weighed u)
bool_bound_level (BTerm-F.Not a) = a
bool_bound_level (BTerm-F.And a b) = greater a b
bool_bound_level (BTerm-F.Or a b) = greater a b
bool_bound_level (BTerm-F.Call f a b) = greater a b

abbrev pub bool_bound : BTerm → Measure
bool_bound = fold-BTerm Measure bool_bound_level

abbrev pub formula_bound_level : Formula-F Measure → Measure
formula_bound_level Formula-F.True = nothing
formula_bound_level Formula-F.False = nothing
formula_bound_level (Formula-F.Atom c t u) = compared_bound (weighed t) (weighed u)
formula_bound_level (Formula-F.Chain t c u d v) = greater (compared_bound (weighed t) (weighed u)) (compared_bound (weighed u) (weighed v))
formula_bound_level (Formula-F.Same b c) = greater (bool_bound b) (bool_bound c)
formula_bound_level (Formula-F.Differ b c) = greater (bool_bound b) (bool_bound c)
formula_bound_level (Formula-F.Not f) = f
formula_bound_level (Formula-F.And f g) = greater f g
formula_bound_level (Formula-F.Or f g) = greater f g
formula_bound_level (Formula-F.Imp f g) = greater f g
formula_bound_level (Formula-F.Iff f g) = greater f g

-- the greatest measures of the atoms of a formula's translation and of the conditions of its operations
abbrev pub formula_bound : Formula → Measure
formula_bound = fold-Formula Measure formula_bound_level
