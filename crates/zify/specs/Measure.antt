-- How large the atoms of a translated goal are: bounds on the coefficients, the number of terms and the degree of what
-- they say of polynomials.
use Rattle.std.specs.Prelude.{◌^◌, ◌<◌, ◌≤◌, unsigned_abs, map, fold}
use Rattle.zify.specs.declared.term.ZTerm.{ZTerm}
use Rattle.zify.specs.declared.term.ZTerm.TheOpen.{ZTerm-F}
use Rattle.zify.specs.declared.term.ZTerm.TheFolds.{fold-ZTerm}
use Rattle.zify.specs.declared.form.ZForm.{ZForm}
use Rattle.zify.specs.declared.form.ZForm.TheOpen.{ZForm-F}
use Rattle.zify.specs.declared.form.ZForm.TheFolds.{fold-ZForm}
use Rattle.zify.specs.declared.goal.ZGoal.{ZGoal}
use Rattle.goal_measure.specs.declared.measure.Measure.{Measure}
use Rattle.goal_measure.specs.Measure.{of_literal, of_variable, of_sum, of_product, of_power, of_atom, nothing, greater}

abbrev pub measure_level : ZTerm-F Measure → Measure
measure_level (ZTerm-F.Lit n) = of_literal (unsigned_abs n)
measure_level (ZTerm-F.Var v) = of_variable
measure_level (ZTerm-F.Neg a) = a
measure_level (ZTerm-F.Add a b) = of_sum a b
measure_level (ZTerm-F.Sub a b) = of_sum a b
measure_level (ZTerm-F.Mul a b) = of_product a b
measure_level (ZTerm-F.Pow a k) = of_power a (unsigned_abs k)

-- the measures of a term
abbrev pub measure_of : ZTerm → Measure
measure_of = fold-ZTerm Measure measure_level

abbrev pub greatest_level : ZForm-F Measure → Measure
greatest_level ZForm-F.True = nothing
greatest_level ZForm-F.False = nothing
greatest_level (ZForm-F.Atom c t u) = of_atom (measure_of t) (measure_of u)
greatest_level (ZForm-F.Not f) = f
greatest_level (ZForm-F.And f g) = greater f g
greatest_level (ZForm-F.Or f g) = greater f g
greatest_level (ZForm-F.Imp f g) = greater f g
greatest_level (ZForm-F.Iff f g) = greater f g

-- the greatest weight, spread and degree of the atoms of a formula
abbrev pub greatest_in : ZForm → Measure
greatest_in = fold-ZForm Measure greatest_level

-- those of the atoms of a goal, hypotheses and body
abbrev pub greatest_of : ZGoal → Measure
greatest_of z = fold greater (greatest_in z.body) (map greatest_in z.hyps)

-- the limits: weights below 2^100, spreads up to 256, degrees up to 8
pub record IsWithinLimits (z : ZGoal) : Type 0 where
  pub weight : (greatest_of z).weight < 2 ^ 100
  pub spread : (greatest_of z).spread ≤ 256
  pub degree : (greatest_of z).degree ≤ 8

-- the weight of some atom passes its limit
abbrev pub IsTooHeavy : ZGoal → Type 0
IsTooHeavy z = 2 ^ 100 ≤ (greatest_of z).weight

-- no weight passes its limit, and the spread of some atom does
abbrev pub IsTooWide : ZGoal → Type 0
IsTooWide z = ((greatest_of z).weight < 2 ^ 100) × (256 < (greatest_of z).spread)

-- no weight and no spread passes its limit, and the degree of some atom does
abbrev pub IsTooSteep : ZGoal → Type 0
IsTooSteep z = ((greatest_of z).weight < 2 ^ 100) × ((greatest_of z).spread ≤ 256) × (8 < (greatest_of z).degree)
