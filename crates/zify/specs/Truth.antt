-- The truth of a translated goal at a point.
use Rattle.std.specs.Prelude.{◌≡◌, ℤ, neg_ℤ, ◌+ℤ◌, ◌-ℤ◌, ◌*ℤ◌, unsigned_abs, Bool, true, false, not, ◌&&◌, ◌||◌}
use Rattle.std.specs.List.{AllByRecursion}
use Rattle.mm_num.specs.Power.{power}
use Rattle.goal_ast.specs.Truth.{Point, compare, same}
use Rattle.zify.specs.declared.term.ZTerm.{ZTerm}
use Rattle.zify.specs.declared.term.ZTerm.TheOpen.{ZTerm-F}
use Rattle.zify.specs.declared.term.ZTerm.TheFolds.{fold-ZTerm}
use Rattle.zify.specs.declared.form.ZForm.{ZForm}
use Rattle.zify.specs.declared.form.ZForm.TheOpen.{ZForm-F}
use Rattle.zify.specs.declared.form.ZForm.TheFolds.{fold-ZForm}
use Rattle.zify.specs.declared.goal.ZGoal.{ZGoal}

abbrev pub z_value_level : Point → ZTerm-F ℤ → ℤ
z_value_level x (ZTerm-F.Lit n) = n
z_value_level x (ZTerm-F.Var v) = x v
z_value_level x (ZTerm-F.Neg a) = neg_ℤ a
z_value_level x (ZTerm-F.Add a b) = a +ℤ b
z_value_level x (ZTerm-F.Sub a b) = a -ℤ b
z_value_level x (ZTerm-F.Mul a b) = a *ℤ b
z_value_level x (ZTerm-F.Pow a k) = power a (unsigned_abs k)

-- the value of a term at a point
abbrev pub z_value_of : Point → ZTerm → ℤ
z_value_of x = fold-ZTerm ℤ (z_value_level x)

abbrev pub z_truth_level : Point → ZForm-F Bool → Bool
z_truth_level x ZForm-F.True = true
z_truth_level x ZForm-F.False = false
z_truth_level x (ZForm-F.Atom c t u) = compare c (z_value_of x t) (z_value_of x u)
z_truth_level x (ZForm-F.Not f) = not f
z_truth_level x (ZForm-F.And f g) = f && g
z_truth_level x (ZForm-F.Or f g) = f || g
z_truth_level x (ZForm-F.Imp f g) = not f || g
z_truth_level x (ZForm-F.Iff f g) = same f g

-- whether a formula holds at a point
abbrev pub z_truth_of : Point → ZForm → Bool
z_truth_of x = fold-ZForm Bool (z_truth_level x)

abbrev pub HoldsTranslated : Point → ZForm → Type 0
HoldsTranslated x f = z_truth_of x f ≡ true

-- at every integer point, the hypotheses imply the body
abbrev pub IsValidTranslated : ZGoal → Type 0
IsValidTranslated z = (x : Point) → AllByRecursion (HoldsTranslated x) z.hyps → HoldsTranslated x z.body
