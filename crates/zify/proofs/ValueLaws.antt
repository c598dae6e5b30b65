-- The value of each kind of term and the truth of each kind of formula.
use Rattle.std.specs.Prelude.{◌≡◌, ℕ, suc, ℤ, pos, negsuc, neg_ℤ, ◌+ℤ◌, ◌-ℤ◌, ◌*ℤ◌, unsigned_abs, Bool, true, false, not, ◌&&◌, ◌||◌}
use Rattle.std.proofs.Common.{ap, sym, ◌∙◌}
use Rattle.mm_num.specs.Power.{power}
use Rattle.goal_ast.specs.declared.formula.Cmp.{Cmp}
use Rattle.goal_ast.specs.Truth.{Point, compare, same}
use Rattle.zify.specs.declared.term.ZTerm.{ZTerm}
use Rattle.zify.specs.declared.term.ZTerm.TheOpen.{ZTerm-F}
use Rattle.zify.specs.declared.term.ZTerm.TheVariants as zterms
use Rattle.zify.specs.declared.term.ZTerm.TheFolds.{fold-roll-ZTerm}
use Rattle.zify.specs.declared.form.ZForm.{ZForm}
use Rattle.zify.specs.declared.form.ZForm.TheOpen.{ZForm-F}
use Rattle.zify.specs.declared.form.ZForm.TheVariants as forms
use Rattle.zify.specs.declared.form.ZForm.TheFolds.{fold-roll-ZForm}
use Rattle.zify.specs.Truth.{z_value_level, z_value_of, z_truth_level, z_truth_of}
use Rattle.zify.specs.Translation.{number}

pub value_lit : (x : Point) (n : ℤ) → z_value_of x (zterms.Lit n) ≡ n
value_lit x n = ap (z_value_of x) (sym (zterms.rolls-Lit n)) ∙ fold-roll-ZTerm ℤ (z_value_level x) (ZTerm-F.Lit n)

pub value_neg : (x : Point) (a : ZTerm) → z_value_of x (zterms.Neg a) ≡ neg_ℤ (z_value_of x a)
value_neg x a = ap (z_value_of x) (sym (zterms.rolls-Neg a)) ∙ fold-roll-ZTerm ℤ (z_value_level x) (ZTerm-F.Neg a)

pub value_add : (x : Point) (a b : ZTerm) → z_value_of x (zterms.Add a b) ≡ z_value_of x a +ℤ z_value_of x b
value_add x a b = ap (z_value_of x) (sym (zterms.rolls-Add a b)) ∙ fold-roll-ZTerm ℤ (z_value_level x) (ZTerm-F.Add a b)

pub value_sub : (x : Point) (a b : ZTerm) → z_value_of x (zterms.Sub a b) ≡ z_value_of x a -ℤ z_value_of x b
value_sub x a b = ap (z_value_of x) (sym (zterms.rolls-Sub a b)) ∙ fold-roll-ZTerm ℤ (z_value_level x) (ZTerm-F.Sub a b)

pub value_mul : (x : Point) (a b : ZTerm) → z_value_of x (zterms.Mul a b) ≡ z_value_of x a *ℤ z_value_of x b
value_mul x a b = ap (z_value_of x) (sym (zterms.rolls-Mul a b)) ∙ fold-roll-ZTerm ℤ (z_value_level x) (ZTerm-F.Mul a b)

pub value_pow : (x : Point) (a : ZTerm) (k : ℤ) → z_value_of x (zterms.Pow a k) ≡ power (z_value_of x a) (unsigned_abs k)
value_pow x a k = ap (z_value_of x) (sym (zterms.rolls-Pow a k)) ∙ fold-roll-ZTerm ℤ (z_value_level x) (ZTerm-F.Pow a k)

pub truth_true : (x : Point) → z_truth_of x forms.True ≡ true
truth_true x = ap (z_truth_of x) (sym forms.rolls-True) ∙ fold-roll-ZForm Bool (z_truth_level x) ZForm-F.True

pub truth_false : (x : Point) → z_truth_of x forms.False ≡ false
truth_false x = ap (z_truth_of x) (sym forms.rolls-False) ∙ fold-roll-ZForm Bool (z_truth_level x) ZForm-F.False

pub truth_atom : (x : Point) (c : Cmp) (t u : ZTerm) → z_truth_of x (forms.Atom c t u) ≡ compare c (z_value_of x t) (z_value_of x u)
truth_atom x c t u = ap (z_truth_of x) (sym (forms.rolls-Atom c t u)) ∙ fold-roll-ZForm Bool (z_truth_level x) (ZForm-F.Atom c t u)

pub truth_not : (x : Point) (f : ZForm) → z_truth_of x (forms.Not f) ≡ not (z_truth_of x f)
truth_not x f = ap (z_truth_of x) (sym (forms.rolls-Not f)) ∙ fold-roll-ZForm Bool (z_truth_level x) (ZForm-F.Not f)

pub truth_and : (x : Point) (f g : ZForm) → z_truth_of x (forms.And f g) ≡ (z_truth_of x f && z_truth_of x g)
truth_and x f g = ap (z_truth_of x) (sym (forms.rolls-And f g)) ∙ fold-roll-ZForm Bool (z_truth_level x) (ZForm-F.And f g)

pub truth_or : (x : Point) (f g : ZForm) → z_truth_of x (forms.Or f g) ≡ (z_truth_of x f || z_truth_of x g)
truth_or x f g = ap (z_truth_of x) (sym (forms.rolls-Or f g)) ∙ fold-roll-ZForm Bool (z_truth_level x) (ZForm-F.Or f g)

pub truth_imp : (x : Point) (f g : ZForm) → z_truth_of x (forms.Imp f g) ≡ (not (z_truth_of x f) || z_truth_of x g)
truth_imp x f g = ap (z_truth_of x) (sym (forms.rolls-Imp f g)) ∙ fold-roll-ZForm Bool (z_truth_level x) (ZForm-F.Imp f g)

pub truth_iff : (x : Point) (f g : ZForm) → z_truth_of x (forms.Iff f g) ≡ same (z_truth_of x f) (z_truth_of x g)
truth_iff x f g = ap (z_truth_of x) (sym (forms.rolls-Iff f g)) ∙ fold-roll-ZForm Bool (z_truth_level x) (ZForm-F.Iff f g)

pub value_variable : (x : Point) (v : ℕ) → z_value_of x (zterms.Var v) ≡ x v
value_variable x v = ap (z_value_of x) (sym (zterms.rolls-Var v)) ∙ fold-roll-ZTerm ℤ (z_value_level x) (ZTerm-F.Var v)

pub value_number : (x : Point) (k : ℤ) → z_value_of x (number k) ≡ k
value_number x (pos n) = value_lit x (pos n)
value_number x (negsuc n) = value_neg x (zterms.Lit (pos (suc n))) ∙ ap neg_ℤ (value_lit x (pos (suc n)))
