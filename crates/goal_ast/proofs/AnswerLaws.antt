-- What each answer of an evaluation says.
use Rattle.std.specs.Prelude.{◌≡◌, ◌↔◌, Bool, true, false, refl, Option}
use Rattle.std.proofs.Common.{sym, subst}
use Rattle.mm_num.proofs.BoolLaws.{never}
use Rattle.goal_ast.specs.declared.types.Eval.{Eval}
use Rattle.goal_ast.specs.declared.types.Eval.TheVariants as answers
use Rattle.goal_ast.specs.declared.formula.Formula.{Formula}
use Rattle.goal_ast.specs.Truth.{Point, truth_of, Holds}
use Rattle.goal_ast.specs.Evaluation.{only_if, answer, eval_of, formula_all_small, IsAllSmall}
use Rattle.goal_ast.proofs.TruthLaws.{truth_agrees}

abbrev pub Reads : Eval → Bool → Bool → Type 0
Reads r s b = ((r ≡ answers.Big) ↔ (s ≡ true → ⊥)) × ((r ≡ answers.True) ↔ ((s ≡ true) × (b ≡ true))) × ((r ≡ answers.False) ↔ ((s ≡ true) × (b ≡ true → ⊥)))

reads : (s b : Bool) → Reads (answer (only_if s b)) s b
reads true true = ((λ e. absurd (cc), λ h. absurd (h refl)), (λ e. (refl, refl), λ h. refl), (λ e. absurd (cc), λ h. absurd (h.1 refl)))
reads true false = ((λ e. absurd (cc), λ h. absurd (h refl)), (λ e. absurd (cc), λ h. never h.1), (λ e. (refl, λ h. never h), λ h. refl))
reads false b = ((λ e h. never h, λ h. refl), (λ e. absurd (cc), λ h. never h.0), (λ e. absurd (cc), λ h. never h.0))

pub eval_reads : (x : Point) (f : Formula) → Reads (eval_of x f) (formula_all_small x f) (truth_of x f)
eval_reads x f = subst (λ (o : Option Bool). Reads (answer o) (formula_all_small x f) (truth_of x f)) (sym (truth_agrees x f)) (reads (formula_all_small x f) (truth_of x f))

pub eval_big : (x : Point) (f : Formula) → (eval_of x f ≡ answers.Big) ↔ (IsAllSmall x f → ⊥)
eval_big x f = (eval_reads x f).0

pub eval_true : (x : Point) (f : Formula) → (eval_of x f ≡ answers.True) ↔ (IsAllSmall x f × Holds x f)
eval_true x f = (eval_reads x f).1

pub eval_false : (x : Point) (f : Formula) → (eval_of x f ≡ answers.False) ↔ (IsAllSmall x f × (Holds x f → ⊥))
eval_false x f = (eval_reads x f).2

-- the same of a result that is the evaluation's
pub when_big : (r : Eval) (x : Point) (f : Formula) → r ≡ eval_of x f → (r ≡ answers.Big) ↔ (IsAllSmall x f → ⊥)
when_big r x f e = subst (λ (z : Eval). (z ≡ answers.Big) ↔ (IsAllSmall x f → ⊥)) (sym e) (eval_big x f)

pub when_true : (r : Eval) (x : Point) (f : Formula) → r ≡ eval_of x f → (r ≡ answers.True) ↔ (IsAllSmall x f × Holds x f)
when_true r x f e = subst (λ (z : Eval). (z ≡ answers.True) ↔ (IsAllSmall x f × Holds x f)) (sym e) (eval_true x f)

pub when_false : (r : Eval) (x : Point) (f : Formula) → r ≡ eval_of x f → (r ≡ answers.False) ↔ (IsAllSmall x f × (Holds x f → ⊥))
when_false r x f e = subst (λ (z : Eval). (z ≡ answers.False) ↔ (IsAllSmall x f × (Holds x f → ⊥))) (sym e) (eval_false x f)
