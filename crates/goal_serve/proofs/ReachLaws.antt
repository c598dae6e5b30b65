-- What comes of one clause of a goal.
use Rattle.std.specs.Prelude.{◌≡◌, ℕ, ◌<◌, ℤ, List, length}
use Rattle.std.specs.List.{AllByRecursion}
use Rattle.std.specs.List.Sorted.{IsStrictlySortedBy}
use Rattle.std.specs.Ordering.{nat_cmp}
use Rattle.std.proofs.Common.{ap, sym, ◌∙◌, subst, arith, inl, inr}
use Rattle.mm_num.specs.Small.{IsSmall}
use Rattle.mm_poly.specs.Point.{point_of as point_by}
use Rattle.cert_kit.specs.Row.{Solves}
use Rattle.cert_kit.specs.Acceptance.{IsGood}
use Rattle.cert_kit.specs.Variables.{variables_of, numbers_from}
use Rattle.fm_elim.proofs.ListLaws.{all_at}
use Rattle.goal_ast.specs.declared.goal.Goal.{Goal}
use Rattle.goal_ast.specs.declared.goal.Assignment.{Assignment}
use Rattle.goal_ast.specs.Range.{IsInRange, point_of}
use Rattle.goal_ast.specs.Sorted.{IsWellFormed}
use Rattle.zify.specs.Translation.{translated}
use Rattle.clause_form.specs.declared.named.Named.{Named}
use Rattle.clause_form.specs.Clauses.{clauses_of}
use Rattle.clause_form.specs.Clauses.{IsNumbered as HasNumbers}
use Rattle.clause_form.proofs.NumberingLaws.{clauses_numbered, clauses_rise}
use Rattle.clause_engine.specs.declared.outcome.Why.{Why}
use Rattle.clause_engine.specs.Settled.{IsNumbered, IsSettled, HasPoint, clause_point, WhyOf, IsReason, IsPromised}
use Rattle.clause_engine.proofs.NumberedLaws.{count_numbers}
use Rattle.clause_engine.proofs.EngineLaws.{settled_by_point, promised_unsolvable}
use Rattle.goal_serve.specs.declared.answers.Shown.{Shown}
use Rattle.goal_serve.specs.declared.trying.Reached.{Reached}
use Rattle.goal_serve.specs.declared.trying.Reached.TheVariants as reached
use Rattle.goal_serve.specs.Answering.{placed, IsWitnessed, IsOpen}
use Rattle.goal_serve.specs.machine.Trying.{IsClauseOf, IsReached, IsJudged}
use Rattle.goal_serve.proofs.WitnessLaws.{IsFound, IsAssigned, in_range, not_witnessed}

has_numbers : (goal : Goal) (n : Named) → IsClauseOf goal n → HasNumbers n
has_numbers goal n c = all_at HasNumbers (clauses_of (translated goal)) c.place n c.there (clauses_numbered (translated goal))

count_variables : (n : Named) → HasNumbers n → length (variables_of n.clause.rows) ≡ length n.vars
count_variables n h = ap (λ (us : List ℕ). length us) h ∙ count_numbers 0 (length n.vars)

pub is_numbered : (goal : Goal) (n : Named) → IsClauseOf goal n → IsNumbered n.clause.rows
is_numbered goal n c = let h = has_numbers goal n c in subst (λ k. variables_of n.clause.rows ≡ numbers_from 0 k) (sym (count_variables n h)) h

pub vars_rise : (goal : Goal) (n : Named) → IsClauseOf goal n → IsStrictlySortedBy nat_cmp n.vars
vars_rise goal n c = all_at (λ (m : Named). IsStrictlySortedBy nat_cmp m.vars) (clauses_of (translated goal)) c.place n c.there (clauses_rise (translated goal))

-- a certificate
pub cert_reached : (goal : Goal) (turns : ℕ) (n : Named) (s : Shown) → s.clause ≡ n.clause → IsGood n.clause.rows s.cert → (HasPoint goal.mode turns n.clause.rows → ⊥) → IsReached goal turns n (reached.Shown s)
cert_reached goal turns n s e g f = (record { clause = e; good = g }, λ q. f q.has_point)

-- neither a certificate nor a point
pub open_reached : (goal : Goal) (turns : ℕ) (n : Named) (why : Why) → (IsSettled goal.mode turns n.clause.rows → ⊥) → WhyOf goal.mode turns n.clause.rows why
    → (IsPromised turns n.clause.rows → ⊥)
    → IsReached goal turns n (reached.Stays why)
open_reached goal turns n why f w p = (λ q. f (settled_by_point goal.mode turns n.clause.rows q.has_point), (inl (f, w), p))

-- a point
pub one_value_each : (goal : Goal) (n : Named) (values : List ℤ) → IsClauseOf goal n → length values ≡ length (variables_of n.clause.rows) → length values ≡ length n.vars
one_value_each goal n values c e = e ∙ count_variables n (has_numbers goal n c)

pub is_found : (goal : Goal) (turns : ℕ) (n : Named) (values : List ℤ) → IsClauseOf goal n → length values ≡ length (variables_of n.clause.rows)
    → (HasPoint goal.mode turns n.clause.rows → (v : ℕ) → v < length values → point_by values v ≡ clause_point goal.mode turns n.clause.rows v)
    → AllByRecursion IsSmall values
    → Solves (point_by values) n.clause.rows
    → IsFound goal turns n values
is_found goal turns n values c e f s h = record { one_each = one_value_each goal n values c e; given = f; small = s; solves = h }

pub point_in_range : (goal : Goal) (turns : ℕ) (n : Named) (values : List ℤ) (a : Assignment) → IsWellFormed goal → IsClauseOf goal n → IsFound goal turns n values → IsAssigned goal n values a → IsInRange goal a
point_in_range goal turns n values a w c f g = in_range goal turns n c.place values a w c.there (vars_rise goal n c) f g

open_at : (goal : Goal) (turns : ℕ) (n : Named) (why v : Why) → (IsWitnessed goal turns n → ⊥) → IsReason goal.mode turns n.clause.rows why → v ≡ why → IsOpen goal turns n v
open_at goal turns n why v stays (inl h) e = inr (h.0, stays, e ∙ h.1)
open_at goal turns n why v stays (inr h) e = inl (h.0, subst (WhyOf goal.mode turns n.clause.rows) (sym e) h.1)

pub point_reached : (goal : Goal) (turns : ℕ) (n : Named) (values : List ℤ) (a : Assignment) (why : Why) (r : Reached) → IsWellFormed goal → IsClauseOf goal n → IsFound goal turns n values
    → IsAssigned goal n values a
    → IsReason goal.mode turns n.clause.rows why
    → IsJudged goal a why r
    → IsReached goal turns n r
point_reached goal turns n values a why (reached.Shown s) w c f g o j = absurd j
point_reached goal turns n values a why (reached.Refuted b) w c f g o j = j
point_reached goal turns n values a why (reached.Stays v) w c f g o j =
    let stays = not_witnessed goal turns n c.place values a w c.there (vars_rise goal n c) f g j.1 in
    (stays, (open_at goal turns n why v stays o j.0, λ p. promised_unsolvable turns n.clause.rows p (point_by values) f.solves))

pub is_assigned : (goal : Goal) (n : Named) (values : List ℤ) (a : Assignment) (bound : ℕ) (vars : List ℕ) (zs : List ℤ) → bound ≡ length goal.vars → vars ≡ n.vars → zs ≡ values → length a.values ≡ bound
    → ((v : ℕ) → v < bound → point_of a.values v ≡ placed vars (point_by zs) v)
    → IsAssigned goal n values a
is_assigned goal n values a bound vars zs e f g l h = record {
  one_each = l ∙ e;
  given = λ v i.
      let j : v < bound = omega (arith, i, e) in
      h v j ∙ ap (λ us. placed us (point_by zs) v) f ∙ ap (λ ys. placed n.vars (point_by ys) v) g;
}
