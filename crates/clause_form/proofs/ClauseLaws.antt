-- The law of clauses.
use Rattle.std.specs.Prelude.{◌≡◌, ◌↔◌, ℕ, zero, suc, ◌<◌, List, [], ◌∷◌, map, length, Bool, true, false, not, ◌&&◌, ◌||◌, slice_index_or, Any, refl}
use Rattle.std.specs.List.{list_all, AllByRecursion}
use Rattle.std.proofs.Common.{ap, ◌∙◌, sym, subst, arith}
use Rattle.std.proofs.lemmas.Bool.{and_parts}
use Rattle.cert_kit.specs.declared.row.PRow.{PRow}
use Rattle.cert_kit.specs.Row.{Solves, all_hold}
use Rattle.cert_kit.proofs.SolvingLaws.{rows_tested}
use Rattle.goal_ast.proofs.CountingLaws.{both_same}
use Rattle.zify.specs.declared.form.ZForm.{ZForm}
use Rattle.goal_ast.specs.Truth.{Point}
use Rattle.zify.specs.declared.goal.ZGoal.{ZGoal}
use Rattle.zify.specs.Truth.{z_truth_of, HoldsTranslated, IsValidTranslated}
use Rattle.clause_form.specs.declared.named.Named.{Named}
use Rattle.clause_form.specs.Alternatives.{alternatives_of}
use Rattle.cert_kit.specs.Variables.{variables_of, place_of}
use Rattle.clause_form.specs.Clauses.{named, clauses_of, seen_by, SolvedBy, Refutes, AllUnsolvable}
use Rattle.clause_form.proofs.AlternativeLaws.{some_holds, goal_tells}
use Rattle.cert_kit.proofs.VariableLaws.{or_second}
use Rattle.clause_form.proofs.NamingLaws.{named_back, named_through}

solved : (x : Point) (rows : List PRow) → all_hold x rows ≡ true → Solves x rows
solved x rows = (rows_tested x rows).0

pub tested : (x : Point) (rows : List PRow) → Solves x rows → all_hold x rows ≡ true
tested x rows = (rows_tested x rows).1

pub hypotheses_hold : (x : Point) (hs : List ZForm) → list_all (z_truth_of x) hs ≡ true → AllByRecursion (HoldsTranslated x) hs
hypotheses_hold x [] e = tt
hypotheses_hold x (h ∷ hs) e = let p = and_parts (z_truth_of x h) (list_all (z_truth_of x) hs) e in (p.0, hypotheses_hold x hs p.1)

hypotheses_tested : (x : Point) (hs : List ZForm) → AllByRecursion (HoldsTranslated x) hs → list_all (z_truth_of x) hs ≡ true
hypotheses_tested x [] a = refl
hypotheses_tested x (h ∷ hs) a = both_same (λ s t. s && t) _ _ _ _ a.0 (hypotheses_tested x hs a.1)

-- ---- one clause of a list

pub not_true : (b : Bool) → not b ≡ true → b ≡ false
not_true true h = cc
not_true false h = refl

-- the point solves one of the clauses
some_any : (x : Point) (lists : List (List PRow)) → some_holds x lists ≡ true → Any (SolvedBy x) (map named lists)
some_any x [] h = absurd (cc)
some_any x (rows ∷ lists) h = by_first (all_hold x rows) refl (λ k. some_any x lists k)
  where
    by_first : (b : Bool) → all_hold x rows ≡ b → (some_holds x lists ≡ true → Any (SolvedBy x) (map named lists)) → Any (SolvedBy x) (map named (rows ∷ lists))
    by_first true e f = (0, named rows, omega arith, refl, solved _ _ (named_through x rows ∙ e))
    by_first false e f =
        let a = f (sym (ap (λ s. s || some_holds x lists) e) ∙ h) in
        (suc a.0, a.1, omega (arith, a.2), a.3, a.4)

any_some : (x : Point) (lists : List (List PRow)) (k : ℕ) (n : Named) → k < length (map named lists) → slice_index_or (map named lists) k n ≡ n → SolvedBy x n → some_holds x lists ≡ true
any_some x [] k n h e s = absurd (omega arith)
any_some x (rows ∷ lists) zero n h e s =
    let t : all_hold x rows ≡ true = sym (named_through x rows) ∙ tested _ _ (subst (SolvedBy x) (sym e) s) in
    ap (λ b. b || some_holds x lists) t
any_some x (rows ∷ lists) (suc k) n h e s =
    let t = any_some x lists k n (omega arith) e s in
    or_second (all_hold x rows) (some_holds x lists) t

pub point_law : (z : ZGoal) (x : Point) → Refutes x z ↔ Any (SolvedBy x) (clauses_of z)
point_law z x = (
  λ r. some_any x (alternatives_of z) (goal_tells x z ∙ both_same (λ s t. s && t) _ _ _ _ (hypotheses_tested x z.hyps r.hypotheses) (ap not r.body)),
  λ a.
      let t = any_some x (alternatives_of z) a.0 a.1 a.2 a.3 a.4 in
      let p = and_parts (list_all (z_truth_of x) z.hyps) (not (z_truth_of x z.body)) (sym (goal_tells x z) ∙ t) in
      record { hypotheses = hypotheses_hold x z.hyps p.0; body = not_true _ p.1 },
)

-- ---- validity

unsolvable : (lists : List (List PRow)) → ((x : Point) → some_holds x lists ≡ true → ⊥) → AllUnsolvable (map named lists)
unsolvable [] f = tt
unsolvable (rows ∷ lists) f = (
  λ y s.
      let x : Point = λ v. y (place_of (variables_of rows) v) in
      let t : all_hold x rows ≡ true = sym (named_back y (variables_of rows) rows) ∙ tested y _ s in
      f x (ap (λ b. b || some_holds x lists) t),
  unsolvable lists (λ x h. f x (or_second (all_hold x rows) (some_holds x lists) h)),
)

none_holds : (lists : List (List PRow)) → AllUnsolvable (map named lists) → (x : Point) → some_holds x lists ≡ true → ⊥
none_holds [] a x h = cc
none_holds (rows ∷ lists) a x h = by_first (all_hold x rows) refl (λ k. none_holds lists a.1 x k)
  where
    by_first : (b : Bool) → all_hold x rows ≡ b → (some_holds x lists ≡ true → ⊥) → ⊥
    by_first true e f = a.0 (seen_by (variables_of rows) x) (solved _ _ (named_through x rows ∙ e))
    by_first false e f = f (sym (ap (λ s. s || some_holds x lists) e) ∙ h)

pub valid_law : (z : ZGoal) → IsValidTranslated z ↔ AllUnsolvable (clauses_of z)
valid_law z = (
  λ v. unsolvable (alternatives_of z) (λ x h.
      let p = and_parts (list_all (z_truth_of x) z.hyps) (not (z_truth_of x z.body)) (sym (goal_tells x z) ∙ h) in
      let t : z_truth_of x z.body ≡ true = v x (hypotheses_hold x z.hyps p.0) in
      let f : z_truth_of x z.body ≡ false = not_true _ p.1 in
      cc),
  λ a x h. by_body x h a (z_truth_of x z.body) refl,
)
  where
    by_body : (x : Point) → AllByRecursion (HoldsTranslated x) z.hyps → AllUnsolvable (clauses_of z) → (b : Bool) → z_truth_of x z.body ≡ b → z_truth_of x z.body ≡ true
    by_body x h a true e = e
    by_body x h a false e = absurd (none_holds (alternatives_of z) a x (goal_tells x z ∙ both_same (λ s t. s && t) _ _ _ _ (hypotheses_tested x z.hyps h) (ap not e)))
