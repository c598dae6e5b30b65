-- A point that gives a clause's variables what a solution gives their numbers refutes the goal.
use Rattle.std.specs.Prelude.{◌≡◌, ℕ, zero, suc, List, [], ◌∷◌, map, true, not, ◌||◌, Some, slice_get}
use Rattle.std.specs.List.{list_all}
use Rattle.std.proofs.Common.{ap, ◌∙◌, sym, subst}
use Rattle.std.proofs.lemmas.Bool.{and_parts}
use Rattle.std.proofs.lemmas.Option.{same_Some}
use Rattle.cert_kit.specs.declared.row.PRow.{PRow}
use Rattle.cert_kit.specs.Row.{Solves, all_hold}
use Rattle.goal_ast.specs.Truth.{Point}
use Rattle.zify.specs.declared.goal.ZGoal.{ZGoal}
use Rattle.zify.specs.Truth.{z_truth_of}
use Rattle.clause_form.specs.declared.named.Named.{Named}
use Rattle.clause_form.specs.Alternatives.{alternatives_of}
use Rattle.cert_kit.specs.Variables.{variables_of, place_of}
use Rattle.clause_form.specs.Naming.{named_rows}
use Rattle.clause_form.specs.Clauses.{named, clauses_of, GivesBack, Refutes}
use Rattle.clause_form.proofs.AlternativeLaws.{some_holds, goal_tells}
use Rattle.cert_kit.proofs.VariableLaws.{or_second, rows_local, found, place_within, occurs_there}
use Rattle.clause_form.proofs.NamingLaws.{named_back}
use Rattle.clause_form.proofs.ClauseLaws.{tested, hypotheses_hold, not_true}

rows_back : (x y : Point) (rows : List PRow) → GivesBack (variables_of rows) y x → all_hold y (named_rows (variables_of rows) rows) ≡ all_hold x rows
rows_back x y rows g =
    let vars = variables_of rows in
    named_back y vars rows
    ∙ rows_local (λ v. y (place_of vars v)) x rows (λ v h.
    let o = occurs_there v rows h in
    sym (g (place_of vars v) (place_within v vars o)) ∙ ap x (found v vars o))

solution_back : (x y : Point) (lists : List (List PRow)) (k : ℕ) (n : Named) → slice_get (map named lists) k ≡ Some n → GivesBack n.vars y x → Solves y n.clause.rows → some_holds x lists ≡ true
solution_back x y [] k n e g s = absurd cc
solution_back x y (rows ∷ lists) zero n e g s =
    let m : named rows ≡ n = same_Some (named rows) n e in
    let t = tested y (named rows).clause.rows (subst (λ (q : Named). Solves y q.clause.rows) (sym m) s) in
    let u : all_hold x rows ≡ true = sym (rows_back x y rows (subst (λ (q : Named). GivesBack q.vars y x) (sym m) g)) ∙ t in
    ap (λ b. b || some_holds x lists) u
solution_back x y (rows ∷ lists) (suc k) n e g s = or_second (all_hold x rows) (some_holds x lists) (solution_back x y lists k n e g s)

pub refuted_back : (z : ZGoal) (x y : Point) (k : ℕ) (n : Named) → slice_get (clauses_of z) k ≡ Some n → GivesBack n.vars y x → Solves y n.clause.rows → Refutes x z
refuted_back z x y k n e g s =
    let p = and_parts (list_all (z_truth_of x) z.hyps) (not (z_truth_of x z.body)) (sym (goal_tells x z) ∙ solution_back x y (alternatives_of z) k n e g s) in
    record { hypotheses = hypotheses_hold x z.hyps p.0; body = not_true _ p.1 }
