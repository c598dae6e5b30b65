-- A goal with what is said of it, judged line by line.
use Rattle.std.proofs.Common.{◌≡◌, ℕ, ◌+◌, ◌<◌, ◌≤◌, ℤ, List, [], ◌∷◌, ◌++◌, length, Option, Some, None, ◌⊎◌, inl, inr, refl, sym, ap, subst, ◌∙◌, append_assoc, length-append, zero-add, arith}
use Rattle.std.proofs.lemmas.List.{append-nil}
use Rattle.std.specs.declared.vec.Vec.{Vec}
use Rattle.std.specs.declared.alloc.Global.{Global}
use Rattle.goal_ast.specs.declared.goal.Bound.{Bound}
use Rattle.goal_ast.specs.declared.goal.Goal.{Goal}
use Rattle.zify.specs.Translation.{translated}
use Rattle.clause_form.specs.declared.named.Named.{Named}
use Rattle.clause_form.specs.Clauses.{clauses_of}
use Rattle.goal_serve.specs.Answering.{Refutes}
use Rattle.goal_serve.specs.Line as line
use Rattle.report_text.specs.Line.{ReportLine, Plain}
use Rattle.report_text.specs.LineRead.{line_of}
use Rattle.report_text.specs.Report.{Block, Reply, Proved, Refuted, Unsettled, Oversize, Entered, Sorted, Unsorted, blocks_lines, values_lines, reply_lines, entered_lines, AreValues, IsReply, IsEntered}
use Rattle.report_check.specs.declared.judging.Place.{Place}
use Rattle.report_check.specs.declared.judging.Judged.{Judged}
use Rattle.report_check.specs.declared.judging.Judged.TheVariants.{Good, Values, Clauses, Rows, Bad}
use Rattle.report_check.specs.Goodness.{AreGoodBlocks, IsGoodReply, IsGoodEntered}
use Rattle.report_check.specs.machine.Judging.{Begins, TestsGoal, Judges}
use Rattle.report_check.proofs.LineLaws.{Runs, stays_bad, IsNotBad, asked_resets}
use Rattle.report_check.proofs.BlockLaws.{Outcome, outcome_along, blocks_go}

-- ---- refuted goals

-- the goal is judged by these values
abbrev FalseAt : Goal → List ℤ → Type 0
FalseAt goal values = Refutes goal (record { values = values })

all_are_read : (goal : Goal) (place : Place) (values : List ℤ) (now : Judged) (rest : List ReportLine) (out : Judged) → length goal.vars ≤ length values
    → TestsGoal goal place values now → Runs (Some goal) place now rest out → Outcome (FalseAt goal values) (Some goal) place place rest out
all_are_read goal place values Good rest out enough t run = inl (t.1.0, (Good, tt, run))
all_are_read goal place values (Values read) rest out enough t run = absurd (omega (arith, t.1, enough))
all_are_read goal place values (Clauses plan k) rest out enough t run = inl (t.1.0, (Clauses plan k, tt, run))
all_are_read goal place values (Rows plan k rows) rest out enough t run = inl (t.1.0, (Rows plan k rows, tt, run))
all_are_read goal place values (Bad first) rest out enough t run =
    inr (t.1.1, stays_bad (Some goal) place place rest out (subst (λ p. Runs (Some goal) place (Bad p) rest out) t.1.0 run))

-- where values are missing, the next one is taken
one_more_value : (goal : Goal) (place : Place) (done : List ℤ) (z : ℤ) (bound : Bound) (now after : Judged) → length done < length goal.vars → TestsGoal goal place done now
    → Judges (Some goal) place now (line_of (Plain (line.Value bound z))) after → TestsGoal goal place (done ++ z ∷ []) after
one_more_value goal place done z bound Good after few t j = absurd (omega (arith, t.0, few))
one_more_value goal place done z bound (Values read) after few t j = subst (λ values. TestsGoal goal place (values ++ z ∷ []) after) t.0 j
one_more_value goal place done z bound (Clauses plan k) after few t j = absurd (omega (arith, t.0, few))
one_more_value goal place done z bound (Rows plan k rows) after few t j = absurd (omega (arith, t.0, few))
one_more_value goal place done z bound (Bad first) after few t j = absurd (omega (arith, t.0, few))

values_go : (goal : Goal) (place : Place) (vars : List Bound) (done left : List ℤ) (now : Judged) (rest : List ReportLine) (out : Judged) → AreValues vars left
    → length done + length vars ≡ length goal.vars → TestsGoal goal place done now → Runs (Some goal) place now (values_lines vars left ++ rest) out
    → Outcome (FalseAt goal (done ++ left)) (Some goal) place place rest out
values_go goal place [] done [] now rest out are same t run =
    subst (λ values. Outcome (FalseAt goal values) (Some goal) place place rest out) (sym (append-nil done)) (all_are_read goal place done now rest out (omega (arith, same)) t run)
values_go goal place [] done (z ∷ left) now rest out are same t run = absurd are
values_go goal place (bound ∷ vars) done [] now rest out are same t run = absurd are
values_go goal place (bound ∷ vars) done (z ∷ left) now rest out are same t run =
    subst (λ values. Outcome (FalseAt goal values) (Some goal) place place rest out) (append_assoc done (z ∷ []) left)
    (values_go goal place vars (done ++ z ∷ []) left run.0 rest out are.1 (omega (arith, length-append done (z ∷ []), same))
    (one_more_value goal place done z bound now run.0 (omega (arith, same)) t run.1) run.2)

-- ---- proved goals

good_count : (cs : List Named) (blocks : List Block) → AreGoodBlocks cs blocks → length blocks ≡ length cs
good_count [] [] g = refl
good_count [] (b ∷ blocks) g = absurd g
good_count (n ∷ cs) [] g = absurd g
good_count (n ∷ cs) (b ∷ blocks) g = omega (arith, good_count cs blocks g.1)

proved_goes : (goal : Goal) (place : Place) (blocks : List Block) (now : Judged) (rest : List ReportLine) (out : Judged) → Begins (translated goal) place (length blocks) now
    → Runs (Some goal) place now (blocks_lines 0 blocks ++ rest) out → Outcome (IsGoodReply goal (Proved blocks)) (Some goal) place place rest out
proved_goes goal place blocks Good rest out b run = absurd b
proved_goes goal place blocks (Values values) rest out b run = absurd b
proved_goes goal place blocks (Clauses plan k) rest out b run =
    let cs = clauses_of (translated goal) in
    outcome_along (AreGoodBlocks cs blocks) (IsGoodReply goal (Proved blocks)) (Some goal) place place rest out (λ g. (b.0.0.size, g)) (λ g. g.1)
    (blocks_go (Some goal) place plan 0 cs blocks rest out b.0.1 b.0.0.as_many
    (subst (λ n. Runs (Some goal) place (Clauses plan n) (blocks_lines 0 blocks ++ rest) out) b.1 run))
proved_goes goal place blocks (Rows plan k rows) rest out b run = absurd b
proved_goes goal place blocks (Bad first) rest out b run =
    inr (
      λ g. b.1 (record { size = g.0; as_many = good_count (clauses_of (translated goal)) blocks g.1 }),
      stays_bad (Some goal) place place (blocks_lines 0 blocks ++ rest) out
          (subst (λ p. Runs (Some goal) place (Bad p) (blocks_lines 0 blocks ++ rest) out) b.0 run),
    )

-- ---- goals

reply_goes : (goal : Goal) (place : Place) (reply : Reply) (rest : List ReportLine) (out : Judged) → IsReply goal.vars reply
    → Runs (Some goal) place Good (reply_lines goal.vars reply ++ rest) out → Outcome (IsGoodReply goal reply) (Some goal) place place rest out
reply_goes goal place (Proved blocks) rest out is run = proved_goes goal place blocks run.0 rest out run.1 run.2
reply_goes goal place (Refuted values) rest out is run = values_go goal place goal.vars [] values run.0 rest out is (zero-add (length goal.vars)) run.1 run.2
reply_goes goal place (Unsettled n why) rest out is run = inl (tt, (Good, tt, subst (λ j. Runs (Some goal) place j rest out) run.1 run.2))
reply_goes goal place (Oversize kind) rest out is run = inl (tt, (Good, tt, subst (λ j. Runs (Some goal) place j rest out) run.1 run.2))

-- the goal of this number in the same session
abbrev pub at_goal : Place → ℕ → Place
at_goal place n = record { session = place.session; goal = n }

pub entered_goes : (goal : Option Goal) (place : Place) (before : Judged) (n : ℕ) (e : Entered) (rest : List ReportLine) (out : Judged) → IsEntered e → IsNotBad before
    → Runs goal place before (entered_lines n e ++ rest) out
    → (after : Option Goal) × Outcome (IsGoodEntered e) after (at_goal place n) (at_goal place n) rest out
entered_goes goal place before n (Sorted asked reply) rest out is not_bad run =
    let good = asked_resets goal place before run.0 n asked.mode (Some asked) not_bad run.1 in (
      Some asked,
      reply_goes asked (at_goal place n) reply rest out is.1
          (subst (λ j. Runs (Some asked) (at_goal place n) j (reply_lines asked.vars reply ++ rest) out) good run.2),
    )
entered_goes goal place before n (Unsorted mode at) rest out is not_bad run =
    let good = asked_resets goal place before run.0 n mode None not_bad run.1 in
    let place_line = subst (λ j. Runs goal (at_goal place n) j (Plain (line.IllSorted at) ∷ rest) out) good run.2 in
    (goal, inl (tt, (Good, tt, subst (λ j. Runs goal (at_goal place n) j rest out) place_line.1 place_line.2)))
