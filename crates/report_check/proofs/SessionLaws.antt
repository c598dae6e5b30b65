-- The sessions of a report, judged line by line.
use Rattle.std.proofs.Common.{◌≡◌, ℕ, suc, ◌+◌, List, [], ◌∷◌, ◌++◌, map, take, Option, Some, None, ◌⊎◌, inl, inr, refl, sym, ap, subst, ◌∙◌, append_assoc, zero-add, arith}
use Rattle.std.specs.List.{AllByRecursion}
use Rattle.goal_ast.specs.declared.goal.Goal.{Goal}
use Rattle.goal_ast.specs.declared.goal.Mode.{Mode}
use Rattle.goal_ast.specs.declared.goal.Mode.TheVariants.{Lia, Nia}
use Rattle.goal_serve.specs.Line as line
use Rattle.report_text.specs.declared.call.Call.{Call}
use Rattle.report_text.specs.Line.{ReportLine, Plain, Called}
use Rattle.report_text.specs.Report.{Entered, SessionShown, Kept, Report, entered_lines, goals_lines, sessions_lines, stores, kept_lines, report_lines, IsEntered, IsSession, IsReport}
use Rattle.report_check.specs.declared.judging.Place.{Place}
use Rattle.report_check.specs.declared.judging.Judged.{Judged}
use Rattle.report_check.specs.declared.judging.Judged.TheVariants.{Good, Values, Clauses, Rows, Bad}
use Rattle.report_check.specs.Goodness.{IsGoodEntered, IsGoodSession, HasGoodGoals, IsFirstBadGoal, IsFirstBad}
use Rattle.report_check.proofs.LineLaws.{Runs, origin, stays_bad, IsNotBad, session_resets, cache_resets, called_resets, end_resets}
use Rattle.report_check.proofs.BlockLaws.{Outcome}
use Rattle.report_check.proofs.GoalLaws.{at_goal, entered_goes}

-- the rest is judged from something that isn't bad, in the session of this number
record Leads (session : ℕ) (rest : List ReportLine) (out : Judged) : Type 0 where
  pub asked : Option Goal
  pub place : Place
  pub here : place.session ≡ session
  pub now : Judged
  pub not_bad : IsNotBad now
  pub run : Runs asked place now rest out

-- the goal of this number in this session is the first that isn't good
abbrev bad_at : ℕ → ℕ → Judged
bad_at s g = Bad (record { session = s; goal = g })

-- ---- goals

-- goals numbered from here on are good, or which is the first that isn't
abbrev GoalsGo : ℕ → ℕ → List Entered → List ReportLine → Judged → Type 0
GoalsGo session n goals rest out =
    (AllByRecursion IsGoodEntered goals × Leads session rest out) ⊎ ((g : ℕ) × IsFirstBadGoal goals g × (out ≡ bad_at session (n + g)))

one_goal_more : (session n : ℕ) (e : Entered) (goals : List Entered) (rest : List ReportLine) (out : Judged) → IsGoodEntered e → GoalsGo session (n + 1) goals rest out
    → GoalsGo session n (e ∷ goals) rest out
one_goal_more session n e goals rest out good (inl s) = inl ((good, s.0), s.1)
one_goal_more session n e goals rest out good (inr s) = inr (
  suc s.0,
  record { goal = s.1.goal; there = s.1.there; before = (good, s.1.before); bad = s.1.bad },
  s.2 ∙ ap (bad_at session) (omega arith),
)

first_goal : (session n : ℕ) (e : Entered) (goals : List Entered) (rest : List ReportLine) (out : Judged) → (IsGoodEntered e → ⊥) → out ≡ bad_at session n
    → GoalsGo session n (e ∷ goals) rest out
first_goal session n e goals rest out bad is = inr (
  0,
  record { goal = e; there = refl; before = tt; bad = bad },
  is ∙ ap (bad_at session) (omega arith),
)

goal_and_others : (asked : Option Goal) (place : Place) (n : ℕ) (e : Entered) (goals : List Entered) (rest : List ReportLine) (out : Judged)
    → ((now : Judged) → IsNotBad now → Runs asked (at_goal place n) now (goals_lines (n + 1) goals ++ rest) out → GoalsGo place.session (n + 1) goals rest out)
    → Outcome (IsGoodEntered e) asked (at_goal place n) (at_goal place n) (goals_lines (n + 1) goals ++ rest) out → GoalsGo place.session n (e ∷ goals) rest out
goal_and_others asked place n e goals rest out others (inl s) = one_goal_more place.session n e goals rest out s.0 (others s.1.0 s.1.1 s.1.2)
goal_and_others asked place n e goals rest out others (inr s) = first_goal place.session n e goals rest out s.0 s.1

goals_go : (asked : Option Goal) (place : Place) (before : Judged) (n : ℕ) (goals : List Entered) (rest : List ReportLine) (out : Judged) → AllByRecursion IsEntered goals
    → IsNotBad before → Runs asked place before (goals_lines n goals ++ rest) out → GoalsGo place.session n goals rest out
goals_go asked place before n [] rest out are not_bad run =
    inl (tt, record { asked = asked; place = place; here = refl; now = before; not_bad = not_bad; run = run })
goals_go asked place before n (e ∷ goals) rest out are not_bad run =
    let first = entered_goes asked place before n e (goals_lines (n + 1) goals ++ rest) out are.0 not_bad
    (subst (λ ls. Runs asked place before ls out) (append_assoc (entered_lines n e) (goals_lines (n + 1) goals) rest) run) in
    goal_and_others first.0 place n e goals rest out
    (λ now good more. goals_go first.0 (at_goal place n) now (n + 1) goals rest out are.1 good more) first.1

-- ---- sessions

-- the rest is judged from something that isn't bad
record Goes (rest : List ReportLine) (out : Judged) : Type 0 where
  pub asked : Option Goal
  pub place : Place
  pub now : Judged
  pub not_bad : IsNotBad now
  pub run : Runs asked place now rest out

-- sessions numbered from here on have good goals, or which goal of which is the first that isn't good
abbrev SessionsGo : ℕ → List SessionShown → List ReportLine → Judged → Type 0
SessionsGo n sessions rest out = (AllByRecursion IsGoodSession sessions × Goes rest out) ⊎ ((s : ℕ) × (g : ℕ) × IsFirstBad sessions s g × (out ≡ bad_at (n + s) g))

one_session_more : (n : ℕ) (session : SessionShown) (sessions : List SessionShown) (rest : List ReportLine) (out : Judged) → IsGoodSession session
    → SessionsGo (n + 1) sessions rest out → SessionsGo n (session ∷ sessions) rest out
one_session_more n session sessions rest out good (inl s) = inl ((good, s.0), s.1)
one_session_more n session sessions rest out good (inr s) = inr (
  suc s.0,
  s.1,
  record { session = s.2.session; there = s.2.there; before = (good, s.2.before); goal = s.2.goal },
  s.3 ∙ ap (λ m. bad_at m s.1) (omega arith),
)

session_and_others : (n : ℕ) (session : SessionShown) (sessions : List SessionShown) (rest : List ReportLine) (out : Judged)
    → (Leads n (sessions_lines (n + 1) sessions ++ rest) out → SessionsGo (n + 1) sessions rest out)
    → GoalsGo n 0 session.goals (sessions_lines (n + 1) sessions ++ rest) out → SessionsGo n (session ∷ sessions) rest out
session_and_others n session sessions rest out others (inl s) = one_session_more n session sessions rest out s.0 (others s.1)
session_and_others n session sessions rest out others (inr s) = inr (
  0,
  s.0,
  record { session = session; there = refl; before = tt; goal = s.1 },
  s.2 ∙ ap (λ m. bad_at n m) (zero-add s.0) ∙ ap (λ m. bad_at m s.0) (omega arith),
)

sessions_go : (asked : Option Goal) (place : Place) (before : Judged) (n : ℕ) (sessions : List SessionShown) (rest : List ReportLine) (out : Judged)
    → AllByRecursion IsSession sessions → IsNotBad before → Runs asked place before (sessions_lines n sessions ++ rest) out → SessionsGo n sessions rest out
sessions_go asked place before n [] rest out are not_bad run = inl (tt, record { asked = asked; place = place; now = before; not_bad = not_bad; run = run })
sessions_go asked place before n (session ∷ sessions) rest out are not_bad run =
    let good = session_resets asked place before run.0 n session.name not_bad run.1 in
    let begun : Place = record { session = n; goal = 0 } in
    let others = sessions_lines (n + 1) sessions ++ rest in
    let goals : Runs asked begun Good (goals_lines 0 session.goals ++ others) out =
    subst (λ ls. Runs asked begun Good ls out) (append_assoc (goals_lines 0 session.goals) (sessions_lines (n + 1) sessions) rest)
    (subst (λ j. Runs asked begun j ((goals_lines 0 session.goals ++ sessions_lines (n + 1) sessions) ++ rest) out) good run.2) in
    session_and_others n session sessions rest out
    (λ l. sessions_go l.asked l.place l.now (n + 1) sessions rest out are.1 l.not_bad l.run)
    (goals_go asked begun Good 0 session.goals others out are.0.goals tt goals)

-- ---- caches

calls_go : (asked : Option Goal) (place : Place) (calls : List Call) (before : Judged) (rest : List ReportLine) (out : Judged) → IsNotBad before
    → Runs asked place before (map Called calls ++ rest) out → Goes rest out
calls_go asked place [] before rest out not_bad run = record { asked = asked; place = place; now = before; not_bad = not_bad; run = run }
calls_go asked place (call ∷ calls) before rest out not_bad run =
    let good = called_resets asked place before run.0 call not_bad run.1 in
    calls_go asked place calls Good rest out tt (subst (λ j. Runs asked place j (map Called calls ++ rest) out) good run.2)

kept_goes : (mode : Mode) (kept : Kept) (rest : List ReportLine) (out : Judged) → Goes (kept_lines mode kept ++ rest) out → Goes rest out
kept_goes mode kept rest out l =
    let good = cache_resets l.asked l.place l.now l.run.0 mode kept.opened (stores kept.history) kept.saved l.not_bad l.run.1 in
    calls_go l.asked l.place kept.history Good rest out tt (subst (λ j. Runs l.asked l.place j (map Called kept.history ++ rest) out) good l.run.2)

end_goes : (out : Judged) → Goes (Plain line.End ∷ []) out → IsNotBad out
end_goes out l =
    let good = end_resets l.asked l.place l.now l.run.0 l.not_bad l.run.1 in
    let is : out ≡ Good = l.run.2 ∙ good in
    subst IsNotBad (sym is) tt

-- ---- reports

-- the goals of the report are good and none is known that isn't, or the one that is known is the first that isn't good
abbrev pub ReportGoes : Report → Judged → Type 0
ReportGoes r out = (HasGoodGoals r × IsNotBad out) ⊎ ((s : ℕ) × (g : ℕ) × IsFirstBad r.sessions s g × (out ≡ Bad (record { session = s; goal = g })))

after_sessions : (r : Report) (out : Judged) → SessionsGo 0 r.sessions (kept_lines Lia r.lia ++ (kept_lines Nia r.nia ++ Plain line.End ∷ [])) out → ReportGoes r out
after_sessions r out (inl s) =
    inl (s.0, end_goes out (kept_goes Nia r.nia (Plain line.End ∷ []) out (kept_goes Lia r.lia (kept_lines Nia r.nia ++ Plain line.End ∷ []) out s.1)))
after_sessions r out (inr s) = inr (s.0, s.1, s.2, s.3 ∙ ap (λ n. bad_at n s.1) (zero-add s.0))

pub report_goes : (r : Report) (out : Judged) → IsReport r → Runs None origin Good (report_lines r) out → ReportGoes r out
report_goes r out is run =
    let rest = kept_lines Lia r.lia ++ (kept_lines Nia r.nia ++ Plain line.End ∷ []) in
    after_sessions r out (sessions_go None origin Good 0 r.sessions rest out is.sessions tt
    (subst (λ j. Runs None origin j (sessions_lines 0 r.sessions ++ rest) out) run.1 run.2))
