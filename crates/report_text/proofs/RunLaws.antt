-- The lines of a report fit, one after the other.
use Rattle.std.proofs.Common.{◌≡◌, ℕ, suc, ◌+◌, ◌<◌, ◌≤◌, ◌^◌, ℤ, List, [], ◌∷◌, ◌++◌, map, length, Some, None, refl, sym, ap, subst, ◌∙◌, arith}
use Rattle.std.specs.List.{AllByRecursion}
use Rattle.std.proofs.lemmas.List.Sums.{sum_by-cons}
use Rattle.mm_num.proofs.ListLaws.{all_join}
use Rattle.cert_kit.specs.declared.row.PRow.{PRow}
use Rattle.cert_text.specs.Check.{IsRow}
use Rattle.goal_ast.specs.declared.goal.Bound.{Bound}
use Rattle.goal_ast.specs.declared.goal.Mode.{Mode}
use Rattle.goal_ast.specs.declared.goal.Mode.TheVariants.{Lia, Nia}
use Rattle.goal_serve.specs.Line as line
use Rattle.report_text.specs.declared.call.Call.{Call}
use Rattle.report_text.specs.declared.call.Call.TheVariants.{Find, Store}
use Rattle.report_text.specs.Line.{ReportLine, Plain, Called, IsFree, IsCall, IsReportLine}
use Rattle.report_text.specs.Report.{Block, Reply, Proved, Refuted, Unsettled, Oversize, Entered, Sorted, Unsorted, SessionShown, Kept, Report, block_lines, blocks_lines, values_lines, reply_lines, entered_lines, goals_lines, sessions_lines, stores, kept_lines, report_lines, IsBlock, AreValues, IsReply, IsEntered, IsSession, IsKept, IsReport, goals_in}
use Rattle.report_text.specs.Fitting.{Expect, Between, AtAnswer, AtPlace, AtValue, AtClause, AtRow, AtCall, Over, Reading, begin, at_clauses, at_values, Fits, next, Fit, reached, AllFit}

-- ---- lines that lead from one reading to another

pub record Runs (r : Reading) (lines : List ReportLine) (s : Reading) : Type 0 where
  pub within : AllByRecursion IsReportLine lines
  pub fit : Fit r lines
  pub to : reached r lines ≡ s

pub fit_joined : (r : Reading) (xs ys : List ReportLine) → Fit r xs → Fit (reached r xs) ys → Fit r (xs ++ ys)
fit_joined r [] ys f g = g
fit_joined r (x ∷ xs) ys f g = (f.0, fit_joined (next r x) xs ys f.1 g)

pub reached_joined : (r : Reading) (xs ys : List ReportLine) → reached r (xs ++ ys) ≡ reached (reached r xs) ys
reached_joined r [] ys = refl
reached_joined r (x ∷ xs) ys = reached_joined (next r x) xs ys

nothing : (r : Reading) → Runs r [] r
nothing r = record { within = tt; fit = tt; to = refl }

before : (r s : Reading) (l : ReportLine) (ls : List ReportLine) → IsReportLine l → Fits r l → Runs (next r l) ls s → Runs r (l ∷ ls) s
before r s l ls within fits a = record { within = (within, a.within); fit = (fits, a.fit); to = a.to }

join : (r s t : Reading) (xs ys : List ReportLine) → Runs r xs s → Runs s ys t → Runs r (xs ++ ys) t
join r s t xs ys a b = record {
  within = all_join IsReportLine xs ys a.within b.within;
  fit = fit_joined r xs ys a.fit (subst (λ (u : Reading). Fit u ys) (sym a.to) b.fit);
  to = reached_joined r xs ys ∙ ap (λ (u : Reading). reached u ys) a.to ∙ b.to;
}

-- a reading by its numbers
abbrev pub reading : ℕ → ℕ → ℕ → Expect → Reading
reading s g h e = record { sessions = s; goals = g; here = h; expect = e }

-- ---- clauses

abbrev pub row_lines : List PRow → List ReportLine
row_lines rows = map (λ (row : PRow). Plain (line.Row row)) rows

rows_run : (s g h k n others all : ℕ) (rows : List PRow) → AllByRecursion IsRow rows → all ≡ n + length rows → all < 2 ^ 32
    → Runs (reading s g h (AtRow k n others)) (row_lines rows) (reading s g h (AtRow k all others))
rows_run s g h k n others all [] are e few =
    let same : n ≡ all = omega (arith, e) in
    subst (λ m. Runs (reading s g h (AtRow k n others)) [] (reading s g h (AtRow k m others))) same (nothing (reading s g h (AtRow k n others)))
rows_run s g h k n others all (row ∷ rows) are e few =
    before (reading s g h (AtRow k n others)) (reading s g h (AtRow k all others)) (Plain (line.Row row)) (row_lines rows) are.0 (omega (arith, e))
    (rows_run s g h k (n + 1) others all rows are.1 (omega (arith, e)) few)

block_runs : (s g h k others : ℕ) (b : Block) → IsFree k → IsBlock b
    → Runs (reading s g h (AtClause k others)) (block_lines k b) (reading s g h (at_clauses (k + 1) others))
block_runs s g h k others b free is =
    let all = length b.rows in
    let rows = rows_run s g h k 0 others all b.rows is.rows.0 (omega arith) is.rows.1 in
    let cert =
    before (reading s g h (AtRow k all others)) (reading s g h (at_clauses (k + 1) others)) (Plain (line.Certificate b.cert)) [] is.cert tt
    (nothing (reading s g h (at_clauses (k + 1) others))) in
    before (reading s g h (AtClause k others)) (reading s g h (at_clauses (k + 1) others)) (Plain (line.Clause k b.name b.origin))
    (row_lines b.rows ++ Plain (line.Certificate b.cert) ∷ []) (free, is.name) refl
    (join (reading s g h (AtRow k 0 others)) (reading s g h (AtRow k all others)) (reading s g h (at_clauses (k + 1) others)) (row_lines b.rows)
    (Plain (line.Certificate b.cert) ∷ []) rows cert)

blocks_run : (s g h k : ℕ) (bs : List Block) → k + length bs < 2 ^ 64 → AllByRecursion IsBlock bs
    → Runs (reading s g h (at_clauses k (length bs))) (blocks_lines k bs) (reading s g h Between)
blocks_run s g h k [] small are = nothing (reading s g h Between)
blocks_run s g h k (b ∷ bs) small are =
    join (reading s g h (AtClause k (length bs))) (reading s g h (at_clauses (k + 1) (length bs))) (reading s g h Between) (block_lines k b) (blocks_lines (k + 1) bs)
    (block_runs s g h k (length bs) b (omega (arith, small)) are.0) (blocks_run s g h (k + 1) bs (omega (arith, small)) are.1)

-- ---- goals

values_run : (s g h : ℕ) (vars : List Bound) (values : List ℤ) → AreValues vars values
    → Runs (reading s g h (at_values vars)) (values_lines vars values) (reading s g h Between)
values_run s g h [] [] are = nothing (reading s g h Between)
values_run s g h [] (z ∷ values) are = absurd are
values_run s g h (bound ∷ vars) [] are = absurd are
values_run s g h (bound ∷ vars) (z ∷ values) are =
    before (reading s g h (AtValue bound vars)) (reading s g h Between) (Plain (line.Value bound z)) (values_lines vars values) are.0 refl
    (values_run s g h vars values are.1)

reply_runs : (s g h : ℕ) (vars : List Bound) (reply : Reply) → IsReply vars reply → Runs (reading s g h (AtAnswer vars)) (reply_lines vars reply) (reading s g h Between)
reply_runs s g h vars (Proved blocks) is =
    before (reading s g h (AtAnswer vars)) (reading s g h Between) (Plain (line.Proved (length blocks))) (blocks_lines 0 blocks) is.0 tt
    (blocks_run s g h 0 blocks (omega (arith, is.0)) is.1)
reply_runs s g h vars (Refuted values) is =
    before (reading s g h (AtAnswer vars)) (reading s g h Between) (Plain line.Refuted) (values_lines vars values) tt tt (values_run s g h vars values is)
reply_runs s g h vars (Unsettled n why) is =
    before (reading s g h (AtAnswer vars)) (reading s g h Between) (Plain (line.Unsettled n why)) [] is tt (nothing (reading s g h Between))
reply_runs s g h vars (Oversize kind) is =
    before (reading s g h (AtAnswer vars)) (reading s g h Between) (Plain (line.Oversize kind)) [] is tt (nothing (reading s g h Between))

entered_runs : (s g h : ℕ) (e : Entered) → 1 ≤ s → g < 1024 → IsFree h → IsEntered e
    → Runs (reading s g h Between) (entered_lines h e) (reading s (g + 1) (h + 1) Between)
entered_runs s g h (Sorted goal reply) one few free is =
    before (reading s g h Between) (reading s (g + 1) (h + 1) Between) (Plain (line.Asked h goal.mode (Some goal))) (reply_lines goal.vars reply) (free, is.0)
    (refl, one, few)
    (reply_runs s (g + 1) (h + 1) goal.vars reply is.1)
entered_runs s g h (Unsorted mode at) one few free is =
    let place =
    before (reading s (g + 1) (h + 1) AtPlace) (reading s (g + 1) (h + 1) Between) (Plain (line.IllSorted at)) [] is (at, refl)
    (nothing (reading s (g + 1) (h + 1) Between)) in
    before (reading s g h Between) (reading s (g + 1) (h + 1) Between) (Plain (line.Asked h mode None)) (Plain (line.IllSorted at) ∷ []) (free, tt) (refl, one, few) place

-- the goals of a session, after so many in all and so many of it
goals_run : (s g h all : ℕ) (goals : List Entered) → 1 ≤ s → h ≤ g → all ≡ g + length goals → all ≤ 1024 → AllByRecursion IsEntered goals
    → (n : ℕ) × Runs (reading s g h Between) (goals_lines h goals) (reading s all n Between)
goals_run s g h all [] one under e few are =
    let same : g ≡ all = omega (arith, e) in
    (h, subst (λ m. Runs (reading s g h Between) [] (reading s m h Between)) same (nothing (reading s g h Between)))
goals_run s g h all (goal ∷ goals) one under e few are =
    let others = goals_run s (g + 1) (h + 1) all goals one (omega (arith, under)) (omega (arith, e)) few are.1 in (
      others.0,
      join (reading s g h Between) (reading s (g + 1) (h + 1) Between) (reading s all others.0 Between) (entered_lines h goal) (goals_lines (h + 1) goals)
          (entered_runs s g h goal one (omega (arith, e)) (omega (arith, e)) are.0) others.1,
    )

pub goals_more : (session : SessionShown) (sessions : List SessionShown) → goals_in (session ∷ sessions) ≡ length session.goals + goals_in sessions
goals_more session sessions = sum_by-cons (λ (s : SessionShown). length s.goals) session sessions

-- lines that lead to a place between goals
pub record Comes (r : Reading) (lines : List ReportLine) : Type 0 where
  pub sessions : ℕ
  pub goals : ℕ
  pub here : ℕ
  pub runs : Runs r lines (reading sessions goals here Between)

sessions_run : (s g h : ℕ) (sessions : List SessionShown) → s + length sessions ≤ 64 → g + goals_in sessions ≤ 1024 → AllByRecursion IsSession sessions
    → Comes (reading s g h Between) (sessions_lines s sessions)
sessions_run s g h [] few many are = record { sessions = s; goals = g; here = h; runs = nothing (reading s g h Between) }
sessions_run s g h (session ∷ sessions) few many are =
    let all = g + length session.goals in
    let few_goals : all + goals_in sessions ≤ 1024 = omega (arith, many, goals_more session sessions) in
    let goals = goals_run (s + 1) g 0 all session.goals (omega arith) (omega arith) refl (omega (arith, few_goals)) are.0.goals in
    let first =
    before (reading s g h Between) (reading (s + 1) all goals.0 Between) (Plain (line.Session s session.name)) (goals_lines 0 session.goals)
    (omega (arith, few), are.0.name) (refl, omega (arith, few)) goals.1 in
    let others = sessions_run (s + 1) all goals.0 sessions (omega (arith, few)) few_goals are.1 in
    record {
      sessions = others.sessions;
      goals = others.goals;
      here = others.here;
      runs =
          join (reading s g h Between) (reading (s + 1) all goals.0 Between) (reading others.sessions others.goals others.here Between)
          (Plain (line.Session s session.name) ∷ goals_lines 0 session.goals)
          (sessions_lines (s + 1) sessions) first others.runs;
    }

-- ---- caches

calls_run : (s g h : ℕ) (mode : Mode) (calls : List Call) → AllByRecursion IsCall calls
    → Runs (reading s g h (AtCall mode (stores calls))) (map Called calls) (reading s g h (AtCall mode 0))
calls_run s g h mode [] are = nothing (reading s g h (AtCall mode 0))
calls_run s g h mode (Find session goal clause front hit ∷ calls) are =
    before (reading s g h (AtCall mode (stores calls))) (reading s g h (AtCall mode 0)) (Called (Find session goal clause front hit)) (map Called calls) are.0 tt
    (calls_run s g h mode calls are.1)
calls_run s g h mode (Store session goal clause place ∷ calls) are =
    before (reading s g h (AtCall mode (suc (stores calls)))) (reading s g h (AtCall mode 0)) (Called (Store session goal clause place)) (map Called calls) are.0 tt
    (calls_run s g h mode calls are.1)

lia_runs : (s g h : ℕ) (c : Kept) → IsKept c → Runs (reading s g h Between) (kept_lines Lia c) (reading s g h (AtCall Lia 0))
lia_runs s g h c is =
    before (reading s g h Between) (reading s g h (AtCall Lia 0)) (Plain (line.Cache Lia c.opened (stores c.history) c.saved)) (map Called c.history)
    (is.opened, is.stored, is.saved) refl (calls_run s g h Lia c.history is.calls)

nia_runs : (s g h : ℕ) (c : Kept) → IsKept c → Runs (reading s g h (AtCall Lia 0)) (kept_lines Nia c) (reading s g h (AtCall Nia 0))
nia_runs s g h c is =
    before (reading s g h (AtCall Lia 0)) (reading s g h (AtCall Nia 0)) (Plain (line.Cache Nia c.opened (stores c.history) c.saved)) (map Called c.history)
    (is.opened, is.stored, is.saved) refl
    (calls_run s g h Nia c.history is.calls)

-- ---- reports

pub report_runs : (r : Report) → IsReport r → (s : ℕ) × (g : ℕ) × (h : ℕ) × Runs begin (report_lines r) (reading s g h Over)
report_runs r is =
    let c = sessions_run 0 0 0 r.sessions (omega (arith, is.few_sessions)) (omega (arith, is.few_goals)) is.sessions in
    let s = c.sessions in
    let g = c.goals in
    let h = c.here in
    let last = before (reading s g h (AtCall Nia 0)) (reading s g h Over) (Plain line.End) [] tt tt (nothing (reading s g h Over)) in
    let nia =
    join (reading s g h (AtCall Lia 0)) (reading s g h (AtCall Nia 0)) (reading s g h Over) (kept_lines Nia r.nia) (Plain line.End ∷ [])
    (nia_runs s g h r.nia is.nia) last in
    let lia =
    join (reading s g h Between) (reading s g h (AtCall Lia 0)) (reading s g h Over) (kept_lines Lia r.lia) (kept_lines Nia r.nia ++ Plain line.End ∷ [])
    (lia_runs s g h r.lia is.lia) nia in
    let all =
    join (reading 0 0 0 Between) (reading s g h Between) (reading s g h Over) (sessions_lines 0 r.sessions)
    (kept_lines Lia r.lia ++ (kept_lines Nia r.nia ++ Plain line.End ∷ [])) c.runs lia in (
      s,
      g,
      h,
      before begin (reading s g h Over) (Plain line.Begin)
          (sessions_lines 0 r.sessions ++ (kept_lines Lia r.lia ++ (kept_lines Nia r.nia ++ Plain line.End ∷ []))) tt refl all,
    )

-- the lines of a report fit, up to the last one
pub report_fits : (r : Report) → IsReport r → AllFit (report_lines r)
report_fits r is = let whole = report_runs r is in
    record { are = record { within = whole.3.within; fit = whole.3.fit }; over = ap (λ (u : Reading). u.expect) whole.3.to }
