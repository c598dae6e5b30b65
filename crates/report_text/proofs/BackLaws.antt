-- Lines that fit, up to the last one, are those of a report.
use Rattle.std.proofs.Common.{◌≡◌, ℕ, zero, suc, ◌+◌, ◌<◌, ◌≤◌, ◌^◌, ℤ, List, [], ◌∷◌, ◌++◌, map, length, Some, None, inl, inr, ◌⊎◌, refl, sym, ap, subst, ◌∙◌, append_assoc, arith}
use Rattle.std.specs.List.{AllByRecursion}
use Rattle.cert_kit.specs.declared.row.PRow.{PRow}
use Rattle.cert_kit.specs.declared.cert.Cert.{Cert}
use Rattle.cert_text.specs.Check.{IsRow, IsCert}
use Rattle.goal_ast.specs.declared.goal.Bound.{Bound}
use Rattle.goal_ast.specs.declared.goal.Goal.{Goal}
use Rattle.goal_ast.specs.declared.goal.Mode.{Mode}
use Rattle.goal_ast.specs.declared.goal.Mode.TheVariants.{Lia, Nia}
use Rattle.goal_ast.specs.declared.goal.Name.{Name}
use Rattle.goal_serve.specs.declared.answers.Origin.{Origin}
use Rattle.goal_serve.specs.Line as line
use Rattle.report_text.specs.declared.call.Call.{Call}
use Rattle.report_text.specs.declared.call.Call.TheVariants.{Find, Store}
use Rattle.report_text.specs.Line.{ReportLine, Plain, Called, IsFree, IsKeyName, IsText, IsCall, IsPlain, IsReportLine}
use Rattle.report_text.specs.Report.{Block, Reply, Proved, Refuted, Unsettled, Oversize, Entered, Sorted, Unsorted, SessionShown, Kept, Report, block_lines, blocks_lines, values_lines, reply_lines, entered_lines, goals_lines, sessions_lines, stores, kept_lines, report_lines, IsBlock, AreValues, IsReply, IsEntered, IsSession, IsKept, IsReport, goals_in}
use Rattle.report_text.specs.Fitting.{Expect, AtFirst, Between, AtAnswer, AtPlace, AtValue, AtClause, AtRow, AtCall, Over, Reading, begin, at_clauses, at_values, Fits, FitsBetween, FitsAnswer, FitsRow, FitsCalled, next, Fit, reached, AllFit}
use Rattle.report_text.proofs.RunLaws.{reading, row_lines, goals_more}

-- ---- what lines are, by what comes next

abbrev last_lines : Kept → List ReportLine
last_lines nia = kept_lines Nia nia ++ Plain line.End ∷ []

-- sessions from this number on, and the caches
abbrev outer_lines : ℕ → List SessionShown → Kept → Kept → List ReportLine
outer_lines s sessions lia nia = sessions_lines s sessions ++ (kept_lines Lia lia ++ last_lines nia)

-- other goals of a session, and other sessions
record Tail (s g h : ℕ) (lines : List ReportLine) : Type 0 where
  goals : List Entered
  sessions : List SessionShown
  lia : Kept
  nia : Kept
  is : lines ≡ goals_lines h goals ++ outer_lines s sessions lia nia
  none : s ≡ 0 → goals ≡ []
  few_sessions : s + length sessions ≤ 64
  few_goals : g + (length goals + goals_in sessions) ≤ 1024
  are_goals : AllByRecursion IsEntered goals
  are_sessions : AllByRecursion IsSession sessions
  is_lia : IsKept lia
  is_nia : IsKept nia

record Opened (s g h : ℕ) (lines : List ReportLine) : Type 0 where
  rest : List ReportLine
  is : lines ≡ Plain line.Begin ∷ rest
  tail : Tail s g h rest

record Answered (vars : List Bound) (s g h : ℕ) (lines : List ReportLine) : Type 0 where
  reply : Reply
  within : IsReply vars reply
  rest : List ReportLine
  is : lines ≡ reply_lines vars reply ++ rest
  tail : Tail s g h rest

record Placed (s g h : ℕ) (lines : List ReportLine) : Type 0 where
  at : ℕ
  free : IsFree at
  rest : List ReportLine
  is : lines ≡ Plain (line.IllSorted at) ∷ rest
  tail : Tail s g h rest

record Valued (vars : List Bound) (s g h : ℕ) (lines : List ReportLine) : Type 0 where
  values : List ℤ
  are : AreValues vars values
  rest : List ReportLine
  is : lines ≡ values_lines vars values ++ rest
  tail : Tail s g h rest

-- so many clauses from this number on
record Blocked (k n : ℕ) (s g h : ℕ) (lines : List ReportLine) : Type 0 where
  blocks : List Block
  as_many : length blocks ≡ n
  are : AllByRecursion IsBlock blocks
  rest : List ReportLine
  is : lines ≡ blocks_lines k blocks ++ rest
  tail : Tail s g h rest

-- other rows, a certificate, and so many clauses from the number after this one on
record Rowed (k read n : ℕ) (s g h : ℕ) (lines : List ReportLine) : Type 0 where
  rows : List PRow
  are : AllByRecursion IsRow rows
  few : (rows ≡ []) ⊎ (read + length rows < 2 ^ 32)
  cert : Cert
  within : IsCert cert
  rest : List ReportLine
  is : lines ≡ row_lines rows ++ (Plain (line.Certificate cert) ∷ rest)
  blocked : Blocked (k + 1) n s g h rest

-- other calls, so many of which store, and what follows them
record Logged (n : ℕ) (mode : Mode) (lines : List ReportLine) : Type 0 where
  calls : List Call
  as_many : stores calls ≡ n
  are : AllByRecursion IsCall calls
  nia : Kept
  is_nia : IsKept nia
  is : lines ≡ map Called calls ++ last_lines nia

record Ended (n : ℕ) (lines : List ReportLine) : Type 0 where
  calls : List Call
  as_many : stores calls ≡ n
  are : AllByRecursion IsCall calls
  is : lines ≡ map Called calls ++ Plain line.End ∷ []

abbrev Shape : ℕ → ℕ → ℕ → Expect → List ReportLine → Type 0
Shape s g h AtFirst lines = Opened s g h lines
Shape s g h Between lines = Tail s g h lines
Shape s g h (AtAnswer vars) lines = Answered vars s g h lines
Shape s g h AtPlace lines = Placed s g h lines
Shape s g h (AtValue bound others) lines = Valued (bound ∷ others) s g h lines
Shape s g h (AtClause k others) lines = Blocked k (suc others) s g h lines
Shape s g h (AtRow k rows others) lines = Rowed k rows others s g h lines
Shape s g h (AtCall Lia n) lines = Logged n Lia lines
Shape s g h (AtCall Nia n) lines = Ended n lines
Shape s g h Over lines = lines ≡ []

abbrev ShapeOf : Reading → List ReportLine → Type 0
ShapeOf r lines = Shape r.sessions r.goals r.here r.expect lines

-- ---- between goals

session_on : (s g h n : ℕ) (name : Name) (ls : List ReportLine) → IsPlain (line.Session n name) → (n ≡ s) × (n < 64) → Tail (s + 1) g 0 ls
    → Tail s g h (Plain (line.Session n name) ∷ ls)
session_on s g h n name ls within fit t =
    let first : SessionShown = record { name = name; goals = t.goals } in
    record {
      goals = [];
      sessions = first ∷ t.sessions;
      lia = t.lia;
      nia = t.nia;
      is = ap (λ m. Plain (line.Session m name) ∷ ls) fit.0
          ∙ ap (λ ms. Plain (line.Session s name) ∷ ms)
          (t.is ∙ sym (append_assoc (goals_lines 0 t.goals) (sessions_lines (s + 1) t.sessions) (kept_lines Lia t.lia ++ last_lines t.nia)));
      none = λ e. refl;
      few_sessions = omega (arith, t.few_sessions);
      few_goals = omega (arith, t.few_goals, goals_more first t.sessions);
      are_goals = tt;
      are_sessions = (record { name = within.1; goals = t.are_goals }, t.are_sessions);
      is_lia = t.is_lia;
      is_nia = t.is_nia;
    }

one_at_least : {A : Type 0} (s : ℕ) → 1 ≤ s → s ≡ 0 → A
one_at_least s one e = absurd (omega (arith, one, e))

-- a goal before others of its session
goal_on : (s g h : ℕ) (e : Entered) (ls rest : List ReportLine) → 1 ≤ s → IsEntered e → ls ≡ entered_lines h e ++ rest → Tail s (g + 1) (h + 1) rest → Tail s g h ls
goal_on s g h e ls rest one within is t = record {
  goals = e ∷ t.goals;
  sessions = t.sessions;
  lia = t.lia;
  nia = t.nia;
  is = is ∙ ap (λ ms. entered_lines h e ++ ms) t.is ∙ sym (append_assoc (entered_lines h e) (goals_lines (h + 1) t.goals) (outer_lines s t.sessions t.lia t.nia));
  none = λ e. one_at_least s one e;
  few_sessions = t.few_sessions;
  few_goals = omega (arith, t.few_goals);
  are_goals = (within, t.are_goals);
  are_sessions = t.are_sessions;
  is_lia = t.is_lia;
  is_nia = t.is_nia;
}

unsorted_on : (s g h n : ℕ) (mode : Mode) (ls : List ReportLine) → (n ≡ h) × (1 ≤ s) × (g < 1024) → Placed s (g + 1) (h + 1) ls
    → Tail s g h (Plain (line.Asked n mode None) ∷ ls)
unsorted_on s g h n mode ls fit p =
    let all = Plain (line.Asked n mode None) ∷ ls in
    let is : all ≡ entered_lines h (Unsorted mode p.at) ++ p.rest =
    ap (λ m. Plain (line.Asked m mode None) ∷ ls) fit.0 ∙ ap (λ ms. Plain (line.Asked h mode None) ∷ ms) p.is in
    goal_on s g h (Unsorted mode p.at) all p.rest fit.1 p.free is p.tail

sorted_on : (s g h n : ℕ) (mode : Mode) (goal : Goal) (ls : List ReportLine) → IsText mode goal → (n ≡ h) × (1 ≤ s) × (g < 1024) → Answered goal.vars s (g + 1) (h + 1) ls
    → Tail s g h (Plain (line.Asked n mode (Some goal)) ∷ ls)
sorted_on s g h n mode goal ls within fit a =
    let all = Plain (line.Asked n mode (Some goal)) ∷ ls in
    let moded : mode ≡ goal.mode = sym within.moded in
    let is : all ≡ entered_lines h (Sorted goal a.reply) ++ a.rest =
    ap (λ m. Plain (line.Asked m mode (Some goal)) ∷ ls) fit.0 ∙ ap (λ m. Plain (line.Asked h m (Some goal)) ∷ ls) moded ∙ ap
    (λ ms. Plain (line.Asked h goal.mode (Some goal)) ∷ ms) a.is in
    goal_on s g h (Sorted goal a.reply) all a.rest fit.1 (subst (λ m. IsText m goal) moded within, a.within) is a.tail

-- the first cache
lia_on : (s g h o n v : ℕ) (ls : List ReportLine) → s ≤ 64 → g ≤ 1024 → IsFree o × IsFree n × IsFree v → Logged n Lia ls → Tail s g h (Plain (line.Cache Lia o n v) ∷ ls)
lia_on s g h o n v ls few many within l =
    let lia : Kept = record { opened = o; saved = v; history = l.calls } in
    let stored : IsFree (stores l.calls) = subst IsFree (sym l.as_many) within.1 in
    record {
      goals = [];
      sessions = [];
      lia = lia;
      nia = l.nia;
      is = ap (λ m. Plain (line.Cache Lia o m v) ∷ ls) (sym l.as_many) ∙ ap (λ ms. Plain (line.Cache Lia o (stores l.calls) v) ∷ ms) l.is;
      none = λ e. refl;
      few_sessions = omega (arith, few);
      few_goals = omega (arith, many);
      are_goals = tt;
      are_sessions = tt;
      is_lia = record { opened = within.0; stored = stored; saved = within.2; calls = l.are };
      is_nia = l.is_nia;
    }

-- the second cache
nia_on : (o n v : ℕ) (ls : List ReportLine) → IsFree o × IsFree n × IsFree v → Ended n ls → Logged 0 Lia (Plain (line.Cache Nia o n v) ∷ ls)
nia_on o n v ls within l =
    let nia : Kept = record { opened = o; saved = v; history = l.calls } in
    let stored : IsFree (stores l.calls) = subst IsFree (sym l.as_many) within.1 in
    record {
      calls = [];
      as_many = refl;
      are = tt;
      nia = nia;
      is_nia = record { opened = within.0; stored = stored; saved = within.2; calls = l.are };
      is = ap (λ m. Plain (line.Cache Nia o m v) ∷ ls) (sym l.as_many) ∙ ap (λ ms. Plain (line.Cache Nia o (stores l.calls) v) ∷ ms) l.is;
    }

-- ---- what is said of a goal

blocked_of : (k n s g h : ℕ) (ls : List ReportLine) → Shape s g h (at_clauses k n) ls → Blocked k n s g h ls
blocked_of k zero s g h ls t = record { blocks = []; as_many = refl; are = tt; rest = ls; is = refl; tail = t }
blocked_of k (suc n) s g h ls b = b

valued_of : (vars : List Bound) (s g h : ℕ) (ls : List ReportLine) → Shape s g h (at_values vars) ls → Valued vars s g h ls
valued_of [] s g h ls t = record { values = []; are = tt; rest = ls; is = refl; tail = t }
valued_of (bound ∷ vars) s g h ls v = v

proved_on : (vars : List Bound) (n s g h : ℕ) (ls : List ReportLine) → IsFree n → Blocked 0 n s g h ls → Answered vars s g h (Plain (line.Proved n) ∷ ls)
proved_on vars n s g h ls free b = record {
  reply = Proved b.blocks;
  within = (subst IsFree (sym b.as_many) free, b.are);
  rest = b.rest;
  is = ap (λ m. Plain (line.Proved m) ∷ ls) (sym b.as_many) ∙ ap (λ ms. Plain (line.Proved (length b.blocks)) ∷ ms) b.is;
  tail = b.tail;
}

refuted_on : (vars : List Bound) (s g h : ℕ) (ls : List ReportLine) → Valued vars s g h ls → Answered vars s g h (Plain line.Refuted ∷ ls)
refuted_on vars s g h ls v = record { reply = Refuted v.values; within = v.are; rest = v.rest; is = ap (λ ms. Plain line.Refuted ∷ ms) v.is; tail = v.tail }

fewer : (rows : List PRow) → (rows ≡ []) ⊎ (0 + length rows < 2 ^ 32) → length rows < 2 ^ 32
fewer rows (inl e) = omega (arith, ap length e)
fewer rows (inr few) = omega (arith, few)

one_more : (read : ℕ) (r : PRow) (rows : List PRow) → read + 1 < 2 ^ 32 → (rows ≡ []) ⊎ (read + 1 + length rows < 2 ^ 32) → read + length (r ∷ rows) < 2 ^ 32
one_more read r rows fit (inl e) = omega (arith, ap length e, fit)
one_more read r rows fit (inr few) = omega (arith, few)

clause_on : (k n s g h : ℕ) (name : List ℕ) (origin : Origin) (ls : List ReportLine) → IsKeyName name → Rowed k 0 n s g h ls
    → Blocked k (suc n) s g h (Plain (line.Clause k name origin) ∷ ls)
clause_on k n s g h name origin ls within r =
    let b : Block = record { name = name; origin = origin; rows = r.rows; cert = r.cert } in
    let others = r.blocked in
    let few : length r.rows < 2 ^ 32 = fewer r.rows r.few in
    let tail_is : row_lines r.rows ++ (Plain (line.Certificate r.cert) ∷ r.rest) ≡ (row_lines r.rows ++ Plain (line.Certificate r.cert) ∷ []) ++
    (blocks_lines (k + 1) others.blocks ++ others.rest) =
    ap (λ ms. row_lines r.rows ++ (Plain (line.Certificate r.cert) ∷ ms)) others.is ∙ sym
    (append_assoc (row_lines r.rows) (Plain (line.Certificate r.cert) ∷ []) (blocks_lines (k + 1) others.blocks ++ others.rest)) in
    record {
      blocks = b ∷ others.blocks;
      as_many = ap suc others.as_many;
      are = (record { name = within; rows = (r.are, few); cert = r.within }, others.are);
      rest = others.rest;
      is = ap (λ ms. Plain (line.Clause k name origin) ∷ ms) (r.is ∙ tail_is) ∙ sym (append_assoc (block_lines k b) (blocks_lines (k + 1) others.blocks) others.rest);
      tail = others.tail;
    }

-- ---- one line more

between : (s g h : ℕ) (l : line.Line) (ls : List ReportLine) → s ≤ 64 → g ≤ 1024 → IsPlain l → FitsBetween (reading s g h Between) l
    → ShapeOf (next (reading s g h Between) (Plain l)) ls → Tail s g h (Plain l ∷ ls)
between s g h (line.Session n name) ls few many within fit rest = session_on s g h n name ls within fit rest
between s g h (line.Asked n mode None) ls few many within fit rest = unsorted_on s g h n mode ls fit rest
between s g h (line.Asked n mode (Some goal)) ls few many within fit rest = sorted_on s g h n mode goal ls within.1 fit rest
between s g h (line.Cache Lia o n v) ls few many within fit rest = lia_on s g h o n v ls few many within rest
between s g h (line.Cache Nia o n v) ls few many within fit rest = absurd cc
between s g h l ls few many within fit rest = absurd fit

answer : (vars : List Bound) (s g h : ℕ) (l : line.Line) (ls : List ReportLine) → IsPlain l → FitsAnswer l → ShapeOf (next (reading s g h (AtAnswer vars)) (Plain l)) ls
    → Answered vars s g h (Plain l ∷ ls)
answer vars s g h (line.Proved n) ls within fit rest = proved_on vars n s g h ls within (blocked_of 0 n s g h ls rest)
answer vars s g h line.Refuted ls within fit rest = refuted_on vars s g h ls (valued_of vars s g h ls rest)
answer vars s g h (line.Unsettled n why) ls within fit rest = record { reply = Unsettled n why; within = within; rest = ls; is = refl; tail = rest }
answer vars s g h (line.Oversize kind) ls within fit rest = record { reply = Oversize kind; within = within; rest = ls; is = refl; tail = rest }
answer vars s g h l ls within fit rest = absurd fit

row : (k read n s g h : ℕ) (l : line.Line) (ls : List ReportLine) → IsPlain l → FitsRow read l → ShapeOf (next (reading s g h (AtRow k read n)) (Plain l)) ls
    → Rowed k read n s g h (Plain l ∷ ls)
row k read n s g h (line.Row r) ls within fit rest = record {
  rows = r ∷ rest.rows;
  are = (within, rest.are);
  few = inr (one_more read r rest.rows fit rest.few);
  cert = rest.cert;
  within = rest.within;
  rest = rest.rest;
  is = ap (λ ms. Plain (line.Row r) ∷ ms) rest.is;
  blocked = rest.blocked;
}
row k read n s g h (line.Certificate c) ls within fit rest =
    record { rows = []; are = tt; few = inl refl; cert = c; within = within; rest = ls; is = refl; blocked = blocked_of (k + 1) n s g h ls rest }
row k read n s g h l ls within fit rest = absurd fit

called : (mode : Mode) (s g h : ℕ) (l : line.Line) (ls : List ReportLine) → IsPlain l → FitsCalled mode l → ShapeOf (next (reading s g h (AtCall mode 0)) (Plain l)) ls
    → Shape s g h (AtCall mode 0) (Plain l ∷ ls)
called Lia s g h (line.Cache Nia o n v) ls within fit rest = nia_on o n v ls within rest
called Lia s g h (line.Cache Lia o n v) ls within fit rest = absurd cc
called Lia s g h l ls within fit rest = absurd fit
called Nia s g h line.End ls within fit rest = record { calls = []; as_many = refl; are = tt; is = ap (λ ms. Plain line.End ∷ ms) rest }
called Nia s g h l ls within fit rest = absurd fit

logged : (n m : ℕ) (c : Call) (ls : List ReportLine) → IsCall c → ((calls : List Call) → stores calls ≡ m → stores (c ∷ calls) ≡ n) → Logged m Lia ls
    → Logged n Lia (Called c ∷ ls)
logged n m c ls within count l =
    record { calls = c ∷ l.calls; as_many = count l.calls l.as_many; are = (within, l.are); nia = l.nia; is_nia = l.is_nia; is = ap (λ ms. Called c ∷ ms) l.is }

ended : (n m : ℕ) (c : Call) (ls : List ReportLine) → IsCall c → ((calls : List Call) → stores calls ≡ m → stores (c ∷ calls) ≡ n) → Ended m ls → Ended n (Called c ∷ ls)
ended n m c ls within count l = record { calls = c ∷ l.calls; as_many = count l.calls l.as_many; are = (within, l.are); is = ap (λ ms. Called c ∷ ms) l.is }

call : (mode : Mode) (n s g h : ℕ) (c : Call) (ls : List ReportLine) → IsCall c → Fits (reading s g h (AtCall mode n)) (Called c)
    → ShapeOf (next (reading s g h (AtCall mode n)) (Called c)) ls → Shape s g h (AtCall mode n) (Called c ∷ ls)
call Lia n s g h (Find p q k f hit) ls within fit rest = logged n n (Find p q k f hit) ls within (λ calls e. e) rest
call Nia n s g h (Find p q k f hit) ls within fit rest = ended n n (Find p q k f hit) ls within (λ calls e. e) rest
call Lia (suc n) s g h (Store p q k place) ls within fit rest = logged (suc n) n (Store p q k place) ls within (λ calls e. ap suc e) rest
call Nia (suc n) s g h (Store p q k place) ls within fit rest = ended (suc n) n (Store p q k place) ls within (λ calls e. ap suc e) rest
call Lia zero s g h (Store p q k place) ls within fit rest = absurd fit
call Nia zero s g h (Store p q k place) ls within fit rest = absurd fit

step : (s g h : ℕ) (e : Expect) (l : ReportLine) (ls : List ReportLine) → s ≤ 64 → g ≤ 1024 → IsReportLine l → Fits (reading s g h e) l
    → ShapeOf (next (reading s g h e) l) ls → Shape s g h e (l ∷ ls)
step s g h AtFirst (Plain l) ls few many within fit rest = record { rest = ls; is = ap (λ l. Plain l ∷ ls) fit; tail = rest }
step s g h Between (Plain l) ls few many within fit rest = between s g h l ls few many within fit rest
step s g h (AtAnswer vars) (Plain l) ls few many within fit rest = answer vars s g h l ls within fit rest
step s g h AtPlace (Plain l) ls few many within fit rest =
    record { at = fit.0; free = subst IsPlain fit.1 within; rest = ls; is = ap (λ l. Plain l ∷ ls) fit.1; tail = rest }
step s g h (AtValue bound others) (Plain (line.Value b z)) ls few many within fit rest =
    let v = valued_of others s g h ls rest in
    record {
      values = z ∷ v.values;
      are = (subst (λ b. IsPlain (line.Value b z)) fit within, v.are);
      rest = v.rest;
      is = ap (λ b. Plain (line.Value b z) ∷ ls) fit ∙ ap (λ ms. Plain (line.Value bound z) ∷ ms) v.is;
      tail = v.tail;
    }
step s g h (AtValue bound others) (Plain l) ls few many within fit rest = absurd fit
step s g h (AtClause k others) (Plain (line.Clause n name origin)) ls few many within fit rest =
    subst (λ m. Blocked k (suc others) s g h (Plain (line.Clause m name origin) ∷ ls)) (sym fit) (clause_on k others s g h name origin ls within.1 rest)
step s g h (AtClause k others) (Plain l) ls few many within fit rest = absurd fit
step s g h (AtRow k rows others) (Plain l) ls few many within fit rest = row k rows others s g h l ls within fit rest
step s g h (AtCall mode zero) (Plain l) ls few many within fit rest = called mode s g h l ls within fit rest
step s g h (AtCall mode (suc n)) (Plain l) ls few many within fit rest = absurd fit
step s g h (AtCall mode n) (Called c) ls few many within fit rest = call mode n s g h c ls within fit rest
step s g h Over (Plain l) ls few many within fit rest = absurd fit
step s g h e (Called c) ls few many within fit rest = absurd fit

-- ---- all lines

record IsBounded (r : Reading) : Type 0 where
  sessions : r.sessions ≤ 64
  goals : r.goals ≤ 1024

bounded_between : (s g h : ℕ) (l : line.Line) → s ≤ 64 → g ≤ 1024 → FitsBetween (reading s g h Between) l → IsBounded (next (reading s g h Between) (Plain l))
bounded_between s g h (line.Session n name) few many fit = record { sessions = omega (arith, fit.0, fit.1); goals = many }
bounded_between s g h (line.Asked n mode goal) few many fit = record { sessions = few; goals = omega (arith, fit.2) }
bounded_between s g h (line.Cache mode o n v) few many fit = record { sessions = few; goals = many }
bounded_between s g h l few many fit = absurd fit

bounded_next : (s g h : ℕ) (e : Expect) (l : ReportLine) → s ≤ 64 → g ≤ 1024 → Fits (reading s g h e) l → IsBounded (next (reading s g h e) l)
bounded_next s g h Between (Plain l) few many fit = bounded_between s g h l few many fit
bounded_next s g h AtFirst (Plain l) few many fit = record { sessions = few; goals = many }
bounded_next s g h (AtAnswer vars) (Plain l) few many fit = record { sessions = few; goals = many }
bounded_next s g h AtPlace (Plain l) few many fit = record { sessions = few; goals = many }
bounded_next s g h (AtValue bound others) (Plain l) few many fit = record { sessions = few; goals = many }
bounded_next s g h (AtClause k others) (Plain l) few many fit = record { sessions = few; goals = many }
bounded_next s g h (AtRow k rows others) (Plain l) few many fit = record { sessions = few; goals = many }
bounded_next s g h (AtCall mode n) (Plain l) few many fit = record { sessions = few; goals = many }
bounded_next s g h Over (Plain l) few many fit = record { sessions = few; goals = many }
bounded_next s g h e (Called c) few many fit = record { sessions = few; goals = many }

shape : (r : Reading) (ls : List ReportLine) → IsBounded r → AllByRecursion IsReportLine ls → Fit r ls → (reached r ls).expect ≡ Over → ShapeOf r ls
shape r [] bounded within fit over = subst (λ e. Shape r.sessions r.goals r.here e []) (sym over) refl
shape r (l ∷ ls) bounded within fit over =
    step r.sessions r.goals r.here r.expect l ls bounded.sessions bounded.goals within.0 fit.0
    (shape (next r l) ls (bounded_next r.sessions r.goals r.here r.expect l bounded.sessions bounded.goals fit.0) within.1 fit.1 over)

pub record LinesOf (lines : List ReportLine) : Type 0 where
  pub report : Report
  pub within : IsReport report
  pub are : lines ≡ report_lines report

-- lines that fit, up to the last one, are those of a report
pub report_of_lines : (ls : List ReportLine) → AllFit ls → LinesOf ls
report_of_lines ls fit =
    let o : Opened 0 0 0 ls = shape begin ls (record { sessions = omega arith; goals = omega arith }) fit.are.within fit.are.fit fit.over in
    let t = o.tail in
    let none : t.goals ≡ [] = t.none refl in
    record {
      report = record { sessions = t.sessions; lia = t.lia; nia = t.nia };
      within = record { few_sessions = omega (arith, t.few_sessions); few_goals = omega (arith, t.few_goals); sessions = t.are_sessions; lia = t.is_lia; nia = t.is_nia };
      are = o.is ∙ ap (λ ms. Plain line.Begin ∷ ms) (t.is ∙ ap (λ goals. goals_lines 0 goals ++ outer_lines 0 t.sessions t.lia t.nia) none);
    }
