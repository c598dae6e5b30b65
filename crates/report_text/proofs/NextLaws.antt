-- The line that fits next, and how far a report is read after it.
use Rattle.std.proofs.Common.{◌≡◌, ◌≢◌, ℕ, zero, suc, ◌+◌, ◌-◌, ◌≤◌, List, [], ◌∷◌, ◌++◌, length, drop, Option, Some, None, Result, Ok, Err, Bor, refl, sym, ap, subst, ◌∙◌, arith}
use Rattle.std.specs.Prelude.{codes, slice_get}
use Rattle.std.specs.Option.{option_map}
use Rattle.std.specs.Prelude.{IfOk, IfSome}
use Rattle.std.specs.declared.alloc.AllocError.{AllocError}
use Rattle.std.proofs.Math.Seq.{drop-nil}
use Rattle.std.proofs.lemmas.Option.{slice_get_past}
use Rattle.std.proofs.Math.Numerals.{add-one}
use Rattle.goal_ast.specs.declared.goal.Bound.{Bound}
use Rattle.goal_ast.specs.declared.goal.Mode.{Mode}
use Rattle.goal_ast.specs.declared.goal.Mode.TheVariants.{Lia}
use Rattle.goal_serve.specs.Line.{Begin, Session, Asked, Proved, Row, Certificate, Refuted, Value, Unsettled, Oversize, Cache, line_text}
use Rattle.report_text.specs.declared.call.Call.TheVariants.{Find, Store}
use Rattle.report_text.specs.declared.lines.Line.{Line}
use Rattle.report_text.specs.declared.lines.Line.TheVariants as lines
use Rattle.report_text.specs.declared.progress.Due.{Due}
use Rattle.report_text.specs.declared.progress.Due.TheVariants as dues
use Rattle.report_text.specs.declared.progress.Progress.{Progress}
use Rattle.report_text.specs.Line.{ReportLine, Plain, Called, IsReportLine, report_line}
use Rattle.report_text.specs.Fitting.{Expect, AtFirst, Between, AtAnswer, AtPlace, AtValue, AtClause, AtRow, AtCall, Over, at_clauses, at_values, Reading, Fits, next}
use Rattle.report_text.specs.machine.Reading.{begin_at, answer_at, place_at, value_at, clause_at, call_at, cache_at}
use Rattle.report_text.specs.LineRead.{line_of}
use Rattle.report_text.specs.machine.Reads.{ReadsLine, Reads}
use Rattle.report_text.specs.machine.Kinds.{IsRowLine, IsCertLine}
use Rattle.report_text.specs.Progress.{expect_of, reading_at, reading_of, vars_after, ReadsNext, FindsNext}
use Rattle.report_text.specs.machine.Steps.{with_due, moved_by, first_clause, answer_due, call_due, IsSessionKind, IsAskedKind, IsCacheKind, FindsKind}
use Rattle.report_text.proofs.ReadSteps.{word_at_takes, reads_by, found}
use Rattle.report_text.proofs.AnswerLaws.{answer_reads, place_reads}
use Rattle.report_text.proofs.ValueLaws.{value_reads}
use Rattle.report_text.proofs.ClauseLaws.{clause_reads}
use Rattle.report_text.proofs.HistoryLaws.{cache_takes, cache_again, call_reads}

-- ---- what was read, and what may come next after it

pub moves : (p : Progress) (e : Expect) (vars : List Bound) (due_of : Line → Due) (bytes : List ℕ) (o : Option (Line × List ℕ)) → Reads (Fits (reading_at p e)) bytes o
    → ((line : ReportLine) → Fits (reading_at p e) line → reading_of (vars_after vars (line_of line)) (with_due p (due_of (line_of line))) ≡ next (reading_at p e) line)
    → FindsNext (reading_at p e) vars bytes (moved_by p due_of o)
moves p e vars due_of bytes None none to = none
moves p e vars due_of bytes (Some x) r to = record {
  line = r.line;
  is_read = r.is_read;
  within = r.within;
  fits = r.is;
  split = r.split;
  reached = ap (λ l. reading_of (vars_after vars l) (with_due p (due_of l))) r.is_read ∙ to r.line r.is;
}

pub by_expect : (p : Progress) (e : Expect) (vars : List Bound) (bytes : List ℕ) (o : Option (Line × List ℕ × Progress)) → expect_of vars p.due ≡ e
    → FindsNext (reading_at p e) vars bytes o → FindsNext (reading_of vars p) vars bytes o
by_expect p e vars bytes o same finds = subst (λ e. FindsNext (reading_at p e) vars bytes o) (sym same) finds

-- ---- the first line

begin_reads : (p : Progress) (bytes : List ℕ) → Reads (Fits (reading_at p AtFirst)) bytes (begin_at bytes)
begin_reads p bytes = reads_by (Fits (reading_at p AtFirst)) bytes (begin_at bytes) takes again
  where
    takes : (l : Line) (rest : List ℕ) → begin_at bytes ≡ Some (l, rest) → ReadsLine (Fits (reading_at p AtFirst)) bytes l rest
    takes l rest e =
        let t = word_at_takes (codes "mm report 1\n") lines.Begin bytes l rest e in record { line = Plain Begin; is_read = t.0; within = tt; is = refl; split = t.1 }

    again : (line : ReportLine) (rest : List ℕ) → IsReportLine line → Fits (reading_at p AtFirst) line → bytes ≡ report_line line ++ rest → begin_at bytes ≢ None
    again (Plain l) rest within is e = found begin_at bytes (codes "mm report 1\n" ++ rest) (lines.Begin, rest) (e ∙ ap (λ l. line_text l ++ rest) is) refl
    again (Called c) rest within is e = absurd is

pub begin_next : (vars : List Bound) (p : Progress) (bytes : List ℕ) → p.due ≡ dues.Begin
    → FindsNext (reading_of vars p) vars bytes (moved_by p (λ l. dues.Between) (begin_at bytes))
begin_next vars p bytes e =
    by_expect p AtFirst vars bytes (moved_by p (λ l. dues.Between) (begin_at bytes)) (ap (expect_of vars) e)
    (moves p AtFirst vars (λ l. dues.Between) bytes (begin_at bytes) (begin_reads p bytes) to)
  where
    to : (line : ReportLine) → Fits (reading_at p AtFirst) line → reading_of (vars_after vars (line_of line)) (with_due p dues.Between) ≡ next (reading_at p AtFirst) line
    to (Plain l) fits = refl
    to (Called c) fits = absurd fits

-- ---- answers

first_is : (vars : List Bound) (n : ℕ) → expect_of vars (first_clause n) ≡ at_clauses 0 n
first_is vars zero = refl
first_is vars (suc n) = let same : n - 0 ≡ n = omega arith in ap (AtClause 0) same

pub answer_next : (vars : List Bound) (p : Progress) (bytes : List ℕ) → p.due ≡ dues.Answer
    → FindsNext (reading_of vars p) vars bytes (moved_by p answer_due (answer_at bytes))
answer_next vars p bytes e =
    by_expect p (AtAnswer vars) vars bytes (moved_by p answer_due (answer_at bytes)) (ap (expect_of vars) e)
    (moves p (AtAnswer vars) vars answer_due bytes (answer_at bytes) (answer_reads p.sessions p.goals p.here vars bytes) to)
  where
    to : (line : ReportLine) → Fits (reading_at p (AtAnswer vars)) line
        → reading_of (vars_after vars (line_of line)) (with_due p (answer_due (line_of line))) ≡ next (reading_at p (AtAnswer vars)) line
    to (Plain (Proved n)) fits = ap (reading_at p) (first_is vars n)
    to (Plain Refuted) fits = refl
    to (Plain (Unsettled n why)) fits = refl
    to (Plain (Oversize kind)) fits = refl
    to (Plain l) fits = absurd fits
    to (Called c) fits = absurd fits

pub place_next : (vars : List Bound) (p : Progress) (bytes : List ℕ) → p.due ≡ dues.Place
    → FindsNext (reading_of vars p) vars bytes (moved_by p (λ l. dues.Between) (place_at bytes))
place_next vars p bytes e =
    by_expect p AtPlace vars bytes (moved_by p (λ l. dues.Between) (place_at bytes)) (ap (expect_of vars) e)
    (moves p AtPlace vars (λ l. dues.Between) bytes (place_at bytes) (place_reads p.sessions p.goals p.here bytes) to)
  where
    to : (line : ReportLine) → Fits (reading_at p AtPlace) line → reading_of (vars_after vars (line_of line)) (with_due p dues.Between) ≡ next (reading_at p AtPlace) line
    to (Plain l) fits = refl
    to (Called c) fits = absurd fits

-- ---- values

drop_from : (vars : List Bound) (k : ℕ) (bound : Bound) → slice_get vars k ≡ Some bound → drop k vars ≡ bound ∷ drop (suc k) vars
drop_from [] k bound e = absurd cc
drop_from (b ∷ vars) zero bound e = let same : b ≡ bound = cc in ap (λ b. b ∷ vars) same
drop_from (b ∷ vars) (suc k) bound e = drop_from vars k bound e

drop_at : (vars : List Bound) (k : ℕ) (bound : Bound) → slice_get vars k ≡ Some bound → drop k vars ≡ bound ∷ drop (k + 1) vars
drop_at vars k bound e = drop_from vars k bound e ∙ ap (λ n. bound ∷ drop n vars) (sym (add-one k))

pub value_next : (vars : List Bound) (p : Progress) (bytes : List ℕ) (k : ℕ) (bound : Bound) → p.due ≡ dues.Value k → slice_get vars k ≡ Some bound
    → FindsNext (reading_of vars p) vars bytes (moved_by p (λ l. dues.Value (k + 1)) (value_at bound bytes))
value_next vars p bytes k bound e at =
    let others = drop (k + 1) vars in
    by_expect p (AtValue bound others) vars bytes (moved_by p (λ l. dues.Value (k + 1)) (value_at bound bytes))
    (ap (expect_of vars) e ∙ ap at_values (drop_at vars k bound at))
    (moves p (AtValue bound others) vars (λ l. dues.Value (k + 1)) bytes (value_at bound bytes) (value_reads p.sessions p.goals p.here bound others bytes) to)
  where
    to : (line : ReportLine) → Fits (reading_at p (AtValue bound (drop (k + 1) vars))) line
        → reading_of (vars_after vars (line_of line)) (with_due p (dues.Value (k + 1))) ≡ next (reading_at p (AtValue bound (drop (k + 1) vars))) line
    to (Plain (Value b z)) fits = refl
    to (Plain l) fits = absurd fits
    to (Called c) fits = absurd fits

drop_all : (vars : List Bound) (k : ℕ) → slice_get vars k ≡ None → drop k vars ≡ []
drop_all [] k e = drop-nil k
drop_all (b ∷ vars) zero e = absurd cc
drop_all (b ∷ vars) (suc k) e = drop_all vars k e

-- ---- clauses

pub clause_next : (vars : List Bound) (p : Progress) (bytes : List ℕ) (k last : ℕ) → p.due ≡ dues.Clause k last
    → FindsNext (reading_of vars p) vars bytes (moved_by p (λ l. dues.Row k 0 last) (clause_at k bytes))
clause_next vars p bytes k last e =
    by_expect p (AtClause k (last - k)) vars bytes (moved_by p (λ l. dues.Row k 0 last) (clause_at k bytes)) (ap (expect_of vars) e)
    (moves p (AtClause k (last - k)) vars (λ l. dues.Row k 0 last) bytes (clause_at k bytes) (clause_reads p.sessions p.goals p.here k (last - k) bytes) to)
  where
    to : (line : ReportLine) → Fits (reading_at p (AtClause k (last - k))) line
        → reading_of (vars_after vars (line_of line)) (with_due p (dues.Row k 0 last)) ≡ next (reading_at p (AtClause k (last - k))) line
    to (Plain l) fits = refl
    to (Called c) fits = absurd fits

-- ---- rows

-- a row or a certificate
pub row_or_cert : (vars : List Bound) (p : Progress) (bytes : List ℕ) (k rows n : ℕ) (o : Option (Line × List ℕ × Progress))
    → FindsKind IsRowLine (reading_at p (AtRow k rows n)) vars bytes None
    → FindsKind IsCertLine (reading_at p (AtRow k rows n)) vars bytes o → FindsNext (reading_at p (AtRow k rows n)) vars bytes o
row_or_cert vars p bytes k rows n (Some x) none finds = finds
row_or_cert vars p bytes k rows n None none other = by_line
  where
    by_line : (line : ReportLine) (rest : List ℕ) → IsReportLine line → Fits (reading_at p (AtRow k rows n)) line → bytes ≢ report_line line ++ rest
    by_line (Plain (Row r)) rest within fits e = none (Plain (Row r)) rest within fits tt e
    by_line (Plain (Certificate c)) rest within fits e = other (Plain (Certificate c)) rest within fits tt e
    by_line (Plain l) rest within fits e = absurd fits
    by_line (Called c) rest within fits e = absurd fits

-- ---- calls

pub call_next : (vars : List Bound) (p : Progress) (bytes : List ℕ) (mode : Mode) (n : ℕ) → p.due ≡ dues.Call mode n
    → FindsNext (reading_of vars p) vars bytes (moved_by p (call_due mode n) (call_at mode n bytes))
call_next vars p bytes mode n e =
    by_expect p (AtCall mode n) vars bytes (moved_by p (call_due mode n) (call_at mode n bytes)) (ap (expect_of vars) e)
    (moves p (AtCall mode n) vars (call_due mode n) bytes (call_at mode n bytes) (call_reads p.sessions p.goals p.here mode n bytes) (to n))
  where
    to : (n : ℕ) (line : ReportLine) → Fits (reading_at p (AtCall mode n)) line
        → reading_of (vars_after vars (line_of line)) (with_due p (call_due mode n (line_of line))) ≡ next (reading_at p (AtCall mode n)) line
    to n (Plain (Cache other o t v)) fits = refl
    to n (Plain l) fits = refl
    to n (Called (Find s g k f h)) fits = refl
    to zero (Called (Store s g k q)) fits = absurd fits
    to (suc n) (Called (Store s g k q)) fits = let same : suc n - 1 ≡ n = omega arith in ap (λ m. reading_at p (AtCall mode m)) same

-- ---- the first cache

pub cache_next : (vars : List Bound) (p : Progress) (bytes : List ℕ)
    → FindsKind IsCacheKind (reading_at p Between) vars bytes (moved_by p (call_due Lia 0) (cache_at Lia bytes))
cache_next vars p bytes = by_read (cache_at Lia bytes) refl
  where
    missing : cache_at Lia bytes ≡ None → (line : ReportLine) (rest : List ℕ) → IsReportLine line → Fits (reading_at p Between) line → IsCacheKind line
        → bytes ≢ report_line line ++ rest
    missing none (Plain (Cache mode o n v)) rest within fits is e =
        found (cache_at Lia) bytes (line_text (Cache Lia o n v) ++ rest) (lines.Cache Lia o n v, rest) (e ∙ ap (λ m. line_text (Cache m o n v) ++ rest) fits)
        (cache_again Lia o n v rest within) none
    missing none (Plain l) rest within fits is e = absurd is
    missing none (Called c) rest within fits is e = absurd is

    reads : (l : Line) (rest : List ℕ) → cache_at Lia bytes ≡ Some (l, rest) → ReadsNext (reading_at p Between) vars bytes l rest (with_due p (call_due Lia 0 l))
    reads l rest e =
        let t = cache_takes Lia bytes l rest e in
        record {
          line = Plain (Cache Lia t.opened t.stored t.saved);
          is_read = t.read;
          within = t.free;
          fits = refl;
          split = t.text;
          reached = ap (λ l. reading_of (vars_after vars l) (with_due p (call_due Lia 0 l))) t.read;
        }

    by_read : (o : Option (Line × List ℕ)) → cache_at Lia bytes ≡ o → FindsKind IsCacheKind (reading_at p Between) vars bytes (moved_by p (call_due Lia 0) o)
    by_read None e = missing e
    by_read (Some x) e = reads x.0 x.1 e

-- a session, a goal or the first cache
pub one_of_three : (vars : List Bound) (p : Progress) (bytes : List ℕ) (o : Option (Line × List ℕ × Progress))
    → FindsKind IsSessionKind (reading_at p Between) vars bytes None
    → FindsKind IsAskedKind (reading_at p Between) vars bytes None → FindsKind IsCacheKind (reading_at p Between) vars bytes o
    → FindsNext (reading_at p Between) vars bytes o
one_of_three vars p bytes (Some x) none neither finds = finds
one_of_three vars p bytes None none neither other = by_line
  where
    by_line : (line : ReportLine) (rest : List ℕ) → IsReportLine line → Fits (reading_at p Between) line → bytes ≢ report_line line ++ rest
    by_line (Plain (Session n name)) rest within fits e = none (Plain (Session n name)) rest within fits tt e
    by_line (Plain (Asked n mode goal)) rest within fits e = neither (Plain (Asked n mode goal)) rest within fits tt e
    by_line (Plain (Cache mode o n v)) rest within fits e = other (Plain (Cache mode o n v)) rest within fits tt e
    by_line (Plain l) rest within fits e = absurd fits
    by_line (Called c) rest within fits e = absurd fits

-- ---- what a call returned

abbrev pub Seen : Type 0
Seen = Line × Bor (List ℕ) × Progress

-- what was found, with the bytes behind it
abbrev pub seen : Option Seen → Option (Line × List ℕ × Progress)
seen o = option_map (λ (x : Seen). (x.0, x.1.now, x.2)) o

abbrev pub GivesAt : Progress → Expect → List ℕ → Result (Option Seen) AllocError → Type 0
GivesAt p e bytes r = IfOk r (λ o. (vars : List Bound) → FindsNext (reading_at p e) vars bytes (seen o))

abbrev pub Gives : List Bound → Progress → List ℕ → Result (Option Seen) AllocError → Type 0
Gives vars p bytes r = IfOk r (λ o. FindsNext (reading_of vars p) vars bytes (seen o))

pub gives_so : (vars : List Bound) (p : Progress) (e : Expect) (bytes : List ℕ) (r : Result (Option Seen) AllocError) → expect_of vars p.due ≡ e → GivesAt p e bytes r
    → Gives vars p bytes r
gives_so vars p e bytes (Ok o) same gives = by_expect p e vars bytes (seen o) same (gives vars)
gives_so vars p e bytes (Err x) same gives = tt

pub gives_between : (vars : List Bound) (p : Progress) (bytes : List ℕ) (r : Result (Option Seen) AllocError) → p.due ≡ dues.Between → GivesAt p Between bytes r
    → Gives vars p bytes r
gives_between vars p bytes r e gives = gives_so vars p Between bytes r (ap (expect_of vars) e) gives

pub gives_row : (vars : List Bound) (p : Progress) (bytes : List ℕ) (k rows last : ℕ) (r : Result (Option Seen) AllocError) → p.due ≡ dues.Row k rows last
    → GivesAt p (AtRow k rows (last - k)) bytes r → Gives vars p bytes r
gives_row vars p bytes k rows last r e gives = gives_so vars p (AtRow k rows (last - k)) bytes r (ap (expect_of vars) e) gives

pub gives_values : (vars : List Bound) (p : Progress) (bytes : List ℕ) (k : ℕ) (r : Result (Option Seen) AllocError) → p.due ≡ dues.Value k → length vars ≤ k
    → GivesAt p Between bytes r → Gives vars p bytes r
gives_values vars p bytes k r e past gives = gives_so vars p Between bytes r (ap (expect_of vars) e ∙ ap at_values (drop_all vars k (slice_get_past vars k past))) gives

pub gives_cert : (p : Progress) (bytes : List ℕ) (k rows n : ℕ) (r : Result (Option Seen) AllocError)
    → ((vars : List Bound) → FindsKind IsRowLine (reading_at p (AtRow k rows n)) vars bytes None)
    → IfOk r (λ o. (vars : List Bound) → FindsKind IsCertLine (reading_at p (AtRow k rows n)) vars bytes (seen o)) → GivesAt p (AtRow k rows n) bytes r
gives_cert p bytes k rows n (Ok o) none gives = λ vars. row_or_cert vars p bytes k rows n (seen o) (none vars) (gives vars)
gives_cert p bytes k rows n (Err x) none gives = tt

-- ---- goals of a session are among all

counted_between : (s g h : ℕ) (l : ReportLine) → h ≤ g → Fits (record { sessions = s; goals = g; here = h; expect = Between }) l
    → (next (record { sessions = s; goals = g; here = h; expect = Between }) l).here ≤ (next (record { sessions = s; goals = g; here = h; expect = Between }) l).goals
counted_between s g h (Plain (Session n name)) under fits = omega arith
counted_between s g h (Plain (Asked n mode goal)) under fits = omega (arith, under)
counted_between s g h (Plain (Cache mode o n v)) under fits = under
counted_between s g h (Plain l) under fits = absurd fits
counted_between s g h (Called c) under fits = absurd fits

pub counted_next : (s g h : ℕ) (e : Expect) (l : ReportLine) → h ≤ g → Fits (record { sessions = s; goals = g; here = h; expect = e }) l
    → (next (record { sessions = s; goals = g; here = h; expect = e }) l).here ≤ (next (record { sessions = s; goals = g; here = h; expect = e }) l).goals
counted_next s g h Between l under fits = counted_between s g h l under fits
counted_next s g h AtFirst (Plain l) under fits = under
counted_next s g h (AtAnswer vars) (Plain l) under fits = under
counted_next s g h AtPlace (Plain l) under fits = under
counted_next s g h (AtValue bound others) (Plain l) under fits = under
counted_next s g h (AtClause k n) (Plain l) under fits = under
counted_next s g h (AtRow k rows n) (Plain l) under fits = under
counted_next s g h (AtCall mode n) (Plain l) under fits = under
counted_next s g h Over (Plain l) under fits = under
counted_next s g h e (Called c) under fits = under

counted_read : (vars : List Bound) (p : Progress) (bytes : List ℕ) (l : Line) (rest : List ℕ) (q : Progress) → p.here ≤ p.goals
    → ReadsNext (reading_of vars p) vars bytes l rest q → q.here ≤ q.goals
counted_read vars p bytes l rest q under r =
    let after = counted_next p.sessions p.goals p.here (expect_of vars p.due) r.line under r.fits in
    let here : q.here ≡ (next (reading_of vars p) r.line).here = ap (λ (s : Reading). s.here) r.reached in
    let goals : q.goals ≡ (next (reading_of vars p) r.line).goals = ap (λ (s : Reading). s.goals) r.reached in
    omega (arith, after, here, goals)

pub gives_counted : (vars : List Bound) (p : Progress) (bytes : List ℕ) (r : Result (Option Seen) AllocError) → p.here ≤ p.goals → Gives vars p bytes r
    → IfOk r (λ o. IfSome o (λ (x : Seen). x.2.here ≤ x.2.goals))
gives_counted vars p bytes (Ok None) under gives = tt
gives_counted vars p bytes (Ok (Some x)) under gives = counted_read vars p bytes x.0 x.1.now x.2 under gives
gives_counted vars p bytes (Err e) under gives = tt

-- ---- where nothing may come

not_over : (vars : List Bound) → at_values vars ≡ Over → ⊥
not_over [] e = absurd cc
not_over (bound ∷ vars) e = absurd cc

pub nothing_is_due : (vars : List Bound) (due : Due) → expect_of vars due ≡ Over → due ≡ dues.Nothing
nothing_is_due vars dues.Nothing e = refl
nothing_is_due vars (dues.Value k) e = absurd (not_over (drop k vars) e)
nothing_is_due vars due e = absurd cc
