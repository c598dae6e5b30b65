-- A report is read line by line, up to its end or to the first line that doesn't fit.
use Rattle.std.proofs.Common.{◌≡◌, ◌≢◌, ℕ, ◌+◌, ◌-◌, List, [], ◌∷◌, ◌++◌, length, None, refl, sym, ap, subst, ◌∙◌, append_assoc, length-append, arith, ◌<◌, ◌≤◌}
use Rattle.std.specs.Prelude.{codes}
use Rattle.std.proofs.lemmas.List.{append-nil}
use Rattle.mm_num.proofs.ListLaws.{all_join}
use Rattle.goal_ast.specs.declared.goal.Bound.{Bound}
use Rattle.goal_print.specs.Text.{value_text}
use Rattle.goal_serve.specs.Line as line
use Rattle.report_text.specs.declared.call.Call.{Call}
use Rattle.report_text.specs.declared.call.Call.TheVariants.{Find, Store}
use Rattle.report_text.specs.declared.lines.Line.{Line}
use Rattle.report_text.specs.declared.progress.Progress.{Progress}
use Rattle.report_text.specs.Line.{Plain, Called, call_text, ReportLine, IsReportLine, report_line, report_lines_text}
use Rattle.report_text.specs.Fitting.{Reading, Over, begin, Fits, next}
use Rattle.report_text.specs.Report.{Report, IsReport, report_text}
use Rattle.report_text.specs.Place.{LinesEnd, IsReadTo}
use Rattle.report_text.specs.Progress.{reading_of, vars_after, ReadsNext, FindsNext}
use Rattle.report_text.proofs.RunLaws.{fit_joined, reached_joined}
use Rattle.report_text.proofs.BackLaws.{report_of_lines}

-- nothing is read
pub started : (bytes : List ℕ) → IsReadTo bytes bytes begin
started bytes = record { lines = []; are = record { within = tt; fit = tt }; split = refl; to = refl }

lines_more : (ls : List ReportLine) (l : ReportLine) → report_lines_text (ls ++ l ∷ []) ≡ report_lines_text ls ++ report_line l
lines_more [] l = append-nil (report_line l)
lines_more (m ∷ ls) l = ap (λ t. report_line m ++ t) (lines_more ls l) ∙ sym (append_assoc (report_line m) (report_lines_text ls) (report_line l))

-- one line more that fits
pub one_line_more : (bytes rest more : List ℕ) (r : Reading) (l : ReportLine) → IsReadTo bytes rest r → IsReportLine l → Fits r l → rest ≡ report_line l ++ more
    → IsReadTo bytes more (next r l)
one_line_more bytes rest more r l so_far within fits split = record {
  lines = so_far.lines ++ l ∷ [];
  are = record {
    within = all_join IsReportLine so_far.lines (l ∷ []) so_far.are.within (within, tt);
    fit = fit_joined begin so_far.lines (l ∷ []) so_far.are.fit (subst (λ s. Fits s l) (sym so_far.to) fits, tt);
  };
  split =
      so_far.split ∙ ap (λ t. report_lines_text so_far.lines ++ t) split ∙ sym (append_assoc (report_lines_text so_far.lines) (report_line l) more) ∙ ap (λ t. t ++ more)
      (sym (lines_more so_far.lines l));
  to = reached_joined begin so_far.lines (l ∷ []) ∙ ap (λ s. next s l) so_far.to;
}

-- a line more that was read
pub read_more : (bytes rest more : List ℕ) (vars : List Bound) (p q : Progress) (read : Line) → IsReadTo bytes rest (reading_of vars p)
    → ReadsNext (reading_of vars p) vars rest read more q → IsReadTo bytes more (reading_of (vars_after vars read) q)
read_more bytes rest more vars p q read so_far n =
    subst (IsReadTo bytes more) (sym n.reached) (one_line_more bytes rest more (reading_of vars p) n.line so_far n.within n.fits n.split)

-- a line takes bytes
abbrev NotEmpty : List ℕ → Type 0
NotEmpty [] = ⊥
NotEmpty (c ∷ text) = Unit {0}

filled : (text : List ℕ) → NotEmpty text → 1 ≤ length text
filled [] is = absurd is
filled (c ∷ text) is = omega arith

call_filled : (c : Call) → 1 ≤ length (call_text c)
call_filled (Find s g k f h) = filled (call_text (Find s g k f h)) tt
call_filled (Store s g k q) = filled (call_text (Store s g k q)) tt

line_filled : (l : line.Line) → 1 ≤ length (line.line_text l)
line_filled (line.Value b z) =
    let rest = codes " := " ++ (value_text b.sort z ++ codes "\n") in
    let more : 1 ≤ length rest = filled rest tt in
    omega (arith, length-append b.name.bytes rest, more)
line_filled l = filled (line.line_text l) tt

takes_bytes : (l : ReportLine) → 1 ≤ length (report_line l)
takes_bytes (Plain l) = line_filled l
takes_bytes (Called c) = call_filled c

pub fewer_left : (r : Reading) (vars : List Bound) (bytes rest : List ℕ) (read : Line) (q : Progress) → ReadsNext r vars bytes read rest q → length rest < length bytes
fewer_left r vars bytes rest read q n =
    omega (arith, takes_bytes n.line, ap length n.split, length-append (report_line n.line) rest)

-- no other line fits
pub no_more : (bytes rest : List ℕ) (r : Reading) (vars : List Bound) → IsReadTo bytes rest r → FindsNext r vars rest None → (r.expect ≡ Over → rest ≢ [])
    → LinesEnd bytes (length bytes - length rest)
no_more bytes rest r vars so_far none unended =
    let text = report_lines_text so_far.lines in
    let count : length bytes ≡ length text + length rest = ap length so_far.split ∙ length-append text rest in
    record {
      lines = so_far.lines;
      rest = rest;
      split = so_far.split;
      are = so_far.are;
      no_line = λ b. none b.line b.rest b.within (subst (λ s. Fits s b.line) so_far.to b.fits) b.split;
      unended = λ over. unended (ap (λ (s : Reading). s.expect) (sym so_far.to) ∙ over);
      place = omega (arith, count);
    }

-- the last line is read, and nothing is left
pub all_read : (bytes : List ℕ) (r : Reading) → IsReadTo bytes [] r → r.expect ≡ Over → (report : Report) × IsReport report × (bytes ≡ report_text report)
all_read bytes r so_far over =
    let l = report_of_lines so_far.lines (record { are = so_far.are; over = ap (λ (s : Reading). s.expect) so_far.to ∙ over }) in
    (l.report, l.within, so_far.split ∙ append-nil (report_lines_text so_far.lines) ∙ ap report_lines_text l.are)
