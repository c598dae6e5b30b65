-- Goals that are judged over lines, one after the other.
use Rattle.std.proofs.Common.{◌≡◌, ℕ, ◌+◌, List, [], ◌∷◌, ◌++◌, Option, Some, None, ◌⊎◌, inl, inr, refl, sym, ap, subst, ◌∙◌, append_assoc}
use Rattle.std.proofs.lemmas.List.{append-nil}
use Rattle.std.proofs.lemmas.Grind.{flat_map-append}
use Rattle.mm_num.proofs.ListLaws.{all_join}
use Rattle.goal_ast.specs.declared.goal.Goal.{Goal}
use Rattle.goal_ast.specs.declared.goal.Mode.{Mode}
use Rattle.goal_ast.specs.declared.goal.Name.{Name}
use Rattle.goal_serve.specs.Line as line
use Rattle.report_text.specs.declared.call.Call.{Call}
use Rattle.report_text.specs.declared.lines.Line.{Line}
use Rattle.report_text.specs.declared.lines.Line.TheVariants as lines
use Rattle.report_text.specs.declared.progress.Progress.{Progress}
use Rattle.report_text.specs.Line.{ReportLine, Plain, Called, IsReportLine, report_line, report_lines_text}
use Rattle.report_text.specs.LineRead.{line_of}
use Rattle.report_text.specs.Fitting.{Reading, begin, Fits, next, reached, AreLines}
use Rattle.report_text.specs.Place.{IsReadTo}
use Rattle.report_text.specs.Progress.{reading_of, vars_after, ReadsNext}
use Rattle.report_text.specs.Whole.{vars_in}
use Rattle.report_text.proofs.RunLaws.{fit_joined, reached_joined}
use Rattle.report_check.specs.declared.judging.Place.{Place}
use Rattle.report_check.specs.declared.judging.Judged.{Judged}
use Rattle.report_check.specs.declared.judging.Judged.TheVariants.{Good, Values, Clauses, Rows, Bad}
use Rattle.report_check.specs.machine.Judging.{goal_after, place_after, GoesOn, Judges}

-- ---- lines

-- what is known of the goals before and after the lines
abbrev pub Runs : Option Goal → Place → Judged → List ReportLine → Judged → Type 0
Runs goal place before [] after = after ≡ before
Runs goal place before (l ∷ ls) after = (now : Judged) × Judges goal place before (line_of l) now × Runs (goal_after goal (line_of l)) (place_after place (line_of l)) now ls after

abbrev pub goal_along : Option Goal → List ReportLine → Option Goal
goal_along goal [] = goal
goal_along goal (l ∷ ls) = goal_along (goal_after goal (line_of l)) ls

abbrev pub place_along : Place → List ReportLine → Place
place_along place [] = place
place_along place (l ∷ ls) = place_along (place_after place (line_of l)) ls

goal_along_more : (goal : Option Goal) (ls : List ReportLine) (l : ReportLine) → goal_along goal (ls ++ l ∷ []) ≡ goal_after (goal_along goal ls) (line_of l)
goal_along_more goal [] l = refl
goal_along_more goal (m ∷ ls) l = goal_along_more (goal_after goal (line_of m)) ls l

place_along_more : (place : Place) (ls : List ReportLine) (l : ReportLine) → place_along place (ls ++ l ∷ []) ≡ place_after (place_along place ls) (line_of l)
place_along_more place [] l = refl
place_along_more place (m ∷ ls) l = place_along_more (place_after place (line_of m)) ls l

runs_more : (goal : Option Goal) (place : Place) (before now after : Judged) (ls : List ReportLine) (l : ReportLine) → Runs goal place before ls now
    → Judges (goal_along goal ls) (place_along place ls) now (line_of l) after → Runs goal place before (ls ++ l ∷ []) after
runs_more goal place before now after [] l run judged = (after, subst (λ j. Judges goal place j (line_of l) after) run judged, refl)
runs_more goal place before now after (m ∷ ls) l run judged =
    (run.0, run.1, runs_more (goal_after goal (line_of m)) (place_after place (line_of m)) run.0 now after ls l run.2 judged)

-- ---- bytes

abbrev pub origin : Place
origin = record { session = 0; goal = 0 }

-- lines that fit stand in front of the rest of the bytes, and lead so far; this is the last goal with sorts, the last goal
-- stands there, and so much is known of all goals
pub record IsJudgedTo (bytes rest : List ℕ) (r : Reading) (goal : Option Goal) (place : Place) (judged : Judged) : Type 0 where
  pub lines : List ReportLine
  pub are : AreLines lines
  pub split : bytes ≡ report_lines_text lines ++ rest
  pub to : reached begin lines ≡ r
  pub asked : goal_along None lines ≡ goal
  pub there : place_along origin lines ≡ place
  pub run : Runs None origin Good lines judged

pub started : (bytes : List ℕ) → IsJudgedTo bytes bytes begin None origin Good
started bytes = record { lines = []; are = record { within = tt; fit = tt }; split = refl; to = refl; asked = refl; there = refl; run = refl }

pub is_read_to : (bytes rest : List ℕ) (r : Reading) (goal : Option Goal) (place : Place) (judged : Judged) → IsJudgedTo bytes rest r goal place judged → IsReadTo bytes rest r
is_read_to bytes rest r goal place judged j = record { lines = j.lines; are = j.are; split = j.split; to = j.to }

lines_more : (ls : List ReportLine) (l : ReportLine) → report_lines_text (ls ++ l ∷ []) ≡ report_lines_text ls ++ report_line l
lines_more ls l = flat_map-append report_line ls (l ∷ []) ∙ ap (λ t. report_lines_text ls ++ t) (append-nil (report_line l))

one_line_more : (bytes rest more : List ℕ) (r : Reading) (goal : Option Goal) (place : Place) (judged now : Judged) (l : ReportLine) → IsJudgedTo bytes rest r goal place judged
    → IsReportLine l → Fits r l → rest ≡ report_line l ++ more → Judges goal place judged (line_of l) now
    → IsJudgedTo bytes more (next r l) (goal_after goal (line_of l)) (place_after place (line_of l)) now
one_line_more bytes rest more r goal place judged now l so_far within fits split judges = record {
  lines = so_far.lines ++ l ∷ [];
  are = record {
    within = all_join IsReportLine so_far.lines (l ∷ []) so_far.are.within (within, tt);
    fit = fit_joined begin so_far.lines (l ∷ []) so_far.are.fit (subst (λ s. Fits s l) (sym so_far.to) fits, tt);
  };
  split =
      so_far.split ∙ ap (λ t. report_lines_text so_far.lines ++ t) split ∙ sym (append_assoc (report_lines_text so_far.lines) (report_line l) more) ∙ ap (λ t. t ++ more)
      (sym (lines_more so_far.lines l));
  to = reached_joined begin so_far.lines (l ∷ []) ∙ ap (λ s. next s l) so_far.to;
  asked = goal_along_more None so_far.lines l ∙ ap (λ g. goal_after g (line_of l)) so_far.asked;
  there = place_along_more origin so_far.lines l ∙ ap (λ p. place_after p (line_of l)) so_far.there;
  run = runs_more None origin Good judged now so_far.lines l so_far.run
      (subst (λ g. Judges g (place_along origin so_far.lines) judged (line_of l) now) (sym so_far.asked)
      (subst (λ p. Judges goal p judged (line_of l) now) (sym so_far.there) judges));
}

-- the variables of the last goal with sorts, after a line that was read
vars_follow : (goal : Option Goal) (read : Line) → vars_in (goal_after goal read) ≡ vars_after (vars_in goal) read
vars_follow goal (lines.Asked n mode (Some asked)) = refl
vars_follow goal (lines.Asked n mode None) = refl
vars_follow goal read = refl

-- a line more that was read and judged
pub goes_on : (bytes rest more : List ℕ) (p q : Progress) (read : Line) (goal after : Option Goal) (place there : Place) (judged now : Judged)
    → IsJudgedTo bytes rest (reading_of (vars_in goal) p) goal place judged → ReadsNext (reading_of (vars_in goal) p) (vars_in goal) rest read more q
    → Judges goal place judged read now → after ≡ goal_after goal read → there ≡ place_after place read
    → IsJudgedTo bytes more (reading_of (vars_in after) q) after there now
goes_on bytes rest more p q read goal after place there judged now so_far n judges a t =
    let vars = vars_in goal in
    let o : vars_in after ≡ vars_after vars read = ap vars_in a ∙ vars_follow goal read in
    let judged_line = subst (λ l. Judges goal place judged l now) n.is_read judges in
    let made = one_line_more bytes rest more (reading_of vars p) goal place judged now n.line so_far n.within n.fits n.split judged_line in
    let as_read = subst (λ l. IsJudgedTo bytes more (next (reading_of vars p) n.line) (goal_after goal l) (place_after place l) now) (sym n.is_read) made in
    let as_reached = subst (λ r. IsJudgedTo bytes more r (goal_after goal read) (place_after place read) now) (sym n.reached) as_read in
    subst (λ v. IsJudgedTo bytes more (reading_of v q) after there now) (sym o)
    (subst (λ g. IsJudgedTo bytes more (reading_of (vars_after vars read) q) g there now) (sym a)
    (subst (λ s. IsJudgedTo bytes more (reading_of (vars_after vars read) q) (goal_after goal read) s now) (sym t) as_reached))

-- ---- what comes after one line

-- the first goal that isn't good stays
pub stays_bad : (goal : Option Goal) (place first : Place) (ls : List ReportLine) (out : Judged) → Runs goal place (Bad first) ls out → out ≡ Bad first
stays_bad goal place first [] out run = run
stays_bad goal place first (l ∷ ls) out run =
    stays_bad (goal_after goal (line_of l)) (place_after place (line_of l)) first ls out
    (subst (λ j. Runs (goal_after goal (line_of l)) (place_after place (line_of l)) j ls out) run.1 run.2)

pub went : (P : Type 0) (next : Judged) (place : Place) (after : Judged) → GoesOn P next place after → (P × (after ≡ next)) ⊎ ((P → ⊥) × (after ≡ Bad place))
went P next place (Bad first) g = inr (g.1, ap Bad g.0)
went P next place Good g = inl g
went P next place (Values values) g = inl g
went P next place (Clauses plan k) g = inl g
went P next place (Rows plan k rows) g = inl g

-- no goal is known that isn't good
abbrev pub IsNotBad : Judged → Type 0
IsNotBad (Bad first) = ⊥
IsNotBad judged = Unit {0}

pub session_resets : (goal : Option Goal) (place : Place) (before after : Judged) (n : ℕ) (name : Name) → IsNotBad before → Judges goal place before (line_of (Plain (line.Session n name))) after → after ≡ Good
session_resets goal place Good after n name not_bad j = j
session_resets goal place (Values values) after n name not_bad j = j
session_resets goal place (Clauses plan k) after n name not_bad j = j
session_resets goal place (Rows plan k rows) after n name not_bad j = j
session_resets goal place (Bad first) after n name not_bad j = absurd not_bad

pub asked_resets : (goal : Option Goal) (place : Place) (before after : Judged) (n : ℕ) (mode : Mode) (asked : Option Goal) → IsNotBad before → Judges goal place before (line_of (Plain (line.Asked n mode asked))) after → after ≡ Good
asked_resets goal place Good after n mode asked not_bad j = j
asked_resets goal place (Values values) after n mode asked not_bad j = j
asked_resets goal place (Clauses plan k) after n mode asked not_bad j = j
asked_resets goal place (Rows plan k rows) after n mode asked not_bad j = j
asked_resets goal place (Bad first) after n mode asked not_bad j = absurd not_bad

pub cache_resets : (goal : Option Goal) (place : Place) (before after : Judged) (mode : Mode) (opened stored saved : ℕ) → IsNotBad before → Judges goal place before (line_of (Plain (line.Cache mode opened stored saved))) after → after ≡ Good
cache_resets goal place Good after mode opened stored saved not_bad j = j
cache_resets goal place (Values values) after mode opened stored saved not_bad j = j
cache_resets goal place (Clauses plan k) after mode opened stored saved not_bad j = j
cache_resets goal place (Rows plan k rows) after mode opened stored saved not_bad j = j
cache_resets goal place (Bad first) after mode opened stored saved not_bad j = absurd not_bad

pub called_resets : (goal : Option Goal) (place : Place) (before after : Judged) (call : Call) → IsNotBad before → Judges goal place before (line_of (Called call)) after → after ≡ Good
called_resets goal place Good after call not_bad j = j
called_resets goal place (Values values) after call not_bad j = j
called_resets goal place (Clauses plan k) after call not_bad j = j
called_resets goal place (Rows plan k rows) after call not_bad j = j
called_resets goal place (Bad first) after call not_bad j = absurd not_bad

pub end_resets : (goal : Option Goal) (place : Place) (before after : Judged) → IsNotBad before → Judges goal place before (line_of (Plain line.End)) after → after ≡ Good
end_resets goal place Good after not_bad j = j
end_resets goal place (Values values) after not_bad j = j
end_resets goal place (Clauses plan k) after not_bad j = j
end_resets goal place (Rows plan k rows) after not_bad j = j
end_resets goal place (Bad first) after not_bad j = absurd not_bad
