-- Lines between goals, put together from their parts.
use Rattle.std.proofs.Common.{◌≡◌, ◌≢◌, ℕ, ◌+◌, ◌-◌, Bool, true, false, cond, List, [], ◌∷◌, ◌++◌, length, take, drop, Option, Some, None, Result, Ok, Err, Bor, eqb, inl, inr, ◌⊎◌, refl, sym, ap, subst, ◌∙◌, append_assoc}
use Rattle.std.specs.Prelude.{codes, decimal, ◌==◌, ◌||◌, IfOk}
use Rattle.std.specs.Bool.{Decides}
use Rattle.std.specs.declared.alloc.AllocError.{AllocError}
use Rattle.std.specs.Cmp.Lexicographic.{pointwise}
use Rattle.std.proofs.lemmas.Slice.Eq.{strip_suffix_is}
use Rattle.std.proofs.lemmas.Bool.{eqb-true, eq-eqb}
use Rattle.std.proofs.lemmas.List.{append_cancel_right}
use Rattle.std.proofs.lemmas.Option.{same_Some, some_pair_parts, none-some}
use Rattle.mm_num.specs.Option.{◌>>=◌}
use Rattle.mm_num.proofs.OptionLaws.{bind_some}
use Rattle.cert_kit.specs.declared.row.PRow.{PRow}
use Rattle.cert_kit.specs.declared.cert.Cert.{Cert}
use Rattle.cert_text.specs.Text.{has_line_feed, row_line, cert_line}
use Rattle.cert_text.specs.Place.{FindsRow, FindsCert}
use Rattle.cert_text.specs.Reading.{after}
use Rattle.cert_text.proofs.WordLaws.{guard_some}
use Rattle.goal_ast.specs.declared.goal.Goal.{Goal}
use Rattle.goal_ast.specs.declared.goal.Mode.{Mode}
use Rattle.goal_ast.specs.declared.goal.Mode.TheVariants.{Lia, Nia}
use Rattle.goal_ast.specs.declared.goal.Name.{Name}
use Rattle.goal_token.specs.Spacing.{IsName}
use Rattle.goal_sort.specs.declared.raw.RawGoal.{RawGoal}
use Rattle.goal_sort.specs.declared.raw.RawSession.{RawSession}
use Rattle.goal_sort.specs.IsSorted.{IsSorted}
use Rattle.goal_text.specs.Files.{Reads as ReadsFileOf}
use Rattle.goal_text.proofs.FileLaws.{one_file}
use Rattle.goal_print.specs.Text.{goal_text}
use Rattle.goal_print.specs.ReadsBack.{mode_text}
use Rattle.goal_serve.specs.Line.{Session, Asked, Row, Certificate, line_text, asked_text}
use Rattle.report_text.specs.declared.lines.Line.TheVariants as lines
use Rattle.report_text.specs.Line.{ReportLine, Plain, Called, IsFree, IsAsked, IsReportLine, report_line}
use Rattle.report_text.specs.machine.Reading.{number_after, word_at}
use Rattle.report_text.specs.machine.Reads.{Reads}
use Rattle.report_text.specs.machine.Parts.{SplitsLine, SplitsDotted, ReadsName, IsOnlyGoal, SortsTo, ReadsSessions, ReadsFile, ReadsGoal, ReadsDotted, ReadsAsked, numbered_after, mode_at}
use Rattle.report_text.specs.machine.Kinds.{IsSessionLine, IsAskedLine, IsRowLine, IsCertLine, ReadsNamed}
use Rattle.report_text.proofs.AfterLaws.{number_after_takes, number_after_again}
use Rattle.report_text.proofs.PeelLaws.{NoFeed, to_feed, no_feed_joined, name_no_feed}
use Rattle.report_text.proofs.GoalLineLaws.{goal_on_line}
use Rattle.report_text.proofs.PartLaws.{alone_same}
use Rattle.report_text.proofs.ReadSteps.{bind_on, word_last, word_at_takes, first_some}

-- ---- files

pub other_sessions : (bytes : List ℕ) (sessions : List RawSession) → ReadsSessions bytes (Some sessions) → IsOnlyGoal sessions None → ReadsFile bytes None
other_sessions bytes sessions read none = λ goal f. none f.raw (one_file read.0 f.reads)

pub sorted_file : (bytes : List ℕ) (sessions : List RawSession) (raw : RawGoal) (o : Option Goal) → ReadsSessions bytes (Some sessions) → IsOnlyGoal sessions (Some raw)
    → SortsTo raw o → ReadsFile bytes o
sorted_file bytes sessions raw (Some goal) read only sorted = record { raw = raw; reads = subst (ReadsFileOf bytes) only read.0; within = read.1; sorted = sorted }
sorted_file bytes sessions raw None read only none =
    λ goal f. none goal (subst (λ r. IsSorted r goal) (sym (alone_same raw f.raw (sym only ∙ one_file read.0 f.reads))) f.sorted)

pub sorted_result : (bytes : List ℕ) (sessions : List RawSession) (raw : RawGoal) (r : Result (Option Goal) AllocError) → ReadsSessions bytes (Some sessions)
    → IsOnlyGoal sessions (Some raw) → IfOk r (SortsTo raw) → IfOk r (ReadsFile bytes)
sorted_result bytes sessions raw (Ok o) read only sorted = sorted_file bytes sessions raw o read only sorted
sorted_result bytes sessions raw (Err e) read only sorted = tt

-- ---- a dot at the end

decides : (a b : ℕ) → Decides (eqb a b) (a ≡ b)
decides a b = (eqb-true a b, eq-eqb a b)

pub dot_missing : (line : List ℕ) → pointwise eqb (drop (length line - 1) line) (codes ".") ≡ false → (front : List ℕ) → line ≢ front ++ codes "."
dot_missing line e = strip_suffix_is decides line (codes ".") None e

pub dot_found : (line : List ℕ) (text : Bor (List ℕ))
    → (pointwise eqb (drop (length line - 1) line) (codes ".") ≡ true) × (text.now ≡ take (length line - 1) line) × (length text.now + 1 ≡ length line)
    → line ≡ text.now ++ codes "."
dot_found line text e = strip_suffix_is decides line (codes ".") (Some text) e

-- ---- a text and the end of its line

-- a line feed among bytes is one
joined_feed : (x y : List ℕ) → has_line_feed (x ++ 10 ∷ y) ≡ true
joined_feed [] y = refl
joined_feed (c ∷ x) y = by_test (joined_feed x y) (c == 10)
  where
    by_test : has_line_feed (x ++ 10 ∷ y) ≡ true → (b : Bool) → (b || has_line_feed (x ++ 10 ∷ y)) ≡ true
    by_test others true = refl
    by_test others false = others

no_line : {A : Type 0} (bytes x y : List ℕ) → NoFeed bytes → bytes ≡ x ++ 10 ∷ y → A
no_line bytes x y none e = absurd (let other : true ≡ false = sym (joined_feed x y) ∙ sym (ap has_line_feed e) ∙ none in cc)

dot_before : (text rest : List ℕ) → (text ++ codes ".\n") ++ rest ≡ (text ++ codes ".") ++ 10 ∷ rest
dot_before text rest = append_assoc text (codes ".\n") rest ∙ sym (append_assoc text (codes ".") (10 ∷ rest))

pub dotted_no_line : (bytes : List ℕ) → SplitsLine bytes None → SplitsDotted bytes None
dotted_no_line bytes none = λ text rest no e. no_line bytes (text ++ codes ".") rest none (e ∙ dot_before text rest)

pub dotted_no_dot : (bytes line rest : List ℕ) → SplitsLine bytes (Some (line, rest)) → ((front : List ℕ) → line ≢ front ++ codes ".") → SplitsDotted bytes None
dotted_no_dot bytes line rest s none = λ text r no e.
    none text (to_feed line (text ++ codes ".") rest r s.0 (no_feed_joined text (codes ".") no refl) (sym s.1 ∙ e ∙ dot_before text r)).0

front_no_feed : (x y : List ℕ) → NoFeed (x ++ y) → NoFeed x
front_no_feed [] y h = refl
front_no_feed (c ∷ x) y h = by_test (front_no_feed x y) (c == 10) refl h
  where
    by_test : (NoFeed (x ++ y) → NoFeed x) → (b : Bool) → (c == 10) ≡ b → (b || has_line_feed (x ++ y)) ≡ false → NoFeed (c ∷ x)
    by_test others true is e = absurd cc
    by_test others false is e = ap (λ b. b || has_line_feed x) is ∙ others e

pub dotted_found : (bytes line rest text : List ℕ) → SplitsLine bytes (Some (line, rest)) → line ≡ text ++ codes "." → SplitsDotted bytes (Some (text, rest))
dotted_found bytes line rest text s e =
    (front_no_feed text (codes ".") (ap has_line_feed (sym e) ∙ s.0), s.1 ∙ ap (λ l. l ++ 10 ∷ rest) e ∙ sym (dot_before text rest))

-- ---- names

pub named_no_line : (bytes : List ℕ) → SplitsLine bytes None → ReadsNamed bytes None
named_no_line bytes none = λ name rest is e. no_line bytes name.bytes rest none (e ∙ append_assoc name.bytes (codes "\n") rest)

pub named_other : (bytes text rest : List ℕ) → SplitsLine bytes (Some (text, rest)) → ReadsName text None → ReadsNamed bytes None
named_other bytes text rest s none = λ name r is e.
    none (subst IsName (sym (to_feed text name.bytes rest r s.0 (name_no_feed name.bytes is) (sym s.1 ∙ e ∙ append_assoc name.bytes (codes "\n") r)).0) is)

-- ---- goals

pub goal_no_dot : (mode : Mode) (bytes : List ℕ) → SplitsDotted bytes None → ReadsDotted mode bytes None
goal_no_dot mode bytes none = λ goal rest is e. none (goal_text goal) rest (goal_on_line goal is.reads) e

pub goal_other : (mode : Mode) (bytes text rest : List ℕ) → SplitsDotted bytes (Some (text, rest)) → ReadsGoal mode text None → ReadsDotted mode bytes None
goal_other mode bytes text rest s none = λ goal r is e.
    let both =
    to_feed (text ++ codes ".") (goal_text goal ++ codes ".") rest r (no_feed_joined text (codes ".") s.0 refl)
    (no_feed_joined (goal_text goal) (codes ".") (goal_on_line goal is.reads) refl)
    (sym (dot_before text rest) ∙ sym s.1 ∙ e ∙ dot_before (goal_text goal) r) in
    none goal is.moded is.reads (sym (without_dot text (goal_text goal) both.0))
  where
    without_dot : (x y : List ℕ) → x ++ codes "." ≡ y ++ codes "." → x ≡ y
    without_dot x y e = append_cancel_right x y (codes ".") e

-- ---- what follows the mode

pub asked_no_goal : (mode : Mode) (bytes r : List ℕ) → None ≡ after (codes "\n") bytes → Some r ≡ after (codes " ") bytes → ReadsDotted mode r None
    → ReadsAsked mode bytes None
asked_no_goal mode bytes r e f none = by_goal
  where
    by_goal : (goal : Option Goal) (rest : List ℕ) → IsAsked mode goal → bytes ≢ asked_text goal ++ rest
    by_goal None rest is text = none-some rest (e ∙ ap (after (codes "\n")) text)
    by_goal (Some goal) rest is text = none goal rest is (same_Some r ((goal_text goal ++ codes ".\n") ++ rest) (f ∙ ap (after (codes " ")) text))

-- ---- numbers of lines

-- what stands after a number of a line
pub numbered_takes : (word : List ℕ) (n : ℕ) (bytes rest : List ℕ) → numbered_after word n bytes ≡ Some rest
    → (bytes ≡ word ++ (decimal n ++ (codes " " ++ rest))) × IsFree n
numbered_takes word n bytes rest e =
    let m = bind_some (number_after word bytes) (λ m. after (codes " ") m.1 >>= λ rest. cond (m.0 == n) (Some rest) None) rest e in
    let s = bind_some (after (codes " ") m.0.1) (λ rest. cond (m.0.0 == n) (Some rest) None) rest m.2 in
    let g = guard_some (m.0.0 == n) (Some s.0) rest s.2 in
    let same : m.0.0 ≡ n = eqb-true m.0.0 n g.0 in
    let t = number_after_takes word bytes m.0.0 m.0.1 m.1 in
    let last : m.0.1 ≡ codes " " ++ rest = word_last (codes " ") m.0.1 s.0 rest s.1 (same_Some s.0 rest g.1) in
    (t.0 ∙ ap (λ b. word ++ (decimal m.0.0 ++ b)) last ∙ ap (λ k. word ++ (decimal k ++ (codes " " ++ rest))) same, subst IsFree same t.1)

pub numbered_again : (word : List ℕ) (n : ℕ) (rest : List ℕ) → IsFree n → numbered_after word n (word ++ (decimal n ++ (codes " " ++ rest))) ≡ Some rest
numbered_again word n rest free =
    bind_on (number_after word (word ++ (decimal n ++ (codes " " ++ rest)))) (λ m. after (codes " ") m.1 >>= λ rest. cond (m.0 == n) (Some rest) None)
    (n, codes " " ++ rest) (Some rest)
    (number_after_again word n (codes " " ++ rest) free refl) (ap (λ b. cond b (Some rest) None) (eq-eqb n n refl))

-- a text after a number
spaced : (word : List ℕ) (n : ℕ) (text rest : List ℕ) → (word ++ (decimal n ++ (codes " " ++ text))) ++ rest ≡ word ++ (decimal n ++ (codes " " ++ (text ++ rest)))
spaced word n text rest = append_assoc word (decimal n ++ (codes " " ++ text)) rest ∙ ap (λ b. word ++ b) (append_assoc (decimal n) (codes " " ++ text) rest)

-- ---- sessions

pub session_no_number : (n : ℕ) (bytes : List ℕ) → None ≡ numbered_after (codes "session ") n bytes → Reads (IsSessionLine n) bytes None
session_no_number n bytes e = by_line
  where
    by_line : (line : ReportLine) (rest : List ℕ) → IsReportLine line → IsSessionLine n line → bytes ≢ report_line line ++ rest
    by_line (Plain (Session m name)) rest within is text =
        let whole : bytes ≡ codes "session " ++ (decimal n ++ (codes " " ++ ((name.bytes ++ codes "\n") ++ rest))) =
        text ∙ ap (λ m. line_text (Session m name) ++ rest) is ∙ spaced (codes "session ") n (name.bytes ++ codes "\n") rest in
        none-some ((name.bytes ++ codes "\n") ++ rest)
        (e ∙ ap (numbered_after (codes "session ") n) whole ∙ numbered_again (codes "session ") n ((name.bytes ++ codes "\n") ++ rest) (subst IsFree is within.0))
    by_line (Plain l) rest within is text = is
    by_line (Called c) rest within is text = is

pub session_no_name : (n : ℕ) (bytes r : List ℕ) → Some r ≡ numbered_after (codes "session ") n bytes → ReadsNamed r None → Reads (IsSessionLine n) bytes None
session_no_name n bytes r e none = by_line
  where
    by_line : (line : ReportLine) (rest : List ℕ) → IsReportLine line → IsSessionLine n line → bytes ≢ report_line line ++ rest
    by_line (Plain (Session m name)) rest within is text =
        let whole : bytes ≡ codes "session " ++ (decimal n ++ (codes " " ++ ((name.bytes ++ codes "\n") ++ rest))) =
        text ∙ ap (λ m. line_text (Session m name) ++ rest) is ∙ spaced (codes "session ") n (name.bytes ++ codes "\n") rest in
        none name rest within.1 (same_Some r ((name.bytes ++ codes "\n") ++ rest)
        (e ∙ ap (numbered_after (codes "session ") n) whole ∙ numbered_again (codes "session ") n ((name.bytes ++ codes "\n") ++ rest) (subst IsFree is within.0)))
    by_line (Plain l) rest within is text = is
    by_line (Called c) rest within is text = is

pub session_found : (n : ℕ) (bytes r rest : List ℕ) (name : Name) → Some r ≡ numbered_after (codes "session ") n bytes → ReadsNamed r (Some (name, rest))
    → Reads (IsSessionLine n) bytes (Some (lines.Session n name, rest))
session_found n bytes r rest name e is =
    let t = numbered_takes (codes "session ") n bytes r (sym e) in
    record {
      line = Plain (Session n name);
      is_read = refl;
      within = (t.1, is.0);
      is = refl;
      split = t.0 ∙ ap (λ b. codes "session " ++ (decimal n ++ (codes " " ++ b))) is.1 ∙ sym (spaced (codes "session ") n (name.bytes ++ codes "\n") rest);
    }

-- ---- goals' lines

mode_takes : (bytes : List ℕ) (mode : Mode) (rest : List ℕ) → mode_at bytes ≡ Some (mode, rest) → bytes ≡ mode_text mode ++ rest
mode_takes bytes mode rest e = by_first (first_some (word_at (codes "lia") Lia bytes) (word_at (codes "nia") Nia bytes) (mode, rest) e)
  where
    by_first : (word_at (codes "lia") Lia bytes ≡ Some (mode, rest)) ⊎ (word_at (codes "nia") Nia bytes ≡ Some (mode, rest)) → bytes ≡ mode_text mode ++ rest
    by_first (inl f) = let p = word_at_takes (codes "lia") Lia bytes mode rest f in subst (λ m. bytes ≡ mode_text m ++ rest) (sym p.0) p.1
    by_first (inr f) = let p = word_at_takes (codes "nia") Nia bytes mode rest f in subst (λ m. bytes ≡ mode_text m ++ rest) (sym p.0) p.1

mode_again : (mode : Mode) (rest : List ℕ) → mode_at (mode_text mode ++ rest) ≡ Some (mode, rest)
mode_again Lia rest = refl
mode_again Nia rest = refl

-- what an asked line says after its number
asked_after : (n m : ℕ) (mode : Mode) (goal : Option Goal) (bytes rest : List ℕ) → IsFree m → m ≡ n → bytes ≡ line_text (Asked m mode goal) ++ rest
    → numbered_after (codes "goal ") n bytes ≡ Some (mode_text mode ++ (asked_text goal ++ rest))
asked_after n m mode goal bytes rest free same text =
    let whole : bytes ≡ codes "goal " ++ (decimal n ++ (codes " " ++ (mode_text mode ++ (asked_text goal ++ rest)))) =
    text ∙ ap (λ m. line_text (Asked m mode goal) ++ rest) same ∙ spaced (codes "goal ") n (mode_text mode ++ asked_text goal) rest
    ∙ ap (λ b. codes "goal " ++ (decimal n ++ (codes " " ++ b))) (append_assoc (mode_text mode) (asked_text goal) rest) in
    ap (numbered_after (codes "goal ") n) whole ∙ numbered_again (codes "goal ") n (mode_text mode ++ (asked_text goal ++ rest)) (subst IsFree same free)

pub asked_no_number : (n : ℕ) (bytes : List ℕ) → None ≡ numbered_after (codes "goal ") n bytes → Reads (IsAskedLine n) bytes None
asked_no_number n bytes e = by_line
  where
    by_line : (line : ReportLine) (rest : List ℕ) → IsReportLine line → IsAskedLine n line → bytes ≢ report_line line ++ rest
    by_line (Plain (Asked m mode goal)) rest within is text =
        none-some (mode_text mode ++ (asked_text goal ++ rest)) (e ∙ asked_after n m mode goal bytes rest within.0 is text)
    by_line (Plain l) rest within is text = is
    by_line (Called c) rest within is text = is

pub asked_no_mode : (n : ℕ) (bytes r : List ℕ) → Some r ≡ numbered_after (codes "goal ") n bytes → None ≡ mode_at r → Reads (IsAskedLine n) bytes None
asked_no_mode n bytes r e f = by_line
  where
    by_line : (line : ReportLine) (rest : List ℕ) → IsReportLine line → IsAskedLine n line → bytes ≢ report_line line ++ rest
    by_line (Plain (Asked m mode goal)) rest within is text =
        let same : r ≡ mode_text mode ++ (asked_text goal ++ rest) =
        same_Some r (mode_text mode ++ (asked_text goal ++ rest)) (e ∙ asked_after n m mode goal bytes rest within.0 is text) in
        none-some (mode, asked_text goal ++ rest) (f ∙ ap mode_at same ∙ mode_again mode (asked_text goal ++ rest))
    by_line (Plain l) rest within is text = is
    by_line (Called c) rest within is text = is

pub asked_other : (n : ℕ) (bytes r s : List ℕ) (mode : Mode) → Some r ≡ numbered_after (codes "goal ") n bytes → Some (mode, s) ≡ mode_at r → ReadsAsked mode s None
    → Reads (IsAskedLine n) bytes None
asked_other n bytes r s mode e f none = by_line
  where
    by_line : (line : ReportLine) (rest : List ℕ) → IsReportLine line → IsAskedLine n line → bytes ≢ report_line line ++ rest
    by_line (Plain (Asked m other goal)) rest within is text =
        let same : r ≡ mode_text other ++ (asked_text goal ++ rest) =
        same_Some r (mode_text other ++ (asked_text goal ++ rest)) (e ∙ asked_after n m other goal bytes rest within.0 is text) in
        let p = some_pair_parts mode other s (asked_text goal ++ rest) (f ∙ ap mode_at same ∙ mode_again other (asked_text goal ++ rest)) in
        none goal rest (subst (λ m. IsAsked m goal) (sym p.0) within.1) p.1
    by_line (Plain l) rest within is text = is
    by_line (Called c) rest within is text = is

pub asked_found : (n : ℕ) (bytes r s rest : List ℕ) (mode : Mode) (goal : Option Goal) → Some r ≡ numbered_after (codes "goal ") n bytes → Some (mode, s) ≡ mode_at r
    → ReadsAsked mode s (Some (goal, rest))
    → Reads (IsAskedLine n) bytes (Some (lines.Asked n mode goal, rest))
asked_found n bytes r s rest mode goal e f is =
    let t = numbered_takes (codes "goal ") n bytes r (sym e) in
    let text : r ≡ (mode_text mode ++ asked_text goal) ++ rest =
    mode_takes r mode s (sym f) ∙ ap (λ b. mode_text mode ++ b) is.1 ∙ sym (append_assoc (mode_text mode) (asked_text goal) rest) in
    record {
      line = Plain (Asked n mode goal);
      is_read = refl;
      within = (t.1, is.0);
      is = refl;
      split = t.0 ∙ ap (λ b. codes "goal " ++ (decimal n ++ (codes " " ++ b))) text ∙ sym (spaced (codes "goal ") n (mode_text mode ++ asked_text goal) rest);
    }

-- ---- rows and certificates

pub row_found : (bytes rest : List ℕ) (row : PRow) (n : ℕ) → FindsRow bytes (Some (row, n)) → rest ≡ drop n bytes → Reads IsRowLine bytes (Some (lines.Row row, rest))
row_found bytes rest row n is e = record { line = Plain (Row row); is_read = refl; within = is.0; is = tt; split = is.1 ∙ ap (λ r. row_line row ++ r) (sym e) }

pub cert_found : (bytes rest : List ℕ) (cert : Cert) (n : ℕ) → FindsCert bytes (Some (cert, n)) → rest ≡ drop n bytes
    → Reads IsCertLine bytes (Some (lines.Certificate cert, rest))
cert_found bytes rest cert n is e =
    record { line = Plain (Certificate cert); is_read = refl; within = is.0; is = tt; split = is.1 ∙ ap (λ r. cert_line cert ++ r) (sym e) }

pub cert_missing : (bytes : List ℕ) → FindsCert bytes None → Reads IsCertLine bytes None
cert_missing bytes none = by_line
  where
    by_line : (line : ReportLine) (rest : List ℕ) → IsReportLine line → IsCertLine line → bytes ≢ report_line line ++ rest
    by_line (Plain (Certificate cert)) rest within is text = none (cert, rest, within, text)
    by_line (Plain l) rest within is text = is
    by_line (Called c) rest within is text = is
