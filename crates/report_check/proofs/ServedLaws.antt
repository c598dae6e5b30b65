-- The report on good answers is a report, and its goals are good.
use Rattle.std.proofs.Common.{◌≡◌, ◌≢◌, ℕ, zero, suc, ◌+◌, ◌<◌, ◌≤◌, ◌^◌, ℤ, pos, negsuc, List, [], ◌∷◌, ◌++◌, map, length, Option, Some, None, Ok, Err, inl, inr, ◌⊎◌, refl, sym, ap, subst, ◌∙◌, append_assoc, arith, min, All}
use Rattle.std.specs.List.{AllByRecursion, flat_map}
use Rattle.std.proofs.lemmas.Int.{ints}
use Rattle.std.proofs.lemmas.List.{map-append, length-map}
use Rattle.std.proofs.lemmas.List.Elements.{recursion_from_All}
use Rattle.std.proofs.lemmas.List.Sums.{sum_by-cons}
use Rattle.std.proofs.lemmas.List.Folds.{flat_map-map}
use Rattle.std.proofs.lemmas.Option.{slice_get_within}
use Rattle.std.proofs.lemmas.Simd.{map-map}
use Rattle.mm_num.specs.Small.{IsSmall}
use Rattle.cert_kit.specs.Acceptance.{IsGood}
use Rattle.cert_kit.specs.declared.row.PRow.{PRow}
use Rattle.cert_kit.specs.declared.row.Clause.{Clause}
use Rattle.goal_ast.specs.declared.term.Sort.{Sort}
use Rattle.goal_ast.specs.declared.term.Sort.TheVariants as sorts
use Rattle.goal_ast.specs.declared.goal.Bound.{Bound}
use Rattle.goal_ast.specs.declared.goal.Goal.{Goal}
use Rattle.goal_ast.specs.declared.goal.Assignment.{Assignment}
use Rattle.goal_ast.specs.declared.goal.Mode.{Mode}
use Rattle.goal_ast.specs.declared.goal.Mode.TheVariants.{Lia, Nia}
use Rattle.goal_ast.specs.Range.{IsInRange, IsInSort, SuitsSorts, point_of, sorts_of}
use Rattle.goal_token.specs.Spacing.{IsName}
use Rattle.goal_token.specs.Tokens.{tokens_of}
use Rattle.goal_sort.specs.declared.raw.RawGoal.{RawGoal}
use Rattle.goal_sort.specs.declared.raw.RawSession.{RawSession}
use Rattle.goal_sort.specs.IsSorted.{IsSorted}
use Rattle.goal_sort.specs.Sorting.{sorting}
use Rattle.goal_sort.specs.SortGiving.{Placed}
use Rattle.goal_sort.proofs.AgainLaws.{again}
use Rattle.goal_text.specs.Files.{Reads}
use Rattle.goal_text.specs.GoalsRead.{IsGoalOfFile, AreGoalsOfFile, AreWithin}
use Rattle.goal_text.specs.GoalsRead as read
use Rattle.goal_text.specs.Refusals.{IsWithin}
use Rattle.goal_text.proofs.FewLaws.{within_limits}
use Rattle.goal_text.proofs.ShortLaws.{all_read}
use Rattle.goal_print.specs.ReadsBack.{ReadsBack}
use Rattle.goal_print.proofs.ReadsBackLaws.{reads_back}
use Rattle.zify.specs.declared.goal.ZGoal.{ZGoal}
use Rattle.zify.specs.Translation.{translated}
use Rattle.clause_form.specs.declared.named.Named.{Named}
use Rattle.clause_form.specs.Clauses.{clauses_of, number_of}
use Rattle.clause_engine.specs.declared.outcome.Why.{Why}
use Rattle.goal_serve.specs.declared.answers.Answer.{Answer}
use Rattle.goal_serve.specs.declared.answers.Answer.TheVariants as answers
use Rattle.goal_serve.specs.declared.answers.Kind.{Kind}
use Rattle.goal_serve.specs.declared.answers.Kind.TheVariants as kinds
use Rattle.goal_serve.specs.declared.answers.Shown.{Shown}
use Rattle.goal_serve.specs.Answering.{IsShown, AreShown, Refutes, Passes, IsOfSize, MeetsGoal, MeetsRaw}
use Rattle.goal_serve.specs.KeyName.{key_name}
use Rattle.goal_serve.specs.Line as line
use Rattle.goal_serve.specs.Reply as said
use Rattle.goal_serve.proofs.AnswerLaws.{by_tests, refuted_false, not_ill_sorted}
use Rattle.session_serve.specs.Pairing.{OneEach}
use Rattle.session_serve.specs.Report as served
use Rattle.session_serve.specs.Serving.{IsServed, MeetGoals, MeetSessions}
use Rattle.session_serve.specs.Spelling.{IsShownSpelled, IsSpelled, AreSpelled}
use Rattle.report_text.specs.Line.{ReportLine, Plain, IsFree, IsKind, IsValue, report_line, report_lines_text}
use Rattle.report_text.specs.Report.{Block, Reply, Proved, Refuted, Unsettled, Oversize, Entered, Sorted, Unsorted, SessionShown, Report, block_lines, blocks_lines, values_lines, reply_lines, entered_lines, goals_lines, sessions_lines, kept_lines, report_lines, report_text, IsBlock, AreValues, IsReply, IsEntered, IsSession, IsReport, goals_in}
use Rattle.report_check.specs.Goodness.{IsGoodBlock, AreGoodBlocks, IsGoodEntered, IsGoodSession, HasGoodGoals, Spell, Rechecks}
use Rattle.report_check.specs.Served.{block_of, entered_sorted, entered_of, goals_of, sessions_of, nothing_kept, report_of}
use Rattle.report_check.specs.declared.types.Recheck.TheVariants as verdicts
use Rattle.report_check.proofs.NameLaws.{is_key_name}
use Rattle.report_text.proofs.RunLaws.{goals_more as report_goals_more}

-- ---- lines

plain_rows : (rows : List PRow) → map Plain (map line.Row rows) ≡ map (λ (row : PRow). Plain (line.Row row)) rows
plain_rows rows = map-map Plain line.Row rows

plain_block : (k : ℕ) (s : Shown) → map Plain (said.clause_lines k s) ≡ block_lines k (block_of s)
plain_block k s =
    ap (λ ls. Plain (line.Clause k (key_name s.clause) s.origin) ∷ ls)
    (map-append Plain (map line.Row s.clause.rows) (line.Certificate s.cert ∷ []) ∙ ap (λ ls. ls ++ Plain (line.Certificate s.cert) ∷ []) (plain_rows s.clause.rows))

plain_blocks : (k : ℕ) (shown : List Shown) → map Plain (said.shown_lines k shown) ≡ blocks_lines k (map block_of shown)
plain_blocks k [] = refl
plain_blocks k (s ∷ shown) =
    map-append Plain (said.clause_lines k s) (said.shown_lines (k + 1) shown) ∙ ap (λ ls. ls ++ map Plain (said.shown_lines (k + 1) shown)) (plain_block k s)
    ∙ ap (λ ls. block_lines k (block_of s) ++ ls) (plain_blocks (k + 1) shown)

plain_values : (vars : List Bound) (values : List ℤ) → map Plain (said.value_lines vars values) ≡ values_lines vars values
plain_values [] values = refl
plain_values (b ∷ vars) [] = refl
plain_values (b ∷ vars) (z ∷ values) = ap (λ ls. Plain (line.Value b z) ∷ ls) (plain_values vars values)

-- ---- what a goal's answer needs

abbrev lines_by : Placed Goal → ℕ → Mode → Answer → List line.Line
lines_by s n mode a = elim s as (λ _. List line.Line) [ Ok goal ↦ line.Asked n goal.mode (Some goal) ∷ said.reply_lines goal a | Err at ↦ line.Asked n mode None ∷ line.IllSorted at ∷ [] ]

-- a goal's lines are those of its entry, which is within the limits and good
record EntryBy (s : Placed Goal) (n : ℕ) (mode : Mode) (a : Answer) : Type 0 where
  pub lines : map Plain (lines_by s n mode a) ≡ entered_lines n (entered_sorted s mode a)
  pub is : IsEntered (entered_sorted s mode a)
  pub good : IsGoodEntered (entered_sorted s mode a)

is_block : (s : Shown) → IsShownSpelled s → IsBlock (block_of s)
is_block s spelled = record { name = is_key_name s.clause; rows = spelled.rows; cert = spelled.cert }

are_blocks : (shown : List Shown) → AllByRecursion IsShownSpelled shown → AllByRecursion IsBlock (map block_of shown)
are_blocks [] all = tt
are_blocks (s ∷ shown) all = (is_block s all.0, are_blocks shown all.1)

good_blocks : (cs : List Named) (shown : List Shown) → AreShown cs shown → AreGoodBlocks cs (map block_of shown)
good_blocks [] [] are = tt
good_blocks [] (s ∷ shown) are = absurd are
good_blocks (n ∷ cs) [] are = absurd are
good_blocks (n ∷ cs) (s ∷ shown) are = (
  record {
    named = ap key_name are.0.clause;
    rows = ap (λ (c : Clause). c.rows) are.0.clause;
    good = subst (λ (c : Clause). IsGood c.rows s.cert) (sym are.0.clause) are.0.good;
  },
  good_blocks cs shown are.1,
)

few_blocks : (cs : List Named) (shown : List Shown) → AreShown cs shown → length (map block_of shown) ≡ length cs
few_blocks [] [] are = refl
few_blocks [] (s ∷ shown) are = absurd are
few_blocks (n ∷ cs) [] are = absurd are
few_blocks (n ∷ cs) (s ∷ shown) are = omega (arith, few_blocks cs shown are.1)

truth_value : (z : ℤ) → IsInSort sorts.Bool z → (z ≡ pos 0) ⊎ (z ≡ pos 1)
truth_value (pos zero) is = inl refl
truth_value (pos (suc zero)) is = inr refl
truth_value (pos (suc (suc n))) is = absurd (omega (arith, ints, is.1))
truth_value (negsuc n) is = absurd (omega (arith, ints, is.0))

is_value : (sort : Sort) (z : ℤ) → IsSmall z → IsInSort sort z → IsValue sort z
is_value sorts.Bool z small is = truth_value z is
is_value sorts.Int z small is = small
is_value sorts.Bin z small is = small
is_value sorts.Nat z small is = small
is_value sorts.Pos z small is = small

are_values : (vars : List Bound) (values : List ℤ) → length values ≡ length vars → AllByRecursion IsSmall values → SuitsSorts (point_of values) (sorts_of vars) → AreValues vars values
are_values [] [] same small suits = tt
are_values [] (z ∷ values) same small suits = absurd (omega (arith, same))
are_values (b ∷ vars) [] same small suits = absurd (omega (arith, same))
are_values (b ∷ vars) (z ∷ values) same small suits =
    (is_value b.sort z small.0 (suits 0 b.sort refl), are_values vars values (omega (arith, same)) small.1 (λ v s e. suits (suc v) s e))

is_kind : (z : ZGoal) (kind : Kind) → Passes z kind → IsKind kind
is_kind z kinds.Weight p = tt
is_kind z kinds.Spread p = tt
is_kind z kinds.Degree p = tt
is_kind z (kinds.Splits n) p = let e = p.2 in omega (arith, e)

-- ---- one goal

plain_proved : (n : ℕ) (goal : Goal) (shown : List Shown)
    → map Plain (line.Asked n goal.mode (Some goal) ∷ said.reply_lines goal (answers.Proved shown)) ≡ entered_lines n (Sorted goal (Proved (map block_of shown)))
plain_proved n goal shown =
    ap (λ m. Plain (line.Asked n goal.mode (Some goal)) ∷ Plain (line.Proved m) ∷ map Plain (said.shown_lines 0 shown)) (sym (length-map shown block_of))
    ∙ ap (λ ls. Plain (line.Asked n goal.mode (Some goal)) ∷ Plain (line.Proved (length (map block_of shown))) ∷ ls) (plain_blocks 0 shown)

sorted_entry : (n : ℕ) (goal : Goal) (turns : ℕ) (mode : Mode) (a : Answer) → ReadsBack goal → IsSpelled a → MeetsGoal goal turns a → EntryBy (Ok goal) n mode a
sorted_entry n goal turns mode (answers.Proved shown) reads spelled meets =
    let cs = clauses_of (translated goal) in
    let are = by_tests goal turns cs (answers.Proved shown) meets.1 in
    let few = few_blocks cs shown are in
    record {
      lines = plain_proved n goal shown;
      is = (record { moded = refl; reads = reads }, (omega (arith, few, meets.0.clauses), are_blocks shown (recursion_from_All IsShownSpelled shown spelled)));
      good = (meets.0, good_blocks cs shown are);
    }
sorted_entry n goal turns mode (answers.Refuted a) reads spelled meets =
    let r = refuted_false goal turns a meets in
    record {
      lines = ap (λ ls. Plain (line.Asked n goal.mode (Some goal)) ∷ Plain line.Refuted ∷ ls) (plain_values goal.vars a.values);
      is = (record { moded = refl; reads = reads }, are_values goal.vars a.values r.in_range.one_each r.in_range.small r.in_range.suits);
      good = r;
    }
sorted_entry n goal turns mode (answers.Unsettled k why) reads spelled meets =
    let cs = clauses_of (translated goal) in
    let u = by_tests goal turns cs (answers.Unsettled k why) meets.1 in
    let less : k < length cs = slice_get_within cs k u.stays.0 u.stays.1 in
    record { lines = refl; is = (record { moded = refl; reads = reads }, omega (arith, less, meets.0.clauses)); good = tt }
sorted_entry n goal turns mode (answers.Oversize kind) reads spelled meets =
    record { lines = refl; is = (record { moded = refl; reads = reads }, is_kind (translated goal) kind meets); good = tt }
sorted_entry n goal turns mode (answers.IllSorted at) reads spelled meets = absurd (not_ill_sorted goal turns at meets)

entry : (n : ℕ) (turns : ℕ) (raw : RawGoal) (a : Answer) → IsGoalOfFile raw → IsSpelled a → MeetsRaw raw turns a → EntryBy (sorting raw) n raw.mode a
entry n turns raw (answers.IllSorted at) file spelled meets =
    subst (λ s. EntryBy s n raw.mode (answers.IllSorted at)) (sym meets) (record { lines = refl; is = spelled; good = tt })
entry n turns raw (answers.Proved shown) file spelled meets =
    subst (λ s. EntryBy s n raw.mode (answers.Proved shown)) (sym (again raw meets.0 meets.1))
    (sorted_entry n meets.0 turns raw.mode (answers.Proved shown) (reads_back raw meets.0 file meets.1) spelled meets.2)
entry n turns raw (answers.Refuted a) file spelled meets =
    subst (λ s. EntryBy s n raw.mode (answers.Refuted a)) (sym (again raw meets.0 meets.1))
    (sorted_entry n meets.0 turns raw.mode (answers.Refuted a) (reads_back raw meets.0 file meets.1) spelled meets.2)
entry n turns raw (answers.Unsettled k why) file spelled meets =
    subst (λ s. EntryBy s n raw.mode (answers.Unsettled k why)) (sym (again raw meets.0 meets.1))
    (sorted_entry n meets.0 turns raw.mode (answers.Unsettled k why) (reads_back raw meets.0 file meets.1) spelled meets.2)
entry n turns raw (answers.Oversize kind) file spelled meets =
    subst (λ s. EntryBy s n raw.mode (answers.Oversize kind)) (sym (again raw meets.0 meets.1))
    (sorted_entry n meets.0 turns raw.mode (answers.Oversize kind) (reads_back raw meets.0 file meets.1) spelled meets.2)

-- ---- all goals of a session

record GoalsShown (n : ℕ) (raws : List RawGoal) (given : List Answer) : Type 0 where
  pub lines : map Plain (served.goals_lines n raws given) ≡ goals_lines n (goals_of raws given)
  pub are : AllByRecursion IsEntered (goals_of raws given)
  pub good : AllByRecursion IsGoodEntered (goals_of raws given)
  pub as_many : length (goals_of raws given) ≡ length raws

goals_shown : (n turns : ℕ) (raws : List RawGoal) (given : List Answer) → AllByRecursion IsGoalOfFile raws → AllByRecursion IsSpelled given → OneEach (IsServed turns) raws given
    → GoalsShown n raws given
goals_shown n turns [] [] files spelled meet = record { lines = refl; are = tt; good = tt; as_many = refl }
goals_shown n turns [] (a ∷ given) files spelled meet = absurd meet
goals_shown n turns (raw ∷ raws) [] files spelled meet = absurd meet
goals_shown n turns (raw ∷ raws) (a ∷ given) files spelled meet =
    let e = entry n turns raw a files.0 spelled.0 meet.0.meets in
    let others = goals_shown (n + 1) turns raws given files.1 spelled.1 meet.1 in
    record {
      lines = map-append Plain (served.goal_lines n raw a) (served.goals_lines (n + 1) raws given) ∙ ap (λ ls. ls ++ map Plain (served.goals_lines (n + 1) raws given)) e.lines
          ∙ ap (λ ls. entered_lines n (entered_of raw a) ++ ls) others.lines;
      are = (e.is, others.are);
      good = (e.good, others.good);
      as_many = omega (arith, others.as_many);
    }

-- ---- all sessions

record SessionsShown (n : ℕ) (ss : List RawSession) (given : List (List Answer)) : Type 0 where
  pub lines : map Plain (served.sessions_lines n ss given) ≡ sessions_lines n (sessions_of ss given)
  pub are : AllByRecursion IsSession (sessions_of ss given)
  pub good : AllByRecursion IsGoodSession (sessions_of ss given)
  pub as_many : length (sessions_of ss given) ≡ length ss
  pub goals : goals_in (sessions_of ss given) ≡ read.goals_in ss

goals_more : (s : RawSession) (ss : List RawSession) → read.goals_in (s ∷ ss) ≡ length s.goals + read.goals_in ss
goals_more s ss = sum_by-cons (λ (s : RawSession). length s.goals) s ss

sessions_shown : (n turns : ℕ) (ss : List RawSession) (given : List (List Answer)) → AreGoalsOfFile ss → AllByRecursion (λ (s : RawSession). IsName s.name.bytes) ss
    → AllByRecursion (All IsSpelled) given → MeetSessions turns ss given → SessionsShown n ss given
sessions_shown n turns [] [] files named spelled meet = record { lines = refl; are = tt; good = tt; as_many = refl; goals = refl }
sessions_shown n turns [] (a ∷ given) files named spelled meet = absurd meet
sessions_shown n turns (s ∷ ss) [] files named spelled meet = absurd meet
sessions_shown n turns (s ∷ ss) (a ∷ given) files named spelled meet =
    let g = goals_shown 0 turns s.goals a files.0 (recursion_from_All IsSpelled a spelled.0) meet.0 in
    let others = sessions_shown (n + 1) turns ss given files.1 named.1 spelled.1 meet.1 in
    let first : SessionShown = record { name = s.name; goals = goals_of s.goals a } in
    record {
      lines = map-append Plain (served.session_lines n s a) (served.sessions_lines (n + 1) ss given)
          ∙ ap (λ ls. (Plain (line.Session n s.name) ∷ ls) ++ map Plain (served.sessions_lines (n + 1) ss given)) g.lines
          ∙ ap (λ ls. (Plain (line.Session n s.name) ∷ goals_lines 0 (goals_of s.goals a)) ++ ls) others.lines;
      are = (record { name = named.0; goals = g.are }, others.are);
      good = (g.good, others.good);
      as_many = omega (arith, others.as_many);
      goals = report_goals_more first (sessions_of ss given) ∙ ap (λ m. m + goals_in (sessions_of ss given)) g.as_many
          ∙ ap (λ m. length s.goals + m) others.goals ∙ sym (goals_more s ss);
    }

-- ---- the report

same_lines : (ss : List RawSession) (given : List (List Answer)) → map Plain (served.sessions_lines 0 ss given) ≡ sessions_lines 0 (sessions_of ss given)
    → map Plain (served.report_lines ss given served.no_cache served.no_cache) ≡ report_lines (report_of ss given)
same_lines ss given e =
    let caches : List line.Line = line.Cache Lia 0 0 0 ∷ line.Cache Nia 0 0 0 ∷ line.End ∷ [] in
    ap (λ ls. Plain line.Begin ∷ ls) (map-append Plain (served.sessions_lines 0 ss given) caches ∙ ap (λ ls. ls ++ map Plain caches) e)

same_text : (ls : List line.Line) → report_lines_text (map Plain ls) ≡ line.lines_text ls
same_text ls = flat_map-map report_line Plain ls

-- the report on good answers that are spelled so that they are read again is accepted
pub accepted : (turns : ℕ) (bytes : List ℕ) (ss : List RawSession) (given : List (List Answer)) → Reads bytes ss → IsWithin (tokens_of bytes) → MeetSessions turns ss given
    → AreSpelled given → Rechecks (served.report_text ss given served.no_cache served.no_cache) verdicts.Accepted
accepted turns bytes ss given reads within meet spelled =
    let limits = within_limits bytes ss reads within in
    let shown = sessions_shown 0 turns ss given (all_read bytes ss reads within) limits.named (recursion_from_All (All IsSpelled) given spelled) meet in
    let is : IsReport (report_of ss given) = record {
      few_sessions = omega (arith, shown.as_many, limits.sessions);
      few_goals = omega (arith, shown.goals, limits.goals);
      sessions = shown.are;
      lia = record { opened = omega arith; stored = omega arith; saved = omega arith; calls = tt };
      nia = record { opened = omega arith; stored = omega arith; saved = omega arith; calls = tt };
    } in
    let text : served.report_text ss given served.no_cache served.no_cache ≡ report_text (report_of ss given) =
    sym (same_text (served.report_lines ss given served.no_cache served.no_cache)) ∙ ap report_lines_text (same_lines ss given shown.lines) in
    (report_of ss given, record { is = is; spelled = text }, shown.good)
