-- What is said of bytes, and that it is one thing.
use Rattle.std.proofs.Common.{◌≡◌, ◌<◌, ◌≤◌, ℕ, zero, suc, ◌-◌, List, [], ◌∷◌, length, take, Option, Some, None, ◌⊎◌, inl, inr, refl, sym, ap, subst, ◌∙◌, arith}
use Rattle.std.specs.Prelude.{slice_get}
use Rattle.std.specs.List.{AllByRecursion}
use Rattle.std.proofs.lemmas.Bool.{cases_lt}
use Rattle.std.proofs.lemmas.List.{append-nil}
use Rattle.goal_ast.specs.declared.goal.Bound.{Bound}
use Rattle.goal_ast.specs.declared.goal.Goal.{Goal}
use Rattle.report_text.specs.declared.progress.Due.TheVariants.{Nothing}
use Rattle.report_text.specs.declared.progress.Progress.{Progress}
use Rattle.report_text.specs.Line.{report_lines_text}
use Rattle.report_text.specs.Fitting.{Reading, Over}
use Rattle.report_text.specs.Report.{Entered, SessionShown, Report, report_lines}
use Rattle.report_text.specs.Place.{IsNoReport, LinesEnd}
use Rattle.report_text.specs.Progress.{expect_of, reading_of, FindsNext}
use Rattle.report_text.proofs.BackLaws.{report_of_lines}
use Rattle.report_text.proofs.OneLaws.{one_report}
use Rattle.report_text.proofs.PlaceLaws.{one_place, one_reading}
use Rattle.report_text.proofs.RunLaws.{report_fits}
use Rattle.report_text.proofs.UniqueLaws.{alone}
use Rattle.report_text.proofs.WholeLaws.{ends_badly, rest_within}
use Rattle.report_check.specs.declared.types.Recheck.{Recheck}
use Rattle.report_check.specs.declared.types.Recheck.TheVariants as verdicts
use Rattle.report_check.specs.declared.judging.Place.{Place}
use Rattle.report_check.specs.declared.judging.Judged.{Judged}
use Rattle.report_check.specs.declared.judging.Judged.TheVariants.{Good, Values, Clauses, Rows, Bad}
use Rattle.report_check.specs.Goodness.{IsGoodEntered, IsGoodSession, HasGoodGoals, IsFirstBadGoal, IsFirstBad, Spell, Rechecks}
use Rattle.report_check.specs.machine.Judging.{verdict_of}
use Rattle.report_check.proofs.LineLaws.{Runs, origin, IsNotBad, IsJudgedTo, is_read_to}
use Rattle.report_check.proofs.SessionLaws.{ReportGoes, report_goes}

-- ---- all lines are read

accepted : (judged : Judged) → IsNotBad judged → verdict_of judged ≡ verdicts.Accepted
accepted Good is = refl
accepted (Values values) is = refl
accepted (Clauses plan k) is = refl
accepted (Rows plan k rows) is = refl
accepted (Bad first) is = absurd is

said : (bytes : List ℕ) (r : Report) (judged : Judged) → Spell bytes r → ReportGoes r judged → Rechecks bytes (verdict_of judged)
said bytes r judged spell (inl s) = subst (Rechecks bytes) (sym (accepted judged s.1)) (r, spell, s.0)
said bytes r judged spell (inr s) = subst (λ j. Rechecks bytes (verdict_of j)) (sym s.3) (r, spell, s.2)

whole : (bytes : List ℕ) (r : Reading) (goal : Option Goal) (place : Place) (judged : Judged) → IsJudgedTo bytes [] r goal place judged → r.expect ≡ Over
    → Rechecks bytes (verdict_of judged)
whole bytes r goal place judged j over =
    let l = report_of_lines j.lines (record { are = j.are; over = ap (λ (s : Reading). s.expect) j.to ∙ over }) in
    let spell : Spell bytes l.report = record { is = l.within; spelled = j.split ∙ append-nil (report_lines_text j.lines) ∙ ap report_lines_text l.are } in
    said bytes l.report judged spell (report_goes l.report judged l.within (subst (λ ls. Runs None origin Good ls judged) l.are j.run))

pub ends_well : (bytes rest : List ℕ) (vars : List Bound) (p : Progress) (goal : Option Goal) (place : Place) (judged : Judged) → IsJudgedTo bytes rest (reading_of vars p) goal place judged
    → rest ≡ [] → p.due ≡ Nothing → Rechecks bytes (verdict_of judged)
ends_well bytes rest vars p goal place judged j none over =
    whole bytes (reading_of vars p) goal place judged (subst (λ rest. IsJudgedTo bytes rest (reading_of vars p) goal place judged) none j) (ap (expect_of vars) over)

-- ---- lines end

pub ends_ill : (bytes rest : List ℕ) (vars : List Bound) (p : Progress) (goal : Option Goal) (place : Place) (judged : Judged) → IsJudgedTo bytes rest (reading_of vars p) goal place judged
    → FindsNext (reading_of vars p) vars rest None → (rest ≡ [] → p.due ≡ Nothing → ⊥) → Rechecks bytes (verdicts.Bad (length bytes - length rest))
ends_ill bytes rest vars p goal place judged j none other =
    let w = ends_badly bytes rest vars p (is_read_to bytes rest (reading_of vars p) goal place judged j) none other in (w.1, w.0)

pub left_within : (bytes rest : List ℕ) (vars : List Bound) (p : Progress) (goal : Option Goal) (place : Place) (judged : Judged) → IsJudgedTo bytes rest (reading_of vars p) goal place judged
    → length rest ≤ length bytes
left_within bytes rest vars p goal place judged j = rest_within bytes rest vars p (is_read_to bytes rest (reading_of vars p) goal place judged j)

-- ---- one verdict

one_spelled : (bytes : List ℕ) (r s : Report) → Spell bytes r → Spell bytes s → r ≡ s
one_spelled bytes r s a b =
    one_report r s a.is b.is (one_reading alone (report_lines r) (report_lines s) (report_fits r a.is) (report_fits s b.is) (sym a.spelled ∙ b.spelled))

-- what holds of all items up to a place holds of each before it
at_place : {A : Type 0} → (P : A → Type 0) (xs : List A) (n m : ℕ) (x : A) → AllByRecursion P (take m xs) → slice_get xs n ≡ Some x → n < m → P x
at_place P [] n m x all e less = absurd (cc)
at_place P (y ∷ xs) n zero x all e less = absurd (omega arith)
at_place P (y ∷ xs) zero (suc m) x all e less = let same : y ≡ x = cc in subst P same all.0
at_place P (y ∷ xs) (suc n) (suc m) x all e less = at_place P xs n m x all.1 e (omega arith)

-- what holds of all items holds of the one at a place
at_any : {A : Type 0} → (P : A → Type 0) (xs : List A) (n : ℕ) (x : A) → AllByRecursion P xs → slice_get xs n ≡ Some x → P x
at_any P [] n x all e = absurd (cc)
at_any P (y ∷ xs) zero x all e = let same : y ≡ x = cc in subst P same all.0
at_any P (y ∷ xs) (suc n) x all e = at_any P xs n x all.1 e

bad_session : (session : SessionShown) (g : ℕ) → IsFirstBadGoal session.goals g → IsGoodSession session → ⊥
bad_session session g f good = f.bad (at_any IsGoodEntered session.goals g f.goal good f.there)

not_both : (r : Report) (s g : ℕ) → HasGoodGoals r → IsFirstBad r.sessions s g → ⊥
not_both r s g good f = bad_session f.session g f.goal (at_any IsGoodSession r.sessions s f.session good f.there)

-- neither of two first places is before the other
same_place : (n m : ℕ) → (n < m → ⊥) → (m < n → ⊥) → n ≡ m
same_place n m f g = by_order (cases_lt n m) (cases_lt m n)
  where
    by_order : (n < m) ⊎ (m ≤ n) → (m < n) ⊎ (n ≤ m) → n ≡ m
    by_order (inl less) b = absurd (f less)
    by_order (inr at_least) (inl less) = absurd (g less)
    by_order (inr at_least) (inr at_most) = omega arith

one_bad_goal : (goals : List Entered) (g h : ℕ) → IsFirstBadGoal goals g → IsFirstBadGoal goals h → g ≡ h
one_bad_goal goals g h a b = same_place g h
    (λ less. a.bad (at_place IsGoodEntered goals g h a.goal b.before a.there less))
    (λ less. b.bad (at_place IsGoodEntered goals h g b.goal a.before b.there less))

one_bad_session : (sessions : List SessionShown) (s t g h : ℕ) → IsFirstBad sessions s g → IsFirstBad sessions t h → s ≡ t
one_bad_session sessions s t g h a b = same_place s t
    (λ less. bad_session a.session g a.goal (at_place IsGoodSession sessions s t a.session b.before a.there less))
    (λ less. bad_session b.session h b.goal (at_place IsGoodSession sessions t s b.session a.before b.there less))

some_is : {A : Type 0} → (x y : A) → Some x ≡ Some y → x ≡ y
some_is x y e = cc

one_bad : (sessions : List SessionShown) (s t g h : ℕ) → IsFirstBad sessions s g → IsFirstBad sessions t h → verdicts.Rejected s g ≡ verdicts.Rejected t h
one_bad sessions s t g h a b =
    let st = one_bad_session sessions s t g h a b in
    let session : a.session ≡ b.session = some_is a.session b.session (sym a.there ∙ ap (slice_get sessions) st ∙ b.there) in
    let gh = one_bad_goal b.session.goals g h (subst (λ (session : SessionShown). IsFirstBadGoal session.goals g) session a.goal) b.goal in
    ap (λ n. verdicts.Rejected n g) st ∙ ap (verdicts.Rejected t) gh

pub one_verdict : (bytes : List ℕ) (v w : Recheck) → Rechecks bytes v → Rechecks bytes w → v ≡ w
one_verdict bytes verdicts.Accepted verdicts.Accepted a b = refl
one_verdict bytes verdicts.Accepted (verdicts.Rejected s g) a b =
    absurd (not_both b.0 s g (subst HasGoodGoals (one_spelled bytes a.0 b.0 a.1 b.1) a.2) b.2)
one_verdict bytes verdicts.Accepted (verdicts.Bad at) a b = absurd (b.0 a.0 a.1.is a.1.spelled)
one_verdict bytes (verdicts.Rejected s g) verdicts.Accepted a b =
    absurd (not_both a.0 s g (subst HasGoodGoals (one_spelled bytes b.0 a.0 b.1 a.1) b.2) a.2)
one_verdict bytes (verdicts.Rejected s g) (verdicts.Rejected t h) a b =
    one_bad b.0.sessions s t g h (subst (λ (r : Report). IsFirstBad r.sessions s g) (one_spelled bytes a.0 b.0 a.1 b.1) a.2) b.2
one_verdict bytes (verdicts.Rejected s g) (verdicts.Bad at) a b = absurd (b.0 a.0 a.1.is a.1.spelled)
one_verdict bytes (verdicts.Bad at) verdicts.Accepted a b = absurd (a.0 b.0 b.1.is b.1.spelled)
one_verdict bytes (verdicts.Bad at) (verdicts.Rejected t h) a b = absurd (a.0 b.0 b.1.is b.1.spelled)
one_verdict bytes (verdicts.Bad at) (verdicts.Bad other) a b = ap verdicts.Bad (one_place alone bytes at other a.1 b.1)
