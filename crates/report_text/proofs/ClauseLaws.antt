-- A clause's line is read as it is spelled.
use Rattle.std.proofs.Common.{◌≡◌, ◌≢◌, ℕ, ◌≤◌, Bool, true, false, cond, List, [], ◌∷◌, ◌++◌, length, take, drop, Option, Some, None, refl, sym, ap, subst, ◌∙◌, append_assoc, length-append, arith}
use Rattle.std.specs.Prelude.{codes, nat_le, ◌&&◌, ◌==◌}
use Rattle.std.specs.List.{AllByRecursion, list_all}
use Rattle.std.proofs.lemmas.Option.{some_pair_parts}
use Rattle.std.proofs.lemmas.Bool.{eqb-true, eq-eqb, leb-true, le-leb}
use Rattle.std.proofs.lemmas.List.{take-append-drop, length-take-le}
use Rattle.std.proofs.Math.Seq.{take-append_seam, drop-append_seam}
use Rattle.mm_num.specs.Option.{◌>>=◌}
use Rattle.mm_num.proofs.OptionLaws.{bind_some}
use Rattle.cert_text.specs.Reading.{after}
use Rattle.cert_text.proofs.WordLaws.{guard_some}
use Rattle.goal_serve.specs.declared.answers.Origin.{Origin}
use Rattle.goal_serve.specs.declared.answers.Origin.TheVariants.{New}
use Rattle.goal_serve.specs.Line.{Clause, line_text}
use Rattle.report_text.specs.declared.lines.Line.{Line}
use Rattle.report_text.specs.declared.lines.Line.TheVariants as lines
use Rattle.report_text.specs.Line.{ReportLine, Plain, Called, IsFree, IsKeyName, is_hex, IsReportLine, report_line}
use Rattle.report_text.specs.Fitting.{AtClause, Fits}
use Rattle.report_text.specs.machine.Reading.{number_after, key_name_at, clause_at}
use Rattle.report_text.specs.machine.Reads.{ReadsLine, Reads}
use Rattle.report_text.proofs.RunLaws.{reading}
use Rattle.report_text.proofs.ReadSteps.{bind_on, number_then, number_read, word_then, word_last, reads_by, found}

-- ---- names of keys

both : (a b : Bool) → (a && b) ≡ true → (a ≡ true) × (b ≡ true)
both true b e = (refl, e)
both false b e = absurd cc

all_hex : (bytes : List ℕ) → list_all is_hex bytes ≡ true → AllByRecursion (λ c. is_hex c ≡ true) bytes
all_hex [] e = tt
all_hex (c ∷ bytes) e = let p = both (is_hex c) (list_all is_hex bytes) e in (p.0, all_hex bytes p.1)

are_hex : (bytes : List ℕ) → AllByRecursion (λ c. is_hex c ≡ true) bytes → list_all is_hex bytes ≡ true
are_hex [] are = refl
are_hex (c ∷ bytes) are = ap (λ b. b && list_all is_hex bytes) are.0 ∙ are_hex bytes are.1

key_takes : (bytes name rest : List ℕ) → key_name_at bytes ≡ Some (name, rest) → (bytes ≡ name ++ rest) × IsKeyName name
key_takes bytes name rest e =
    let g = guard_some (nat_le 16 (length bytes) && list_all is_hex (take 16 bytes)) (Some (take 16 bytes, drop 16 bytes)) (name, rest) e in
    let t = both (nat_le 16 (length bytes)) (list_all is_hex (take 16 bytes)) g.0 in
    let p = some_pair_parts (take 16 bytes) name (drop 16 bytes) rest g.1 in
    let long : 16 ≤ length bytes = leb-true 16 (length bytes) t.0 in
    let sixteen : length (take 16 bytes) ≡ 16 = length-take-le 16 bytes long in
    let text : bytes ≡ name ++ rest = sym (take-append-drop 16 bytes) ∙ ap (λ n. n ++ drop 16 bytes) p.0 ∙ ap (λ r. name ++ r) p.1 in
    (text, record { sixteen = sym (ap length p.0) ∙ sixteen; digits = subst (AllByRecursion (λ c. is_hex c ≡ true)) p.0 (all_hex (take 16 bytes) t.1) })

key_again : (name rest : List ℕ) → IsKeyName name → key_name_at (name ++ rest) ≡ Some (name, rest)
key_again name rest is =
    let front : take 16 (name ++ rest) ≡ name = ap (λ k. take k (name ++ rest)) (sym is.sixteen) ∙ take-append_seam name rest in
    let back : drop 16 (name ++ rest) ≡ rest = ap (λ k. drop k (name ++ rest)) (sym is.sixteen) ∙ drop-append_seam name rest in
    let long : nat_le 16 (length (name ++ rest)) ≡ true = le-leb 16 (length (name ++ rest)) (omega (arith, length-append name rest, is.sixteen)) in
    let hex : list_all is_hex (take 16 (name ++ rest)) ≡ true = ap (list_all is_hex) front ∙ are_hex name is.digits in
    by_tests (nat_le 16 (length (name ++ rest))) (list_all is_hex (take 16 (name ++ rest))) (take 16 (name ++ rest)) (drop 16 (name ++ rest)) long hex front back
  where
    by_tests : (a b : Bool) (x y : List ℕ) → a ≡ true → b ≡ true → x ≡ name → y ≡ rest
        → cond {A = Option (List ℕ × List ℕ)} (a && b) (Some (x, y)) None ≡ Some (name, rest)
    by_tests a b x y i j e f =
        ap (λ a. cond {A = Option (List ℕ × List ℕ)} (a && b) (Some (x, y)) None) i ∙ ap (λ b. cond {A = Option (List ℕ × List ℕ)} b (Some (x, y)) None) j ∙ ap
        (λ x. Some (x, y)) e ∙ ap (λ y. Some (name, y)) f

-- ---- lines

abbrev clause_end : ℕ → ℕ → List ℕ → List ℕ → Option (Line × List ℕ)
clause_end k n name rest = cond (n == k) (Some (lines.Clause n name New, rest)) None

abbrev clause_name : ℕ → ℕ → List ℕ → Option (Line × List ℕ)
clause_name k n word = key_name_at word >>= λ name. after (codes " new\n") name.1 >>= λ rest. clause_end k n name.0 rest

clause_takes : (k : ℕ) (bytes : List ℕ) (l : Line) (rest : List ℕ) → clause_at k bytes ≡ Some (l, rest)
    → (name : List ℕ) × IsFree k × IsKeyName name × (l ≡ lines.Clause k name New) × (bytes ≡ line_text (Clause k name New) ++ rest)
unfolding clause_at
clause_takes k bytes l rest e =
    let n = bind_some (number_after (codes "clause ") bytes) (λ n. after (codes " ") n.1 >>= λ word. clause_name k n.0 word) (l, rest) e in
    let s = bind_some (after (codes " ") n.0.1) (λ word. clause_name k n.0.0 word) (l, rest) n.2 in
    let m = bind_some (key_name_at s.0) (λ name. after (codes " new\n") name.1 >>= λ rest. clause_end k n.0.0 name.0 rest) (l, rest) s.2 in
    let w = bind_some (after (codes " new\n") m.0.1) (λ rest. clause_end k n.0.0 m.0.0 rest) (l, rest) m.2 in
    let g = guard_some (n.0.0 == k) (Some (lines.Clause n.0.0 m.0.0 New, w.0)) (l, rest) w.2 in
    let same : n.0.0 ≡ k = eqb-true n.0.0 k g.0 in
    let p = some_pair_parts (lines.Clause n.0.0 m.0.0 New) l w.0 rest g.1 in
    let t = key_takes s.0 m.0.0 m.0.1 m.1 in
    let last : m.0.1 ≡ codes " new\n" ++ rest = word_last (codes " new\n") m.0.1 w.0 rest w.1 p.1 in
    let whole : s.0 ≡ (m.0.0 ++ codes " new\n") ++ rest = t.0 ∙ ap (λ b. m.0.0 ++ b) last ∙ sym (append_assoc m.0.0 (codes " new\n") rest) in
    let u =
    number_then (codes "clause ") (codes " " ++ (m.0.0 ++ codes " new\n")) bytes rest n.0.0 n.0.1 n.1
    (word_then (codes " ") (m.0.0 ++ codes " new\n") n.0.1 rest s.0 s.1 whole) in
    (m.0.0, subst IsFree same u.1, t.1, sym p.0 ∙ ap (λ n. lines.Clause n m.0.0 New) same, u.0 ∙ ap (λ n. line_text (Clause n m.0.0 New) ++ rest) same)

clause_again : (k : ℕ) (name rest : List ℕ) → IsFree k → IsKeyName name → clause_at k (line_text (Clause k name New) ++ rest) ≡ Some (lines.Clause k name New, rest)
unfolding clause_at
clause_again k name rest free is =
    bind_on (number_after (codes "clause ") (line_text (Clause k name New) ++ rest)) (λ n. after (codes " ") n.1 >>= λ word. clause_name k n.0 word)
    (k, (codes " " ++ (name ++ codes " new\n")) ++ rest)
    (Some (lines.Clause k name New, rest)) (number_read (codes "clause ") k (codes " " ++ (name ++ codes " new\n")) rest free refl)
    (bind_on (key_name_at ((name ++ codes " new\n") ++ rest)) (λ name. after (codes " new\n") name.1 >>= λ rest. clause_end k k name.0 rest)
    (name, codes " new\n" ++ rest) (Some (lines.Clause k name New, rest))
    (ap key_name_at (append_assoc name (codes " new\n") rest) ∙ key_again name (codes " new\n" ++ rest) is)
    (ap (λ b. cond b (Some (lines.Clause k name New, rest)) None) (eq-eqb k k refl)))

abbrev ClauseOf : ℕ → ℕ → ℕ → ℕ → ℕ → ReportLine → Type 0
ClauseOf s g h k others = Fits (reading s g h (AtClause k others))

pub clause_reads : (s g h k others : ℕ) (bytes : List ℕ) → Reads (ClauseOf s g h k others) bytes (clause_at k bytes)
clause_reads s g h k others bytes = reads_by (ClauseOf s g h k others) bytes (clause_at k bytes) takes again
  where
    takes : (l : Line) (rest : List ℕ) → clause_at k bytes ≡ Some (l, rest) → ReadsLine (ClauseOf s g h k others) bytes l rest
    takes l rest e = let t = clause_takes k bytes l rest e in record { line = Plain (Clause k t.0 New); is_read = t.3; within = (t.1, t.2); is = refl; split = t.4 }

    here : (n : ℕ) (name : List ℕ) (origin : Origin) (rest : List ℕ) → n ≡ k → IsFree n → IsKeyName name → bytes ≡ line_text (Clause n name origin) ++ rest
        → clause_at k bytes ≢ None
    here n name New rest same free is e =
        found (clause_at k) bytes (line_text (Clause k name New) ++ rest) (lines.Clause k name New, rest) (e ∙ ap (λ n. line_text (Clause n name New) ++ rest) same)
        (clause_again k name rest (subst IsFree same free) is)

    again : (line : ReportLine) (rest : List ℕ) → IsReportLine line → ClauseOf s g h k others line → bytes ≡ report_line line ++ rest → clause_at k bytes ≢ None
    again (Plain (Clause n name origin)) rest within is e = here n name origin rest is within.0 within.1 e
    again (Plain l) rest within is e = absurd is
    again (Called c) rest within is e = absurd is
