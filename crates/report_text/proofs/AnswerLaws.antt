-- What is said of a goal is read as it is spelled.
use Rattle.std.proofs.Common.{◌≡◌, ◌≢◌, ℕ, false, List, ◌++◌, Option, Some, None, inl, inr, ◌⊎◌, refl, sym, ap, subst, ◌∙◌, append_assoc}
use Rattle.std.specs.Prelude.{codes, decimal}
use Rattle.std.proofs.lemmas.Option.{some_pair_parts}
use Rattle.mm_num.specs.Option.{◌>>=◌}
use Rattle.mm_num.proofs.OptionLaws.{bind_some}
use Rattle.cert_text.specs.Reading.{after}
use Rattle.cert_text.proofs.NumberLaws.{begins_digit}
use Rattle.clause_engine.specs.declared.outcome.Why.{Why}
use Rattle.clause_engine.specs.declared.outcome.Why.TheVariants.{Grey, Over}
use Rattle.goal_ast.specs.declared.goal.Bound.{Bound}
use Rattle.goal_serve.specs.declared.answers.Kind.{Kind}
use Rattle.goal_serve.specs.declared.answers.Kind.TheVariants.{Weight, Spread, Degree, Splits}
use Rattle.goal_serve.specs.Line.{Proved, Refuted, Unsettled, Oversize, IllSorted, why_text, kind_text, line_text}
use Rattle.report_text.specs.declared.lines.Line.{Line}
use Rattle.report_text.specs.declared.lines.Line.TheVariants as lines
use Rattle.report_text.specs.Line.{ReportLine, Plain, Called, IsFree, IsKind, IsReportLine, report_line}
use Rattle.report_text.specs.Fitting.{AtAnswer, AtPlace, Fits}
use Rattle.report_text.specs.machine.Reading.{number_after, first_of, word_at, proved_at, refuted_at, why_at, unsettled_at, splits_at, kind_at, oversize_at, answer_at, place_at}
use Rattle.report_text.specs.machine.Reads.{ReadsLine, Reads}
use Rattle.report_text.proofs.AfterLaws.{number_after_takes, number_after_again}
use Rattle.report_text.proofs.RunLaws.{reading}
use Rattle.report_text.proofs.ReadSteps.{bind_on, number_then, number_read, word_then, word_read, word_last, word_at_takes, first_some, first_none, reads_by, found}

-- ---- a number alone

abbrev numbered_at : List ℕ → (ℕ → Line) → List ℕ → Option (Line × List ℕ)
numbered_at word make bytes = number_after word bytes >>= λ n. after (codes "\n") n.1 >>= λ rest. Some (make n.0, rest)

numbered_takes : (word : List ℕ) (make : ℕ → Line) (bytes : List ℕ) (l : Line) (rest : List ℕ) → numbered_at word make bytes ≡ Some (l, rest)
    → (n : ℕ) × IsFree n × (l ≡ make n) × (bytes ≡ (word ++ (decimal n ++ codes "\n")) ++ rest)
numbered_takes word make bytes l rest e =
    let n = bind_some (number_after word bytes) (λ n. after (codes "\n") n.1 >>= λ rest. Some (make n.0, rest)) (l, rest) e in
    let w = bind_some (after (codes "\n") n.0.1) (λ rest. Some (make n.0.0, rest)) (l, rest) n.2 in
    let p = some_pair_parts (make n.0.0) l w.0 rest w.2 in
    let t = number_then word (codes "\n") bytes rest n.0.0 n.0.1 n.1 (word_last (codes "\n") n.0.1 w.0 rest w.1 p.1) in
    (n.0.0, t.1, sym p.0, t.0)

numbered_again : (word : List ℕ) (make : ℕ → Line) (n : ℕ) (rest : List ℕ) → IsFree n
    → numbered_at word make ((word ++ (decimal n ++ codes "\n")) ++ rest) ≡ Some (make n, rest)
numbered_again word make n rest small =
    bind_on (number_after word ((word ++ (decimal n ++ codes "\n")) ++ rest)) (λ n. after (codes "\n") n.1 >>= λ rest. Some (make n.0, rest)) (n, codes "\n" ++ rest)
    (Some (make n, rest))
    (number_read word n (codes "\n") rest small refl) refl

-- ---- why

why_takes : (bytes : List ℕ) (w : Why) (rest : List ℕ) → why_at bytes ≡ Some (w, rest) → bytes ≡ why_text w ++ rest
why_takes bytes w rest e = by_first (first_some (word_at (codes "grey") Grey bytes) (word_at (codes "over") Over bytes) (w, rest) e)
  where
    by_first : (word_at (codes "grey") Grey bytes ≡ Some (w, rest)) ⊎ (word_at (codes "over") Over bytes ≡ Some (w, rest)) → bytes ≡ why_text w ++ rest
    by_first (inl f) = let p = word_at_takes (codes "grey") Grey bytes w rest f in subst (λ w. bytes ≡ why_text w ++ rest) (sym p.0) p.1
    by_first (inr f) = let p = word_at_takes (codes "over") Over bytes w rest f in subst (λ w. bytes ≡ why_text w ++ rest) (sym p.0) p.1

why_again : (w : Why) (rest : List ℕ) → why_at (why_text w ++ rest) ≡ Some (w, rest)
why_again Grey rest = refl
why_again Over rest = refl

unsettled_takes : (bytes : List ℕ) (l : Line) (rest : List ℕ) → unsettled_at bytes ≡ Some (l, rest)
    → (n : ℕ) × (why : Why) × IsFree n × (l ≡ lines.Unsettled n why) × (bytes ≡ line_text (Unsettled n why) ++ rest)
unsettled_takes bytes l rest e =
    let n =
    bind_some (number_after (codes "unsettled ") bytes)
    (λ n. after (codes " ") n.1 >>= λ word. why_at word >>= λ why. after (codes "\n") why.1 >>= λ rest. Some (lines.Unsettled n.0 why.0, rest)) (l, rest) e in
    let s =
    bind_some (after (codes " ") n.0.1) (λ word. why_at word >>= λ why. after (codes "\n") why.1 >>= λ rest. Some (lines.Unsettled n.0.0 why.0, rest))
    (l, rest) n.2 in
    let y = bind_some (why_at s.0) (λ why. after (codes "\n") why.1 >>= λ rest. Some (lines.Unsettled n.0.0 why.0, rest)) (l, rest) s.2 in
    let w = bind_some (after (codes "\n") y.0.1) (λ rest. Some (lines.Unsettled n.0.0 y.0.0, rest)) (l, rest) y.2 in
    let p = some_pair_parts (lines.Unsettled n.0.0 y.0.0) l w.0 rest w.2 in
    let last : y.0.1 ≡ codes "\n" ++ rest = word_last (codes "\n") y.0.1 w.0 rest w.1 p.1 in
    let why : s.0 ≡ (why_text y.0.0 ++ codes "\n") ++ rest =
    why_takes s.0 y.0.0 y.0.1 y.1 ∙ ap (λ b. why_text y.0.0 ++ b) last ∙ sym (append_assoc (why_text y.0.0) (codes "\n") rest) in
    let t =
    number_then (codes "unsettled ") (codes " " ++ (why_text y.0.0 ++ codes "\n")) bytes rest n.0.0 n.0.1 n.1
    (word_then (codes " ") (why_text y.0.0 ++ codes "\n") n.0.1 rest s.0 s.1 why) in
    (n.0.0, y.0.0, t.1, sym p.0, t.0)

unsettled_again : (n : ℕ) (why : Why) (rest : List ℕ) → IsFree n → unsettled_at (line_text (Unsettled n why) ++ rest) ≡ Some (lines.Unsettled n why, rest)
unsettled_again n why rest small =
    bind_on (number_after (codes "unsettled ") (line_text (Unsettled n why) ++ rest))
    (λ n. after (codes " ") n.1 >>= λ word. why_at word >>= λ why. after (codes "\n") why.1 >>= λ rest. Some (lines.Unsettled n.0 why.0, rest))
    (n, (codes " " ++ (why_text why ++ codes "\n")) ++ rest) (Some (lines.Unsettled n why, rest))
    (number_read (codes "unsettled ") n (codes " " ++ (why_text why ++ codes "\n")) rest small refl)
    (bind_on (why_at ((why_text why ++ codes "\n") ++ rest)) (λ why. after (codes "\n") why.1 >>= λ rest. Some (lines.Unsettled n why.0, rest)) (why, codes "\n" ++ rest)
    (Some (lines.Unsettled n why, rest))
    (ap why_at (append_assoc (why_text why) (codes "\n") rest) ∙ why_again why (codes "\n" ++ rest)) refl)

-- ---- limits

splits_takes : (bytes : List ℕ) (k : Kind) (rest : List ℕ) → splits_at bytes ≡ Some (k, rest) → IsKind k × (bytes ≡ kind_text k ++ rest)
splits_takes bytes k rest e =
    let n = bind_some (number_after (codes "splits ") bytes) (λ n. Some (Splits n.0, n.1)) (k, rest) e in
    let p = some_pair_parts (Splits n.0.0) k n.0.1 rest n.2 in
    let t = number_after_takes (codes "splits ") bytes n.0.0 n.0.1 n.1 in
    let text : bytes ≡ kind_text (Splits n.0.0) ++ rest = t.0 ∙ ap (λ b. codes "splits " ++ (decimal n.0.0 ++ b)) p.1 in
    subst (λ k. IsKind k × (bytes ≡ kind_text k ++ rest)) p.0 (t.1, text)

kind_takes : (bytes : List ℕ) (k : Kind) (rest : List ℕ) → kind_at bytes ≡ Some (k, rest) → IsKind k × (bytes ≡ kind_text k ++ rest)
kind_takes bytes k rest e =
    by_first
    (first_some (word_at (codes "weight") Weight bytes)
    (first_of (word_at (codes "spread") Spread bytes) (first_of (word_at (codes "degree") Degree bytes) (splits_at bytes))) (k, rest) e)
  where
    word : (text : List ℕ) (one : Kind) → IsKind one → kind_text one ≡ text → word_at text one bytes ≡ Some (k, rest) → IsKind k × (bytes ≡ kind_text k ++ rest)
    word text one is same f =
        let p = word_at_takes text one bytes k rest f in
        subst (λ k. IsKind k × (bytes ≡ kind_text k ++ rest)) (sym p.0) (is, p.1 ∙ ap (λ t. t ++ rest) (sym same))

    by_third : (word_at (codes "degree") Degree bytes ≡ Some (k, rest)) ⊎ (splits_at bytes ≡ Some (k, rest)) → IsKind k × (bytes ≡ kind_text k ++ rest)
    by_third (inl f) = word (codes "degree") Degree tt refl f
    by_third (inr f) = splits_takes bytes k rest f

    by_second : (word_at (codes "spread") Spread bytes ≡ Some (k, rest)) ⊎ (first_of (word_at (codes "degree") Degree bytes) (splits_at bytes) ≡ Some (k, rest))
        → IsKind k × (bytes ≡ kind_text k ++ rest)
    by_second (inl f) = word (codes "spread") Spread tt refl f
    by_second (inr f) = by_third (first_some (word_at (codes "degree") Degree bytes) (splits_at bytes) (k, rest) f)

    by_first : (word_at (codes "weight") Weight bytes ≡ Some (k, rest)) ⊎
        (first_of (word_at (codes "spread") Spread bytes) (first_of (word_at (codes "degree") Degree bytes) (splits_at bytes)) ≡ Some (k, rest))
        → IsKind k × (bytes ≡ kind_text k ++ rest)
    by_first (inl f) = word (codes "weight") Weight tt refl f
    by_first (inr f) = by_second (first_some (word_at (codes "spread") Spread bytes) (first_of (word_at (codes "degree") Degree bytes) (splits_at bytes)) (k, rest) f)

kind_again : (k : Kind) (rest : List ℕ) → IsKind k → begins_digit rest ≡ false → kind_at (kind_text k ++ rest) ≡ Some (k, rest)
kind_again Weight rest is stop = refl
kind_again Spread rest is stop = refl
kind_again Degree rest is stop = refl
kind_again (Splits n) rest is stop =
    bind_on (number_after (codes "splits ") (codes "splits " ++ (decimal n ++ rest))) (λ n. Some (Splits n.0, n.1)) (n, rest) (Some (Splits n, rest))
    (number_after_again (codes "splits ") n rest is stop) refl

oversize_takes : (bytes : List ℕ) (l : Line) (rest : List ℕ) → oversize_at bytes ≡ Some (l, rest)
    → (k : Kind) × IsKind k × (l ≡ lines.Oversize k) × (bytes ≡ line_text (Oversize k) ++ rest)
oversize_takes bytes l rest e =
    let s = bind_some (after (codes "oversize ") bytes) (λ word. kind_at word >>= λ k. after (codes "\n") k.1 >>= λ rest. Some (lines.Oversize k.0, rest)) (l, rest) e in
    let k = bind_some (kind_at s.0) (λ k. after (codes "\n") k.1 >>= λ rest. Some (lines.Oversize k.0, rest)) (l, rest) s.2 in
    let w = bind_some (after (codes "\n") k.0.1) (λ rest. Some (lines.Oversize k.0.0, rest)) (l, rest) k.2 in
    let p = some_pair_parts (lines.Oversize k.0.0) l w.0 rest w.2 in
    let last : k.0.1 ≡ codes "\n" ++ rest = word_last (codes "\n") k.0.1 w.0 rest w.1 p.1 in
    let t = kind_takes s.0 k.0.0 k.0.1 k.1 in
    let kind : s.0 ≡ (kind_text k.0.0 ++ codes "\n") ++ rest = t.1 ∙ ap (λ b. kind_text k.0.0 ++ b) last ∙ sym (append_assoc (kind_text k.0.0) (codes "\n") rest) in
    (k.0.0, t.0, sym p.0, word_then (codes "oversize ") (kind_text k.0.0 ++ codes "\n") bytes rest s.0 s.1 kind)

oversize_again : (k : Kind) (rest : List ℕ) → IsKind k → oversize_at (line_text (Oversize k) ++ rest) ≡ Some (lines.Oversize k, rest)
oversize_again k rest is =
    bind_on (after (codes "oversize ") (line_text (Oversize k) ++ rest))
    (λ word. kind_at word >>= λ k. after (codes "\n") k.1 >>= λ rest. Some (lines.Oversize k.0, rest)) ((kind_text k ++ codes "\n") ++ rest)
    (Some (lines.Oversize k, rest)) (word_read (codes "oversize ") (kind_text k ++ codes "\n") rest)
    (bind_on (kind_at ((kind_text k ++ codes "\n") ++ rest)) (λ k. after (codes "\n") k.1 >>= λ rest. Some (lines.Oversize k.0, rest)) (k, codes "\n" ++ rest)
    (Some (lines.Oversize k, rest))
    (ap kind_at (append_assoc (kind_text k) (codes "\n") rest) ∙ kind_again k (codes "\n" ++ rest) is refl) refl)

-- ---- all of them

abbrev AnswerOf : ℕ → ℕ → ℕ → List Bound → ReportLine → Type 0
AnswerOf s g h vars = Fits (reading s g h (AtAnswer vars))

pub answer_reads : (s g h : ℕ) (vars : List Bound) (bytes : List ℕ) → Reads (AnswerOf s g h vars) bytes (answer_at bytes)
unfolding answer_at
answer_reads s g h vars bytes = reads_by (AnswerOf s g h vars) bytes (answer_at bytes) takes again
  where
    unsettled_or : List ℕ → Option (Line × List ℕ)
    unsettled_or bytes = first_of (unsettled_at bytes) (oversize_at bytes)

    by_third : (l : Line) (rest : List ℕ) → (unsettled_at bytes ≡ Some (l, rest)) ⊎ (oversize_at bytes ≡ Some (l, rest)) → ReadsLine (AnswerOf s g h vars) bytes l rest
    by_third l rest (inl e) = let t = unsettled_takes bytes l rest e in record { line = Plain (Unsettled t.0 t.1); is_read = t.3; within = t.2; is = tt; split = t.4 }
    by_third l rest (inr e) = let t = oversize_takes bytes l rest e in record { line = Plain (Oversize t.0); is_read = t.2; within = t.1; is = tt; split = t.3 }

    by_second : (l : Line) (rest : List ℕ) → (refuted_at bytes ≡ Some (l, rest)) ⊎ (first_of (unsettled_at bytes) (oversize_at bytes) ≡ Some (l, rest))
        → ReadsLine (AnswerOf s g h vars) bytes l rest
    by_second l rest (inl e) =
        let t = word_at_takes (codes "refuted\n") lines.Refuted bytes l rest e in record { line = Plain Refuted; is_read = t.0; within = tt; is = tt; split = t.1 }
    by_second l rest (inr e) = by_third l rest (first_some (unsettled_at bytes) (oversize_at bytes) (l, rest) e)

    by_first : (l : Line) (rest : List ℕ)
        → (proved_at bytes ≡ Some (l, rest)) ⊎ (first_of (refuted_at bytes) (first_of (unsettled_at bytes) (oversize_at bytes)) ≡ Some (l, rest))
        → ReadsLine (AnswerOf s g h vars) bytes l rest
    by_first l rest (inl e) =
        let t = numbered_takes (codes "proved ") lines.Proved bytes l rest e in record { line = Plain (Proved t.0); is_read = t.2; within = t.1; is = tt; split = t.3 }
    by_first l rest (inr e) = by_second l rest (first_some (refuted_at bytes) (first_of (unsettled_at bytes) (oversize_at bytes)) (l, rest) e)

    takes : (l : Line) (rest : List ℕ) → answer_at bytes ≡ Some (l, rest) → ReadsLine (AnswerOf s g h vars) bytes l rest
    takes l rest e = by_first l rest (first_some (proved_at bytes) (first_of (refuted_at bytes) (first_of (unsettled_at bytes) (oversize_at bytes))) (l, rest) e)

    again : (line : ReportLine) (rest : List ℕ) → IsReportLine line → AnswerOf s g h vars line → bytes ≡ report_line line ++ rest → answer_at bytes ≢ None
    again (Plain (Proved n)) rest within is e = λ none.
        found proved_at bytes (line_text (Proved n) ++ rest) (lines.Proved n, rest) e (numbered_again (codes "proved ") lines.Proved n rest within)
        (first_none (proved_at bytes) (first_of (refuted_at bytes) (unsettled_or bytes)) none).0
    again (Plain Refuted) rest within is e = λ none.
        found refuted_at bytes (codes "refuted\n" ++ rest) (lines.Refuted, rest) e refl
        (first_none (refuted_at bytes) (unsettled_or bytes) (first_none (proved_at bytes) (first_of (refuted_at bytes) (unsettled_or bytes)) none).1).0
    again (Plain (Unsettled n why)) rest within is e = λ none.
        found unsettled_at bytes (line_text (Unsettled n why) ++ rest) (lines.Unsettled n why, rest) e (unsettled_again n why rest within)
        (first_none (unsettled_at bytes) (oversize_at bytes)
        (first_none (refuted_at bytes) (unsettled_or bytes) (first_none (proved_at bytes) (first_of (refuted_at bytes) (unsettled_or bytes)) none).1).1).0
    again (Plain (Oversize k)) rest within is e = λ none.
        found oversize_at bytes (line_text (Oversize k) ++ rest) (lines.Oversize k, rest) e (oversize_again k rest within)
        (first_none (unsettled_at bytes) (oversize_at bytes)
        (first_none (refuted_at bytes) (unsettled_or bytes) (first_none (proved_at bytes) (first_of (refuted_at bytes) (unsettled_or bytes)) none).1).1).1
    again (Plain l) rest within is e = absurd is
    again (Called c) rest within is e = absurd is

pub place_reads : (s g h : ℕ) (bytes : List ℕ) → Reads (Fits (reading s g h AtPlace)) bytes (place_at bytes)
unfolding place_at
place_reads s g h bytes = reads_by (Fits (reading s g h AtPlace)) bytes (place_at bytes) takes again
  where
    takes : (l : Line) (rest : List ℕ) → place_at bytes ≡ Some (l, rest) → ReadsLine (Fits (reading s g h AtPlace)) bytes l rest
    takes l rest e = let t = numbered_takes (codes "ill-sorted ") lines.IllSorted bytes l rest e in
        record { line = Plain (IllSorted t.0); is_read = t.2; within = t.1; is = (t.0, refl); split = t.3 }

    here : (at : ℕ) (rest : List ℕ) → IsFree at → bytes ≡ line_text (IllSorted at) ++ rest → place_at bytes ≢ None
    here at rest free e =
        found place_at bytes (line_text (IllSorted at) ++ rest) (lines.IllSorted at, rest) e (numbered_again (codes "ill-sorted ") lines.IllSorted at rest free)

    again : (line : ReportLine) (rest : List ℕ) → IsReportLine line → Fits (reading s g h AtPlace) line → bytes ≡ report_line line ++ rest → place_at bytes ≢ None
    again (Plain l) rest within is e = here is.0 rest (subst (λ l. IsReportLine (Plain l)) is.1 within) (e ∙ ap (λ l. line_text l ++ rest) is.1)
    again (Called c) rest within is e = absurd is
