-- A value is read as it is spelled.
use Rattle.std.proofs.Common.{◌≡◌, ◌≢◌, ℕ, zero, suc, ◌<◌, ◌^◌, ℤ, pos, negsuc, true, false, List, ◌∷◌, ◌++◌, Option, Some, None, inl, inr, ◌⊎◌, refl, sym, ap, subst, ◌∙◌, append_assoc, arith}
use Rattle.std.specs.Prelude.{codes, decimal}
use Rattle.std.specs.Fmt.{signed_decimal}
use Rattle.std.proofs.lemmas.Option.{some_pair_parts, none-some}
use Rattle.mm_num.specs.Option.{◌>>=◌}
use Rattle.mm_num.specs.Small.{IsSmall}
use Rattle.mm_num.proofs.OptionLaws.{bind_some, choice_some}
use Rattle.cert_text.specs.Reading.{after, positive_at, number_at, signed}
use Rattle.cert_text.proofs.WordLaws.{after_takes}
use Rattle.cert_text.proofs.NumberLaws.{small, begins_digit, positive_takes, positive_again, number_takes, number_again}
use Rattle.goal_ast.specs.declared.term.Sort.{Sort}
use Rattle.goal_ast.specs.declared.term.Sort.TheVariants as sorts
use Rattle.goal_ast.specs.declared.goal.Bound.{Bound}
use Rattle.goal_print.specs.Text.{value_text}
use Rattle.goal_serve.specs.Line.{Value, line_text}
use Rattle.report_text.specs.declared.lines.Line.{Line}
use Rattle.report_text.specs.declared.lines.Line.TheVariants as lines
use Rattle.report_text.specs.Line.{ReportLine, Plain, Called, IsValue, IsReportLine, report_line}
use Rattle.report_text.specs.Fitting.{AtValue, Fits}
use Rattle.report_text.specs.machine.Reading.{word_at, minus_at, plus_at, small_at, truth_at, sorted_value_at, value_at}
use Rattle.report_text.specs.machine.Reads.{ReadsLine, Reads}
use Rattle.report_text.proofs.RunLaws.{reading}
use Rattle.report_text.proofs.ReadSteps.{bind_on, word_then, word_read, word_last, word_at_takes, first_some, reads_by, found}

-- ---- small numbers

negative_takes : (n : ℕ) (bytes r : List ℕ) → 0 < n → n < 2 ^ 126 → bytes ≡ codes "-" ++ (decimal n ++ r)
    → (bytes ≡ signed_decimal (signed true n) ++ r) × IsSmall (signed true n)
negative_takes zero bytes r above below e = absurd (omega (arith, above))
negative_takes (suc n) bytes r above below e = (e, below)

small_takes : (bytes : List ℕ) (z : ℤ) (rest : List ℕ) → small_at bytes ≡ Some (z, rest) → (bytes ≡ signed_decimal z ++ rest) × IsSmall z
small_takes bytes z rest e =
    by_sign (choice_some (after (codes "-") bytes) minus_at (plus_at bytes) (z, rest) e)
  where
    by_sign : ((r : List ℕ) × (after (codes "-") bytes ≡ Some r) × (minus_at r ≡ Some (z, rest)))
        ⊎ ((after (codes "-") bytes ≡ None) × (plus_at bytes ≡ Some (z, rest))) → (bytes ≡ signed_decimal z ++ rest) × IsSmall z
    by_sign (inl p) =
        let n = bind_some (positive_at (2 ^ 126) p.0) (λ n. Some (signed true n.0, n.1)) (z, rest) p.2 in
        let q = some_pair_parts (signed true n.0.0) z n.0.1 rest n.2 in
        let t = positive_takes (2 ^ 126) p.0 n.0.0 n.0.1 small n.1 in
        let u =
        negative_takes n.0.0 bytes rest t.1 t.0.below
        (after_takes (codes "-") bytes p.0 p.1 ∙ ap (λ b. codes "-" ++ b) (t.0.text ∙ ap (λ b. decimal n.0.0 ++ b) q.1)) in
        subst (λ z. (bytes ≡ signed_decimal z ++ rest) × IsSmall z) q.0 u
    by_sign (inr p) =
        let n = bind_some (number_at (2 ^ 126) bytes) (λ n. Some (pos n.0, n.1)) (z, rest) p.1 in
        let q = some_pair_parts (pos n.0.0) z n.0.1 rest n.2 in
        let t = number_takes (2 ^ 126) bytes n.0.0 n.0.1 small n.1 in
        let u : bytes ≡ signed_decimal (pos n.0.0) ++ rest = t.text ∙ ap (λ b. decimal n.0.0 ++ b) q.1 in
        subst (λ z. (bytes ≡ signed_decimal z ++ rest) × IsSmall z) q.0 (u, t.below)

pub minus_none : (y : List ℕ) → number_at (2 ^ 126) (45 ∷ y) ≡ None
unfolding number_at positive_at
minus_none y = refl

-- no number begins with a minus
no_minus : (n : ℕ) (rest : List ℕ) → n < 2 ^ 126 → begins_digit rest ≡ false → after (codes "-") (decimal n ++ rest) ≡ None
no_minus n rest is stop = by_read (after (codes "-") (decimal n ++ rest)) refl
  where
    by_read : (o : Option (List ℕ)) → after (codes "-") (decimal n ++ rest) ≡ o → after (codes "-") (decimal n ++ rest) ≡ None
    by_read None e = e
    by_read (Some r) e =
        let text : decimal n ++ rest ≡ codes "-" ++ r = after_takes (codes "-") (decimal n ++ rest) r e in
        absurd (none-some (n, rest) (sym (minus_none r) ∙ sym (ap (number_at (2 ^ 126)) text) ∙ number_again (2 ^ 126) n rest small is stop))

small_again : (z : ℤ) (rest : List ℕ) → IsSmall z → begins_digit rest ≡ false → small_at (signed_decimal z ++ rest) ≡ Some (z, rest)
small_again (pos n) rest is stop =
    ap (λ (o : Option (List ℕ)). elim o [ Some rest ↦ minus_at rest | None ↦ plus_at (decimal n ++ rest) ]) (no_minus n rest is stop)
    ∙ bind_on (number_at (2 ^ 126) (decimal n ++ rest)) (λ n. Some (pos n.0, n.1)) (n, rest) (Some (pos n, rest)) (number_again (2 ^ 126) n rest small is stop) refl
small_again (negsuc n) rest is stop =
    bind_on (positive_at (2 ^ 126) (decimal (suc n) ++ rest)) (λ n. Some (signed true n.0, n.1)) (suc n, rest) (Some (negsuc n, rest))
    (positive_again (2 ^ 126) (suc n) rest small (omega arith) is stop) refl

-- ---- values of a sort

truth_takes : (bytes : List ℕ) (z : ℤ) (rest : List ℕ) → truth_at bytes ≡ Some (z, rest) → (bytes ≡ value_text sorts.Bool z ++ rest) × IsValue sorts.Bool z
truth_takes bytes z rest e = by_first (first_some (word_at (codes "true") (pos 1) bytes) (word_at (codes "false") (pos 0) bytes) (z, rest) e)
  where
    by_first : (word_at (codes "true") (pos 1) bytes ≡ Some (z, rest)) ⊎ (word_at (codes "false") (pos 0) bytes ≡ Some (z, rest))
        → (bytes ≡ value_text sorts.Bool z ++ rest) × IsValue sorts.Bool z
    by_first (inl f) =
        let p = word_at_takes (codes "true") (pos 1) bytes z rest f in subst (λ z. (bytes ≡ value_text sorts.Bool z ++ rest) × IsValue sorts.Bool z) (sym p.0)
        (p.1, inr refl)
    by_first (inr f) =
        let p = word_at_takes (codes "false") (pos 0) bytes z rest f in subst (λ z. (bytes ≡ value_text sorts.Bool z ++ rest) × IsValue sorts.Bool z) (sym p.0)
        (p.1, inl refl)

truth_again : (z : ℤ) (rest : List ℕ) → IsValue sorts.Bool z → truth_at (value_text sorts.Bool z ++ rest) ≡ Some (z, rest)
truth_again z rest (inl e) = subst (λ z. truth_at (value_text sorts.Bool z ++ rest) ≡ Some (z, rest)) (sym e) refl
truth_again z rest (inr e) = subst (λ z. truth_at (value_text sorts.Bool z ++ rest) ≡ Some (z, rest)) (sym e) refl

sorted_takes : (sort : Sort) (bytes : List ℕ) (z : ℤ) (rest : List ℕ) → sorted_value_at sort bytes ≡ Some (z, rest) → (bytes ≡ value_text sort z ++ rest) × IsValue sort z
sorted_takes sorts.Bool bytes z rest e = truth_takes bytes z rest e
sorted_takes sorts.Int bytes z rest e = small_takes bytes z rest e
sorted_takes sorts.Bin bytes z rest e = small_takes bytes z rest e
sorted_takes sorts.Nat bytes z rest e = small_takes bytes z rest e
sorted_takes sorts.Pos bytes z rest e = small_takes bytes z rest e

sorted_again : (sort : Sort) (z : ℤ) (rest : List ℕ) → IsValue sort z → begins_digit rest ≡ false → sorted_value_at sort (value_text sort z ++ rest) ≡ Some (z, rest)
sorted_again sorts.Bool z rest is stop = truth_again z rest is
sorted_again sorts.Int z rest is stop = small_again z rest is stop
sorted_again sorts.Bin z rest is stop = small_again z rest is stop
sorted_again sorts.Nat z rest is stop = small_again z rest is stop
sorted_again sorts.Pos z rest is stop = small_again z rest is stop

-- ---- lines

abbrev after_name : Bound → List ℕ → Option (Line × List ℕ)
after_name bound named = after (codes " := ") named >>= λ word. sorted_value_at bound.sort word >>= λ z. after (codes "\n") z.1 >>= λ rest. Some (lines.Value z.0, rest)

abbrev after_sign : Bound → List ℕ → Option (Line × List ℕ)
after_sign bound word = sorted_value_at bound.sort word >>= λ z. after (codes "\n") z.1 >>= λ rest. Some (lines.Value z.0, rest)

value_takes : (bound : Bound) (bytes : List ℕ) (l : Line) (rest : List ℕ) → value_at bound bytes ≡ Some (l, rest)
    → (z : ℤ) × IsValue bound.sort z × (l ≡ lines.Value z) × (bytes ≡ line_text (Value bound z) ++ rest)
unfolding value_at
value_takes bound bytes l rest e =
    let a = bind_some (after bound.name.bytes bytes) (after_name bound) (l, rest) e in
    let s = bind_some (after (codes " := ") a.0) (after_sign bound) (l, rest) a.2 in
    let z = bind_some (sorted_value_at bound.sort s.0) (λ z. after (codes "\n") z.1 >>= λ rest. Some (lines.Value z.0, rest)) (l, rest) s.2 in
    let w = bind_some (after (codes "\n") z.0.1) (λ rest. Some (lines.Value z.0.0, rest)) (l, rest) z.2 in
    let p = some_pair_parts (lines.Value z.0.0) l w.0 rest w.2 in
    let t = sorted_takes bound.sort s.0 z.0.0 z.0.1 z.1 in
    let text = value_text bound.sort z.0.0 in
    let last : z.0.1 ≡ codes "\n" ++ rest = word_last (codes "\n") z.0.1 w.0 rest w.1 p.1 in
    let whole : s.0 ≡ (text ++ codes "\n") ++ rest = t.0 ∙ ap (λ b. text ++ b) last ∙ sym (append_assoc text (codes "\n") rest) in (
      z.0.0,
      t.1,
      sym p.0,
      word_then bound.name.bytes (codes " := " ++ (text ++ codes "\n")) bytes rest a.0 a.1
          (word_then (codes " := ") (text ++ codes "\n") a.0 rest s.0 s.1 whole),
    )

value_again : (bound : Bound) (z : ℤ) (rest : List ℕ) → IsValue bound.sort z → value_at bound (line_text (Value bound z) ++ rest) ≡ Some (lines.Value z, rest)
unfolding value_at
value_again bound z rest is =
    let text = value_text bound.sort z in
    bind_on (after bound.name.bytes (line_text (Value bound z) ++ rest)) (after_name bound) ((codes " := " ++ (text ++ codes "\n")) ++ rest) (Some (lines.Value z, rest))
    (word_read bound.name.bytes (codes " := " ++ (text ++ codes "\n")) rest)
    (bind_on (sorted_value_at bound.sort ((text ++ codes "\n") ++ rest)) (λ z. after (codes "\n") z.1 >>= λ rest. Some (lines.Value z.0, rest)) (z, codes "\n" ++ rest)
    (Some (lines.Value z, rest))
    (ap (sorted_value_at bound.sort) (append_assoc text (codes "\n") rest) ∙ sorted_again bound.sort z (codes "\n" ++ rest) is refl) refl)

abbrev ValueOf : ℕ → ℕ → ℕ → Bound → List Bound → ReportLine → Type 0
ValueOf s g h bound others = Fits (reading s g h (AtValue bound others))

pub value_reads : (s g h : ℕ) (bound : Bound) (others : List Bound) (bytes : List ℕ) → Reads (ValueOf s g h bound others) bytes (value_at bound bytes)
value_reads s g h bound others bytes = reads_by (ValueOf s g h bound others) bytes (value_at bound bytes) takes again
  where
    takes : (l : Line) (rest : List ℕ) → value_at bound bytes ≡ Some (l, rest) → ReadsLine (ValueOf s g h bound others) bytes l rest
    takes l rest e = let t = value_takes bound bytes l rest e in record { line = Plain (Value bound t.0); is_read = t.2; within = t.1; is = refl; split = t.3 }

    here : (b : Bound) (z : ℤ) (rest : List ℕ) → b ≡ bound → IsValue b.sort z → bytes ≡ line_text (Value b z) ++ rest → value_at bound bytes ≢ None
    here b z rest same is e = found (value_at bound) bytes (line_text (Value bound z) ++ rest) (lines.Value z, rest) (e ∙ ap (λ b. line_text (Value b z) ++ rest) same)
        (value_again bound z rest (subst (λ b. IsValue b.sort z) same is))

    again : (line : ReportLine) (rest : List ℕ) → IsReportLine line → ValueOf s g h bound others line → bytes ≡ report_line line ++ rest → value_at bound bytes ≢ None
    again (Plain (Value b z)) rest within is e = here b z rest is within e
    again (Plain l) rest within is e = absurd is
    again (Called c) rest within is e = absurd is
