use Rattle.std.proofs.Common.{◌≡◌, ◌∙◌, List, [], ◌∷◌, true, Some, ap, refl}
use Rattle.std.specs.Prelude.{pos, negsuc}
use Rattle.cert_kit.specs.declared.row.PRow.{PRow}
use Rattle.cert_kit.specs.declared.cert.Psatz.TheVariants.{Hyp, Mul, Add, Const}
use Rattle.cert_kit.specs.declared.cert.Step.TheVariants.{Rat}
use Rattle.cert_kit.specs.Meaning.{Measure, meaning, measure, at_least_0}
use Rattle.cert_kit.specs.Acceptance.{with_row}
use Rattle.cert_kit.specs.Making.{Makes}
use Rattle.cert_check.specs.Example.{constant, two_rows, three_steps}
use Rattle.cert_check.proofs.example.three_steps_are_good.Goals as goal

abbrev third : PRow
third = at_least_0 (constant (negsuc 0) ∷ [])

abbrev fourth : PRow
fourth = at_least_0 (constant (negsuc 1) ∷ [])

abbrev fifth : PRow
fifth = at_least_0 (constant (negsuc 2) ∷ [])

abbrev three_rows : List PRow
three_rows = with_row two_rows third

abbrev four_rows : List PRow
four_rows = with_row three_rows fourth

pub returns : goal.returns
returns c =
    let k = c.steps_make_rows.ensures in
    let m = c.meanings.ensures in
    let w = c.measures.ensures in
    let sum : meaning (Add (Hyp 0) (Hyp 1)) two_rows ≡ Some third = m.add (Hyp 0) (Hyp 1) two_rows ∙ rw (m.hyp 0 two_rows, m.hyp 1 two_rows) refl in
    let small_sum : (measure (Add (Hyp 0) (Hyp 1)) two_rows).within ≡ true = ap (λ (z : Measure). z.within) (w.add (Hyp 0) (Hyp 1) two_rows) ∙ rw (w.hyp 0 two_rows, w.hyp 1 two_rows) refl in
    let twice : meaning (Mul (Const (pos 2)) (Hyp 2)) three_rows ≡ Some fourth = m.mul (Const (pos 2)) (Hyp 2) three_rows ∙ rw (m.constant (pos 2) three_rows, m.hyp 2 three_rows) refl in
    let small_twice : (measure (Mul (Const (pos 2)) (Hyp 2)) three_rows).within ≡ true = ap (λ (z : Measure). z.within) (w.mul (Const (pos 2)) (Hyp 2) three_rows) ∙ rw (w.constant (pos 2) three_rows, w.hyp 2 three_rows) refl in
    let both : meaning (Add (Hyp 3) (Hyp 2)) four_rows ≡ Some fifth = m.add (Hyp 3) (Hyp 2) four_rows ∙ rw (m.hyp 3 four_rows, m.hyp 2 four_rows) refl in
    let small_both : (measure (Add (Hyp 3) (Hyp 2)) four_rows).within ≡ true = ap (λ (z : Measure). z.within) (w.add (Hyp 3) (Hyp 2) four_rows) ∙ rw (w.hyp 3 four_rows, w.hyp 2 four_rows) refl in
    let two = k.both two_rows three_rows four_rows (Rat (Add (Hyp 0) (Hyp 1)) ∷ []) (Rat (Mul (Const (pos 2)) (Hyp 2)) ∷ []) (k.rat two_rows (Add (Hyp 0) (Hyp 1)) third sum small_sum) (k.rat three_rows (Mul (Const (pos 2)) (Hyp 2)) fourth twice small_twice) in
    let three : Makes two_rows three_steps (with_row four_rows fifth) = k.both two_rows four_rows (with_row four_rows fifth) (Rat (Add (Hyp 0) (Hyp 1)) ∷ Rat (Mul (Const (pos 2)) (Hyp 2)) ∷ []) (Rat (Add (Hyp 3) (Hyp 2)) ∷ []) two (k.rat four_rows (Add (Hyp 3) (Hyp 2)) fifth both small_both) in
    c.closes_are_good.ensures.done two_rows (with_row four_rows fifth) three_steps three refl
