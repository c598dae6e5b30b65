-- Fractions that solve the forms of rows are values of the unknowns at which the rows hold.
use Rattle.std.specs.Prelude.{◌≡◌, ℕ, ℤ, pos, ◌+ℤ◌, ◌*ℤ◌, ◌≤ℤ◌, List, [], ◌∷◌, length, map, true, refl}
use Rattle.std.proofs.Common.{ap, sym, ◌∙◌, subst, arith}
use Rattle.std.proofs.lemmas.List.{length-map}
use Rattle.std.specs.List.{AllByRecursion}
use Rattle.std.specs.declared.cmp.Ordering.TheVariants.{Less}
use Rattle.mm_poly.specs.Mono.{mono_cmp}
use Rattle.mm_poly.specs.Poly.{linear_value, coeff_of, Fits}
use Rattle.mm_poly.proofs.OrderLaws.{mono_same}
use Rattle.cert_kit.specs.declared.row.Op.{Op}
use Rattle.cert_kit.specs.declared.row.Op.TheVariants.{Ge, Eq}
use Rattle.cert_kit.specs.declared.row.PRow.{PRow}
use Rattle.cert_kit.specs.Row.{Compares}
use Rattle.fm_elim.specs.Unknowns.{unknowns}
use Rattle.fm_elim.proofs.SolveLaws.{Has, Knows, known_rows}
use Rattle.fm_elim.proofs.NumberLaws.{Rise, rise_rows}
use Rattle.farkas_rows.specs.Combining.{HoldsAt}
use Rattle.farkas_rows.proofs.CombinedLaws.{AreFit}
use Rattle.simplex_core.specs.declared.row.LinRow.{LinRow}
use Rattle.simplex_core.specs.Rows.{unknowns as form_unknowns, row_fraction, IsSolved, IsPoint}
use Rattle.farkas_rows.specs.Fractions.{denominator, numerators}
use Rattle.relaxation.specs.Relaxing.{Mono, number_of, weights, is_equality, IsFormOf, AreFormsOf, IsRationalPoint}
use Rattle.relaxation.proofs.UnknownLaws.{IsUnknown, are_unknowns, no_constant}
use Rattle.relaxation.proofs.SumLaws.{weighed, weighed_agrees, value_over}
use Rattle.farkas_rows.proofs.FractionLaws.{length-numerators}
use Rattle.relaxation.proofs.FractionLaws.{paired, fraction_value}

first_number : (u : Mono) (us : List Mono) (z : ℤ) (zs : List ℤ) → number_of (u ∷ us) (z ∷ zs) u ≡ z
first_number u us z zs = rw (mono_same u) refl

later_numbers : (u : Mono) (us : List Mono) (z : ℤ) (zs : List ℤ) (ws : List Mono) → AllByRecursion (λ w. mono_cmp u w ≡ Less) ws
    → AllByRecursion (λ w. number_of (u ∷ us) (z ∷ zs) w ≡ number_of us zs w) ws
later_numbers u us z zs [] a = tt
later_numbers u us z zs (w ∷ ws) a = (rw a.0 refl, later_numbers u us z zs ws a.1)

weighed_numbers : (f : Mono → ℤ) (us : List Mono) (zs : List ℤ) → Rise us → length us ≡ length zs → weighed f (number_of us zs) us ≡ paired (map f us) zs
weighed_numbers f [] zs r e = refl
weighed_numbers f (u ∷ us) [] r e = absurd (omega (arith, e))
weighed_numbers f (u ∷ us) (z ∷ zs) r e =
    ap (λ y. f u *ℤ y +ℤ weighed f (number_of (u ∷ us) (z ∷ zs)) us) (first_number u us z zs)
    ∙ ap (λ y. f u *ℤ z +ℤ y) (weighed_agrees f (number_of (u ∷ us) (z ∷ zs)) (number_of us zs) us (later_numbers u us z zs us r.0) ∙ weighed_numbers f us zs r.1 (omega (arith, e)))

unknown_weights : (us : List Mono) (xs : List (ℤ × ℤ)) (ws : List Mono) → AllByRecursion IsUnknown ws → AllByRecursion (λ w. weights us xs w ≡ number_of us (numerators xs) w) ws
unknown_weights us xs [] a = tt
unknown_weights us xs (w ∷ ws) a = (rw a.0 refl, unknown_weights us xs ws a.1)

-- a row's value with the weights of fractions is its form's numerator
row_value : (us : List Mono) (xs : List (ℤ × ℤ)) (r : PRow) (l : LinRow) → Rise us → AllByRecursion IsUnknown us → Fits r.poly → Knows us r.poly → IsFormOf us r l → length xs ≡ length us
    → linear_value (weights us xs) r.poly ≡ (row_fraction l.coeffs.items l.constant xs).0
row_value us xs r l h a p k f e =
    let same : length us ≡ length (numerators xs) = sym (length-numerators xs ∙ e) in
    let long : length l.coeffs.items ≡ length xs = ap length f.coeffs ∙ length-map us (coeff_of r.poly) ∙ sym e in
    value_over (weights us xs) us r.poly h (no_constant us a) p.order k
    ∙ ap (λ y. y +ℤ coeff_of r.poly [] *ℤ denominator xs)
    (weighed_agrees (coeff_of r.poly) (weights us xs) (number_of us (numerators xs)) us (unknown_weights us xs us a)
    ∙ weighed_numbers (coeff_of r.poly) us (numerators xs) h same
    ∙ ap (λ cs. paired cs (numerators xs)) (sym f.coeffs))
    ∙ ap (λ y. paired l.coeffs.items (numerators xs) +ℤ y *ℤ denominator xs) (sym f.constant)
    ∙ sym ((fraction_value l.coeffs.items l.constant xs long).0)

compares : (o : Op) (v : ℤ) → pos 0 ≤ℤ v → (is_equality o ≡ true → v ≡ pos 0) → Compares o v
compares Ge v h e = h
compares Eq v h e = e refl

row_holds : (us : List Mono) (xs : List (ℤ × ℤ)) (r : PRow) (l : LinRow) → Rise us → AllByRecursion IsUnknown us → Fits r.poly → Knows us r.poly → IsFormOf us r l → length xs ≡ length us
    → IsSolved xs l → HoldsAt (weights us xs) r
row_holds us xs r l h a p k f e s =
    subst (Compares r.op) (sym (row_value us xs r l h a p k f e)) (compares r.op (row_fraction l.coeffs.items l.constant xs).0 s.0 (λ q. s.1 (f.equal ∙ q)))

rows_hold : (us : List Mono) (xs : List (ℤ × ℤ)) (rows : List PRow) (ls : List LinRow) → Rise us → AllByRecursion IsUnknown us → AreFit rows
    → AllByRecursion (λ (r : PRow). Knows us r.poly) rows → AreFormsOf us rows ls → length xs ≡ length us → AllByRecursion (IsSolved xs) ls → AllByRecursion (HoldsAt (weights us xs)) rows
rows_hold us xs [] ls h a p k f e s = tt
rows_hold us xs (r ∷ rows) [] h a p k f e s = absurd f
rows_hold us xs (r ∷ rows) (l ∷ ls) h a p k f e s = (row_holds us xs r l h a p.0 k.0 f.0 e s.0, rows_hold us xs rows ls h a p.1 k.1 f.1 e s.1)

-- the forms have as many unknowns as the rows
pub form_width : (rows : List PRow) (ls : List LinRow) → AreFormsOf (unknowns rows) rows ls → form_unknowns ls ≡ length (unknowns rows)
form_width [] [] f = refl
form_width [] (l ∷ ls) f = absurd f
form_width (r ∷ rows) [] f = absurd f
form_width (r ∷ rows) (l ∷ ls) f = ap length f.0.coeffs ∙ length-map (unknowns (r ∷ rows)) (coeff_of r.poly)

pub rational_point : (rows : List PRow) (ls : List LinRow) (xs : List (ℤ × ℤ)) → AreFit rows → AreFormsOf (unknowns rows) rows ls → IsPoint ls xs → IsRationalPoint rows xs
rational_point rows ls xs p f h =
    let e : length xs ≡ length (unknowns rows) = h.count ∙ form_width rows ls f in
    record {
      count = e;
      fractions = h.fractions;
      holds = rows_hold (unknowns rows) xs rows ls (rise_rows rows) (are_unknowns rows) p (known_rows rows) f e h.solved;
    }
