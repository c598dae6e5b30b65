-- What the simplex's answer on the forms of rows says of the rows.
use Rattle.std.specs.Prelude.{◌≡◌, ℕ, zero, suc, ◌+◌, ◌*◌, ◌^◌, ◌<◌, ◌≤◌, List, [], ◌∷◌, length, map, ℤ, unsigned_abs}
use Rattle.std.proofs.Common.{ap, sym, ◌∙◌, subst, arith}
use Rattle.std.proofs.lemmas.List.{length-map}
use Rattle.std.proofs.lemmas.List.Elements.{All-head, All-tail, All-nil, All-cons}
use Rattle.std.specs.List.{All, AllByRecursion}
use Rattle.mm_num.specs.Small.{IsSmall}
use Rattle.mm_poly.specs.declared.term.Term.{Term}
use Rattle.mm_poly.specs.Poly.{coeff_of, norm}
use Rattle.mm_poly.proofs.PartLaws.{coeff_small}
use Rattle.cert_kit.specs.declared.row.PRow.{PRow}
use Rattle.fm_elim.specs.Unknowns.{unknowns}
use Rattle.farkas_rows.specs.Combining.{IsFarkas, HasRoom}
use Rattle.farkas_rows.proofs.CombinedLaws.{AreFit}
use Rattle.simplex_core.specs.declared.row.LinRow.{LinRow}
use Rattle.simplex_core.specs.declared.solved.Solved.{Solved}
use Rattle.simplex_core.specs.declared.solved.Solved.TheVariants.{Point, Farkas, Turns, Size}
use Rattle.simplex_core.specs.Rows.{AreWide, IsSmallRow, AreSmall, IsPoint, unknowns as form_unknowns}
use Rattle.simplex_core.specs.Form.{one_of}
use Rattle.simplex_core.specs.Walk.{AreNarrow, choose}
use Rattle.simplex_core.specs.Farkas.{IsFarkas as IsFormFarkas}
use Rattle.simplex_core.specs.Solved.{IfPoint, IfFarkas, IfTurns, IfSize, AreFormsNarrow}
use Rattle.relaxation.specs.Relaxing.{Mono, IsFormOf, AreFormsOf, candidate_bases, IsRationalPoint, IsRefutable}
use Rattle.relaxation.specs.machine.Ending.{IsNarrowForm, IsRefuting}
use Rattle.relaxation.proofs.PointLaws.{form_width, rational_point}
use Rattle.farkas_rows.proofs.FractionLaws.{positive_denominator}
use Rattle.relaxation.proofs.ChooseLaws.{at_least_all}
use Rattle.relaxation.proofs.MultiplierLaws.{form_count, multipliers}
use Rattle.relaxation.proofs.RoomLaws.{narrow_first, has_room}

-- the forms as the simplex takes them

wide_by : (us : List Mono) (rows : List PRow) (ls : List LinRow) → AreFormsOf us rows ls → AreWide (length us) ls
wide_by us [] [] f = tt
wide_by us [] (l ∷ ls) f = absurd f
wide_by us (r ∷ rows) [] f = absurd f
wide_by us (r ∷ rows) (l ∷ ls) f = (ap length f.0.coeffs ∙ length-map us (coeff_of r.poly), wide_by us rows ls f.1)

pub forms_wide : (rows : List PRow) (ls : List LinRow) → AreFormsOf (unknowns rows) rows ls → AreWide (form_unknowns ls) ls
forms_wide rows ls f = subst (λ (n : ℕ). AreWide n ls) (sym (form_width rows ls f)) (wide_by (unknowns rows) rows ls f)

pub forms_few : (rows : List PRow) (ls : List LinRow) → AreFormsOf (unknowns rows) rows ls → one_of (form_unknowns ls) ls ≡ length (unknowns rows) + length rows
forms_few rows ls f = ap (λ n. n + length ls) (form_width rows ls f) ∙ ap (λ n. length (unknowns rows) + n) (form_count (unknowns rows) rows ls f)

small_coeffs : (p : List Term) (us : List Mono) → norm p < 2 ^ 126 → All IsSmall (map (coeff_of p) us)
small_coeffs p [] h = All-nil IsSmall
small_coeffs p (u ∷ us) h = All-cons IsSmall (coeff_of p u) (map (coeff_of p) us) (let q = coeff_small p u in omega (arith, q, h)) (small_coeffs p us h)

pub forms_small : (us : List Mono) (rows : List PRow) (ls : List LinRow) → AreFit rows → AreFormsOf us rows ls → AreSmall ls
forms_small us [] [] a f = All-nil IsSmallRow
forms_small us [] (l ∷ ls) a f = absurd f
forms_small us (r ∷ rows) [] a f = absurd f
forms_small us (r ∷ rows) (l ∷ ls) a f = All-cons IsSmallRow l ls (
  subst (All IsSmall) (sym f.0.coeffs) (small_coeffs r.poly us a.0.norm),
  subst IsSmall (sym f.0.constant) (let q = coeff_small r.poly [] in let h = a.0.norm in omega (arith, q, h)),
) (forms_small us rows ls a.1 f.1)

-- each end

narrow_small : (cs : List ℤ) → AreNarrow cs → AllByRecursion IsSmall cs
narrow_small [] h = tt
narrow_small (c ∷ cs) h =
    let first : unsigned_abs c < 2 ^ 30 = All-head (λ k. unsigned_abs k < 2 ^ 30) c cs h in
    (omega (arith, first), narrow_small cs (All-tail (λ k. unsigned_abs k < 2 ^ 30) c cs h))

pub end_small : (s : Solved) → IfFarkas AreNarrow s → IfFarkas (AllByRecursion IsSmall) s
end_small (Point xs) h = tt
end_small (Farkas ms) h = narrow_small ms.items h
end_small (Turns ps) h = tt
end_small (Size ps) h = tt

pub end_farkas : (rows : List PRow) (ls : List LinRow) (s : Solved) → AreFit rows → AreFormsOf (unknowns rows) rows ls → IfFarkas (IsFormFarkas ls) s → IfFarkas (IsFarkas rows) s
end_farkas rows ls (Point xs) a f h = tt
end_farkas rows ls (Farkas ms) a f h = multipliers rows ls ms.items a f h
end_farkas rows ls (Turns ps) a f h = tt
end_farkas rows ls (Size ps) a f h = tt

pub end_room : (rows : List PRow) (ls : List LinRow) (turns : ℕ) (s : Solved) → AreFit rows → AreFormsOf (unknowns rows) rows ls → IfFarkas AreNarrow s → IsRefutable turns rows
    → IfFarkas (HasRoom rows) s
end_room rows ls turns (Point xs) a f h p = tt
end_room rows ls turns (Farkas ms) a f h p = has_room rows ls ms.items a f (forms_wide rows ls f) p.narrow p.terms h
end_room rows ls turns (Turns ps) a f h p = tt
end_room rows ls turns (Size ps) a f h p = tt

pub end_point : (rows : List PRow) (ls : List LinRow) (s : Solved) → AreFit rows → AreFormsOf (unknowns rows) rows ls → IfPoint (IsPoint ls) s → IfPoint (IsRationalPoint rows) s
end_point rows ls (Point xs) a f h = rational_point rows ls xs.items a f h
end_point rows ls (Farkas ms) a f h = tt
end_point rows ls (Turns ps) a f h = tt
end_point rows ls (Size ps) a f h = tt

enough_bases : (rows : List PRow) (ls : List LinRow) (turns : ℕ) → AreFormsOf (unknowns rows) rows ls → candidate_bases rows ≤ turns → choose (one_of (form_unknowns ls) ls) (length ls) ≤ turns
enough_bases rows ls turns f h =
    subst (λ (k : ℕ). choose (one_of (form_unknowns ls) ls) k ≤ turns) (sym (form_count (unknowns rows) rows ls f)) (subst (λ (k : ℕ). choose k (length rows) ≤ turns) (sym (forms_few rows ls f)) h)

pub end_refuting : (rows : List PRow) (ls : List LinRow) (turns : ℕ) (s : Solved) → AreFit rows → AreFormsOf (unknowns rows) rows ls → IfPoint (IsPoint ls) s
    → (choose (one_of (form_unknowns ls) ls) (length ls) ≤ turns → IfTurns (λ ps. ⊥) s) → (AreFormsNarrow ls → IfSize (λ ps. ⊥) s) → IsRefutable turns rows → IsRefuting s
end_refuting rows ls turns (Point xs) a f h t n p =
    let q : IsRationalPoint rows xs.items = rational_point rows ls xs.items a f h in
    absurd (p.none _ (positive_denominator xs.items q.fractions) q.holds)
end_refuting rows ls turns (Farkas ms) a f h t n p = tt
end_refuting rows ls turns (Turns ps) a f h t n p = absurd (t (enough_bases rows ls turns f p.bases))
end_refuting rows ls turns (Size ps) a f h t n p = absurd (n (p.narrow ls f))

-- where the simplex isn't tried

pub not_narrow : (rows : List PRow) (ls : List LinRow) (turns : ℕ) → AreFormsOf (unknowns rows) rows ls → (All IsNarrowForm ls → ⊥) → IsRefutable turns rows → ⊥
not_narrow rows ls turns f n p = n (narrow_first rows ls f (forms_wide rows ls f) p.narrow)

pub not_in_reach : (rows : List PRow) (n m turns : ℕ) → n ≡ length (unknowns rows) → m ≡ length rows → (choose (n + m) m ≤ turns → ⊥) → IsRefutable turns rows → ⊥
not_in_reach rows n m turns e f h p =
    h (subst (λ (k : ℕ). choose (n + k) k ≤ turns) (sym f) (subst (λ (k : ℕ). choose (k + length rows) (length rows) ≤ turns) (sym e) p.bases))

few_rows : (n m t c : ℕ) → 1 + n * m ≤ c → c ≤ t → t < 2 ^ 32 → m < 2 ^ 32 → 0 < m → n + m < 2 ^ 32
few_rows zero m t c h k l r s = omega (arith, r)
few_rows (suc n) (suc m) t c h k l r s = let q : n + m + 1 ≤ 1 + suc n * suc m = grind arith in omega (arith, q, h, k, l)
few_rows (suc n) zero t c h k l r s = absurd (omega (arith, s))

pub not_too_many : (rows : List PRow) (n turns : ℕ) → n ≡ length (unknowns rows) → turns < 2 ^ 32 → length rows < 2 ^ 32 → IsRefutable turns rows → n + length rows < 2 ^ 32
not_too_many [] n turns e t l p = omega (arith, e)
not_too_many (r ∷ rows) n turns e t l p =
    few_rows n (length (r ∷ rows)) turns (choose (n + length (r ∷ rows)) (length (r ∷ rows))) (at_least_all n (length (r ∷ rows)))
    (subst (λ (k : ℕ). choose (k + length (r ∷ rows)) (length (r ∷ rows)) ≤ turns) (sym e) p.bases) t l (omega arith)
