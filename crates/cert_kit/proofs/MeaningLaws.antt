-- What an expression means holds wherever the rows do.
use Rattle.std.specs.Prelude.{◌≡◌, ℕ, zero, suc, ℤ, pos, List, [], ◌∷◌, Bool, true, false, cond, int_le, refl, Some, None, slice_get}
use Rattle.std.proofs.Common.{ap, sym, ◌∙◌, subst, arith}
use Rattle.std.proofs.lemmas.Int.{ints}
use Rattle.std.proofs.lemmas.Option.{same_Some}
use Rattle.mm_num.proofs.OptionLaws.{bind_some}
use Rattle.mm_num.proofs.Ring.{square_nonneg}
use Rattle.mm_poly.specs.declared.term.Term.{Term}
use Rattle.mm_poly.specs.Poly.{value, times, constant_of}
use Rattle.mm_poly.proofs.ValueLaws.{value_plus, value_times, value_constant}
use Rattle.cert_kit.specs.declared.row.Op.{Op}
use Rattle.cert_kit.specs.declared.row.Op.TheVariants.{Ge, Eq}
use Rattle.cert_kit.specs.declared.row.PRow.{PRow}
use Rattle.cert_kit.specs.declared.cert.Psatz.{Psatz}
use Rattle.cert_kit.specs.declared.cert.Psatz.TheOpen.{Psatz-F}
use Rattle.cert_kit.specs.declared.cert.Psatz.TheViews.{roll-Psatz}
use Rattle.cert_kit.specs.declared.cert.Psatz.TheFolds.{map-Psatz, fold-roll-Psatz, ind-Psatz}
use Rattle.cert_kit.specs.Row.{Compares, Holds, Solves}
use Rattle.cert_kit.specs.Meaning.{Meaning, meaning, meaning_step, product_row, sum_row, multiple_row, constant_row, at_least_0}
use Rattle.cert_kit.proofs.RowLaws.{sum_compares, product_compares, multiple_is_0}

-- a row by its number holds where all do
pub row_holds : (x : ℕ → ℤ) (rows : List PRow) (n : ℕ) (r : PRow) → Solves x rows → slice_get rows n ≡ Some r → Holds x r
row_holds x [] n r s e = absurd (cc)
row_holds x (q ∷ rows) zero r s e = subst (λ (k : PRow). Holds x k) (same_Some q r e) s.0
row_holds x (q ∷ rows) (suc n) r s e = row_holds x rows n r s.1 e

sum_holds : (x : ℕ → ℤ) (r s : PRow) → Holds x r → Holds x s → Holds x (sum_row r s)
sum_holds x r s h k = rw (value_plus x r.poly s.poly) (sum_compares r.op s.op _ _ h k)

product_holds : (x : ℕ → ℤ) (r s : PRow) → Holds x r → Holds x s → Holds x (product_row r s)
product_holds x r s h k = rw (value_times x r.poly s.poly) (product_compares r.op s.op _ _ h k)

square_holds : (x : ℕ → ℤ) (p : List Term) → Holds x (at_least_0 (times p p))
square_holds x p = rw (value_times x p p) (square_nonneg (value x p))

multiple_holds : (x : ℕ → ℤ) (p : List Term) (o : Op) (q : List Term) (r : PRow) → Compares o (value x q) → multiple_row p o q ≡ Some r → Holds x r
multiple_holds x p Eq q r h e =
    subst (λ (k : PRow). Holds x k) (same_Some _ r e) (value_times x p q ∙ multiple_is_0 (value x p) (value x q) h)
multiple_holds x p Ge q r h e = absurd (cc)

constant_holds : (x : ℕ → ℤ) (c : ℤ) (r : PRow) → constant_row c ≡ Some r → Holds x r
constant_holds x c r e = by_test (int_le (pos 1) c) refl e
  where
    by_test : (t : Bool) → int_le (pos 1) c ≡ t → cond t (Some (at_least_0 (constant_of c))) None ≡ Some r → Holds x r
    by_test true p q = subst (λ (k : PRow). Holds x k) (same_Some _ r q) (rw (value_constant x c) (grind (arith, ints)))
    by_test false p q = absurd (cc)

-- one level of an expression
abbrev pub IsSound : Psatz → Type 0
IsSound e = (rows : List PRow) (x : ℕ → ℤ) (r : PRow) → Solves x rows → meaning e rows ≡ Some r → Holds x r

level : (y : Psatz-F ((e : Psatz) × IsSound e)) (rows : List PRow) (x : ℕ → ℤ) (r : PRow) → Solves x rows
    → meaning_step (map-Psatz Psatz Meaning meaning (map-Psatz ((e : Psatz) × IsSound e) Psatz (λ p. p.0) y)) rows ≡ Some r → Holds x r
level (Psatz-F.Hyp n) rows x r s e = row_holds x rows n r s e
level (Psatz-F.Square p) rows x r s e = subst (λ (k : PRow). Holds x k) (same_Some _ r e) (square_holds x p)
level (Psatz-F.MulPoly p a) rows x r s e =
    let b = bind_some (meaning a.0 rows) _ r e in
    multiple_holds x p b.0.op b.0.poly r (a.1 rows x b.0 s b.1) b.2
level (Psatz-F.Mul a b) rows x r s e =
    let p = bind_some (meaning a.0 rows) _ r e in
    let q = bind_some (meaning b.0 rows) _ r p.2 in
    subst (λ (k : PRow). Holds x k) (same_Some _ r q.2) (product_holds x p.0 q.0 (a.1 rows x p.0 s p.1) (b.1 rows x q.0 s q.1))
level (Psatz-F.Add a b) rows x r s e =
    let p = bind_some (meaning a.0 rows) _ r e in
    let q = bind_some (meaning b.0 rows) _ r p.2 in
    subst (λ (k : PRow). Holds x k) (same_Some _ r q.2) (sum_holds x p.0 q.0 (a.1 rows x p.0 s p.1) (b.1 rows x q.0 s q.1))
level (Psatz-F.Const c) rows x r s e = constant_holds x c r e
level Psatz-F.Zero rows x r s e = subst (λ (k : PRow). Holds x k) (same_Some _ r e) refl

-- the meaning of an expression holds at each solution of the rows
pub meaning_holds : (e : Psatz) → IsSound e
meaning_holds = ind-Psatz IsSound (λ d y q. subst (λ (z : Psatz-F Psatz). IsSound (roll-Psatz z)) q (step y))
  where
    step : (y : Psatz-F ((e : Psatz) × IsSound e)) → IsSound (roll-Psatz (map-Psatz ((e : Psatz) × IsSound e) Psatz (λ p. p.0) y))
    step y rows x r s e = level y rows x r s (sym (ap (λ f. f rows) (fold-roll-Psatz Meaning meaning_step (map-Psatz ((e : Psatz) × IsSound e) Psatz (λ p. p.0) y))) ∙ e)
