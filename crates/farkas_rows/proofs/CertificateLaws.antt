-- The certificate of a negative combination is good and shallow.
use Rattle.std.specs.Prelude.{◌≡◌, ℕ, ◌^◌, ◌<◌, ◌≤◌, max, ℤ, pos, ◌+ℤ◌, ◌<ℤ◌, List, [], ◌∷◌, ◌++◌, length, Bool, true, false, not, int_lt, ◌≢◌, Option, Some, slice_get, refl}
use Rattle.std.proofs.Common.{ap, sym, ◌∙◌, subst, arith, append-nil, zero-add}
use Rattle.std.proofs.lemmas.Int.{ints}
use Rattle.std.proofs.lemmas.Bool.{and_from}
use Rattle.mm_poly.specs.declared.term.Term.{Term}
use Rattle.std.specs.Ordering.{int_eq}
use Rattle.mm_num.proofs.TestLaws.{is_int}
use Rattle.mm_poly.specs.Poly.{constant_of}
use Rattle.mm_poly.proofs.CaseLaws.{by_coeff}
use Rattle.mm_poly.proofs.ValueLaws.{sum_zero}
use Rattle.cert_kit.specs.declared.row.Op.{Op}
use Rattle.cert_kit.specs.declared.row.Op.TheVariants.{Ge, Eq}
use Rattle.cert_kit.specs.declared.row.PRow.{PRow}
use Rattle.cert_kit.specs.declared.cert.Psatz.{Psatz}
use Rattle.cert_kit.specs.declared.cert.Step.{Step}
use Rattle.cert_kit.specs.declared.cert.Step.TheVariants.{Rat}
use Rattle.cert_kit.specs.declared.cert.Cert.{Cert}
use Rattle.cert_kit.specs.declared.cert.Close.TheOpen.{Close-F}
use Rattle.cert_kit.specs.declared.cert.Close.TheVariants.{Done, rolls-Done}
use Rattle.cert_kit.specs.declared.cert.Close.TheFolds.{fold-Close, fold-roll-Close, fold_out-Cert}
use Rattle.cert_kit.specs.Row.{is_false}
use Rattle.cert_kit.specs.Acceptance.{with_row, IsGood}
use Rattle.cert_kit.specs.Depth.{psatz_depth, steps_depth, close_level, cert_level, cert_depth, close_depth, close_in_range, cert_in_range, has_constants_in_range, close_has_constants_in_range, MakesCert}
use Rattle.cert_kit.specs.Making.{numbers_of}
use Rattle.cert_kit.proofs.FlatLaws.{done_depth, done_range}
use Rattle.cert_kit.proofs.MakerLaws.{makes_rat, ends_with, good_done}
use Rattle.farkas_rows.specs.Combining.{combined, IsNegative, rows_used, rows_named}
use Rattle.farkas_rows.specs.machine.Parts.{StandFrom, IsExpression, IsCombination}

-- one step, and no more
abbrev pub one_step : Psatz → Cert
one_step e = record { steps = Rat e ∷ []; close = Done }

less_test : (k : ℤ) → k <ℤ pos 0 → int_lt (k +ℤ pos 0) (pos 0) ≡ true
less_test k h = grind (arith, ints)

other_test : (k : ℤ) → k ≢ pos 0 → not (int_eq (k +ℤ pos 0) (pos 0)) ≡ true
other_test k n = by_test (int_eq (k +ℤ pos 0) (pos 0)) refl
  where
    by_test : (b : Bool) → int_eq (k +ℤ pos 0) (pos 0) ≡ b → not b ≡ true
    by_test true e = absurd (n (sym (sum_zero k) ∙ is_int (k +ℤ pos 0) (pos 0) e))
    by_test false e = refl

one_term : (k : ℤ) (o : Op) → k <ℤ pos 0 → k ≢ pos 0 → is_false (record { poly = record { coeff = k; mono = [] } ∷ []; op = o }) ≡ true
one_term k Ge h n = less_test k h
one_term k Eq h n = other_test k n

-- how the code makes it

pub found_is : (n : ℕ) (rows : List PRow) (ms : List ℤ) (o : Option Psatz) (e : Psatz) → o ≡ Some e → IsCombination n rows ms o → IsExpression n rows ms e
found_is n rows ms o e s h = subst (IsCombination n rows ms) s h

pub only_step : (before after : List Step) (e : Psatz) → before ≡ [] → after ≡ before ++ Rat e ∷ [] → after ≡ Rat e ∷ []
only_step before after e b a = a ∙ ap (λ (q : List Step). q ++ Rat e ∷ []) b

pub certificate_is : (steps : List Step) (e : Psatz) (c : Cert) → c ≡ record { steps = steps; close = Done } → steps ≡ Rat e ∷ [] → c ≡ one_step e
certificate_is steps e c m s = m ∙ ap (λ (q : List Step). let x : Cert = record { steps = q; close = Done } in x) s

false_constant : (k : ℤ) (o : Op) → k <ℤ pos 0 → is_false (record { poly = constant_of k; op = o }) ≡ true
false_constant k o h = by_coeff k [] [] (λ (p : List Term). is_false (record { poly = p; op = o }) ≡ true) (λ e. absurd (omega (arith, ints, h, e))) (λ n. one_term k o h n)

negative_is_false : (p : List Term) (o : Op) → IsNegative p → is_false (record { poly = p; op = o }) ≡ true
negative_is_false p o h = ap (λ (q : List Term). is_false (record { poly = q; op = o })) h.2 ∙ false_constant h.0 o h.1

stand_all : (rows : List PRow) → StandFrom 0 rows rows
stand_all rows i h = ap (slice_get rows) (zero-add i)

pub good_step : (rows : List PRow) (ms : List ℤ) (e : Psatz) → IsExpression 0 rows ms e → IsNegative (combined ms rows) → IsGood rows (one_step e)
good_step rows ms e x h =
    let p = x.part rows (stand_all rows) in
    let r : PRow = record { poly = combined ms rows; op = p.op } in
    good_done rows (with_row rows r) (Rat e ∷ []) (makes_rat rows e r p.means p.within) (ends_with rows r ∙ negative_is_false (combined ms rows) p.op h)

one_deep : (rows : List PRow) (ms : List ℤ) (e : Psatz) → IsExpression 0 rows ms e → length rows < 2 ^ 32 → psatz_depth e ≤ 33
one_deep rows ms e x l = x.shallow.depth 32 (omega arith)

pub makes_step : (rows : List PRow) (ms : List ℤ) (e : Psatz) → IsExpression 0 rows ms e → length rows < 2 ^ 32 → MakesCert (Rat e ∷ []) Done
makes_step rows ms e x l = record {
  flat_steps = (let h = one_deep rows ms e x l in omega (arith, h));
  flat_close = (let h = done_depth in omega (arith, h));
  step_constants = and_from (has_constants_in_range e) true x.shallow.constants refl;
  close_constants = done_range;
}

pub shallow_step : (rows : List PRow) (ms : List ℤ) (e : Psatz) → IsExpression 0 rows ms e → length rows < 2 ^ 32 → cert_depth (one_step e) ≤ 4000
shallow_step rows ms e x l =
    let h = one_deep rows ms e x l in
    let q = fold_out-Cert ℕ ℕ close_level cert_level (one_step e) ∙ ap (λ k. max (steps_depth (Rat e ∷ [])) k) done_depth in
    omega (arith, q, h)

pub names_step : (rows : List PRow) (ms : List ℤ) (e : Psatz) → IsExpression 0 rows ms e → rows_named (Rat e ∷ []) ≡ rows_used 0 ms rows
names_step rows ms e x = append-nil (numbers_of e) ∙ x.names
