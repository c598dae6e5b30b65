-- The cut of a row holds wherever the row does.
use Rattle.std.specs.Prelude.{◌≡◌, ℕ, zero, suc, ◌<◌, ◌==◌, ℤ, List, Bool, true, false, cond, refl}
use Rattle.std.proofs.Common.{ap, arith}
use Rattle.mm_poly.specs.declared.term.Term.{Term}
use Rattle.mm_poly.specs.Poly.{value, content, without_constant}
use Rattle.mm_poly.proofs.CutLaws as cuts
use Rattle.mm_poly.proofs.CutLaws.{DividesAll, content_divides, constant_divided, cut_zero}
use Rattle.cert_kit.specs.declared.row.Op.{Op}
use Rattle.cert_kit.specs.declared.row.Op.TheVariants.{Ge, Eq}
use Rattle.cert_kit.specs.declared.row.PRow.{PRow}
use Rattle.cert_kit.specs.Row.{Compares, Holds}
use Rattle.cert_kit.specs.Cut.{cut_by, cut_of}

test_is : (n : ℕ) → n ≡ 0 → (n == 0) ≡ true
test_is n h = grind arith

pub above_0 : (n : ℕ) → (n == 0) ≡ false → 0 < n
above_0 zero h = absurd (cc)
above_0 (suc n) h = omega arith

by_divisor : (x : ℕ → ℤ) (g : ℕ) (o : Op) (p : List Term) → 0 < g → DividesAll g (without_constant p) → Compares o (value x p) → Holds x (cut_by g o p)
by_divisor x g Ge p h d c = cuts.cut_holds x g p h d c
by_divisor x g Eq p h d c = rw (test_is _ (constant_divided x g p h d c)) (cut_zero x g p h d c)

pub cut_holds : (x : ℕ → ℤ) (r : PRow) → Holds x r → Holds x (cut_of r)
cut_holds x r h = by_test (content r.poly == 0) refl
  where
    by_test : (b : Bool) → (content r.poly == 0) ≡ b → Holds x (cond b r (cut_by (content r.poly) r.op r.poly))
    by_test true e = h
    by_test false e = by_divisor x (content r.poly) r.op r.poly (above_0 _ e) (content_divides r.poly) h

-- the cut of an inequality is one
pub cut_of_least : (r : PRow) → r.op ≡ Ge → (cut_of r).op ≡ Ge
cut_of_least r h = by_test (content r.poly == 0)
  where
    by_test : (b : Bool) → (cond b r (cut_by (content r.poly) r.op r.poly)).op ≡ Ge
    by_test true = h
    by_test false = ap (λ o. (cut_by (content r.poly) o r.poly).op) h
