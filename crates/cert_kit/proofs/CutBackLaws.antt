-- A point solves a row exactly where it solves the row's cut.
use Rattle.std.specs.Prelude.{◌≡◌, ℕ, ◌%◌, ◌<◌, ◌==◌, ℤ, pos, ◌+ℤ◌, ◌*ℤ◌, ◌≤ℤ◌, List, Bool, true, false, cond, unsigned_abs, refl, ◌↔◌}
use Rattle.std.proofs.Common.{ap, sym, ◌∙◌, subst, arith}
use Rattle.std.proofs.lemmas.Int.{ints}
use Rattle.std.proofs.lemmas.Nat.Gcd.{dvd_of_mod-eq-zero}
use Rattle.mm_num.specs.Quotient.{floor_by}
use Rattle.mm_num.proofs.QuotientLaws.{floor_below}
use Rattle.mm_num.proofs.FracLaws.{floor_exact}
use Rattle.mm_num.proofs.Ring.{dist, product_nonneg, mul_zero}
use Rattle.mm_poly.specs.declared.term.Term.{Term}
use Rattle.mm_poly.specs.Poly.{value, content, without_constant, constant_part, floor_divided, DividesAll}
use Rattle.mm_poly.proofs.CutLaws.{content_divides, value_cut, value_whole}
use Rattle.cert_kit.specs.declared.row.Op.{Op}
use Rattle.cert_kit.specs.declared.row.Op.TheVariants.{Ge, Eq}
use Rattle.cert_kit.specs.declared.row.PRow.{PRow}
use Rattle.cert_kit.specs.Row.{Compares, Holds}
use Rattle.cert_kit.specs.Cut.{contradiction, divided, cut_by, cut_of}
use Rattle.cert_kit.proofs.CutLaws.{above_0, cut_holds}

mod_is : (n : ℕ) → (n == 0) ≡ true → n ≡ 0
mod_is n h = grind arith

least_back : (g : ℕ) (q k f : ℤ) → pos 0 ≤ℤ (pos g *ℤ (q +ℤ f)) → (pos g *ℤ f) ≤ℤ k → pos g *ℤ (q +ℤ f) ≡ pos g *ℤ q +ℤ pos g *ℤ f → pos 0 ≤ℤ (pos g *ℤ q +ℤ k)
least_back g q k f h l e = omega (arith, ints)

number_back : (g : ℕ) (q k : ℤ) → 0 < g → pos 0 ≤ℤ (q +ℤ floor_by k g) → pos 0 ≤ℤ (pos g *ℤ q +ℤ k)
number_back g q k h l =
    let n : pos 0 ≤ℤ pos g = omega (arith, ints) in
    least_back g q k (floor_by k g) (product_nonneg (pos g) (q +ℤ floor_by k g) n l) (floor_below k g h) (dist (pos g) q (floor_by k g))

inequality_back : (x : ℕ → ℤ) (g : ℕ) (p : List Term) → 0 < g → DividesAll g (without_constant p) → pos 0 ≤ℤ value x (divided g p) → pos 0 ≤ℤ value x p
inequality_back x g p h d c =
    subst (λ v. pos 0 ≤ℤ v) (sym (value_whole x g p h d))
    (number_back g (value x (floor_divided g (without_constant p))) (constant_part p) h (subst (λ v. pos 0 ≤ℤ v) (value_cut x g p) c))

equality_back : (x : ℕ → ℤ) (g : ℕ) (p : List Term) → 0 < g → DividesAll g (without_constant p) → unsigned_abs (constant_part p) % g ≡ 0
    → value x (divided g p) ≡ pos 0 → value x p ≡ pos 0
equality_back x g p h d m c =
    let v = value x (floor_divided g (without_constant p)) in
    let f = floor_by (constant_part p) g in
    value_whole x g p h d
    ∙ ap (λ k. pos g *ℤ v +ℤ k) (sym (floor_exact (constant_part p) g h (dvd_of_mod-eq-zero g m)))
    ∙ sym (dist (pos g) v f) ∙ ap (λ z. pos g *ℤ z) (sym (value_cut x g p) ∙ c) ∙ mul_zero (pos g)

contradicts : (x : ℕ → ℤ) → Holds x contradiction → ⊥
contradicts x h = omega (arith, ints)

by_divisor : (x : ℕ → ℤ) (g : ℕ) (o : Op) (p : List Term) → 0 < g → DividesAll g (without_constant p) → Holds x (cut_by g o p) → Compares o (value x p)
by_divisor x g Ge p h d c = inequality_back x g p h d c
by_divisor x g Eq p h d c = by_test (unsigned_abs (constant_part p) % g == 0) refl c
  where
    by_test : (b : Bool) → (unsigned_abs (constant_part p) % g == 0) ≡ b → Holds x (cond b (record { poly = divided g p; op = Eq }) contradiction) → value x p ≡ pos 0
    by_test true e k = equality_back x g p h d (mod_is _ e) k
    by_test false e k = absurd (contradicts x k)

pub cut_back : (x : ℕ → ℤ) (r : PRow) → Holds x (cut_of r) → Holds x r
cut_back x r h = by_test (content r.poly == 0) refl h
  where
    by_test : (b : Bool) → (content r.poly == 0) ≡ b → Holds x (cond b r (cut_by (content r.poly) r.op r.poly)) → Holds x r
    by_test true e k = k
    by_test false e k = by_divisor x (content r.poly) r.op r.poly (above_0 _ e) (content_divides r.poly) k

-- a row and its cut have the same solutions
pub cut_same : (x : ℕ → ℤ) (r : PRow) → Holds x r ↔ Holds x (cut_of r)
cut_same x r = (cut_holds x r, cut_back x r)
