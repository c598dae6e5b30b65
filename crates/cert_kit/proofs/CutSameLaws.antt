-- The cut of a row whose content is 0 or 1 is the row.
use Rattle.std.specs.Prelude.{◌≡◌, ℕ, zero, suc, ◌%◌, ◌<◌, ◌≤◌, ◌==◌, List, Bool, true, false, cond, unsigned_abs, refl, Result, Ok, Err, IfOk}
use Rattle.std.proofs.Common.{ap, sym, ◌∙◌, arith}
use Rattle.std.specs.declared.alloc.AllocError.{AllocError}
use Rattle.mm_poly.specs.declared.term.Term.{Term}
use Rattle.mm_poly.specs.Poly.{IsPoly, Fits, content, constant_part, floor_divided}
use Rattle.mm_poly.proofs.JoinedLaws.{divided_by_one}
use Rattle.cert_kit.specs.declared.row.Op.{Op}
use Rattle.cert_kit.specs.declared.row.Op.TheVariants.{Ge, Eq}
use Rattle.cert_kit.specs.declared.row.PRow.{PRow}
use Rattle.cert_kit.specs.Cut.{contradiction, divided, cut_by, cut_of}
use Rattle.cert_kit.proofs.QuotientLaws.{divided_is}

mod_one : (n : ℕ) → (n % 1 == 0) ≡ true
mod_one n = grind arith

one_holds : 0 < 1
one_holds = omega arith

cut_by_one : (o : Op) (p : List Term) → IsPoly p → cut_by 1 o p ≡ record { poly = p; op = o }
cut_by_one Ge p b = ap (λ (q : List Term). record { poly = q; op = Ge }) (sym (divided_is 1 p one_holds b) ∙ divided_by_one p b)
cut_by_one Eq p b =
    ap (λ (t : Bool). cond t (record { poly = divided 1 p; op = Eq }) contradiction) (mod_one (unsigned_abs (constant_part p)))
    ∙ ap (λ (q : List Term). record { poly = q; op = Eq }) (sym (divided_is 1 p one_holds b) ∙ divided_by_one p b)

few : (n : ℕ) → n ≤ 1 → (n == 0) ≡ false → n ≡ 1
few zero h e = absurd (cc)
few (suc n) h e = omega arith

pub cut_itself : (r : PRow) → Fits r.poly → content r.poly ≤ 1 → cut_of r ≡ r
cut_itself r f h = by_test (content r.poly == 0) refl
  where
    by_test : (b : Bool) → (content r.poly == 0) ≡ b → cond b r (cut_by (content r.poly) r.op r.poly) ≡ r
    by_test true e = refl
    by_test false e = ap (λ g. cut_by g r.op r.poly) (few _ h e) ∙ cut_by_one r.op r.poly f.order

-- the cut of a row whose content is from 1 on, with each coefficient rounded down

by_content : (r : PRow) → 0 < content r.poly → cut_of r ≡ cut_by (content r.poly) r.op r.poly
by_content r h = by_test (content r.poly == 0) refl
  where
    above : (n : ℕ) → 0 < n → (n == 0) ≡ true → ⊥
    above n l k = let e : n ≡ 0 = grind arith in omega arith

    by_test : (b : Bool) → (content r.poly == 0) ≡ b → cond b r (cut_by (content r.poly) r.op r.poly) ≡ cut_by (content r.poly) r.op r.poly
    by_test true k = absurd (above (content r.poly) h k)
    by_test false k = refl

pub inequality_cut : (r : PRow) → Fits r.poly → 0 < content r.poly → r.op ≡ Ge → cut_of r ≡ record { poly = floor_divided (content r.poly) r.poly; op = Ge }
inequality_cut r f h e =
    by_content r h ∙ ap (λ o. cut_by (content r.poly) o r.poly) e
    ∙ ap (λ (q : List Term). record { poly = q; op = Ge }) (sym (divided_is (content r.poly) r.poly h f.order))

pub equality_cut : (r : PRow) → Fits r.poly → 0 < content r.poly → r.op ≡ Eq → (unsigned_abs (constant_part r.poly) % content r.poly == 0) ≡ true
    → cut_of r ≡ record { poly = floor_divided (content r.poly) r.poly; op = Eq }
equality_cut r f h e d =
    by_content r h ∙ ap (λ o. cut_by (content r.poly) o r.poly) e
    ∙ ap (λ b. cond b (record { poly = divided (content r.poly) r.poly; op = Eq }) contradiction) d
    ∙ ap (λ (q : List Term). record { poly = q; op = Eq }) (sym (divided_is (content r.poly) r.poly h f.order))

pub no_cut : (r : PRow) → 0 < content r.poly → r.op ≡ Eq → (unsigned_abs (constant_part r.poly) % content r.poly == 0) ≡ false → cut_of r ≡ contradiction
no_cut r h e d =
    by_content r h ∙ ap (λ o. cut_by (content r.poly) o r.poly) e
    ∙ ap (λ b. cond b (record { poly = divided (content r.poly) r.poly; op = Eq }) contradiction) d

-- a row that is given where another one is the same
pub given_for : (r : Result PRow AllocError) (a b : PRow) → IfOk r (λ q. q ≡ a) → b ≡ a → IfOk r (λ q. q ≡ b)
given_for (Ok q) a b h e = h ∙ sym e
given_for (Err f) a b h e = tt
