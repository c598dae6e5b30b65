-- A cut is its own cut, and norm, spread and degree of a cut are at most the row's.
use Rattle.std.specs.Prelude.{◌≡◌, ℕ, zero, suc, ◌%◌, ◌<◌, ◌≤◌, ◌==◌, List, [], ◌∷◌, Bool, true, false, cond, unsigned_abs, refl}
use Rattle.std.proofs.Common.{ap, subst, arith}
use Rattle.mm_poly.specs.declared.term.Term.{Term}
use Rattle.mm_poly.specs.Poly.{norm, spread, degree, IsPoly, Fits, content, constant_part, floor_divided}
use Rattle.mm_poly.proofs.CutBoundLaws.{norm_parts, norm_divided, spread_divided, degree_divided}
use Rattle.mm_poly.proofs.JoinedLaws.{fits_divided}
use Rattle.mm_poly.proofs.DividedLaws.{content_divided}
use Rattle.cert_kit.specs.declared.row.Op.{Op}
use Rattle.cert_kit.specs.declared.row.Op.TheVariants.{Ge, Eq}
use Rattle.cert_kit.specs.declared.row.PRow.{PRow}
use Rattle.cert_kit.specs.Cut.{contradiction, divided, cut_by, cut_of}
use Rattle.cert_kit.proofs.QuotientLaws.{divided_is}
use Rattle.cert_kit.proofs.CutLaws.{above_0}
use Rattle.cert_kit.proofs.CutSameLaws.{cut_itself}

by_divisor : (g : ℕ) (o : Op) (p : List Term) → 0 < g → IsPoly p → (P : PRow → Type 0) → ((k : Op) → P (record { poly = floor_divided g p; op = k }))
    → ((unsigned_abs (constant_part p) % g == 0) ≡ false → P contradiction) → P (cut_by g o p)
by_divisor g Ge p h a P one none = subst (λ (q : List Term). P (record { poly = q; op = Ge })) (divided_is g p h a) (one Ge)
by_divisor g Eq p h a P one none = by_test (unsigned_abs (constant_part p) % g == 0) refl
  where
    by_test : (b : Bool) → (unsigned_abs (constant_part p) % g == 0) ≡ b → P (cond b (record { poly = divided g p; op = Eq }) contradiction)
    by_test true e = subst (λ (q : List Term). P (record { poly = q; op = Eq })) (divided_is g p h a) (one Eq)
    by_test false e = none e

-- what holds of a row without unknowns, of the quotient by the content, and of the contradiction, holds of the cut
pub by_cut : (r : PRow) → IsPoly r.poly → (P : PRow → Type 0) → ((content r.poly == 0) ≡ true → P r)
    → (0 < content r.poly → (k : Op) → P (record { poly = floor_divided (content r.poly) r.poly; op = k }))
    → (0 < content r.poly → (unsigned_abs (constant_part r.poly) % content r.poly == 0) ≡ false → P contradiction) → P (cut_of r)
by_cut r a P same one none = by_test (content r.poly == 0) refl
  where
    by_test : (b : Bool) → (content r.poly == 0) ≡ b → P (cond b r (cut_by (content r.poly) r.op r.poly))
    by_test true e = same e
    by_test false e = by_divisor (content r.poly) r.op r.poly (above_0 _ e) a P (one (above_0 _ e)) (none (above_0 _ e))

pub cut_twice : (r : PRow) → Fits r.poly → cut_of (cut_of r) ≡ cut_of r
cut_twice r f = by_cut r f.order (λ q. cut_of q ≡ q)
    (λ e. ap (λ b. cond b r (cut_by (content r.poly) r.op r.poly)) e)
    (λ h k. cut_itself (record { poly = floor_divided (content r.poly) r.poly; op = k }) (fits_divided (content r.poly) r.poly h f) (content_divided r.poly h))
    (λ h e. refl)

not_multiple : (n g : ℕ) → 0 < g → (n % g == 0) ≡ false → 1 ≤ n
not_multiple zero g h e = let t : (0 % g == 0) ≡ true = grind arith in absurd (cc)
not_multiple (suc n) g h e = omega arith

some_norm : (p : List Term) (g : ℕ) → 0 < g → (unsigned_abs (constant_part p) % g == 0) ≡ false → 1 ≤ norm p
some_norm p g h e = omega (arith, norm_parts p, not_multiple (unsigned_abs (constant_part p)) g h e)

some_term : (p : List Term) → 1 ≤ norm p → 1 ≤ spread p
some_term [] h = absurd (omega arith)
some_term (t ∷ ts) h = omega arith

pub norm_cut : (r : PRow) → IsPoly r.poly → norm (cut_of r).poly ≤ norm r.poly
norm_cut r a = by_cut r a (λ q. norm q.poly ≤ norm r.poly) (λ e. omega arith) (λ h k. norm_divided (content r.poly) r.poly h) (λ h e. some_norm r.poly (content r.poly) h e)

pub spread_cut : (r : PRow) → IsPoly r.poly → spread (cut_of r).poly ≤ spread r.poly
spread_cut r a = by_cut r a (λ q. spread q.poly ≤ spread r.poly) (λ e. omega arith) (λ h k. spread_divided (content r.poly) r.poly)
    (λ h e. some_term r.poly (some_norm r.poly (content r.poly) h e))

pub degree_cut : (r : PRow) → IsPoly r.poly → degree (cut_of r).poly ≤ degree r.poly
degree_cut r a = by_cut r a (λ q. degree q.poly ≤ degree r.poly) (λ e. omega arith) (λ h k. degree_divided (content r.poly) r.poly) (λ h e. omega arith)
