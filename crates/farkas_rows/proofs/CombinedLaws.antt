-- The combination of rows in two parts, and the room that the parts have.
use Rattle.std.specs.Prelude.{◌≡◌, ℕ, suc, ◌+◌, ◌*◌, ℤ, ◌+ℤ◌, unsigned_abs, List, [], ◌∷◌, ◌++◌, length, Bool, true, false, if◌then◌else◌, refl}
use Rattle.std.proofs.Common.{ap, sym, ◌∙◌, arith, length-append}
use Rattle.std.specs.List.{AllByRecursion}
use Rattle.mm_num.specs.Small.{IsSmall}
use Rattle.mm_num.proofs.ListLaws.{all_split}
use Rattle.mm_poly.specs.declared.term.Term.{Term}
use Rattle.mm_poly.specs.Poly.{IsPoly, Fits, norm, coeff_of, plus, scaled}
use Rattle.mm_poly.proofs.ValueLaws.{sum_assoc}
use Rattle.mm_poly.proofs.PolyLaws.{poly_plus, poly_scaled}
use Rattle.mm_poly.proofs.CoeffLaws.{coeff_plus, unique}
use Rattle.cert_kit.specs.declared.row.PRow.{PRow}
use Rattle.farkas_rows.specs.Combining.{combined, AreMultipliers, norms, spreads, is_nothing, rows_used}
use Rattle.farkas_rows.specs.machine.Parts.{CanCombine}

-- sums may be grouped in another way
pub plus_assoc : (p q r : List Term) → IsPoly p → IsPoly q → IsPoly r → plus p (plus q r) ≡ plus (plus p q) r
plus_assoc p q r a b c =
    unique (plus p (plus q r)) (plus (plus p q) r) (poly_plus p (plus q r) a (poly_plus q r b c)) (poly_plus (plus p q) r (poly_plus p q a b) c)
    (λ m. coeff_plus p (plus q r) m a (poly_plus q r b c)
    ∙ ap (λ z. coeff_of p m +ℤ z) (coeff_plus q r m b c)
    ∙ sum_assoc (coeff_of p m) (coeff_of q m) (coeff_of r m)
    ∙ ap (λ z. z +ℤ coeff_of r m) (sym (coeff_plus p q m a b))
    ∙ sym (coeff_plus (plus p q) r m (poly_plus p q a b) c))

abbrev pub AreFit : List PRow → Type 0
AreFit rows = AllByRecursion (λ (r : PRow). Fits r.poly) rows

pub poly_combined : (ms : List ℤ) (rows : List PRow) → AreFit rows → IsPoly (combined ms rows)
poly_combined [] rows f = tt
poly_combined (m ∷ ms) [] f = tt
poly_combined (m ∷ ms) (r ∷ rows) f = poly_plus (scaled m r.poly) (combined ms rows) (poly_scaled m r.poly f.0.order) (poly_combined ms rows f.1)

-- of rows in two parts, each with its multipliers
pub combined_parts : (ms ns : List ℤ) (rows more : List PRow) → length ms ≡ length rows → AreFit rows → AreFit more
    → combined (ms ++ ns) (rows ++ more) ≡ plus (combined ms rows) (combined ns more)
combined_parts [] ns [] more e f g = refl
combined_parts [] ns (r ∷ rows) more e f g = absurd (omega arith)
combined_parts (m ∷ ms) ns [] more e f g = absurd (omega arith)
combined_parts (m ∷ ms) ns (r ∷ rows) more e f g =
    ap (λ (p : List Term). plus (scaled m r.poly) p) (combined_parts ms ns rows more (omega arith) f.1 g)
    ∙ plus_assoc (scaled m r.poly) (combined ms rows) (combined ns more) (poly_scaled m r.poly f.0.order) (poly_combined ms rows f.1) (poly_combined ns more g)

pub norms_parts : (ms ns : List ℤ) (rows more : List PRow) → length ms ≡ length rows → norms (ms ++ ns) (rows ++ more) ≡ norms ms rows + norms ns more
norms_parts [] ns [] more e = omega arith
norms_parts [] ns (r ∷ rows) more e = absurd (omega arith)
norms_parts (m ∷ ms) ns [] more e = absurd (omega arith)
norms_parts (m ∷ ms) ns (r ∷ rows) more e = let h = norms_parts ms ns rows more (omega arith) in step (unsigned_abs m * norm r.poly) h
  where
    step : (a : ℕ) → norms (ms ++ ns) (rows ++ more) ≡ norms ms rows + norms ns more → a + norms (ms ++ ns) (rows ++ more) ≡ a + norms ms rows + norms ns more
    step a h = omega (arith, h)

pub spreads_parts : (rows more : List PRow) → spreads (rows ++ more) ≡ spreads rows + spreads more
spreads_parts [] more = omega arith
spreads_parts (r ∷ rows) more = omega (arith, spreads_parts rows more)

pub used_parts : (n : ℕ) (ms ns : List ℤ) (rows more : List PRow) → length ms ≡ length rows
    → rows_used n (ms ++ ns) (rows ++ more) ≡ rows_used n ms rows ++ rows_used (n + length rows) ns more
used_parts n [] ns [] more e = ap (λ k. rows_used k ns more) (omega arith)
used_parts n [] ns (r ∷ rows) more e = absurd (omega arith)
used_parts n (m ∷ ms) ns [] more e = absurd (omega arith)
used_parts n (m ∷ ms) ns (r ∷ rows) more e =
    let h = used_parts (n + 1) ms ns rows more (omega arith) in
    let k : n + 1 + length rows ≡ n + suc (length rows) = omega arith in
    in_front (is_nothing m r) _ _ _ (h ∙ ap (λ j. rows_used (n + 1) ms rows ++ rows_used j ns more) k)
  where
    in_front : (t : Bool) (a b d : List ℕ) → a ≡ b ++ d → (if t then a else n ∷ a) ≡ (if t then b else n ∷ b) ++ d
    in_front true a b d e = e
    in_front false a b d e = ap (λ (q : List ℕ). n ∷ q) e

pub signs_parts : (ms ns : List ℤ) (rows more : List PRow) → length ms ≡ length rows → AreMultipliers (rows ++ more) (ms ++ ns) → AreMultipliers rows ms × AreMultipliers more ns
signs_parts [] ns [] more e s = (tt, s)
signs_parts [] ns (r ∷ rows) more e s = absurd (omega arith)
signs_parts (m ∷ ms) ns [] more e s = absurd (omega arith)
signs_parts (m ∷ ms) ns (r ∷ rows) more e s = let h = signs_parts ms ns rows more (omega arith) s.1 in ((s.0, h.0), h.1)

-- each of two parts can be combined
pub can_parts : (ms ns : List ℤ) (rows more : List PRow) → length ms ≡ length rows → CanCombine (rows ++ more) (ms ++ ns) → CanCombine rows ms × CanCombine more ns
can_parts ms ns rows more e h =
    let signs = signs_parts ms ns rows more e h.signs in
    let small = all_split IsSmall ms ns h.small in
    let fits = all_split (λ (r : PRow). Fits r.poly) rows more h.fits in
    let n = norms_parts ms ns rows more e in
    let s = spreads_parts rows more in
    let a = h.room.norm in
    let b = h.room.spread in
    let l = length-append ms ns in
    let k = length-append rows more in
    let c = h.count in (
      record { count = e; signs = signs.0; small = small.0; fits = fits.0; room = record { norm = omega (arith, n, a); spread = omega (arith, s, b) } },
      record { count = omega (arith, l, k, c, e); signs = signs.1; small = small.1; fits = fits.1; room = record { norm = omega (arith, n, a); spread = omega (arith, s, b) } },
    )
