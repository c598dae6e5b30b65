-- A renamed polynomial's value, bounds and order.
use Rattle.std.specs.Prelude.{◌≡◌, ℕ, zero, suc, ◌+◌, ◌^◌, ◌<◌, ◌≤◌, ℤ, ◌+ℤ◌, ◌*ℤ◌, unsigned_abs, List, [], ◌∷◌, length, drop, refl}
use Rattle.std.proofs.Common.{get_or, ap, sym, ◌∙◌, subst, arith}
use Rattle.std.specs.Ordering.{nat_cmp, ordering_then}
use Rattle.std.specs.Cmp.{nat_cmp_total, tied_itself}
use Rattle.std.specs.Cmp.Lexicographic.{slice_cmp}
use Rattle.std.specs.FinMap.{nat_cmp-IsAntisymmetric}
use Rattle.mm_num.specs.Power.{power}
use Rattle.mm_poly.specs.declared.term.Term.{Term}
use Rattle.mm_poly.specs.Mono.{mono_value, mono_degree, mono_cmp, factor_cmp, VarsAbove, VarsBelow, IsMono, IsMonomial}
use Rattle.mm_poly.specs.Poly.{value, norm, spread, degree, AllAfter, IsPoly, EachMono, AllMono, HasPlaces, Fits, plus}
use Rattle.mm_poly.specs.Product.{AllNonZero}
use Rattle.mm_poly.specs.Renaming.{renamed_mono, renamed_terms, renamed, Rises}
use Rattle.mm_poly.proofs.CaseLaws.{by_cases}
use Rattle.mm_poly.proofs.TestLaws.{nat_less, nat_more}
use Rattle.mm_poly.proofs.BoundLaws.{degree_times_factor, norm_plus, spread_plus}
use Rattle.mm_poly.proofs.EachLaws.{each_plus, all_mono, all_room, all_low}
use Rattle.mm_poly.proofs.FactorLaws.{less_is, more_is, above_factor, factor_first}
use Rattle.mm_poly.proofs.ValueLaws.{value_times_factor, value_plus, sum_zero}
use Rattle.mm_poly.proofs.SumLaws.{plus_nil}
use Rattle.mm_poly.proofs.ProductLaws.{poly_joined}

value_mono : (x : ℕ → ℤ) (r : ℕ → ℕ) (fs : List (ℕ × ℕ)) → mono_value x (renamed_mono r fs) ≡ mono_value (λ v. x (r v)) fs
value_mono x r [] = refl
value_mono x r (f ∷ fs) = value_times_factor x (r f.0, f.1) (renamed_mono r fs) ∙ ap (λ z. power (x (r f.0)) f.1 *ℤ z) (value_mono x r fs)

value_terms : (x : ℕ → ℤ) (r : ℕ → ℕ) (ts : List Term) → value x (renamed_terms r ts) ≡ value (λ v. x (r v)) ts
value_terms x r [] = refl
value_terms x r (t ∷ ts) =
    ap (λ z. t.coeff *ℤ z +ℤ value x (renamed_terms r ts)) (value_mono x r t.mono) ∙ ap (λ z. t.coeff *ℤ mono_value (λ v. x (r v)) t.mono +ℤ z) (value_terms x r ts)

-- the value is that at the renamed point
pub value_renamed : (x : ℕ → ℤ) (r : ℕ → ℕ) (ts : List Term) → value x (renamed r ts) ≡ value (λ v. x (r v)) ts
value_renamed x r ts = value_plus x (renamed_terms r ts) [] ∙ sum_zero (value x (renamed_terms r ts)) ∙ value_terms x r ts

-- ---- bounds

pub degree_mono : (r : ℕ → ℕ) (fs : List (ℕ × ℕ)) → mono_degree (renamed_mono r fs) ≡ mono_degree fs
degree_mono r [] = refl
degree_mono r (f ∷ fs) = degree_times_factor (r f.0, f.1) (renamed_mono r fs) ∙ ap (λ n. f.1 + n) (degree_mono r fs)

pub norm_terms : (r : ℕ → ℕ) (ts : List Term) → norm (renamed_terms r ts) ≡ norm ts
norm_terms r [] = refl
norm_terms r (t ∷ ts) = ap (λ n. unsigned_abs t.coeff + n) (norm_terms r ts)

pub spread_terms : (r : ℕ → ℕ) (ts : List Term) → spread (renamed_terms r ts) ≡ spread ts
spread_terms r [] = refl
spread_terms r (t ∷ ts) = omega (arith, spread_terms r ts)

pub degree_terms : (r : ℕ → ℕ) (ts : List Term) → degree (renamed_terms r ts) ≡ degree ts
degree_terms r [] = refl
degree_terms r (t ∷ ts) = omega (arith, degree_mono r t.mono, degree_terms r ts)

pub nonzero_renamed : (r : ℕ → ℕ) (ts : List Term) → IsPoly ts → AllNonZero (renamed_terms r ts)
nonzero_renamed r [] p = tt
nonzero_renamed r (t ∷ ts) p = (p.0, nonzero_renamed r ts p.2)

-- terms that are joined are a polynomial within its bounds
pub fits_plus_nil : (ts : List Term) → AllNonZero ts → EachMono IsMonomial ts → norm ts < 2 ^ 126 → spread ts ≤ 65536 → Fits (plus ts [])
fits_plus_nil ts n a s k =
    let each = each_plus IsMonomial ts [] a tt in
    record {
      order = poly_joined ts n;
      monos = all_mono (plus ts []) each;
      room = all_room (plus ts []) each;
      norm = omega (arith, norm_plus ts []);
      spread = omega (arith, spread_plus ts []);
      degree = all_low (plus ts []) each;
    }

-- renamed terms are joined within the bounds
pub renamed_nonzero : (r : ℕ → ℕ) (p ts : List Term) → ts ≡ renamed_terms r p → Fits p → AllNonZero ts
renamed_nonzero r p ts e f = subst (λ us. AllNonZero us) (sym e) (nonzero_renamed r p f.order)

pub renamed_small : (r : ℕ → ℕ) (p ts : List Term) → ts ≡ renamed_terms r p → Fits p → norm ts < 2 ^ 126
renamed_small r p ts e f = omega (arith, ap (λ (us : List Term). norm us) e, norm_terms r p, f.norm)

pub renamed_fits : (r : ℕ → ℕ) (p ts : List Term) → ts ≡ renamed_terms r p → Fits p → EachMono IsMonomial ts → Fits (plus ts [])
renamed_fits r p ts e f a =
    fits_plus_nil ts (renamed_nonzero r p ts e f) a (renamed_small r p ts e f) (omega (arith, ap (λ (us : List Term). spread us) e, spread_terms r p, f.spread))

-- ---- a table that rises

above_renamed : (n : ℕ) (r : ℕ → ℕ) (v : ℕ) (fs : List (ℕ × ℕ)) → Rises n r → VarsBelow n fs → VarsAbove v fs → VarsAbove (r v) (renamed_mono r fs)
above_renamed n r v [] up b a = tt
above_renamed n r v (f ∷ fs) up b a = above_factor (r v) (r f.0, f.1) (renamed_mono r fs) (up v f.0 a.0 b.0) (above_renamed n r v fs up b.1 a.1)

first_renamed : (n : ℕ) (r : ℕ → ℕ) (f : ℕ × ℕ) (fs : List (ℕ × ℕ)) → Rises n r → VarsBelow n (f ∷ fs) → IsMono (f ∷ fs) → renamed_mono r (f ∷ fs) ≡ (r f.0, f.1) ∷ renamed_mono r fs
first_renamed n r f fs up b m = factor_first (r f.0, f.1) (renamed_mono r fs) (above_renamed n r f.0 fs up b.1 m.1)

number_cmp : (n : ℕ) (r : ℕ → ℕ) (v w : ℕ) → Rises n r → v < n → w < n → nat_cmp (r v) (r w) ≡ nat_cmp v w
number_cmp n r v w up h k = by_cases (nat_cmp v w)
    (λ o. nat_less (r v) (r w) (up v w (less_is v w o) k) ∙ sym o)
    (λ o. ap (λ u. nat_cmp (r v) (r u)) (sym (nat_cmp-IsAntisymmetric v w o)) ∙ tied_itself nat_cmp_total (r v) ∙ sym o)
    (λ o. nat_more (r v) (r w) (up w v (more_is v w o) h) ∙ sym o)

slice_renamed : (n : ℕ) (r : ℕ → ℕ) (a b : List (ℕ × ℕ)) → Rises n r → VarsBelow n a → IsMono a → VarsBelow n b → IsMono b
    → slice_cmp factor_cmp (renamed_mono r a) (renamed_mono r b) ≡ slice_cmp factor_cmp a b
slice_renamed n r [] [] up x m y k = refl
slice_renamed n r [] (h ∷ hs) up x m y k = ap (λ (ys : List (ℕ × ℕ)). slice_cmp factor_cmp [] ys) (first_renamed n r h hs up y k)
slice_renamed n r (g ∷ gs) [] up x m y k = ap (λ (xs : List (ℕ × ℕ)). slice_cmp factor_cmp xs []) (first_renamed n r g gs up x m)
slice_renamed n r (g ∷ gs) (h ∷ hs) up x m y k =
    ap (λ (xs : List (ℕ × ℕ)). slice_cmp factor_cmp xs (renamed_mono r (h ∷ hs))) (first_renamed n r g gs up x m)
    ∙ ap (λ (ys : List (ℕ × ℕ)). slice_cmp factor_cmp ((r g.0, g.1) ∷ renamed_mono r gs) ys) (first_renamed n r h hs up y k)
    ∙ ap (λ o. ordering_then (ordering_then o (nat_cmp h.1 g.1)) (slice_cmp factor_cmp (renamed_mono r gs) (renamed_mono r hs))) (number_cmp n r g.0 h.0 up x.0 y.0)
    ∙ ap (λ o. ordering_then (factor_cmp g h) o) (slice_renamed n r gs hs up x.1 m.2 y.1 k.2)

-- the order of monomials stays
pub cmp_renamed : (n : ℕ) (r : ℕ → ℕ) (a b : List (ℕ × ℕ)) → Rises n r → VarsBelow n a → IsMono a → VarsBelow n b → IsMono b
    → mono_cmp (renamed_mono r a) (renamed_mono r b) ≡ mono_cmp a b
cmp_renamed n r a b up x m y k =
    ap (λ d. ordering_then (nat_cmp d (mono_degree (renamed_mono r a))) (slice_cmp factor_cmp (renamed_mono r a) (renamed_mono r b))) (degree_mono r b)
    ∙ ap (λ d. ordering_then (nat_cmp (mono_degree b) d) (slice_cmp factor_cmp (renamed_mono r a) (renamed_mono r b))) (degree_mono r a)
    ∙ ap (λ o. ordering_then (nat_cmp (mono_degree b) (mono_degree a)) o) (slice_renamed n r a b up x m y k)

after_renamed : (n : ℕ) (r : ℕ → ℕ) (m : List (ℕ × ℕ)) (ts : List Term) → Rises n r → VarsBelow n m → IsMono m → HasPlaces n ts → AllMono ts → AllAfter m ts
    → AllAfter (renamed_mono r m) (renamed_terms r ts)
after_renamed n r m [] up x k y l a = tt
after_renamed n r m (t ∷ ts) up x k y l a = (cmp_renamed n r m t.mono up x k y.0 l.0 ∙ a.0, after_renamed n r m ts up x k y.1 l.1 a.1)

poly_renamed : (n : ℕ) (r : ℕ → ℕ) (ts : List Term) → Rises n r → HasPlaces n ts → AllMono ts → IsPoly ts → IsPoly (renamed_terms r ts)
poly_renamed n r [] up y l p = tt
poly_renamed n r (t ∷ ts) up y l p = (p.0, after_renamed n r t.mono ts up y.0 l.0 y.1 l.1 p.1, poly_renamed n r ts up y.1 l.1 p.2)

-- term by term where the table rises
pub rising_renamed : (n : ℕ) (r : ℕ → ℕ) (ts : List Term) → Rises n r → HasPlaces n ts → AllMono ts → IsPoly ts → renamed r ts ≡ renamed_terms r ts
rising_renamed n r ts up y l p = plus_nil (renamed_terms r ts) (poly_renamed n r ts up y l p)

pub rising_norm : (n : ℕ) (r : ℕ → ℕ) (ts : List Term) → Rises n r → HasPlaces n ts → AllMono ts → IsPoly ts → norm (renamed r ts) ≡ norm ts
rising_norm n r ts up y l p = ap (λ (us : List Term). norm us) (rising_renamed n r ts up y l p) ∙ norm_terms r ts

pub rising_spread : (n : ℕ) (r : ℕ → ℕ) (ts : List Term) → Rises n r → HasPlaces n ts → AllMono ts → IsPoly ts → spread (renamed r ts) ≡ spread ts
rising_spread n r ts up y l p = ap (λ (us : List Term). spread us) (rising_renamed n r ts up y l p) ∙ spread_terms r ts

pub rising_degree : (n : ℕ) (r : ℕ → ℕ) (ts : List Term) → Rises n r → HasPlaces n ts → AllMono ts → IsPoly ts → degree (renamed r ts) ≡ degree ts
rising_degree n r ts up y l p = ap (λ (us : List Term). degree us) (rising_renamed n r ts up y l p) ∙ degree_terms r ts

-- ---- code

pub place_of : (m : ℕ) (fs : List (ℕ × ℕ)) (n : ℕ) (d : ℕ × ℕ) → n < length fs → VarsBelow m fs → (get_or fs n d).0 < m
place_of m [] n d h a = absurd (omega arith)
place_of m (f ∷ fs) zero d h a = a.0
place_of m (f ∷ fs) (suc n) d h a = place_of m fs n d (omega arith) a.1

pub exponent_at : (fs : List (ℕ × ℕ)) (n : ℕ) (d : ℕ × ℕ) → n < length fs → IsMono fs → 1 ≤ (get_or fs n d).1
exponent_at [] n d h a = absurd (omega arith)
exponent_at (f ∷ fs) zero d h a = a.0
exponent_at (f ∷ fs) (suc n) d h a = exponent_at fs n d (omega arith) a.2

pub degree_part : (fs : List (ℕ × ℕ)) (n k : ℕ) (d : ℕ × ℕ) → n < length fs → k ≡ n + 1 → (get_or fs n d).1 + mono_degree (drop k fs) ≤ mono_degree fs
degree_part [] n k d h e = absurd (omega arith)
degree_part (f ∷ fs) zero k d h e = let s : k ≡ 1 = omega arith in rw s (omega arith)
degree_part (f ∷ fs) (suc n) k d h e = let s : k ≡ suc (n + 1) = omega arith in rw s (omega (arith, degree_part fs n (n + 1) d (omega arith) refl))
