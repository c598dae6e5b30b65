-- An exact elimination of an unknown: with the chosen value its rows hold.
use Rattle.std.specs.Prelude.{◌≡◌, ℕ, zero, suc, ◌<◌, ◌⊎◌, ℤ, pos, negsuc, ◌+ℤ◌, ◌*ℤ◌, ◌≤ℤ◌, neg_ℤ, unsigned_abs, List, [], ◌∷◌, ◌++◌, map, Bool, true, false, cond, ◌||◌, int_le, int_lt, refl}
use Rattle.std.proofs.Common.{inl, inr, ap, sym, ◌∙◌, subst, arith}
use Rattle.std.proofs.lemmas.Int.{ints}
use Rattle.std.proofs.lemmas.Bool.{and_parts}
use Rattle.std.proofs.Math.IntN.{*ℤ_comm}
use Rattle.std.specs.List.{AllByRecursion, list_all}
use Rattle.std.specs.Ordering.{int_eq}
use Rattle.mm_num.proofs.Ring.{neg_mul, mul_neg}
use Rattle.mm_poly.specs.Poly.{IsPoly, coeff_of, linear_value, with_weight, plus, scaled}
use Rattle.mm_poly.proofs.LinearLaws.{linear_plus, linear_scaled, linear_set}
use Rattle.mm_poly.proofs.CoeffLaws.{coeff_plus}
use Rattle.mm_poly.proofs.FiniteLaws.{coeff_scaled}
use Rattle.mm_poly.proofs.PolyLaws.{poly_plus, poly_scaled}
use Rattle.cert_kit.specs.declared.row.Op.{Op}
use Rattle.cert_kit.specs.declared.row.Op.TheVariants.{Ge, Eq}
use Rattle.cert_kit.specs.declared.row.PRow.{PRow}
use Rattle.cert_kit.specs.Row.{Compares}
use Rattle.fm_elim.specs.declared.removal.Removal.TheVariants.{Bounded}
use Rattle.fm_elim.specs.Unknowns.{coeff_in, without, lowers, uppers}
use Rattle.fm_elim.specs.Tidy.{is_inequality}
use Rattle.fm_elim.specs.Steps.{combined, combined_all, is_exact}
use Rattle.fm_elim.specs.Points.{Values, rest_of, least_allowed, greatest_allowed, lowered, raised, value_after, HoldsBy}
use Rattle.fm_elim.proofs.ListLaws.{all_first, all_second, all_unmap, all_zip, all_filter}
use Rattle.fm_elim.proofs.TidyLaws.{IsPolyRow}
use Rattle.fm_elim.proofs.RuleLaws.{IsInequality, IsExactIn}
use Rattle.fm_elim.proofs.PointLaws.{unchanged}
use Rattle.fm_elim.proofs.ShadowLaws.{allows_both, lowered_most, raised_least, raised_most, lower_holds, upper_holds}

-- a polynomial, an inequality, and the unknown's coefficient in it
pub record IsLower (u : List (ℕ × ℕ)) (r : PRow) : Type 0 where
  pub poly : IsPolyRow r
  pub inequality : IsInequality r
  pub above : 0 < unsigned_abs (coeff_in u r)
  pub sign : coeff_in u r ≡ pos (unsigned_abs (coeff_in u r))

pub record IsUpper (u : List (ℕ × ℕ)) (r : PRow) : Type 0 where
  pub poly : IsPolyRow r
  pub inequality : IsInequality r
  pub above : 0 < unsigned_abs (coeff_in u r)
  pub sign : coeff_in u r ≡ neg_ℤ (pos (unsigned_abs (coeff_in u r)))

pub above_sign : (c : ℤ) → int_lt (pos 0) c ≡ true → (0 < unsigned_abs c) × (c ≡ pos (unsigned_abs c))
above_sign (pos n) e = (grind (arith, ints), refl)
above_sign (negsuc n) e = absurd (grind (arith, ints))

pub below_sign : (c : ℤ) → int_lt c (pos 0) ≡ true → (0 < unsigned_abs c) × (c ≡ neg_ℤ (pos (unsigned_abs c)))
below_sign (pos n) e = absurd (grind (arith, ints))
below_sign (negsuc n) e = (omega arith, refl)

abbrev IsGood : PRow → Type 0
IsGood r = IsPolyRow r × IsInequality r

lowers_are : (u : List (ℕ × ℕ)) (rows : List PRow) → AllByRecursion IsGood rows → AllByRecursion (IsLower u) (lowers u rows)
lowers_are u rows a = all_filter (λ r. int_lt (pos 0) (coeff_in u r)) IsGood (IsLower u) rows
    (λ r t g. let s = above_sign (coeff_in u r) t in record { poly = g.0; inequality = g.1; above = s.0; sign = s.1 }) a

uppers_are : (u : List (ℕ × ℕ)) (rows : List PRow) → AllByRecursion IsGood rows → AllByRecursion (IsUpper u) (uppers u rows)
uppers_are u rows a = all_filter (λ r. int_lt (coeff_in u r) (pos 0)) IsGood (IsUpper u) rows
    (λ r t g. let s = below_sign (coeff_in u r) t in record { poly = g.0; inequality = g.1; above = s.0; sign = s.1 }) a

abbrev IsOne : List (ℕ × ℕ) → PRow → Type 0
IsOne u r = unsigned_abs (coeff_in u r) ≡ 1

all_pass : {X : Type 0} (test : X → Bool) (xs : List X) → list_all test xs ≡ true → AllByRecursion (λ x. test x ≡ true) xs
all_pass test [] e = tt
all_pass test (x ∷ xs) e = let b = and_parts (test x) (list_all test xs) e in (b.0, all_pass test xs b.1)

lower_one : (c : ℤ) → int_lt (pos 0) c ≡ true → int_le c (pos 1) ≡ true → unsigned_abs c ≡ 1
lower_one c e f = grind (arith, ints)

upper_one : (c : ℤ) → int_lt c (pos 0) ≡ true → int_le (negsuc 0) c ≡ true → unsigned_abs c ≡ 1
upper_one c e f = grind (arith, ints)

-- all lower or all upper coefficients are 1
ones : (u : List (ℕ × ℕ)) (rows : List PRow) → is_exact rows u ≡ true → AllByRecursion (IsOne u) (lowers u rows) ⊎ AllByRecursion (IsOne u) (uppers u rows)
ones u rows e = by_test (list_all (λ r. int_le (coeff_in u r) (pos 1)) rows) refl
  where
    by_test : (b : Bool) → list_all (λ r. int_le (coeff_in u r) (pos 1)) rows ≡ b → AllByRecursion (IsOne u) (lowers u rows) ⊎ AllByRecursion (IsOne u) (uppers u rows)
    by_test true f = inl (all_filter (λ r. int_lt (pos 0) (coeff_in u r)) (λ r. int_le (coeff_in u r) (pos 1) ≡ true) (IsOne u) rows (λ r t g. lower_one (coeff_in u r) t g)
        (all_pass (λ r. int_le (coeff_in u r) (pos 1)) rows f))
    by_test false f = inr (all_filter (λ r. int_lt (coeff_in u r) (pos 0)) (λ r. int_le (negsuc 0) (coeff_in u r) ≡ true) (IsOne u) rows (λ r t g. upper_one (coeff_in u r) t g)
        (all_pass (λ r. int_le (negsuc 0) (coeff_in u r)) rows (sym (ap (λ b. b || list_all (λ r. int_le (negsuc 0) (coeff_in u r)) rows) f) ∙ e)))

-- a pair leaves room for a whole number

pub pair_cancels : (a b : ℕ) (c d : ℤ) → c ≡ pos a → d ≡ neg_ℤ (pos b) → pos b *ℤ c +ℤ pos a *ℤ d ≡ pos 0
pair_cancels a b c d e f =
    ap (λ z. pos b *ℤ z +ℤ pos a *ℤ d) e
    ∙ ap (λ z. pos b *ℤ pos a +ℤ z) (ap (λ z. pos a *ℤ z) f ∙ mul_neg (pos a) (pos b) ∙ ap neg_ℤ (*ℤ_comm (pos a) (pos b)))
    ∙ opposite (pos b *ℤ pos a)
  where
    opposite : (z : ℤ) → z +ℤ neg_ℤ z ≡ pos 0
    opposite z = omega (arith, ints)

pair_allows : (v : Values) (u : List (ℕ × ℕ)) (l h : PRow) → IsLower u l → IsUpper u h → IsOne u l ⊎ IsOne u h → HoldsBy v (combined u l h)
    → least_allowed u v l ≤ℤ greatest_allowed u v h
pair_allows v u l h p q o k =
    let a = unsigned_abs (coeff_in u l) in
    let b = unsigned_abs (coeff_in u h) in
    let first = scaled (pos b) l.poly in
    let second = scaled (pos a) h.poly in
    let pf : IsPoly (scaled (pos (unsigned_abs (coeff_in u h))) l.poly) = poly_scaled (pos b) l.poly p.poly in
    let ps : IsPoly (scaled (pos (unsigned_abs (coeff_in u l))) h.poly) = poly_scaled (pos a) h.poly q.poly in
    let gone : coeff_of (plus (scaled (pos (unsigned_abs (coeff_in u h))) l.poly) (scaled (pos (unsigned_abs (coeff_in u l))) h.poly)) u ≡ pos 0 =
    coeff_plus first second u pf ps ∙ ap (λ z. z +ℤ coeff_of second u) (coeff_scaled (pos b) l.poly u p.poly)
    ∙ ap (λ z. pos b *ℤ coeff_in u l +ℤ z) (coeff_scaled (pos a) h.poly u q.poly) ∙ pair_cancels a b (coeff_in u l) (coeff_in u h) p.sign q.sign in
    let w = with_weight v u (pos 0) in
    let e : linear_value v (plus (scaled (pos (unsigned_abs (coeff_in u h))) l.poly) (scaled (pos (unsigned_abs (coeff_in u l))) h.poly))
    ≡ pos (unsigned_abs (coeff_in u h)) *ℤ rest_of u v l.poly +ℤ pos (unsigned_abs (coeff_in u l)) *ℤ rest_of u v h.poly =
    sym (unchanged v u (pos 0) (plus first second) (poly_plus first second pf ps) gone) ∙ linear_plus w first second
    ∙ ap (λ z. z +ℤ linear_value w second) (linear_scaled w (pos b) l.poly) ∙ ap (λ z. pos b *ℤ linear_value w l.poly +ℤ z) (linear_scaled w (pos a) h.poly) in
    allows_both a b (rest_of u v l.poly) (rest_of u v h.poly) p.above q.above o (subst (λ z. pos 0 ≤ℤ z) e k)

all_pairs : (v : Values) (u : List (ℕ × ℕ)) (ls hs : List PRow) → AllByRecursion (IsLower u) ls → AllByRecursion (IsUpper u) hs
    → AllByRecursion (IsOne u) ls ⊎ AllByRecursion (IsOne u) hs → AllByRecursion (HoldsBy v) (combined_all u ls hs)
    → AllByRecursion (λ l. AllByRecursion (λ h. least_allowed u v l ≤ℤ greatest_allowed u v h) hs) ls
all_pairs v u [] hs a b o c = tt
all_pairs v u (l ∷ ls) hs a b (inl o) c = (
  all_zip (IsUpper u) (λ h. HoldsBy v (combined u l h)) (λ h. least_allowed u v l ≤ℤ greatest_allowed u v h) hs
      (λ h q k. pair_allows v u l h a.0 q (inl o.0) k) b (all_unmap (HoldsBy v) (combined u l) hs (all_first (HoldsBy v) (map (combined u l) hs) (combined_all u ls hs) c)),
  all_pairs v u ls hs a.1 b (inl o.1) (all_second (HoldsBy v) (map (combined u l) hs) (combined_all u ls hs) c),
)
all_pairs v u (l ∷ ls) hs a b (inr o) c = (
  all_zip (λ h. IsUpper u h × IsOne u h) (λ h. HoldsBy v (combined u l h)) (λ h. least_allowed u v l ≤ℤ greatest_allowed u v h) hs
      (λ h q k. pair_allows v u l h a.0 q.0 (inr q.1) k) (all_zip (IsUpper u) (IsOne u) (λ h. IsUpper u h × IsOne u h) hs (λ h q k. (q, k)) b o)
      (all_unmap (HoldsBy v) (combined u l) hs (all_first (HoldsBy v) (map (combined u l) hs) (combined_all u ls hs) c)),
  all_pairs v u ls hs a.1 b (inr o) (all_second (HoldsBy v) (map (combined u l) hs) (combined_all u ls hs) c),
)

-- with a value between the bounds the unknown's rows hold

least_compares : (o : Op) (z : ℤ) → is_inequality o ≡ true → pos 0 ≤ℤ z → Compares o z
least_compares Ge z e h = h
least_compares Eq z e h = absurd cc

lower_back : (v : Values) (u : List (ℕ × ℕ)) (z : ℤ) (l : PRow) → IsLower u l → least_allowed u v l ≤ℤ z → HoldsBy (with_weight v u z) l
lower_back v u z l p h = least_compares l.op _ p.inequality
    (subst (λ y. pos 0 ≤ℤ y) (sym (linear_set v u z l.poly p.poly ∙ ap (λ c. c *ℤ z +ℤ rest_of u v l.poly) p.sign))
    (lower_holds (unsigned_abs (coeff_in u l)) (rest_of u v l.poly) z p.above h))

upper_back : (v : Values) (u : List (ℕ × ℕ)) (z : ℤ) (h : PRow) → IsUpper u h → z ≤ℤ greatest_allowed u v h → HoldsBy (with_weight v u z) h
upper_back v u z h p k = least_compares h.op _ p.inequality
    (subst (λ y. pos 0 ≤ℤ y)
    (sym (linear_set v u z h.poly p.poly ∙ ap (λ c. c *ℤ z +ℤ rest_of u v h.poly) p.sign ∙ ap (λ y. y +ℤ rest_of u v h.poly) (neg_mul (pos (unsigned_abs (coeff_in u h))) z)))
    (upper_holds (unsigned_abs (coeff_in u h)) (rest_of u v h.poly) z p.above k))

three_parts : {X : Type 0} (P : X → Type 0) (c : ℤ) (r : X) (a b d : List X) → AllByRecursion P (cond (int_eq c (pos 0)) (r ∷ a) a)
    → AllByRecursion P (cond (int_lt (pos 0) c) (r ∷ b) b) → AllByRecursion P (cond (int_lt c (pos 0)) (r ∷ d) d)
    → P r × AllByRecursion P a × AllByRecursion P b × AllByRecursion P d
three_parts P (pos zero) r a b d x y z = (x.0, x.1, y, z)
three_parts P (pos (suc n)) r a b d x y z =
    let e : int_eq (pos (suc n)) (pos 0) ≡ false = grind (arith, ints) in
    let f : int_lt (pos 0) (pos (suc n)) ≡ true = grind (arith, ints) in
    let g : int_lt (pos (suc n)) (pos 0) ≡ false = grind (arith, ints) in
    let i = rw f at y in
    (i.0, rw e at x, i.1, rw g at z)
three_parts P (negsuc n) r a b d x y z = (z.0, x, y, z.1)

-- each row is without the unknown, or a lower or an upper row
parts_hold : (P : PRow → Type 0) (u : List (ℕ × ℕ)) (rows : List PRow) → AllByRecursion P (without u rows) → AllByRecursion P (lowers u rows) → AllByRecursion P (uppers u rows) → AllByRecursion P rows
parts_hold P u [] a b d = tt
parts_hold P u (r ∷ rows) a b d =
    let s = three_parts P (coeff_in u r) r (without u rows) (lowers u rows) (uppers u rows) a b d in
    (s.0, parts_hold P u rows s.1 s.2 s.3)

zero_is : (c : ℤ) → int_eq c (pos 0) ≡ true → c ≡ pos 0
zero_is c e = grind (arith, ints)

pub eliminated_back : (v : Values) (u : List (ℕ × ℕ)) (rows : List PRow) → AllByRecursion IsPolyRow rows → IsExactIn rows u
    → AllByRecursion (HoldsBy v) (without u rows ++ combined_all u (lowers u rows) (uppers u rows))
    → AllByRecursion (HoldsBy (with_weight v u (value_after v (Bounded u (lowers u rows) (uppers u rows))))) rows
eliminated_back v u rows a x b =
    let ls = lowers u rows in
    let hs = uppers u rows in
    let start = lowered u v hs (pos 0) in
    let z = raised u v (lowers u rows) (lowered u v (uppers u rows) (pos 0)) in
    let good = all_zip IsPolyRow IsInequality IsGood rows (λ r p q. (p, q)) a x.inequalities in
    let low = lowers_are u rows good in
    let high = uppers_are u rows good in
    let least = raised_least u v ls start in
    let most = raised_most u v ls hs start (all_pairs v u ls hs low high (ones u rows x.exact) (all_second (HoldsBy v) (without u rows) (combined_all u ls hs) b)) (lowered_most u v hs (pos 0)).1 in
    let gone = all_filter (λ r. int_eq (coeff_in u r) (pos 0)) IsPolyRow (λ r. IsPolyRow r × (coeff_in u r ≡ pos 0)) rows (λ r t p. (p, zero_is (coeff_in u r) t)) a in
    parts_hold (HoldsBy (with_weight v u z)) u rows
    (all_zip (λ r. IsPolyRow r × (coeff_in u r ≡ pos 0)) (HoldsBy v) (HoldsBy (with_weight v u z)) (without u rows)
    (λ r p k. subst (Compares r.op) (sym (unchanged v u z r.poly p.0 p.1)) k) gone (all_first (HoldsBy v) (without u rows) (combined_all u ls hs) b))
    (all_zip (IsLower u) (λ l. least_allowed u v l ≤ℤ z) (HoldsBy (with_weight v u z)) ls (λ l p k. lower_back v u z l p k) low least.1)
    (all_zip (IsUpper u) (λ h. z ≤ℤ greatest_allowed u v h) (HoldsBy (with_weight v u z)) hs (λ h p k. upper_back v u z h p k) high most)
