-- The exact shadow (Pugh 1991): where all lower or all upper coefficients are 1, a whole number between the bounds
-- exists where each pair of them leaves room.
use Rattle.std.specs.Prelude.{◌≡◌, ℕ, ◌<◌, ◌⊎◌, ℤ, pos, ◌+ℤ◌, ◌*ℤ◌, ◌≤ℤ◌, neg_ℤ, List, [], ◌∷◌}
use Rattle.std.proofs.Common.{inl, inr, ap, sym, ◌∙◌, subst, arith}
use Rattle.std.proofs.lemmas.Int.{ints, int_min_is, int_max_is}
use Rattle.std.specs.List.{AllByRecursion}
use Rattle.std.specs.Int.{int_min, int_max}
use Rattle.mm_num.specs.Quotient.{floor_by}
use Rattle.mm_num.proofs.QuotientLaws.{floor_below}
use Rattle.mm_num.proofs.Ring.{dist, mul_neg, product_nonneg}
use Rattle.mm_poly.proofs.ValueLaws.{one_mul}
use Rattle.mm_poly.proofs.CutLaws.{cut_number}
use Rattle.cert_kit.specs.declared.row.PRow.{PRow}
use Rattle.fm_elim.specs.Points.{Values, least_allowed, greatest_allowed, lowered, raised}
use Rattle.fm_elim.proofs.ListLaws.{all_zip}
use Rattle.mm_num.proofs.QuotientLaws.{by_one}

first_bound : (k f : ℤ) → pos 0 ≤ℤ (k +ℤ f) → neg_ℤ k ≤ℤ f
first_bound k f h = omega (arith, ints)

second_bound : (m f : ℤ) → pos 0 ≤ℤ (m +ℤ f) → neg_ℤ f ≤ℤ m
second_bound m f h = omega (arith, ints)

swapped : (s t : ℤ) → pos 0 ≤ℤ (s +ℤ t) → pos 0 ≤ℤ (t +ℤ s)
swapped s t h = omega (arith, ints)

-- a lower bound -k/a and an upper bound m/b of which the pair leaves room, where a or b is 1
pub allows_both : (a b : ℕ) (k m : ℤ) → 0 < a → 0 < b → (a ≡ 1) ⊎ (b ≡ 1) → pos 0 ≤ℤ (pos b *ℤ k +ℤ pos a *ℤ m) → neg_ℤ (floor_by k a) ≤ℤ floor_by m b
allows_both a b k m h i (inl e) l =
    let one : pos a *ℤ m ≡ m = ap (λ n. pos n *ℤ m) e ∙ one_mul m in
    let p : pos 0 ≤ℤ (k +ℤ floor_by m b) = cut_number b k m i (subst (λ z. pos 0 ≤ℤ (pos b *ℤ k +ℤ z)) one l) in
    subst (λ z. neg_ℤ z ≤ℤ floor_by m b) (sym (ap (floor_by k) e ∙ by_one k)) (first_bound k (floor_by m b) p)
allows_both a b k m h i (inr e) l =
    let one : pos b *ℤ k ≡ k = ap (λ n. pos n *ℤ k) e ∙ one_mul k in
    let p : pos 0 ≤ℤ (m +ℤ floor_by k a) = cut_number a m k h (swapped k (pos a *ℤ m) (subst (λ z. pos 0 ≤ℤ (z +ℤ pos a *ℤ m)) one l)) in
    subst (λ z. neg_ℤ (floor_by k a) ≤ℤ z) (sym (ap (floor_by m) e ∙ by_one m)) (second_bound m (floor_by k a) p)

-- the chosen value is allowed

pub lowered_most : (u : List (ℕ × ℕ)) (v : Values) (hs : List PRow) (z : ℤ) → (lowered u v hs z ≤ℤ z) × AllByRecursion (λ h. lowered u v hs z ≤ℤ greatest_allowed u v h) hs
lowered_most u v [] z = (omega (arith, ints), tt)
lowered_most u v (h ∷ hs) z =
    let g = greatest_allowed u v h in
    let rest = lowered_most u v hs (int_min z g) in
    let here = rest.0 in
    let m = int_min_is z g in
    (omega (arith, ints), (omega (arith, ints), rest.1))

pub raised_least : (u : List (ℕ × ℕ)) (v : Values) (ls : List PRow) (z : ℤ) → (z ≤ℤ raised u v ls z) × AllByRecursion (λ l. least_allowed u v l ≤ℤ raised u v ls z) ls
raised_least u v [] z = (omega (arith, ints), tt)
raised_least u v (l ∷ ls) z =
    let g = least_allowed u v l in
    let rest = raised_least u v ls (int_max z g) in
    let here = rest.0 in
    let m = int_max_is z g in
    (omega (arith, ints), (omega (arith, ints), rest.1))

most_of : (z g t : ℤ) → z ≤ℤ t → g ≤ℤ t → int_max z g ≤ℤ t
most_of z g t h k = let m = int_max_is z g in omega (arith, ints)

pub raised_most : (u : List (ℕ × ℕ)) (v : Values) (ls hs : List PRow) (z : ℤ)
    → AllByRecursion (λ l. AllByRecursion (λ h. least_allowed u v l ≤ℤ greatest_allowed u v h) hs) ls
    → AllByRecursion (λ h. z ≤ℤ greatest_allowed u v h) hs
    → AllByRecursion (λ h. raised u v ls z ≤ℤ greatest_allowed u v h) hs
raised_most u v [] hs z a b = b
raised_most u v (l ∷ ls) hs z a b =
    raised_most u v ls hs (int_max z (least_allowed u v l)) a.1
    (all_zip (λ h. z ≤ℤ greatest_allowed u v h) (λ h. least_allowed u v l ≤ℤ greatest_allowed u v h) (λ h. int_max z (least_allowed u v l) ≤ℤ greatest_allowed u v h) hs
    (λ h p q. most_of z (least_allowed u v l) (greatest_allowed u v h) p q) b a.0)

-- a lower row holds from its bound on, and an upper row up to its bound

times_more : (a : ℕ) (y z : ℤ) → y ≤ℤ z → (pos a *ℤ y) ≤ℤ (pos a *ℤ z)
times_more a y z h =
    let d = z +ℤ neg_ℤ y in
    let n : pos 0 ≤ℤ d = omega (arith, ints) in
    let m : pos 0 ≤ℤ pos a = omega (arith, ints) in
    let p = product_nonneg (pos a) (z +ℤ neg_ℤ y) m n in
    let e = dist (pos a) z (neg_ℤ y) in
    let f = mul_neg (pos a) y in
    omega (arith, ints, p, e, f)

pub lower_holds : (a : ℕ) (k z : ℤ) → 0 < a → neg_ℤ (floor_by k a) ≤ℤ z → pos 0 ≤ℤ (pos a *ℤ z +ℤ k)
lower_holds a k z h l =
    let f = floor_below k a h in
    let t = times_more a (neg_ℤ (floor_by k a)) z l in
    let m = mul_neg (pos a) (floor_by k a) in
    omega (arith, ints, f, t, m)

pub upper_holds : (b : ℕ) (m z : ℤ) → 0 < b → z ≤ℤ floor_by m b → pos 0 ≤ℤ (neg_ℤ (pos b *ℤ z) +ℤ m)
upper_holds b m z h l =
    let f = floor_below m b h in
    let t = times_more b z (floor_by m b) l in
    omega (arith, ints, f, t)

pub times_at : (n : ℕ) (z : ℤ) → pos 0 ≤ℤ z → pos 0 ≤ℤ (pos n *ℤ z)
times_at n z h = let p : pos 0 ≤ℤ pos n = omega (arith, ints) in product_nonneg (pos n) z p h
