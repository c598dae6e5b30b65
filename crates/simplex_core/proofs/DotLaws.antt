-- Sums of numbers times the values of a point.
use Rattle.std.specs.Prelude.{◌≡◌, ◌≢◌, ℕ, zero, suc, ◌+◌, ◌<◌, List, [], ◌∷◌, ◌++◌, length, ℤ, pos, ◌+ℤ◌, ◌*ℤ◌, ◌≤ℤ◌, ◌<ℤ◌, neg_ℤ, refl}
use Rattle.std.proofs.Common.{ap, ◌∙◌, arith}
use Rattle.std.proofs.lemmas.Int.{ints}
use Rattle.mm_num.proofs.Ring.{dist, dist_r, assoc, neg_mul, mul_zero}
use Rattle.simplex_core.specs.Rows.{dot}
use Rattle.simplex_core.specs.Form.{at}
use Rattle.simplex_core.specs.machine.Tableau.{negated, combined}

pub length-combined : (a b : ℤ) (cs ds : List ℤ) → length cs ≡ length ds → length (combined a b cs ds) ≡ length cs
length-combined a b [] ds h = refl
length-combined a b (c ∷ cs) [] h = absurd (omega arith)
length-combined a b (c ∷ cs) (d ∷ ds) h = let e = length-combined a b cs ds (omega arith) in omega arith

zero_terms : (a b : ℤ) → pos 0 ≡ a *ℤ pos 0 +ℤ b *ℤ pos 0
zero_terms a b = omega (arith, ints, mul_zero a, mul_zero b)

pub at-combined : (a b : ℤ) (cs ds : List ℤ) (i : ℕ) → length cs ≡ length ds → at (combined a b cs ds) i ≡ a *ℤ at cs i +ℤ b *ℤ at ds i
at-combined a b [] [] i h = zero_terms a b
at-combined a b [] (d ∷ ds) i h = absurd (omega arith)
at-combined a b (c ∷ cs) [] i h = absurd (omega arith)
at-combined a b (c ∷ cs) (d ∷ ds) zero h = refl
at-combined a b (c ∷ cs) (d ∷ ds) (suc i) h = at-combined a b cs ds i (omega arith)

four : (a b c d x p q : ℤ) → (a *ℤ c +ℤ b *ℤ d) *ℤ x +ℤ (a *ℤ p +ℤ b *ℤ q) ≡ a *ℤ (c *ℤ x +ℤ p) +ℤ b *ℤ (d *ℤ x +ℤ q)
four a b c d x p q =
    let r = dist_r (a *ℤ c) (b *ℤ d) x in
    let s = assoc a c x in
    let t = assoc b d x in
    let u = dist a (c *ℤ x) p in
    let w = dist b (d *ℤ x) q in
    omega (arith, ints, r, s, t, u, w)

pub dot-combined : (a b : ℤ) (cs ds : List ℤ) (v : ℕ → ℤ) → length cs ≡ length ds → dot v (combined a b cs ds) ≡ a *ℤ dot v cs +ℤ b *ℤ dot v ds
dot-combined a b [] [] v h = zero_terms a b
dot-combined a b [] (d ∷ ds) v h = absurd (omega arith)
dot-combined a b (c ∷ cs) [] v h = absurd (omega arith)
dot-combined a b (c ∷ cs) (d ∷ ds) v h =
    ap (λ z. (a *ℤ c +ℤ b *ℤ d) *ℤ v 0 +ℤ z) (dot-combined a b cs ds (λ i. v (suc i)) (omega arith))
    ∙ four a b c d (v 0) (dot (λ i. v (suc i)) cs) (dot (λ i. v (suc i)) ds)

pub length-negated : (cs : List ℤ) → length (negated cs) ≡ length cs
length-negated [] = refl
length-negated (c ∷ cs) = ap suc (length-negated cs)

pub at-negated : (cs : List ℤ) (i : ℕ) → at (negated cs) i ≡ neg_ℤ (at cs i)
at-negated [] i = refl
at-negated (c ∷ cs) zero = refl
at-negated (c ∷ cs) (suc i) = at-negated cs i

pub dot-negated : (cs : List ℤ) (v : ℕ → ℤ) → dot v (negated cs) ≡ neg_ℤ (dot v cs)
dot-negated [] v = refl
dot-negated (c ∷ cs) v =
    let e = dot-negated cs (λ i. v (suc i)) in
    let f = neg_mul c (v 0) in
    omega (arith, ints, e, f)

-- the values of a point from a place on
abbrev pub from : ℕ → (ℕ → ℤ) → (ℕ → ℤ)
from s v = λ i. v (s + i)

pub dot-agrees : (cs : List ℤ) (v w : ℕ → ℤ) → ((i : ℕ) → i < length cs → v i ≡ w i) → dot v cs ≡ dot w cs
dot-agrees [] v w h = refl
dot-agrees (c ∷ cs) v w h =
    let e : v 0 ≡ w 0 = h 0 (omega arith) in
    let f : dot (λ i. v (suc i)) cs ≡ dot (λ i. w (suc i)) cs =
    dot-agrees cs (λ i. v (suc i)) (λ i. w (suc i)) (λ i k. h (suc i) (omega arith)) in
    ap (λ z. c *ℤ z +ℤ dot (λ i. v (suc i)) cs) e ∙ ap (λ z. c *ℤ w 0 +ℤ z) f

pub dot-append : (cs ds : List ℤ) (v : ℕ → ℤ) → dot v (cs ++ ds) ≡ dot v cs +ℤ dot (from (length cs) v) ds
dot-append [] ds v =
    let e : dot v ds ≡ dot (from 0 v) ds = dot-agrees ds v (from 0 v) (λ i k. let z : i ≡ 0 + i = omega arith in ap v z) in
    omega (arith, ints, e)
dot-append (c ∷ cs) ds v =
    let w : ℕ → ℤ = λ i. v (suc i) in
    let e : dot w (cs ++ ds) ≡ dot w cs +ℤ dot (from (length cs) w) ds = dot-append cs ds w in
    let f : dot (from (length cs) w) ds ≡ dot (from (suc (length cs)) v) ds =
    dot-agrees ds (from (length cs) w) (from (suc (length cs)) v)
    (λ i k. let z : suc (length cs + i) ≡ suc (length cs) + i = omega arith in ap v z) in
    omega (arith, ints, e, f)

-- no product is below 0
pub dot_nonneg : (cs : List ℤ) (v : ℕ → ℤ) → ((i : ℕ) → i < length cs → pos 0 ≤ℤ (at cs i *ℤ v i)) → pos 0 ≤ℤ dot v cs
dot_nonneg [] v h = omega (arith, ints)
dot_nonneg (c ∷ cs) v h =
    let e : pos 0 ≤ℤ (c *ℤ v 0) = h 0 (omega arith) in
    let f : pos 0 ≤ℤ dot (λ i. v (suc i)) cs = dot_nonneg cs (λ i. v (suc i)) (λ i k. h (suc i) (omega arith)) in
    omega (arith, ints, e, f)

-- no product is below 0, and one is above
pub dot_positive : (cs : List ℤ) (v : ℕ → ℤ) (k : ℕ) → k < length cs → pos 0 <ℤ (at cs k *ℤ v k)
    → ((i : ℕ) → i < length cs → pos 0 ≤ℤ (at cs i *ℤ v i)) → pos 0 <ℤ dot v cs
dot_positive [] v k l p h = absurd (omega arith)
dot_positive (c ∷ cs) v zero l p h =
    let f : pos 0 ≤ℤ dot (λ i. v (suc i)) cs = dot_nonneg cs (λ i. v (suc i)) (λ i q. h (suc i) (omega arith)) in
    omega (arith, ints, p, f)
dot_positive (c ∷ cs) v (suc k) l p h =
    let e : pos 0 ≤ℤ (c *ℤ v 0) = h 0 (omega arith) in
    let f : pos 0 <ℤ dot (λ i. v (suc i)) cs =
    dot_positive cs (λ i. v (suc i)) k (omega arith) p (λ i q. h (suc i) (omega arith)) in
    omega (arith, ints, e, f)

-- all products are 0
pub dot_zero : (cs : List ℤ) (v : ℕ → ℤ) → ((i : ℕ) → i < length cs → at cs i *ℤ v i ≡ pos 0) → dot v cs ≡ pos 0
dot_zero [] v h = refl
dot_zero (c ∷ cs) v h =
    let e : c *ℤ v 0 ≡ pos 0 = h 0 (omega arith) in
    let f : dot (λ i. v (suc i)) cs ≡ pos 0 = dot_zero cs (λ i. v (suc i)) (λ i k. h (suc i) (omega arith)) in
    omega (arith, ints, e, f)

-- all products are 0 but one
pub dot_one : (cs : List ℤ) (v : ℕ → ℤ) (b : ℕ) → b < length cs → ((i : ℕ) → i < length cs → i ≢ b → at cs i *ℤ v i ≡ pos 0)
    → dot v cs ≡ at cs b *ℤ v b
dot_one [] v b l h = absurd (omega arith)
dot_one (c ∷ cs) v zero l h =
    let f : dot (λ i. v (suc i)) cs ≡ pos 0 = dot_zero cs (λ i. v (suc i)) (λ i k. h (suc i) (omega arith) (λ e. absurd (omega (arith, e)))) in
    omega (arith, ints, f)
dot_one (c ∷ cs) v (suc b) l h =
    let e : c *ℤ v 0 ≡ pos 0 = h 0 (omega arith) (λ e. absurd (omega (arith, e))) in
    let f : dot (λ i. v (suc i)) cs ≡ at cs b *ℤ v (suc b) =
    dot_one cs (λ i. v (suc i)) b (omega arith) (λ i k d. h (suc i) (omega arith) (λ e. d (omega (arith, e)))) in
    omega (arith, ints, e, f)

-- all products are 0 but two
pub dot_two : (cs : List ℤ) (v : ℕ → ℤ) (b d : ℕ) → b < d → d < length cs
    → ((i : ℕ) → i < length cs → i ≢ b → i ≢ d → at cs i *ℤ v i ≡ pos 0) → dot v cs ≡ at cs b *ℤ v b +ℤ at cs d *ℤ v d
dot_two [] v b d k l h = absurd (omega arith)
dot_two (c ∷ cs) v zero zero k l h = absurd (omega arith)
dot_two (c ∷ cs) v zero (suc d) k l h =
    let f : dot (λ i. v (suc i)) cs ≡ at cs d *ℤ v (suc d) =
    dot_one cs (λ i. v (suc i)) d (omega arith)
    (λ i q u. h (suc i) (omega arith) (λ e. absurd (omega (arith, e))) (λ e. u (omega (arith, e)))) in
    omega (arith, ints, f)
dot_two (c ∷ cs) v (suc b) zero k l h = absurd (omega arith)
dot_two (c ∷ cs) v (suc b) (suc d) k l h =
    let e : c *ℤ v 0 ≡ pos 0 = h 0 (omega arith) (λ e. absurd (omega (arith, e))) (λ e. absurd (omega (arith, e))) in
    let f : dot (λ i. v (suc i)) cs ≡ at cs b *ℤ v (suc b) +ℤ at cs d *ℤ v (suc d) =
    dot_two cs (λ i. v (suc i)) b d (omega arith) (omega arith)
    (λ i q u w. h (suc i) (omega arith) (λ e. u (omega (arith, e))) (λ e. w (omega (arith, e)))) in
    omega (arith, ints, e, f)
