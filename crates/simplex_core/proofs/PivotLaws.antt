-- One exchange over whole numbers: what it does to each line.
use Rattle.std.specs.Prelude.{◌≡◌, ◌≢◌, ℕ, suc, ◌<◌, Bool, true, false, if◌then◌else◌, List, length, ℤ, pos, negsuc, ◌+ℤ◌, ◌*ℤ◌, ◌≤ℤ◌, ◌<ℤ◌, neg_ℤ, refl, int_lt}
use Rattle.std.proofs.Common.{ap, sym, ◌∙◌, subst, inl, inr, arith}
use Rattle.std.proofs.lemmas.Int.{ints}
use Rattle.std.specs.Ordering.{int_eq}
use Rattle.std.proofs.lemmas.Bool.Decides.{Decides-int_eq}
use Rattle.std.proofs.Math.IntN.{*ℤ_comm}
use Rattle.mm_num.proofs.Ring.{product_positive, neg_mul, zero_factor, positive_factor, mul_zero}
use Rattle.simplex_core.specs.Rows.{dot}
use Rattle.simplex_core.specs.Form.{at, Among, Line, IsLine, DividesAll}
use Rattle.simplex_core.specs.Walk.{exchanged}
use Rattle.simplex_core.specs.machine.Tableau.{combined, content, lowered, swept}
use Rattle.simplex_core.proofs.DotLaws.{length-combined, at-combined, dot-combined}
use Rattle.simplex_core.proofs.ContentLaws.{content_divides, content_positive, length-divided, at-divided, dot-divided, lowered_lowest}
use Rattle.simplex_core.proofs.ExchangeLaws.{from_exchanged}
use Rattle.mm_num.proofs.BoolLaws.{contrary}

-- a line solved for e, which is outside the basis, in place of that of s
pub record IsPivot (one : ℕ) (basis : List ℕ) (s e : ℕ) (p : List ℤ) : Type 0 where
  pub long : length p ≡ suc one
  pub inside : e < one
  pub outside : Among e basis → ⊥
  pub own : pos 0 <ℤ at p e
  pub others : (b : ℕ) → Among b basis → b ≢ s → at p b ≡ pos 0
  pub lowest : (g : ℕ) → DividesAll g p → g ≡ 1

-- by a test
pub by_test : {A : Type 0} (P : A → Type 0) (t : Bool) (x y : A) → (t ≡ true → P x) → (t ≡ false → P y) → P (if t then x else y)
by_test P true x y h k = h refl
by_test P false x y h k = k refl

pub by_zero : (P : List ℤ → Type 0) (c : ℤ) (cs ds : List ℤ) → (c ≡ pos 0 → P cs) → (c ≢ pos 0 → P ds) → P (if int_eq c (pos 0) then cs else ds)
by_zero P c cs ds h k =
    by_test P (int_eq c (pos 0)) cs ds (λ e. h ((Decides-int_eq c (pos 0)).0 e))
    (λ e. k (λ z. contrary (int_eq c (pos 0)) ((Decides-int_eq c (pos 0)).1 z) e))

sign_true : (c : ℤ) → int_lt c (pos 0) ≡ true → c <ℤ pos 0
sign_true c h = grind (arith, ints)

sign_false : (c : ℤ) → int_lt c (pos 0) ≡ false → pos 0 ≤ℤ c
sign_false c h = grind (arith, ints)

pub by_sign : (P : List ℤ → Type 0) (c : ℤ) (cs ds : List ℤ) → (c <ℤ pos 0 → P cs) → (pos 0 ≤ℤ c → P ds) → P (if int_lt c (pos 0) then cs else ds)
by_sign P c cs ds h k = by_test P (int_lt c (pos 0)) cs ds (λ e. h (sign_true c e)) (λ e. k (sign_false c e))

-- a number above 0 is a natural number
pub natural : (z : ℤ) → pos 0 <ℤ z → (g : ℕ) × (0 < g) × (z ≡ pos g)
natural (pos n) h = (n, omega (arith, ints), refl)
natural (negsuc n) h = absurd (omega (arith, ints))

pub cancelled : (a z : ℤ) → pos 0 <ℤ a → a *ℤ z ≡ pos 0 → z ≡ pos 0
cancelled a z h e =
    let n : (g : ℕ) × (0 < g) × (a ≡ pos g) = natural a h in
    zero_factor n.0 z n.1 (ap (λ k. k *ℤ z) (sym n.2) ∙ e)

-- before it is divided
abbrev pub raw : ℕ → List ℤ → List ℤ → List ℤ
raw e p cs = combined (at p e) (neg_ℤ (at cs e)) cs p

-- a line that is 0 at the pivot line's variable keeps its value there
raw_at : (one : ℕ) (e : ℕ) (p cs : List ℤ) (b : ℕ) → length p ≡ suc one → length cs ≡ suc one → at p b ≡ pos 0 → at (raw e p cs) b ≡ at p e *ℤ at cs b
raw_at one e p cs b hp hc z =
    at-combined (at p e) (neg_ℤ (at cs e)) cs p b (hc ∙ sym hp)
    ∙ ap (λ t. at p e *ℤ at cs b +ℤ neg_ℤ (at cs e) *ℤ t) z
    ∙ (let t : neg_ℤ (at cs e) *ℤ pos 0 ≡ pos 0 = mul_zero (neg_ℤ (at cs e)) in omega (arith, ints, t))

-- e is gone
raw_entering : (one : ℕ) (e : ℕ) (p cs : List ℤ) → length p ≡ suc one → length cs ≡ suc one → at (raw e p cs) e ≡ pos 0
raw_entering one e p cs hp hc =
    at-combined (at p e) (neg_ℤ (at cs e)) cs p e (hc ∙ sym hp)
    ∙ (let m = neg_mul (at cs e) (at p e) in let k = *ℤ_comm (at p e) (at cs e) in omega (arith, ints, m, k))

-- the number is above 0 at the line's own variable
raw_own : (one : ℕ) (basis : List ℕ) (s e : ℕ) (p : List ℤ) (l : Line) → IsPivot one basis s e p → IsLine one basis l → Among l.0 basis → l.0 ≢ s
    → pos 0 <ℤ at (raw e p l.1) l.0
raw_own one basis s e p l hp hl m d =
    subst (λ (z : ℤ). pos 0 <ℤ z) (sym (raw_at one e p l.1 l.0 hp.long hl.long (hp.others l.0 m d)))
    (product_positive (at p e) (at l.1 l.0) hp.own hl.own)

raw_others : (one : ℕ) (basis : List ℕ) (s e : ℕ) (p : List ℤ) (l : Line) → IsPivot one basis s e p → IsLine one basis l → Among l.0 basis
    → (b : ℕ) → Among b (exchanged s e basis) → b ≢ l.0 → at (raw e p l.1) b ≡ pos 0
raw_others one basis s e p l hp hl m b k d = elim (from_exchanged s e b basis k) as (λ _. at (raw e p l.1) b ≡ pos 0) [
  | inl y ↦ subst (λ (x : ℕ). at (raw e p l.1) x ≡ pos 0) (sym y) (raw_entering one e p l.1 hp.long hl.long)
  | inr r ↦
      raw_at one e p l.1 b hp.long hl.long (hp.others b r.0 r.1)
      ∙ ap (λ z. at p e *ℤ z) (hl.others b r.0 d) ∙ mul_zero (at p e)
]

nonzero : (z : ℤ) → pos 0 <ℤ z → z ≢ pos 0
nonzero z h e = absurd (omega (arith, ints, e))

-- the line that is left is one of the new basis
pub swept_line : (one : ℕ) (basis : List ℕ) (s e : ℕ) (p : List ℤ) (l : Line) → IsPivot one basis s e p → IsLine one basis l → Among l.0 basis → l.0 ≢ s
    → IsLine one (exchanged s e basis) (l.0, swept e p l.1)
swept_line one basis s e p l hp hl m d =
    by_zero (λ cs. IsLine one (exchanged s e basis) (l.0, cs)) (at l.1 e) l.1 (lowered (raw e p l.1))
    (λ z. record {
      long = hl.long;
      inside = hl.inside;
      own = hl.own;
      others = λ b k q. elim (from_exchanged s e b basis k) as (λ _. at l.1 b ≡ pos 0) [
        | inl y ↦ subst (λ (x : ℕ). at l.1 x ≡ pos 0) (sym y) z
        | inr r ↦ hl.others b r.0 q
      ];
      lowest = hl.lowest;
    })
    (λ z.
    let own : pos 0 <ℤ at (raw e p l.1) l.0 = raw_own one basis s e p l hp hl m d in
    let g : 0 < content (raw e p l.1) = content_positive (raw e p l.1) l.0 (nonzero _ own) in
    let times : (b : ℕ) → pos (content (raw e p l.1)) *ℤ at (lowered (raw e p l.1)) b ≡ at (raw e p l.1) b = λ b.
    at-divided (content (raw e p l.1)) (raw e p l.1) b g (content_divides (raw e p l.1)) in
    record {
      long = length-divided (content (raw e p l.1)) (raw e p l.1)
          ∙ length-combined (at p e) (neg_ℤ (at l.1 e)) l.1 p (hl.long ∙ sym hp.long) ∙ hl.long;
      inside = hl.inside;
      own = positive_factor (content (raw e p l.1)) (at (lowered (raw e p l.1)) l.0) (subst (λ (t : ℤ). pos 0 <ℤ t) (sym (times l.0)) own);
      others = λ b k q. zero_factor (content (raw e p l.1)) (at (lowered (raw e p l.1)) b) g (times b ∙ raw_others one basis s e p l hp hl m b k q);
      lowest = λ h k. lowered_lowest (raw e p l.1) h g k;
    })

-- it vanishes where the line does, at a point where the pivot line vanishes
pub swept_vanishes : (one : ℕ) (basis : List ℕ) (s e : ℕ) (p : List ℤ) (l : Line) (v : ℕ → ℤ) → IsPivot one basis s e p → IsLine one basis l → Among l.0 basis → l.0 ≢ s
    → dot v p ≡ pos 0 → dot v l.1 ≡ pos 0 → dot v (swept e p l.1) ≡ pos 0
swept_vanishes one basis s e p l v hp hl m d h k =
    by_zero (λ cs. dot v cs ≡ pos 0) (at l.1 e) l.1 (lowered (raw e p l.1)) (λ z. k)
    (λ z.
    let own : pos 0 <ℤ at (raw e p l.1) l.0 = raw_own one basis s e p l hp hl m d in
    let g : 0 < content (raw e p l.1) = content_positive (raw e p l.1) l.0 (nonzero _ own) in
    zero_factor (content (raw e p l.1)) (dot v (lowered (raw e p l.1))) g
    (dot-divided (content (raw e p l.1)) (raw e p l.1) v g (content_divides (raw e p l.1))
    ∙ dot-combined (at p e) (neg_ℤ (at l.1 e)) l.1 p v (hl.long ∙ sym hp.long)
    ∙ ap (λ t. at p e *ℤ t +ℤ neg_ℤ (at l.1 e) *ℤ dot v p) k
    ∙ ap (λ t. at p e *ℤ pos 0 +ℤ neg_ℤ (at l.1 e) *ℤ t) h
    ∙ (let t = mul_zero (at p e) in let u = mul_zero (neg_ℤ (at l.1 e)) in omega (arith, ints, t, u))))

-- and the line vanishes where it does
pub unswept_vanishes : (one : ℕ) (basis : List ℕ) (s e : ℕ) (p : List ℤ) (l : Line) (v : ℕ → ℤ) → IsPivot one basis s e p → IsLine one basis l → Among l.0 basis → l.0 ≢ s
    → dot v p ≡ pos 0 → dot v (swept e p l.1) ≡ pos 0 → dot v l.1 ≡ pos 0
unswept_vanishes one basis s e p l v hp hl m d h =
    by_zero (λ cs. dot v cs ≡ pos 0 → dot v l.1 ≡ pos 0) (at l.1 e) l.1 (lowered (raw e p l.1)) (λ z k. k)
    (λ z k.
    let own : pos 0 <ℤ at (raw e p l.1) l.0 = raw_own one basis s e p l hp hl m d in
    let g : 0 < content (raw e p l.1) = content_positive (raw e p l.1) l.0 (nonzero _ own) in
    let whole : dot v (raw e p l.1) ≡ pos 0 =
    sym (dot-divided (content (raw e p l.1)) (raw e p l.1) v g (content_divides (raw e p l.1)))
    ∙ ap (λ t. pos (content (raw e p l.1)) *ℤ t) k ∙ mul_zero (pos (content (raw e p l.1))) in
    let parts : at p e *ℤ dot v l.1 +ℤ neg_ℤ (at l.1 e) *ℤ dot v p ≡ pos 0 =
    sym (dot-combined (at p e) (neg_ℤ (at l.1 e)) l.1 p v (hl.long ∙ sym hp.long)) ∙ whole in
    let gone : neg_ℤ (at l.1 e) *ℤ dot v p ≡ pos 0 = ap (λ t. neg_ℤ (at l.1 e) *ℤ t) h ∙ mul_zero (neg_ℤ (at l.1 e)) in
    cancelled (at p e) (dot v l.1) hp.own (omega (arith, ints, parts, gone)))
