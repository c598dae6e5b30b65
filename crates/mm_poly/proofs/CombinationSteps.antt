-- The steps of a combination: a multiple of one polynomial and a multiple of another one, merged.
use Rattle.std.specs.Prelude.{◌≡◌, ℕ, ◌+◌, ◌-◌, ◌*◌, ◌^◌, ◌<◌, ◌≤◌, ◌⊎◌, ℤ, ◌+ℤ◌, ◌*ℤ◌, unsigned_abs, List, [], ◌∷◌, ◌++◌, length, take, drop, refl}
use Rattle.std.proofs.Common.{to_z, of_z, inl, inr, get_or, ap, sym, ◌∙◌, subst, append-nil, arith}
use Rattle.std.proofs.lemmas.Int.{ints}
use Rattle.std.specs.Int.{w128}
use Rattle.std.specs.declared.cmp.Ordering.TheVariants.{Less, Equal, Greater}
use Rattle.mm_poly.specs.declared.term.Term.{Term}
use Rattle.mm_poly.specs.Mono.{mono_cmp}
use Rattle.mm_poly.specs.Poly.{norm, AllAfter, IsPoly, with_coeff, add_term, plus, scaled}
use Rattle.mm_poly.proofs.OrderLaws.{mono_exact, mono_same, mono_back}
use Rattle.mm_poly.proofs.CaseLaws.{by_coeff}
use Rattle.mm_poly.proofs.PolyLaws.{after_through, after_plus, after_scaled, poly_scaled}
use Rattle.mm_poly.proofs.ValueLaws.{zero_sum, sum_zero}
use Rattle.mm_poly.proofs.SumLaws.{with_after, with_nonzero, add_first, plus_nil, plus_front}
use Rattle.mm_poly.proofs.MergeSteps.{front, no_more, to_end}

-- a first term of one side, left out where its coefficient is 0
pub with_plus : (c : ℤ) (m : List (ℕ × ℕ)) (p q : List Term) → AllAfter m (plus p q) → plus (with_coeff c m p) q ≡ with_coeff c m (plus p q)
with_plus c m p q a = by_coeff c m p (λ r. plus r q ≡ with_coeff c m (plus p q))
    (λ e. sym (by_coeff c m (plus p q) (λ r. r ≡ plus p q) (λ k. refl) (λ n. absurd (n e))))
    (λ n. add_first (record { coeff = c; mono = m }) (plus p q) a ∙ sym (with_nonzero c m (plus p q) n))

pub plus_with : (c : ℤ) (m : List (ℕ × ℕ)) (p q : List Term) → AllAfter m p → plus p (with_coeff c m q) ≡ with_coeff c m (plus p q)
plus_with c m p q a = by_coeff c m q (λ r. plus p r ≡ with_coeff c m (plus p q))
    (λ e. sym (by_coeff c m (plus p q) (λ r. r ≡ plus p q) (λ k. refl) (λ n. absurd (n e))))
    (λ n. plus_front p (record { coeff = c; mono = m }) q a ∙ sym (with_nonzero c m (plus p q) n))

same_term : (m : List (ℕ × ℕ)) (c d : ℤ) (r : List Term) → add_term (record { coeff = c; mono = m }) (record { coeff = d; mono = m } ∷ r) ≡ with_coeff (c +ℤ d) m r
same_term m c d r = let e = mono_same m in rw (e, add_term) refl

-- a first term of both sides
pub with_both : (c d : ℤ) (m : List (ℕ × ℕ)) (p q : List Term) → AllAfter m p → AllAfter m q → plus (with_coeff c m p) (with_coeff d m q) ≡ with_coeff (c +ℤ d) m (plus p q)
with_both c d m p q a b = by_coeff c m p (λ r. plus r (with_coeff d m q) ≡ with_coeff (c +ℤ d) m (plus p q))
    (λ e. plus_with d m p q a ∙ ap (λ z. with_coeff z m (plus p q)) (sym (zero_sum d) ∙ ap (λ z. z +ℤ d) (sym e)))
    (λ n. by_coeff d m q (λ r. add_term (record { coeff = c; mono = m }) (plus p r) ≡ with_coeff (c +ℤ d) m (plus p q))
    (λ e. add_first (record { coeff = c; mono = m }) (plus p q) (after_plus m p q a b)
    ∙ sym (with_nonzero c m (plus p q) n)
    ∙ ap (λ z. with_coeff z m (plus p q)) (sym (sum_zero c) ∙ ap (λ z. c +ℤ z) (sym e)))
    (λ k. ap (λ (r : List Term). add_term (record { coeff = c; mono = m }) r) (plus_front p (record { coeff = d; mono = m }) q a) ∙ same_term m c d (plus p q)))

-- what is out, and the combination of what is left, are the combination
pub record Combining (out left right : List Term) (a b : ℤ) (i j : ℕ) : Type 0 where
  pub left_place : i ≤ length left
  pub right_place : j ≤ length right
  pub left_order : IsPoly (drop i left)
  pub right_order : IsPoly (drop j right)
  pub small : norm (drop i left) * unsigned_abs a + norm (drop j right) * unsigned_abs b < 2 ^ 126
  pub joined : out ++ plus (scaled a (drop i left)) (scaled b (drop j right)) ≡ plus (scaled a left) (scaled b right)

pub combine_begin : (out left right : List Term) (a b : ℤ) → out ≡ [] → IsPoly left → IsPoly right → norm left * unsigned_abs a + norm right * unsigned_abs b < 2 ^ 126
    → Combining out left right a b 0 0
combine_begin out left right a b o l r s = record {
  left_place = omega arith;
  right_place = omega arith;
  left_order = l;
  right_order = r;
  small = s;
  joined = ap (λ (xs : List Term). xs ++ plus (scaled a left) (scaled b right)) o;
}

-- what is known where both sides have a term
record Both (out left right : List Term) (a b : ℤ) (i j : ℕ) (t u : Term) : Type 0 where
  left_split : drop i left ≡ t ∷ drop (i + 1) left
  right_split : drop j right ≡ u ∷ drop (j + 1) right
  left_order : IsPoly (t ∷ drop (i + 1) left)
  right_order : IsPoly (u ∷ drop (j + 1) right)
  small : (unsigned_abs t.coeff + norm (drop (i + 1) left)) * unsigned_abs a + (unsigned_abs u.coeff + norm (drop (j + 1) right)) * unsigned_abs b < 2 ^ 126
  joined : out ++ plus (scaled a (t ∷ drop (i + 1) left)) (scaled b (u ∷ drop (j + 1) right)) ≡ plus (scaled a left) (scaled b right)

both : (out left right : List Term) (a b : ℤ) (i j : ℕ) (t u : Term) → Combining out left right a b i j → i < length left → j < length right
    → t ≡ get_or left i t → u ≡ get_or right j u → Both out left right a b i j t u
both out left right a b i j t u at h k tis uis =
    let l = front left i t h tis in
    let r = front right j u k uis in
    record {
      left_split = l;
      right_split = r;
      left_order = subst (λ xs. IsPoly xs) l at.left_order;
      right_order = subst (λ xs. IsPoly xs) r at.right_order;
      small = subst (λ xs. norm (t ∷ drop (i + 1) left) * unsigned_abs a + norm xs * unsigned_abs b < 2 ^ 126) r
          (subst (λ xs. norm xs * unsigned_abs a + norm (drop j right) * unsigned_abs b < 2 ^ 126) l at.small);
      joined = subst (λ xs. out ++ plus (scaled a (t ∷ drop (i + 1) left)) (scaled b xs) ≡ plus (scaled a left) (scaled b right)) r
          (subst (λ xs. out ++ plus (scaled a xs) (scaled b (drop j right)) ≡ plus (scaled a left) (scaled b right)) l at.joined);
    }

parts : (t n a u m b : ℕ) → (t + n) * a + (u + m) * b < 2 ^ 126
    → (a * t < 2 ^ 126) × (b * u < 2 ^ 126) × (a * t + b * u < 2 ^ 126) × (n * a + (u + m) * b < 2 ^ 126) × ((t + n) * a + m * b < 2 ^ 126) × (n * a + m * b < 2 ^ 126)
parts t n a u m b h = (omega arith, omega arith, omega arith, omega arith, omega arith, omega arith)

-- what is asked of the next terms
pub record Small (a b : ℤ) (t u : Term) : Type 0 where
  pub left : unsigned_abs a * unsigned_abs t.coeff < 2 ^ 126
  pub right : unsigned_abs b * unsigned_abs u.coeff < 2 ^ 126
  pub sum : unsigned_abs a * unsigned_abs t.coeff + unsigned_abs b * unsigned_abs u.coeff < 2 ^ 126

pub combine_small : (out left right : List Term) (a b : ℤ) (i j : ℕ) (t u : Term) → Combining out left right a b i j → i < length left → j < length right
    → t ≡ get_or left i t → u ≡ get_or right j u → Small a b t u
combine_small out left right a b i j t u at h k tis uis =
    let s = both out left right a b i j t u at h k tis uis in
    let p = parts (unsigned_abs t.coeff) (norm (drop (i + 1) left)) (unsigned_abs a) (unsigned_abs u.coeff) (norm (drop (j + 1) right)) (unsigned_abs b) s.small in
    record { left = p.0; right = p.1; sum = p.2 }

-- a term out, left out where its coefficient is 0
one_out : (out new : List Term) (c : ℤ) (m : List (ℕ × ℕ)) (rest all whole : List Term) → new ≡ out ++ with_coeff c m [] → all ≡ with_coeff c m rest → out ++ all ≡ whole → new ++ rest ≡ whole
one_out out new c m rest all whole n e w =
    ap (λ (xs : List Term). xs ++ rest) n ∙ with_after out c m rest ∙ ap (λ (xs : List Term). out ++ xs) (sym e) ∙ w

pub combine_less : (out left right : List Term) (a b : ℤ) (i j : ℕ) (t u : Term) → Combining out left right a b i j → i < length left → j < length right
    → t ≡ get_or left i t → u ≡ get_or right j u → (new : List Term) → Less ≡ mono_cmp t.mono u.mono → new ≡ out ++ with_coeff (a *ℤ t.coeff) t.mono []
    → Combining new left right a b (i + 1) j
combine_less out left right a b i j t u at h k tis uis new o n =
    let s = both out left right a b i j t u at h k tis uis in
    let l = drop (i + 1) left in
    let r = drop (j + 1) right in
    let p = parts (unsigned_abs t.coeff) (norm l) (unsigned_abs a) (unsigned_abs u.coeff) (norm r) (unsigned_abs b) s.small in
    let lo = s.left_order in
    let ro = s.right_order in
    let after : AllAfter t.mono (scaled b (u ∷ r)) = after_scaled t.mono b (u ∷ r) (sym o, after_through t.mono u.mono r (sym o) ro.1) in
    let step = with_plus (a *ℤ t.coeff) t.mono (scaled a l) (scaled b (u ∷ r)) (after_plus t.mono (scaled a l) (scaled b (u ∷ r)) (after_scaled t.mono a l lo.1) after) in
    record {
      left_place = omega (arith, at.left_place);
      right_place = omega (arith, at.right_place);
      left_order = lo.2;
      right_order = at.right_order;
      small = subst (λ xs. norm l * unsigned_abs a + norm xs * unsigned_abs b < 2 ^ 126) (sym s.right_split) p.3;
      joined = subst (λ xs. new ++ plus (scaled a l) (scaled b xs) ≡ plus (scaled a left) (scaled b right)) (sym s.right_split)
          (one_out out new (a *ℤ t.coeff) t.mono (plus (scaled a l) (scaled b (u ∷ r))) (plus (scaled a (t ∷ l)) (scaled b (u ∷ r))) (plus (scaled a left) (scaled b right)) n step s.joined);
    }

pub combine_greater : (out left right : List Term) (a b : ℤ) (i j : ℕ) (t u : Term) → Combining out left right a b i j → i < length left → j < length right
    → t ≡ get_or left i t → u ≡ get_or right j u → (new : List Term) → Greater ≡ mono_cmp t.mono u.mono → new ≡ out ++ with_coeff (b *ℤ u.coeff) u.mono []
    → Combining new left right a b i (j + 1)
combine_greater out left right a b i j t u at h k tis uis new o n =
    let s = both out left right a b i j t u at h k tis uis in
    let l = drop (i + 1) left in
    let r = drop (j + 1) right in
    let p = parts (unsigned_abs t.coeff) (norm l) (unsigned_abs a) (unsigned_abs u.coeff) (norm r) (unsigned_abs b) s.small in
    let lo = s.left_order in
    let ro = s.right_order in
    let back = mono_back t.mono u.mono (sym o) in
    let step = plus_with (b *ℤ u.coeff) u.mono (scaled a (t ∷ l)) (scaled b r) (after_scaled u.mono a (t ∷ l) (back, after_through u.mono t.mono l back lo.1)) in
    record {
      left_place = omega (arith, at.left_place);
      right_place = omega (arith, at.right_place);
      left_order = at.left_order;
      right_order = ro.2;
      small = subst (λ xs. norm xs * unsigned_abs a + norm r * unsigned_abs b < 2 ^ 126) (sym s.left_split) p.4;
      joined = subst (λ xs. new ++ plus (scaled a xs) (scaled b r) ≡ plus (scaled a left) (scaled b right)) (sym s.left_split)
          (one_out out new (b *ℤ u.coeff) u.mono (plus (scaled a (t ∷ l)) (scaled b r)) (plus (scaled a (t ∷ l)) (scaled b (u ∷ r))) (plus (scaled a left) (scaled b right)) n step s.joined);
    }

pub combine_equal : (out left right : List Term) (a b : ℤ) (i j : ℕ) (t u : Term) → Combining out left right a b i j → i < length left → j < length right
    → t ≡ get_or left i t → u ≡ get_or right j u → (new : List Term) → Equal ≡ mono_cmp t.mono u.mono → new ≡ out ++ with_coeff (a *ℤ t.coeff +ℤ b *ℤ u.coeff) u.mono []
    → Combining new left right a b (i + 1) (j + 1)
combine_equal out left right a b i j t u at h k tis uis new o n =
    let s = both out left right a b i j t u at h k tis uis in
    let l = drop (i + 1) left in
    let r = drop (j + 1) right in
    let p = parts (unsigned_abs t.coeff) (norm l) (unsigned_abs a) (unsigned_abs u.coeff) (norm r) (unsigned_abs b) s.small in
    let lo = s.left_order in
    let ro = s.right_order in
    let same : t.mono ≡ u.mono = mono_exact t.mono u.mono (sym o) in
    let after : AllAfter u.mono l = subst (λ m. AllAfter m l) same lo.1 in
    let whole : plus (with_coeff (a *ℤ t.coeff) t.mono (scaled a l)) (scaled b (u ∷ r)) ≡ plus (with_coeff (a *ℤ t.coeff) u.mono (scaled a l)) (scaled b (u ∷ r)) = ap (λ m. plus (with_coeff (a *ℤ t.coeff) m (scaled a l)) (scaled b (u ∷ r))) same in
    let step = whole ∙ with_both (a *ℤ t.coeff) (b *ℤ u.coeff) u.mono (scaled a l) (scaled b r) (after_scaled u.mono a l after) (after_scaled u.mono b r ro.1) in
    record {
      left_place = omega (arith, at.left_place);
      right_place = omega (arith, at.right_place);
      left_order = lo.2;
      right_order = ro.2;
      small = p.5;
      joined = one_out out new (a *ℤ t.coeff +ℤ b *ℤ u.coeff) u.mono (plus (scaled a l) (scaled b r)) (plus (scaled a (t ∷ l)) (scaled b (u ∷ r))) (plus (scaled a left) (scaled b right)) n step s.joined;
    }

combined_end : (out left right : List Term) (a b : ℤ) (i j : ℕ) → Combining out left right a b i j → (length left ≤ i) ⊎ (length right ≤ j)
    → (out ++ scaled a (drop i left)) ++ scaled b (drop j right) ≡ plus (scaled a left) (scaled b right)
combined_end out left right a b i j at used = elim used [
  | inl h ↦
      let l = no_more left i h in
      ap (λ (xs : List Term). (out ++ scaled a xs) ++ scaled b (drop j right)) l
      ∙ ap (λ (xs : List Term). xs ++ scaled b (drop j right)) (append-nil out)
      ∙ ap (λ (xs : List Term). out ++ plus (scaled a xs) (scaled b (drop j right))) (sym l)
      ∙ at.joined
  | inr h ↦
      let r = no_more right j h in
      ap (λ (xs : List Term). (out ++ scaled a (drop i left)) ++ scaled b xs) r
      ∙ append-nil (out ++ scaled a (drop i left))
      ∙ ap (λ (xs : List Term). out ++ xs) (sym (plus_nil (scaled a (drop i left)) (poly_scaled a (drop i left) at.left_order)))
      ∙ ap (λ (xs : List Term). out ++ plus (scaled a (drop i left)) (scaled b xs)) (sym r)
      ∙ at.joined
]

-- what is out after the multiples of the rest of both sides
pub combined : (out left right : List Term) (a b : ℤ) (i j : ℕ) → Combining out left right a b i j → (length left ≤ i) ⊎ (length right ≤ j)
    → (most new : List Term) → most ≡ out ++ scaled a (take (length left - i) (drop i left)) → new ≡ most ++ scaled b (take (length right - j) (drop j right))
    → new ≡ plus (scaled a left) (scaled b right)
combined out left right a b i j at used most new m n =
    n ∙ ap (λ (xs : List Term). most ++ scaled b xs) (to_end right j)
    ∙ ap (λ (xs : List Term). xs ++ scaled b (drop j right)) (m ∙ ap (λ (xs : List Term). out ++ scaled a xs) (to_end left i))
    ∙ combined_end out left right a b i j at used

product_norms : (p a q b : ℕ) → p * a + q * b < 2 ^ 126 → (p * a < 2 ^ 126) × (q * b < 2 ^ 126)
product_norms p a q b h = (omega arith, omega arith)

-- what is left is within bounds
pub rest_small : (out left right : List Term) (a b : ℤ) (i j : ℕ) → Combining out left right a b i j
    → (norm (drop i left) * unsigned_abs a < 2 ^ 126) × (norm (drop j right) * unsigned_abs b < 2 ^ 126)
rest_small out left right a b i j at = product_norms (norm (drop i left)) (unsigned_abs a) (norm (drop j right)) (unsigned_abs b) at.small

pub combined_as : (p q : List Term) (a b c d : ℤ) → a ≡ c → b ≡ d → plus (scaled a p) (scaled b q) ≡ plus (scaled c p) (scaled d q)
combined_as p q a b c d e f = ap (λ z. plus (scaled z p) (scaled b q)) e ∙ ap (λ z. plus (scaled c p) (scaled z q)) f

pub product_as : (a b c d : ℤ) → a ≡ c → b ≡ d → a *ℤ b ≡ c *ℤ d
product_as a b c d e f = ap (λ z. z *ℤ b) e ∙ ap (λ z. c *ℤ z) f

-- the sum of two numbers in 128 bits that are small
pub sum_is : (x y r s : ℤ) → unsigned_abs x < 2 ^ 126 → unsigned_abs y < 2 ^ 126 → x ≡ r → y ≡ s → to_z w128 (of_z w128 (to_z w128 (of_z w128 x) +ℤ to_z w128 (of_z w128 y))) ≡ r +ℤ s
sum_is x y r s h k e f =
    let left : to_z w128 (of_z w128 x) ≡ x = omega (arith, ints) in
    let right : to_z w128 (of_z w128 y) ≡ y = omega (arith, ints) in
    let whole : to_z w128 (of_z w128 (x +ℤ y)) ≡ x +ℤ y = omega (arith, ints) in
    ap (λ z. to_z w128 (of_z w128 (z +ℤ to_z w128 (of_z w128 y)))) left ∙ ap (λ z. to_z w128 (of_z w128 (x +ℤ z))) right ∙ whole ∙ ap (λ z. z +ℤ y) e ∙ ap (λ z. r +ℤ z) f
