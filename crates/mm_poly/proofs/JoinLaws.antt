-- Terms in any order are put in monomial order and joined one by one, each to the last.
use Rattle.std.specs.Prelude.{◌≡◌, ◌≢◌, ℕ, ◌+◌, ◌^◌, ◌<◌, ◌≤◌, ℤ, pos, ◌+ℤ◌, unsigned_abs, List, [], ◌∷◌, ◌++◌, length, Bool, false, refl}
use Rattle.std.specs.List.{All, sum_by}
use Rattle.std.specs.List.Sorted.{IsPermutation, IsSortedBy}
use Rattle.std.specs.Cmp.{IsStrictWeakOrder}
use Rattle.std.specs.Ordering.{is_lt}
use Rattle.std.specs.declared.cmp.Ordering.TheVariants.{Less, Equal, Greater}
use Rattle.std.proofs.Common.{get_or, ap, sym, ◌∙◌, subst, append_assoc, arith}
use Rattle.std.proofs.lemmas.Int.{ints}
use Rattle.std.proofs.Math.ListN.{get_or-append}
use Rattle.std.proofs.Math.Seq.{get_or-append_seam}
use Rattle.std.proofs.lemmas.List.{length-append}
use Rattle.std.proofs.lemmas.List.Sums.{sum_by-cons}
use Rattle.std.proofs.lemmas.List.Elements.{All-cons, All-head, All-tail, All-nil, All-from_get_or}
use Rattle.std.proofs.lemmas.List.Sorted.{ranks_by, sorted_far, sum_by-IsPermutation, All-permutation}
use borrow.Author.Differences.{up, down}
use Rattle.mm_poly.specs.declared.term.Term.{Term}
use Rattle.mm_poly.specs.Mono.{mono_cmp}
use Rattle.mm_poly.specs.Poly.{coeff_of, norm, AllAfter, IsPoly, with_coeff, add_term, plus}
use Rattle.mm_poly.specs.Product.{total_of, AllNonZero, NotAfter}
use Rattle.mm_poly.proofs.OrderLaws.{mono_total, mono_exact, mono_same, mono_back, mono_through}
use Rattle.mm_poly.proofs.CaseLaws.{by_cases, by_coeff, by_order}
use Rattle.mm_poly.proofs.ValueLaws.{sum_zero}
use Rattle.mm_poly.proofs.SumLaws.{plus_less, plus_equal}
use Rattle.mm_poly.proofs.CoeffLaws.{unique}
use Rattle.mm_poly.proofs.ProductLaws.{coeff_into, poly_joined, joined_append, front_of, back_of, norm_append, norm_joined}

-- ---- another order

abbrev IsNonZero : Term → Type 0
IsNonZero t = t.coeff ≢ pos 0

all_of : (ts : List Term) → AllNonZero ts → All IsNonZero ts
all_of [] a = All-nil IsNonZero
all_of (t ∷ ts) a = All-cons IsNonZero t ts a.0 (all_of ts a.1)

of_all : (ts : List Term) → All IsNonZero ts → AllNonZero ts
of_all [] a = tt
of_all (t ∷ ts) a = (All-head IsNonZero t ts a, of_all ts (All-tail IsNonZero t ts a))

pub nonzero_ordered : (xs ys : List Term) → IsPermutation xs ys → AllNonZero xs → AllNonZero ys
nonzero_ordered xs ys p a = of_all ys (All-permutation IsNonZero xs ys p (all_of xs a))

norm_sum : (ts : List Term) → sum_by (λ (t : Term). unsigned_abs t.coeff) ts ≡ norm ts
norm_sum [] = refl
norm_sum (t ∷ ts) = omega (arith, sum_by-cons (λ (t : Term). unsigned_abs t.coeff) t ts, norm_sum ts)

pub norm_ordered : (xs ys : List Term) → IsPermutation xs ys → norm ys ≡ norm xs
norm_ordered xs ys p = sym (norm_sum ys) ∙ sum_by-IsPermutation (λ (t : Term). unsigned_abs t.coeff) xs ys p ∙ norm_sum xs

-- what a term adds to the coefficient of a monomial, as a difference
abbrev up_at : List (ℕ × ℕ) → Term → ℕ
up_at m t = up (coeff_of (t ∷ []) m)

abbrev down_at : List (ℕ × ℕ) → Term → ℕ
down_at m t = down (coeff_of (t ∷ []) m)

one_more : (c s : ℤ) (a b u d : ℕ) → u ≡ up c + a → d ≡ down c + b → s +ℤ pos b ≡ pos a → (c +ℤ s) +ℤ pos d ≡ pos u
one_more c s a b u d h k e = omega (arith, ints)

total_sums : (ts : List Term) (m : List (ℕ × ℕ)) → total_of ts m +ℤ pos (sum_by (down_at m) ts) ≡ pos (sum_by (up_at m) ts)
total_sums [] m = refl
total_sums (t ∷ ts) m = one_more (coeff_of (t ∷ []) m) (total_of ts m) (sum_by (up_at m) ts) (sum_by (down_at m) ts) _ _
    (sum_by-cons (up_at m) t ts) (sum_by-cons (down_at m) t ts) (total_sums ts m)

same_difference : (s r : ℤ) (a b u d : ℕ) → a ≡ u → b ≡ d → s +ℤ pos b ≡ pos a → r +ℤ pos d ≡ pos u → s ≡ r
same_difference s r a b u d h k e f = omega (arith, ints)

total_ordered : (xs ys : List Term) (m : List (ℕ × ℕ)) → IsPermutation xs ys → total_of ys m ≡ total_of xs m
total_ordered xs ys m p = same_difference (total_of ys m) (total_of xs m) _ _ _ _
    (sum_by-IsPermutation (up_at m) xs ys p) (sum_by-IsPermutation (down_at m) xs ys p) (total_sums ys m) (total_sums xs m)

pub coeff_joined : (ts : List Term) (m : List (ℕ × ℕ)) → AllNonZero ts → coeff_of (plus ts []) m ≡ total_of ts m
coeff_joined ts m a = coeff_into ts [] m a tt ∙ sum_zero (total_of ts m)

-- the order of the terms doesn't matter
pub joined_ordered : (xs ys : List Term) → AllNonZero xs → IsPermutation xs ys → plus ys [] ≡ plus xs []
joined_ordered xs ys a p =
    let b : AllNonZero ys = nonzero_ordered xs ys p a in
    unique (plus ys []) (plus xs []) (poly_joined ys b) (poly_joined xs a)
    (λ m. coeff_joined ys m b ∙ total_ordered xs ys m p ∙ sym (coeff_joined xs m a))

-- ---- terms none of which comes after a monomial

none_after_with : (m : List (ℕ × ℕ)) (c : ℤ) (k : List (ℕ × ℕ)) (ts : List Term) → mono_cmp k m ≢ Greater → All (NotAfter m) ts → All (NotAfter m) (with_coeff c k ts)
none_after_with m c k ts h a = by_coeff c k ts (λ r. All (NotAfter m) r) (λ e. a) (λ n. All-cons (NotAfter m) (record { coeff = c; mono = k }) ts h a)

none_after_add : (m : List (ℕ × ℕ)) (t : Term) (us : List Term) → NotAfter m t → All (NotAfter m) us → All (NotAfter m) (add_term t us)
none_after_add m t [] h a = All-cons (NotAfter m) t [] h a
none_after_add m t (u ∷ us) h a =
    let first : NotAfter m u = All-head (NotAfter m) u us a in
    let rest : All (NotAfter m) us = All-tail (NotAfter m) u us a in
    by_order t u us (λ r. All (NotAfter m) r)
    (λ e. All-cons (NotAfter m) t (u ∷ us) h a)
    (λ e. none_after_with m (t.coeff +ℤ u.coeff) u.mono us first rest)
    (λ e. All-cons (NotAfter m) u (add_term t us) first (none_after_add m t us h rest))

none_after_joined : (m : List (ℕ × ℕ)) (ts : List Term) → All (NotAfter m) ts → All (NotAfter m) (plus ts [])
none_after_joined m [] a = a
none_after_joined m (t ∷ ts) a = none_after_add m t (plus ts []) (All-head (NotAfter m) t ts a) (none_after_joined m ts (All-tail (NotAfter m) t ts a))

-- ---- terms in order

abbrev pub comes_before : Term → Term → Bool
comes_before t u = is_lt (mono_cmp t.mono u.mono)

pub monomials_order : IsStrictWeakOrder comes_before
monomials_order = ranks_by mono_total (λ (t : Term). t.mono)

not_after : (a b : List (ℕ × ℕ)) → is_lt (mono_cmp a b) ≡ false → mono_cmp b a ≢ Greater
not_after a b h e = let less = ap is_lt (mono_back b a e) in cc

-- none of the terms before a term in order comes after it
none_after : (ts : List Term) (t : Term) (us : List Term) → IsSortedBy comes_before (ts ++ t ∷ us) → All (NotAfter t.mono) ts
none_after ts t us s = All-from_get_or (NotAfter t.mono) ts t
    (λ j h.
    let all : List Term = ts ++ t ∷ us in
    let far : comes_before (get_or all (length ts) t) (get_or all j t) ≡ false = sorted_far comes_before monomials_order all s j (length ts) t (omega arith) (omega (arith, length-append ts (t ∷ us))) in
    let here : comes_before t (get_or all j t) ≡ false = subst (λ (r : Term). comes_before r (get_or all j t) ≡ false) (get_or-append_seam ts t us t) far in
    let there : comes_before t (get_or ts j t) ≡ false = subst (λ (r : Term). comes_before t r ≡ false) (get_or-append ts (t ∷ us) t j h) here in
    not_after t.mono (get_or ts j t).mono there)

-- ---- one more term

-- the last of a polynomial's terms comes after the others
before_last : (m : List (ℕ × ℕ)) (p : List Term) (s : Term) → AllAfter m (p ++ s ∷ []) → mono_cmp m s.mono ≡ Less
before_last m [] s a = a.0
before_last m (r ∷ p) s a = before_last m p s a.1

pub after_last : (p : List Term) (s t : Term) → IsPoly (p ++ s ∷ []) → t.coeff ≢ pos 0 → mono_cmp s.mono t.mono ≡ Less
    → plus (p ++ s ∷ []) (t ∷ []) ≡ (p ++ s ∷ []) ++ t ∷ []
after_last [] s t a n h = plus_less s [] t [] a (n, tt, tt) h
after_last (r ∷ p) s t a n h =
    plus_less r (p ++ s ∷ []) t [] a (n, tt, tt) (mono_through r.mono s.mono t.mono (before_last r.mono p s a.1) h)
    ∙ ap (λ (us : List Term). r ∷ us) (after_last p s t a.2 n h)

pub at_last : (p : List Term) (s t : Term) → IsPoly (p ++ s ∷ []) → t.coeff ≢ pos 0 → mono_cmp s.mono t.mono ≡ Equal
    → plus (p ++ s ∷ []) (t ∷ []) ≡ p ++ with_coeff (s.coeff +ℤ t.coeff) t.mono []
at_last [] s t a n h = plus_equal s [] t [] a (n, tt, tt) h
at_last (r ∷ p) s t a n h =
    let less : mono_cmp r.mono t.mono ≡ Less = subst (λ m. mono_cmp r.mono m ≡ Less) (mono_exact s.mono t.mono h) (before_last r.mono p s a.1) in
    plus_less r (p ++ s ∷ []) t [] a (n, tt, tt) less
    ∙ ap (λ (us : List Term). r ∷ us) (at_last p s t a.2 n h)

-- a term after the others, none of which comes after it
pub more : (p : List Term) (s t : Term) → IsPoly (p ++ s ∷ []) → NotAfter t.mono s → t.coeff ≢ pos 0 → (s.mono ≡ t.mono → ⊥) → plus (p ++ s ∷ []) (t ∷ []) ≡ (p ++ s ∷ []) ++ t ∷ []
more p s t a n z differ = by_cases (mono_cmp s.mono t.mono)
    (λ h. after_last p s t a z h)
    (λ h. absurd (differ (mono_exact s.mono t.mono h)))
    (λ h. absurd (n h))

-- the last of the others and a term with its monomial
pub same : (p : List Term) (s t : Term) → IsPoly (p ++ s ∷ []) → t.coeff ≢ pos 0 → s.mono ≡ t.mono → plus (p ++ s ∷ []) (t ∷ []) ≡ p ++ with_coeff (s.coeff +ℤ t.coeff) t.mono []
same p s t a z e = at_last p s t a z (subst (λ m. mono_cmp s.mono m ≡ Equal) e (mono_same s.mono))

pub last_small : (p : List Term) (s : Term) → unsigned_abs s.coeff ≤ norm (p ++ s ∷ [])
last_small p s = omega (arith, norm_append p (s ∷ []))

-- ---- the turns

-- terms in order: those that came are joined, the others are still to come
pub record Joining (joined came rest : List Term) : Type 0 where
  pub ordered : IsSortedBy comes_before (came ++ rest)
  pub nonzero : AllNonZero (came ++ rest)
  pub small : norm (came ++ rest) < 2 ^ 126
  pub is : joined ≡ plus came []

-- what is asked of the next of them
pub record Next (joined : List Term) (t : Term) : Type 0 where
  pub order : IsPoly joined
  pub after : All (NotAfter t.mono) joined
  pub nonzero : t.coeff ≢ pos 0
  pub small : norm joined + unsigned_abs t.coeff < 2 ^ 126

pub next : (joined came rest : List Term) (t : Term) (others : List Term) → Joining joined came rest → rest ≡ t ∷ others → Next joined t
next joined came rest t others at e =
    let sorted : IsSortedBy comes_before (came ++ t ∷ others) = subst (λ ts. IsSortedBy comes_before (came ++ ts)) e at.ordered in
    let nonzero : AllNonZero (came ++ t ∷ others) = subst (λ ts. AllNonZero (came ++ ts)) e at.nonzero in
    let norms : norm (came ++ t ∷ others) < 2 ^ 126 = subst (λ ts. norm (came ++ ts) < 2 ^ 126) e at.small in
    subst (λ ts. Next ts t) (sym at.is) (record {
      order = poly_joined came (front_of came (t ∷ others) nonzero);
      after = none_after_joined t.mono came (none_after came t others sorted);
      nonzero = (back_of came (t ∷ others) nonzero).0;
      small = omega (arith, norm_joined came, norm_append came (t ∷ others), norms);
    })

pub joining : (joined came rest : List Term) (t : Term) (others new : List Term) → Joining joined came rest → rest ≡ t ∷ others → new ≡ plus joined (t ∷ []) → Joining new (came ++ t ∷ []) others
joining joined came rest t others new at e n =
    let same : came ++ rest ≡ (came ++ t ∷ []) ++ others = ap (λ (ts : List Term). came ++ ts) e ∙ sym (append_assoc came (t ∷ []) others) in
    let nonzero : AllNonZero (came ++ t ∷ others) = subst (λ ts. AllNonZero (came ++ ts)) e at.nonzero in
    record {
      ordered = subst (λ ts. IsSortedBy comes_before ts) same at.ordered;
      nonzero = subst (λ ts. AllNonZero ts) same at.nonzero;
      small = subst (λ ts. norm ts < 2 ^ 126) same at.small;
      is = n ∙ ap (λ (ts : List Term). plus ts (t ∷ [])) at.is
          ∙ joined_append came (t ∷ []) (front_of came (t ∷ others) nonzero) ((back_of came (t ∷ others) nonzero).0, tt);
    }

-- before the first of them, and after the last
pub begin : (given ordered joined rest : List Term) → AllNonZero given → norm given < 2 ^ 126 → IsPermutation given ordered → IsSortedBy comes_before ordered → joined ≡ [] → rest ≡ ordered → Joining joined [] rest
begin given ordered joined rest a n p s j r = record {
  ordered = subst (λ ts. IsSortedBy comes_before ts) (sym r) s;
  nonzero = subst (λ ts. AllNonZero ts) (sym r) (nonzero_ordered given ordered p a);
  small = subst (λ ts. norm ts < 2 ^ 126) (sym r) (omega (arith, norm_ordered given ordered p, n));
  is = j;
}
