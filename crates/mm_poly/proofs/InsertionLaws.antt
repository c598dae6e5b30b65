-- A term is put into its place, and so each of a few terms is put among many.
use Rattle.std.specs.Prelude.{◌≡◌, ◌≢◌, ℕ, zero, suc, ◌+◌, ◌^◌, ◌<◌, ◌≤◌, ℤ, pos, ◌+ℤ◌, unsigned_abs, List, [], ◌∷◌, ◌++◌, length, slice_set, Bool, true, false, if◌then◌else◌, slice_index_or, refl}
use Rattle.std.proofs.Common.{ap, sym, ◌∙◌, arith}
use Rattle.std.proofs.lemmas.Int.{ints}
use Rattle.std.specs.Ordering.{is_lt}
use Rattle.std.specs.List.{insert, remove}
use Rattle.std.specs.List.Sorted.{IsPartitionedBy, IsPartitionPoint}
use Rattle.std.specs.declared.cmp.Ordering.TheVariants.{Less, Equal}
use Rattle.mm_poly.specs.declared.term.Term.{Term}
use Rattle.mm_poly.specs.Mono.{mono_cmp}
use Rattle.mm_poly.specs.Poly.{coeff_of, norm, AllAfter, IsPoly, with_coeff, add_term, plus}
use Rattle.mm_poly.specs.Insertion.{place, added}
use Rattle.mm_poly.proofs.OrderLaws.{mono_exact, mono_same, mono_back, mono_through, mono_not_self}
use Rattle.mm_poly.proofs.CaseLaws.{by_cases, by_coeff}
use Rattle.mm_poly.proofs.PolyLaws.{poly_plus}
use Rattle.mm_poly.proofs.BoundLaws.{norm_plus}
use Rattle.mm_poly.proofs.CoeffLaws.{coeff_plus, term_same, unique}
use Rattle.mm_poly.proofs.SumLaws.{mono_forth}

-- ---- the sum of the other way round

swapped : (a b : ℤ) → a +ℤ b ≡ b +ℤ a
swapped a b = omega (arith, ints)

pub plus_swap : (p q : List Term) → IsPoly p → IsPoly q → plus p q ≡ plus q p
plus_swap p q a b = unique (plus p q) (plus q p) (poly_plus p q a b) (poly_plus q p b a)
    (λ m. coeff_plus p q m a b ∙ swapped (coeff_of p m) (coeff_of q m) ∙ sym (coeff_plus q p m b a))

-- ---- the place

abbrev pub comes_before : List (ℕ × ℕ) → Term → Bool
comes_before m t = is_lt (mono_cmp t.mono m)

less_since : (a b : List (ℕ × ℕ)) → is_lt (mono_cmp a b) ≡ true → mono_cmp a b ≡ Less
less_since a b h = by_cases (mono_cmp a b) (λ e. e) (λ e. let k = ap is_lt e in cc) (λ e. let k = ap is_lt e in cc)

after_at : (m : List (ℕ × ℕ)) (ts : List Term) (j : ℕ) (d : Term) → AllAfter m ts → j < length ts → mono_cmp m (slice_index_or ts j d).mono ≡ Less
after_at m [] j d a h = absurd (omega arith)
after_at m (t ∷ ts) zero d a h = a.0
after_at m (t ∷ ts) (suc j) d a h = after_at m ts j d a.1 (omega arith)

-- terms in order are parted by a monomial
pub parted : (m : List (ℕ × ℕ)) (ts : List Term) → IsPoly ts → IsPartitionedBy (comes_before m) ts
parted m [] a i j d l h b = absurd (omega arith)
parted m (t ∷ ts) a zero zero d l h b = b
parted m (t ∷ ts) a zero (suc j) d l h b =
    ap is_lt (mono_through t.mono (slice_index_or ts j d).mono m (after_at t.mono ts j d a.1 (omega arith)) (less_since (slice_index_or ts j d).mono m b))
parted m (t ∷ ts) a (suc i) zero d l h b = absurd (omega arith)
parted m (t ∷ ts) a (suc i) (suc j) d l h b = parted m ts a.2 i j d (omega arith) (omega arith) b

-- and the point where they are is the place
pub point_is : (m : List (ℕ × ℕ)) (ts : List Term) (i : ℕ) → i ≤ length ts
    → IsPartitionPoint (λ t. comes_before m t ≡ true) (λ t. comes_before m t ≡ false) ts i → i ≡ place m ts
point_is m [] zero l h = refl
point_is m [] (suc i) l h = absurd (omega arith)
point_is m (t ∷ ts) zero l h = rw (h.1 0 t (omega arith) (omega arith)) refl
point_is m (t ∷ ts) (suc i) l h =
    let first : comes_before m t ≡ true = h.0 0 t (omega arith) (omega arith) in
    let rest : i ≡ place m ts = point_is m ts i (omega arith) ((λ k d a b. h.0 (suc k) d (omega arith) (omega arith)), (λ k d a b. h.1 (suc k) d (omega arith) (omega arith))) in
    rw first (ap suc rest)

bounded : (b : Bool) (n k : ℕ) → n ≤ k → (if b then suc n else 0) ≤ suc k
bounded true n k h = omega arith
bounded false n k h = omega arith

pub place_within : (m : List (ℕ × ℕ)) (ts : List Term) → place m ts ≤ length ts
place_within m [] = omega arith
place_within m (t ∷ ts) = bounded (comes_before m t) (place m ts) (length ts) (place_within m ts)

-- ---- a term in its place

by_place : (t u : Term) (us : List Term) (P : ℕ → List Term → Type 0)
    → (mono_cmp u.mono t.mono ≡ Less → P (suc (place t.mono us)) (u ∷ add_term t us))
    → (u.mono ≡ t.mono → P 0 (with_coeff (t.coeff +ℤ u.coeff) u.mono us))
    → (mono_cmp t.mono u.mono ≡ Less → P 0 (t ∷ u ∷ us))
    → P (place t.mono (u ∷ us)) (add_term t (u ∷ us))
by_place t u us P l e g = by_cases (mono_cmp u.mono t.mono)
    (λ h. let k = mono_forth u.mono t.mono h in rw (h, k, add_term) (l h))
    (λ h. let k : mono_cmp t.mono u.mono ≡ Equal = ap (λ m. mono_cmp t.mono m) (mono_exact _ _ h) ∙ mono_same t.mono in rw (h, k, add_term) (e (mono_exact _ _ h)))
    (λ h. let k = mono_back u.mono t.mono h in rw (h, k, add_term) (g k))

-- a monomial that isn't there
pub at_new : (t : Term) (us : List Term) (d : Term) → (place t.mono us < length us → (slice_index_or us (place t.mono us) d).mono ≢ t.mono)
    → insert us (place t.mono us) t ≡ add_term t us
at_new t [] d k = refl
at_new t (u ∷ us) d k = by_place t u us (λ n r. (n < length (u ∷ us) → (slice_index_or (u ∷ us) n d).mono ≢ t.mono) → insert (u ∷ us) n t ≡ r)
    (λ h q. ap (λ (r : List Term). u ∷ r) (at_new t us d (λ l. q (omega arith))))
    (λ e q. absurd (q (omega arith) e))
    (λ h q. refl) k

-- one that is
pub at_same : (t : Term) (us : List Term) (d : Term) → place t.mono us < length us → (slice_index_or us (place t.mono us) d).mono ≡ t.mono
    → added t.coeff (place t.mono us) us ≡ add_term t us
at_same t [] d l k = absurd (omega arith)
at_same t (u ∷ us) d l k = by_place t u us (λ n r. n < length (u ∷ us) → (slice_index_or (u ∷ us) n d).mono ≡ t.mono → added t.coeff n (u ∷ us) ≡ r)
    (λ h l k. ap (λ (r : List Term). u ∷ r) (at_same t us d (omega arith) k))
    (λ e l k. refl)
    (λ h l k. absurd (mono_not_self t.mono (ap (λ m. mono_cmp t.mono m) (sym k) ∙ h))) l k

-- a term whose coefficient becomes 0 goes, and another gets its sum
pub gone : (c : ℤ) (us : List Term) (n : ℕ) (x : Term) → n < length us → x ≡ slice_index_or us n x → c +ℤ x.coeff ≡ pos 0 → remove us n ≡ added c n us
gone c [] n x h is e = absurd (omega arith)
gone c (u ∷ us) zero x h is e = by_coeff (c +ℤ u.coeff) u.mono us (λ r. us ≡ r) (λ z. refl) (λ z. absurd (z (ap (λ (r : Term). c +ℤ r.coeff) (sym is) ∙ e)))
gone c (u ∷ us) (suc n) x h is e = ap (λ (r : List Term). u ∷ r) (gone c us n x (omega arith) is e)

pub stays : (c a : ℤ) (us : List Term) (n : ℕ) (x : Term) → n < length us → x ≡ slice_index_or us n x → a ≡ c +ℤ x.coeff → a ≢ pos 0
    → slice_set us n (record { coeff = a; mono = x.mono }) ≡ added c n us
stays c a [] n x h is e d = absurd (omega arith)
stays c a (u ∷ us) zero x h is e d = by_coeff (c +ℤ u.coeff) u.mono us (λ r. record { coeff = a; mono = x.mono } ∷ us ≡ r)
    (λ z. absurd (d (e ∙ ap (λ (r : Term). c +ℤ r.coeff) is ∙ z)))
    (λ z. ap (λ (r : Term). r ∷ us) (term_same (record { coeff = a; mono = x.mono }) (record { coeff = c +ℤ u.coeff; mono = u.mono }) (e ∙ ap (λ (r : Term). c +ℤ r.coeff) is) (ap (λ (r : Term). r.mono) is)))
stays c a (u ∷ us) (suc n) x h is e d = ap (λ (r : List Term). u ∷ r) (stays c a us n x (omega arith) is e d)

-- ---- a few terms among many

pub record At (p q left right : List Term) : Type 0 where
  pub few : IsPoly p
  pub many : IsPoly q
  pub small : norm p + norm q < 2 ^ 126
  pub is : plus p q ≡ plus left right

last_put : (p : List Term) (t : Term) (q : List Term) → plus (p ++ t ∷ []) q ≡ plus p (add_term t q)
last_put [] t q = refl
last_put (s ∷ p) t q = ap (λ (r : List Term). add_term s r) (last_put p t q)

without_last : (p : List Term) (t : Term) → IsPoly (p ++ t ∷ []) → IsPoly p
without_last [] t a = tt
without_last (s ∷ p) t a = (a.0, after_front s.mono p t a.1, without_last p t a.2)
  where
    after_front : (m : List (ℕ × ℕ)) (p : List Term) (t : Term) → AllAfter m (p ++ t ∷ []) → AllAfter m p
    after_front m [] t a = tt
    after_front m (r ∷ p) t a = (a.0, after_front m p t a.1)

last_alone : (p : List Term) (t : Term) → IsPoly (p ++ t ∷ []) → IsPoly (t ∷ [])
last_alone [] t a = a
last_alone (s ∷ p) t a = last_alone p t a.2

norm_last : (p : List Term) (t : Term) → norm (p ++ t ∷ []) ≡ norm p + unsigned_abs t.coeff
norm_last [] t = omega arith
norm_last (s ∷ p) t = omega (arith, norm_last p t)

pub put_next : (p : List Term) (t : Term) (q left right : List Term) → At (p ++ t ∷ []) q left right → At p (add_term t q) left right
put_next p t q left right h = record {
  few = without_last p t h.few;
  many = poly_plus (t ∷ []) q (last_alone p t h.few) h.many;
  small = omega (arith, h.small, norm_last p t, norm_plus (t ∷ []) q);
  is = sym (last_put p t q) ∙ h.is;
}

pub term_small : (p : List Term) (t : Term) (q left right : List Term) → At (p ++ t ∷ []) q left right → unsigned_abs t.coeff + norm q < 2 ^ 126
term_small p t q left right h = omega (arith, h.small, norm_last p t)

pub one_at : (us : List Term) (n : ℕ) (x y : Term) → n < length us → x ≡ slice_index_or us n x → y ≡ slice_index_or us n y → x ≡ y
one_at [] n x y h a b = absurd (omega arith)
one_at (u ∷ us) zero x y h a b = a ∙ sym b
one_at (u ∷ us) (suc n) x y h a b = one_at us n x y (omega arith) a b
