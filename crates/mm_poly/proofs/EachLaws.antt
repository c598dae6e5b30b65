-- What holds of each monomial of terms holds of each of a sum, a multiple, a product, a quotient.
use Rattle.std.specs.Prelude.{◌≡◌, ℕ, zero, suc, ◌+◌, ◌^◌, ◌<◌, ◌≤◌, ℤ, ◌+ℤ◌, ◌*ℤ◌, List, [], ◌∷◌, ◌++◌, length, take}
use Rattle.std.proofs.Common.{get_or, subst, arith}
use Rattle.std.proofs.lemmas.Grind.{common_steps}
use Rattle.mm_num.specs.Quotient.{floor_by}
use Rattle.mm_poly.specs.declared.term.Term.{Term}
use Rattle.mm_poly.specs.Mono.{mono_times, times_factor, IsMono, VarsBelow, IsMonomial}
use Rattle.mm_poly.specs.Poly.{EachMono, AllMono, HasPlaces, degree, with_coeff, add_term, plus, scaled, times_term, times, without_constant, floor_divided}
use Rattle.mm_poly.proofs.CaseLaws.{by_coeff, by_order, by_factor, by_constant}

pub each_with : (P : List (ℕ × ℕ) → Type 0) (c : ℤ) (m : List (ℕ × ℕ)) (ts : List Term) → P m → EachMono P ts → EachMono P (with_coeff c m ts)
each_with P c m ts h a = by_coeff c m ts (λ r. EachMono P r) (λ e. a) (λ n. (h, a))

pub each_add_term : (P : List (ℕ × ℕ) → Type 0) (t : Term) (us : List Term) → P t.mono → EachMono P us → EachMono P (add_term t us)
each_add_term P t [] h a = (h, tt)
each_add_term P t (u ∷ us) h a = by_order t u us (λ r. EachMono P r)
    (λ e. (h, a))
    (λ e. each_with P (t.coeff +ℤ u.coeff) u.mono us a.0 a.1)
    (λ e. (a.0, each_add_term P t us h a.1))

pub each_plus : (P : List (ℕ × ℕ) → Type 0) (p q : List Term) → EachMono P p → EachMono P q → EachMono P (plus p q)
each_plus P [] q a b = b
each_plus P (t ∷ p) q a b = each_add_term P t (plus p q) a.0 (each_plus P p q a.1 b)

pub each_scaled : (P : List (ℕ × ℕ) → Type 0) (c : ℤ) (ts : List Term) → EachMono P ts → EachMono P (scaled c ts)
each_scaled P c [] a = tt
each_scaled P c (t ∷ ts) a = each_with P (c *ℤ t.coeff) t.mono (scaled c ts) a.0 (each_scaled P c ts a.1)

-- products of such monomials are such monomials
abbrev pub IsClosed : (List (ℕ × ℕ) → Type 0) → Type 0
IsClosed P = (a b : List (ℕ × ℕ)) → P a → P b → P (mono_times a b)

each_times_term : (P : List (ℕ × ℕ) → Type 0) (t : Term) (us : List Term) → IsClosed P → P t.mono → EachMono P us → EachMono P (times_term t us)
each_times_term P t [] closed h a = tt
each_times_term P t (u ∷ us) closed h a = each_add_term P (record { coeff = t.coeff *ℤ u.coeff; mono = mono_times t.mono u.mono }) (times_term t us)
    (closed t.mono u.mono h a.0) (each_times_term P t us closed h a.1)

pub each_times : (P : List (ℕ × ℕ) → Type 0) (p q : List Term) → IsClosed P → EachMono P p → EachMono P q → EachMono P (times p q)
each_times P [] q closed a b = tt
each_times P (t ∷ p) q closed a b = each_plus P (times_term t q) (times p q) (each_times_term P t q closed a.0 b) (each_times P p q closed a.1 b)

pub each_without : (P : List (ℕ × ℕ) → Type 0) (ts : List Term) → EachMono P ts → EachMono P (without_constant ts)
each_without P [] a = tt
each_without P (t ∷ ts) a =
    let rest = each_without P ts a.1 in
    by_constant t.mono (without_constant ts) (t ∷ without_constant ts) (λ r. EachMono P r) rest (a.0, rest)

pub each_divided : (P : List (ℕ × ℕ) → Type 0) (g : ℕ) (ts : List Term) → EachMono P ts → EachMono P (floor_divided g ts)
each_divided P g [] a = tt
each_divided P g (t ∷ ts) a = each_with P (floor_by t.coeff g) t.mono (floor_divided g ts) a.0 (each_divided P g ts a.1)

pub each_append : (P : List (ℕ × ℕ) → Type 0) (p q : List Term) → EachMono P p → EachMono P q → EachMono P (p ++ q)
each_append P [] q a b = b
each_append P (t ∷ p) q a b = (a.0, each_append P p q a.1 b)

pub each_implies : (P Q : List (ℕ × ℕ) → Type 0) (ts : List Term) → ((m : List (ℕ × ℕ)) → P m → Q m) → EachMono P ts → EachMono Q ts
each_implies P Q [] h a = tt
each_implies P Q (t ∷ ts) h a = (h t.mono a.0, each_implies P Q ts h a.1)

-- ---- products of monomials

pub below_factor : (n : ℕ) (f : ℕ × ℕ) (gs : List (ℕ × ℕ)) → f.0 < n → VarsBelow n gs → VarsBelow n (times_factor f gs)
below_factor n f [] h a = (h, tt)
below_factor n f (g ∷ gs) h a = by_factor f g gs (λ r. VarsBelow n r) (λ e. (h, a)) (λ e. (h, a.1)) (λ e. (a.0, below_factor n f gs h a.1))

pub below_times : (n : ℕ) (a b : List (ℕ × ℕ)) → VarsBelow n a → VarsBelow n b → VarsBelow n (mono_times a b)
below_times n [] b h k = k
below_times n (f ∷ fs) b h k = below_factor n f (mono_times fs b) h.0 (below_times n fs b h.1 k)

pub places_times : (n : ℕ) (p q : List Term) → HasPlaces n p → HasPlaces n q → HasPlaces n (times p q)
places_times n p q a b = each_times (VarsBelow n) p q (below_times n) a b

-- ---- terms that are looked at one by one

pub each_step : (P : List (ℕ × ℕ) → Type 0) (ts : List Term) (n : ℕ) (t : Term) → t ≡ get_or ts n t → P t.mono → EachMono P (take n ts) → EachMono P (take (n + 1) ts)
each_step P [] n t is h a = let e : take {A = Term} (n + 1) [] ≡ [] = grind (arith, common_steps) in rw e tt
each_step P (x ∷ xs) zero t is h a = (subst (λ (u : Term). P u.mono) is h, tt)
each_step P (x ∷ xs) (suc n) t is h a =
    let e : suc n + 1 ≡ suc (n + 1) = omega arith in
    rw e (a.0, each_step P xs n t is h a.1)

pub below_step : (m : ℕ) (fs : List (ℕ × ℕ)) (n : ℕ) (d : ℕ × ℕ) → n < length fs → (get_or fs n d).0 < m → VarsBelow m (take n fs) → VarsBelow m (take (n + 1) fs)
below_step m [] n d h s a = absurd (omega arith)
below_step m (x ∷ xs) zero d h s a = (s, tt)
below_step m (x ∷ xs) (suc n) d h s a =
    let e : suc n + 1 ≡ suc (n + 1) = omega arith in
    rw e (a.0, below_step m xs n d (omega arith) s a.1)

-- what each monomial with its bounds gives
pub all_mono : (ts : List Term) → EachMono IsMonomial ts → AllMono ts
all_mono ts a = each_implies IsMonomial IsMono ts (λ m h. h.order) a

pub all_room : (ts : List Term) → EachMono IsMonomial ts → HasPlaces (2 ^ 32) ts
all_room ts a = each_implies IsMonomial (VarsBelow (2 ^ 32)) ts (λ m h. h.room) a

pub all_low : (ts : List Term) → EachMono IsMonomial ts → degree ts ≤ 255
all_low [] a = omega arith
all_low (t ∷ ts) a = let first = a.0 in omega (arith, all_low ts a.1, first.degree)

pub all_monomials : (ts : List Term) → AllMono ts → HasPlaces (2 ^ 32) ts → degree ts ≤ 255 → EachMono IsMonomial ts
all_monomials [] a b d = tt
all_monomials (t ∷ ts) a b d = (record { order = a.0; degree = omega arith; room = b.0 }, all_monomials ts a.1 b.1 (omega arith))
