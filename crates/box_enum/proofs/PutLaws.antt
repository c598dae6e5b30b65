-- A value put for a variable: what stays, and what is gone.
use Rattle.std.specs.Prelude.{◌≡◌, ℕ, zero, suc, ◌+◌, ◌*◌, ◌^◌, ◌<◌, ◌≤◌, ◌==◌, ◌||◌, ℤ, pos, ◌+ℤ◌, ◌*ℤ◌, unsigned_abs, List, [], ◌∷◌, Bool, true, false, nat_lt, nat_eq, refl}
use Rattle.std.proofs.Common.{ap, sym, ◌∙◌, subst, arith, eq-eqb}
use Rattle.std.proofs.lemmas.Bool.{ne_eqb}
use Rattle.std.proofs.Math.IntN.{*ℤ_comm}
use Rattle.std.proofs.Math.Nat.{mul-le-mul}
use Rattle.mm_num.specs.Power.{power}
use Rattle.mm_num.proofs.Ring.{assoc, swap}
use Rattle.mm_poly.specs.declared.term.Term.{Term}
use Rattle.mm_poly.specs.Mono.{mono_value, exponent_of, without_variable, with_exponent, IsMono, IsMonomial}
use Rattle.mm_poly.specs.Poly.{value, spread, degree, IsPoly, EachMono, AllMono, Fits, with_coeff, add_term, plus, joined}
use Rattle.mm_poly.proofs.ValueLaws.{one_mul, sum_zero, value_plus, value_with}
use Rattle.mm_poly.proofs.SumLaws.{add_first, with_nonzero}
use Rattle.mm_poly.proofs.EachLaws.{all_monomials}
use Rattle.mm_poly.proofs.ExponentLaws.{by_variable, mono_without, monomial_without}
use Rattle.mm_poly.proofs.JoinedLaws.{fits_joined}
use Rattle.cert_kit.specs.Variables.{mono_variables, poly_variables}
use Rattle.cert_kit.proofs.VariableLaws.{occurs, any_append}
use Rattle.box_enum.specs.machine.Putting.{exponent, without, put_value, put_terms, has_variable, weight, IsTame}
use Rattle.box_enum.proofs.JoiningLaws.{spread_of_joined, degree_of_joined, weight_of_joined, each_joined, poly_of_joined}
use Rattle.box_enum.proofs.CofactorLaws.{by_equal, exponent_same, without_same, whole, put_joined}
use Rattle.box_enum.proofs.PutBoundLaws.{norm_below, weight_put, spread_put, degree_put, each_put}

-- ---- within the bounds

pub put_fits : (b x : ℕ) (v : ℤ) (p : List Term) → IsTame b p → unsigned_abs v ≤ b → Fits (joined (put_terms x v p))
put_fits b x v p t h =
    let f = t.fits in
    let w : weight b p < 2 ^ 100 = t.weight in
    fits_joined (put_terms x v p)
    (each_put IsMonomial x v p (λ m a. monomial_without m x a) (all_monomials p t.monos f.room f.degree))
    (omega (arith, norm_below b (put_terms x v p), weight_put b x v p h t.monos, w))
    (omega (arith, spread_put x v p, f.spread))

at_most_product : (a b c d n : ℕ) → a ≤ b → c ≤ d → b * (2 * d + 1) ≤ n → a * (2 * c + 1) ≤ n
at_most_product a b c d n h k l =
    let e : 2 * c + 1 ≤ 2 * d + 1 = omega (arith, k) in
    let s : a * (2 * c + 1) ≤ b * (2 * d + 1) = mul-le-mul h e in
    omega (arith, s, l)

pub put_tame : (b x : ℕ) (v : ℤ) (p : List Term) → IsTame b p → unsigned_abs v ≤ b → IsTame b (put_value x v p)
put_tame b x v p t h =
    let q = put_terms x v p in
    let f = put_fits b x v p t h in
    let w : weight b p < 2 ^ 100 = t.weight in
    let s : spread p * (2 * degree p + 1) ≤ 65536 = t.spread in
    let tame : IsTame b (joined q) = record {
      fits = f;
      monos = f.monos;
      weight = omega (arith, weight_of_joined b q, weight_put b x v p h t.monos, w);
      spread = at_most_product (spread (joined q)) (spread p) (degree (joined q)) (degree p) 65536
          (omega (arith, spread_of_joined q, spread_put x v p)) (omega (arith, degree_of_joined q, degree_put x v p t.monos)) s;
    } in
    subst (λ (r : List Term). IsTame b r) (sym (put_joined x v p t.monos)) tame

-- ---- a polynomial still

pub put_poly : (x : ℕ) (v : ℤ) (p : List Term) → AllMono p → IsPoly (put_value x v p)
put_poly x v p a = subst (λ (r : List Term). IsPoly r) (sym (put_joined x v p a)) (poly_of_joined (put_terms x v p))

-- what stays without one of its variables
pub put_each : (P : List (ℕ × ℕ) → Type 0) (x : ℕ) (v : ℤ) (p : List Term) → AllMono p → ((m : List (ℕ × ℕ)) → P m → P (without_variable m x)) → EachMono P p
    → EachMono P (put_value x v p)
put_each P x v p a h e = subst (λ (r : List Term). EachMono P r) (sym (put_joined x v p a)) (each_joined P (put_terms x v p) (each_put P x v p h e))

pub put_monos : (x : ℕ) (v : ℤ) (p : List Term) → AllMono p → AllMono (put_value x v p)
put_monos x v p a = put_each IsMono x v p a (λ m h. mono_without m x h) a

-- ---- a variable that doesn't occur

no_more : (s t : Bool) → (s || t) ≡ false → (s ≡ false) × (t ≡ false)
no_more true t e = absurd cc
no_more false t e = (refl, e)

not_below : (n : ℕ) → nat_lt 0 n ≡ false → n ≡ 0
not_below zero e = refl
not_below (suc n) e = grind arith

times_one : (c : ℤ) → c *ℤ pos 1 ≡ c
times_one c = *ℤ_comm c (pos 1) ∙ one_mul c

stays : (x : ℕ) (m : List (ℕ × ℕ)) → IsMono m → exponent_of m x ≡ 0 → (exponent x m ≡ 0) × (without x m ≡ m)
stays x m a e = (exponent_same x m ∙ e, without_same x m a ∙ sym (ap (λ k. with_exponent m x k) e) ∙ whole x m a)

pub put_unused : (x : ℕ) (v : ℤ) (p : List Term) → IsPoly p → AllMono p → has_variable x p ≡ false → put_value x v p ≡ p
put_unused x v [] a m h = refl
put_unused x v (t ∷ ts) a m h =
    let n = no_more (nat_lt 0 (exponent_of t.mono x)) (has_variable x ts) h in
    let s = stays x t.mono m.0 (not_below (exponent_of t.mono x) n.0) in
    ap (λ k. plus (with_coeff (t.coeff *ℤ power v k) (without x t.mono) []) (put_value x v ts)) s.0
    ∙ ap (λ (k : List (ℕ × ℕ)). plus (with_coeff (t.coeff *ℤ pos 1) k []) (put_value x v ts)) s.1
    ∙ ap (λ c. plus (with_coeff c t.mono []) (put_value x v ts)) (times_one t.coeff)
    ∙ ap (λ (r : List Term). plus r (put_value x v ts)) (with_nonzero t.coeff t.mono [] a.0)
    ∙ ap (λ (r : List Term). add_term t r) (put_unused x v ts a.2 m.1 n.1)
    ∙ add_first t ts a.1

-- ---- the value at a point where the variable has this value

mono_apart : (x : ℕ → ℤ) (v : ℕ) (m : List (ℕ × ℕ)) → mono_value x m ≡ power (x v) (exponent v m) *ℤ mono_value x (without v m)
mono_apart x v [] = sym (one_mul (pos 1))
mono_apart x v (f ∷ fs) = by_equal v f.0
    (λ e.
    let s : (v == f.0) ≡ true = eq-eqb v f.0 e in
    rw s (ap (λ w. power (x w) f.1 *ℤ mono_value x fs) (sym e)))
    (λ n.
    let s : (v == f.0) ≡ false = ne_eqb v f.0 n in
    rw s (ap (λ z. power (x f.0) f.1 *ℤ z) (mono_apart x v fs) ∙ swap (power (x f.0) f.1) (power (x v) (exponent v fs)) (mono_value x (without v fs))))

pub put_keeps_value : (x : ℕ → ℤ) (v : ℕ) (z : ℤ) (p : List Term) → x v ≡ z → value x (put_value v z p) ≡ value x p
put_keeps_value x v z [] e = refl
put_keeps_value x v z (t ∷ ts) e =
    let k = exponent v t.mono in
    let m = without v t.mono in
    value_plus x (with_coeff (t.coeff *ℤ power z k) m []) (put_value v z ts)
    ∙ ap (λ y. y +ℤ value x (put_value v z ts)) (value_with x (t.coeff *ℤ power z k) m [] ∙ sum_zero ((t.coeff *ℤ power z k) *ℤ mono_value x m))
    ∙ ap (λ y. y +ℤ value x (put_value v z ts)) (assoc t.coeff (power z k) (mono_value x m))
    ∙ ap (λ y. t.coeff *ℤ (power y k *ℤ mono_value x m) +ℤ value x (put_value v z ts)) (sym e)
    ∙ ap (λ y. t.coeff *ℤ y +ℤ value x (put_value v z ts)) (sym (mono_apart x v t.mono))
    ∙ ap (λ y. t.coeff *ℤ mono_value x t.mono +ℤ y) (put_keeps_value x v z ts e)

-- ---- the variables that are left

pub gone : (x : ℕ) (m : List (ℕ × ℕ)) → occurs x (mono_variables (without_variable m x)) ≡ false
gone x [] = refl
gone x (f ∷ fs) = by_equal f.0 x
    (λ e. let s : (f.0 == x) ≡ true = eq-eqb f.0 x e in rw s (gone x fs))
    (λ n.
    let s : (f.0 == x) ≡ false = ne_eqb f.0 x n in
    let t : nat_eq x f.0 ≡ false = ne_eqb x f.0 (λ e. n (sym e)) in
    rw s (ap (λ b. b || occurs x (mono_variables (without_variable fs x))) t ∙ gone x fs))

pub still_absent : (v x : ℕ) (m : List (ℕ × ℕ)) → occurs v (mono_variables m) ≡ false → occurs v (mono_variables (without_variable m x)) ≡ false
still_absent v x [] e = refl
still_absent v x (f ∷ fs) e =
    let n = no_more (nat_eq v f.0) (occurs v (mono_variables fs)) e in
    let rest = still_absent v x fs n.1 in
    by_variable f fs x (λ r. occurs v (mono_variables r) ≡ false) (ap (λ b. b || occurs v (mono_variables (without_variable fs x))) n.0 ∙ rest) rest

each_absent : (v : ℕ) (p : List Term) → occurs v (poly_variables p) ≡ false → EachMono (λ m. occurs v (mono_variables m) ≡ false) p
each_absent v [] e = tt
each_absent v (t ∷ ts) e =
    let n = no_more (occurs v (mono_variables t.mono)) (occurs v (poly_variables ts)) (sym (any_append (nat_eq v) (mono_variables t.mono) (poly_variables ts)) ∙ e) in
    (n.0, each_absent v ts n.1)

all_absent : (v : ℕ) (p : List Term) → EachMono (λ m. occurs v (mono_variables m) ≡ false) p → occurs v (poly_variables p) ≡ false
all_absent v [] a = refl
all_absent v (t ∷ ts) a =
    any_append (nat_eq v) (mono_variables t.mono) (poly_variables ts)
    ∙ ap (λ b. b || occurs v (poly_variables ts)) a.0
    ∙ all_absent v ts a.1

each_gone : (x : ℕ) (v : ℤ) (p : List Term) → EachMono (λ m. occurs x (mono_variables m) ≡ false) (put_terms x v p)
each_gone x v [] = tt
each_gone x v (t ∷ ts) = (gone x t.mono, each_gone x v ts)

-- the variable itself is gone
pub put_gone : (x : ℕ) (v : ℤ) (p : List Term) → AllMono p → occurs x (poly_variables (put_value x v p)) ≡ false
put_gone x v p a = all_absent x (put_value x v p)
    (subst (λ (r : List Term). EachMono (λ m. occurs x (mono_variables m) ≡ false) r) (sym (put_joined x v p a))
    (each_joined (λ m. occurs x (mono_variables m) ≡ false) (put_terms x v p) (each_gone x v p)))

-- and no other one comes
pub put_absent : (w x : ℕ) (v : ℤ) (p : List Term) → AllMono p → occurs w (poly_variables p) ≡ false → occurs w (poly_variables (put_value x v p)) ≡ false
put_absent w x v p a e = all_absent w (put_value x v p) (put_each (λ m. occurs w (mono_variables m) ≡ false) x v p a (λ m h. still_absent w x m h) (each_absent w p e))
