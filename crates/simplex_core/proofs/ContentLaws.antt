-- Numbers without common divisor.
use Rattle.std.specs.Prelude.{◌≡◌, ◌≢◌, ℕ, zero, suc, ◌*◌, ◌/◌, ◌<◌, ◌≤◌, ◌⊎◌, List, [], ◌∷◌, length, drop, ℤ, pos, ◌+ℤ◌, ◌*ℤ◌, unsigned_abs, refl}
use Rattle.std.proofs.Common.{ap, sym, ◌∙◌, subst, inl, inr, arith, mul-one}
use Rattle.std.proofs.lemmas.Int.{ints, unsigned_abs-mul}
use Rattle.std.specs.Int.{◌∣◌}
use Rattle.std.proofs.lemmas.Nat.Gcd.{dvd-zero, dvd_trans}
use Rattle.std.proofs.Math.Nat.{mul-dvd-mul_left, dvd_of_mul-dvd-mul_left, eq-one_of_dvd-one, eq-zero_of_zero-dvd}
use Rattle.mm_num.specs.Divisor.{gcd_of}
use Rattle.mm_num.specs.Quotient.{floor_by}
use Rattle.mm_num.proofs.Ring.{dist, assoc, mul_zero}
use Rattle.mm_num.proofs.DivisorLaws.{gcd_divides}
use Rattle.mm_num.proofs.FracLaws.{floor_exact}
use Rattle.simplex_core.specs.Rows.{dot}
use Rattle.simplex_core.specs.Form.{at, DividesAll}
use Rattle.simplex_core.specs.machine.Tableau.{content, divided, lowered}
use Rattle.mm_num.proofs.QuotientLaws.{by_one}

trans_all : (g h : ℕ) (cs : List ℤ) → g ∣ h → DividesAll h cs → DividesAll g cs
trans_all g h [] d k = tt
trans_all g h (c ∷ cs) d k = (dvd_trans g d k.0, trans_all g h cs d k.1)

-- it divides each
pub content_divides : (cs : List ℤ) → DividesAll (content cs) cs
content_divides [] = tt
content_divides (c ∷ cs) =
    let g = gcd_divides (unsigned_abs c) (content cs) in
    (g.0, trans_all (gcd_of (unsigned_abs c) (content cs)) (content cs) cs g.1 (content_divides cs))

-- and each common divisor divides it
pub divides_content : (d : ℕ) (cs : List ℤ) → DividesAll d cs → d ∣ content cs
divides_content d [] h = dvd-zero d
divides_content d (c ∷ cs) h = let g = gcd_divides (unsigned_abs c) (content cs) in g.2 d h.0 (divides_content d cs h.1)

pub divides_at : (d : ℕ) (cs : List ℤ) (i : ℕ) → DividesAll d cs → d ∣ unsigned_abs (at cs i)
divides_at d [] i h = dvd-zero d
divides_at d (c ∷ cs) zero h = h.0
divides_at d (c ∷ cs) (suc i) h = divides_at d cs i h.1

positive : (g : ℕ) (c : ℤ) → g ∣ unsigned_abs c → c ≢ pos 0 → 0 < g
positive zero c d h = absurd (h (let e : unsigned_abs c ≡ 0 = eq-zero_of_zero-dvd d in omega (arith, ints, e)))
positive (suc g) c d h = omega arith

-- a number that isn't 0 makes it positive
pub content_positive : (cs : List ℤ) (i : ℕ) → at cs i ≢ pos 0 → 0 < content cs
content_positive cs i h = positive (content cs) (at cs i) (divides_at (content cs) cs i (content_divides cs)) h

pub length-divided : (g : ℕ) (cs : List ℤ) → length (divided g cs) ≡ length cs
length-divided g [] = refl
length-divided g (c ∷ cs) = ap suc (length-divided g cs)

-- times the divisor, each is what it was
pub at-divided : (g : ℕ) (cs : List ℤ) (i : ℕ) → 0 < g → DividesAll g cs → pos g *ℤ at (divided g cs) i ≡ at cs i
at-divided g [] i h d = mul_zero (pos g)
at-divided g (c ∷ cs) zero h d = floor_exact c g h d.0
at-divided g (c ∷ cs) (suc i) h d = at-divided g cs i h d.1

pub dot-divided : (g : ℕ) (cs : List ℤ) (v : ℕ → ℤ) → 0 < g → DividesAll g cs → pos g *ℤ dot v (divided g cs) ≡ dot v cs
dot-divided g [] v h d = mul_zero (pos g)
dot-divided g (c ∷ cs) v h d =
    dist (pos g) (floor_by c g *ℤ v 0) (dot (λ i. v (suc i)) (divided g cs))
    ∙ ap (λ z. z +ℤ pos g *ℤ dot (λ i. v (suc i)) (divided g cs)) (sym (assoc (pos g) (floor_by c g) (v 0)) ∙ ap (λ z. z *ℤ v 0) (floor_exact c g h d.0))
    ∙ ap (λ z. c *ℤ v 0 +ℤ z) (dot-divided g cs (λ i. v (suc i)) h d.1)

-- a common divisor of the divided numbers times the divisor is one of the numbers
multiplied : (d g : ℕ) (cs : List ℤ) → 0 < g → DividesAll g cs → DividesAll d (divided g cs) → DividesAll (g * d) cs
multiplied d g [] h k m = tt
multiplied d g (c ∷ cs) h k m =
    let e : unsigned_abs c ≡ g * unsigned_abs (floor_by c g) = sym (ap unsigned_abs (floor_exact c g h k.0)) ∙ unsigned_abs-mul (pos g) (floor_by c g) in
    (subst (λ (n : ℕ). g * d ∣ n) (sym e) (mul-dvd-mul_left d g m.0), multiplied d g cs h k.1 m.1)

-- what is left after the content has no common divisor
pub lowered_lowest : (cs : List ℤ) (d : ℕ) → 0 < content cs → DividesAll d (lowered cs) → d ≡ 1
lowered_lowest cs d h k =
    let g : content cs * d ∣ content cs = divides_content (content cs * d) cs (multiplied d (content cs) cs h (content_divides cs) k) in
    let q : d ∣ 1 = dvd_of_mul-dvd-mul_left {k = content cs} d h (subst (λ (n : ℕ). content cs * d ∣ n) (sym (mul-one (content cs))) g) in
    eq-one_of_dvd-one q

dropped : (d : ℕ) (cs : List ℤ) (i : ℕ) → DividesAll d cs → DividesAll d (drop i cs)
dropped d cs zero h = h
dropped d [] (suc i) h = tt
dropped d (c ∷ cs) (suc i) h = dropped d cs i h.1

none_or_one : (g : ℕ) → g ≤ 1 → (g ≡ 0) ⊎ (g ≡ 1)
none_or_one zero h = inl refl
none_or_one (suc g) h = inr (omega arith)

-- where the rest has no common divisor, all has none
pub content_one : (cs : List ℤ) (i : ℕ) → content (drop i cs) ≡ 1 → content cs ≡ 1
content_one cs i e =
    let d : content cs ∣ content (drop i cs) = divides_content (content cs) (drop i cs) (dropped (content cs) cs i (content_divides cs)) in
    eq-one_of_dvd-one (subst (λ (n : ℕ). content cs ∣ n) e d)

all_whole : (cs : List ℤ) → divided 1 cs ≡ cs
all_whole [] = refl
all_whole (c ∷ cs) = ap (λ x. x ∷ divided 1 cs) (by_one c) ∙ ap (λ xs. c ∷ xs) (all_whole cs)

all_zero : (cs : List ℤ) → DividesAll 0 cs → divided 0 cs ≡ cs
all_zero [] h = refl
all_zero (c ∷ cs) h =
    let e : unsigned_abs c ≡ 0 = eq-zero_of_zero-dvd h.0 in
    let z : c ≡ pos 0 = omega (arith, ints, e) in
    ap (λ x. floor_by x 0 ∷ divided 0 cs) z ∙ ap (λ xs. pos 0 ∷ xs) (all_zero cs h.1) ∙ ap (λ x. x ∷ cs) (sym z)

pub lowered_same : (cs : List ℤ) → content cs ≤ 1 → lowered cs ≡ cs
lowered_same cs h = elim (none_or_one (content cs) h) as (λ _. lowered cs ≡ cs) [
  | inl e ↦ ap (λ g. divided g cs) e ∙ all_zero cs (subst (λ (g : ℕ). DividesAll g cs) e (content_divides cs))
  | inr e ↦ ap (λ g. divided g cs) e ∙ all_whole cs
]
