-- Powers that stop at a limit.
use Rattle.std.specs.Prelude.{◌≡◌, ◌≢◌, ℕ, zero, suc, ◌+◌, ◌*◌, ◌^◌, ◌<◌, ◌≤◌, min, refl}
use Rattle.std.proofs.Common.{ap, sym, ◌∙◌, arith, add-one, inl, inr}
use Rattle.std.proofs.Math.Nat.{pow-zero, pow-suc, pow-le-pow_right, mul-le-mul_left, mul_comm}
use Rattle.std.proofs.lemmas.Bool.{cases_lt}

pub power_none : (n limit : ℕ) → 2 ≤ limit → n ≡ 0 → 1 ≡ min (0 ^ n) limit
power_none n limit h e = let p : 0 ^ n ≡ 1 = ap (λ k. 0 ^ k) e ∙ pow-zero 0 in omega arith

pub power_some : (n limit : ℕ) → n ≢ 0 → 0 ≡ min (0 ^ n) limit
power_some zero limit h = absurd (h refl)
power_some (suc m) limit h = let p : 0 ^ suc m ≡ 0 ^ m * 0 = pow-suc 0 m in omega arith

ones : (n : ℕ) → 1 ^ n ≡ 1
ones zero = pow-zero 1
ones (suc m) = let p : 1 ^ suc m ≡ 1 ^ m * 1 = pow-suc 1 m in let q = ones m in omega arith

pub power_one : (n limit : ℕ) → 2 ≤ limit → 1 ≡ min (1 ^ n) limit
power_one n limit h = let p = ones n in omega arith

next_power : (b i : ℕ) → b ^ (i + 1) ≡ b ^ i * b
next_power b i = rw add-one (pow-suc b i)

-- where the next power reaches the limit, so do all later ones
pub power_reaches : (b i n v r limit top : ℕ) → 2 ≤ b → i < n → v ≡ b ^ i → r ≡ min (v * b) top → limit ≤ r → limit ≡ min (b ^ n) limit
power_reaches b i n v r limit top h l e m k =
    let p : b ^ (i + 1) ≡ b ^ i * b = next_power b i in
    let s : v * b ≡ b ^ i * b = ap (λ w. w * b) e in
    let q : b ^ (i + 1) ≤ b ^ n = pow-le-pow_right {n = b} (omega arith) {i = i + 1} {j = n} (omega arith) in
    omega arith

pub power_goes : (b i v r limit top : ℕ) → v ≡ b ^ i → r ≡ min (v * b) top → r < limit → limit ≤ top → (r ≡ b ^ (i + 1)) × (r < limit)
power_goes b i v r limit top e m l k =
    let p : b ^ (i + 1) ≡ b ^ i * b = next_power b i in
    let s : v * b ≡ b ^ i * b = ap (λ w. w * b) e in
    (omega arith, l)

-- ---- numbers that stop at a limit

more_times : (c k : ℕ) → 1 ≤ k → c ≤ c * k
more_times c k h = let p : c * 1 ≤ c * k = mul-le-mul_left c h in omega arith

-- a product with a part that passes the limit
big_product : (a b c : ℕ) → c ≤ a → 1 ≤ c → min (min a c * min b c) c ≡ min (a * b) c
big_product a zero c h k = let m : min 0 c ≡ 0 = omega arith in let p : min a c * min 0 c ≡ min a c * 0 = ap (λ n. min a c * n) m in omega arith
big_product a (suc b) c h k =
    let m : min a c ≡ c = omega arith in
    let n : 1 ≤ min (suc b) c = omega arith in
    let p : min a c * min (suc b) c ≡ c * min (suc b) c = ap (λ w. w * min (suc b) c) m in
    let q : c ≤ c * min (suc b) c = more_times c (min (suc b) c) n in
    let r : a ≤ a * suc b = more_times a (suc b) (omega arith) in
    omega arith

pub product_below : (a b c : ℕ) → 1 ≤ c → min (min a c * min b c) c ≡ min (a * b) c
product_below a b c k = elim (cases_lt a c) [ inr h ↦ big_product a b c h k | inl h ↦ second h ]
  where
    small : a < c → b < c → min (min a c * min b c) c ≡ min (a * b) c
    small h l =
        let m : min a c ≡ a = omega arith in
        let n : min b c ≡ b = omega arith in
        ap (λ w. min (w * min b c) c) m ∙ ap (λ w. min (a * w) c) n

    exchanged : c ≤ b → min (min a c * min b c) c ≡ min (a * b) c
    exchanged l =
        let p : min a c * min b c ≡ min b c * min a c = mul_comm (min a c) (min b c) in
        let q : b * a ≡ a * b = mul_comm b a in
        ap (λ w. min w c) p ∙ big_product b a c l k ∙ ap (λ w. min w c) q

    second : a < c → min (min a c * min b c) c ≡ min (a * b) c
    second h = elim (cases_lt b c) [ inr l ↦ exchanged l | inl l ↦ small h l ]

pub power_below_limit : (a k c : ℕ) → 2 ≤ c → min (min a c ^ k) c ≡ min (a ^ k) c
power_below_limit a zero c h =
    let p : min a c ^ 0 ≡ 1 = pow-zero (min a c) in
    let q : a ^ 0 ≡ 1 = pow-zero a in
    omega arith
power_below_limit a (suc k) c h =
    let p : min a c ^ suc k ≡ min a c ^ k * min a c = pow-suc (min a c) k in
    let q : a ^ suc k ≡ a ^ k * a = pow-suc a k in
    let r = product_below (min a c ^ k) (min a c) c (omega arith) in
    let s = product_below (a ^ k) a c (omega arith) in
    let i = power_below_limit a k c h in
    let m : min (min a c) c ≡ min a c = omega arith in
    ap (λ w. min w c) p ∙ sym r ∙ ap (λ w. min (w * min (min a c) c) c) i ∙ ap (λ w. min (min (a ^ k) c * w) c) m ∙ s ∙ ap (λ w. min w c) (sym q)

pub multiple_below : (k d c : ℕ) → 1 ≤ c → min (k * min d c) c ≡ min (k * d) c
multiple_below k d c h =
    let p = product_below k (min d c) c h in
    let m : min (min d c) c ≡ min d c = omega arith in
    sym p ∙ ap (λ w. min (min k c * w) c) m ∙ product_below k d c h
