-- Lower bounds of the number of sets of k things.
use Rattle.std.specs.Prelude.{◌≡◌, ℕ, zero, suc, ◌+◌, ◌-◌, ◌*◌, ◌≤◌, ◌<◌, refl}
use Rattle.std.proofs.Common.{ap, sym, ◌∙◌, subst, arith, zero-add}
use Rattle.simplex_core.specs.Walk.{choose}

-- more things than there are
choose_past : (n k : ℕ) → n < k → choose n k ≡ 0
choose_past zero zero h = absurd (omega (arith, h))
choose_past zero (suc k) h = refl
choose_past (suc n) zero h = absurd (omega (arith, h))
choose_past (suc n) (suc k) h = let p = choose_past n k (omega (arith, h)) in let q = choose_past n (suc k) (omega (arith, h)) in omega (arith, p, q)

-- all of them
choose_all : (k : ℕ) → choose k k ≡ 1
choose_all zero = refl
choose_all (suc k) = let p = choose_all k in let q = choose_past k (suc k) (omega arith) in omega (arith, p, q)

-- all but one
choose_but_one : (k : ℕ) → choose (suc k) k ≡ suc k
choose_but_one zero = refl
choose_but_one (suc k) = let p = choose_but_one k in let q = choose_all (suc k) in omega (arith, p, q)

-- all but two
pub choose_but_two : (k : ℕ) → 2 * choose (suc (suc k)) k ≡ suc k * suc (suc k)
choose_but_two zero = refl
choose_but_two (suc k) =
    let p : 2 * choose (suc (suc k)) k ≡ suc k * suc (suc k) = choose_but_two k in
    let q : choose (suc (suc k)) (suc k) ≡ suc (suc k) = choose_but_one (suc k) in
    step k (choose (suc (suc k)) k) (choose (suc (suc k)) (suc k)) p q
  where
    step : (k a b : ℕ) → 2 * a ≡ suc k * suc (suc k) → b ≡ suc (suc k) → 2 * (a + b) ≡ suc (suc k) * suc (suc (suc k))
    step k a b e f = grind (arith, e, f)

-- two of them
choose_one : (n : ℕ) → choose n 1 ≡ n
choose_one zero = refl
choose_one (suc n) = let p = choose_one n in omega (arith, p)

choose_two : (n : ℕ) → 2 * choose (suc (suc n)) 2 ≡ suc n * suc (suc n)
choose_two zero = refl
choose_two (suc n) =
    let p : 2 * choose (suc (suc n)) 2 ≡ suc n * suc (suc n) = choose_two n in
    let q : choose (suc (suc n)) 1 ≡ suc (suc n) = choose_one (suc (suc n)) in
    step n (choose (suc (suc n)) 2) (choose (suc (suc n)) 1) p q
  where
    step : (n a b : ℕ) → 2 * a ≡ suc n * suc (suc n) → b ≡ suc (suc n) → 2 * (b + a) ≡ suc (suc n) * suc (suc (suc n))
    step n a b e f = grind (arith, e, f)

-- one thing more
more_things : (n k : ℕ) → choose n k ≤ choose (suc n) k
more_things n zero = omega arith
more_things n (suc k) = omega arith

many_more : (d n k : ℕ) → choose n k ≤ choose (d + n) k
many_more zero n k = subst (λ (m : ℕ). choose n k ≤ choose m k) (sym (zero-add n)) (omega arith)
many_more (suc d) n k =
    let p = many_more d n k in let q = more_things (d + n) k in
    subst (λ (m : ℕ). choose n k ≤ choose m k) (shifted d n) (omega (arith, p, q))
  where
    shifted : (d n : ℕ) → suc (d + n) ≡ suc d + n
    shifted d n = omega arith

-- one thing more, and one of them more
both_more : (n k : ℕ) → choose n k ≤ choose (suc n) (suc k)
both_more n k = omega arith

many_both : (d n k : ℕ) → choose n k ≤ choose (d + n) (d + k)
many_both zero n k = subst (λ (m : ℕ). choose n k ≤ choose m (0 + k)) (sym (zero-add n)) (subst (λ (j : ℕ). choose n k ≤ choose n j) (sym (zero-add k)) (omega arith))
many_both (suc d) n k =
    let p = many_both d n k in let q = both_more (d + n) (d + k) in
    subst (λ (m : ℕ). choose n k ≤ choose m (suc d + k)) (shifted d n) (subst (λ (j : ℕ). choose n k ≤ choose (suc (d + n)) j) (shifted d k) (omega (arith, p, q)))
  where
    shifted : (d n : ℕ) → suc (d + n) ≡ suc d + n
    shifted d n = omega arith

-- with at least two unknowns
pub by_rows : (n m : ℕ) → 2 ≤ n → (m + 1) * (m + 2) ≤ 2 * choose (n + m) m
by_rows n m h =
    let p = many_more (n - 2) (suc (suc m)) m in
    let q = choose_but_two m in
    let r : choose ((n - 2) + suc (suc m)) m ≡ choose (n + m) m = ap (λ k. choose k m) (whole n m h) in
    last m (choose (suc (suc m)) m) (choose ((n - 2) + suc (suc m)) m) (choose (n + m) m) p q r
  where
    whole : (n m : ℕ) → 2 ≤ n → (n - 2) + suc (suc m) ≡ n + m
    whole n m h = omega (arith, h)

    last : (m a b c : ℕ) → a ≤ b → 2 * a ≡ suc m * suc (suc m) → b ≡ c → (m + 1) * (m + 2) ≤ 2 * c
    last m a b c p q r = grind (arith, p, q, r)

-- with at least two rows
pub by_unknowns : (n m : ℕ) → 2 ≤ m → (n + 1) * (n + 2) ≤ 2 * choose (n + m) m
by_unknowns n m h =
    let p = many_both (m - 2) (suc (suc n)) 2 in
    let q = choose_two n in
    let r : choose ((m - 2) + suc (suc n)) ((m - 2) + 2) ≡ choose (n + m) m = ap (λ k. choose k ((m - 2) + 2)) (whole n m h) ∙ ap (λ k. choose (n + m) k) (rest m h) in
    last n (choose (suc (suc n)) 2) (choose ((m - 2) + suc (suc n)) ((m - 2) + 2)) (choose (n + m) m) p q r
  where
    whole : (n m : ℕ) → 2 ≤ m → (m - 2) + suc (suc n) ≡ n + m
    whole n m h = omega (arith, h)

    rest : (m : ℕ) → 2 ≤ m → (m - 2) + 2 ≡ m
    rest m h = omega (arith, h)

    last : (n a b c : ℕ) → a ≤ b → 2 * a ≡ suc n * suc (suc n) → b ≡ c → (n + 1) * (n + 2) ≤ 2 * c
    last n a b c p q r = grind (arith, p, q, r)

-- with an unknown and a row there are at least as many sets as variables
pub at_least_all : (n m : ℕ) → 1 + n * m ≤ choose (n + m) m
at_least_all n zero = omega (arith, none n)
  where
    none : (n : ℕ) → n * 0 ≡ 0
    none n = grind arith
at_least_all zero (suc m) = subst (λ (k : ℕ). 1 + 0 * suc m ≤ choose k (suc m)) (sym (zero-add (suc m))) (let p = choose_all (suc m) in grind (arith, p))
at_least_all (suc n) (suc m) =
    let p : 1 + suc n * m ≤ choose (suc n + m) m = at_least_all (suc n) m in
    let q : 1 + n * suc m ≤ choose (n + suc m) (suc m) = at_least_all n (suc m) in
    let r : choose (suc n + m) m ≡ choose (n + suc m) m = ap (λ k. choose k m) (shifted n m) in
    subst (λ (k : ℕ). 1 + suc n * suc m ≤ choose k (suc m)) (whole n m) (last n m (choose (n + suc m) m) (choose (n + suc m) (suc m)) (subst (λ (x : ℕ). 1 + suc n * m ≤ x) r p) q)
  where
    shifted : (n m : ℕ) → suc n + m ≡ n + suc m
    shifted n m = omega arith

    whole : (n m : ℕ) → suc (n + suc m) ≡ suc n + suc m
    whole n m = omega arith

    last : (n m a b : ℕ) → 1 + suc n * m ≤ a → 1 + n * suc m ≤ b → 1 + suc n * suc m ≤ a + b
    last n m a b p q = grind (arith, p, q)
