-- A number that is read is spelled so, and a number that is spelled so is read.
use Rattle.std.proofs.Common.{◌≡◌, ℕ, zero, suc, ◌+◌, ◌-◌, ◌*◌, ◌/◌, ◌%◌, ◌^◌, ◌<◌, ◌≤◌, Bool, true, false, cond, ltb, leb, eqb, ◌⊎◌, inl, inr, List, [], ◌∷◌, ◌++◌, Some, None, refl, sym, ap, subst, ◌∙◌, append_assoc, arith}
use Rattle.std.specs.Prelude.{◌&&◌, decimal, codes}
use Rattle.std.proofs.lemmas.Bool.{ltb-true, leb-true, lt-ltb, le-leb, ne_eqb, and_parts, and_from}
use Rattle.std.proofs.lemmas.Fmt.{decimal_digit, decimal_step_wide, decimal_by_steps_wide}
use Rattle.std.proofs.lemmas.Option.{same_Some}
use Rattle.mm_num.proofs.OptionLaws.{choice_some, test_some}
use Rattle.cert_text.specs.Reading.{after, is_digit, digits_at, positive_at, number_at}
use Rattle.cert_text.proofs.WordLaws.{guard_some, after_takes}

-- what is read of a number below a limit, and what it leaves
pub record TakesNumber (limit : ℕ) (bytes : List ℕ) (n : ℕ) (rest : List ℕ) : Type 0 where
  pub text : bytes ≡ decimal n ++ rest
  pub below : n < limit

-- a limit on numbers
pub record IsLimit (limit : ℕ) : Type 0 where
  pub above : 9 < limit
  pub small : limit ≤ 10 ^ 64

pub small : IsLimit (2 ^ 126)
small = record { above = omega arith; small = omega arith }

pub room : IsLimit (2 ^ 32)
room = record { above = omega arith; small = omega arith }

decimal_more : (v d : ℕ) → 0 < v → d < 10 → 10 * v + d < 10 ^ 64 → decimal (10 * v + d) ≡ decimal v ++ (48 + d) ∷ []
decimal_more v d pos digit small =
    let q : (10 * v + d) / 10 ≡ v = omega arith in
    let r : (10 * v + d) % 10 ≡ d = omega arith in
    let s = decimal_step_wide (10 * v + d) (omega arith) small in
    subst (λ k. decimal (10 * v + d) ≡ decimal v ++ (48 + k) ∷ []) r (subst (λ k. decimal (10 * v + d) ≡ decimal k ++ (48 + (10 * v + d) % 10) ∷ []) q s)

digits_take : (limit value : ℕ) (bytes : List ℕ) (n : ℕ) (rest : List ℕ) → limit ≤ 10 ^ 64 → 0 < value → value < limit → digits_at limit value bytes ≡ Some (n, rest)
    → (decimal value ++ bytes ≡ decimal n ++ rest) × (n < limit) × (0 < n)
unfolding digits_at
digits_take limit value [] n rest small pos lt e =
    let p = same_Some (value, []) (n, rest) e in
    subst (λ (p : ℕ × List ℕ). (decimal value ++ [] ≡ decimal p.0 ++ p.1) × (p.0 < limit) × (0 < p.0)) p (refl, lt, pos)
digits_take limit value (c ∷ bytes) n rest small pos lt e =
    let next = 10 * value + (c - 48) in
    elim (test_some (is_digit c) (cond (ltb next limit) (digits_at limit next bytes) None) (Some (value, c ∷ bytes)) (n, rest) e) [
      | inl h ↦
          let digit = and_parts (leb 48 c) (ltb c 58) h.0 in
          let low : 48 ≤ c = leb-true 48 c digit.0 in
          let high : c < 58 = ltb-true c 58 digit.1 in
          let g = guard_some (ltb next limit) (digits_at limit next bytes) (n, rest) h.1 in
          let within : next < limit = ltb-true next limit g.0 in
          let taken = digits_take limit next bytes n rest small (omega arith) within g.1 in
          let back : 48 + (c - 48) ≡ c = omega arith in
          let more : decimal next ≡ decimal value ++ c ∷ [] = decimal_more value (c - 48) pos (omega arith) (omega arith) ∙ ap (λ k. decimal value ++ k ∷ []) back in
          let whole : decimal next ++ bytes ≡ decimal value ++ c ∷ bytes = ap (λ t. t ++ bytes) more ∙ append_assoc (decimal value) (c ∷ []) bytes in
          (sym whole ∙ taken.0, taken.1, taken.2)
      | inr h ↦
          let p = same_Some (value, c ∷ bytes) (n, rest) h.1 in
          subst (λ (p : ℕ × List ℕ). (decimal value ++ c ∷ bytes ≡ decimal p.0 ++ p.1) × (p.0 < limit) × (0 < p.0)) p (refl, lt, pos)
    ]

pub positive_takes : (limit : ℕ) (bytes : List ℕ) (n : ℕ) (rest : List ℕ) → IsLimit limit → positive_at limit bytes ≡ Some (n, rest) → TakesNumber limit bytes n rest × (0 < n)
unfolding positive_at
positive_takes limit [] n rest is e = absurd cc
positive_takes limit (c ∷ bytes) n rest is e =
    let g = guard_some (leb 49 c && ltb c 58) (digits_at limit (c - 48) bytes) (n, rest) e in
    let digit = and_parts (leb 49 c) (ltb c 58) g.0 in
    let low : 49 ≤ c = leb-true 49 c digit.0 in
    let high : c < 58 = ltb-true c 58 digit.1 in
    let above = is.above in
    let taken = digits_take limit (c - 48) bytes n rest is.small (omega arith) (omega arith) g.1 in
    let one : decimal (c - 48) ≡ c ∷ [] = decimal_digit (c - 48) (omega arith) ∙ ap (λ k. k ∷ []) (let k : 48 + (c - 48) ≡ c = omega arith in k) in
    (record { text = sym (ap (λ t. t ++ bytes) one) ∙ taken.0; below = taken.1 }, taken.2)

pub number_takes : (limit : ℕ) (bytes : List ℕ) (n : ℕ) (rest : List ℕ) → IsLimit limit → number_at limit bytes ≡ Some (n, rest) → TakesNumber limit bytes n rest
unfolding number_at
number_takes limit bytes n rest is e =
    elim (choice_some (after (codes "0") bytes) (λ t. Some (0, t)) (positive_at limit bytes) (n, rest) e) [
      | inl h ↦
          let p = same_Some (0, h.0) (n, rest) h.2 in
          let zero_text : decimal 0 ≡ 48 ∷ [] = decimal_digit 0 (omega arith) in
          let text : bytes ≡ decimal 0 ++ h.0 = after_takes (codes "0") bytes h.0 h.1 ∙ sym (ap (λ t. t ++ h.0) zero_text) in
          let above = is.above in
          subst (λ (p : ℕ × List ℕ). TakesNumber limit bytes p.0 p.1) p (record { text = text; below = omega arith })
      | inr h ↦ (positive_takes limit bytes n rest is h.1).0
    ]

-- ---- reading again

abbrev pub begins_digit : List ℕ → Bool
begins_digit [] = false
begins_digit (c ∷ bytes) = is_digit c

digits_stop : (limit n : ℕ) (rest : List ℕ) → begins_digit rest ≡ false → digits_at limit n rest ≡ Some (n, rest)
unfolding digits_at
digits_stop limit n [] stop = refl
digits_stop limit n (c ∷ rest) stop = rw stop refl

digits_go_on : (limit n : ℕ) (rest : List ℕ) → 10 ≤ n → n < limit → digits_at limit (n / 10) ((48 + n % 10) ∷ rest) ≡ digits_at limit n rest
unfolding digits_at
digits_go_on limit n rest ten lt =
    let low : leb 48 (48 + n % 10) ≡ true = le-leb 48 (48 + n % 10) (omega arith) in
    let high : ltb (48 + n % 10) 58 ≡ true = lt-ltb (48 + n % 10) 58 (omega arith) in
    let digit : is_digit (48 + n % 10) ≡ true = and_from (leb 48 (48 + n % 10)) (ltb (48 + n % 10) 58) low high in
    let value : 10 * (n / 10) + (48 + n % 10 - 48) ≡ n = omega arith in
    let within : ltb n limit ≡ true = lt-ltb n limit lt in
    rw (digit, value, within) refl

-- the digits of a number from 1 are read
abbrev IsRead : ℕ → ℕ → List ℕ → Type 0
IsRead limit n digits = 0 < n → n < limit → (rest : List ℕ) → positive_at limit (digits ++ rest) ≡ digits_at limit n rest

one_read : (limit n : ℕ) → n < 10 → IsRead limit n ((48 + n) ∷ [])
unfolding positive_at
one_read limit n small pos lt rest =
    let low : leb 49 (48 + n) ≡ true = le-leb 49 (48 + n) (omega arith) in
    let high : ltb (48 + n) 58 ≡ true = lt-ltb (48 + n) 58 (omega arith) in
    let digit : (leb 49 (48 + n) && ltb (48 + n) 58) ≡ true = and_from (leb 49 (48 + n)) (ltb (48 + n) 58) low high in
    let value : 48 + n - 48 ≡ n = omega arith in
    rw (digit, value) refl

more_read : (limit n : ℕ) (digits : List ℕ) → 10 ≤ n → IsRead limit (n / 10) digits → IsRead limit n (digits ++ (48 + n % 10) ∷ [])
more_read limit n digits ten before pos lt rest =
    ap (positive_at limit) (append_assoc digits ((48 + n % 10) ∷ []) rest) ∙ before (omega arith) (omega arith) ((48 + n % 10) ∷ rest) ∙ digits_go_on limit n rest ten lt

pub positive_again : (limit n : ℕ) (rest : List ℕ) → IsLimit limit → 0 < n → n < limit → begins_digit rest ≡ false → positive_at limit (decimal n ++ rest) ≡ Some (n, rest)
positive_again limit n rest is pos lt stop =
    let small = is.small in
    decimal_by_steps_wide (IsRead limit) (one_read limit) (more_read limit) n (omega arith) pos lt rest ∙ digits_stop limit n rest stop

-- a number from 1 doesn't begin with such a word
abbrev BeginsNot : ℕ → List ℕ → ℕ → List ℕ → Type 0
BeginsNot w word n digits = 0 < n → (rest : List ℕ) → after (w ∷ word) (digits ++ rest) ≡ None

pub not_a_word : (w : ℕ) (word : List ℕ) → (w < 49) ⊎ (57 < w) → (n : ℕ) (rest : List ℕ) → 0 < n → n < 10 ^ 64 → after (w ∷ word) (decimal n ++ rest) ≡ None
not_a_word w word apart n rest pos small =
    decimal_by_steps_wide (BeginsNot w word)
    (λ k digit p r. let other : eqb (48 + k) w ≡ false = ne_eqb (48 + k) w (λ same. elim apart [ inl h ↦ omega arith | inr h ↦ omega arith ]) in rw other refl)
    (λ k digits ten before p r. ap (after (w ∷ word)) (append_assoc digits ((48 + k % 10) ∷ []) r) ∙ before (omega arith) ((48 + k % 10) ∷ r))
    n small pos rest

pub number_again : (limit n : ℕ) (rest : List ℕ) → IsLimit limit → n < limit → begins_digit rest ≡ false → number_at limit (decimal n ++ rest) ≡ Some (n, rest)
unfolding number_at
number_again limit zero rest is lt stop =
    let zero_text : decimal 0 ≡ 48 ∷ [] = decimal_digit 0 (omega arith) in
    rw zero_text refl
number_again limit (suc n) rest is lt stop =
    let small = is.small in
    let no : after (codes "0") (decimal (suc n) ++ rest) ≡ None = not_a_word 48 [] (inl (omega arith)) (suc n) rest (omega arith) (omega arith) in
    rw (no, number_at) (positive_again limit (suc n) rest is (omega arith) lt stop)
