-- Reading a number digit by digit, up to a limit.
use Rattle.std.proofs.Common.{◌≡◌, ℕ, suc, ◌+◌, ◌-◌, ◌*◌, ◌^◌, ◌<◌, ◌≤◌, true, false, ltb, List, [], ◌∷◌, length, take, drop, get_or, min, ◌⊎◌, inl, inr, refl, sym, ap, ◌∙◌, arith}
use Rattle.std.specs.List.{prefix_len}
use Rattle.std.proofs.lemmas.Bool.{le-ltb}
use Rattle.std.proofs.lemmas.List.Sums.{prefix_len-drop_yes, prefix_len-drop_no, prefix_len-drop_all}
use Rattle.goal_token.specs.declared.token.Token.TheVariants as token
use Rattle.goal_token.specs.Tokens.{is_digit, number_after, literal, literal_at}
use Rattle.goal_token.proofs.CommentSteps.{one_left}

-- the digits at the front
abbrev pub digits_of : List ℕ → List ℕ
digits_of bytes = take (prefix_len is_digit bytes) bytes

number_grows : (v : ℕ) (ds : List ℕ) → v ≤ number_after v ds
number_grows v [] = omega arith
number_grows v (d ∷ ds) = let h = number_grows (10 * v + (d - 48)) ds in omega arith

too_great : (v : ℕ) (ds : List ℕ) → 2 ^ 126 ≤ v → literal (number_after v ds) ≡ token.Wrong
too_great v ds le =
    let h = number_grows v ds in
    let e : ltb (number_after v ds) (2 ^ 126) ≡ false = le-ltb (number_after v ds) (2 ^ 126) (omega arith) in
    rw e refl

capped : (v : ℕ) (ds : List ℕ) → literal (number_after (min v (2 ^ 126)) ds) ≡ literal (number_after v ds)
capped v ds = elim (small_or v) [
  | inl e ↦ ap (λ k. literal (number_after k ds)) e
  | inr p ↦ ap (λ k. literal (number_after k ds)) p.1 ∙ (too_great (2 ^ 126) ds (omega arith) ∙ sym (too_great v ds p.0))
]
  where
    small_or : (v : ℕ) → (min v (2 ^ 126) ≡ v) ⊎ ((2 ^ 126 ≤ v) × (min v (2 ^ 126) ≡ 2 ^ 126))
    small_or v = grind arith

-- what is left of a number after some digits
pub record IsLeft (bytes : List ℕ) (value place : ℕ) : Type 0 where
  pub count : place + prefix_len is_digit (drop place bytes) ≡ prefix_len is_digit bytes
  pub number : literal (number_after value (digits_of (drop place bytes))) ≡ literal (number_after 0 (digits_of bytes))

pub one_more : (bytes : List ℕ) (value place : ℕ) → place < length bytes → is_digit (get_or bytes place 0) ≡ true → IsLeft bytes value place
    → IsLeft bytes (min (10 * value + (get_or bytes place 0 - 48)) (2 ^ 126)) (place + 1)
one_more bytes value place lt digit left =
    let e = prefix_len-drop_yes is_digit bytes place 0 lt digit in
    let count = left.count in
    let next = 10 * value + (get_or bytes place 0 - 48) in
    let ds : digits_of (drop place bytes) ≡ get_or bytes place 0 ∷ digits_of (drop (place + 1) bytes) =
    ap digits_of (one_left place bytes lt) ∙ head (get_or bytes place 0) (drop (place + 1) bytes) digit in
    record {
      count = omega arith;
      number = capped next (digits_of (drop (place + 1) bytes)) ∙ sym (ap (λ xs. literal (number_after value xs)) ds) ∙ left.number;
    }
  where
    head : (c : ℕ) (rest : List ℕ) → is_digit c ≡ true → digits_of (c ∷ rest) ≡ c ∷ digits_of rest
    head c rest e = rw e (let s : 1 + prefix_len is_digit rest ≡ suc (prefix_len is_digit rest) = omega arith in rw s refl)

ended : (bytes : List ℕ) (value place : ℕ) → prefix_len is_digit (drop place bytes) ≡ 0 → IsLeft bytes value place → (literal value, place) ≡ literal_at bytes
unfolding literal_at
ended bytes value place e left =
    let count = left.count in
    let n : place ≡ prefix_len is_digit bytes = omega arith in
    let v : literal value ≡ literal (number_after 0 (digits_of bytes)) = sym (ap (λ k. literal (number_after value (take k (drop place bytes)))) e) ∙ left.number in
    cc

pub no_more : (bytes : List ℕ) (value place : ℕ) → place < length bytes → is_digit (get_or bytes place 0) ≡ false → IsLeft bytes value place
    → (literal value, place) ≡ literal_at bytes
unfolding literal_at
no_more bytes value place lt digit left =
    let e = prefix_len-drop_no is_digit bytes place 0 lt digit in
    ended bytes value place e left

pub at_end : (bytes : List ℕ) (value place : ℕ) → length bytes ≤ place → IsLeft bytes value place → (literal value, place) ≡ literal_at bytes
at_end bytes value place le left = ended bytes value place (prefix_len-drop_all is_digit bytes place le) left
