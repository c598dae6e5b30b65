-- Equal texts with equal beginnings: a word, a number, or what stands before a line feed.
use Rattle.std.proofs.Common.{◌≡◌, ℕ, ◌^◌, Bool, true, false, eqb, List, [], ◌∷◌, ◌++◌, length, get_or, refl, sym, ap, subst, ◌∙◌, append_assoc, arith}
use Rattle.std.specs.Prelude.{◌||◌, ◌==◌, codes, decimal}
use Rattle.std.specs.List.{AllByRecursion}
use Rattle.std.proofs.lemmas.Bool.{eqb-true, eq-eqb}
use Rattle.std.proofs.lemmas.List.{append_cancel_left}
use Rattle.std.proofs.lemmas.Option.{some_pair_parts}
use Rattle.goal_token.specs.Spacing.{IsName, IsNameText}
use Rattle.goal_token.specs.Tokens.{begins_name, is_name_byte}
use Rattle.cert_text.specs.Text.{has_line_feed}
use Rattle.cert_text.specs.Reading.{number_at}
use Rattle.cert_text.proofs.NumberLaws.{IsLimit, begins_digit, number_again}
use Rattle.report_text.specs.Line.{IsFree}

pub free : IsLimit (2 ^ 64)
free = record { above = omega arith; small = omega arith }

-- texts with different bytes at one place are not the same
pub apart : {A : Type 0} (k : ℕ) (x y : List ℕ) → x ≡ y → eqb (get_or x k 0) (get_or y k 0) ≡ false → A
apart k x y e h =
    absurd
    (let same : eqb (get_or y k 0) (get_or y k 0) ≡ false = subst (λ z. eqb (get_or z k 0) (get_or y k 0) ≡ false) e h in let other = eq-eqb (get_or y k 0)
    (get_or y k 0) refl in cc)

-- ---- numbers

pub number_peeled : (m n : ℕ) (x y : List ℕ) → IsFree m → IsFree n → begins_digit x ≡ false → begins_digit y ≡ false → decimal m ++ x ≡ decimal n ++ y → (m ≡ n) × (x ≡ y)
number_peeled m n x y i j stop other e =
    some_pair_parts m n x y (sym (number_again (2 ^ 64) m x free i stop) ∙ ap (number_at (2 ^ 64)) e ∙ number_again (2 ^ 64) n y free j other)

-- a word and a number before what begins with no digit
pub number_line : (word : List ℕ) (m n : ℕ) (s t a b : List ℕ) → IsFree m → IsFree n → begins_digit (s ++ a) ≡ false → begins_digit (t ++ b) ≡ false
    → (word ++ (decimal m ++ s)) ++ a ≡ (word ++ (decimal n ++ t)) ++ b → (m ≡ n) × (s ++ a ≡ t ++ b)
number_line word m n s t a b i j stop other e =
    number_peeled m n (s ++ a) (t ++ b) i j stop other
    (append_cancel_left word (decimal m ++ (s ++ a)) (decimal n ++ (t ++ b)) (sym (regroup m s a) ∙ e ∙ regroup n t b))
  where
    regroup : (k : ℕ) (s a : List ℕ) → (word ++ (decimal k ++ s)) ++ a ≡ word ++ (decimal k ++ (s ++ a))
    regroup k s a = append_assoc word (decimal k ++ s) a ∙ ap (λ t. word ++ t) (append_assoc (decimal k) s a)

-- ---- up to a line feed

abbrev pub NoFeed : List ℕ → Type 0
NoFeed bytes = has_line_feed bytes ≡ false

cons_parts : (x y : ℕ) (xs ys : List ℕ) → x ∷ xs ≡ y ∷ ys → (x ≡ y) × (xs ≡ ys)
cons_parts x y xs ys e = (cc, cc)

no_parts : (b c : Bool) → (b || c) ≡ false → (b ≡ false) × (c ≡ false)
no_parts true c e = absurd cc
no_parts false c e = (refl, e)

no_first : (c : ℕ) (x : List ℕ) → NoFeed (c ∷ x) → c ≡ 10 → ⊥
no_first c x h e = let p = no_parts (c == 10) (has_line_feed x) h in absurd (let q : (10 == 10) ≡ false = subst (λ d. (d == 10) ≡ false) e p.0 in cc)

no_later : (c : ℕ) (x : List ℕ) → NoFeed (c ∷ x) → NoFeed x
no_later c x h = (no_parts (c == 10) (has_line_feed x) h).1

pub no_feed_joined : (x y : List ℕ) → NoFeed x → NoFeed y → NoFeed (x ++ y)
no_feed_joined [] y h k = k
no_feed_joined (c ∷ x) y h k = let p = no_parts (c == 10) (has_line_feed x) h in ap (λ b. b || has_line_feed (x ++ y)) p.0 ∙ no_feed_joined x y p.1 k

pub to_feed : (x y a b : List ℕ) → NoFeed x → NoFeed y → x ++ 10 ∷ a ≡ y ++ 10 ∷ b → (x ≡ y) × (a ≡ b)
to_feed [] [] a b h k e = (refl, (cons_parts 10 10 a b e).1)
to_feed [] (d ∷ y) a b h k e = absurd (no_first d y k (sym (cons_parts 10 d a (y ++ 10 ∷ b) e).0))
to_feed (c ∷ x) [] a b h k e = absurd (no_first c x h (cons_parts c 10 (x ++ 10 ∷ a) b e).0)
to_feed (c ∷ x) (d ∷ y) a b h k e =
    let p = cons_parts c d (x ++ 10 ∷ a) (y ++ 10 ∷ b) e in
    let q = to_feed x y a b (no_later c x h) (no_later d y k) p.1 in
    (ap (λ e. e ∷ x) p.0 ∙ ap (λ xs. d ∷ xs) q.0, q.1)

-- a text before a line feed at its end
pub to_end : (x y a b : List ℕ) → NoFeed x → NoFeed y → (x ++ codes "\n") ++ a ≡ (y ++ codes "\n") ++ b → (x ≡ y) × (a ≡ b)
to_end x y a b h k e = to_feed x y a b h k (sym (append_assoc x (codes "\n") a) ∙ e ∙ append_assoc y (codes "\n") b)

no_feed_byte : (p : ℕ → Bool) (c : ℕ) → p c ≡ true → p 10 ≡ false → (c == 10) ≡ false
no_feed_byte p c h other = elim (c == 10) as (λ b. (c == 10) ≡ b → b ≡ false) [
  | true ↦ λ e. absurd (let q : p 10 ≡ true = subst (λ d. p d ≡ true) (eqb-true c 10 e) h in cc)
  | false ↦ λ e. refl
] refl

pub in_front : (c : ℕ) (x : List ℕ) → (c == 10) ≡ false → NoFeed x → NoFeed (c ∷ x)
in_front c x e h = ap (λ t. t || has_line_feed x) e ∙ h

name_bytes : (x : List ℕ) → AllByRecursion (λ d. is_name_byte d ≡ true) x → NoFeed x
name_bytes [] are = refl
name_bytes (c ∷ x) are = in_front c x (no_feed_byte is_name_byte c are.0 refl) (name_bytes x are.1)

pub name_no_feed : (x : List ℕ) → IsName x → NoFeed x
name_no_feed x is = by_shape x is.shape
  where
    by_shape : (x : List ℕ) → IsNameText x → NoFeed x
    by_shape [] shape = absurd shape
    by_shape (c ∷ x) shape = in_front c x (no_feed_byte begins_name c shape.0 refl) (name_bytes x shape.1)

-- ---- texts of one length

pub same_length : (x y a b : List ℕ) → length x ≡ length y → x ++ a ≡ y ++ b → (x ≡ y) × (a ≡ b)
same_length [] [] a b n e = (refl, e)
same_length [] (d ∷ y) a b n e = absurd (omega (arith, n))
same_length (c ∷ x) [] a b n e = absurd (omega (arith, n))
same_length (c ∷ x) (d ∷ y) a b n e =
    let p = cons_parts c d (x ++ a) (y ++ b) e in
    let q = same_length x y a b (omega (arith, n)) p.1 in
    (ap (λ e. e ∷ x) p.0 ∙ ap (λ xs. d ∷ xs) q.0, q.1)
