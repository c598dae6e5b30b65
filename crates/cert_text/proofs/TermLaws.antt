-- A term that is read is spelled so, and a term that is spelled so is read.
use Rattle.std.proofs.Common.{◌≡◌, ◌≢◌, ℕ, zero, suc, ◌^◌, ◌<◌, Bool, true, false, cond, eqb, inl, inr, List, [], ◌∷◌, ◌++◌, Option, Some, None, refl, sym, ap, subst, ◌∙◌, append_assoc, arith}
use Rattle.std.specs.Prelude.{ℤ, pos, negsuc, unsigned_abs, decimal, codes}
use Rattle.std.specs.List.{flat_map}
use Rattle.std.proofs.lemmas.Bool.{ne_eqb, cases_eq}
use Rattle.std.proofs.lemmas.Option.{same_Some}
use Rattle.mm_num.specs.Option.{◌>>=◌}
use Rattle.mm_num.proofs.OptionLaws.{bind_some, choice_some}
use Rattle.mm_poly.specs.declared.term.Term.{Term}
use Rattle.mm_poly.specs.Mono.{IsMonomial}
use Rattle.cert_text.specs.Text.{factor_text, more_factors, term_text, first_sign, next_sign, more_terms}
use Rattle.cert_text.specs.Reading.{after, positive_at, monomial_at, multiple_at, signed, signed_term, term_at, first_sign_of, first_sign_at, next_sign_at, next_term_at}
use Rattle.cert_text.proofs.WordLaws.{guard_none, after_takes}
use Rattle.cert_text.proofs.NumberLaws.{TakesNumber, small, positive_takes, positive_again, not_a_word}
use Rattle.cert_text.proofs.ManyLaws.{AreTaken, AreRead}
use Rattle.cert_text.proofs.MonoLaws.{TakesMonomial, monomial_takes, monomial_again, factors_on, factors_text_on, ends_term, factor_ends, no_digit, no_star}

no_factors : IsMonomial []
no_factors = record { order = tt; degree = omega arith; room = tt }

-- ---- texts, nested to the right

multiple_front : (n : ℕ) (f : ℕ × ℕ) (fs : List (ℕ × ℕ)) (rest : List ℕ) → eqb n 1 ≡ false → term_text n (f ∷ fs) ++ rest ≡ decimal n ++ (codes "*" ++ ((factor_text f ++ more_factors fs) ++ rest))
multiple_front n f fs rest other =
    let factors = factor_text f ++ more_factors fs in
    let front : term_text n (f ∷ fs) ≡ (decimal n ++ codes "*") ++ factors = rw other refl in
    ap (λ t. t ++ rest) front ∙ append_assoc (decimal n ++ codes "*") factors rest ∙ append_assoc (decimal n) (codes "*") (factors ++ rest)

multiple_text : (n : ℕ) (f : ℕ × ℕ) (fs : List (ℕ × ℕ)) (rest : List ℕ) → eqb n 1 ≡ false → term_text n (f ∷ fs) ++ rest ≡ decimal n ++ (codes "*x" ++ factors_on f fs rest)
multiple_text n f fs rest other = multiple_front n f fs rest other ∙ ap (λ t. decimal n ++ (42 ∷ t)) (factors_text_on f fs rest)

-- ---- what is read

-- a magnitude and a monomial
pub record TakesProduct (bytes : List ℕ) (n : ℕ) (m : List (ℕ × ℕ)) (rest : List ℕ) : Type 0 where
  pub text : bytes ≡ term_text n m ++ rest
  pub written : IsMonomial m
  pub positive : 0 < n
  pub small : n < 2 ^ 126

-- a magnitude of 1, left out
lone_takes : (bytes x_rest : List ℕ) (m : List (ℕ × ℕ)) (rest : List ℕ) → bytes ≡ codes "x" ++ x_rest → TakesMonomial x_rest m rest → TakesProduct bytes 1 m rest
lone_takes bytes x_rest m rest e t =
    let whole : bytes ≡ term_text 1 (t.first ∷ t.others) ++ rest = e ∙ t.text in
    let text : bytes ≡ term_text 1 m ++ rest = subst (λ m. bytes ≡ term_text 1 m ++ rest) t.is whole in
    record { text = text; written = t.good; positive = omega arith; small = omega arith }

multiple_takes : (n : ℕ) (bytes n_rest x_rest : List ℕ) (m : List (ℕ × ℕ)) (rest : List ℕ) → bytes ≡ decimal n ++ n_rest → 0 < n → n < 2 ^ 126 → n_rest ≡ codes "*x" ++ x_rest → eqb n 1 ≡ false
    → TakesMonomial x_rest m rest → TakesProduct bytes n m rest
multiple_takes n bytes n_rest x_rest m rest e positive below f other t =
    let whole : bytes ≡ term_text n (t.first ∷ t.others) ++ rest = e ∙ ap (λ b. decimal n ++ b) (f ∙ ap (λ b. 42 ∷ b) t.text) ∙ sym (multiple_front n t.first t.others rest other) in
    let text : bytes ≡ term_text n m ++ rest = subst (λ m. bytes ≡ term_text n m ++ rest) t.is whole in
    record { text = text; written = t.good; positive = positive; small = below }

product_takes : (n : ℕ) (bytes n_rest : List ℕ) (m : List (ℕ × ℕ)) (rest : List ℕ) → TakesNumber (2 ^ 126) bytes n n_rest → 0 < n → multiple_at n n_rest ≡ Some (m, rest) → TakesProduct bytes n m rest
unfolding multiple_at
product_takes n bytes n_rest m rest t positive e =
    elim (choice_some (after (codes "*x") n_rest) (λ r. cond (eqb n 1) None (monomial_at r)) (Some ([], n_rest)) (m, rest) e) [
      | inl h ↦
          let g = guard_none (eqb n 1) (monomial_at h.0) (m, rest) h.2 in
          multiple_takes n bytes n_rest h.0 m rest t.text positive t.below (after_takes (codes "*x") n_rest h.0 h.1) g.0 (monomial_takes h.0 m rest g.1)
      | inr h ↦
          subst (λ (p : List (ℕ × ℕ) × List ℕ). TakesProduct bytes n p.0 p.1) (same_Some ([], n_rest) (m, rest) h.1) (record { text = t.text; written = no_factors; positive = positive; small = t.below })
    ]

pub record TakesTerm (negative : Bool) (bytes : List ℕ) (t : Term) (rest : List ℕ) : Type 0 where
  pub magnitude : ℕ
  pub coeff : t.coeff ≡ signed negative magnitude
  pub product : TakesProduct bytes magnitude t.mono rest

term_takes : (negative : Bool) (bytes : List ℕ) (t : Term) (rest : List ℕ) → term_at negative bytes ≡ Some (t, rest) → TakesTerm negative bytes t rest
unfolding term_at
term_takes negative bytes t rest e =
    elim (choice_some (after (codes "x") bytes) (λ r. monomial_at r >>= λ m. Some (signed_term negative 1 m.0, m.1))
    (positive_at (2 ^ 126) bytes >>= λ n. multiple_at n.0 n.1 >>= λ m. Some (signed_term negative n.0 m.0, m.1)) (t, rest) e) [
      | inl h ↦
          let a = bind_some (monomial_at h.0) (λ m. Some (signed_term negative 1 m.0, m.1)) (t, rest) h.2 in
          let v = monomial_takes h.0 a.0.0 a.0.1 a.1 in
          subst (λ (p : Term × List ℕ). TakesTerm negative bytes p.0 p.1) (same_Some (signed_term negative 1 a.0.0, a.0.1) (t, rest) a.2)
          (record { magnitude = 1; coeff = refl; product = lone_takes bytes h.0 a.0.0 a.0.1 (after_takes (codes "x") bytes h.0 h.1) v })
      | inr h ↦
          let a = bind_some (positive_at (2 ^ 126) bytes) (λ n. multiple_at n.0 n.1 >>= λ m. Some (signed_term negative n.0 m.0, m.1)) (t, rest) h.1 in
          let n = positive_takes (2 ^ 126) bytes a.0.0 a.0.1 small a.1 in
          let b = bind_some (multiple_at a.0.0 a.0.1) (λ m. Some (signed_term negative a.0.0 m.0, m.1)) (t, rest) a.2 in
          subst (λ (p : Term × List ℕ). TakesTerm negative bytes p.0 p.1) (same_Some (signed_term negative a.0.0 b.0.0, b.0.1) (t, rest) b.2)
          (record { magnitude = a.0.0; coeff = refl; product = product_takes a.0.0 bytes a.0.1 b.0.0 b.0.1 n.0 n.1 b.1 })
    ]

-- ---- signs

abbrev pub first_mark : Bool → List ℕ
first_mark true = codes "-"
first_mark false = []

abbrev pub next_mark : Bool → List ℕ
next_mark true = codes " - "
next_mark false = codes " + "

first_sign-signed : (b : Bool) (n : ℕ) → 0 < n → first_sign (signed b n) ≡ first_mark b
first_sign-signed false n p = refl
first_sign-signed true zero p = absurd (omega arith)
first_sign-signed true (suc n) p = refl

next_sign-signed : (b : Bool) (n : ℕ) → 0 < n → next_sign (signed b n) ≡ next_mark b
next_sign-signed false n p = refl
next_sign-signed true zero p = absurd (omega arith)
next_sign-signed true (suc n) p = refl

abs-signed : (b : Bool) (n : ℕ) → unsigned_abs (signed b n) ≡ n
abs-signed false n = refl
abs-signed true zero = refl
abs-signed true (suc n) = refl

signed-not_zero : (b : Bool) (n : ℕ) → 0 < n → signed b n ≢ pos 0
signed-not_zero false zero p e = absurd (omega arith)
signed-not_zero false (suc n) p e = cc
signed-not_zero true zero p e = absurd (omega arith)
signed-not_zero true (suc n) p e = cc

-- a coefficient other than 0 is a sign and a magnitude from 1
pub record IsSigned (z : ℤ) : Type 0 where
  pub negative : Bool
  pub magnitude : ℕ
  pub is : signed negative magnitude ≡ z
  pub positive : 0 < magnitude

is_signed : (z : ℤ) → z ≢ pos 0 → IsSigned z
is_signed (pos zero) no_zero = absurd (no_zero refl)
is_signed (pos (suc n)) no_zero = record { negative = false; magnitude = suc n; is = refl; positive = omega arith }
is_signed (negsuc n) no_zero = record { negative = true; magnitude = suc n; is = refl; positive = omega arith }

-- a term that can stand in a row
pub record IsGood (t : Term) : Type 0 where
  pub not_zero : t.coeff ≢ pos 0
  pub small : unsigned_abs t.coeff < 2 ^ 126
  pub written : IsMonomial t.mono

good_term : (negative : Bool) (bytes : List ℕ) (t : Term) (rest : List ℕ) → TakesTerm negative bytes t rest → IsGood t
good_term negative bytes t rest k =
    let p = k.product in
    record {
      not_zero = subst (λ z. z ≢ pos 0) (sym k.coeff) (signed-not_zero negative k.magnitude p.positive);
      small = subst (λ z. unsigned_abs z < 2 ^ 126) (sym k.coeff) (subst (λ n. n < 2 ^ 126) (sym (abs-signed negative k.magnitude)) p.small);
      written = p.written;
    }

abbrev pub first_text : Term → List ℕ
first_text t = first_sign t.coeff ++ term_text (unsigned_abs t.coeff) t.mono

abbrev pub next_text : Term → List ℕ
next_text t = next_sign t.coeff ++ term_text (unsigned_abs t.coeff) t.mono

-- a sign and the term after it
signed_takes : (mark : Bool → List ℕ) (sign : ℤ → List ℕ) → ((b : Bool) (n : ℕ) → 0 < n → sign (signed b n) ≡ mark b)
    → (negative : Bool) (whole bytes : List ℕ) (t : Term) (rest : List ℕ) → whole ≡ mark negative ++ bytes → TakesTerm negative bytes t rest → whole ≡ (sign t.coeff ++ term_text (unsigned_abs t.coeff) t.mono) ++ rest
signed_takes mark sign law negative whole bytes t rest e k =
    let p = k.product in
    let text : mark negative ++ bytes ≡ (mark negative ++ term_text k.magnitude t.mono) ++ rest = ap (λ b. mark negative ++ b) p.text ∙ sym (append_assoc (mark negative) (term_text k.magnitude t.mono) rest) in
    let signs : sign t.coeff ≡ mark negative = ap sign k.coeff ∙ law negative k.magnitude p.positive in
    let value : unsigned_abs t.coeff ≡ k.magnitude = ap unsigned_abs k.coeff ∙ abs-signed negative k.magnitude in
    e ∙ text ∙ ap (λ s. (s ++ term_text k.magnitude t.mono) ++ rest) (sym signs) ∙ ap (λ n. (sign t.coeff ++ term_text n t.mono) ++ rest) (sym value)

first_sign_takes : (bytes : List ℕ) (o : Option (List ℕ)) → after (codes "-") bytes ≡ o → bytes ≡ first_mark (first_sign_of o bytes).0 ++ (first_sign_of o bytes).1
first_sign_takes bytes (Some rest) e = after_takes (codes "-") bytes rest e
first_sign_takes bytes None e = refl

next_sign_takes : (bytes : List ℕ) (s : Bool × List ℕ) → next_sign_at bytes ≡ Some s → bytes ≡ next_mark s.0 ++ s.1
next_sign_takes bytes s e =
    elim (choice_some (after (codes " + ") bytes) (λ r. Some (false, r)) (elim (after (codes " - ") bytes) [ Some r ↦ Some (true, r) | None ↦ None ]) s e) [
      | inl h ↦ subst (λ (s : Bool × List ℕ). bytes ≡ next_mark s.0 ++ s.1) (same_Some (false, h.0) s h.2) (after_takes (codes " + ") bytes h.0 h.1)
      | inr h ↦ elim (choice_some (after (codes " - ") bytes) (λ r. Some (true, r)) None s h.1) [
        | inl k ↦ subst (λ (s : Bool × List ℕ). bytes ≡ next_mark s.0 ++ s.1) (same_Some (true, k.0) s k.2) (after_takes (codes " - ") bytes k.0 k.1)
        | inr k ↦ absurd (let e = k.1 in cc)
      ]
    ]

pub first_takes : (bytes : List ℕ) (t : Term) (rest : List ℕ) → next_term_at (first_sign_at bytes) ≡ Some (t, rest) → (bytes ≡ first_text t ++ rest) × IsGood t
first_takes bytes t rest e =
    let s = first_sign_at bytes in
    let k = term_takes s.0 s.1 t rest e in
    (signed_takes first_mark first_sign first_sign-signed s.0 bytes s.1 t rest (first_sign_takes bytes (after (codes "-") bytes) refl) k, good_term s.0 s.1 t rest k)

pub next_taken : AreTaken next_sign_at next_term_at next_text IsGood
next_taken = record {
  takes = λ bytes s t rest marked read.
      let k = term_takes s.0 s.1 t rest read in
      (signed_takes next_mark next_sign next_sign-signed s.0 bytes s.1 t rest (next_sign_takes bytes s marked) k, good_term s.0 s.1 t rest k);
}

-- ---- reading again

-- what may follow a term
abbrev pub TermEnds : List ℕ → Type 0
TermEnds rest = ends_term rest ≡ true

abbrev IsReadTerm : Bool → ℕ → List ℕ → List (ℕ × ℕ) → Type 0
IsReadTerm b n rest m = term_at b (term_text n m ++ rest) ≡ Some (signed_term b n m, rest)

multiple_none : (n : ℕ) (rest : List ℕ) → TermEnds rest → multiple_at n rest ≡ Some ([], rest)
unfolding multiple_at
multiple_none n rest ends = rw (no_star rest ends) refl

number_read : (b : Bool) (n : ℕ) (rest : List ℕ) → 0 < n → n < 2 ^ 126 → TermEnds rest → IsReadTerm b n rest []
unfolding term_at
number_read b n rest positive below ends =
    let plain : after (codes "x") (decimal n ++ rest) ≡ None = not_a_word 120 [] (inr (omega arith)) n rest positive (omega arith) in
    let value : positive_at (2 ^ 126) (decimal n ++ rest) ≡ Some (n, rest) = positive_again (2 ^ 126) n rest small positive below (no_digit rest (factor_ends rest ends)) in
    rw (plain, term_at) (rw value (rw (multiple_none n rest ends) refl))

lone_read : (b : Bool) (f : ℕ × ℕ) (fs : List (ℕ × ℕ)) (rest : List ℕ) → IsMonomial (f ∷ fs) → TermEnds rest → IsReadTerm b 1 rest (f ∷ fs)
unfolding term_at
lone_read b f fs rest written ends =
    ap (term_at b) (factors_text_on f fs rest) ∙ rw (monomial_again f fs rest written ends) refl

multiple_read : (b : Bool) (n : ℕ) (f : ℕ × ℕ) (fs : List (ℕ × ℕ)) (rest : List ℕ) → 0 < n → n < 2 ^ 126 → eqb n 1 ≡ false → IsMonomial (f ∷ fs) → TermEnds rest → IsReadTerm b n rest (f ∷ fs)
unfolding term_at multiple_at
multiple_read b n f fs rest positive below other written ends =
    let more = codes "*x" ++ factors_on f fs rest in
    let plain : after (codes "x") (decimal n ++ more) ≡ None = not_a_word 120 [] (inr (omega arith)) n more positive (omega arith) in
    let value : positive_at (2 ^ 126) (decimal n ++ more) ≡ Some (n, more) = positive_again (2 ^ 126) n more small positive below refl in
    ap (term_at b) (multiple_text n f fs rest other) ∙ rw (plain, term_at) (rw value (rw other (rw (monomial_again f fs rest written ends) refl)))

term_read : (b : Bool) (n : ℕ) (m : List (ℕ × ℕ)) (rest : List ℕ) → 0 < n → n < 2 ^ 126 → IsMonomial m → TermEnds rest → IsReadTerm b n rest m
term_read b n [] rest positive below written ends = number_read b n rest positive below ends
term_read b n (f ∷ fs) rest positive below written ends = elim (cases_eq n 1) [
  | inl one ↦ subst (λ k. IsReadTerm b k rest (f ∷ fs)) (sym one) (lone_read b f fs rest written ends)
  | inr other ↦ multiple_read b n f fs rest positive below (ne_eqb n 1 other) written ends
]

-- a term doesn't begin with such a word
term_not : (w : ℕ) (word : List ℕ) → w < 49 → (n : ℕ) (m : List (ℕ × ℕ)) (rest : List ℕ) → 0 < n → n < 2 ^ 126 → after (w ∷ word) (term_text n m ++ rest) ≡ None
term_not w word low n [] rest positive below = not_a_word w word (inl low) n rest positive (omega arith)
term_not w word low n (f ∷ fs) rest positive below = elim (cases_eq n 1) [
  | inl one ↦
      let other : eqb 120 w ≡ false = ne_eqb 120 w (λ same. omega arith) in
      subst (λ k. after (w ∷ word) (term_text k (f ∷ fs) ++ rest) ≡ None) (sym one) (rw other refl)
  | inr other ↦
      ap (after (w ∷ word)) (multiple_text n f fs rest (ne_eqb n 1 other)) ∙ not_a_word w word (inl low) n (codes "*x" ++ factors_on f fs rest) positive (omega arith)
]

-- a good term, by its sign, its magnitude and its monomial
by_good : (P : Term → Type 0) → ((b : Bool) (n : ℕ) (m : List (ℕ × ℕ)) → 0 < n → n < 2 ^ 126 → IsMonomial m → P (signed_term b n m)) → (t : Term) → IsGood t → P t
by_good P each t good =
    let s = is_signed t.coeff good.not_zero in
    let value : unsigned_abs t.coeff ≡ s.magnitude = ap unsigned_abs (sym s.is) ∙ abs-signed s.negative s.magnitude in
    let below : s.magnitude < 2 ^ 126 = subst (λ n. n < 2 ^ 126) value good.small in
    subst (λ z. P (record { coeff = z; mono = t.mono })) s.is (each s.negative s.magnitude t.mono s.positive below good.written)

signed_text : (mark : Bool → List ℕ) (sign : ℤ → List ℕ) → ((b : Bool) (n : ℕ) → 0 < n → sign (signed b n) ≡ mark b)
    → (b : Bool) (n : ℕ) (m : List (ℕ × ℕ)) (rest : List ℕ) → 0 < n → (sign (signed b n) ++ term_text (unsigned_abs (signed b n)) m) ++ rest ≡ mark b ++ (term_text n m ++ rest)
signed_text mark sign law b n m rest positive =
    ap (λ s. (s ++ term_text (unsigned_abs (signed b n)) m) ++ rest) (law b n positive) ∙ ap (λ k. (mark b ++ term_text k m) ++ rest) (abs-signed b n) ∙ append_assoc (mark b) (term_text n m) rest

first_marked : (b : Bool) (n : ℕ) (m : List (ℕ × ℕ)) (rest : List ℕ) → 0 < n → n < 2 ^ 126 → first_sign_at (first_mark b ++ (term_text n m ++ rest)) ≡ (b, term_text n m ++ rest)
first_marked true n m rest positive below = refl
first_marked false n m rest positive below = rw (term_not 45 [] (omega arith) n m rest positive below) refl

next_marked : (b : Bool) (bytes : List ℕ) → next_sign_at (next_mark b ++ bytes) ≡ Some (b, bytes)
next_marked true bytes = refl
next_marked false bytes = refl

pub first_again : (t : Term) (rest : List ℕ) → IsGood t → TermEnds rest → next_term_at (first_sign_at (first_text t ++ rest)) ≡ Some (t, rest)
first_again t rest good ends =
    by_good (λ t. next_term_at (first_sign_at (first_text t ++ rest)) ≡ Some (t, rest))
    (λ b n m positive below written.
    ap (λ bytes. next_term_at (first_sign_at bytes)) (signed_text first_mark first_sign first_sign-signed b n m rest positive)
    ∙ ap next_term_at (first_marked b n m rest positive below) ∙ term_read b n m rest positive below written ends) t good

-- a first term is no 0
pub first_not_zero : (t : Term) (rest : List ℕ) → IsGood t → after (codes "0") (first_text t ++ rest) ≡ None
first_not_zero t rest good =
    by_good (λ t. after (codes "0") (first_text t ++ rest) ≡ None)
    (λ b n m positive below written.
    ap (after (codes "0")) (signed_text first_mark first_sign first_sign-signed b n m rest positive)
    ∙ elim b as (λ b. after (codes "0") (first_mark b ++ (term_text n m ++ rest)) ≡ None) [ true ↦ refl | false ↦ term_not 48 [] (omega arith) n m rest positive below ]) t good

abbrev IsReadNext : List ℕ → Term → Type 0
IsReadNext rest t = (s : Bool × List ℕ) × (next_sign_at (next_text t ++ rest) ≡ Some s) × (next_term_at s ≡ Some (t, rest))

next_again : (t : Term) (rest : List ℕ) → IsGood t → TermEnds rest → IsReadNext rest t
next_again t rest good ends =
    by_good (IsReadNext rest)
    (λ b n m positive below written. (
      (b, term_text n m ++ rest),
      ap next_sign_at (signed_text next_mark next_sign next_sign-signed b n m rest positive) ∙ next_marked b (term_text n m ++ rest),
      term_read b n m rest positive below written ends,
    )) t good

next_follows : (t : Term) (rest : List ℕ) → IsGood t → TermEnds (next_text t ++ rest)
next_follows t rest good =
    by_good (λ t. TermEnds (next_text t ++ rest))
    (λ b n m positive below written.
    subst TermEnds (sym (signed_text next_mark next_sign next_sign-signed b n m rest positive))
    (elim b as (λ b. TermEnds (next_mark b ++ (term_text n m ++ rest))) [ true ↦ refl | false ↦ refl ])) t good

pub next_read : AreRead next_sign_at next_term_at next_text IsGood TermEnds
next_read = record { again = next_again; goes_on = next_follows }

-- the terms after the first one
pub more_terms-flat : (ts : List Term) → more_terms ts ≡ flat_map next_text ts
more_terms-flat [] = refl
more_terms-flat (t ∷ ts) =
    sym (append_assoc (next_sign t.coeff) (term_text (unsigned_abs t.coeff) t.mono) (more_terms ts)) ∙ ap (λ b. next_text t ++ b) (more_terms-flat ts)
