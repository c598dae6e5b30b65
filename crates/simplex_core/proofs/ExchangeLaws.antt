-- Members of a list, and an exchange of one variable for another.
use Rattle.std.specs.Prelude.{◌≡◌, ◌≢◌, ℕ, zero, suc, ◌⊎◌, false, if◌then◌else◌, ◌==◌, List, [], ◌∷◌, ◌++◌, length, refl}
use Rattle.std.proofs.Common.{ap, sym, ◌∙◌, subst, inl, inr, arith}
use Rattle.std.specs.List.{AllByRecursion}
use Rattle.simplex_core.specs.Form.{Among, Distinct, Line, basis_of}
use Rattle.simplex_core.specs.Walk.{exchanged}
use Rattle.mm_num.proofs.TestLaws.{number_test}

pub other_test : (i j : ℕ) → i ≢ j → (i == j) ≡ false
other_test i j h = grind arith

-- equal or not
pub same_or_not : (i j : ℕ) → (i ≡ j) ⊎ (i ≢ j)
same_or_not zero zero = inl refl
same_or_not zero (suc j) = inr (λ e. absurd (omega (arith, e)))
same_or_not (suc i) zero = inr (λ e. absurd (omega (arith, e)))
same_or_not (suc i) (suc j) = elim (same_or_not i j) as (λ _. (suc i ≡ suc j) ⊎ (suc i ≢ suc j)) [
  | inl e ↦ inl (ap suc e)
  | inr d ↦ inr (λ e. d (omega (arith, e)))
]

-- among or not
pub among_or_not : (x : ℕ) (ys : List ℕ) → Among x ys ⊎ (Among x ys → ⊥)
among_or_not x [] = inr (λ h. h)
among_or_not x (y ∷ ys) = elim (same_or_not x y) as (λ _. Among x (y ∷ ys) ⊎ (Among x (y ∷ ys) → ⊥)) [
  | inl e ↦ inl (inl e)
  | inr d ↦ elim (among_or_not x ys) as (λ _. Among x (y ∷ ys) ⊎ (Among x (y ∷ ys) → ⊥)) [
    | inl k ↦ inl (inr k)
    | inr m ↦ inr (λ h. elim h as (λ _. ⊥) [ inl e ↦ d e | inr k ↦ m k ])
  ]
]

-- what holds of all holds of each
pub of_all : {A : Type 0} (P : A → Type 0) (xs : List A) (x : A) → AllByRecursion P xs → Among x xs → P x
of_all P [] x h k = absurd k
of_all P (y ∷ ys) x h k = elim k as (λ _. P x) [ inl e ↦ subst P (sym e) h.0 | inr m ↦ of_all P ys x h.1 m ]

pub to_all : {A : Type 0} (P : A → Type 0) (xs : List A) → ((x : A) → Among x xs → P x) → AllByRecursion P xs
to_all P [] h = tt
to_all P (x ∷ xs) h = (h x (inl refl), to_all P xs (λ y k. h y (inr k)))

pub Among-append_left : {A : Type 0} (x : A) (xs ys : List A) → Among x xs → Among x (xs ++ ys)
Among-append_left x [] ys h = absurd h
Among-append_left x (y ∷ xs) ys h = elim h as (λ _. Among x ((y ∷ xs) ++ ys)) [ inl e ↦ inl e | inr k ↦ inr (Among-append_left x xs ys k) ]

pub Among-append_right : {A : Type 0} (x : A) (xs ys : List A) → Among x ys → Among x (xs ++ ys)
Among-append_right x [] ys h = h
Among-append_right x (y ∷ xs) ys h = inr (Among-append_right x xs ys h)

-- a line's basic variable, and the line of a basic variable
pub Among-basis_of : (l : Line) (form : List Line) → Among l form → Among l.0 (basis_of form)
Among-basis_of l [] h = absurd h
Among-basis_of l (k ∷ form) h = elim h as (λ _. Among l.0 (basis_of (k ∷ form))) [ inl e ↦ inl (ap (λ m. m.0) e) | inr m ↦ inr (Among-basis_of l form m) ]

pub line_of : (b : ℕ) (form : List Line) → Among b (basis_of form) → (l : Line) × Among l form × (l.0 ≡ b)
line_of b [] h = absurd h
line_of b (k ∷ form) h = elim h as (λ _. (l : Line) × Among l (k ∷ form) × (l.0 ≡ b)) [
  | inl e ↦ (k, inl refl, sym e)
  | inr m ↦ let r : (l : Line) × Among l form × (l.0 ≡ b) = line_of b form m in (r.0, inr r.1, r.2)
]

pub length-basis_of : (form : List Line) → length (basis_of form) ≡ length form
length-basis_of [] = refl
length-basis_of (l ∷ form) = ap suc (length-basis_of form)

-- one place of an exchange
place : ℕ → ℕ → ℕ → ℕ
place s e b = if b == s then e else b

when_same : (s e b : ℕ) → b ≡ s → (if b == s then e else b) ≡ e
when_same s e b h = rw (number_test b s h) refl

when_other : (s e b : ℕ) → b ≢ s → (if b == s then e else b) ≡ b
when_other s e b h = rw (other_test b s h) refl

-- after an exchange there is what entered, and what was there before and didn't leave
pub from_exchanged : (s e x : ℕ) (bs : List ℕ) → Among x (exchanged s e bs) → (x ≡ e) ⊎ (Among x bs × (x ≢ s))
from_exchanged s e x [] h = absurd h
from_exchanged s e x (b ∷ bs) h = elim h as (λ _. (x ≡ e) ⊎ (Among x (b ∷ bs) × (x ≢ s))) [
  | inl k ↦ elim (same_or_not b s) as (λ _. (x ≡ e) ⊎ (Among x (b ∷ bs) × (x ≢ s))) [
    | inl y ↦ inl (k ∙ when_same s e b y)
    | inr d ↦ let q : x ≡ b = k ∙ when_other s e b d in inr (inl q, λ z. d (sym q ∙ z))
  ]
  | inr m ↦ elim (from_exchanged s e x bs m) as (λ _. (x ≡ e) ⊎ (Among x (b ∷ bs) × (x ≢ s))) [
    | inl y ↦ inl y
    | inr r ↦ inr (inr r.0, r.1)
  ]
]

-- what was there before left or is there still
pub to_exchanged : (s e x : ℕ) (bs : List ℕ) → Among x bs → (x ≡ s) ⊎ Among x (exchanged s e bs)
to_exchanged s e x [] h = absurd h
to_exchanged s e x (b ∷ bs) h = elim h as (λ _. (x ≡ s) ⊎ Among x (exchanged s e (b ∷ bs))) [
  | inl k ↦ elim (same_or_not b s) as (λ _. (x ≡ s) ⊎ Among x (exchanged s e (b ∷ bs))) [
    | inl y ↦ inl (k ∙ y)
    | inr d ↦ inr (inl (k ∙ sym (when_other s e b d)))
  ]
  | inr m ↦ elim (to_exchanged s e x bs m) as (λ _. (x ≡ s) ⊎ Among x (exchanged s e (b ∷ bs))) [ inl y ↦ inl y | inr r ↦ inr (inr r) ]
]

pub has_entered : (s e : ℕ) (bs : List ℕ) → Among s bs → Among e (exchanged s e bs)
has_entered s e [] h = absurd h
has_entered s e (b ∷ bs) h = elim h as (λ _. Among e (exchanged s e (b ∷ bs))) [
  | inl k ↦ inl (sym (when_same s e b (sym k)))
  | inr m ↦ inr (has_entered s e bs m)
]

-- nothing changes where what leaves isn't there
untouched : (s e x : ℕ) (bs : List ℕ) → (Among s bs → ⊥) → Among x (exchanged s e bs) → Among x bs
untouched s e x [] d h = h
untouched s e x (b ∷ bs) d h =
    let q : b ≢ s = λ z. d (inl (sym z)) in
    elim h as (λ _. Among x (b ∷ bs)) [ inl k ↦ inl (k ∙ when_other s e b q) | inr m ↦ inr (untouched s e x bs (λ t. d (inr t)) m) ]

-- an exchange for a new variable leaves the basis without two of one kind
pub Distinct-exchanged : (s e : ℕ) (bs : List ℕ) → Distinct bs → (Among e bs → ⊥) → Distinct (exchanged s e bs)
Distinct-exchanged s e [] d new = tt
Distinct-exchanged s e (b ∷ bs) d new =
    let rest : Distinct (exchanged s e bs) = Distinct-exchanged s e bs d.1 (λ k. new (inr k)) in
    elim (same_or_not b s) as (λ _. Distinct (exchanged s e (b ∷ bs))) [
      | inl y ↦ (
        λ k. let m : Among e (exchanged s e bs) = subst (λ (z : ℕ). Among z (exchanged s e bs)) (when_same s e b y) k in
            new (inr (untouched s e e bs (λ t. d.0 (subst (λ (z : ℕ). Among z bs) (sym y) t)) m)),
        rest,
      )
      | inr q ↦ (
        λ k. let m : Among b (exchanged s e bs) = subst (λ (z : ℕ). Among z (exchanged s e bs)) (when_other s e b q) k in
            elim (from_exchanged s e b bs m) as (λ _. ⊥) [ inl z ↦ new (inl (sym z)) | inr r ↦ d.0 r.0 ],
        rest,
      )
    ]
