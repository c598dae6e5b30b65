-- The variables that occur, their places, and that no others count.
use Rattle.std.specs.Prelude.{◌≡◌, ℕ, suc, ◌+◌, ◌<◌, ℤ, ◌+ℤ◌, ◌*ℤ◌, List, [], ◌∷◌, ◌++◌, length, Bool, true, false, not, cond, ◌&&◌, ◌||◌, nat_eq, slice_index_or, refl}
use Rattle.std.specs.List.{list_any}
use Rattle.std.specs.Ordering.{nat_cmp}
use Rattle.std.specs.FinMap.{nat_cmp-IsAntisymmetric}
use Rattle.std.proofs.Common.{ap, ◌∙◌, sym, subst, arith}
use Rattle.std.proofs.lemmas.Bool.{eqb-true}
use Rattle.std.proofs.Math.Path.{ap₂}
use Rattle.mm_num.specs.Power.{power}
use Rattle.mm_poly.specs.declared.term.Term.{Term}
use Rattle.mm_poly.specs.Mono.{mono_value}
use Rattle.mm_poly.specs.Poly.{value}
use Rattle.cert_kit.specs.declared.row.PRow.{PRow}
use Rattle.cert_kit.specs.Variables.{mono_variables, poly_variables, row_variables, variables_of, place_of}
use Rattle.cert_kit.specs.Row.{compares_0, all_hold}
use Rattle.cert_kit.proofs.OrderedLaws.{any_in_order}

or_assoc : (a b c : Bool) → ((a || b) || c) ≡ (a || (b || c))
or_assoc true b c = refl
or_assoc false b c = refl

-- ---- variables that occur

abbrev pub occurs : ℕ → List ℕ → Bool
occurs v vars = list_any (nat_eq v) vars

pub any_append : {A : Type 0} → (test : A → Bool) (xs ys : List A) → list_any test (xs ++ ys) ≡ (list_any test xs || list_any test ys)
any_append test [] ys = refl
any_append test (x ∷ xs) ys = ap (λ s. test x || s) (any_append test xs ys) ∙ sym (or_assoc (test x) (list_any test xs) (list_any test ys))

pub any_self : (v : ℕ) → nat_eq v v ≡ true
any_self v = grind arith

pub or_first : (s t : Bool) → s ≡ true → (s || t) ≡ true
or_first true t h = refl
or_first false t h = absurd (cc)

pub or_second : (s t : Bool) → t ≡ true → (s || t) ≡ true
or_second true t h = refl
or_second false t h = h

pub in_first : (v : ℕ) (xs ys : List ℕ) → occurs v xs ≡ true → occurs v (xs ++ ys) ≡ true
in_first v xs ys h = any_append (nat_eq v) xs ys ∙ or_first (occurs v xs) (occurs v ys) h

pub in_second : (v : ℕ) (xs ys : List ℕ) → occurs v ys ≡ true → occurs v (xs ++ ys) ≡ true
in_second v xs ys h = any_append (nat_eq v) xs ys ∙ or_second (occurs v xs) (occurs v ys) h

-- two points, or two renumberings, that agree on these variables
abbrev pub AgreeOn : {A : Type 0} → List ℕ → (ℕ → A) → (ℕ → A) → Type 0
AgreeOn vars x y = (v : ℕ) → occurs v vars ≡ true → x v ≡ y v

pub agree_first : {A : Type 0} → (xs ys : List ℕ) (x y : ℕ → A) → AgreeOn (xs ++ ys) x y → AgreeOn xs x y
agree_first xs ys x y a v h = a v (in_first v xs ys h)

pub agree_second : {A : Type 0} → (xs ys : List ℕ) (x y : ℕ → A) → AgreeOn (xs ++ ys) x y → AgreeOn ys x y
agree_second xs ys x y a v h = a v (in_second v xs ys h)

pub mono_local : (x y : ℕ → ℤ) (fs : List (ℕ × ℕ)) → AgreeOn (mono_variables fs) x y → mono_value x fs ≡ mono_value y fs
mono_local x y [] a = refl
mono_local x y (f ∷ fs) a = ap₂ (λ m n. m *ℤ n)
    (ap (λ z. power z f.1) (a f.0 (or_first (nat_eq f.0 f.0) (occurs f.0 (mono_variables fs)) (any_self f.0))))
    (mono_local x y fs (λ v h. a v (or_second (nat_eq v f.0) (occurs v (mono_variables fs)) h)))

pub poly_local : (x y : ℕ → ℤ) (ts : List Term) → AgreeOn (poly_variables ts) x y → value x ts ≡ value y ts
poly_local x y [] a = refl
poly_local x y (t ∷ ts) a = ap₂ (λ m n. t.coeff *ℤ m +ℤ n)
    (mono_local x y t.mono (agree_first (mono_variables t.mono) (poly_variables ts) x y a))
    (poly_local x y ts (agree_second (mono_variables t.mono) (poly_variables ts) x y a))

pub rows_local : (x y : ℕ → ℤ) (rows : List PRow) → AgreeOn (row_variables rows) x y → all_hold x rows ≡ all_hold y rows
rows_local x y [] a = refl
rows_local x y (r ∷ rows) a = ap₂ (λ s t. s && t)
    (ap (compares_0 r.op) (poly_local x y r.poly (agree_first (poly_variables r.poly) (row_variables rows) x y a)))
    (rows_local x y rows (agree_second (poly_variables r.poly) (row_variables rows) x y a))

-- ---- places

-- a variable stands at its place
next_place : (w n v : ℕ) (vars : List ℕ) → slice_index_or vars n 0 ≡ v → slice_index_or (w ∷ vars) (1 + n) 0 ≡ v
next_place w n v vars e = let s : suc n ≡ 1 + n = omega arith in subst (λ k. slice_index_or (w ∷ vars) k 0 ≡ v) s e

pub found : (v : ℕ) (vars : List ℕ) → occurs v vars ≡ true → slice_index_or vars (place_of vars v) 0 ≡ v
found v [] h = absurd (cc)
found v (w ∷ vars) h = by_first (nat_eq v w) refl (λ k. found v vars k)
  where
    by_first : (b : Bool) → nat_eq v w ≡ b → (occurs v vars ≡ true → slice_index_or vars (place_of vars v) 0 ≡ v)
        → slice_index_or (w ∷ vars) (place_of (w ∷ vars) v) 0 ≡ v
    by_first true e f = subst (λ (c : Bool). slice_index_or (w ∷ vars) (cond (not c) (1 + place_of vars v) 0) 0 ≡ v) (sym e) (sym (eqb-true v w e))
    by_first false e f = subst (λ (c : Bool). slice_index_or (w ∷ vars) (cond (not c) (1 + place_of vars v) 0) 0 ≡ v) (sym e)
        (next_place w (place_of vars v) v vars (f (sym (ap (λ s. s || occurs v vars) e) ∙ h)))

pub place_within : (v : ℕ) (vars : List ℕ) → occurs v vars ≡ true → place_of vars v < length vars
place_within v [] h = absurd (cc)
place_within v (w ∷ vars) h = by_first (nat_eq v w) refl (λ k. place_within v vars k)
  where
    by_first : (b : Bool) → nat_eq v w ≡ b → (occurs v vars ≡ true → place_of vars v < length vars) → place_of (w ∷ vars) v < length (w ∷ vars)
    by_first true e f = subst (λ (c : Bool). cond (not c) (1 + place_of vars v) 0 < length (w ∷ vars)) (sym e) (omega arith)
    by_first false e f = subst (λ (c : Bool). cond (not c) (1 + place_of vars v) 0 < length (w ∷ vars)) (sym e)
        (let l = f (sym (ap (λ s. s || occurs v vars) e) ∙ h) in omega arith)

pub occurs_there : (v : ℕ) (rows : List PRow) → occurs v (row_variables rows) ≡ true → occurs v (variables_of rows) ≡ true
occurs_there v rows h = any_in_order nat_cmp (nat_eq v) nat_cmp-IsAntisymmetric (row_variables rows) ∙ h
