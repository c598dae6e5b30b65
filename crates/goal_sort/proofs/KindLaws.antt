-- Kinds of numbers, and the sorts and places of zeros that sorting keeps for them.
use Rattle.std.proofs.Common.{◌≡◌, ℕ, Bool, true, false, Option, Some, None, refl, sym, ap, ◌∙◌, subst}
use Rattle.std.specs.Prelude.{not, ◌||◌, if◌then◌else◌}
use Rattle.std.specs.Option.{is_some}
use Rattle.std.proofs.lemmas.Bool.{and_parts}
use Rattle.std.proofs.lemmas.Option.{same_Some}
use Rattle.goal_ast.specs.declared.term.Sort.{Sort}
use Rattle.goal_ast.specs.declared.term.Sort.TheVariants as sorts
use Rattle.goal_ast.specs.declared.term.Fn1.{Fn1}
use Rattle.goal_ast.specs.declared.term.Fn1.TheVariants as one
use Rattle.goal_ast.specs.declared.term.Fn2.{Fn2}
use Rattle.goal_ast.specs.declared.term.Fn2.TheVariants as two
use Rattle.goal_ast.specs.declared.term.Term.{Term}
use Rattle.goal_ast.specs.Sorted.{is_sort, is_number, argument_1, sort_2}
use Rattle.goal_sort.specs.declared.value.NumberSort.{NumberSort}
use Rattle.goal_sort.specs.declared.value.NumberSort.TheVariants.{Free, Fixed}
use Rattle.goal_sort.specs.declared.value.Number.{Number as ANumber}
use Rattle.goal_sort.specs.declared.operator.Arithmetic.{Arithmetic}
use Rattle.goal_sort.specs.declared.operator.Arithmetic.TheVariants as arithmetics
use Rattle.goal_sort.specs.declared.operator.ByLiteral.{ByLiteral}
use Rattle.goal_sort.specs.declared.operator.ByLiteral.TheVariants as literals
use Rattle.goal_sort.specs.SortedNumbers.{taken, meet, positive_zero, first, settled, compared_zero, arithmetic_term, quotient_sort, by_sort}
use Rattle.goal_sort.specs.Kinds.{Kind, free, fixed, may_take, fixed_if, together, within, divided, by_kind, arithmetic_of}
use Rattle.goal_sort.proofs.TakingLaws.{one_sort, same_sort}

-- ---- kinds

-- the sort that a number of a kind has in sorting
abbrev pub sort_of : Kind → NumberSort
sort_of (free d y) = Free d
sort_of (fixed s) = Fixed s

-- whether the place of a literal 0 is kept for it
abbrev pub zero_in : Kind → Bool
zero_in (free d y) = y
zero_in (fixed s) = false

-- a number of this kind
abbrev pub AsKind : Kind → NumberSort → Option ℕ → Type 0
AsKind k s z = (s ≡ sort_of k) × (is_some z ≡ zero_in k)

abbrev pub number : Kind → Term → Option ℕ → ANumber
number k t z = record { sort = sort_of k; term = t; zero = z }

-- a sort of numbers, or none yet
abbrev pub is_numeric : NumberSort → Bool
is_numeric (Free d) = true
is_numeric (Fixed s) = is_number s

-- ---- facts on bools, places and sorts

pub no_place : (z : Option ℕ) → is_some z ≡ false → z ≡ None
no_place None h = refl
no_place (Some p) h = absurd cc

pub place_none : (z : Option ℕ) → z ≡ None → is_some z ≡ false
place_none z h = ap is_some h

pub or_parts : (x y : Bool) → (x || y) ≡ false → (x ≡ false) × (y ≡ false)
or_parts false y h = (refl, h)
or_parts true y h = absurd cc

-- there is a first of two places where there is one of them
pub first_is : (y z : Option ℕ) → is_some (first y z) ≡ (is_some y || is_some z)
first_is None z = refl
first_is (Some p) z = refl

pub first_parts : (y z : Option ℕ) → is_some (first y z) ≡ false → (is_some y ≡ false) × (is_some z ≡ false)
first_parts y z h = or_parts (is_some y) (is_some z) (sym (first_is y z) ∙ h)

-- ---- a number of one kind beside one of another

-- a place in a number of the second sort where it gets the first
abbrev pub placed : NumberSort → NumberSort → Option ℕ → Option ℕ
placed (Free d) p y = y
placed (Fixed s) (Free d) y = positive_zero s y
placed (Fixed s) (Fixed r) y = y

pub settled_zero : (w : NumberSort) (a : ANumber) → (settled w a).zero ≡ placed w a.sort a.zero
settled_zero w a = by_sorts w a.sort a.term a.zero
  where
    by_sorts : (w p : NumberSort) (t : Term) (y : Option ℕ) → (settled w (record { sort = p; term = t; zero = y })).zero ≡ placed w p y
    by_sorts (Free d) p t y = refl
    by_sorts (Fixed s) (Free d) t y = refl
    by_sorts (Fixed s) (Fixed r) t y = refl

pub settled_term : (m k : Kind) (t : Term) (y : Option ℕ) → (settled (sort_of m) (number k t y)).term ≡ within m k t
settled_term (free e z) k t y = refl
settled_term (fixed s) (free d z) t y = refl
settled_term (fixed s) (fixed r) t y = refl

-- the same of a number that has the sort
pub settled_within : (w : NumberSort) (a : ANumber) (m k : Kind) → w ≡ sort_of m → a.sort ≡ sort_of k → (settled w a).term ≡ within m k a.term
settled_within w a m k h e =
    ap (λ w. (settled w a).term) h
    ∙ ap (λ (p : NumberSort). (settled (sort_of m) (record { sort = p; term = a.term; zero = a.zero })).term) e
    ∙ settled_term m k a.term a.zero

fixed_is : (b : Bool) (s : Sort) (m : Kind) → fixed_if b s ≡ Some m → (b ≡ true) × (fixed s ≡ m)
fixed_is true s m h = (refl, same_Some (fixed s) m h)
fixed_is false s m h = absurd cc

fixed_true : (b : Bool) (s : Sort) → b ≡ true → fixed_if b s ≡ Some (fixed s)
fixed_true b s h = ap (λ b. fixed_if b s) h

-- ---- from kinds to sorts

takes_sort : (d y : Bool) (s : Sort) → may_take d y s ≡ true → taken d s ≡ Some (Fixed s)
takes_sort false y s h = refl
takes_sort true y sorts.Int h = refl
takes_sort true y sorts.Bin h = refl
takes_sort true y sorts.Nat h = refl
takes_sort true y sorts.Bool h = absurd cc
takes_sort true y sorts.Pos h = absurd cc

meets_same : (s t : Sort) → is_sort s t ≡ true → meet (Fixed s) (Fixed t) ≡ Some (Fixed s)
meets_same s t h = ap (λ (b : Bool). if b then Some (Fixed s) else None) h

pub meet_again : (k l m : Kind) → together k l ≡ Some m → meet (sort_of k) (sort_of l) ≡ Some (sort_of m)
meet_again (free d y) (free e z) m h = ap (λ k. Some (sort_of k)) (same_Some _ m h)
meet_again (free d y) (fixed s) m h = let f = fixed_is (may_take d y s) s m h in takes_sort d y s f.0 ∙ ap (λ k. Some (sort_of k)) f.1
meet_again (fixed s) (free d y) m h = let f = fixed_is (may_take d y s) s m h in takes_sort d y s f.0 ∙ ap (λ k. Some (sort_of k)) f.1
meet_again (fixed s) (fixed t) m h = let f = fixed_is (is_sort s t) s m h in meets_same s t f.0 ∙ ap (λ k. Some (sort_of k)) f.1

pub together_sort : (s r : Sort) → together (fixed s) (fixed r) ≡ Some (fixed s) → s ≡ r
together_sort s r h = one_sort s r (fixed_is (is_sort s r) s (fixed s) h).0

-- no place is kept where a number gets a sort
takes_zero : (d : Bool) (s : Sort) (y : Option ℕ) → may_take d (is_some y) s ≡ true → is_some (positive_zero s y) ≡ false
takes_zero d sorts.Int y h = refl
takes_zero d sorts.Bin y h = refl
takes_zero d sorts.Nat y h = refl
takes_zero d sorts.Bool y h = refl
takes_zero d sorts.Pos None h = refl
takes_zero d sorts.Pos (Some p) h = absurd (let b = and_parts (not d) false h in cc (b.1))

pub placed_none : (s : Sort) (k : Kind) (y : Option ℕ) → is_some y ≡ zero_in k → together (fixed s) k ≡ Some (fixed s) → is_some (placed (Fixed s) (sort_of k) y) ≡ false
placed_none s (free d z) y e h =
    let f = fixed_is (may_take d z s) s (fixed s) h in
    takes_zero d s y (ap (λ b. may_take d b s) e ∙ f.0)
placed_none s (fixed r) y e h = e

fixed_sort : (r s : Sort) → fixed r ≡ fixed s → r ≡ s
fixed_sort r s h = cc

fixed_not_free : (s : Sort) (d y : Bool) → fixed s ≡ free d y → ⊥
fixed_not_free s d y h = cc

free_not_fixed : (s : Sort) (d y : Bool) → Some (free d y) ≡ Some (fixed s) → ⊥
free_not_fixed s d y h = cc

-- what two numbers have together, each of them takes
pub fixed_parts : (k l : Kind) (s : Sort) → together k l ≡ Some (fixed s) → (together (fixed s) k ≡ Some (fixed s)) × (together (fixed s) l ≡ Some (fixed s))
fixed_parts (free d y) (free e z) s h = absurd (free_not_fixed s _ _ h)
fixed_parts (free d y) (fixed r) s h =
    let f = fixed_is (may_take d y r) r (fixed s) h in
    subst (λ (s : Sort). (together (fixed s) (free d y) ≡ Some (fixed s)) × (together (fixed s) (fixed r) ≡ Some (fixed s))) (fixed_sort r s f.1)
    (fixed_true (may_take d y r) r f.0, fixed_true (is_sort r r) r (same_sort r))
fixed_parts (fixed r) (free d y) s h =
    let f = fixed_is (may_take d y r) r (fixed s) h in
    subst (λ (s : Sort). (together (fixed s) (fixed r) ≡ Some (fixed s)) × (together (fixed s) (free d y) ≡ Some (fixed s))) (fixed_sort r s f.1)
    (fixed_true (is_sort r r) r (same_sort r), fixed_true (may_take d y r) r f.0)
fixed_parts (fixed r) (fixed t) s h =
    let f = fixed_is (is_sort r t) r (fixed s) h in
    subst (λ (s : Sort). (together (fixed s) (fixed r) ≡ Some (fixed s)) × (together (fixed s) (fixed t) ≡ Some (fixed s))) (fixed_sort r s f.1)
    (fixed_true (is_sort r r) r (same_sort r), fixed_true (is_sort r t) r f.0)

pub first_none : (y z : Option ℕ) → is_some y ≡ false → is_some z ≡ false → is_some (first y z) ≡ false
first_none None z h k = k
first_none (Some p) z h k = absurd cc

pub zeros_again : (k l m : Kind) (y z : Option ℕ) → is_some y ≡ zero_in k → is_some z ≡ zero_in l → together k l ≡ Some m
    → is_some (first (placed (sort_of m) (sort_of k) y) (placed (sort_of m) (sort_of l) z)) ≡ zero_in m
zeros_again k l (fixed s) y z e f h =
    let p = fixed_parts k l s h in
    first_none (placed (Fixed s) (sort_of k) y) (placed (Fixed s) (sort_of l) z) (placed_none s k y e p.0) (placed_none s l z f p.1)
zeros_again (free d a) (free e b) (free c x) y z i j h = first_is y z ∙ ap (λ p. p || is_some z) i ∙ ap (λ p. a || p) j ∙ ap zero_in (same_Some (free (d || e) (a || b)) (free c x) h)
zeros_again (free d a) (fixed s) (free c x) y z i j h = absurd (fixed_not_free s c x (fixed_is (may_take d a s) s (free c x) h).1)
zeros_again (fixed s) (free d a) (free c x) y z i j h = absurd (fixed_not_free s c x (fixed_is (may_take d a s) s (free c x) h).1)
zeros_again (fixed s) (fixed t) (free c x) y z i j h = absurd (fixed_not_free s c x (fixed_is (is_sort s t) s (free c x) h).1)

-- ---- from sorts to kinds

numeric_takes : (d : Bool) (s : Sort) (w : NumberSort) → taken d s ≡ Some w → Fixed s ≡ w
numeric_takes false s w h = cc
numeric_takes true sorts.Int w h = cc
numeric_takes true sorts.Bin w h = cc
numeric_takes true sorts.Nat w h = cc
numeric_takes true sorts.Bool w h = cc
numeric_takes true sorts.Pos w h = absurd cc

pub meet_same : (s t : Sort) (w : NumberSort) → meet (Fixed s) (Fixed t) ≡ Some w → (is_sort s t ≡ true) × (Fixed s ≡ w)
meet_same s t w h = by_test (is_sort s t) h
  where
    by_test : (b : Bool) → (if b then Some (Fixed s) else None) ≡ Some w → (b ≡ true) × (Fixed s ≡ w)
    by_test true h = (refl, same_Some (Fixed s) w h)
    by_test false h = absurd cc

-- what joins with a sort has it
pub meet_fixed : (s : Sort) (p w : NumberSort) → meet (Fixed s) p ≡ Some w → Fixed s ≡ w
meet_fixed s (Free d) w h = numeric_takes d s w h
meet_fixed s (Fixed t) w h = (meet_same s t w h).1

pub meet_numeric : (p q w : NumberSort) → is_numeric p ≡ true → is_numeric q ≡ true → meet p q ≡ Some w → is_numeric w ≡ true
meet_numeric (Free d) (Free e) w h k is = ap is_numeric (sym (same_Some (Free (d || e)) w is))
meet_numeric (Free d) (Fixed s) w h k is = ap is_numeric (sym (numeric_takes d s w is)) ∙ k
meet_numeric (Fixed s) q w h k is = ap is_numeric (sym (meet_fixed s q w is)) ∙ h

taken_may : (d : Bool) (s : Sort) (y : Option ℕ) → is_number s ≡ true → taken d s ≡ Some (Fixed s) → is_some (positive_zero s y) ≡ false → may_take d (is_some y) s ≡ true
taken_may d sorts.Int y h is e = refl
taken_may d sorts.Bin y h is e = refl
taken_may d sorts.Nat y h is e = refl
taken_may d sorts.Bool y h is e = absurd cc
taken_may true sorts.Pos y h is e = absurd cc
taken_may false sorts.Pos None h is e = refl
taken_may false sorts.Pos (Some p) h is e = absurd cc

-- the kinds of two numbers that join to a kind
pub record Joining (p q : NumberSort) (y z : Option ℕ) (m : Kind) : Type 0 where
  pub left : Kind
  pub right : Kind
  pub left_is : AsKind left p y
  pub right_is : AsKind right q z
  pub join : together left right ≡ Some m

fixed_same : (s r : Sort) → Fixed s ≡ Fixed r → s ≡ r
fixed_same s r h = cc

same_free : (d e f : Bool) → Some (Free d) ≡ Some (Free f) → d ≡ f
same_free d e f h = cc

pub meets_found : (p q : NumberSort) (y z : Option ℕ) (m : Kind) → is_numeric p ≡ true → is_numeric q ≡ true → meet p q ≡ Some (sort_of m)
    → is_some (first (placed (sort_of m) p y) (placed (sort_of m) q z)) ≡ zero_in m → Joining p q y z m
meets_found (Free d) (Free e) y z (free f x) h k is zero = record {
  left = free d (is_some y);
  right = free e (is_some z);
  left_is = (refl, refl);
  right_is = (refl, refl);
  join = ap (λ c. Some (free c (is_some y || is_some z))) (same_free (d || e) e f is) ∙ ap (λ c. Some (free f c)) (sym (first_is y z) ∙ zero);
}
meets_found (Free d) (Free e) y z (fixed r) h k is zero = absurd cc
meets_found (Free d) (Fixed s) y z (free f x) h k is zero = absurd (let e = numeric_takes d s (Free f) is in cc)
meets_found (Free d) (Fixed s) y z (fixed r) h k is zero =
    let e = fixed_same s r (numeric_takes d s (Fixed r) is) in
    subst (λ r. meet (Free d) (Fixed s) ≡ Some (Fixed r) → is_some (first (positive_zero r y) z) ≡ false → Joining (Free d) (Fixed s) y z (fixed r)) e
    (λ is zero.
    let n = first_parts (positive_zero s y) z zero in
    record {
      left = free d (is_some y);
      right = fixed s;
      left_is = (refl, refl);
      right_is = (refl, n.1);
      join = fixed_true (may_take d (is_some y) s) s (taken_may d s y k is n.0);
    }) is zero
meets_found (Fixed s) (Free d) y z (free f x) h k is zero = absurd (let e = numeric_takes d s (Free f) is in cc)
meets_found (Fixed s) (Free d) y z (fixed r) h k is zero =
    let e = fixed_same s r (numeric_takes d s (Fixed r) is) in
    subst (λ r. meet (Fixed s) (Free d) ≡ Some (Fixed r) → is_some (first y (positive_zero r z)) ≡ false → Joining (Fixed s) (Free d) y z (fixed r)) e
    (λ is zero.
    let n = first_parts y (positive_zero s z) zero in
    record {
      left = fixed s;
      right = free d (is_some z);
      left_is = (refl, n.0);
      right_is = (refl, refl);
      join = fixed_true (may_take d (is_some z) s) s (taken_may d s z h is n.1);
    }) is zero
meets_found (Fixed s) (Fixed t) y z (free f x) h k is zero = absurd (let e = (meet_same s t (Free f) is).1 in cc)
meets_found (Fixed s) (Fixed t) y z (fixed r) h k is zero =
    let e = meet_same s t (Fixed r) is in
    let n = first_parts y z zero in
    record {
      left = fixed s;
      right = fixed t;
      left_is = (refl, n.0);
      right_is = (refl, n.1);
      join = fixed_true (is_sort s t) s e.0 ∙ ap (λ r. Some (fixed r)) (fixed_same s r e.1);
    }

-- ---- the other makings

pub arithmetic_same : (op : Arithmetic) (m : Kind) (t u : Term) → arithmetic_term op (sort_of m) t u ≡ arithmetic_of op m t u
arithmetic_same arithmetics.Sum m t u = refl
arithmetic_same arithmetics.Product m t u = refl
arithmetic_same arithmetics.Difference (free d y) t u = refl
arithmetic_same arithmetics.Difference (fixed s) t u = refl

divided_again : (k m : Kind) → divided k ≡ Some m → (quotient_sort (sort_of k) ≡ Some (sort_of m)) × (zero_in k ≡ zero_in m)
divided_again (free d y) m h = let e = same_Some (free true y) m h in (ap (λ k. Some (sort_of k)) e, ap zero_in e)
divided_again (fixed sorts.Pos) m h = absurd cc
divided_again (fixed sorts.Int) m h = let e = same_Some (fixed sorts.Int) m h in (ap (λ k. Some (sort_of k)) e, ap zero_in e)
divided_again (fixed sorts.Bin) m h = let e = same_Some (fixed sorts.Bin) m h in (ap (λ k. Some (sort_of k)) e, ap zero_in e)
divided_again (fixed sorts.Nat) m h = let e = same_Some (fixed sorts.Nat) m h in (ap (λ k. Some (sort_of k)) e, ap zero_in e)
divided_again (fixed sorts.Bool) m h = let e = same_Some (fixed sorts.Bool) m h in (ap (λ k. Some (sort_of k)) e, ap zero_in e)

pub by_again : (op : ByLiteral) (k m : Kind) → by_kind op k ≡ Some m → (by_sort op (sort_of k) ≡ Some (sort_of m)) × (zero_in k ≡ zero_in m)
by_again literals.Power k m h = let e = same_Some k m h in (ap (λ k. Some (sort_of k)) e, ap zero_in e)
by_again literals.Quotient k m h = divided_again k m h
by_again literals.Remainder k m h = divided_again k m h

-- the kind of the left side of a number by a literal
pub record Dividing (op : ByLiteral) (p : NumberSort) (y : Option ℕ) (m : Kind) : Type 0 where
  pub left : Kind
  pub left_is : AsKind left p y
  pub gives : by_kind op left ≡ Some m

quotient_free : (d : Bool) (y : Option ℕ) (m : Kind) → Some (Free true) ≡ Some (sort_of m) → is_some y ≡ zero_in m → Some (free true (is_some y)) ≡ Some m
quotient_free d y (free e x) h zero = ap (λ c. Some (free c (is_some y))) (same_free true true e h) ∙ ap (λ c. Some (free e c)) zero
quotient_free d y (fixed s) h zero = absurd cc

quotient_fixed : (s : Sort) (m : Kind) → quotient_sort (Fixed s) ≡ Some (sort_of m) → divided (fixed s) ≡ Some m
quotient_fixed sorts.Pos m h = absurd cc
quotient_fixed s (free d y) h = absurd cc
quotient_fixed sorts.Int (fixed r) h = cc
quotient_fixed sorts.Bin (fixed r) h = cc
quotient_fixed sorts.Nat (fixed r) h = cc
quotient_fixed sorts.Bool (fixed r) h = cc

fixed_only : (s : Sort) (m : Kind) → quotient_sort (Fixed s) ≡ Some (sort_of m) → zero_in m ≡ false
fixed_only sorts.Pos m h = absurd cc
fixed_only s (fixed r) h = refl
fixed_only s (free d y) h = absurd cc

pub by_found : (op : ByLiteral) (p : NumberSort) (y : Option ℕ) (m : Kind) → by_sort op p ≡ Some (sort_of m) → is_some y ≡ zero_in m → Dividing op p y m
by_found literals.Power p y m h zero = record { left = m; left_is = (same_Some p (sort_of m) h, zero); gives = refl }
by_found literals.Quotient (Free d) y m h zero = record { left = free d (is_some y); left_is = (refl, refl); gives = quotient_free d y m h zero }
by_found literals.Quotient (Fixed s) y m h zero = record { left = fixed s; left_is = (refl, zero ∙ fixed_only s m h); gives = quotient_fixed s m h }
by_found literals.Remainder (Free d) y m h zero = record { left = free d (is_some y); left_is = (refl, refl); gives = quotient_free d y m h zero }
by_found literals.Remainder (Fixed s) y m h zero = record { left = fixed s; left_is = (refl, zero ∙ fixed_only s m h); gives = quotient_fixed s m h }

quotient_numeric : (p w : NumberSort) → quotient_sort p ≡ Some w → is_numeric p ≡ true → is_numeric w ≡ true
quotient_numeric (Free d) w h k = ap is_numeric (sym (same_Some (Free true) w h))
quotient_numeric (Fixed sorts.Pos) w h k = absurd cc
quotient_numeric (Fixed sorts.Int) w h k = ap is_numeric (sym (same_Some (Fixed sorts.Int) w h))
quotient_numeric (Fixed sorts.Bin) w h k = ap is_numeric (sym (same_Some (Fixed sorts.Bin) w h))
quotient_numeric (Fixed sorts.Nat) w h k = ap is_numeric (sym (same_Some (Fixed sorts.Nat) w h))
quotient_numeric (Fixed sorts.Bool) w h k = absurd cc

pub by_numeric : (op : ByLiteral) (p w : NumberSort) → by_sort op p ≡ Some w → is_numeric p ≡ true → is_numeric w ≡ true
by_numeric literals.Power p w h k = ap is_numeric (sym (same_Some p w h)) ∙ k
by_numeric literals.Quotient p w h k = quotient_numeric p w h k
by_numeric literals.Remainder p w h k = quotient_numeric p w h k

pub argument_number : (f : Fn1) → is_number (argument_1 f) ≡ true
argument_number one.ZSucc = refl
argument_number f = refl

pub sort_2_number : (f : Fn2) → is_number (sort_2 f) ≡ true
sort_2_number two.ZMin = refl
sort_2_number f = refl

-- ---- comparisons

-- where no positive 0 is compared, the numbers have a kind
pub compared_kind : (s : NumberSort) (z : Option ℕ) → compared_zero s z ≡ None → (m : Kind) × AsKind m s z
compared_kind (Free d) z h = (free d (is_some z), (refl, refl))
compared_kind (Fixed s) z h = (fixed s, (refl, place_none z h))

pub compared_again : (m : Kind) (z : Option ℕ) → is_some z ≡ zero_in m → compared_zero (sort_of m) z ≡ None
compared_again (free d y) z h = refl
compared_again (fixed s) z h = no_place z h

-- ---- three numbers

may_parts : (d e x y : Bool) (s : Sort) → may_take (d || e) (x || y) s ≡ true → (may_take d x s ≡ true) × (may_take e y s ≡ true)
may_parts d e x y sorts.Int h = (refl, refl)
may_parts d e x y sorts.Bin h = (refl, refl)
may_parts d e x y sorts.Nat h = (refl, refl)
may_parts d e x y sorts.Bool h = absurd cc
may_parts false false false false sorts.Pos h = (refl, refl)
may_parts d e x y sorts.Pos h = absurd cc

-- what joins with a sort, its parts join with it
pub fixed_spread : (k l n : Kind) (s : Sort) → together k l ≡ Some n → together (fixed s) n ≡ Some (fixed s) → (together (fixed s) k ≡ Some (fixed s)) × (together (fixed s) l ≡ Some (fixed s))
fixed_spread k l (fixed r) s h j =
    let f = fixed_is (is_sort s r) s (fixed s) j in
    fixed_parts k l s (h ∙ ap (λ r. Some (fixed r)) (sym (one_sort s r f.0)))
fixed_spread (free d x) (free e y) (free f z) s h j =
    let b = fixed_is (may_take f z s) s (fixed s) j in
    let p = may_parts d e x y s (ap (λ n. elim n as (λ _. Bool) [ free f z ↦ may_take f z s | fixed r ↦ true ]) (same_Some (free (d || e) (x || y)) (free f z) h) ∙ b.0) in
    (fixed_true (may_take d x s) s p.0, fixed_true (may_take e y s) s p.1)
fixed_spread (free d a) (fixed r) (free c x) s h j = absurd (fixed_not_free r c x (fixed_is (may_take d a r) r (free c x) h).1)
fixed_spread (fixed r) (free d a) (free c x) s h j = absurd (fixed_not_free r c x (fixed_is (may_take d a r) r (free c x) h).1)
fixed_spread (fixed r) (fixed t) (free c x) s h j = absurd (fixed_not_free r c x (fixed_is (is_sort r t) r (free c x) h).1)

positive_first : (s : Sort) (y z : Option ℕ) → positive_zero s (first y z) ≡ first (positive_zero s y) (positive_zero s z)
positive_first sorts.Pos y z = refl
positive_first s y z = refl

pub first_assoc : (x y z : Option ℕ) → first x (first y z) ≡ first (first x y) z
first_assoc None y z = refl
first_assoc (Some p) y z = refl

-- the places of two numbers that join, and then join with a third
pub placed_twice : (p q r s t : NumberSort) (y z : Option ℕ) → meet p q ≡ Some s → meet s r ≡ Some t
    → placed t s (first (placed s p y) (placed s q z)) ≡ first (placed t p y) (placed t q z)
placed_twice p q r (Free e) (Free f) y z h k = refl
placed_twice p q r (Fixed s) (Free f) y z h k = absurd (let e = meet_fixed s r (Free f) k in cc)
placed_twice (Free a) (Free b) r (Free e) (Fixed t) y z h k = positive_first t y z
placed_twice (Free a) (Fixed b) r (Free e) (Fixed t) y z h k = absurd (let e = numeric_takes a b (Free e) h in cc)
placed_twice (Fixed a) q r (Free e) (Fixed t) y z h k = absurd (let e = meet_fixed a q (Free e) h in cc)
placed_twice p q r (Fixed s) (Fixed t) y z h k =
    ap (λ (t : Sort). first (placed (Fixed t) p y) (placed (Fixed t) q z)) (fixed_same s t (meet_fixed s r (Fixed t) k))
