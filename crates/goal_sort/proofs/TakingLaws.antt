-- A number has the sort of its kind, and it takes each sort that it may take.
use Rattle.std.specs.Prelude.{◌≡◌, ℤ, pos, neg_ℤ, int_le, Bool, true, false, not, ◌||◌, List, Some, refl}
use Rattle.std.specs.Ordering.{int_eq}
use Rattle.std.proofs.Common.{sym, ◌∙◌, subst, arith}
use Rattle.std.proofs.lemmas.Int.{ints}
use Rattle.std.proofs.lemmas.Option.{same_Some}
use Rattle.std.proofs.lemmas.Bool.{and_parts, and_from, or_left, or_right}
use Rattle.goal_ast.specs.declared.term.Sort.{Sort}
use Rattle.goal_ast.specs.declared.term.Sort.TheVariants as sorts
use Rattle.goal_ast.specs.declared.term.Fn1.{Fn1}
use Rattle.goal_ast.specs.declared.term.Fn1.TheVariants as one
use Rattle.goal_ast.specs.declared.term.Fn2.{Fn2}
use Rattle.goal_ast.specs.declared.term.Term.{Term}
use Rattle.goal_ast.specs.declared.term.Term.TheOpen.{Term-F}
use Rattle.goal_ast.specs.declared.term.Term.TheVariants as terms
use Rattle.goal_ast.specs.declared.term.Term.TheVariants.{rolls-Lit, rolls-Neg, rolls-Add, rolls-Sub, rolls-Mul, rolls-Pow, rolls-Div, rolls-Rem, rolls-Call1, rolls-Call2}
use Rattle.goal_ast.specs.Sorted.{is_sort, is_number, literal_has, divides_on, argument_1, result_1, sort_2, has_sort}
use Rattle.goal_sort.specs.declared.operator.Arithmetic.{Arithmetic}
use Rattle.goal_sort.specs.declared.operator.Arithmetic.TheVariants as arithmetics
use Rattle.goal_sort.specs.declared.operator.ByLiteral.{ByLiteral}
use Rattle.goal_sort.specs.declared.operator.ByLiteral.TheVariants as literals
use Rattle.goal_sort.specs.SortedNumbers.{with_sort, by_term, can_stand, can_be_negative}
use Rattle.goal_sort.specs.Kinds.{Kind, free, fixed, may_take, fixed_if, together, within, divided, by_kind, arithmetic_of}
use Rattle.goal_sort.proofs.TermLaws.{term_sort, term_with}

-- without a sort it has the sort Z as it is, and each that it may take with its subtractions on that
pub record FreeFits (vars : List Sort) (d z : Bool) (t : Term) : Type 0 where
  pub plain : has_sort t vars sorts.Int ≡ true
  pub takes : (s : Sort) → may_take d z s ≡ true → has_sort (with_sort s t) vars s ≡ true

pub record FixedFits (vars : List Sort) (s : Sort) (t : Term) : Type 0 where
  pub number : is_number s ≡ true
  pub has : has_sort t vars s ≡ true

abbrev pub KindFits : List Sort → Kind → Term → Type 0
KindFits vars (free d z) t = FreeFits vars d z t
KindFits vars (fixed s) t = FixedFits vars s t

-- ---- kinds that go together

-- a number of the first kind may have the second from now on
abbrev pub Goes : Kind → Kind → Type 0
Goes (free d z) (free e y) = (d ≡ true → e ≡ true) × (z ≡ true → y ≡ true)
Goes (free d z) (fixed s) = may_take d z s ≡ true
Goes (fixed s) (free e y) = ⊥
Goes (fixed s) (fixed t) = s ≡ t

abbrev pub BothGo : Kind → Kind → Kind → Type 0
BothGo k l m = Goes k m × Goes l m

pub one_sort : (s t : Sort) → is_sort s t ≡ true → s ≡ t
one_sort sorts.Int sorts.Int h = refl
one_sort sorts.Bin sorts.Bin h = refl
one_sort sorts.Nat sorts.Nat h = refl
one_sort sorts.Pos sorts.Pos h = refl
one_sort sorts.Bool sorts.Bool h = refl
one_sort s t h = absurd (cc)

pub same_sort : (s : Sort) → is_sort s s ≡ true
same_sort sorts.Int = refl
same_sort sorts.Bin = refl
same_sort sorts.Nat = refl
same_sort sorts.Pos = refl
same_sort sorts.Bool = refl

numbers_take : (d z : Bool) (s : Sort) → may_take d z s ≡ true → is_number s ≡ true
numbers_take d z sorts.Int h = refl
numbers_take d z sorts.Bin h = refl
numbers_take d z sorts.Nat h = refl
numbers_take d z sorts.Pos h = refl
numbers_take d z sorts.Bool h = absurd (cc)

not_later : (d e : Bool) → (d ≡ true → e ≡ true) → not e ≡ true → not d ≡ true
not_later false e g h = refl
not_later true false g h = absurd (let k = g refl in cc)
not_later true true g h = h

weaker : (d z e y : Bool) (s : Sort) → (d ≡ true → e ≡ true) → (z ≡ true → y ≡ true) → may_take e y s ≡ true → may_take d z s ≡ true
weaker d z e y sorts.Int g h m = refl
weaker d z e y sorts.Bin g h m = refl
weaker d z e y sorts.Nat g h m = refl
weaker d z e y sorts.Pos g h m = and_from _ _ (not_later d e g (and_parts _ _ m).0) (not_later z y h (and_parts _ _ m).1)
weaker d z e y sorts.Bool g h m = absurd (cc)

taken_goes : (d z : Bool) (s : Sort) (m : Kind) (b : Bool) → may_take d z s ≡ b → fixed_if b s ≡ Some m → BothGo (free d z) (fixed s) m
taken_goes d z s m true h e = subst (BothGo (free d z) (fixed s)) (same_Some _ _ e) (h, refl)
taken_goes d z s m false h e = absurd (cc)

same_goes : (s t : Sort) (m : Kind) (b : Bool) → is_sort s t ≡ b → fixed_if b s ≡ Some m → BothGo (fixed s) (fixed t) m
same_goes s t m true h e = subst (BothGo (fixed s) (fixed t)) (same_Some _ _ e) (refl, sym (one_sort s t h))
same_goes s t m false h e = absurd (cc)

pub both_go : (k l m : Kind) → together k l ≡ Some m → BothGo k l m
both_go (free d z) (free e y) m h = subst (BothGo (free d z) (free e y)) (same_Some _ _ h) ((or_left d e, or_left z y), (or_right d e, or_right z y))
both_go (free d z) (fixed s) m h = taken_goes d z s m (may_take d z s) refl h
both_go (fixed s) (free d z) m h = let g = taken_goes d z s m (may_take d z s) refl h in (g.1, g.0)
both_go (fixed s) (fixed t) m h = same_goes s t m (is_sort s t) refl h

pub goes_on : (k l m : Kind) → Goes k l → Goes l m → Goes k m
goes_on (free d z) (free e y) (free f x) g h = (λ k. h.0 (g.0 k), λ k. h.1 (g.1 k))
goes_on (free d z) (free e y) (fixed s) g h = weaker d z e y s g.0 g.1 h
goes_on (free d z) (fixed s) (fixed t) g h = subst (λ (r : Sort). may_take d z r ≡ true) h g
goes_on (free d z) (fixed s) (free e y) g h = absurd h
goes_on (fixed s) (free e y) m g h = absurd g
goes_on (fixed s) (fixed t) (fixed u) g h = g ∙ h
goes_on (fixed s) (fixed t) (free e y) g h = absurd h

-- a number as a part of one of a kind that it may have
pub within_fits : (vars : List Sort) (k m : Kind) (t : Term) → KindFits vars k t → Goes k m → KindFits vars m (within m k t)
within_fits vars (free d z) (free e y) t f g = record { plain = f.plain; takes = λ s m. f.takes s (weaker d z e y s g.0 g.1 m) }
within_fits vars (free d z) (fixed s) t f g = record { number = numbers_take d z s g; has = f.takes s g }
within_fits vars (fixed s) (free e y) t f g = absurd g
within_fits vars (fixed s) (fixed r) t f g = record { number = subst (λ (x : Sort). is_number x ≡ true) g f.number; has = subst (λ (x : Sort). has_sort t vars x ≡ true) g f.has }

-- ---- numbers that are made of numbers

abbrev Has : List Sort → Sort → Term → Type 0
Has vars s t = has_sort t vars s ≡ true

literal_takes : (n : ℤ) (s : Sort) → int_le (pos 0) n ≡ true → may_take false (int_eq n (pos 0)) s ≡ true → literal_has n s ≡ true
literal_takes n sorts.Int h m = h
literal_takes n sorts.Bin h m = h
literal_takes n sorts.Nat h m = h
literal_takes n sorts.Pos h m = grind (arith, ints)
literal_takes n sorts.Bool h m = absurd (cc)

pub literal_number : (vars : List Sort) (n : ℤ) → int_le (pos 0) n ≡ true → FreeFits vars false (int_eq n (pos 0)) (terms.Lit n)
literal_number vars n h = record {
  plain = term_sort (Term-F.Lit n) (rolls-Lit n) vars sorts.Int ∙ h;
  takes = λ s m. subst (Has vars s) (sym (term_with s (Term-F.Lit n) (rolls-Lit n))) (term_sort (Term-F.Lit n) (rolls-Lit n) vars s ∙ literal_takes n s h m);
}

sum_has : (vars : List Sort) (s : Sort) (t u : Term) → Has vars s t → Has vars s u → Has vars s (terms.Add t u)
sum_has vars s t u h k = term_sort (Term-F.Add t u) (rolls-Add t u) vars s ∙ and_from _ _ h k

product_has : (vars : List Sort) (s : Sort) (t u : Term) → Has vars s t → Has vars s u → Has vars s (terms.Mul t u)
product_has vars s t u h k = term_sort (Term-F.Mul t u) (rolls-Mul t u) vars s ∙ and_from _ _ h k

difference_has : (vars : List Sort) (s : Sort) (t u : Term) → Has vars s t → Has vars s u → Has vars s (terms.Sub s t u)
difference_has vars s t u h k = term_sort (Term-F.Sub s t u) (rolls-Sub s t u) vars s ∙ and_from _ _ (same_sort s) (and_from _ _ h k)

pub arithmetic_number : (vars : List Sort) (op : Arithmetic) (k : Kind) (t u : Term) → KindFits vars k t → KindFits vars k u → KindFits vars k (arithmetic_of op k t u)
arithmetic_number vars arithmetics.Sum (free d z) t u f g = record {
  plain = sum_has vars sorts.Int t u f.plain g.plain;
  takes = λ s m. subst (Has vars s) (sym (term_with s (Term-F.Add t u) (rolls-Add t u))) (sum_has vars s _ _ (f.takes s m) (g.takes s m));
}
arithmetic_number vars arithmetics.Sum (fixed s) t u f g = record { number = f.number; has = sum_has vars s t u f.has g.has }
arithmetic_number vars arithmetics.Difference (free d z) t u f g = record {
  plain = difference_has vars sorts.Int t u f.plain g.plain;
  takes = λ s m. subst (Has vars s) (sym (term_with s (Term-F.Sub sorts.Int t u) (rolls-Sub sorts.Int t u))) (difference_has vars s _ _ (f.takes s m) (g.takes s m));
}
arithmetic_number vars arithmetics.Difference (fixed s) t u f g = record { number = f.number; has = difference_has vars s t u f.has g.has }
arithmetic_number vars arithmetics.Product (free d z) t u f g = record {
  plain = product_has vars sorts.Int t u f.plain g.plain;
  takes = λ s m. subst (Has vars s) (sym (term_with s (Term-F.Mul t u) (rolls-Mul t u))) (product_has vars s _ _ (f.takes s m) (g.takes s m));
}
arithmetic_number vars arithmetics.Product (fixed s) t u f g = record { number = f.number; has = product_has vars s t u f.has g.has }

-- what a literal on the right asks of a sort
abbrev stands : ByLiteral → Sort → ℤ → Bool
stands literals.Power s n = int_le (pos 0) n
stands literals.Quotient s n = divides_on s n
stands literals.Remainder s n = divides_on s n

by_has : (vars : List Sort) (op : ByLiteral) (s : Sort) (t : Term) (n : ℤ) → Has vars s t → stands op s n ≡ true → Has vars s (by_term op t n)
by_has vars literals.Power s t n h k = term_sort (Term-F.Pow t n) (rolls-Pow t n) vars s ∙ and_from _ _ h k
by_has vars literals.Quotient s t n h k = term_sort (Term-F.Div t n) (rolls-Div t n) vars s ∙ and_from _ _ h k
by_has vars literals.Remainder s t n h k = term_sort (Term-F.Rem t n) (rolls-Rem t n) vars s ∙ and_from _ _ h k

by_with : (op : ByLiteral) (s : Sort) (t : Term) (n : ℤ) → with_sort s (by_term op t n) ≡ by_term op (with_sort s t) n
by_with literals.Power s t n = term_with s (Term-F.Pow t n) (rolls-Pow t n)
by_with literals.Quotient s t n = term_with s (Term-F.Div t n) (rolls-Div t n)
by_with literals.Remainder s t n = term_with s (Term-F.Rem t n) (rolls-Rem t n)

divides_where : (s : Sort) (n : ℤ) (z : Bool) → int_le (pos 1) n ≡ true → may_take true z s ≡ true → divides_on s n ≡ true
divides_where sorts.Int n z h m = grind (arith, ints)
divides_where sorts.Bin n z h m = h
divides_where sorts.Nat n z h m = h
divides_where sorts.Pos n z h m = absurd (cc)
divides_where sorts.Bool n z h m = absurd (cc)

divided_takes : (d z : Bool) (s : Sort) → may_take true z s ≡ true → may_take d z s ≡ true
divided_takes d z s m = weaker d z true z s (λ h. refl) (λ h. h) m

free_by : (vars : List Sort) (op : ByLiteral) (d e z : Bool) (t : Term) (n : ℤ) → FreeFits vars d z t → ((s : Sort) → may_take e z s ≡ true → may_take d z s ≡ true)
    → ((s : Sort) → may_take e z s ≡ true → stands op s n ≡ true) → FreeFits vars e z (by_term op t n)
free_by vars op d e z t n f g h = record {
  plain = by_has vars op sorts.Int t n f.plain (h sorts.Int refl);
  takes = λ s m. subst (Has vars s) (sym (by_with op s t n)) (by_has vars op s _ n (f.takes s (g s m)) (h s m));
}

fixed_by : (vars : List Sort) (op : ByLiteral) (s : Sort) (t : Term) (n : ℤ) → FixedFits vars s t → stands op s n ≡ true → FixedFits vars s (by_term op t n)
fixed_by vars op s t n f h = record { number = f.number; has = by_has vars op s t n f.has h }

divided_fixed : (s : Sort) (m : Kind) (n : ℤ) → is_number s ≡ true → int_le (pos 1) n ≡ true → divided (fixed s) ≡ Some m → (fixed s ≡ m) × (divides_on s n ≡ true)
divided_fixed sorts.Int m n k h e = (same_Some _ _ e, divides_where sorts.Int n true h refl)
divided_fixed sorts.Bin m n k h e = (same_Some _ _ e, h)
divided_fixed sorts.Nat m n k h e = (same_Some _ _ e, h)
divided_fixed sorts.Pos m n k h e = absurd (cc)
divided_fixed sorts.Bool m n k h e = absurd (cc)

abbrev ByFits : List Sort → ByLiteral → Term → ℤ → Kind → Type 0
ByFits vars op t n k = KindFits vars k (by_term op t n)

pub by_number : (vars : List Sort) (op : ByLiteral) (k m : Kind) (t : Term) (n : ℤ) → KindFits vars k t → can_stand op n ≡ true → by_kind op k ≡ Some m → KindFits vars m (by_term op t n)
by_number vars literals.Power (free d z) m t n f c h = subst (ByFits vars literals.Power t n) (same_Some _ _ h) (free_by vars literals.Power d d z t n f (λ s e. e) (λ s e. c))
by_number vars literals.Power (fixed s) m t n f c h = subst (ByFits vars literals.Power t n) (same_Some _ _ h) (fixed_by vars literals.Power s t n f c)
by_number vars literals.Quotient (free d z) m t n f c h = subst (ByFits vars literals.Quotient t n) (same_Some _ _ h)
    (free_by vars literals.Quotient d true z t n f (divided_takes d z) (λ s e. divides_where s n z c e))
by_number vars literals.Quotient (fixed s) m t n f c h = let g = divided_fixed s m n f.number c h in subst (ByFits vars literals.Quotient t n) g.0 (fixed_by vars literals.Quotient s t n f g.1)
by_number vars literals.Remainder (free d z) m t n f c h = subst (ByFits vars literals.Remainder t n) (same_Some _ _ h)
    (free_by vars literals.Remainder d true z t n f (divided_takes d z) (λ s e. divides_where s n z c e))
by_number vars literals.Remainder (fixed s) m t n f c h = let g = divided_fixed s m n f.number c h in subst (ByFits vars literals.Remainder t n) g.0 (fixed_by vars literals.Remainder s t n f g.1)

-- a negative divisor is one on Z
negative_stands : (op : ByLiteral) (n : ℤ) → can_be_negative op ≡ true → can_stand op n ≡ true → stands op sorts.Int (neg_ℤ n) ≡ true
negative_stands literals.Power n h c = absurd (cc)
negative_stands literals.Quotient n h c = grind (arith, ints)
negative_stands literals.Remainder n h c = grind (arith, ints)

pub by_negative_number : (vars : List Sort) (op : ByLiteral) (t : Term) (n : ℤ) → FixedFits vars sorts.Int t → can_be_negative op ≡ true → can_stand op n ≡ true → FixedFits vars sorts.Int (by_term op t (neg_ℤ n))
by_negative_number vars op t n f h c = fixed_by vars op sorts.Int t (neg_ℤ n) f (negative_stands op n h c)

pub opposite_number : (vars : List Sort) (t : Term) → FixedFits vars sorts.Int t → FixedFits vars sorts.Int (terms.Neg t)
opposite_number vars t f = record { number = refl; has = term_sort (Term-F.Neg t) (rolls-Neg t) vars sorts.Int ∙ f.has }

pub result_number : (f : Fn1) → is_number (result_1 f) ≡ true
result_number one.ZSucc = refl
result_number one.ZPred = refl
result_number one.ZOpp = refl
result_number one.ZAbs = refl
result_number one.ZSgn = refl
result_number one.S = refl
result_number one.NatPred = refl
result_number one.NSucc = refl
result_number one.NPred = refl
result_number one.PosSucc = refl
result_number one.PosPred = refl
result_number one.OfNat = refl
result_number one.OfN = refl
result_number one.OfPos = refl
result_number one.ToNat = refl
result_number one.ToN = refl

pub call_1_number : (vars : List Sort) (f : Fn1) (t : Term) → FixedFits vars (argument_1 f) t → FixedFits vars (result_1 f) (terms.Call1 f t)
call_1_number vars f t g = record {
  number = result_number f;
  has = term_sort (Term-F.Call1 f t) (rolls-Call1 f t) vars (result_1 f) ∙ and_from _ _ (same_sort (result_1 f)) g.has;
}

pub call_2_number : (vars : List Sort) (f : Fn2) (t u : Term) → FixedFits vars (sort_2 f) t → FixedFits vars (sort_2 f) u → FixedFits vars (sort_2 f) (terms.Call2 f t u)
call_2_number vars f t u g h = record {
  number = g.number;
  has = term_sort (Term-F.Call2 f t u) (rolls-Call2 f t u) vars (sort_2 f) ∙ and_from _ _ (same_sort (sort_2 f)) (and_from _ _ g.has h.has);
}
