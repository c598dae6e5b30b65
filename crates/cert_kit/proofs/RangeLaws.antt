-- A polynomial lies in the range that two inequalities give.
use Rattle.std.specs.Prelude.{◌≡◌, ℕ, ℤ, pos, negsuc, neg_ℤ, ◌+ℤ◌, ◌-ℤ◌, ◌*ℤ◌, ◌≤ℤ◌, ◌<ℤ◌, List, [], ◌∷◌, Bool, true, false, cond, refl, Some, None}
use Rattle.std.proofs.Common.{ap, sym, ◌∙◌, subst, arith}
use Rattle.std.proofs.lemmas.Int.{ints}
use Rattle.std.specs.Ordering.{is_eq}
use Rattle.std.specs.declared.cmp.Ordering.{Ordering}
use Rattle.std.specs.declared.cmp.Ordering.TheVariants.{Less, Equal, Greater}
use Rattle.std.proofs.lemmas.Option.{same_Some}
use Rattle.std.proofs.lemmas.Bool.{and_parts}
use Rattle.mm_num.proofs.Ring.{neg_mul}
use Rattle.mm_poly.specs.declared.term.Term.{Term}
use Rattle.mm_poly.specs.Mono.{mono_value}
use Rattle.mm_poly.specs.Poly.{value, constant_part, without_constant, scaled, constant_of}
use Rattle.mm_poly.proofs.ValueLaws.{value_plus, value_scaled, value_constant}
use Rattle.mm_poly.proofs.OrderLaws.{mono_exact}
use Rattle.mm_poly.proofs.CutLaws.{value_parts}
use Rattle.cert_kit.specs.Row.{Holds}
use Rattle.mm_poly.specs.Poly.{is_opposite}
use Rattle.cert_kit.specs.Acceptance.{Range, range_between, values_of, not_below_0, value_row, below_0}
use Rattle.mm_num.proofs.TestLaws.{is_int}

equal_is : (o : Ordering) → is_eq o ≡ true → o ≡ Equal
equal_is Equal h = refl
equal_is Less h = absurd (cc)
equal_is Greater h = absurd (cc)

-- a polynomial times -1 has the value times -1
pub value_opposite : (x : ℕ → ℤ) (p q : List Term) → is_opposite p q ≡ true → value x q ≡ neg_ℤ (value x p)
value_opposite x [] [] h = refl
value_opposite x [] (u ∷ us) h = absurd (cc)
value_opposite x (t ∷ ts) [] h = absurd (cc)
value_opposite x (t ∷ ts) (u ∷ us) h =
    let first = and_parts _ _ h in
    let second = and_parts _ _ first.1 in
    let m : t.mono ≡ u.mono = mono_exact t.mono u.mono (equal_is _ first.0) in
    let c : u.coeff ≡ neg_ℤ t.coeff = is_int u.coeff (neg_ℤ t.coeff) second.0 in
    let rest : value x us ≡ neg_ℤ (value x ts) = value_opposite x ts us second.1 in
    let term : u.coeff *ℤ mono_value x u.mono ≡ neg_ℤ (t.coeff *ℤ mono_value x t.mono) =
    ap (λ k. k *ℤ mono_value x u.mono) c ∙ ap (λ k. neg_ℤ t.coeff *ℤ mono_value x k) (sym m) ∙ neg_mul t.coeff (mono_value x t.mono) in
    omega (arith, ints, term, rest)

-- the value lies in the range
pub record IsIn (v : ℤ) (r : Range) : Type 0 where
  pub least : r.low ≤ℤ v
  pub greatest : v ≤ℤ r.high

pub in_between : (x : ℕ → ℤ) (lower upper : List Term) (r : Range) → pos 0 ≤ℤ value x lower → pos 0 ≤ℤ value x upper
    → range_between lower upper ≡ Some r → IsIn (value x r.poly) r
in_between x lower upper r h k e = by_test (is_opposite (without_constant lower) (without_constant upper)) refl e
  where
    by_test : (b : Bool) → is_opposite (without_constant lower) (without_constant upper) ≡ b
        → cond b (Some (record { poly = without_constant lower; low = neg_ℤ (constant_part lower); high = constant_part upper })) None ≡ Some r
        → IsIn (value x r.poly) r
    by_test true o p =
        let a = value_parts x lower in
        let b = value_parts x upper in
        let c = value_opposite x (without_constant lower) (without_constant upper) o in
        let found : IsIn (value x (without_constant lower)) (record { poly = without_constant lower; low = neg_ℤ (constant_part lower); high = constant_part upper }) =
        record { least = omega (arith, ints, a, h); greatest = omega (arith, ints, b, c, k) } in
        subst (λ (z : Range). IsIn (value x z.poly) z) (same_Some _ r p) found
    by_test false o p = absurd (cc)

-- there are as many values as the range says
pub count_reaches : (r : Range) (v : ℤ) → IsIn v r → v <ℤ (r.low +ℤ pos (values_of r))
count_reaches r v h = by_size ((r.high -ℤ r.low) +ℤ pos 1) refl
  where
    by_size : (n : ℤ) → ((r.high -ℤ r.low) +ℤ pos 1) ≡ n → v <ℤ (r.low +ℤ pos (not_below_0 n))
    by_size (pos n) e = omega (arith, ints, e, h.least, h.greatest)
    by_size (negsuc n) e = omega (arith, ints, e, h.least, h.greatest)

-- q - v is 0 where q has the value v
pub value_row_holds : (x : ℕ → ℤ) (q : List Term) (v : ℤ) → value x q ≡ v → Holds x (value_row q v)
value_row_holds x q v h =
    value_plus x q (constant_of (neg_ℤ v)) ∙ ap (λ n. value x q +ℤ n) (value_constant x (neg_ℤ v)) ∙ omega (arith, ints, h)

-- -p - 1 is not below 0 where p is below 0
pub below_holds : (x : ℕ → ℤ) (p : List Term) → value x p <ℤ pos 0 → pos 0 ≤ℤ value x (below_0 p)
below_holds x p h =
    let a = value_plus x (scaled (negsuc 0) p) (constant_of (negsuc 0)) in
    let b = value_scaled x (negsuc 0) p in
    let c = value_constant x (negsuc 0) in
    omega (arith, ints, a, b, c, h)
