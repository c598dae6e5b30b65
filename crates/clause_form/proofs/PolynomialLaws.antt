-- The polynomial of a term has its value.
use Rattle.std.specs.Prelude.{◌≡◌, ℕ, zero, suc, ℤ, pos, negsuc, neg_ℤ, ◌+ℤ◌, ◌-ℤ◌, ◌*ℤ◌, unsigned_abs, List}
use Rattle.std.proofs.Common.{ap, ◌∙◌, sym, subst, arith}
use Rattle.std.proofs.lemmas.Int.{ints}
use Rattle.mm_num.specs.Power.{power}
use Rattle.mm_poly.specs.declared.term.Term.{Term}
use Rattle.mm_poly.specs.Poly.{value}
use Rattle.mm_poly.proofs.ValueLaws.{value_plus, value_scaled, value_times, value_constant, value_variable}
use Rattle.goal_ast.specs.Truth.{Point}
use Rattle.goal_ast.proofs.CountingLaws.{both_same}
use Rattle.zify.specs.declared.term.ZTerm.{ZTerm}
use Rattle.zify.specs.declared.term.ZTerm.TheOpen.{ZTerm-F}
use Rattle.zify.specs.declared.term.ZTerm.TheViews.{roll-ZTerm}
use Rattle.zify.specs.declared.term.ZTerm.TheFolds.{map-ZTerm, fold-roll-ZTerm, ind-ZTerm}
use Rattle.zify.specs.Truth.{z_value_level, z_value_of}
use Rattle.clause_form.specs.Polynomial.{poly_power, opposite_of, difference, poly_level, poly_of}

minus_one : (a : ℤ) → negsuc 0 *ℤ a ≡ neg_ℤ a
minus_one (pos n) = omega (arith, ints)
minus_one (negsuc n) = omega (arith, ints)

sum_opposite : (a b : ℤ) → a +ℤ neg_ℤ b ≡ a -ℤ b
sum_opposite a b = omega (arith, ints)

pub value_opposite : (x : Point) (p : List Term) → value x (opposite_of p) ≡ neg_ℤ (value x p)
value_opposite x p = value_scaled x (negsuc 0) p ∙ minus_one (value x p)

pub value_difference : (x : Point) (p q : List Term) → value x (difference p q) ≡ value x p -ℤ value x q
value_difference x p q = value_plus x p (opposite_of q) ∙ ap (λ z. value x p +ℤ z) (value_opposite x q) ∙ sum_opposite (value x p) (value x q)

value_power : (x : Point) (p : List Term) (n : ℕ) → value x (poly_power p n) ≡ power (value x p) n
value_power x p zero = value_constant x (pos 1)
value_power x p (suc n) = value_times x p (poly_power p n) ∙ ap (λ z. value x p *ℤ z) (value_power x p n)

abbrev pub PolyAgrees : Point → ZTerm → Type 0
PolyAgrees x t = value x (poly_of t) ≡ z_value_of x t

abbrev KnownPoly : Point → Type 0
KnownPoly x = (t : ZTerm) × PolyAgrees x t

abbrev terms_of : (x : Point) → ZTerm-F (KnownPoly x) → ZTerm-F ZTerm
terms_of x y = map-ZTerm (KnownPoly x) ZTerm (λ p. p.0) y

poly_step : (x : Point) (y : ZTerm-F (KnownPoly x))
    → value x (poly_level (map-ZTerm ZTerm (List Term) poly_of (terms_of x y))) ≡ z_value_level x (map-ZTerm ZTerm ℤ (z_value_of x) (terms_of x y))
poly_step x (ZTerm-F.Lit n) = value_constant x n
poly_step x (ZTerm-F.Var v) = value_variable x v
poly_step x (ZTerm-F.Neg a) = value_opposite x (poly_of a.0) ∙ ap neg_ℤ a.1
poly_step x (ZTerm-F.Add a b) = value_plus x (poly_of a.0) (poly_of b.0) ∙ both_same (λ m n. m +ℤ n) _ _ _ _ a.1 b.1
poly_step x (ZTerm-F.Sub a b) = value_difference x (poly_of a.0) (poly_of b.0) ∙ both_same (λ m n. m -ℤ n) _ _ _ _ a.1 b.1
poly_step x (ZTerm-F.Mul a b) = value_times x (poly_of a.0) (poly_of b.0) ∙ both_same (λ m n. m *ℤ n) _ _ _ _ a.1 b.1
poly_step x (ZTerm-F.Pow a k) = value_power x (poly_of a.0) (unsigned_abs k) ∙ ap (λ z. power z (unsigned_abs k)) a.1

-- at every point
pub poly_agrees : (x : Point) (t : ZTerm) → PolyAgrees x t
poly_agrees x = ind-ZTerm (PolyAgrees x) (λ d y q. subst (λ (z : ZTerm-F ZTerm). PolyAgrees x (roll-ZTerm z)) q (step y))
  where
    step : (y : ZTerm-F (KnownPoly x)) → PolyAgrees x (roll-ZTerm (terms_of x y))
    step y =
        ap (λ (p : List Term). value x p) (fold-roll-ZTerm (List Term) poly_level (terms_of x y))
        ∙ poly_step x y
        ∙ sym (fold-roll-ZTerm ℤ (z_value_level x) (terms_of x y))
