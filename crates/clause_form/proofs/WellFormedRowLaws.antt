-- The rows of a goal's alternatives are polynomials.
use Rattle.std.specs.Prelude.{ℕ, zero, suc, ℤ, pos, negsuc, int_lt, unsigned_abs, List, [], ◌∷◌, ◌++◌, map}
use Rattle.std.specs.List.{AllByRecursion}
use Rattle.std.proofs.Common.{sym, subst, arith}
use Rattle.std.proofs.lemmas.Int.{ints}
use Rattle.mm_num.proofs.ListLaws.{all_join}
use Rattle.mm_poly.specs.declared.term.Term.{Term}
use Rattle.mm_poly.specs.Mono.{IsMono}
use Rattle.mm_poly.specs.Poly.{IsPoly, AllMono, plus, times, constant_of, variable_of}
use Rattle.mm_poly.proofs.CaseLaws.{by_if}
use Rattle.mm_poly.proofs.FactorLaws.{mono_of_times}
use Rattle.mm_poly.proofs.PolyLaws.{poly_plus, poly_scaled, poly_times}
use Rattle.mm_poly.proofs.EachLaws.{each_with, each_plus, each_scaled, each_times}
use Rattle.mm_poly.proofs.CutBoundLaws.{poly_constant}
use Rattle.cert_kit.specs.declared.row.PRow.{PRow}
use Rattle.goal_ast.specs.declared.formula.Cmp.{Cmp}
use Rattle.goal_ast.specs.declared.formula.Cmp.TheVariants as cmps
use Rattle.zify.specs.declared.term.ZTerm.{ZTerm}
use Rattle.zify.specs.declared.term.ZTerm.TheOpen.{ZTerm-F}
use Rattle.zify.specs.declared.term.ZTerm.TheViews.{roll-ZTerm}
use Rattle.zify.specs.declared.term.ZTerm.TheFolds.{map-ZTerm, fold-roll-ZTerm, ind-ZTerm}
use Rattle.zify.specs.declared.form.ZForm.{ZForm}
use Rattle.zify.specs.declared.form.ZForm.TheOpen.{ZForm-F}
use Rattle.zify.specs.declared.form.ZForm.TheViews.{roll-ZForm}
use Rattle.zify.specs.declared.form.ZForm.TheFolds.{map-ZForm, fold-roll-ZForm, ind-ZForm}
use Rattle.zify.specs.declared.goal.ZGoal.{ZGoal}
use Rattle.clause_form.specs.Polynomial.{poly_power, opposite_of, difference, poly_level, poly_of}
use Rattle.clause_form.specs.Alternatives.{above, first_positive, comparison, opposite, pairs, Sides, sides_level, sides_of, all_alternatives, alternatives_of}

-- ---- polynomials

pub record IsWell (ts : List Term) : Type 0 where
  pub order : IsPoly ts
  pub monos : AllMono ts

constant_well : (c : ℤ) → IsWell (constant_of c)
constant_well c = record { order = poly_constant c; monos = each_with IsMono c [] [] tt tt }

variable_well : (v : ℕ) → IsWell (variable_of v)
variable_well v = record { order = (λ e. absurd (omega (arith, ints, e)), tt, tt); monos = ((omega arith, tt, tt), tt) }

sum_well : (p q : List Term) → IsWell p → IsWell q → IsWell (plus p q)
sum_well p q h k = record { order = poly_plus p q h.order k.order; monos = each_plus IsMono p q h.monos k.monos }

opposite_well : (p : List Term) → IsWell p → IsWell (opposite_of p)
opposite_well p h = record { order = poly_scaled (negsuc 0) p h.order; monos = each_scaled IsMono (negsuc 0) p h.monos }

difference_well : (p q : List Term) → IsWell p → IsWell q → IsWell (difference p q)
difference_well p q h k = sum_well p (opposite_of q) h (opposite_well q k)

product_well : (p q : List Term) → IsWell p → IsWell q → IsWell (times p q)
product_well p q h k = record { order = poly_times p q h.order k.order; monos = each_times IsMono p q mono_of_times h.monos k.monos }

power_well : (p : List Term) (n : ℕ) → IsWell p → IsWell (poly_power p n)
power_well p zero h = constant_well (pos 1)
power_well p (suc n) h = product_well p (poly_power p n) h (power_well p n h)

abbrev TermWell : ZTerm → Type 0
TermWell t = IsWell (poly_of t)

abbrev Known : Type 0
Known = (t : ZTerm) × TermWell t

abbrev terms_of : ZTerm-F Known → ZTerm-F ZTerm
terms_of y = map-ZTerm Known ZTerm (λ p. p.0) y

well_step : (y : ZTerm-F Known) → IsWell (poly_level (map-ZTerm ZTerm (List Term) poly_of (terms_of y)))
well_step (ZTerm-F.Lit n) = constant_well n
well_step (ZTerm-F.Var v) = variable_well v
well_step (ZTerm-F.Neg a) = opposite_well (poly_of a.0) a.1
well_step (ZTerm-F.Add a b) = sum_well (poly_of a.0) (poly_of b.0) a.1 b.1
well_step (ZTerm-F.Sub a b) = difference_well (poly_of a.0) (poly_of b.0) a.1 b.1
well_step (ZTerm-F.Mul a b) = product_well (poly_of a.0) (poly_of b.0) a.1 b.1
well_step (ZTerm-F.Pow a k) = power_well (poly_of a.0) (unsigned_abs k) a.1

term_well : (t : ZTerm) → TermWell t
term_well = ind-ZTerm TermWell (λ d y q. subst (λ (z : ZTerm-F ZTerm). TermWell (roll-ZTerm z)) q (step y))
  where
    step : (y : ZTerm-F Known) → TermWell (roll-ZTerm (terms_of y))
    step y = subst (λ (ts : List Term). IsWell ts) (sym (fold-roll-ZTerm (List Term) poly_level (terms_of y))) (well_step y)

-- ---- rows

abbrev pub IsWellRow : PRow → Type 0
IsWellRow r = IsWell r.poly

abbrev pub AreWellRows : List PRow → Type 0
AreWellRows rows = AllByRecursion IsWellRow rows

abbrev pub AreWell : List (List PRow) → Type 0
AreWell lists = AllByRecursion AreWellRows lists

above_well : (p q : List Term) → IsWell p → IsWell q → IsWellRow (above p q)
above_well p q h k = sum_well (difference p q) (constant_of (negsuc 0)) (difference_well p q h k) (constant_well (negsuc 0))

first_well : (ts : List Term) → IsWell ts → IsWell (first_positive ts)
first_well [] h = h
first_well (t ∷ ts) h = by_if (int_lt t.coeff (pos 0)) (opposite_of (t ∷ ts)) (t ∷ ts) (λ (r : List Term). IsWell r) (λ e. opposite_well (t ∷ ts) h) (λ e. h)

comparison_well : (c : Cmp) (p q : List Term) → IsWell p → IsWell q → AreWell (comparison c p q)
comparison_well cmps.Eq p q h k = ((first_well (difference p q) (difference_well p q h k), tt), tt)
comparison_well cmps.Ne p q h k = ((above_well p q h k, tt), ((above_well q p k h, tt), tt))
comparison_well cmps.Lt p q h k = ((above_well q p k h, tt), tt)
comparison_well cmps.Le p q h k = ((difference_well q p k h, tt), tt)
comparison_well cmps.Gt p q h k = ((above_well p q h k, tt), tt)
comparison_well cmps.Ge p q h k = ((difference_well p q h k, tt), tt)

each_well : (a : List PRow) (bs : List (List PRow)) → AreWellRows a → AreWell bs → AreWell (map (λ b. a ++ b) bs)
each_well a [] h k = tt
each_well a (b ∷ bs) h k = (all_join IsWellRow a b h k.0, each_well a bs h k.1)

pairs_well : (as_ bs : List (List PRow)) → AreWell as_ → AreWell bs → AreWell (pairs as_ bs)
pairs_well [] bs h k = tt
pairs_well (a ∷ rest) bs h k = all_join AreWellRows (map (λ b. a ++ b) bs) (pairs rest bs) (each_well a bs h.0 k) (pairs_well rest bs h.1 k)

-- ---- formulas

record SidesWell (s : Sides) : Type 0 where
  holds : AreWell s.holds
  fails : AreWell s.fails

abbrev FormWell : ZForm → Type 0
FormWell f = SidesWell (sides_of f)

abbrev KnownForm : Type 0
KnownForm = (f : ZForm) × FormWell f

abbrev forms_of : ZForm-F KnownForm → ZForm-F ZForm
forms_of y = map-ZForm KnownForm ZForm (λ p. p.0) y

sides_step : (y : ZForm-F KnownForm) → SidesWell (sides_level (map-ZForm ZForm Sides sides_of (forms_of y)))
sides_step ZForm-F.True = record { holds = (tt, tt); fails = tt }
sides_step ZForm-F.False = record { holds = tt; fails = (tt, tt) }
sides_step (ZForm-F.Atom c t u) = record {
  holds = comparison_well c (poly_of t) (poly_of u) (term_well t) (term_well u);
  fails = comparison_well (opposite c) (poly_of t) (poly_of u) (term_well t) (term_well u);
}
sides_step (ZForm-F.Not f) = record { holds = f.1.fails; fails = f.1.holds }
sides_step (ZForm-F.And f g) = record { holds = pairs_well _ _ f.1.holds g.1.holds; fails = all_join AreWellRows _ _ f.1.fails g.1.fails }
sides_step (ZForm-F.Or f g) = record { holds = all_join AreWellRows _ _ f.1.holds g.1.holds; fails = pairs_well _ _ f.1.fails g.1.fails }
sides_step (ZForm-F.Imp f g) = record { holds = all_join AreWellRows _ _ f.1.fails g.1.holds; fails = pairs_well _ _ f.1.holds g.1.fails }
sides_step (ZForm-F.Iff f g) = record {
  holds = all_join AreWellRows _ _ (pairs_well _ _ f.1.holds g.1.holds) (pairs_well _ _ f.1.fails g.1.fails);
  fails = all_join AreWellRows _ _ (pairs_well _ _ f.1.holds g.1.fails) (pairs_well _ _ f.1.fails g.1.holds);
}

form_well : (f : ZForm) → FormWell f
form_well = ind-ZForm FormWell (λ d y q. subst (λ (z : ZForm-F ZForm). FormWell (roll-ZForm z)) q (step y))
  where
    step : (y : ZForm-F KnownForm) → FormWell (roll-ZForm (forms_of y))
    step y = subst (λ (s : Sides). SidesWell s) (sym (fold-roll-ZForm Sides sides_level (forms_of y))) (sides_step y)

all_well : (hs : List ZForm) (last : List (List PRow)) → AreWell last → AreWell (all_alternatives hs last)
all_well [] last h = h
all_well (f ∷ hs) last h = pairs_well (sides_of f).holds (all_alternatives hs last) (form_well f).holds (all_well hs last h)

pub alternatives_well : (z : ZGoal) → AreWell (alternatives_of z)
alternatives_well z = all_well z.hyps (sides_of z.body).fails (form_well z.body).fails
