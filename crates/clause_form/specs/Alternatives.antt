-- The alternatives of a formula and of its negation: lists of rows, of which some list holds exactly where the formula
-- does (the Micromega chapter of the Rocq manual: the negated goal in disjunctive normal form).
use Rattle.std.specs.Prelude.{◌+◌, ◌^◌, ◌<◌, ◌≤◌, pos, negsuc, int_lt, List, [], ◌∷◌, ◌++◌, map, if◌then◌else◌}
use Rattle.mm_poly.specs.declared.term.Term.{Term}
use Rattle.mm_poly.specs.Poly.{norm, spread, plus, constant_of}
use Rattle.cert_kit.specs.declared.row.Op.TheVariants as ops
use Rattle.cert_kit.specs.declared.row.PRow.{PRow}
use Rattle.goal_ast.specs.declared.formula.Cmp.{Cmp}
use Rattle.goal_ast.specs.declared.formula.Cmp.TheVariants as cmps
use Rattle.zify.specs.declared.form.ZForm.{ZForm}
use Rattle.zify.specs.declared.form.ZForm.TheOpen.{ZForm-F}
use Rattle.zify.specs.declared.form.ZForm.TheFolds.{fold-ZForm}
use Rattle.zify.specs.declared.goal.ZGoal.{ZGoal}
use Rattle.clause_form.specs.Polynomial.{opposite_of, difference, poly_of}

-- p >= q
abbrev pub at_least : List Term → List Term → PRow
at_least p q = record { poly = difference p q; op = ops.Ge }

-- p > q, which over the integers is p - q - 1 >= 0
abbrev pub above : List Term → List Term → PRow
above p q = record { poly = plus (difference p q) (constant_of (negsuc 0)); op = ops.Ge }

-- multiplied by -1 where the first coefficient is negative
abbrev pub first_positive : List Term → List Term
first_positive [] = []
first_positive (t ∷ ts) = if int_lt t.coeff (pos 0) then opposite_of (t ∷ ts) else (t ∷ ts)

-- p = q
abbrev pub equal : List Term → List Term → PRow
equal p q = record { poly = first_positive (difference p q); op = ops.Eq }

abbrev pub alone : PRow → List PRow
alone r = r ∷ []

-- the alternatives of a comparison
abbrev pub comparison : Cmp → List Term → List Term → List (List PRow)
comparison cmps.Eq p q = alone (equal p q) ∷ []
comparison cmps.Ne p q = alone (above p q) ∷ alone (above q p) ∷ []
comparison cmps.Lt p q = alone (above q p) ∷ []
comparison cmps.Le p q = alone (at_least q p) ∷ []
comparison cmps.Gt p q = alone (above p q) ∷ []
comparison cmps.Ge p q = alone (at_least p q) ∷ []

abbrev pub opposite : Cmp → Cmp
opposite cmps.Eq = cmps.Ne
opposite cmps.Ne = cmps.Eq
opposite cmps.Lt = cmps.Ge
opposite cmps.Le = cmps.Gt
opposite cmps.Gt = cmps.Le
opposite cmps.Ge = cmps.Lt

-- each of the first with each of the second
abbrev pub pairs : List (List PRow) → List (List PRow) → List (List PRow)
pairs [] bs = []
pairs (a ∷ rest) bs = map (λ b. a ++ b) bs ++ pairs rest bs

-- the alternatives of a formula and those of its negation
pub record Sides : Type 0 where
  pub holds : List (List PRow)
  pub fails : List (List PRow)

abbrev pub sides_level : ZForm-F Sides → Sides
sides_level ZForm-F.True = record { holds = [] ∷ []; fails = [] }
sides_level ZForm-F.False = record { holds = []; fails = [] ∷ [] }
sides_level (ZForm-F.Atom c t u) = record { holds = comparison c (poly_of t) (poly_of u); fails = comparison (opposite c) (poly_of t) (poly_of u) }
sides_level (ZForm-F.Not f) = record { holds = f.fails; fails = f.holds }
sides_level (ZForm-F.And f g) = record { holds = pairs f.holds g.holds; fails = f.fails ++ g.fails }
sides_level (ZForm-F.Or f g) = record { holds = f.holds ++ g.holds; fails = pairs f.fails g.fails }
sides_level (ZForm-F.Imp f g) = record { holds = f.fails ++ g.holds; fails = pairs f.holds g.fails }
sides_level (ZForm-F.Iff f g) = record {
  holds = pairs f.holds g.holds ++ pairs f.fails g.fails;
  fails = pairs f.holds g.fails ++ pairs f.fails g.holds;
}

abbrev pub sides_of : ZForm → Sides
sides_of = fold-ZForm Sides sides_level

-- those of all hypotheses, in order, and of what comes last
abbrev pub all_alternatives : List ZForm → List (List PRow) → List (List PRow)
all_alternatives [] last = last
all_alternatives (h ∷ hs) last = pairs (sides_of h).holds (all_alternatives hs last)

-- the hypotheses and not the body
abbrev pub alternatives_of : ZGoal → List (List PRow)
alternatives_of z = all_alternatives z.hyps (sides_of z.body).fails

-- what leaves room for the rows of a comparison
pub record ComparisonHasRoom (p q : List Term) : Type 0 where
  pub norm : norm p + norm q + 1 < 2 ^ 126
  pub spread : spread p + spread q + 1 ≤ 65536
