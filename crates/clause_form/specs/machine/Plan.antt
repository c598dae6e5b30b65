-- Plans: what their alternatives are, and whether the numbers in them are right.
use Rattle.std.specs.Prelude.{ℕ, ◌-◌, ◌^◌, ◌==◌, min, List, [], ◌∷◌, ◌++◌, map, length, Bool, true, false, ◌&&◌}
use Rattle.clause_form.specs.declared.tally.Tally.{Tally}
use Rattle.clause_form.specs.declared.plan.Plan.{Plan}
use Rattle.clause_form.specs.declared.plan.Counted.{Counted}
use Rattle.clause_form.specs.declared.plan.Part.{Part}
use Rattle.goal_ast.specs.declared.formula.Cmp.{Cmp}
use Rattle.zify.specs.declared.term.ZTerm.{ZTerm}
use Rattle.zify.specs.declared.form.ZForm.{ZForm}
use Rattle.zify.specs.declared.goal.ZGoal.{ZGoal}
use Rattle.zify.specs.declared.form.ZForm.TheOpen.{ZForm-F}
use Rattle.zify.specs.declared.form.ZForm.TheFolds.{fold-ZForm}
use Rattle.clause_form.specs.Polynomial.{poly_of}
use Rattle.clause_form.specs.machine.Tally.{product, negated, of_comparison, of_both, of_same}
use Rattle.clause_form.specs.declared.plan.Plan.TheOpen.{Plan-F}
use Rattle.clause_form.specs.declared.plan.Plan.TheFolds.{fold-Plan}
use Rattle.clause_form.specs.Alternatives.{Sides, alone, comparison, opposite, pairs}

abbrev pub constant_sides : Bool → Sides
constant_sides true = record { holds = [] ∷ []; fails = [] }
constant_sides false = record { holds = []; fails = [] ∷ [] }

abbrev pub is_count : Tally → Sides → Bool
is_count t s = (t.holds == min (length s.holds) (2 ^ 64 - 1)) && (t.fails == min (length s.fails) (2 ^ 64 - 1))

pub record Planned : Type 0 where
  pub sides : Sides
  pub counted : Bool

abbrev pub negated_plan : Planned → Planned
negated_plan p = record { sides = record { holds = p.sides.fails; fails = p.sides.holds }; counted = p.counted }

abbrev pub are_counted : Tally → Tally → Planned → Planned → Bool
are_counted t u p q = (is_count t p.sides && is_count u q.sides) && (p.counted && q.counted)

abbrev pub both_planned : Tally → Tally → Planned → Planned → Planned
both_planned t u p q = record {
  sides = record { holds = pairs p.sides.holds q.sides.holds; fails = p.sides.fails ++ q.sides.fails };
  counted = are_counted t u p q;
}

abbrev pub same_planned : Tally → Tally → Planned → Planned → Planned
same_planned t u p q = record {
  sides = record {
    holds = pairs p.sides.holds q.sides.holds ++ pairs p.sides.fails q.sides.fails;
    fails = pairs p.sides.holds q.sides.fails ++ pairs p.sides.fails q.sides.holds;
  };
  counted = are_counted t u p q;
}

abbrev pub planned_level : Plan-F Planned → Planned
planned_level (Plan-F.Constant b) = record { sides = constant_sides b; counted = true }
planned_level (Plan-F.Rows h f) = record { sides = record { holds = map alone h; fails = map alone f }; counted = true }
planned_level (Plan-F.Not p) = negated_plan p
planned_level (Plan-F.Both t u p q) = both_planned t u p q
planned_level (Plan-F.Same t u p q) = same_planned t u p q

abbrev pub planned : Plan → Planned
planned = fold-Plan Planned planned_level

-- right numbers, and these alternatives
abbrev pub right_plan : Sides → Planned
right_plan s = record { sides = s; counted = true }

-- a plan as it is made of a formula, with the numbers of its alternatives
pub record Made : Type 0 where
  pub tally : Tally
  pub plan : Planned

abbrev pub made_by : Counted → Made
made_by c = record { tally = c.tally; plan = planned c.plan }

abbrev pub made_constant : Bool → Made
made_constant true = record { tally = record { holds = 1; fails = 0 }; plan = right_plan (constant_sides true) }
made_constant false = record { tally = record { holds = 0; fails = 1 }; plan = right_plan (constant_sides false) }

abbrev pub made_atom : Cmp → ZTerm → ZTerm → Made
made_atom c t u = record {
  tally = of_comparison c;
  plan = right_plan (record { holds = comparison c (poly_of t) (poly_of u); fails = comparison (opposite c) (poly_of t) (poly_of u) });
}

abbrev pub made_not : Made → Made
made_not f = record { tally = negated f.tally; plan = negated_plan f.plan }

abbrev pub made_both : Made → Made → Made
made_both f g = record { tally = of_both f.tally g.tally; plan = both_planned f.tally g.tally f.plan g.plan }

abbrev pub made_same : Made → Made → Made
made_same f g = record { tally = of_same f.tally g.tally; plan = same_planned f.tally g.tally f.plan g.plan }

abbrev pub made_level : ZForm-F Made → Made
made_level ZForm-F.True = made_constant true
made_level ZForm-F.False = made_constant false
made_level (ZForm-F.Atom c t u) = made_atom c t u
made_level (ZForm-F.Not f) = made_not f
made_level (ZForm-F.And f g) = made_both f g
made_level (ZForm-F.Or f g) = made_not (made_both (made_not f) (made_not g))
made_level (ZForm-F.Imp f g) = made_not (made_both f (made_not g))
made_level (ZForm-F.Iff f g) = made_same f g

abbrev pub made : ZForm → Made
made = fold-ZForm Made made_level

-- a part of a goal, with how many alternatives all that comes after it has
pub record MadePart : Type 0 where
  pub plan : Planned
  pub others : ℕ

abbrev pub made_part : Part → MadePart
made_part p = record { plan = planned p.plan; others = p.others }

-- how many alternatives hypotheses and a last part have together
abbrev pub joint_others : List ZForm → Made → ℕ
joint_others [] last = last.tally.holds
joint_others (h ∷ hs) last = product (joint_others hs last) (made h).tally.holds

-- hypotheses and a last part
abbrev pub made_parts : List ZForm → Made → List MadePart
made_parts [] last = record { plan = last.plan; others = 1 } ∷ []
made_parts (h ∷ hs) last = record { plan = (made h).plan; others = joint_others hs last } ∷ made_parts hs last

-- the hypotheses and not the body
abbrev pub made_goal : ZGoal → List MadePart
made_goal z = made_parts z.hyps (made_not (made z.body))
