-- The numbers of alternatives, each stopped at 2^64 - 1.
use Rattle.std.specs.Prelude.{ℕ, ◌+◌, ◌*◌, ◌-◌, ◌^◌, min, List, [], ◌∷◌, length}
use Rattle.goal_ast.specs.declared.formula.Cmp.{Cmp}
use Rattle.goal_ast.specs.declared.formula.Cmp.TheVariants as cmps
use Rattle.zify.specs.declared.form.ZForm.{ZForm}
use Rattle.zify.specs.declared.form.ZForm.TheOpen.{ZForm-F}
use Rattle.zify.specs.declared.form.ZForm.TheFolds.{fold-ZForm}
use Rattle.clause_form.specs.declared.tally.Tally.{Tally}
use Rattle.clause_form.specs.Alternatives.{sides_of}

abbrev pub sum : ℕ → ℕ → ℕ
sum a b = min (a + b) (2 ^ 64 - 1)

abbrev pub product : ℕ → ℕ → ℕ
product a b = min (a * b) (2 ^ 64 - 1)

abbrev pub negated : Tally → Tally
negated f = record { holds = f.fails; fails = f.holds }

abbrev pub of_comparison : Cmp → Tally
of_comparison cmps.Eq = record { holds = 1; fails = 2 }
of_comparison cmps.Ne = record { holds = 2; fails = 1 }
of_comparison cmps.Lt = record { holds = 1; fails = 1 }
of_comparison cmps.Le = record { holds = 1; fails = 1 }
of_comparison cmps.Gt = record { holds = 1; fails = 1 }
of_comparison cmps.Ge = record { holds = 1; fails = 1 }

abbrev pub of_both : Tally → Tally → Tally
of_both f g = record { holds = product f.holds g.holds; fails = sum f.fails g.fails }

abbrev pub of_same : Tally → Tally → Tally
of_same f g = record {
  holds = sum (product f.holds g.holds) (product f.fails g.fails);
  fails = sum (product f.holds g.fails) (product f.fails g.holds);
}

abbrev pub tally_level : ZForm-F Tally → Tally
tally_level ZForm-F.True = record { holds = 1; fails = 0 }
tally_level ZForm-F.False = record { holds = 0; fails = 1 }
tally_level (ZForm-F.Atom c t u) = of_comparison c
tally_level (ZForm-F.Not f) = negated f
tally_level (ZForm-F.And f g) = of_both f g
tally_level (ZForm-F.Or f g) = negated (of_both (negated f) (negated g))
tally_level (ZForm-F.Imp f g) = negated (of_both f (negated g))
tally_level (ZForm-F.Iff f g) = of_same f g

abbrev pub tally_of : ZForm → Tally
tally_of = fold-ZForm Tally tally_level

-- how many alternatives hypotheses have together
abbrev pub joint_number : List ZForm → ℕ
joint_number [] = 1
joint_number (h ∷ hs) = length (sides_of h).holds * joint_number hs
