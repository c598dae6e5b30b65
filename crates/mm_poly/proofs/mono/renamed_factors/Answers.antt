use Rattle.std.proofs.Common.{List, ℕ, ◌-◌, drop, ap, arith}
use Rattle.mm_poly.specs.Mono.{mono_degree}
use Rattle.mm_poly.specs.Renaming.{by_table}
use Rattle.mm_poly.proofs.RenamingLaws.{place_of, exponent_at, degree_part, degree_mono}
use Rattle.mm_poly.proofs.mono.renamed_factors.Goals as goal

pub bounds-table-variable : goal.bounds-table-variable
bounds-table-variable c = place_of _ c.args.factors.now (c.loop-n.n - 1) (0, 0) (omega arith) c.requires.places

pub power-requires : goal.power-requires
power-requires c = exponent_at c.args.factors.now (c.loop-n.n - 1) (0, 0) (omega arith) c.requires.monomial.order

pub times-requires : goal.times-requires
times-requires c = omega (
  arith,
  ap (λ (fs : List (ℕ × ℕ)). mono_degree fs) c.in_ok-factor.ensures,
  ap (λ (fs : List (ℕ × ℕ)). mono_degree fs) c.loop-n.invariant,
  degree_mono (by_table c.args.table.now) (drop c.loop-n.n c.args.factors.now),
  degree_part c.args.factors.now (c.loop-n.n - 1) c.loop-n.n (0, 0) (omega arith) (omega arith),
  c.requires.monomial.degree,
)
