use Rattle.std.proofs.Common.{List, ℕ, ◌-◌, drop, ap, sym, subst, arith}
use Rattle.mm_poly.specs.Mono.{mono_degree, IsMono}
use Rattle.cert_kit.specs.Variables.{place_of}
use Rattle.mm_poly.proofs.RenamingLaws.{exponent_at, degree_part, degree_mono}
use Rattle.box_enum.proofs.waiting.placed_mono.Goals as goal

pub power-requires : goal.power-requires
power-requires c = exponent_at c.factors-factors.result.now (c.loop-n.n - 1) (0, 0) (omega arith) (subst (λ fs. IsMono fs) (sym c.factors-factors.ensures.value) c.factors-factors.ensures.monomial.order)

pub times-requires : goal.times-requires
times-requires c = omega (
  arith,
  ap (λ (fs : List (ℕ × ℕ)). mono_degree fs) c.in_ok-factor.ensures,
  ap (λ (fs : List (ℕ × ℕ)). mono_degree fs) c.loop-n.invariant,
  degree_mono (place_of c.args.vars.now) (drop c.loop-n.n c.factors-factors.result.now),
  degree_part c.factors-factors.result.now (c.loop-n.n - 1) c.loop-n.n (0, 0) (omega arith) (omega arith),
  ap (λ (fs : List (ℕ × ℕ)). mono_degree fs) c.factors-factors.ensures.value,
  c.factors-factors.ensures.monomial.degree,
)
