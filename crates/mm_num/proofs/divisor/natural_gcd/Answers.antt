use Rattle.std.proofs.Common.{ℕ, sym, subst}
use Rattle.std.specs.Int.{IsGcd}
use Rattle.mm_num.proofs.divisor.natural_gcd.Goals as goal

pub returns-then-b-clause-divisor : goal.returns-then-b-clause-divisor
returns-then-b-clause-divisor c = subst (λ (g : ℕ). IsGcd c.args.a c.args.b g) (sym c.from.ensures) c.narrow_gcd.ensures.divisor
