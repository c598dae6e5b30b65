use Rattle.std.proofs.Common.{arith}
use Rattle.std.proofs.lemmas.Nat.Gcd.{IsGcd-from_zero, IsGcd-from_mod}
use Rattle.mm_num.proofs.divisor.wide_gcd.Goals as goal

pub loop-b-preserved : goal.loop-b-preserved
loop-b-preserved c = record {
  divisor = λ g h. c.loop-b.invariant.divisor g (IsGcd-from_mod c.loop-b.a c.loop-b.b g h);
  within = omega arith;
}

pub returns-clause-divisor : goal.returns-clause-divisor
returns-clause-divisor c = c.loop-b.invariant.divisor c.loop-b.a (IsGcd-from_zero c.loop-b.a c.loop-b.b (omega arith))
