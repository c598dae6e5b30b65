use Rattle.mm_poly.proofs.ExponentLaws.{exponent_times, mono_unique}
use Rattle.mm_poly.proofs.laws.exponents.Goals as goal

pub returns-clause-product : goal.returns-clause-product
returns-clause-product c = λ v. exponent_times c.args.a.now c.args.b.now v c.degree.ensures.monomial.order c.degree-2.ensures.monomial.order

pub returns-clause-same : goal.returns-clause-same
returns-clause-same c = λ h. mono_unique c.args.a.now c.args.b.now c.degree.ensures.monomial.order c.degree-2.ensures.monomial.order h
