use Rattle.mm_poly.proofs.OrderLaws.{mono_total, mono_exact}
use Rattle.mm_poly.proofs.KeepLaws.{keep_order}
use Rattle.mm_poly.proofs.RepeatedLaws.{repeated_cmp}
use Rattle.mm_poly.proofs.laws.monomial_order.Goals as goal

pub returns-clause-total : goal.returns-clause-total
returns-clause-total c = mono_total

pub returns-clause-exact : goal.returns-clause-exact
returns-clause-exact c = mono_exact c.args.a.now c.args.b.now

pub returns-clause-product : goal.returns-clause-product
returns-clause-product c = keep_order c.args.c.now c.args.a.now c.args.b.now c.degree-3.ensures.monomial.order c.degree.ensures.monomial.order c.degree-2.ensures.monomial.order

pub returns-clause-repeated : goal.returns-clause-repeated
returns-clause-repeated c = λ e. repeated_cmp c.args.a.now c.args.b.now c.degree.ensures.monomial.order c.degree-2.ensures.monomial.order e
