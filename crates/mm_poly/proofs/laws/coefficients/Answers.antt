use Rattle.mm_poly.proofs.CoeffLaws.{coeff_plus, unique}
use Rattle.mm_poly.proofs.FiniteLaws.{coeff_scaled, coeff_times}
use Rattle.mm_poly.proofs.laws.coefficients.Goals as goal

pub returns-clause-sum : goal.returns-clause-sum
returns-clause-sum c = λ m. coeff_plus c.args.p.now c.args.q.now m c.spread.ensures.fits.order c.spread-2.ensures.fits.order

pub returns-clause-multiple : goal.returns-clause-multiple
returns-clause-multiple c = λ k m. coeff_scaled k c.args.p.now m c.spread.ensures.fits.order

pub returns-clause-product : goal.returns-clause-product
returns-clause-product c = λ m. coeff_times c.args.p.now c.args.q.now m c.spread.ensures.fits.order c.spread-2.ensures.fits.order

pub returns-clause-same : goal.returns-clause-same
returns-clause-same c = λ h. unique c.args.p.now c.args.q.now c.spread.ensures.fits.order c.spread-2.ensures.fits.order h
