use Rattle.mm_poly.proofs.LinearLaws.{at_point, linear_plus, linear_scaled, linear_set}
use Rattle.mm_poly.proofs.laws.linear_values.Goals as goal

pub returns-clause-point : goal.returns-clause-point
returns-clause-point c = λ x. at_point x c.args.p.now

pub returns-clause-sum : goal.returns-clause-sum
returns-clause-sum c = λ w. linear_plus w c.args.p.now c.args.q.now

pub returns-clause-multiple : goal.returns-clause-multiple
returns-clause-multiple c = λ w k. linear_scaled w k c.args.p.now

pub returns-clause-changed : goal.returns-clause-changed
returns-clause-changed c = λ w u z. linear_set w u z c.args.p.now c.spread.ensures.fits.order
