use Rattle.mm_poly.proofs.ValueLaws.{value_plus, value_scaled, value_times, value_constant, value_variable}
use Rattle.mm_poly.proofs.laws.values.Goals as goal

pub returns-clause-sum : goal.returns-clause-sum
returns-clause-sum c = λ x. value_plus x c.args.p.now c.args.q.now

pub returns-clause-multiple : goal.returns-clause-multiple
returns-clause-multiple c = λ x k. value_scaled x k c.args.p.now

pub returns-clause-product : goal.returns-clause-product
returns-clause-product c = λ x. value_times x c.args.p.now c.args.q.now

pub returns-clause-constant : goal.returns-clause-constant
returns-clause-constant c = λ x k. value_constant x k

pub returns-clause-variable : goal.returns-clause-variable
returns-clause-variable c = λ x v. value_variable x v
