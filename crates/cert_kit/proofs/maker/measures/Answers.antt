use Rattle.cert_kit.proofs.FormLaws.{hyp_measures, square_measures, mulp_measures, mul_measures, add_measures, const_measures, zero_measures}
use Rattle.cert_kit.proofs.maker.measures.Goals as goal

pub returns-clause-hyp : goal.returns-clause-hyp
returns-clause-hyp c = hyp_measures

pub returns-clause-square : goal.returns-clause-square
returns-clause-square c = square_measures

pub returns-clause-mulp : goal.returns-clause-mulp
returns-clause-mulp c = mulp_measures

pub returns-clause-mul : goal.returns-clause-mul
returns-clause-mul c = mul_measures

pub returns-clause-add : goal.returns-clause-add
returns-clause-add c = add_measures

pub returns-clause-constant : goal.returns-clause-constant
returns-clause-constant c = const_measures

pub returns-clause-zero : goal.returns-clause-zero
returns-clause-zero c = zero_measures
