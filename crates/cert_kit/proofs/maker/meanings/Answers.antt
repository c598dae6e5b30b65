use Rattle.cert_kit.proofs.FormLaws.{hyp_means, square_means, mulp_means, mul_means, add_means, const_means, zero_means}
use Rattle.cert_kit.proofs.maker.meanings.Goals as goal

pub returns-clause-hyp : goal.returns-clause-hyp
returns-clause-hyp c = hyp_means

pub returns-clause-square : goal.returns-clause-square
returns-clause-square c = square_means

pub returns-clause-mulp : goal.returns-clause-mulp
returns-clause-mulp c = mulp_means

pub returns-clause-mul : goal.returns-clause-mul
returns-clause-mul c = mul_means

pub returns-clause-add : goal.returns-clause-add
returns-clause-add c = add_means

pub returns-clause-constant : goal.returns-clause-constant
returns-clause-constant c = const_means

pub returns-clause-zero : goal.returns-clause-zero
returns-clause-zero c = zero_means
