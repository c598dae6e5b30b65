use Rattle.cert_kit.proofs.FaultLaws.{no_fault_good, good_no_fault, rule_not_accepted, bound_not_within}
use Rattle.cert_kit.proofs.law.faultless.Goals as goal

pub returns-clause-none : goal.returns-clause-none
returns-clause-none c = λ d rows. (no_fault_good d rows, good_no_fault d rows)

pub returns-clause-rule : goal.returns-clause-rule
returns-clause-rule c = rule_not_accepted

pub returns-clause-bound : goal.returns-clause-bound
returns-clause-bound c = bound_not_within
