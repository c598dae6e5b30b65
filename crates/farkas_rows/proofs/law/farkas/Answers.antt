use Rattle.farkas_rows.proofs.FarkasLaws.{no_rational, no_integer, no_solution}
use Rattle.farkas_rows.proofs.law.farkas.Goals as goal

pub returns-clause-rationals : goal.returns-clause-rationals
returns-clause-rationals c = no_rational

pub returns-clause-integers : goal.returns-clause-integers
returns-clause-integers c = no_solution

pub returns-clause-whole : goal.returns-clause-whole
returns-clause-whole c = no_integer
