use Rattle.cert_kit.proofs.SolvingLaws.{row_tested, rows_tested}
use Rattle.cert_kit.proofs.law.solutions.Goals as goal

pub returns-clause-row : goal.returns-clause-row
returns-clause-row c = row_tested

pub returns-clause-rows : goal.returns-clause-rows
returns-clause-rows c = rows_tested
