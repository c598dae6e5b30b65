use Rattle.cert_text.proofs.RowLaws.{row_again}
use Rattle.cert_text.proofs.CertLaws.{cert_line_again}
use Rattle.cert_text.proofs.CheckLaws.{check_again}
use Rattle.cert_text.proofs.law.spelled_is_read.Goals as goal

pub returns-clause-row : goal.returns-clause-row
returns-clause-row c = row_again

pub returns-clause-cert : goal.returns-clause-cert
returns-clause-cert c = cert_line_again

pub returns-clause-check : goal.returns-clause-check
returns-clause-check c = check_again
