use Rattle.cert_text.proofs.LineLaws.{row_is_line, cert_is_line}
use Rattle.cert_text.proofs.law.each_is_a_line.Goals as goal

pub returns-clause-row : goal.returns-clause-row
returns-clause-row c = row_is_line

pub returns-clause-cert : goal.returns-clause-cert
returns-clause-cert c = cert_is_line
