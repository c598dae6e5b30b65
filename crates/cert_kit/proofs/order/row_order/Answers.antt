use Rattle.cert_kit.proofs.RowOrderLaws.{row_total, row_exact}
use Rattle.cert_kit.proofs.order.row_order.Goals as goal

pub returns-clause-total : goal.returns-clause-total
returns-clause-total c = row_total

pub returns-clause-exact : goal.returns-clause-exact
returns-clause-exact c = row_exact
