use Rattle.cert_kit.proofs.NumberingLaws.{appended, renumbered_same}
use Rattle.cert_kit.proofs.maker.rows_may_be_renumbered.Goals as goal

pub returns-clause-appended : goal.returns-clause-appended
returns-clause-appended c = appended

pub returns-clause-renumbered : goal.returns-clause-renumbered
returns-clause-renumbered c = renumbered_same
