use Rattle.std.proofs.Common.{subst}
use Rattle.fm_elim.specs.machine.Logging.{all_rows, Derives}
use Rattle.fm_elim.proofs.LoggingLaws.{given_origin}
use Rattle.fm_elim.proofs.tidying.origin_of.Goals as goal

pub returns-in-Given : goal.returns-in-Given
returns-in-Given c = λ log whole d e. given_origin log c.in-Given.row whole (subst (λ q. Derives (all_rows log) q whole) c.in-Given.is d) (e c.if-not-is_cut.true)
