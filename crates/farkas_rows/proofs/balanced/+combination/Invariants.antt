use Rattle.std.proofs.Common.{length}
use Rattle.farkas_rows.proofs.balanced.+combination.Given as goal

abbrev pub decreases-combination : goal.decreases-combination
decreases-combination l = length l.rows.now
