use Rattle.std.proofs.Common.{◌+◌, ◌*◌}
use Rattle.cert_text.proofs.expression.+expression.Given as goal

abbrev pub decreases-expression : goal.decreases-expression
decreases-expression l = 3 * l.depth

abbrev pub decreases-pair : goal.decreases-pair
decreases-pair l = 3 * l.depth + 1

abbrev pub decreases-multiple : goal.decreases-multiple
decreases-multiple l = 3 * l.depth + 1
