use Rattle.std.proofs.Common.{◌≤◌, sym, arith}
use Rattle.std.proofs.lemmas.Int.{ints}
use Rattle.simplex_core.specs.machine.Tableau.{content}
use Rattle.simplex_core.proofs.ContentLaws.{lowered_same}
use Rattle.simplex_core.proofs.numbers.lower.Goals as goal

pub returns-else-divisor-gt1 : goal.returns-else-divisor-gt1
returns-else-divisor-gt1 c =
    let h : content c.args.numbers.now ≤ 1 = omega (arith, ints, c.content-divisor.ensures.value, c.if-divisor-gt1.false) in
    sym (lowered_same c.args.numbers.now h)
