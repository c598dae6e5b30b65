use Rattle.std.proofs.Common.{◌≡◌, drop, ap, sym, pos, arith}
use Rattle.std.proofs.lemmas.Int.{ints}
use Rattle.simplex_core.specs.machine.Tableau.{content}
use Rattle.simplex_core.proofs.ContentLaws.{content_one}
use Rattle.simplex_core.proofs.numbers.content.Goals as goal

pub returns-then-divisor-eq1-clause-value : goal.returns-then-divisor-eq1-clause-value
returns-then-divisor-eq1-clause-value c =
    let e : content (drop c.loop-i.i c.args.numbers.now) ≡ 1 = omega (arith, ints, c.loop-i.invariant.value, c.if-divisor-eq1.true) in
    ap pos (sym (content_one c.args.numbers.now c.loop-i.i e))
