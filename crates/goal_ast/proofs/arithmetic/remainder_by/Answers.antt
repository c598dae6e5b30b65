use Rattle.std.proofs.Common.{◌<ℤ◌, pos, arith}
use Rattle.std.proofs.lemmas.Grind.{common_steps}
use Rattle.std.proofs.lemmas.Int.{ints}
use Rattle.goal_ast.proofs.DivisionLaws.{remainder_down}
use Rattle.goal_ast.proofs.arithmetic.remainder_by.Goals as goal

pub returns-else-k-gt0 : goal.returns-else-k-gt0
returns-else-k-gt0 c =
    let other = c.requires.divides in
    let below : c.args.k.now <ℤ pos 0 = grind (arith, ints, common_steps) in
    let d = remainder_down c.args.a c.args.k.now below in
    grind (arith, ints, common_steps)
