use Rattle.std.proofs.Common.{◌<◌, arith}
use Rattle.std.proofs.lemmas.Bool.Decides.{nat_tests}
use Rattle.simplex_core.proofs.ChoiceLaws.{no_equality}
use Rattle.simplex_core.proofs.choice.is_equality.Goals as goal

pub returns-else-variable-unknowns : goal.returns-else-variable-unknowns
returns-else-variable-unknowns c =
    let h : c.args.variable < c.args.unknowns = omega arith in
    let e = no_equality c.args.unknowns c.args.rows.now c.args.variable h in
    grind (arith, nat_tests, e)
