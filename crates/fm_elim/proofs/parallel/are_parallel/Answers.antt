use Rattle.std.proofs.Common.{◌≡◌, true, arith}
use Rattle.std.proofs.lemmas.Grind.{common_steps}
use Rattle.fm_elim.specs.Tidy.{is_inequality}
use Rattle.fm_elim.proofs.ParallelLaws.{both_are}
use Rattle.fm_elim.proofs.parallel.are_parallel.Goals as goal

pub returns-then-is_inequality-2 : goal.returns-then-is_inequality-2
returns-then-is_inequality-2 c =
    let a : is_inequality c.args.first.now.op ≡ true = grind (arith, common_steps) in
    let b : is_inequality c.args.second.now.op ≡ true = grind (arith, common_steps) in
    both_are c.args.first.now c.args.second.now c.has_unknowns_of.result a b c.has_unknowns_of.ensures
