use Rattle.std.proofs.Common.{◌≡◌, ◌∙◌, to_z, of_z, arith}
use Rattle.std.proofs.lemmas.Int.{ints}
use Rattle.std.specs.Int.{w128}
use Rattle.cut_branch.proofs.PlaceLaws.{weight_found}
use Rattle.cut_branch.proofs.scaled.weight_over.Goals as goal

pub returns-in-Ok : goal.returns-in-Ok
returns-in-Ok c =
    let w : to_z w128 (of_z w128 c.numerator_at.result) ≡ c.numerator_at.result = omega (arith, ints) in
    w ∙ c.numerator_at.ensures
    ∙ weight_found c.args.vars.now c.args.at.now.den c.args.at.now.nums.items c.args.mono.now
    c.factor-factor.result c.in-Ok.place c.requires.rising c.in-Ok.ensures.position c.factor-factor.ensures
