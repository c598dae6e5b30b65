use Rattle.std.specs.Prelude.{refl}
use Rattle.box_enum.proofs.BoundLaws.{searched_rising, searched_there}
use Rattle.box_enum.proofs.WallingLaws.{wall_witnessed, wall_missing}
use Rattle.box_enum.proofs.walling.witness.Goals as goal

pub returns-in-Ok : goal.returns-in-Ok
returns-in-Ok c =
    wall_witnessed c.args.reading.now c.args.op c.args.number c.in-Ok.place c.index-wall.result.now _ c.args.vars.now c.args.walls.now.items _ c.requires.each c.requires.rising
    (searched_there c.args.vars.now c.args.reading.now.variable c.in-Ok.place c.requires.rising c.in-Ok.ensures.position) c.index-wall.ensures c.witnessed.ensures refl

pub returns-in_default : goal.returns-in_default
returns-in_default c =
    wall_missing c.args.reading.now c.args.op c.args.number c.in_default.field-0 c.args.vars.now c.args.walls.now.items c.requires.each
    (searched_rising c.args.vars.now c.args.reading.now.variable c.in_default.field-0 c.requires.rising c.in_default.ensures.position)
