use Rattle.box_enum.proofs.BoundLaws.{place_found, place_missing, searched_rising, searched_there}
use Rattle.box_enum.proofs.waiting.place.Goals as goal

pub returns-in-Ok : goal.returns-in-Ok
returns-in-Ok c =
    let s = searched_there c.args.vars.now c.args.variable c.in-Ok.place c.requires.rising c.in-Ok.ensures.position in
    place_found c.args.vars.now c.args.variable c.in-Ok.place c.requires.rising s.0 s.1

pub returns-in-Err : goal.returns-in-Err
returns-in-Err c =
    let s = searched_rising c.args.vars.now c.args.variable c.in-Err.field-0 c.requires.rising c.in-Err.ensures.position in
    place_missing c.args.vars.now c.args.variable c.in-Err.field-0 s.1 s.2
