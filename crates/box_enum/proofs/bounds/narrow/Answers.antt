use Rattle.box_enum.proofs.BoundLaws.{set_span, unfound, searched_rising, searched_there}
use Rattle.box_enum.proofs.bounds.narrow.Goals as goal

pub returns-in-Ok : goal.returns-in-Ok
returns-in-Ok c f m =
    let s = searched_there c.args.vars.now c.args.reading.variable c.in-Ok.place c.requires.rising c.in-Ok.ensures.position in
    set_span f c.args.reading c.args.vars.now c.args.spans.now.items c.in-Ok.place c.index-span.result.now _ _ c.requires.rising s.0 s.1 c.index-span.ensures c.greater.ensures c.less.ensures m

pub returns-in_default : goal.returns-in_default
returns-in_default c f m =
    let s = searched_rising c.args.vars.now c.args.reading.variable c.in_default.field-0 c.requires.rising c.in_default.ensures.position in
    unfound f c.args.reading c.args.vars.now c.args.spans.now.items c.in_default.field-0 s.1 s.2 m
