use Rattle.std.specs.Prelude.{refl}
use Rattle.box_enum.proofs.ReadingLaws.{alone, other_term}
use Rattle.box_enum.proofs.reading.lone.Goals as goal

pub returns-in-None : goal.returns-in-None
returns-in-None c = other_term c.args.poly.now c.unknowns-unknowns.result.now c.index-unknowns-0.result c.unknowns-unknowns.ensures (alone _ _ c.if-unknowns-ne1.false c.index-unknowns-0.is) (c.in-None.ensures.none refl)
