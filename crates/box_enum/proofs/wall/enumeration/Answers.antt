use Rattle.std.proofs.Common.{◌∙◌}
use Rattle.box_enum.proofs.WallLaws.{good_enumeration, shallow_enumeration}
use Rattle.box_enum.proofs.wall.enumeration.Goals as goal

pub returns-clause-good : goal.returns-clause-good
returns-clause-good c = good_enumeration c.args.wall.now _ _ _ _ c.new.ensures (c.in_ok-new.ensures ∙ c.in_ok-ends.ensures) c.from_vec.ensures c.requires.counted

pub returns-clause-shallow : goal.returns-clause-shallow
returns-clause-shallow c = shallow_enumeration c.args.wall.now _ _ _ _ c.new.ensures (c.in_ok-new.ensures ∙ c.in_ok-ends.ensures) c.from_vec.ensures
