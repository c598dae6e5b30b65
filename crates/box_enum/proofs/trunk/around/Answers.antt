use Rattle.std.proofs.Common.{◌+◌, length, arith}
use Rattle.mm_num.proofs.ListLaws.{all_split}
use Rattle.box_enum.specs.machine.Places.{StandsWall}
use Rattle.box_enum.proofs.TrunkLaws.{shallow_at}
use Rattle.box_enum.proofs.trunk.around.Goals as goal

pub returns-clause-good : goal.returns-clause-good
returns-clause-good c = c.in_ok-cert.ensures.good c.args.rows.now (all_split (StandsWall c.args.rows.now) c.args.single.now c.args.free.now c.requires.walled.bounds).0 c.in_ok-inner.ensures.good

pub returns-clause-shallow : goal.returns-clause-shallow
returns-clause-shallow c = shallow_at _ _ c.in_ok-cert.cert (omega arith) (c.in_ok-cert.ensures.shallow (length c.args.free.now + 2) (omega arith) c.in_ok-inner.ensures.shallow)
