use Rattle.cert_kit.proofs.MakerLaws.{ends_with, good_done, good_split, good_enum, good_after}
use Rattle.cert_kit.proofs.maker.closes_are_good.Goals as goal

pub returns-clause-ends : goal.returns-clause-ends
returns-clause-ends c = ends_with

pub returns-clause-done : goal.returns-clause-done
returns-clause-done c = good_done

pub returns-clause-split : goal.returns-clause-split
returns-clause-split c = good_split

pub returns-clause-enumeration : goal.returns-clause-enumeration
returns-clause-enumeration c = good_enum

pub returns-clause-after : goal.returns-clause-after
returns-clause-after c = good_after
