use Rattle.std.proofs.Common.{rules, of_calls}
use Rattle.std.proofs.lemmas.Fn.{always_returns_same}
use Rattle.mm_poly.proofs.InsertionLaws.{comes_before, parted, point_is}
use Rattle.mm_poly.proofs.insert.place_of.Goals as goal

pub returns-clause-place : goal.returns-clause-place
returns-clause-place c =
    let m = c.args.mono.now in
    let ts = c.args.terms.now in
    point_is m ts c.partition_point.result c.partition_point.ensures.bound
    (c.partition_point.ensures.partitioned (comes_before m) (always_returns_same _ _ _ (λ a r f k. search (rules, of_calls))) (parted m ts c.requires))
