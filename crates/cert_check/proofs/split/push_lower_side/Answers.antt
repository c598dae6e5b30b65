use Rattle.cert_check.proofs.BelowLaws.{below_room}
use Rattle.cert_check.proofs.split.push_lower_side.Goals as goal

pub into_sum-requires : goal.into_sum-requires
into_sum-requires c = below_room c.args.poly.now _ _ c.requires c.in_ok-negated.ensures c.in_ok-constant.ensures
