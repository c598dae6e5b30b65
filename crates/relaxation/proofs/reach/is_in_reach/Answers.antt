use Rattle.relaxation.proofs.ReachLaws.{in_reach}
use Rattle.relaxation.proofs.reach.is_in_reach.Goals as goal

pub returns-else-is_small : goal.returns-else-is_small
returns-else-is_small c h =
    in_reach c.args.unknowns c.args.rows c.max.result c.args.turns c.is_small.result c.has_few_bases.result c.if-is_small.false c.is_small.ensures c.max.ensures c.has_few_bases.ensures.1 h
