use Rattle.std.proofs.Common.{drop, arith}
use Rattle.std.proofs.lemmas.List.{drop_all}
use Rattle.std.proofs.lemmas.List.Filters.{dedup_is}
use Rattle.cert_kit.proofs.OrderedLaws.{variables_once}
use Rattle.cert_kit.proofs.occurring.variables.Goals as goal

pub returns : goal.returns
returns c = variables_once c.args.rows.now (drop c.loop-row.row-index c.args.rows.now) _ _ _ (drop_all c.loop-row.row-index c.args.rows.now (omega arith)) c.loop-row.invariant
    c.sort_unstable.ensures.permutation c.sort_unstable.ensures.sorted (dedup_is _ _ _ c.dedup.ensures.filtered)
