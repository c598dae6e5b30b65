use Rattle.std.proofs.Common.{sym, ◌∙◌, ap}
use Rattle.cert_check.specs.Checking.{bounded}
use Rattle.cert_check.proofs.CoverLaws.{node_of_sum}
use Rattle.cert_check.proofs.node.sum_node.Goals as goal

pub returns-clause-covers : goal.returns-clause-covers
returns-clause-covers c = node_of_sum _ _ _ _ _ _ _ _ _ _ c.bounds.ensures c.bounds-2.ensures c.requires.first c.requires.second (ap bounded (sym c.plus.ensures) ∙ c.in_ok-bounds.ensures) c.in_ok-poly.ensures (c.in_ok-new.ensures ∙ c.made.ensures)
