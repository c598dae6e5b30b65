use Rattle.std.proofs.Common.{sym, ◌∙◌, ap}
use Rattle.cert_check.specs.Checking.{bounded}
use Rattle.cert_check.proofs.CoverLaws.{node_of_product, own_covers}
use Rattle.cert_check.proofs.node.multiple_node.Goals as goal

pub returns-clause-covers : goal.returns-clause-covers
returns-clause-covers c = node_of_product _ _ _ _ _ _ _ _ _ _ c.of.ensures c.bounds.ensures (own_covers c.args.poly.now) c.requires (ap bounded (sym c.times.ensures) ∙ c.in_ok-bounds.ensures) (cc (c.in_ok-multiple.ensures, c.row-row.ensures)) (c.in_ok-new.ensures ∙ c.made.ensures)
