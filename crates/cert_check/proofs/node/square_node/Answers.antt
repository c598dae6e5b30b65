use Rattle.std.proofs.Common.{sym, ◌∙◌, ap}
use Rattle.cert_check.specs.Checking.{bounded}
use Rattle.cert_check.proofs.CoverLaws.{node_of_product, own_covers}
use Rattle.cert_check.proofs.node.square_node.Goals as goal

pub returns-clause-covers : goal.returns-clause-covers
returns-clause-covers c = node_of_product _ _ _ _ _ _ _ _ _ _ c.of-own.ensures c.of-own.ensures (own_covers c.args.poly.now) (own_covers c.args.poly.now) (ap bounded (sym c.times.ensures) ∙ c.in_ok-bounds.ensures) c.in_ok-square.ensures (c.in_ok-new.ensures ∙ c.made.ensures)
