use Rattle.cut_branch.proofs.PickLaws.{own_row}
use Rattle.cut_branch.proofs.picking.false_row.Goals as goal

pub returns-in-Some : goal.returns-in-Some
returns-in-Some c = own_row c.args.rows.now c.args.vars.now c.args.at.now c.in-Some.number c.requires.linear c.have_bounds.ensures c.in-Some.ensures
