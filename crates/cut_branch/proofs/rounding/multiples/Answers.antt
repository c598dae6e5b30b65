use Rattle.cut_branch.proofs.SumLaws.{sum_found}
use Rattle.cut_branch.proofs.rounding.multiples.Goals as goal

pub returns : goal.returns
returns c =
    sum_found c.args.rows.now c.args.vars.now c.args.at.now c.args.first.0 c.args.second.0 c.index-rows-first.result c.index-rows-second.result _ _
    c.in_ok-sum.sum c.requires.linear c.have_bounds.ensures c.requires.first c.index-rows-first.is c.requires.second c.index-rows-second.is
    (c.in_ok-may_sum.ensures c.if-not-branch.false) c.in_ok-sum.ensures
