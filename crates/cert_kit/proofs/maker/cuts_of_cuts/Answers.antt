use Rattle.cert_kit.proofs.CutTwiceLaws.{cut_twice, norm_cut, spread_cut, degree_cut}
use Rattle.cert_kit.proofs.maker.cuts_of_cuts.Goals as goal

pub returns-clause-same : goal.returns-clause-same
returns-clause-same c = cut_twice

pub returns-clause-norm : goal.returns-clause-norm
returns-clause-norm c = norm_cut

pub returns-clause-spread : goal.returns-clause-spread
returns-clause-spread c = spread_cut

pub returns-clause-degree : goal.returns-clause-degree
returns-clause-degree c = degree_cut
