use Rattle.cert_kit.proofs.MakerLaws.{makes_none, makes_rat, makes_cut, makes_both}
use Rattle.cert_kit.proofs.maker.steps_make_rows.Goals as goal

pub returns-clause-none : goal.returns-clause-none
returns-clause-none c = makes_none

pub returns-clause-rat : goal.returns-clause-rat
returns-clause-rat c = makes_rat

pub returns-clause-cut : goal.returns-clause-cut
returns-clause-cut c = makes_cut

pub returns-clause-both : goal.returns-clause-both
returns-clause-both c = makes_both
