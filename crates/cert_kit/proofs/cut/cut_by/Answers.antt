use Rattle.std.proofs.Common.{sym, ◌∙◌}
use Rattle.cert_kit.proofs.CutSameLaws.{inequality_cut, equality_cut, given_for}
use Rattle.cert_kit.proofs.cut.cut_by.Goals as goal

pub returns-in-Ge : goal.returns-in-Ge
returns-in-Ge c = given_for _ _ _ c.quotient.ensures (inequality_cut c.args.row.now c.requires.fits c.requires.positive c.in-Ge.is)

pub returns-then-is_constant_divided : goal.returns-then-is_constant_divided
returns-then-is_constant_divided c =
    given_for _ _ _ c.quotient-then-is_constant_divided.ensures
    (equality_cut c.args.row.now c.requires.fits c.requires.positive c.in-Eq.is (sym c.is_constant_divided.ensures ∙ c.if-is_constant_divided.true))
