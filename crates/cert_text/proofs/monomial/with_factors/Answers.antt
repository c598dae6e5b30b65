use Rattle.cert_text.proofs.LimitLaws.{from_factors_gives}
use Rattle.cert_text.proofs.monomial.with_factors.Goals as goal

pub returns : goal.returns
returns c = from_factors_gives c.args.factors.items c.from_factors.result c.ok_or.result c.from_factors.ensures.some c.from_factors.ensures.value c.ok_or.ensures.value
