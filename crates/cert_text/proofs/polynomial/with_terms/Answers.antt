use Rattle.cert_text.proofs.LimitLaws.{from_terms_gives}
use Rattle.cert_text.proofs.polynomial.with_terms.Goals as goal

pub returns : goal.returns
returns c = from_terms_gives c.args.terms.items c.from_terms.result c.ok_or.result c.from_terms.ensures.some c.from_terms.ensures.value c.ok_or.ensures.value
