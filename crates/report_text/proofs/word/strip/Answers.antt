use Rattle.cert_text.proofs.WordLaws.{strip_gives}
use Rattle.report_text.proofs.word.strip.Goals as goal

pub returns : goal.returns
returns c = strip_gives c.args.word.now c.args.bytes.now c.strip_prefix.result c.strip_prefix.ensures.cases
