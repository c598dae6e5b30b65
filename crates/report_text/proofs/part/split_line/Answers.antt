use Rattle.report_text.proofs.PartLaws.{split_some, split_none}
use Rattle.report_text.proofs.part.split_line.Goals as goal

pub returns-in_err-end : goal.returns-in_err-end
returns-in_err-end c = rw c.from_residual.ensures (split_none c.args.bytes.now c.in_err-end.ensures.place)

pub returns : goal.returns
returns c =
    split_some c.args.bytes.now c.in_ok-end.end c.split_at.result.0.now c.split_at.result.1.now c.in_ok-end.ensures.place c.split_at.ensures.front c.split_at.ensures.back
