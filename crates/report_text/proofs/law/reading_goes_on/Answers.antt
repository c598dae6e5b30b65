use Rattle.report_text.proofs.NextLaws.{nothing_is_due}
use Rattle.report_text.proofs.SoFarLaws.{started, one_line_more, read_more, fewer_left, no_more, all_read}
use Rattle.report_text.proofs.law.reading_goes_on.Goals as goal

pub returns : goal.returns
returns c = record { start = started; more = one_line_more; read = read_more; fewer = fewer_left; bad = no_more; nothing = nothing_is_due; whole = all_read }
