use Rattle.fm_elim.proofs.MarkLaws.{marked_both}
use Rattle.fm_elim.proofs.marks.mark_both.Goals as goal

pub returns : goal.returns
returns c = marked_both c.args.given c.args.first c.args.second c.args.marks.now c.mark.new.marks c.mark-2.new.marks c.mark.ensures c.mark-2.ensures
