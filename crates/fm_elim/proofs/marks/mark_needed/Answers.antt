use Rattle.std.proofs.Common.{refl, length, arith}
use Rattle.std.proofs.lemmas.Option.{slice_get_read}
use Rattle.fm_elim.proofs.MarkLaws.{names_below, closed_marked}
use Rattle.fm_elim.proofs.marks.mark_needed.Goals as goal

pub returns-clause-closed : goal.returns-clause-closed
returns-clause-closed c =
    let sources = c.args.log.now.sources.items in
    let t = c.index.result.now in
    let p = c.requires.place in
    let q = c.requires.count in
    let here = slice_get_read sources (length sources) c.args.n t refl c.requires.place c.index.ensures in
    closed_marked (length c.args.log.now.given.now) sources c.args.marks.now c.mark_rows.new.marks c.args.n t c.mark_rows.ensures here (names_below c.args.log.now c.args.n t c.requires.sound here)
    (omega (arith, p, q)) c.requires.closed
