use Rattle.std.proofs.Common.{List, OnOk, ap, sym, ◌∙◌, subst}
use Rattle.cert_kit.specs.declared.row.PRow.{PRow}
use Rattle.fm_elim.specs.machine.Tidying.{Stands, parallel_from}
use Rattle.fm_elim.specs.declared.live.Live.{Live}
use Rattle.fm_elim.proofs.ParallelLaws.{put_none}
use Rattle.fm_elim.proofs.kept.Kept.put.Goals as goal

pub returns-in-None-clause-stands : goal.returns-in-None-clause-stands
returns-in-None-clause-stands c =
    subst (λ (q : List PRow). OnOk c.append.result (Stands c.append.new.self.is_over c.append.new.self.rows.items q))
    (sym (put_none c.args.self.now.rows.items c.args.row 0 (ap (λ (ls : List Live). parallel_from ls c.args.row 0) (sym c.deref.ensures.value) ∙ sym c.parallel_place.ensures ∙ c.in-None.is))) c.append.ensures.stands
