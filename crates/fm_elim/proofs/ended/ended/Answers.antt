use Rattle.std.proofs.Common.{List, sym, subst}
use Rattle.std.specs.List.{AllByRecursion}
use Rattle.mm_poly.specs.Poly.{Fits}
use Rattle.cert_kit.specs.declared.row.PRow.{PRow}
use Rattle.fm_elim.specs.declared.removal.Removal.{Removal}
use Rattle.fm_elim.specs.declared.state.Ran.{Ran}
use Rattle.fm_elim.specs.Elimination.{Outcome, outcome}
use Rattle.fm_elim.specs.machine.Giving.{IsRemoval}
use Rattle.fm_elim.specs.machine.Running.{IsRan}
use Rattle.fm_elim.proofs.ListLaws.{all_with}
use Rattle.fm_elim.proofs.TidyLaws.{IsPolyRow}
use Rattle.fm_elim.proofs.RemovalLaws.{removals_are}
use Rattle.fm_elim.specs.machine.Logged.{LogsRan}
use Rattle.fm_elim.proofs.ended.ended.Goals as goal

pub point-requires : goal.point-requires
point-requires c =
    let rows = c.args.rows.now in
    let polys = all_with (λ (r : PRow). Fits r.poly) IsPolyRow rows (λ r h. h.order) c.are_rows.ensures in
    let h = subst (λ (r : Ran). IsRan r (outcome rows)) c.in-Point.is c.in_ok-removed.ensures.ran in
    let all = subst (λ (o : Outcome). AllByRecursion (IsRemoval o.norm) o.removed) h (removals_are rows polys) in
    subst (λ (rs : List Removal). AllByRecursion (IsRemoval c.in-Point.top) rs) (sym c.deref.ensures.value) all

pub returns-in-Contra-clause-logged : goal.returns-in-Contra-clause-logged
returns-in-Contra-clause-logged c = subst (λ (r : Ran). LogsRan r c.args.log.now c.run.new.log) c.in-Contra.is c.in_ok-removed.ensures.logged
