use Rattle.std.proofs.Common.{List, ◌∙◌, subst, refl}
use Rattle.cert_kit.specs.declared.row.PRow.{PRow}
use Rattle.cert_kit.specs.Acceptance.{IsGood}
use Rattle.fm_elim.specs.declared.ending.Ending.{Ending}
use Rattle.fm_elim.specs.machine.Ending.{IsEnded}
use Rattle.fm_elim.specs.machine.Logged.{LogsEnding}
use Rattle.fm_elim.proofs.LoggingLaws.{new_logged, new_rows}
use Rattle.fm_elim.proofs.SolveLaws.{solved_by_unknowns, solved_by_numbers}
use Rattle.fm_elim.proofs.eliminating.eliminate.Goals as goal

pub ended-requires-clause-logged : goal.ended-requires-clause-logged
ended-requires-clause-logged c = new_logged c.new-log.result c.new-log.ensures.sources

pub ended-requires-clause-fresh : goal.ended-requires-clause-fresh
ended-requires-clause-fresh c = new_rows c.new-log.result c.new-log.ensures.sources ∙ c.new-log.ensures.given

pub refutation-requires-clause-sound : goal.refutation-requires-clause-sound
refutation-requires-clause-sound c =
    let l = subst (λ (e : Ending). LogsEnding e c.new-log.result c.ended.new.log) c.in-Contra.is c.in_ok-ended.ensures.logged in
    l.logged.sound

pub refutation-requires-clause-ends : goal.refutation-requires-clause-ends
refutation-requires-clause-ends c =
    let l = subst (λ (e : Ending). LogsEnding e c.new-log.result c.ended.new.log) c.in-Contra.is c.in_ok-ended.ensures.logged in
    l.ends refl

pub returns-in-Contra-clause-ends : goal.returns-in-Contra-clause-ends
returns-in-Contra-clause-ends c = subst (IsEnded c.args.clause.now) c.in-Contra.is c.in_ok-ended.ensures.ends

pub returns-in-Contra-clause-good : goal.returns-in-Contra-clause-good
returns-in-Contra-clause-good c =
    let l = subst (λ (e : Ending). LogsEnding e c.new-log.result c.ended.new.log) c.in-Contra.is c.in_ok-ended.ensures.logged in
    subst (λ (rows : List PRow). IsGood rows c.in_ok-cert-in-Contra.cert) (l.grows.given ∙ c.new-log.ensures.given) c.in_ok-cert-in-Contra.ensures.good

pub returns-in-Point-clause-ends : goal.returns-in-Point-clause-ends
returns-in-Point-clause-ends c = let p = subst (IsEnded c.args.clause.now) c.in-Point.is c.in_ok-ended.ensures.ends in (p.0, p.1)

pub returns-in-Point-clause-values : goal.returns-in-Point-clause-values
returns-in-Point-clause-values c = let p = subst (IsEnded c.args.clause.now) c.in-Point.is c.in_ok-ended.ensures.ends in p.2

pub returns-in-Point-clause-solves : goal.returns-in-Point-clause-solves
returns-in-Point-clause-solves c =
    λ l.
    let p = subst (IsEnded c.args.clause.now) c.in-Point.is c.in_ok-ended.ensures.ends in
    solved_by_unknowns c.args.clause.now c.in-Point.values.items c.in_ok-ended.ensures.fits l p.0 p.2

pub returns-in-Point-clause-numbered : goal.returns-in-Point-clause-numbered
returns-in-Point-clause-numbered c =
    λ l n.
    let p = subst (IsEnded c.args.clause.now) c.in-Point.is c.in_ok-ended.ensures.ends in
    solved_by_numbers c.args.clause.now c.in-Point.values.items c.in_ok-ended.ensures.fits l n p.0 p.2

pub returns-in-Grey-clause-ends : goal.returns-in-Grey-clause-ends
returns-in-Grey-clause-ends c = subst (IsEnded c.args.clause.now) c.in-Grey.is c.in_ok-ended.ensures.ends
