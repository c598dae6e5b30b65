use Rattle.std.proofs.Common.{◌≡◌, true, false, ap, subst, sym, ◌∙◌}
use Rattle.cert_kit.specs.declared.row.PRow.{PRow}
use Rattle.cert_kit.specs.Row.{is_false}
use Rattle.cert_kit.specs.Cut.{cut_of}
use Rattle.fm_elim.specs.Tidy.{is_constant_row, put}
use Rattle.fm_elim.specs.machine.Tidying.{rows_of, Stands}
use Rattle.fm_elim.proofs.ParallelLaws.{fed_false, fed_over, fed_constant, fed_put, constant_is, constant_not, differ}
use Rattle.fm_elim.specs.machine.Logging.{IsOrigin}
use Rattle.fm_elim.proofs.LoggingLaws.{logs_start, logs_closed}
use Rattle.fm_elim.proofs.kept.Kept.take.Goals as goal
use Rattle.fm_elim.proofs.kept.Kept.take.Goals.{then-self-via-then-self, then-self-via-else-self+then-is_constant}

pub returns-then-false_row-clause-feeds : goal.returns-then-false_row-clause-feeds
returns-then-false_row-clause-feeds c =
    fed_false c.args.self.now c.args.self.now c.args.row (ap (λ (q : PRow). is_false q) (sym c.in_ok-cut.ensures.cut) ∙ sym c.false_row.ensures ∙ c.if-false_row.true)

pub returns-then-self-clause-feeds : goal.returns-then-self-clause-feeds
returns-then-self-clause-feeds c =
    let e : is_false (cut_of c.args.row) ≡ false = ap (λ (q : PRow). is_false q) (sym c.in_ok-cut.ensures.cut) ∙ sym c.false_row.ensures ∙ c.if-false_row.false in
    elim c.then-self.branch [
      | then-self-via-then-self w ↦ fed_over c.args.self.now c.args.row e w.if-self.true
      | then-self-via-else-self+then-is_constant w ↦ fed_constant c.args.self.now c.args.row e
          (subst (λ (r : PRow). is_constant_row r ≡ true) c.in_ok-cut.ensures.cut (constant_is c.in_ok-cut.cut.row (w.is_constant.ensures.0 w.if-is_constant.true)))
    ]

pub returns-clause-feeds : goal.returns-clause-feeds
returns-clause-feeds c =
    let e : is_false (cut_of c.args.row) ≡ false = ap (λ (q : PRow). is_false q) (sym c.in_ok-cut.ensures.cut) ∙ sym c.false_row.ensures ∙ c.if-false_row.false in
    fed_put c.args.self.now c.put.new.self c.args.row e
    (subst (λ (r : PRow). is_constant_row r ≡ false) c.in_ok-cut.ensures.cut
    (constant_not c.in_ok-cut.cut.row (λ h. differ c.is_constant.result (c.is_constant.ensures.1 h) c.if-is_constant.false)))
    c.if-self.false
    (subst (λ (r : PRow). Stands c.put.new.self.is_over c.put.new.self.rows.items (put r (rows_of c.args.self.now.rows.items))) c.in_ok-cut.ensures.cut c.in_ok-put.ensures.stands)

pub close-requires : goal.close-requires
close-requires c = c.requires.logged.sound

pub returns-then-false_row-clause-logged : goal.returns-then-false_row-clause-logged
returns-then-false_row-clause-logged c =
    let r = c.in_ok-cut.cut.row in
    let origin = subst (λ (q : PRow). IsOrigin c.args.log.now q c.origin_of-origin.result) (sym c.in_ok-cut.ensures.cut)
    (c.origin_of-origin.ensures c.args.log.now c.args.row c.requires.derives c.in_ok-cut.ensures.changed) in
    logs_closed c.args.log.now c.close.new.self c.args.self.now.rows.items r c.requires.logged (c.in_ok-close.ensures r c.in_ok-cut.ensures.fits origin) (sym c.false_row.ensures ∙ c.if-false_row.true)

pub returns-then-self-clause-logged : goal.returns-then-self-clause-logged
returns-then-self-clause-logged c = logs_start c.args.log.now c.args.self.now.rows.items c.requires.logged

pub put-requires-clause-logged : goal.put-requires-clause-logged
put-requires-clause-logged c = record {
  logged = c.requires.logged;
  fits = c.in_ok-cut.ensures.fits;
  cut = c.in_ok-cut.ensures.itself;
  unknown = constant_not c.in_ok-cut.cut.row (λ h. differ c.is_constant.result (c.is_constant.ensures.1 h) c.if-is_constant.false);
  origin = subst (λ (q : PRow). IsOrigin c.args.log.now q c.origin_of-origin.result) (sym c.in_ok-cut.ensures.cut)
      (c.origin_of-origin.ensures c.args.log.now c.args.row c.requires.derives c.in_ok-cut.ensures.changed);
}
