use Rattle.std.proofs.Common.{◌≡◌, ◌<◌, ◌+◌, List, ◌∷◌, [], drop, length, ap, sym, ◌∙◌, subst, arith}
use Rattle.std.proofs.lemmas.List.{drop_more}
use Rattle.cert_kit.specs.declared.row.PRow.{PRow}
use Rattle.fm_elim.specs.Tidy.{tidied}
use Rattle.fm_elim.specs.machine.Tidying.{Feeds, IsTidying}
use Rattle.fm_elim.proofs.FedLaws.{rest_found, rest_taken}
use Rattle.std.proofs.Common.{refl, true, false, slice_get, Some}
use Rattle.std.proofs.lemmas.Option.{slice_get_read}
use Rattle.fm_elim.specs.declared.source.Combination.TheVariants.{Given}
use Rattle.fm_elim.specs.machine.Logging.{all_rows}
use Rattle.fm_elim.proofs.PartLaws.{given_derives}
use Rattle.fm_elim.proofs.GoingLaws.{begin}
use Rattle.fm_elim.proofs.LoggingLaws.{logs_start, fresh_logged, logs_next, logs_contra, same_derives}
use Rattle.fm_elim.proofs.run.tidy_rows.Goals as goal

pub returns-then-branch-clause-rows : goal.returns-then-branch-clause-rows
returns-then-branch-clause-rows c =
    let xs = c.args.rows.now in
    let i = c.loop-n.n in
    let inside : c.loop-n.n < length c.args.rows.now = omega arith in
    let here : drop c.loop-n.n c.args.rows.now ≡ c.index-rows-n.result ∷ drop (c.loop-n.n + 1) c.args.rows.now =
    drop_more xs i c.index-rows-n.result inside ∙ ap (λ (r : PRow). r ∷ drop (i + 1) xs) (sym c.index-rows-n.is) in
    rest_found (tidied xs) c.loop-n.kept c.take.new.self c.in_ok-take.field-0 c.index-rows-n.result (drop (i + 1) xs) c.if-branch.true
    (subst (λ (r : PRow). Feeds c.in_ok-take.field-0 c.loop-n.kept c.take.new.self (r ∷ [])) c.in_ok-copy.ensures c.in_ok-take.ensures.feeds)
    (subst (IsTidying (tidied xs) c.loop-n.kept) here c.loop-n.invariant.tidying)

pub loop-n-init : goal.loop-n-init
loop-n-init c = record {
  tidying = begin c.new-kept.result c.args.rows.now c.new-kept.ensures.stands;
  logs = logs_start c.args.log.now c.new-kept.result.rows.items (fresh_logged c.args.log.now c.new-kept.result.rows.items c.requires.logged.sound c.new-kept.ensures.rows);
}

pub take-requires-clause-logged : goal.take-requires-clause-logged
take-requires-clause-logged c = c.loop-n.invariant.logs.logged

pub take-requires-clause-derives : goal.take-requires-clause-derives
take-requires-clause-derives c =
    let front = slice_get_read c.args.rows.now (length c.args.rows.now) c.loop-n.n c.index-rows-n.result refl (omega arith) c.index-rows-n.is in
    let first = subst (λ (rows : List PRow). slice_get rows c.loop-n.n ≡ Some c.index-rows-n.result) (sym c.requires.fresh) front in
    let now = c.loop-n.invariant.logs.grows.rows c.loop-n.n c.index-rows-n.result first in
    same_derives c.loop-n.log (Given c.loop-n.n) c.in_ok-copy.field-0 c.index-rows-n.result
    (given_derives (all_rows c.loop-n.log) c.loop-n.n c.index-rows-n.result (record { here = now; fits = c.spread.ensures.fits })) c.in_ok-copy.ensures

pub loop-n-preserved : goal.loop-n-preserved
loop-n-preserved c =
    let xs = c.args.rows.now in
    let i = c.loop-n.n in
    let inside : c.loop-n.n < length c.args.rows.now = omega arith in
    let here : drop c.loop-n.n c.args.rows.now ≡ c.index-rows-n.result ∷ drop (c.loop-n.n + 1) c.args.rows.now =
    drop_more xs i c.index-rows-n.result inside ∙ ap (λ (r : PRow). r ∷ drop (i + 1) xs) (sym c.index-rows-n.is) in
    record {
      tidying = rest_taken (tidied xs) c.loop-n.kept c.take.new.self c.in_ok-take.field-0 c.index-rows-n.result (drop (i + 1) xs) c.if-branch.false
          (subst (λ (r : PRow). Feeds c.in_ok-take.field-0 c.loop-n.kept c.take.new.self (r ∷ [])) c.in_ok-copy.ensures c.in_ok-take.ensures.feeds)
          (subst (IsTidying (tidied xs) c.loop-n.kept) here c.loop-n.invariant.tidying);
      logs = logs_next c.args.log.now c.loop-n.log c.take.new.log c.loop-n.kept.rows.items c.take.new.self.rows.items c.in_ok-take.field-0 false c.if-branch.false
          c.loop-n.invariant.logs c.in_ok-take.ensures.logged;
    }

pub returns-then-branch-clause-logged : goal.returns-then-branch-clause-logged
returns-then-branch-clause-logged c =
    logs_contra c.args.log.now c.take.new.log c.take.new.self.rows.items
    (logs_next c.args.log.now c.loop-n.log c.take.new.log c.loop-n.kept.rows.items c.take.new.self.rows.items c.in_ok-take.field-0 true c.if-branch.true
    c.loop-n.invariant.logs c.in_ok-take.ensures.logged)

pub returns-clause-logged : goal.returns-clause-logged
returns-clause-logged c = c.end.ensures.logged c.args.log.now c.loop-n.log c.loop-n.invariant.logs
