use Rattle.std.proofs.Common.{◌≡◌, ◌+◌, ◌==◌, true, false, suc, drop, slice_get, Some, List, length, ap, sym, ◌∙◌, subst, arith}
use Rattle.std.proofs.lemmas.List.{length-map}
use Rattle.mm_num.proofs.TestLaws.{is_number}
use Rattle.std.specs.Vec.Iter.{into_iter_items}
use Rattle.fm_elim.specs.declared.live.Live.{Live}
use Rattle.fm_elim.specs.Tidy.{tidied}
use Rattle.fm_elim.specs.Steps.{halved}
use Rattle.fm_elim.specs.machine.Halves.{parts_at, halved_from}
use Rattle.fm_elim.specs.machine.Tidying.{rows_of, IsTidying}
use Rattle.fm_elim.proofs.FedLaws.{goes_found}
use Rattle.fm_elim.proofs.GoingLaws.{begin}
use Rattle.fm_elim.proofs.HalfLaws.{halved_is}
use Rattle.std.specs.List.{AllByRecursion}
use Rattle.fm_elim.specs.machine.Logging.{IsLive}
use Rattle.fm_elim.proofs.FedLaws.{goes_taken}
use Rattle.fm_elim.proofs.LoggingLaws.{grows_not, logs_next, logs_contra, live_grown, left_front}
use Rattle.fm_elim.proofs.standing.halve.Goals as goal

pub loop-live-init : goal.loop-live-init
loop-live-init c =
    let rows = rows_of c.args.rows.items in
    let k = c.args.place in
    let items = c.into_iter-live-iterator.ensures.into_iter_gives.0 in
    record {
      counted = (let q = ap length items in omega (arith, q));
      items = items;
      lives = subst (AllByRecursion (IsLive c.args.log.now)) (sym items) c.requires.logged.lives;
      logs = record {
        grows = grows_not c.args.log.now;
        logged = record { sound = c.requires.logged.sound; lives = subst (AllByRecursion (IsLive c.args.log.now)) (sym c.new-kept.ensures.rows) tt };
        ends = λ e. absurd cc;
      };
      tidying = subst (λ (ls : List Live). IsTidying (tidied (halved k rows)) c.new-kept.result (halved_from (rows_of ls) k 0)) (sym items)
          (subst (IsTidying (tidied (halved k rows)) c.new-kept.result) (sym (halved_is rows k (let m = length-map c.args.rows.items (λ (l : Live). l.row) in let r = c.requires.place in omega (arith, m, r))))
          (begin c.new-kept.result (halved k rows) c.new-kept.ensures.stands));
    }

pub returns-then-branch-clause-rows : goal.returns-then-branch-clause-rows
returns-then-branch-clause-rows c =
    let answer = tidied (halved c.args.place (rows_of c.args.rows.items)) in
    let t = subst (λ (ls : List Live). IsTidying answer c.loop-live.kept (halved_from (rows_of ls) c.args.place c.loop-live.n)) c.in-Some.ensures.steps.0 c.loop-live.invariant.tidying in
    goes_found answer c.loop-live.kept c.take_parts.new.kept c.in_ok-take_parts.field-0 (parts_at (c.loop-live.n == c.args.place) c.in-Some.live.row)
    (halved_from (rows_of (into_iter_items c.next.new.self)) c.args.place (c.loop-live.n + 1)) c.if-branch.true c.in_ok-take_parts.ensures.goes t

pub take_parts-requires-clause-logged : goal.take_parts-requires-clause-logged
take_parts-requires-clause-logged c = c.loop-live.invariant.logs.logged

pub take_parts-requires-clause-live : goal.take_parts-requires-clause-live
take_parts-requires-clause-live c =
    let lives = subst (AllByRecursion (IsLive c.args.log.now)) c.in-Some.ensures.steps.0 c.loop-live.invariant.lives in
    live_grown c.args.log.now c.loop-live.log c.in-Some.live c.loop-live.invariant.logs.grows lives.0

pub take_parts-requires-clause-equality : goal.take_parts-requires-clause-equality
take_parts-requires-clause-equality c =
    λ e.
    let n : c.loop-live.n ≡ c.args.place = is_number c.loop-live.n c.args.place e in
    let front = left_front c.args.rows.items (into_iter_items c.next.new.self) c.loop-live.n c.in-Some.live (sym c.loop-live.invariant.items ∙ c.in-Some.ensures.steps.0) in
    c.requires.equality c.in-Some.live (subst (λ k. slice_get c.args.rows.items k ≡ Some c.in-Some.live) n front.0)

pub loop-live-preserved : goal.loop-live-preserved
loop-live-preserved c =
    let here = c.in-Some.ensures.steps.0 in
    let rest = into_iter_items c.next.new.self in
    let answer = tidied (halved c.args.place (rows_of c.args.rows.items)) in
    let t = subst (λ (ls : List Live). IsTidying answer c.loop-live.kept (halved_from (rows_of ls) c.args.place c.loop-live.n)) here c.loop-live.invariant.tidying in
    let lives = subst (AllByRecursion (IsLive c.args.log.now)) here c.loop-live.invariant.lives in
    let front = left_front c.args.rows.items rest c.loop-live.n c.in-Some.live (sym c.loop-live.invariant.items ∙ here) in
    let more : suc c.loop-live.n ≡ c.loop-live.n + 1 = omega arith in
    record {
      counted = (let q = ap length here in let r = c.loop-live.invariant.counted in omega (arith, q, r));
      items = front.1 ∙ ap (λ k. drop k c.args.rows.items) more;
      lives = lives.1;
      logs = logs_next c.args.log.now c.loop-live.log c.take_parts.new.log c.loop-live.kept.rows.items c.take_parts.new.kept.rows.items c.in_ok-take_parts.field-0 false c.if-branch.false
          c.loop-live.invariant.logs c.in_ok-take_parts.ensures.logged;
      tidying = goes_taken answer c.loop-live.kept c.take_parts.new.kept c.in_ok-take_parts.field-0 (parts_at (c.loop-live.n == c.args.place) c.in-Some.live.row)
          (halved_from (rows_of rest) c.args.place (c.loop-live.n + 1)) c.if-branch.false c.in_ok-take_parts.ensures.goes t;
    }

pub returns-then-branch-clause-logged : goal.returns-then-branch-clause-logged
returns-then-branch-clause-logged c =
    logs_contra c.args.log.now c.take_parts.new.log c.take_parts.new.kept.rows.items
    (logs_next c.args.log.now c.loop-live.log c.take_parts.new.log c.loop-live.kept.rows.items c.take_parts.new.kept.rows.items c.in_ok-take_parts.field-0 true c.if-branch.true
    c.loop-live.invariant.logs c.in_ok-take_parts.ensures.logged)

pub returns-clause-logged : goal.returns-clause-logged
returns-clause-logged c = c.end.ensures.logged c.args.log.now c.loop-live.log c.loop-live.invariant.logs
