use Rattle.std.proofs.Common.{◌≡◌, true, false, List, map, ap, sym, ◌∙◌, subst}
use Rattle.std.proofs.lemmas.Bool.{and_parts}
use Rattle.std.specs.Vec.Iter.{into_iter_items}
use Rattle.fm_elim.specs.declared.live.Live.{Live}
use Rattle.fm_elim.specs.Steps.{solved, substituted, solve_has_room}
use Rattle.fm_elim.specs.machine.Tidying.{rows_of, IsTidying, then_tidied}
use Rattle.fm_elim.proofs.FedLaws.{rest_taken, solve_begin}
use Rattle.std.specs.List.{AllByRecursion}
use Rattle.fm_elim.specs.machine.Logging.{IsLive}
use Rattle.fm_elim.proofs.LoggingLaws.{logs_next, logs_start, fresh_logged, logs_contra, live_grown}
use Rattle.fm_elim.proofs.step.solve.Goals as goal

pub loop-live-init : goal.loop-live-init
loop-live-init c =
    let u = c.args.unknown.now in
    let p = c.args.equality.now.row.poly in
    let rows = rows_of c.args.others.items in
    let items = c.into_iter-live-iterator.ensures.into_iter_gives.0 in
    let room : solve_has_room u p rows ≡ true = ap (λ (ls : List Live). solve_has_room u p (rows_of ls)) (sym c.deref.ensures.value) ∙ sym c.all_have_room.ensures ∙ c.if-not-all_have_room.false in
    record {
      room = subst (λ (ls : List Live). solve_has_room u p (rows_of ls) ≡ true) (sym items) room;
      lives = subst (AllByRecursion (IsLive c.args.log.now)) (sym items) c.requires.logged.lives;
      logs = logs_start c.args.log.now c.new-kept.result.rows.items (fresh_logged c.args.log.now c.new-kept.result.rows.items c.requires.logged.sound c.new-kept.ensures.rows);
      tidying = subst (λ (ls : List Live). IsTidying (then_tidied (solved u p rows)) c.new-kept.result (map (substituted u p) (rows_of ls))) (sym items)
          (solve_begin u p rows c.new-kept.result room c.new-kept.ensures.stands);
    }

pub loop-live-preserved : goal.loop-live-preserved
loop-live-preserved c =
    let u = c.args.unknown.now in
    let p = c.args.equality.now.row.poly in
    let items = into_iter_items c.next.new.self in
    let here = c.in-Some.ensures.steps.0 in
    let room = subst (λ (ls : List Live). solve_has_room u p (rows_of ls) ≡ true) here c.loop-live.invariant.room in
    let tidying = subst (λ (ls : List Live). IsTidying (then_tidied (solved u p (rows_of c.args.others.items))) c.loop-live.kept (map (substituted u p) (rows_of ls))) here c.loop-live.invariant.tidying in
    let lives = subst (AllByRecursion (IsLive c.args.log.now)) here c.loop-live.invariant.lives in
    record {
      lives = lives.1;
      logs = logs_next c.args.log.now c.loop-live.log c.substitute.new.log c.loop-live.kept.rows.items c.substitute.new.kept.rows.items c.in_ok-substitute.field-0 false c.if-branch.false
          c.loop-live.invariant.logs c.in_ok-substitute.ensures.logged;
      room = (and_parts _ (solve_has_room u p (rows_of items)) room).1;
      tidying = rest_taken (then_tidied (solved u p (rows_of c.args.others.items))) c.loop-live.kept c.substitute.new.kept c.in_ok-substitute.field-0
          (substituted u p c.in-Some.live.row) (map (substituted u p) (rows_of items)) c.if-branch.false c.in_ok-substitute.ensures.feeds tidying;
    }

pub substitute-requires-clause-logged : goal.substitute-requires-clause-logged
substitute-requires-clause-logged c = c.loop-live.invariant.logs.logged

pub substitute-requires-clause-live : goal.substitute-requires-clause-live
substitute-requires-clause-live c =
    let lives = subst (AllByRecursion (IsLive c.args.log.now)) c.in-Some.ensures.steps.0 c.loop-live.invariant.lives in
    live_grown c.args.log.now c.loop-live.log c.in-Some.live c.loop-live.invariant.logs.grows lives.0

pub substitute-requires-clause-equality : goal.substitute-requires-clause-equality
substitute-requires-clause-equality c = live_grown c.args.log.now c.loop-live.log c.args.equality.now c.loop-live.invariant.logs.grows c.requires.equality

pub returns-then-branch-clause-logged : goal.returns-then-branch-clause-logged
returns-then-branch-clause-logged c =
    logs_contra c.args.log.now c.substitute.new.log c.substitute.new.kept.rows.items
    (logs_next c.args.log.now c.loop-live.log c.substitute.new.log c.loop-live.kept.rows.items c.substitute.new.kept.rows.items c.in_ok-substitute.field-0 true c.if-branch.true
    c.loop-live.invariant.logs c.in_ok-substitute.ensures.logged)

pub returns-clause-logged : goal.returns-clause-logged
returns-clause-logged c = c.end.ensures.logged c.args.log.now c.loop-live.log c.loop-live.invariant.logs
