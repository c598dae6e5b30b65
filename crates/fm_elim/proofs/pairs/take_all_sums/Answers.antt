use Rattle.std.proofs.Common.{◌≡◌, ◌<◌, ◌+◌, true, false, List, ◌∷◌, map, drop, length, ap, sym, ◌∙◌, subst, arith}
use Rattle.std.proofs.lemmas.List.{drop_more}
use Rattle.fm_elim.specs.declared.sides.Side.{Side}
use Rattle.fm_elim.specs.Steps.{combined, combined_all}
use Rattle.fm_elim.specs.machine.Sides.{sides_of}
use Rattle.fm_elim.proofs.FedLaws.{Toward, toward_goes}
use Rattle.std.proofs.lemmas.Bool.{and_parts}
use Rattle.std.specs.List.{AllByRecursion, list_all}
use Rattle.fm_elim.specs.Steps.{pair_has_room, pairs_have_room}
use Rattle.fm_elim.specs.machine.Sides.{IsSide}
use Rattle.fm_elim.specs.machine.Logging.{IsLiveSide}
use Rattle.fm_elim.proofs.FedLaws.{toward_more}
use Rattle.fm_elim.proofs.LoggingLaws.{logs_next, side_grown, sides_grown}
use Rattle.fm_elim.proofs.pairs.take_all_sums.Goals as goal

pub returns-then-branch-clause-goes : goal.returns-then-branch-clause-goes
returns-then-branch-clause-goes c =
    let u = c.args.unknown.now in
    let xs = c.args.lowers.now in
    let hs = sides_of c.args.uppers.now in
    let i = c.loop-lower.lower-index in
    let inside : c.loop-lower.lower-index < length c.args.lowers.now = omega arith in
    let here : drop c.loop-lower.lower-index c.args.lowers.now ≡ c.lower-item.result ∷ drop (c.loop-lower.lower-index + 1) c.args.lowers.now =
    drop_more xs i c.lower-item.result inside ∙ ap (λ (s : Side). s ∷ drop (i + 1) xs) (sym c.lower-item.is) in
    let w = subst (λ (q : List Side). Toward c.args.kept.now c.loop-lower.kept (combined_all u (sides_of xs) hs) (combined_all u (sides_of q) hs)) here c.loop-lower.invariant.toward in
    toward_goes c.args.kept.now c.loop-lower.kept c.take_sums.new.kept (combined_all u (sides_of xs) hs) (map (combined u c.lower-item.result.live.row) hs)
    (combined_all u (sides_of (drop (i + 1) xs)) hs) c.in_ok-take_sums.field-0 w c.if-branch.true c.in_ok-take_sums.ensures.goes

pub take_sums-requires-clause-logged : goal.take_sums-requires-clause-logged
take_sums-requires-clause-logged c = c.loop-lower.invariant.logs.logged

pub take_sums-requires-clause-live_lower : goal.take_sums-requires-clause-live_lower
take_sums-requires-clause-live_lower c =
    let u = c.args.unknown.now in
    let xs = c.args.lowers.now in
    let hs = sides_of c.args.uppers.now in
    let i = c.loop-lower.lower-index in
    let item = c.lower-item.result in
    let inside : c.loop-lower.lower-index < length c.args.lowers.now = omega arith in
    let here : drop c.loop-lower.lower-index c.args.lowers.now ≡ c.lower-item.result ∷ drop (c.loop-lower.lower-index + 1) c.args.lowers.now =
    drop_more xs i c.lower-item.result inside ∙ ap (λ (s : Side). s ∷ drop (i + 1) xs) (sym c.lower-item.is) in
    let lives = subst (AllByRecursion (IsLiveSide c.args.log.now)) here c.loop-lower.invariant.lives in
    side_grown c.args.log.now c.loop-lower.log item c.loop-lower.invariant.logs.grows lives.0

pub take_sums-requires-clause-live_uppers : goal.take_sums-requires-clause-live_uppers
take_sums-requires-clause-live_uppers c = sides_grown c.args.log.now c.loop-lower.log c.args.uppers.now c.loop-lower.invariant.logs.grows c.requires.live_uppers

pub loop-lower-preserved : goal.loop-lower-preserved
loop-lower-preserved c =
    let u = c.args.unknown.now in
    let xs = c.args.lowers.now in
    let hs = sides_of c.args.uppers.now in
    let i = c.loop-lower.lower-index in
    let item = c.lower-item.result in
    let inside : c.loop-lower.lower-index < length c.args.lowers.now = omega arith in
    let here : drop c.loop-lower.lower-index c.args.lowers.now ≡ c.lower-item.result ∷ drop (c.loop-lower.lower-index + 1) c.args.lowers.now =
    drop_more xs i c.lower-item.result inside ∙ ap (λ (s : Side). s ∷ drop (i + 1) xs) (sym c.lower-item.is) in
    let room = subst (λ (q : List Side). pairs_have_room u (sides_of q) hs ≡ true) here c.loop-lower.invariant.room in
    let sides = subst (AllByRecursion (IsSide u)) here c.loop-lower.invariant.sides in
    let lives = subst (AllByRecursion (IsLiveSide c.args.log.now)) here c.loop-lower.invariant.lives in
    let w = subst (λ (q : List Side). Toward c.args.kept.now c.loop-lower.kept (combined_all u (sides_of xs) hs) (combined_all u (sides_of q) hs)) here c.loop-lower.invariant.toward in
    record {
      sides = sides.1;
      room = (and_parts (list_all (pair_has_room u item.live.row) hs) (pairs_have_room u (sides_of (drop (i + 1) xs)) hs) room).1;
      lives = lives.1;
      logs = logs_next c.args.log.now c.loop-lower.log c.take_sums.new.log c.loop-lower.kept.rows.items c.take_sums.new.kept.rows.items c.in_ok-take_sums.field-0 false c.if-branch.false
          c.loop-lower.invariant.logs c.in_ok-take_sums.ensures.logged;
      toward = toward_more c.args.kept.now c.loop-lower.kept c.take_sums.new.kept (combined_all u (sides_of xs) hs) (map (combined u item.live.row) hs)
          (combined_all u (sides_of (drop (i + 1) xs)) hs) c.in_ok-take_sums.field-0 w c.if-branch.false c.in_ok-take_sums.ensures.goes;
    }

pub returns-then-branch-clause-logged : goal.returns-then-branch-clause-logged
returns-then-branch-clause-logged c =
    logs_next c.args.log.now c.loop-lower.log c.take_sums.new.log c.loop-lower.kept.rows.items c.take_sums.new.kept.rows.items c.in_ok-take_sums.field-0 true c.if-branch.true
    c.loop-lower.invariant.logs c.in_ok-take_sums.ensures.logged

pub returns-clause-logged : goal.returns-clause-logged
returns-clause-logged c = c.loop-lower.invariant.logs
