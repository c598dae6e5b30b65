use Rattle.std.proofs.Common.{◌≡◌, ◌<◌, ◌+◌, Bool, true, false, List, [], ◌∷◌, map, drop, length, ap, sym, ◌∙◌, subst, arith}
use Rattle.std.proofs.lemmas.List.{drop_more}
use Rattle.cert_kit.specs.declared.row.PRow.{PRow}
use Rattle.fm_elim.specs.declared.sides.Side.{Side}
use Rattle.fm_elim.specs.Steps.{combined}
use Rattle.fm_elim.specs.machine.Sides.{sides_of}
use Rattle.fm_elim.specs.machine.Tidying.{Feeds}
use Rattle.fm_elim.proofs.FedLaws.{Toward, toward_found}
use Rattle.std.proofs.lemmas.Bool.{and_parts}
use Rattle.std.specs.List.{AllByRecursion, list_all}
use Rattle.fm_elim.specs.Steps.{pair_has_room}
use Rattle.fm_elim.specs.machine.Sides.{IsSide}
use Rattle.fm_elim.specs.machine.Logging.{IsLiveSide}
use Rattle.fm_elim.proofs.FedLaws.{toward_next}
use Rattle.fm_elim.proofs.LoggingLaws.{logs_next, side_grown, pair_made, wide_pos}
use Rattle.std.proofs.Common.{to_z}
use Rattle.std.specs.Int.{w128}
use Rattle.fm_elim.proofs.pairs.take_sums.Goals as goal

pub returns-then-branch-clause-goes : goal.returns-then-branch-clause-goes
returns-then-branch-clause-goes c =
    let xs = c.args.uppers.now in
    let i = c.loop-upper.upper-index in
    let item = c.upper-item.result in
    let inside : c.loop-upper.upper-index < length c.args.uppers.now = omega arith in
    let here : drop c.loop-upper.upper-index c.args.uppers.now ≡ c.upper-item.result ∷ drop (c.loop-upper.upper-index + 1) c.args.uppers.now =
    drop_more xs i item inside ∙ ap (λ (s : Side). s ∷ drop (i + 1) xs) (sym c.upper-item.is) in
    let f = combined c.args.unknown.now c.args.lower.now.live.row in
    let w = subst (λ (q : List Side). Toward c.args.kept.now c.loop-upper.kept (map f (sides_of xs)) (map f (sides_of q))) here c.loop-upper.invariant.toward in
    let fed = subst (λ (b : Bool). Feeds b c.loop-upper.kept c.take.new.self (c.in_ok-sum.sum ∷ [])) c.if-branch.true c.in_ok-take.ensures.feeds in
    toward_found c.args.kept.now c.loop-upper.kept c.take.new.self (map f (sides_of xs)) (map f (sides_of (drop (i + 1) xs))) (f item.live.row) w
    (subst (λ (r : PRow). Feeds true c.loop-upper.kept c.take.new.self (r ∷ [])) c.in_ok-sum.ensures fed)

pub take-requires-clause-logged : goal.take-requires-clause-logged
take-requires-clause-logged c = c.loop-upper.invariant.logs.logged

pub take-requires-clause-derives : goal.take-requires-clause-derives
take-requires-clause-derives c =
    let u = c.args.unknown.now in
    let xs = c.args.uppers.now in
    let i = c.loop-upper.upper-index in
    let item = c.upper-item.result in
    let lower = c.args.lower.now in
    let inside : c.loop-upper.upper-index < length c.args.uppers.now = omega arith in
    let here : drop c.loop-upper.upper-index c.args.uppers.now ≡ c.upper-item.result ∷ drop (c.loop-upper.upper-index + 1) c.args.uppers.now =
    drop_more xs i item inside ∙ ap (λ (s : Side). s ∷ drop (i + 1) xs) (sym c.upper-item.is) in
    let room = subst (λ (q : List Side). list_all (pair_has_room u lower.live.row) (sides_of q) ≡ true) here c.loop-upper.invariant.room in
    let sides = subst (AllByRecursion (IsSide u)) here c.loop-upper.invariant.sides in
    let lives = subst (AllByRecursion (IsLiveSide c.args.log.now)) here c.loop-upper.invariant.lives in
    let g = c.loop-upper.invariant.logs.grows in
    pair_made c.loop-upper.log u lower item c.in_ok-sum.sum c.requires.lower sides.0 (side_grown c.args.log.now c.loop-upper.log lower g c.requires.live_lower)
    (side_grown c.args.log.now c.loop-upper.log item g lives.0) (and_parts (pair_has_room u lower.live.row item.live.row) (list_all (pair_has_room u lower.live.row) (sides_of (drop (i + 1) xs))) room).0
    c.in_ok-sum.ensures (to_z w128 item.coeff) (to_z w128 lower.coeff) (wide_pos item.coeff sides.0.small) (wide_pos lower.coeff c.requires.lower.small)

pub loop-upper-preserved : goal.loop-upper-preserved
loop-upper-preserved c =
    let u = c.args.unknown.now in
    let xs = c.args.uppers.now in
    let i = c.loop-upper.upper-index in
    let item = c.upper-item.result in
    let lower = c.args.lower.now in
    let inside : c.loop-upper.upper-index < length c.args.uppers.now = omega arith in
    let here : drop c.loop-upper.upper-index c.args.uppers.now ≡ c.upper-item.result ∷ drop (c.loop-upper.upper-index + 1) c.args.uppers.now =
    drop_more xs i item inside ∙ ap (λ (s : Side). s ∷ drop (i + 1) xs) (sym c.upper-item.is) in
    let room = subst (λ (q : List Side). list_all (pair_has_room u lower.live.row) (sides_of q) ≡ true) here c.loop-upper.invariant.room in
    let sides = subst (AllByRecursion (IsSide u)) here c.loop-upper.invariant.sides in
    let lives = subst (AllByRecursion (IsLiveSide c.args.log.now)) here c.loop-upper.invariant.lives in
    let f = combined u lower.live.row in
    let w = subst (λ (q : List Side). Toward c.args.kept.now c.loop-upper.kept (map f (sides_of xs)) (map f (sides_of q))) here c.loop-upper.invariant.toward in
    let fed = subst (λ (r : PRow). Feeds c.in_ok-take.field-0 c.loop-upper.kept c.take.new.self (r ∷ [])) c.in_ok-sum.ensures c.in_ok-take.ensures.feeds in
    record {
      sides = sides.1;
      room = (and_parts (pair_has_room u lower.live.row item.live.row) (list_all (pair_has_room u lower.live.row) (sides_of (drop (i + 1) xs))) room).1;
      lives = lives.1;
      logs = logs_next c.args.log.now c.loop-upper.log c.take.new.log c.loop-upper.kept.rows.items c.take.new.self.rows.items c.in_ok-take.field-0 false c.if-branch.false
          c.loop-upper.invariant.logs c.in_ok-take.ensures.logged;
      toward = toward_next c.args.kept.now c.loop-upper.kept c.take.new.self (map f (sides_of xs)) (map f (sides_of (drop (i + 1) xs))) (f item.live.row) c.in_ok-take.field-0 w c.if-branch.false fed;
    }

pub returns-then-branch-clause-logged : goal.returns-then-branch-clause-logged
returns-then-branch-clause-logged c =
    logs_next c.args.log.now c.loop-upper.log c.take.new.log c.loop-upper.kept.rows.items c.take.new.self.rows.items c.in_ok-take.field-0 true c.if-branch.true
    c.loop-upper.invariant.logs c.in_ok-take.ensures.logged

pub returns-clause-logged : goal.returns-clause-logged
returns-clause-logged c = c.loop-upper.invariant.logs
