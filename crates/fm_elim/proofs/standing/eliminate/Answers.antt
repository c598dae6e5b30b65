use Rattle.std.proofs.Common.{true, false, [], sym, ◌∙◌, subst, arith}
use Rattle.std.specs.List.{AllByRecursion}
use Rattle.std.proofs.lemmas.List.{length-map}
use Rattle.fm_elim.specs.declared.live.Live.{Live}
use Rattle.fm_elim.specs.Steps.{combined_all}
use Rattle.fm_elim.specs.machine.Logging.{IsLive}
use Rattle.fm_elim.specs.machine.Sides.{sides_of, sums_of}
use Rattle.fm_elim.specs.machine.Tidying.{rows_of, then_tidied}
use Rattle.fm_elim.proofs.FedLaws.{goes_found, goes_taken, with_none}
use Rattle.fm_elim.proofs.LoggingLaws.{found_is, logs_contra}
use Rattle.fm_elim.proofs.StandingLaws.{live_cuts, sums_standing}
use Rattle.fm_elim.proofs.standing.eliminate.Goals as goal

pub standing-kept-requires : goal.standing-kept-requires
standing-kept-requires c = let f = c.requires.tidy.few in let m = length-map c.args.without.items (λ (l : Live). l.row) in omega (arith, f, m)

pub returns-then-branch-clause-rows : goal.returns-then-branch-clause-rows
returns-then-branch-clause-rows c =
    let u = c.args.unknown.now in
    let rows = c.args.without.items in
    let ls = sides_of c.args.lowers.now in
    let hs = sides_of c.args.uppers.now in
    let kept = c.standing-kept.result in
    let answer = then_tidied (sums_of u (rows_of rows) ls hs) in
    let t = sums_standing u rows ls hs kept (sym c.pairs_have_room.ensures ∙ c.if-not-pairs_have_room.false) c.standing-kept.ensures.over c.standing-kept.ensures.rows
    (live_cuts c.args.log.now rows c.requires.logged.lives) c.requires.tidy in
    goes_found answer kept c.take_all_sums.new.kept c.in_ok-take_all_sums.field-0 (combined_all u ls hs) [] c.if-branch.true c.in_ok-take_all_sums.ensures.goes
    (with_none answer kept (combined_all u ls hs) t)

pub returns-clause-rows : goal.returns-clause-rows
returns-clause-rows c =
    let u = c.args.unknown.now in
    let rows = c.args.without.items in
    let ls = sides_of c.args.lowers.now in
    let hs = sides_of c.args.uppers.now in
    let kept = c.standing-kept.result in
    let answer = then_tidied (sums_of u (rows_of rows) ls hs) in
    let t = sums_standing u rows ls hs kept (sym c.pairs_have_room.ensures ∙ c.if-not-pairs_have_room.false) c.standing-kept.ensures.over c.standing-kept.ensures.rows
    (live_cuts c.args.log.now rows c.requires.logged.lives) c.requires.tidy in
    c.end.ensures.steps answer
    (goes_taken answer kept c.take_all_sums.new.kept c.in_ok-take_all_sums.field-0 (combined_all u ls hs) [] c.if-branch.false c.in_ok-take_all_sums.ensures.goes
    (with_none answer kept (combined_all u ls hs) t))

pub take_all_sums-requires-clause-logged : goal.take_all_sums-requires-clause-logged
take_all_sums-requires-clause-logged c = record {
  sound = c.requires.logged.sound;
  lives = subst (AllByRecursion (IsLive c.args.log.now)) (sym c.standing-kept.ensures.rows) c.requires.logged.lives;
}

pub returns-then-branch-clause-logged : goal.returns-then-branch-clause-logged
returns-then-branch-clause-logged c =
    logs_contra c.args.log.now c.take_all_sums.new.log c.take_all_sums.new.kept.rows.items
    (found_is c.in_ok-take_all_sums.field-0 true c.args.log.now c.take_all_sums.new.log c.take_all_sums.new.kept.rows.items c.if-branch.true c.in_ok-take_all_sums.ensures.logged)

pub returns-clause-logged : goal.returns-clause-logged
returns-clause-logged c =
    c.end.ensures.logged c.args.log.now c.take_all_sums.new.log
    (found_is c.in_ok-take_all_sums.field-0 false c.args.log.now c.take_all_sums.new.log c.take_all_sums.new.kept.rows.items c.if-branch.false c.in_ok-take_all_sums.ensures.logged)
