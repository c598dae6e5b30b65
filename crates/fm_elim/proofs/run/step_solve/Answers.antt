use Rattle.std.proofs.Common.{◌∙◌, arith}
use Rattle.fm_elim.specs.Steps.{solved}
use Rattle.fm_elim.specs.machine.Tidying.{rows_of, then_tidied}
use Rattle.fm_elim.proofs.StandingLaws.{then_standing}
use Rattle.fm_elim.proofs.RunLaws.{given_inside, live_there, given_unit, solved_next}
use Rattle.std.proofs.Common.{sym, subst}
use Rattle.std.specs.List.{AllByRecursion}
use Rattle.fm_elim.specs.machine.Logging.{IsLive}
use Rattle.fm_elim.proofs.ListLaws.{all_at}
use Rattle.fm_elim.proofs.RunLaws.{given_equality}
use Rattle.fm_elim.proofs.LoggingLaws.{remove_live}
use Rattle.fm_elim.proofs.run.step_solve.Goals as goal

pub remove-equality-requires : goal.remove-equality-requires
remove-equality-requires c = let h = given_inside c.args.state.rows.items c.args.place c.args.unknown c.requires.rule in omega (arith, h)

pub solve-requires-clause-unit : goal.solve-requires-clause-unit
solve-requires-clause-unit c =
    let lives = c.args.state.rows.items in
    let x = c.remove-equality.result in
    let s = live_there lives c.args.place x (given_inside lives c.args.place c.args.unknown c.requires.rule) c.remove-equality.ensures.value in
    given_unit lives c.args.place c.args.unknown x c.requires.rule s c.spread.ensures.fits.order

pub returns-clause-next : goal.returns-clause-next
returns-clause-next c =
    let lives = c.args.state.rows.items in
    let k = c.args.place in
    let u = c.args.unknown in
    let x = c.remove-equality.result in
    let s = live_there lives k x (given_inside lives k u c.requires.rule) c.remove-equality.ensures.value in
    λ n whole e. c.go_on.ensures.next n (then_tidied (solved u x.row.poly (rows_of c.remove-equality.new.self.items))) whole c.in_ok-stepped.ensures.rows
    (e ∙ solved_next n c.args.state.norm k c.args.state.exact c.args.state.removed.items c.push.new.self.items u lives c.remove-equality.new.self.items x s
    c.remove-equality.ensures.items c.in_ok-push.ensures.items)

pub solve-requires-clause-logged : goal.solve-requires-clause-logged
solve-requires-clause-logged c = record {
  sound = c.requires.logged.sound;
  lives = subst (AllByRecursion (IsLive c.args.log.now)) (sym c.remove-equality.ensures.items) (remove_live (IsLive c.args.log.now) c.args.state.rows.items c.args.place c.requires.logged.lives);
}

pub solve-requires-clause-equality : goal.solve-requires-clause-equality
solve-requires-clause-equality c =
    let lives = c.args.state.rows.items in
    let x = c.remove-equality.result in
    all_at (IsLive c.args.log.now) lives c.args.place x (live_there lives c.args.place x (given_inside lives c.args.place c.args.unknown c.requires.rule) c.remove-equality.ensures.value) c.requires.logged.lives

pub solve-requires-clause-equal : goal.solve-requires-clause-equal
solve-requires-clause-equal c =
    let lives = c.args.state.rows.items in
    let x = c.remove-equality.result in
    given_equality lives c.args.place c.args.unknown x c.requires.rule (live_there lives c.args.place x (given_inside lives c.args.place c.args.unknown c.requires.rule) c.remove-equality.ensures.value)

pub returns-clause-logged : goal.returns-clause-logged
returns-clause-logged c = c.go_on.ensures.logged c.args.log.now c.solve.new.log c.in_ok-stepped.ensures.logged

pub returns-clause-tidy : goal.returns-clause-tidy
returns-clause-tidy c =
    c.go_on.ensures.tidy
    (then_standing c.in_ok-stepped.stepped (solved c.args.unknown c.remove-equality.result.row.poly (rows_of c.remove-equality.new.self.items)) c.in_ok-stepped.ensures.rows)
