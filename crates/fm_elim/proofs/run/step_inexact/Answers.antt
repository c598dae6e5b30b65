use Rattle.std.proofs.Common.{◌∙◌, pos}
use Rattle.fm_elim.specs.machine.Sides.{sides_of, sums_of}
use Rattle.fm_elim.specs.machine.Tidying.{rows_of, AreStanding, then_tidied}
use Rattle.std.specs.Ordering.{int_eq}
use Rattle.cert_kit.specs.declared.row.PRow.{PRow}
use Rattle.fm_elim.specs.Unknowns.{coeff_in}
use Rattle.fm_elim.proofs.StandingLaws.{standing_filter, then_standing}
use Rattle.fm_elim.proofs.RunLaws.{inexact_next}
use Rattle.std.proofs.Common.{sym, subst}
use Rattle.std.specs.List.{AllByRecursion}
use Rattle.fm_elim.specs.machine.Logging.{IsLiveSide}
use Rattle.fm_elim.proofs.LoggingLaws.{without_live, lowers_live, uppers_live}
use Rattle.fm_elim.proofs.run.step_inexact.Goals as goal

pub returns-clause-next : goal.returns-clause-next
returns-clause-next c =
    let u = c.args.unknown in
    let parts = c.in_ok-parts.parts in
    λ n whole e. c.go_on.ensures.next n (then_tidied (sums_of u (rows_of parts.without.items) (sides_of c.deref.result.now) (sides_of c.deref-2.result.now))) whole c.in_ok-stepped.ensures.rows
    (e ∙ inexact_next n c.args.state.norm c.args.state.exact c.args.state.removed.items u c.args.state.rows.items parts c.deref.result.now c.deref-2.result.now
    c.in_ok-parts.ensures.rows c.deref.ensures.value c.deref-2.ensures.value)

pub eliminate-requires-clause-logged : goal.eliminate-requires-clause-logged
eliminate-requires-clause-logged c = record {
  sound = c.requires.logged.sound;
  lives = without_live c.args.log.now c.args.unknown c.args.state.rows.items c.in_ok-parts.parts c.in_ok-parts.ensures.lives c.requires.logged.lives;
}

pub eliminate-requires-clause-live_lowers : goal.eliminate-requires-clause-live_lowers
eliminate-requires-clause-live_lowers c =
    subst (AllByRecursion (IsLiveSide c.args.log.now)) (sym c.deref.ensures.value)
    (lowers_live c.args.log.now c.args.unknown c.args.state.rows.items c.in_ok-parts.parts c.in_ok-parts.ensures.lives c.requires.logged.lives c.requires.inequalities)

pub eliminate-requires-clause-live_uppers : goal.eliminate-requires-clause-live_uppers
eliminate-requires-clause-live_uppers c =
    subst (AllByRecursion (IsLiveSide c.args.log.now)) (sym c.deref-2.ensures.value)
    (uppers_live c.args.log.now c.args.unknown c.args.state.rows.items c.in_ok-parts.parts c.in_ok-parts.ensures.lives c.requires.logged.lives c.requires.inequalities)

pub returns-clause-logged : goal.returns-clause-logged
returns-clause-logged c = c.go_on.ensures.logged c.args.log.now c.eliminate.new.log c.in_ok-stepped.ensures.logged

pub eliminate-requires-clause-tidy : goal.eliminate-requires-clause-tidy
eliminate-requires-clause-tidy c =
    subst AreStanding (sym c.in_ok-parts.ensures.rows.without_is)
    (standing_filter (λ (r : PRow). int_eq (coeff_in c.args.unknown r) (pos 0)) (rows_of c.args.state.rows.items) c.requires.tidy)

pub returns-clause-tidy : goal.returns-clause-tidy
returns-clause-tidy c =
    let parts = c.in_ok-parts.parts in
    c.go_on.ensures.tidy
    (then_standing c.in_ok-stepped.stepped (sums_of c.args.unknown (rows_of parts.without.items) (sides_of c.deref.result.now) (sides_of c.deref-2.result.now)) c.in_ok-stepped.ensures.rows)
