use Rattle.std.proofs.Common.{List, [], ◌∷◌, negsuc, ap, ◌∙◌, subst}
use Rattle.mm_poly.specs.declared.term.Term.{Term}
use Rattle.mm_poly.specs.Poly.{scaled}
use Rattle.cert_kit.specs.Meaning.{at_least_0}
use Rattle.fm_elim.specs.machine.Halves.{half_of, other_half_of}
use Rattle.fm_elim.specs.machine.Tidying.{Feeds}
use Rattle.fm_elim.proofs.FedLaws.{goes_first, goes_two}
use Rattle.fm_elim.proofs.LoggingLaws.{found_is, logs_both, live_at, live_grown, same_derives}
use Rattle.fm_elim.proofs.PartLaws.{half_derives, other_half_derives}
use Rattle.mm_poly.proofs.PolyLaws.{poly_scaled}
use Rattle.fm_elim.specs.declared.source.Combination.TheVariants.{OtherHalf}
use Rattle.fm_elim.specs.machine.Logging.{all_rows}
use Rattle.std.proofs.Common.{true, false}
use Rattle.fm_elim.proofs.standing.take_halves.Goals as goal

pub returns-clause-goes : goal.returns-clause-goes
returns-clause-goes c =
    let e = c.negated.ensures ∙ ap (λ (p : List Term). scaled (negsuc 0) p) c.in_ok-copy.ensures in
    goes_two c.args.kept.now c.take.new.self c.take-2.new.self c.in_ok-take.field-0 c.in_ok-found.found (half_of c.args.live.row) (at_least_0 (scaled (negsuc 0) c.args.live.row.poly))
    c.if-branch.false c.in_ok-take.ensures.feeds
    (subst (λ (p : List Term). Feeds c.in_ok-found.found c.take.new.self c.take-2.new.self (at_least_0 p ∷ [])) e c.in_ok-found.ensures.feeds)

pub take-requires-clause-derives : goal.take-requires-clause-derives
take-requires-clause-derives c =
    half_derives (all_rows c.args.log.now) c.args.live.number c.args.live.row (live_at c.args.log.now c.args.live c.requires.live)

pub take-requires-2-clause-logged : goal.take-requires-2-clause-logged
take-requires-2-clause-logged c = c.in_ok-take.ensures.logged.logged

pub take-requires-2-clause-derives : goal.take-requires-2-clause-derives
take-requires-2-clause-derives c =
    let live = live_grown c.args.log.now c.take.new.log c.args.live c.in_ok-take.ensures.logged.grows c.requires.live in
    let e = c.negated.ensures ∙ ap (λ (p : List Term). scaled (negsuc 0) p) c.in_ok-copy.ensures in
    same_derives c.take.new.log (OtherHalf c.args.live.number) (at_least_0 c.negated.result) (at_least_0 (scaled (negsuc 0) c.args.live.row.poly))
    (other_half_derives (all_rows c.take.new.log) c.args.live.number c.args.live.row (live_at c.take.new.log c.args.live live) c.requires.equality
    (poly_scaled (negsuc 0) c.args.live.row.poly c.requires.live.fits.order)) (ap (λ (p : List Term). at_least_0 p) e)

pub returns-then-branch-clause-logged : goal.returns-then-branch-clause-logged
returns-then-branch-clause-logged c = found_is c.in_ok-take.field-0 true c.args.log.now c.take.new.log c.take.new.self.rows.items c.if-branch.true c.in_ok-take.ensures.logged

pub returns-clause-logged : goal.returns-clause-logged
returns-clause-logged c =
    logs_both c.in_ok-found.found c.args.log.now c.take.new.log c.take-2.new.log c.take.new.self.rows.items c.take-2.new.self.rows.items
    (found_is c.in_ok-take.field-0 false c.args.log.now c.take.new.log c.take.new.self.rows.items c.if-branch.false c.in_ok-take.ensures.logged) c.in_ok-found.ensures.logged

pub returns-then-branch-clause-goes : goal.returns-then-branch-clause-goes
returns-then-branch-clause-goes c =
    goes_first c.args.kept.now c.take.new.self c.in_ok-take.field-0 (half_of c.args.live.row) (other_half_of c.args.live.row) c.if-branch.true c.in_ok-take.ensures.feeds
