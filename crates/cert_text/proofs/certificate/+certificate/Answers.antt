use Rattle.std.proofs.Common.{◌-◌, ◌^◌, sym}
use Rattle.std.specs.Prelude.{codes}
use Rattle.std.proofs.lemmas.Result.{err_from_is_err_and}
use Rattle.cert_text.specs.Reading.{after, members_at, cert_at}
use Rattle.cert_text.proofs.LoopSteps.{goes_on, fails, stops, is_done}
use Rattle.cert_text.proofs.certificate.+certificate.Goals as goal

pub members-returns-in_default : goal.members-returns-in_default
members-returns-in_default t c =
    stops (after (codes ", ")) (cert_at c.args.depth) c.loop.members.items (2 ^ 32 - 1) c.loop.counter c.loop.rest.now (members_at (cert_at c.args.depth) c.args.bytes.now) (sym c.in_default.ensures) c.loop.invariant

pub members-returns-in_err-next : goal.members-returns-in_err-next
members-returns-in_err-next t c =
    let p = err_from_is_err_and c.from_residual.result c.from_residual.ensures.1 in
    rw (p.1, p.2) (fails c.in_err-next.field-0.0 (after (codes ", ")) (cert_at c.args.depth) c.loop.members.items (2 ^ 32 - 1) c.loop.counter c.loop.rest.now c.in-Some.after.now (members_at (cert_at c.args.depth) c.args.bytes.now)
    c.loop-test.true (sym c.in-Some.ensures) c.in_err-next.ensures c.loop.invariant)

pub members-loop-preserved : goal.members-loop-preserved
members-loop-preserved t c =
    rw c.in_ok-push_member.ensures (goes_on (after (codes ", ")) (cert_at c.args.depth) c.loop.members.items (2 ^ 32 - 1) c.loop.counter c.loop.rest.now c.in-Some.after.now c.in_ok-next.next c.in_ok-next.after.now
    (members_at (cert_at c.args.depth) c.args.bytes.now) c.loop-test.true (sym c.in-Some.ensures) c.in_ok-next.ensures c.loop.invariant)

pub members-returns : goal.members-returns
members-returns t c =
    is_done (after (codes ", ")) (cert_at c.args.depth) c.loop.members.items (2 ^ 32 - 1) c.loop.counter c.loop.rest.now (members_at (cert_at c.args.depth) c.args.bytes.now) c.loop-test.false c.loop.invariant
