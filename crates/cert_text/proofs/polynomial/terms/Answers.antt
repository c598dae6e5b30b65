use Rattle.std.proofs.Common.{sym}
use Rattle.std.proofs.lemmas.Result.{err_from_is_err_and}
use Rattle.cert_text.specs.Reading.{next_sign_at, next_term_at, terms_at}
use Rattle.cert_text.proofs.LoopSteps.{goes_on, fails, stops, is_done}
use Rattle.cert_text.proofs.polynomial.terms.Goals as goal

pub returns-in_default : goal.returns-in_default
returns-in_default c =
    stops next_sign_at next_term_at c.loop.terms.items 65536 c.loop.counter c.loop.rest.now (terms_at c.args.bytes.now) (sym c.in_default.ensures) c.loop.invariant

pub returns-in_err-next : goal.returns-in_err-next
returns-in_err-next c =
    let p = err_from_is_err_and c.from_residual-in_err-next.result c.from_residual-in_err-next.ensures.1 in
    rw (p.1, p.2) (fails c.in_err-next.field-0.0 next_sign_at next_term_at c.loop.terms.items 65536 c.loop.counter c.loop.rest.now (c.in-Some.negative, c.in-Some.after.now) (terms_at c.args.bytes.now)
    c.loop-test.true (sym c.in-Some.ensures) c.in_err-next.ensures c.loop.invariant)

pub loop-preserved : goal.loop-preserved
loop-preserved c =
    rw c.in_ok-push-2.ensures.items (goes_on next_sign_at next_term_at c.loop.terms.items 65536 c.loop.counter c.loop.rest.now (c.in-Some.negative, c.in-Some.after.now) c.in_ok-next.next c.in_ok-next.after.now
    (terms_at c.args.bytes.now) c.loop-test.true (sym c.in-Some.ensures) c.in_ok-next.ensures c.loop.invariant)

pub returns : goal.returns
returns c = is_done next_sign_at next_term_at c.loop.terms.items 65536 c.loop.counter c.loop.rest.now (terms_at c.args.bytes.now) c.loop-test.false c.loop.invariant
