use Rattle.std.proofs.Common.{◌≡◌, sym, ◌∙◌, ap, None}
use Rattle.cert_kit.specs.Acceptance.{IsGood}
use Rattle.cert_kit.proofs.FaultLaws.{no_fault_good, good_no_fault, rule_not_accepted, bound_not_within}
use Rattle.cert_kit.proofs.SoundLaws.{accepted_sound}
use Rattle.cert_check.specs.declared.checking.Verdict.TheVariants.{Accepted}
use Rattle.cert_check.specs.Verdict.{verdict_of}
use Rattle.cert_check.proofs.VerdictLaws.{accepted_is, rejected_is, size_is}
use Rattle.cert_check.proofs.checking.check.Goals as goal

good : (c : goal.After-verdict_on) → c.verdict_on.result ≡ Accepted → IsGood c.args.clause.now.rows c.args.cert.now
good c h =
    let e : verdict_of c.in_ok-fault_of.field-0 ≡ Accepted = sym c.verdict_on.ensures ∙ h in
    let fault = c.in_ok-fault_of.ensures in
    no_fault_good c.args.cert.now c.args.clause.now.rows (cc (accepted_is _ e, fault, c.as_slice.ensures))

back : (c : goal.After-verdict_on) → IsGood c.args.clause.now.rows c.args.cert.now → c.verdict_on.result ≡ Accepted
back c g =
    let e : c.in_ok-fault_of.field-0 ≡ None = cc (c.in_ok-fault_of.ensures, c.as_slice.ensures, good_no_fault c.args.cert.now c.args.clause.now.rows g) in
    c.verdict_on.ensures ∙ ap verdict_of e

pub returns-clause-accepted : goal.returns-clause-accepted
returns-clause-accepted c = (good c, back c)

pub returns-clause-rejected : goal.returns-clause-rejected
returns-clause-rejected c = λ h.
    rule_not_accepted c.args.cert.now c.args.clause.now.rows
    (cc (rejected_is _ (sym c.verdict_on.ensures ∙ h), c.in_ok-fault_of.ensures, c.as_slice.ensures))

pub returns-clause-size : goal.returns-clause-size
returns-clause-size c = λ h.
    bound_not_within c.args.cert.now c.args.clause.now.rows
    (cc (size_is _ (sym c.verdict_on.ensures ∙ h), c.in_ok-fault_of.ensures, c.as_slice.ensures))

pub returns-clause-sound : goal.returns-clause-sound
returns-clause-sound c = λ h. accepted_sound c.args.cert.now c.args.clause.now.rows (good c h).accepted
