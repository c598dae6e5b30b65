use Rattle.std.proofs.Common.{subst}
use Rattle.cert_text.specs.Place.{FindsCert}
use Rattle.report_text.proofs.BetweenLaws.{cert_found, cert_missing}
use Rattle.report_text.proofs.between.certificate_line.Goals as goal

pub returns-in-Some : goal.returns-in-Some
returns-in-Some c =
    cert_found c.args.bytes.now c.after.result.now c.in-Some.cert c.in-Some.length (subst (FindsCert c.args.bytes.now) c.in-Some.is c.in_ok-cert.ensures) c.after.ensures

pub returns-in-None : goal.returns-in-None
returns-in-None c = cert_missing c.args.bytes.now (subst (FindsCert c.args.bytes.now) c.in-None.is c.in_ok-cert.ensures)
