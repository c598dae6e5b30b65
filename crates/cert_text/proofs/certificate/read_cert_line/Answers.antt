use Rattle.cert_text.proofs.FoundLaws.{cert_found}
use Rattle.cert_text.proofs.certificate.read_cert_line.Goals as goal

pub returns-in-Ok : goal.returns-in-Ok
returns-in-Ok c = cert_found c.args.bytes.now c.in-Ok.cert c.in-Ok.rest.now c.front_length.result c.in-Ok.ensures c.front_length.ensures
