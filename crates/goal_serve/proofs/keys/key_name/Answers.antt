use Rattle.std.proofs.Common.{◌≡◌, length, arith}
use Rattle.std.proofs.lemmas.Grind.{common_steps}
use Rattle.sha2.specs.Sha256.{sha256}
use Rattle.cert_kit.specs.Bytes.{rows_bytes}
use Rattle.clause_form.specs.Key.{hex_digit_at}
use Rattle.goal_serve.specs.KeyName.{key_name}
use Rattle.goal_serve.proofs.KeyNameLaws.{of_digits}
use Rattle.goal_serve.proofs.keys.key_name.Goals as goal

pub returns : goal.returns
unfolding key_name
returns c =
    let len : length c.clause_name.result ≡ 16 = grind (arith, common_steps) in
    of_digits (hex_digit_at (sha256 (rows_bytes c.args.clause.now.rows))) c.clause_name.result 16 len c.clause_name.ensures
