-- The name of a clause.
use Rattle.std.specs.Prelude.{ℕ, List, map}
use Rattle.std.specs.List.{range_with_len}
use Rattle.sha2.specs.Sha256.{sha256}
use Rattle.cert_kit.specs.declared.row.Clause.{Clause}
use Rattle.cert_kit.specs.Bytes.{rows_bytes}
use Rattle.clause_form.specs.Key.{hex_digit_at}

-- the first 16 hexadecimal digits, in lower case, of the SHA-256 of its key
unfoldable pub key_name : Clause → List ℕ
key_name c = map (hex_digit_at (sha256 (rows_bytes c.rows))) (range_with_len 0 16)
