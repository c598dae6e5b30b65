-- Reading all of the bytes, with the place of the first line that doesn't fit.
use Rattle.std.specs.Prelude.{◌≡◌, ℕ, ◌-◌, ◌^◌, List, length, Some, None, Result, Ok, Err, ◌==◌, if◌then◌else◌}
use Rattle.cert_kit.specs.declared.row.PRow.{PRow}
use Rattle.cert_kit.specs.declared.row.Clause.{Clause}
use Rattle.cert_kit.specs.declared.cert.Cert.{Cert}
use Rattle.cert_text.specs.declared.fail.CheckText.{CheckText}
use Rattle.cert_text.specs.declared.fail.CheckText.TheVariants.{Bad, NoMemory}
use Rattle.cert_text.specs.Reading.{rows_at, cert_line_at}

-- a check is read where nothing follows it; else the place after it
abbrev pub whole_at : List ℕ → List PRow → Cert × List ℕ → Result (List PRow × Cert) ℕ
whole_at bytes rows c = if length c.1 == 0 then Ok (rows, c.0) else Err (length bytes - length c.1)

-- the certificate's line after the rows; where there is none, the place after the rows
abbrev pub last_at : List ℕ → List PRow × List ℕ → Result (List PRow × Cert) ℕ
last_at bytes rows = elim (cert_line_at rows.1) [ None ↦ Err (length bytes - length rows.1) | Some c ↦ whole_at bytes rows.0 c ]

-- all of the bytes, or the place of the first line that doesn't fit
unfoldable pub check_at : List ℕ → Result (List PRow × Cert) ℕ
check_at bytes = last_at bytes (rows_at (2 ^ 32 - 1) bytes)

-- what a function returned is what reading gives, unless memory ran out
abbrev pub CheckGives : Result (Clause × Cert) CheckText → Result (List PRow × Cert) ℕ → Type 0
CheckGives (Ok x) read = read ≡ Ok (x.0.rows, x.1)
CheckGives (Err (Bad at)) read = read ≡ Err at
CheckGives (Err NoMemory) read = Unit {0}
