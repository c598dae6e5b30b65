-- Where the bytes of no check go wrong: at the first line that doesn't fit.
--
-- A line ends with its line feed. The line of a row fits before the certificate's, while there are fewer than
-- 2^32 - 1 rows before it; one line of a certificate fits, and after it none.
use Rattle.std.specs.Prelude.{◌≡◌, ◌≢◌, ℕ, ◌-◌, ◌^◌, List, [], ◌++◌, length, drop, Option, Some, None, ◌⊎◌}
use Rattle.std.specs.List.{flat_map}
use Rattle.cert_kit.specs.declared.row.PRow.{PRow}
use Rattle.cert_kit.specs.declared.cert.Cert.{Cert}
use Rattle.cert_text.specs.declared.fail.CheckText.{CheckText}
use Rattle.cert_text.specs.declared.fail.CheckText.TheVariants.{Bad, NoMemory}
use Rattle.cert_text.specs.Text.{row_line, cert_line, check_text}
use Rattle.cert_text.specs.Check.{IsRow, AreRows, IsCert, IsCheck}

-- the bytes spell no rows and certificate within the limits
abbrev pub IsNoCheck : List ℕ → Type 0
IsNoCheck bytes = (rows : List PRow) (c : Cert) → IsCheck rows c → bytes ≢ check_text rows c

-- the bytes begin with the line of a row
abbrev pub BeginsRow : List ℕ → Type 0
BeginsRow bytes = (r : PRow) × (rest : List ℕ) × IsRow r × (bytes ≡ row_line r ++ rest)

-- the bytes begin with the line of a certificate
abbrev pub BeginsCert : List ℕ → Type 0
BeginsCert bytes = (c : Cert) × (rest : List ℕ) × IsCert c × (bytes ≡ cert_line c ++ rest)

-- the line of a row at the front of the bytes and its length, or none where no such line stands there
abbrev pub FindsRow : List ℕ → Option (PRow × ℕ) → Type 0
FindsRow bytes None = BeginsRow bytes → ⊥
FindsRow bytes (Some x) = IsRow x.0 × (bytes ≡ row_line x.0 ++ drop x.1 bytes) × (x.1 ≡ length (row_line x.0))

-- the line of a certificate at the front of the bytes and its length, or none where no such line stands there
abbrev pub FindsCert : List ℕ → Option (Cert × ℕ) → Type 0
FindsCert bytes None = BeginsCert bytes → ⊥
FindsCert bytes (Some x) = IsCert x.0 × (bytes ≡ cert_line x.0 ++ drop x.1 bytes) × (x.1 ≡ length (cert_line x.0))

-- after lines of rows neither a row's line fits nor a certificate's; where no bytes are left, it's their length
pub record LinesEnd (bytes : List ℕ) (at : ℕ) : Type 0 where
  pub rows : List PRow
  pub rest : List ℕ
  pub split : bytes ≡ flat_map row_line rows ++ rest
  pub good : AreRows rows
  pub no_row : (length rows ≡ 2 ^ 32 - 1) ⊎ (BeginsRow rest → ⊥)
  pub no_cert : BeginsCert rest → ⊥
  pub place : at ≡ length (flat_map row_line rows)

-- bytes follow the line of the certificate
pub record BytesFollow (bytes : List ℕ) (at : ℕ) : Type 0 where
  pub rows : List PRow
  pub cert : Cert
  pub rest : List ℕ
  pub split : bytes ≡ check_text rows cert ++ rest
  pub good : IsCheck rows cert
  pub more : rest ≢ []
  pub place : at ≡ length (check_text rows cert)

-- the place of the first line that doesn't fit
abbrev pub IsBadAt : List ℕ → ℕ → Type 0
IsBadAt bytes at = LinesEnd bytes at ⊎ BytesFollow bytes at

-- bytes are refused where they are no check, at the place of the first line that doesn't fit
abbrev pub IsBad : List ℕ → CheckText → Type 0
IsBad bytes (Bad at) = IsNoCheck bytes × IsBadAt bytes at
IsBad bytes NoMemory = Unit {0}
