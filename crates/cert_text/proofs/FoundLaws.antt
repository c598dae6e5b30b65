-- A line at the front of bytes, and its length.
use Rattle.std.specs.Prelude.{◌≡◌, ◌-◌, ◌≤◌, ℕ, List, ◌++◌, length, drop, Some, None}
use Rattle.std.proofs.Common.{ap, sym, ◌∙◌, length-append, arith}
use Rattle.std.proofs.Math.Seq.{drop-append_seam}
use Rattle.cert_kit.specs.declared.row.PRow.{PRow}
use Rattle.cert_kit.specs.declared.cert.Cert.{Cert}
use Rattle.cert_text.specs.Text.{row_line, cert_line}
use Rattle.cert_text.specs.Place.{FindsRow, FindsCert}
use Rattle.cert_text.specs.Reading.{row_at, cert_line_at}
use Rattle.cert_text.proofs.RowLaws.{row_takes, no_row_at}
use Rattle.cert_text.proofs.CertLaws.{cert_line_takes, no_cert_at}

-- what stands in front of the rest
front_is : (bytes front rest : List ℕ) → bytes ≡ front ++ rest → (bytes ≡ front ++ drop (length bytes - length rest) bytes) × (length bytes - length rest ≡ length front)
front_is bytes front rest e =
    let n : length bytes - length rest ≡ length front = omega (arith, ap length e, length-append front rest) in
    let left : drop (length bytes - length rest) bytes ≡ rest = ap (λ k. drop k bytes) n ∙ ap (drop (length front)) e ∙ drop-append_seam front rest in
    (e ∙ ap (λ t. front ++ t) (sym left), n)

pub row_found : (bytes : List ℕ) (r : PRow) (rest : List ℕ) (n : ℕ) → Some (r, rest) ≡ row_at bytes → n ≡ length bytes - length rest → FindsRow bytes (Some (r, n))
row_found bytes r rest n e m =
    let t = row_takes bytes r rest (sym e) in
    let f = front_is bytes (row_line r) rest t.0 in
    rw m (t.1, f.0, f.1)

pub row_short : (bytes : List ℕ) (r : PRow) (rest : List ℕ) → Some (r, rest) ≡ row_at bytes → length rest ≤ length bytes
row_short bytes r rest e = let t = row_takes bytes r rest (sym e) in omega (arith, ap length t.0, length-append (row_line r) rest)

pub row_missing : (bytes : List ℕ) → None ≡ row_at bytes → FindsRow bytes None
row_missing bytes e = no_row_at bytes (sym e)

pub cert_found : (bytes : List ℕ) (c : Cert) (rest : List ℕ) (n : ℕ) → cert_line_at bytes ≡ Some (c, rest) → n ≡ length bytes - length rest → FindsCert bytes (Some (c, n))
cert_found bytes c rest n e m =
    let t = cert_line_takes bytes c rest e in
    let f = front_is bytes (cert_line c) rest t.0 in
    rw m (t.1, f.0, f.1)

pub cert_missing : (bytes : List ℕ) → cert_line_at bytes ≡ None → FindsCert bytes None
cert_missing bytes e = no_cert_at bytes e
