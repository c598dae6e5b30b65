-- What comes of a box.
use Rattle.std.specs.Prelude.{◌≡◌, ℕ, ℤ, List, Some, None}
use Rattle.cert_kit.specs.declared.row.PRow.{PRow}
use Rattle.cert_kit.specs.declared.cert.Cert.{Cert}
use Rattle.box_enum.specs.declared.end.BoxEnd.{BoxEnd}
use Rattle.box_enum.specs.declared.end.BoxEnd.TheVariants as ends
use Rattle.box_enum.specs.Box.{IsBoxed, first_point}

-- too wide exactly where the rows aren't boxed within the turns, else the first point that solves them, and a certificate
-- exactly where there is none
abbrev pub EndsBox : ℕ → List PRow → BoxEnd → Type 0
EndsBox turns rows (ends.Cert c) = IsBoxed turns rows × (first_point rows ≡ None)
EndsBox turns rows (ends.Point zs) = IsBoxed turns rows × (first_point rows ≡ Some zs)
EndsBox turns rows ends.TooWide = IsBoxed turns rows → ⊥

abbrev pub IfCert : (Cert → Type 0) → BoxEnd → Type 0
IfCert P (ends.Cert c) = P c
IfCert P e = Unit {0}

abbrev pub IfPoint : (List ℤ → Type 0) → BoxEnd → Type 0
IfPoint P (ends.Point zs) = P zs
IfPoint P e = Unit {0}
