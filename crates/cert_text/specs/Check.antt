-- The limits of a check: of its rows, and of its certificate.
use Rattle.std.specs.Prelude.{◌≡◌, ◌^◌, ◌<◌, ◌≤◌, List, [], ◌∷◌, length, Bool, true, nat_lt, ◌&&◌}
use Rattle.std.specs.List.{AllByRecursion}
use Rattle.mm_poly.specs.Poly.{Fits}
use Rattle.cert_kit.specs.declared.row.PRow.{PRow}
use Rattle.cert_kit.specs.declared.cert.Psatz.{Psatz}
use Rattle.cert_kit.specs.declared.cert.Psatz.TheOpen.{Psatz-F}
use Rattle.cert_kit.specs.declared.cert.Psatz.TheFolds.{fold-Psatz}
use Rattle.cert_kit.specs.declared.cert.Step.{Step}
use Rattle.cert_kit.specs.declared.cert.Step.TheVariants.{Rat, Cut}
use Rattle.cert_kit.specs.declared.cert.Cert.{Cert}
use Rattle.cert_kit.specs.declared.cert.Close.{Close}
use Rattle.cert_kit.specs.declared.cert.Close.TheOpen.{Close-F, Cert-F}
use Rattle.cert_kit.specs.declared.cert.Close.TheFolds.{fold-Close, fold-Cert}
use Rattle.cert_kit.specs.Depth.{cert_depth, cert_constants, all_in_range}
use Rattle.mm_poly.specs.Tests.{is_polynomial}

-- a row whose terms are a polynomial within its bounds, so its variables are below 2^32 and no exponent is above 255
pub record IsRow (r : PRow) : Type 0 where
  pub fits : Fits r.poly

-- fewer than 2^32 rows
abbrev pub AreRows : List PRow → Type 0
AreRows rows = AllByRecursion IsRow rows × (length rows < 2 ^ 32)

abbrev pub psatz_level_within : Psatz-F Bool → Bool
psatz_level_within (Psatz-F.Hyp n) = nat_lt n (2 ^ 32)
psatz_level_within (Psatz-F.Square p) = is_polynomial p
psatz_level_within (Psatz-F.MulPoly p e) = is_polynomial p && e
psatz_level_within (Psatz-F.Mul e f) = e && f
psatz_level_within (Psatz-F.Add e f) = e && f
psatz_level_within (Psatz-F.Const c) = true
psatz_level_within Psatz-F.Zero = true

-- whether each row number of an expression is below 2^32, and each polynomial is as that of a row
abbrev pub is_psatz_within : Psatz → Bool
is_psatz_within = fold-Psatz Bool psatz_level_within

abbrev pub is_step_within : Step → Bool
is_step_within (Rat e) = is_psatz_within e
is_step_within (Cut e) = is_psatz_within e

abbrev pub are_steps_within : List Step → Bool
are_steps_within [] = true
are_steps_within (s ∷ steps) = is_step_within s && are_steps_within steps

abbrev pub close_level_within : Close-F Bool Bool → Bool
close_level_within Close-F.Done = true
close_level_within (Close-F.Split p c d) = is_polynomial p && (c && d)
close_level_within (Close-F.Enum b cs) = (is_psatz_within b.lower && is_psatz_within b.upper) && (nat_lt (length cs) (2 ^ 32) && all_in_range cs)

abbrev pub cert_level_within : Cert-F Bool Bool → Bool
cert_level_within c = are_steps_within c.steps && c.close

abbrev pub is_close_within : Close → Bool
is_close_within = fold-Close Bool Bool close_level_within cert_level_within

-- whether each expression of a certificate and each polynomial is so, and each enumeration has fewer than 2^32 members
abbrev pub is_cert_within : Cert → Bool
is_cert_within = fold-Cert Bool Bool close_level_within cert_level_within

abbrev pub close_level_few : Close-F Bool Bool → Bool
close_level_few Close-F.Done = true
close_level_few (Close-F.Split p c d) = c && d
close_level_few (Close-F.Enum b cs) = nat_lt (length cs) (2 ^ 32) && all_in_range cs

abbrev pub cert_level_few : Cert-F Bool Bool → Bool
cert_level_few c = c.close

abbrev pub close_has_few_members : Close → Bool
close_has_few_members = fold-Close Bool Bool close_level_few cert_level_few

-- whether each enumeration of a certificate has fewer than 2^32 members
abbrev pub has_few_members : Cert → Bool
has_few_members = fold-Cert Bool Bool close_level_few cert_level_few

-- a certificate within the limits: its constants are at least 1 and small
pub record IsCert (c : Cert) : Type 0 where
  pub depth : cert_depth c ≤ 4096
  pub constants : cert_constants c ≡ true
  pub parts : is_cert_within c ≡ true

-- rows and a certificate within the limits
pub record IsCheck (rows : List PRow) (c : Cert) : Type 0 where
  pub all_rows : AreRows rows
  pub certificate : IsCert c
