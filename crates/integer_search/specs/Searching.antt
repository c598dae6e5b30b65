-- What the search finds.
use Rattle.std.specs.Prelude.{ℤ, List}
use Rattle.cert_kit.specs.declared.cert.Cert.{Cert}
use Rattle.integer_search.specs.declared.searching.Found.{Found}
use Rattle.integer_search.specs.declared.searching.Found.TheVariants as found

abbrev pub IfCert : (Cert → Type 0) → Found → Type 0
IfCert P (found.Cert c) = P c
IfCert P f = Unit {0}

abbrev pub IfPoint : (List ℤ → Type 0) → Found → Type 0
IfPoint P (found.Point values) = P values.items
IfPoint P f = Unit {0}
