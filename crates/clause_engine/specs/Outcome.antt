-- What is said of a clause.
use Rattle.std.specs.Prelude.{ℤ, List}
use Rattle.cert_kit.specs.declared.cert.Cert.{Cert}
use Rattle.clause_engine.specs.declared.outcome.Outcome.{Outcome}
use Rattle.clause_engine.specs.declared.outcome.Outcome.TheVariants as outcomes
use Rattle.clause_engine.specs.declared.outcome.Why.{Why}

abbrev pub IfCert : (Cert → Type 0) → Outcome → Type 0
IfCert P (outcomes.Cert c) = P c
IfCert P o = Unit {0}

abbrev pub IfPoint : (List ℤ → Why → Type 0) → Outcome → Type 0
IfPoint P (outcomes.Point values why) = P values why
IfPoint P o = Unit {0}

abbrev pub IfUnsettled : (Why → Type 0) → Outcome → Type 0
IfUnsettled P (outcomes.Unsettled why) = P why
IfUnsettled P o = Unit {0}
