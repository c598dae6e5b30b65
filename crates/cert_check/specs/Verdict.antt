-- The verdict on a certificate goes by its first fault.
use Rattle.std.specs.Prelude.{Option, Some, None}
use Rattle.cert_kit.specs.declared.node.Fault.{Fault}
use Rattle.cert_kit.specs.declared.node.Fault.TheVariants.{Rule, Bound}
use Rattle.cert_check.specs.declared.checking.Verdict.{Verdict}
use Rattle.cert_check.specs.declared.checking.Verdict.TheVariants.{Accepted, Rejected, Size}

-- accepted where there is no fault, rejected where a rule isn't met, and size where a bound is passed
abbrev pub verdict_of : Option Fault → Verdict
verdict_of None = Accepted
verdict_of (Some Rule) = Rejected
verdict_of (Some Bound) = Size
