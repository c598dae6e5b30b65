-- Each verdict is that of one kind of fault, or of none.
use Rattle.std.specs.Prelude.{◌≡◌, Option, Some, None, refl}
use Rattle.cert_kit.specs.declared.node.Fault.{Fault}
use Rattle.cert_kit.specs.declared.node.Fault.TheVariants.{Rule, Bound}
use Rattle.cert_check.specs.declared.checking.Verdict.TheVariants.{Accepted, Rejected, Size}
use Rattle.cert_check.specs.Verdict.{verdict_of}

pub accepted_is : (o : Option Fault) → verdict_of o ≡ Accepted → o ≡ None
accepted_is None h = refl
accepted_is (Some Rule) h = absurd (cc)
accepted_is (Some Bound) h = absurd (cc)

pub rejected_is : (o : Option Fault) → verdict_of o ≡ Rejected → o ≡ Some Rule
rejected_is None h = absurd (cc)
rejected_is (Some Rule) h = refl
rejected_is (Some Bound) h = absurd (cc)

pub size_is : (o : Option Fault) → verdict_of o ≡ Size → o ≡ Some Bound
size_is None h = absurd (cc)
size_is (Some Rule) h = absurd (cc)
size_is (Some Bound) h = refl
