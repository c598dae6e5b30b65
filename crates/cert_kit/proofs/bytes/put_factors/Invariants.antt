use Rattle.std.proofs.Common.{take}
use Rattle.std.specs.List.{flat_map}
use Rattle.cert_kit.specs.Bytes.{factor_bytes}
use Rattle.cert_kit.proofs.bytes.put_factors.Given as goal

abbrev pub invariant-loop-factor : goal.invariant-loop-factor
invariant-loop-factor g l = g.S.ByteSink.took l.fn.sink (flat_map factor_bytes (take l.factor-index l.factors)) l.sink
