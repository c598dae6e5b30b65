use Rattle.std.proofs.Common.{take}
use Rattle.std.specs.List.{flat_map}
use Rattle.cert_kit.specs.Bytes.{term_bytes}
use Rattle.cert_kit.proofs.bytes.put_terms.Given as goal

abbrev pub invariant-loop-term : goal.invariant-loop-term
invariant-loop-term g l = g.S.ByteSink.took l.fn.sink (flat_map term_bytes (take l.term-index l.terms)) l.sink
