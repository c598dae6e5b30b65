use Rattle.std.proofs.Common.{ℕ, arith}
use Rattle.std.proofs.lemmas.List.{length-take}
use Rattle.mm_io.proofs.FrontLaws.{takes_more}
use Rattle.mm_io.proofs.source.read_all.Goals as goal

pub returns-in_err-map_err-clause-taken : goal.returns-in_err-map_err-clause-taken
returns-in_err-map_err-clause-taken g c =
    takes_more _ _ _ c.loop-chunk.bytes.items c.read.new.buf c.in-Ok.count _ c.loop-chunk.invariant.0 c.in-Ok.ensures.bytes.0
    (omega (arith, c.in-Ok.ensures.count, c.read.auto.buf, length-take {A = ℕ}))
