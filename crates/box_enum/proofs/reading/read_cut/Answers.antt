use Rattle.std.proofs.Common.{arith}
use Rattle.std.proofs.lemmas.Int.{ints}
use Rattle.box_enum.proofs.ReadingLaws.{nothing_read, cut_read}
use Rattle.box_enum.proofs.reading.read_cut.Goals as goal

pub returns-then-unknowns-ne1 : goal.returns-then-unknowns-ne1
returns-then-unknowns-ne1 c = nothing_read c.args.row.now _ c.spread.ensures.fits c.unknowns-unknowns.ensures c.if-unknowns-ne1.true

pub returns-then-divisor-le1 : goal.returns-then-divisor-le1
returns-then-divisor-le1 c = cut_read c.args.row.now _ c.spread.ensures.fits (omega (arith, ints, c.content-divisor.ensures.value, c.if-divisor-le1.true)) c.read_row.ensures
