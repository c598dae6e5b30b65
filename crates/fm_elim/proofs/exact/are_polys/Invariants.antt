use Rattle.std.proofs.Common.{take}
use Rattle.std.specs.List.{AllByRecursion}
use Rattle.mm_poly.specs.Poly.{IsPoly}
use Rattle.cert_kit.specs.declared.row.PRow.{PRow}
use Rattle.fm_elim.specs.machine.Tidying.{rows_of}
use Rattle.fm_elim.proofs.exact.are_polys.Given as goal

abbrev pub invariant-loop-live : goal.invariant-loop-live
invariant-loop-live l = AllByRecursion (λ (r : PRow). IsPoly r.poly) (rows_of (take l.live-index l.rows))
