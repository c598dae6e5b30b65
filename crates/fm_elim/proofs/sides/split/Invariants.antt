use Rattle.fm_elim.specs.machine.Sides.{IsSplit, AreParts}
use Rattle.fm_elim.proofs.sides.split.Given as goal

abbrev pub invariant-loop-live : goal.invariant-loop-live
invariant-loop-live l = record {
  rows : IsSplit l.unknown l.yielded l.parts;
  lives : AreParts l.unknown l.yielded l.parts;
}
