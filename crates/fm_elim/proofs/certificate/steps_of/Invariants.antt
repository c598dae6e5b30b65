use Rattle.std.proofs.Common.{◌≡◌, ◌++◌, drop}
use Rattle.std.specs.List.{AllByRecursion}
use Rattle.fm_elim.specs.machine.Logging.{steps_of, HasSizes}
use Rattle.fm_elim.proofs.certificate.steps_of.Given as goal

abbrev pub invariant-loop-source : goal.invariant-loop-source
invariant-loop-source l = record {
  made : l.steps.items ++ steps_of (drop l.source-index l.sources) ≡ steps_of l.sources;
  sized : AllByRecursion HasSizes (drop l.source-index l.sources);
}
