use Rattle.std.proofs.Common.{◌≡◌, drop}
use Rattle.fm_elim.specs.machine.Choice.{place_from}
use Rattle.fm_elim.proofs.unknowns.place_of.Given as goal

abbrev pub invariant-loop-place : goal.invariant-loop-place
invariant-loop-place l = place_from (drop l.place l.found) l.mono l.place ≡ place_from l.found l.mono 0
