use Rattle.std.proofs.Common.{◌≡◌, ◌++◌, [], drop, map}
use Rattle.box_enum.specs.machine.Reading.{span_of}
use Rattle.box_enum.proofs.bounds.no_spans.Given as goal

-- what is out, and those that are left
abbrev pub invariant-loop-var : goal.invariant-loop-var
invariant-loop-var l = l.spans.items ++ map (span_of []) (drop l._var-index l.vars) ≡ map (span_of []) l.vars
