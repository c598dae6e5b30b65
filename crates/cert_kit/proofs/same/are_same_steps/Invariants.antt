use Rattle.std.specs.Prelude.{◌≡◌, take}
use Rattle.cert_kit.proofs.same.are_same_steps.Given as goal

-- those so far are the same
abbrev pub invariant-loop-n : goal.invariant-loop-n
invariant-loop-n l = take l.n l.steps ≡ take l.n l.others
