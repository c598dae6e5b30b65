use Rattle.std.specs.Prelude.{◌≡◌, take}
use Rattle.cert_kit.proofs.same.+same.Given as goal

-- those so far are the same
abbrev pub invariant-are_same_certs-loop-n : goal.invariant-are_same_certs-loop-n
invariant-are_same_certs-loop-n l = take l.n l.certs ≡ take l.n l.others
