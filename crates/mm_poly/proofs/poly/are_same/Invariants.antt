use Rattle.std.specs.Prelude.{◌≡◌, take}
use Rattle.mm_poly.proofs.poly.are_same.Given as goal

-- those so far are the same
abbrev pub invariant-loop-n : goal.invariant-loop-n
invariant-loop-n l = take l.n l.left ≡ take l.n l.right
