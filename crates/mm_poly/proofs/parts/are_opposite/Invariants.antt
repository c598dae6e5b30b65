use Rattle.std.specs.Prelude.{◌≡◌, drop}
use Rattle.mm_poly.specs.Poly.{is_opposite}
use Rattle.mm_poly.proofs.parts.are_opposite.Given as goal

-- what is left decides
abbrev pub invariant-loop-n : goal.invariant-loop-n
invariant-loop-n l = is_opposite (drop l.n l.first) (drop l.n l.second) ≡ is_opposite l.first l.second
