use Rattle.std.specs.Prelude.{◌≡◌, drop}
use Rattle.std.specs.Cmp.Lexicographic.{slice_cmp}
use Rattle.mm_poly.specs.Poly.{term_cmp}
use Rattle.mm_poly.proofs.parts.order.Given as goal

-- what is left decides
abbrev pub invariant-loop-n : goal.invariant-loop-n
invariant-loop-n l = slice_cmp term_cmp (drop l.n l.left) (drop l.n l.right) ≡ slice_cmp term_cmp l.left l.right
