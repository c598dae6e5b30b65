use Rattle.std.specs.Prelude.{◌≡◌, ◌++◌, take}
use Rattle.mm_poly.proofs.sum.push_copies.Given as goal

abbrev pub invariant-loop-term : goal.invariant-loop-term
invariant-loop-term l = l.out.items ≡ l.fn.out.items ++ take l.term-index l.terms
