-- A monomial has at most as many factors as its degree.
use Rattle.std.specs.Prelude.{ℕ, ◌≤◌, List, [], ◌∷◌, length}
use Rattle.std.proofs.Common.{arith}
use Rattle.mm_poly.specs.Mono.{mono_degree, IsMono, IsMonomial}

pub length_below : (fs : List (ℕ × ℕ)) → IsMono fs → length fs ≤ mono_degree fs
length_below [] m = omega arith
length_below (f ∷ fs) m = omega (arith, length_below fs m.2, m.0)

pub length_small : (fs : List (ℕ × ℕ)) → IsMonomial fs → length fs ≤ 255
length_small fs m = omega (arith, length_below fs m.order, m.degree)
