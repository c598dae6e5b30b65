-- The negation of a polynomial less 1 is within the limits where its bounds are.
use Rattle.std.specs.Prelude.{◌≡◌, ℕ, ◌+◌, ◌<◌, ◌≤◌, ◌^◌, negsuc, List, true, nat_le}
use Rattle.std.proofs.Common.{arith}
use Rattle.std.proofs.lemmas.Bool.Decides.{nat_tests}
use Rattle.std.proofs.lemmas.Bool.{and_parts}
use Rattle.mm_poly.specs.declared.term.Term.{Term}
use Rattle.mm_poly.specs.Poly.{norm, spread, scaled, constant_of}
use Rattle.mm_poly.proofs.BoundLaws.{norm_scaled, spread_scaled}
use Rattle.cert_kit.specs.Meaning.{are_within}
use Rattle.cert_kit.specs.Acceptance.{below_bounds}
use Rattle.mm_poly.specs.Room.{SumHasRoom}
use Rattle.mm_num.proofs.TestLaws.{is_below}

at_most : (m n : ℕ) → nat_le m n ≡ true → m ≤ n
at_most m n h = grind (arith, nat_tests)

pub below_norm : (p : List Term) → are_within (below_bounds p) ≡ true → norm p + 1 < 2 ^ 126
below_norm p h = is_below _ _ (and_parts _ _ h).0

below_spread : (p : List Term) → are_within (below_bounds p) ≡ true → spread p + 1 ≤ 65536
below_spread p h = at_most _ _ (and_parts _ _ (and_parts _ _ h).1).0

pub below_room : (p n k : List Term) → are_within (below_bounds p) ≡ true → n ≡ scaled (negsuc 0) p → k ≡ constant_of (negsuc 0) → SumHasRoom n k
below_room p n k h e f = record {
  norm = rw (e, f) (omega (arith, norm_scaled (negsuc 0) p, below_norm p h));
  spread = rw (e, f) (omega (arith, spread_scaled (negsuc 0) p, below_spread p h));
}
