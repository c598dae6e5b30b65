-- Both bounds of a range leave room.
use Rattle.std.specs.Prelude.{◌≡◌, ◌≤◌, ℤ, neg_ℤ, List, true}
use Rattle.std.proofs.Common.{arith}
use Rattle.std.proofs.lemmas.Int.{ints}
use Rattle.mm_poly.specs.declared.term.Term.{Term}
use Rattle.mm_poly.specs.Poly.{norm, spread, Fits, constant_of, constant_part, without_constant, is_opposite}
use Rattle.mm_poly.proofs.CutBoundLaws.{norm_parts, spread_parts}
use Rattle.mm_poly.proofs.OppositeLaws.{opposite_norm, opposite_spread}
use Rattle.cert_kit.specs.Acceptance.{Range}
use Rattle.cert_check.specs.Room.{ValuesHaveRoom}

negated_constant : (c : ℤ) → spread (constant_of (neg_ℤ c)) ≤ spread (constant_of c)
negated_constant c = grind (arith, ints)

-- both bounds of a range leave room
pub range_room : (p q : List Term) (r : Range) → Fits p → Fits q → r.poly ≡ without_constant p → r.low ≡ neg_ℤ (constant_part p) → r.high ≡ constant_part q
    → is_opposite (without_constant p) (without_constant q) ≡ true → ValuesHaveRoom r
range_room p q r f g e l h o =
    let n : norm (without_constant q) ≡ norm (without_constant p) = opposite_norm (without_constant p) (without_constant q) o in
    let s : spread (without_constant q) ≡ spread (without_constant p) = opposite_spread (without_constant p) (without_constant q) o in
    record {
      low_norm = rw (e, l) (omega (arith, ints, norm_parts p, f.norm));
      high_norm = rw (e, h) (omega (arith, norm_parts q, g.norm, n));
      low_spread = rw (e, l) (omega (arith, spread_parts p, f.spread, negated_constant (constant_part p)));
      high_spread = rw (e, h) (omega (arith, spread_parts q, g.spread, s));
    }
