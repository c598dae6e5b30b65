use Rattle.std.proofs.Common.{◌≡◌, true, sym, ◌∙◌, arith}
use Rattle.std.proofs.lemmas.Int.{ints}
use Rattle.mm_poly.specs.Poly.{without_constant, is_opposite}
use Rattle.cert_check.proofs.OppositeLaws.{range_room}
use Rattle.cert_check.proofs.interval.Interval.between.Goals as goal

pub invariant_of-interval : goal.invariant_of-interval
invariant_of-interval c =
    let o : is_opposite (without_constant c.args.lower.now) (without_constant c.args.upper.now) ≡ true =
    sym c.has_opposite_unknowns.ensures ∙ c.if-not-has_opposite_unknowns.false in
    let a = c.constant_term.ensures.value in
    let s = c.constant_term.ensures.small in
    let b = c.constant_term-2.ensures.value in
    let t = c.constant_term-2.ensures.small in
    range_room c.args.lower.now c.args.upper.now _ c.requires.lower c.requires.upper c.in_ok-poly.ensures (omega (arith, ints)) (omega (arith, ints)) o
