use Rattle.std.proofs.Common.{◌≡◌, ◌^◌, ◌<◌, pos, to_z, of_z, get_or, length, unsigned_abs, ◌∙◌, arith}
use Rattle.std.proofs.lemmas.Int.{ints}
use Rattle.std.proofs.lemmas.List.Elements.{All-get_or}
use Rattle.std.specs.Int.{w128}
use Rattle.simplex_core.proofs.LoopLaws.{combining_item, combining_step}
use Rattle.simplex_core.proofs.numbers.combine.Goals as goal

pub weighted-requires-clause-c : goal.weighted-requires-clause-c
weighted-requires-clause-c c =
    let lt : c.loop-i.i < length c.loop-i.first = omega arith in
    let h : unsigned_abs (get_or c.loop-i.first c.loop-i.i (pos 0)) < 2 ^ 30 = combining_item _ _ _ _ _ _ c.loop-i.invariant lt in
    omega (arith, ints, h)

pub loop-i-preserved : goal.loop-i-preserved
loop-i-preserved c =
    let lt : c.loop-i.i < length c.loop-i.first = omega arith in
    let x : to_z w128 (of_z w128 c.weighted.result) ≡ c.weighted.result = omega (arith, ints, c.weighted.ensures.bound) in
    let h : unsigned_abs (get_or c.loop-i.first c.loop-i.i (pos 0)) < 2 ^ 30 = combining_item _ _ _ _ _ _ c.loop-i.invariant lt in
    let second : c.loop-i.i < length c.args.second.now = (let q = c.requires.same in omega arith) in
    let k : unsigned_abs (get_or c.args.second.now c.loop-i.i (pos 0)) < 2 ^ 30 =
    All-get_or (λ z. unsigned_abs z < 2 ^ 30) c.args.second.now c.loop-i.i (pos 0) second c.requires.second in
    let f : to_z w128 (of_z w128 (get_or c.loop-i.first c.loop-i.i (pos 0))) ≡ get_or c.loop-i.first c.loop-i.i (pos 0) = omega (arith, ints, h) in
    let g : to_z w128 (of_z w128 (get_or c.args.second.now c.loop-i.i (pos 0))) ≡ get_or c.args.second.now c.loop-i.i (pos 0) = omega (arith, ints, k) in
    combining_step _ _ _ _ _ _ _ c.loop-i.invariant lt (x ∙ (simp (f, g) at c.weighted.ensures.value)) (rw x c.weighted.ensures.bound)
