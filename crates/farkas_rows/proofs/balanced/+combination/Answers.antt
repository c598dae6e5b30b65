use Rattle.std.proofs.Common.{◌≡◌, length, sym, arith}
use Rattle.farkas_rows.proofs.HalfLaws.{not_few, whole, one_is, halves_can, sum_of_halves}
use Rattle.farkas_rows.proofs.balanced.+combination.Goals as goal

pub returns-then-rows-eq1 : goal.returns-then-rows-eq1
returns-then-rows-eq1 t c = one_is _ _ _ _ _ _ c.if-rows-eq1.true c.requires.can c.index-rows-0.is c.in_ok-only.ensures

pub combination-requires : goal.combination-requires
combination-requires t c =
    let two = not_few _ c.if-is_empty.ensures c.if-rows-eq1.false in
    let f = c.split_at.ensures.front_len in
    let g = c.split_at-2.ensures.front_len in
    let s = c.requires.numbers in
    let count : length c.split_at-2.result.0.now ≡ length c.split_at.result.0.now = omega (arith, f, g) in
    let can = halves_can _ _ _ _ _ _ (whole _ _ _ _ c.split_at.ensures.front c.split_at.ensures.back) (whole _ _ _ _ c.split_at-2.ensures.front c.split_at-2.ensures.back) count c.requires.can in
    (omega (arith, f, two), (can.0, omega (arith, f, s)))

pub combination-requires-2 : goal.combination-requires-2
combination-requires-2 t c =
    let two = not_few _ c.if-is_empty.ensures c.if-rows-eq1.false in
    let f = c.split_at.ensures.front_len in
    let b = c.split_at.ensures.back_len in
    let g = c.split_at-2.ensures.front_len in
    let s = c.requires.numbers in
    let count : length c.split_at-2.result.0.now ≡ length c.split_at.result.0.now = omega (arith, f, g) in
    let can = halves_can _ _ _ _ _ _ (whole _ _ _ _ c.split_at.ensures.front c.split_at.ensures.back) (whole _ _ _ _ c.split_at-2.ensures.front c.split_at-2.ensures.back) count c.requires.can in
    (omega (arith, b, two), (can.1, omega (arith, b, s)))

pub returns : goal.returns
returns t c =
    let two = not_few _ c.if-is_empty.ensures c.if-rows-eq1.false in
    let f = c.split_at.ensures.front_len in
    let b = c.split_at.ensures.back_len in
    let g = c.split_at-2.ensures.front_len in
    sum_of_halves _ _ _ _ _ _ _ _ _ _ _ (whole _ _ _ _ c.split_at.ensures.front c.split_at.ensures.back) (whole _ _ _ _ c.split_at-2.ensures.front c.split_at-2.ensures.back)
    (record { count = omega (arith, f, g); least = omega (arith, f, b); most = omega (arith, f, b); some = omega (arith, f, two) }) (sym f) c.requires.can
    c.in_ok-left.ensures c.in_ok-right.ensures c.in_ok-sum.ensures
