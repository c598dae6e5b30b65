use Rattle.std.proofs.Common.{◌∙◌, ◌+◌, ◌≡◌, ◌≤◌, arith, length, ap, take, drop, List}
use Rattle.box_enum.specs.declared.wall.Wall.{Wall}
use Rattle.box_enum.specs.machine.Trunks.{IsWalled}
use Rattle.box_enum.proofs.TrunkLaws.{box_walled, split_walled, shallow_below, split_few}
use Rattle.box_enum.proofs.trunk.certificate.Goals as goal

pub around-requires-clause-walled : goal.around-requires-clause-walled
around-requires-clause-walled c =
    let w : IsWalled c.args.rows.now c.reach.result c.by_values-walls.result.items =
    box_walled c.args.rows.now c.args.edges.now c.in_ok-found.found.items c.by_values-walls.result.items c.reach.result c.requires.room c.requires.fits c.requires.boxed c.requires.few c.requires.modest c.requires.small c.requires.none
    c.reach.ensures c.in_ok-found.ensures.variables c.in_ok-found.ensures.sides c.in_ok-found.ensures.standing c.by_values-walls.ensures in
    split_walled c.args.rows.now c.reach.result c.count_singles-singles.result c.by_values-walls.result.items _ _
    (c.split_at.ensures.front ∙ ap (λ (ws : List Wall). take c.count_singles-singles.result ws) c.deref-2.ensures.value)
    (c.split_at.ensures.back ∙ ap (λ (ws : List Wall). drop c.count_singles-singles.result ws) c.deref-2.ensures.value) w

pub returns-clause-shallow : goal.returns-clause-shallow
returns-clause-shallow c =
    let few : length c.split_at.result.0.now + length c.split_at.result.1.now ≤ 2048 =
    split_few c.count_singles-singles.result 2048 c.in_ok-found.found.items c.by_values-walls.result.items _ _ c.args.edges.now
    (c.split_at.ensures.front ∙ ap (λ (ws : List Wall). take c.count_singles-singles.result ws) c.deref-2.ensures.value)
    (c.split_at.ensures.back ∙ ap (λ (ws : List Wall). drop c.count_singles-singles.result ws) c.deref-2.ensures.value)
    c.in_ok-found.ensures.sides c.by_values-walls.ensures c.requires.few in
    shallow_below _ 2050 c.in_ok-cert.cert (omega (arith, few)) c.in_ok-cert.ensures.shallow
