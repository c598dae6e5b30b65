use Rattle.std.proofs.Common.{subst, arith, []}
use Rattle.cert_kit.specs.Row.{Holds}
use Rattle.box_enum.specs.declared.standing.Standing.{Standing}
use Rattle.box_enum.specs.machine.Places.{AreNamed, names_of}
use Rattle.box_enum.proofs.RefutingLaws.{some_false, all_more, item_at, none_of}
use Rattle.box_enum.proofs.refuting.refuted_at_last.Goals as goal

pub loop-standing-preserved : goal.loop-standing-preserved
loop-standing-preserved c x a =
    let named : AreNamed (names_of c.args.choices.now []) c.standing-item.result.numbered.row.poly =
    item_at (λ (s : Standing). AreNamed (names_of c.args.choices.now []) s.numbered.row.poly) _ _ c.loop-standing.standing-index c.standing-item.result c.as_slice-standing-items.ensures c.loop-standing-test.true c.standing-item.is c.requires.named in
    all_more (λ (s : Standing). Holds x s.numbered.row) _ c.loop-standing.standing-index c.standing-item.result c.loop-standing-test.true
    (subst (λ (s : Standing). Holds x s.numbered.row) c.standing-item.is (c.in_ok-cert.ensures.none (none_of c.in_ok-cert.field-0 c.in_default.not-Some) named x a)) (c.loop-standing.invariant x a)

pub unreachable-requires : goal.unreachable-requires
unreachable-requires c = some_false c.args.ground.now c.args.count _ c.args.choices.now _ c.requires c.as_slice-standing-items.ensures c.loop-standing-test.false c.loop-standing.invariant
