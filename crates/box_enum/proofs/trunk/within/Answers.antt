use Rattle.std.proofs.Common.{refl, arith, length, ◌+◌}
use Rattle.box_enum.specs.machine.Trunks.{with_singles}
use Rattle.box_enum.proofs.ReducingLaws.{put_open, put_good, put_shallow}
use Rattle.box_enum.proofs.trunk.within.Goals as goal

pub branch-alloc-requires : goal.branch-alloc-requires
branch-alloc-requires c =
    put_open c.args.rows.now (with_singles c.args.rows.now c.args.single.now) _ _ c.in_ok-standing.standing.items c.args.reach _ c.args.single.now c.args.free.now c.args.choices.now _ _ c.requires.walled c.requires.choices
    c.in_ok-standing.ensures c.from_vec.ensures refl (omega arith) c.new-chosen.ensures.items

pub returns-clause-good : goal.returns-clause-good
returns-clause-good c =
    put_good c.args.rows.now _ c.in_ok-standing.standing.items c.args.reach (length c.args.rows.now + length c.args.single.now + c.len.result) c.args.single.now c.args.free.now c.args.choices.now _ _ _ _ c.requires.walled c.in_ok-standing.ensures c.from_vec.ensures (omega (arith, c.len.ensures)) c.new-chosen.ensures.items
    c.in_ok-cert.ensures.good c.in_ok-cert-2.ensures

pub returns-clause-shallow : goal.returns-clause-shallow
returns-clause-shallow c =
    put_shallow c.args.rows.now _ _ _ (length c.args.free.now) _ _ _ _ c.in_ok-standing.ensures c.in_ok-cert.ensures.shallow c.in_ok-cert-2.ensures
