use Rattle.std.proofs.Common.{Bool, false, sym, subst}
use Rattle.fm_elim.specs.machine.Halves.{parts_at}
use Rattle.fm_elim.specs.machine.Tidying.{Goes}
use Rattle.fm_elim.proofs.GoingLaws.{goes_one}
use Rattle.fm_elim.proofs.standing.take_parts.Goals as goal

pub returns-then-not-is_halved-clause-goes : goal.returns-then-not-is_halved-clause-goes
returns-then-not-is_halved-clause-goes c =
    subst (λ (b : Bool). Goes false c.args.kept.now c.keep.new.self (parts_at b c.args.live.row)) (sym c.if-not-is_halved.true)
    (goes_one false c.args.kept.now c.keep.new.self c.args.live.row c.in_ok-keep.ensures.feeds)
