use Rattle.std.proofs.Common.{subst}
use Rattle.fm_elim.specs.machine.Logging.{IsOrigin}
use Rattle.fm_elim.proofs.LoggingLaws.{made_numbered}
use Rattle.fm_elim.proofs.log.Log.number.Goals as goal

pub returns-in_ok-number-in-Made : goal.returns-in_ok-number-in-Made
returns-in_ok-number-in-Made c =
    λ row o.
    let d = subst (IsOrigin c.args.self.now row) c.in-Made.is o in
    made_numbered c.args.self.now c.push.new.self c.in-Made.source row d.0 c.in_ok-number-in-Made.number c.requires d.1 d.2 c.in_ok-number-in-Made.ensures.given c.in_ok-number-in-Made.ensures.sources c.in_ok-number-in-Made.ensures.number
