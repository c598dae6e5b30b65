use Rattle.std.proofs.Common.{subst}
use Rattle.fm_elim.specs.machine.Logging.{IsOrigin}
use Rattle.fm_elim.proofs.LoggingLaws.{given_pushed, made_pushed}
use Rattle.fm_elim.proofs.log.Log.close.Goals as goal

pub returns-in_ok-push-in-Stands : goal.returns-in_ok-push-in-Stands
returns-in_ok-push-in-Stands c =
    λ row f o.
    given_pushed c.args.self.now c.push.new.self c.in-Stands.number row c.requires f (subst (IsOrigin c.args.self.now row) c.in-Stands.is o) c.in_ok-push-in-Stands.ensures.given c.in_ok-push-in-Stands.ensures.sources

pub returns-in_ok-push-in-Made : goal.returns-in_ok-push-in-Made
returns-in_ok-push-in-Made c =
    λ row f o.
    let d = subst (IsOrigin c.args.self.now row) c.in-Made.is o in
    made_pushed c.args.self.now c.push-in-Made.new.self c.in-Made.source row d.0 c.requires d.1 d.2 c.in_ok-push-in-Made.ensures.given c.in_ok-push-in-Made.ensures.sources
