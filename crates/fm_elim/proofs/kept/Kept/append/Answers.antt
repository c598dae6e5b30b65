use Rattle.fm_elim.proofs.LoggingLaws.{logs_kept}
use Rattle.fm_elim.proofs.kept.Kept.append.Goals as goal

pub number-requires : goal.number-requires
number-requires c = c.requires.logged.logged.sound

pub returns-clause-logged : goal.returns-clause-logged
returns-clause-logged c =
    let k = c.requires.logged in
    logs_kept c.args.log.now c.number.new.self c.args.self.now.rows.items c.push.new.self.items c.args.row c.args.origin c.in_ok-number.number k
    (c.in_ok-number.ensures c.args.row k.origin) c.in_ok-push.ensures.items
