use Rattle.fm_elim.proofs.LoggingLaws.{logs_start}
use Rattle.fm_elim.proofs.StandingLaws.{fed_standing, fed_past}
use Rattle.fm_elim.proofs.kept.Kept.keep.Goals as goal

pub returns-then-self-clause-feeds : goal.returns-then-self-clause-feeds
returns-then-self-clause-feeds c = fed_past c.args.self.now c.args.live.row c.requires.live.unknown c.requires.live.cut c.if-self.true

pub returns-then-self-clause-logged : goal.returns-then-self-clause-logged
returns-then-self-clause-logged c = logs_start c.args.log.now c.args.self.now.rows.items c.requires.logged

pub put-requires-clause-logged : goal.put-requires-clause-logged
put-requires-clause-logged c = record {
  logged = c.requires.logged;
  fits = c.requires.live.fits;
  cut = c.requires.live.cut;
  unknown = c.requires.live.unknown;
  origin = c.requires.live.here;
}

pub returns-clause-feeds : goal.returns-clause-feeds
returns-clause-feeds c =
    fed_standing c.args.self.now c.put.new.self c.args.live.row c.requires.live.unknown c.requires.live.cut c.if-self.false c.in_ok-put.ensures.stands
