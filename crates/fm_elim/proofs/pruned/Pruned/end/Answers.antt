use Rattle.fm_elim.proofs.PruningLaws.{log_made, ended_so}
use Rattle.std.proofs.Common.{length}
use Rattle.fm_elim.proofs.pruned.Pruned.end.Goals as goal

pub returns : goal.returns
returns c =
    ended_so c.args.log.now c.args.self c.args.last c.moved-combination.result c.push.new.self.items (length c.args.self.places.items) c.requires.sound c.requires.ends c.requires.pruning
    (log_made c.args.log.now (length c.args.self.places.items) c.args.last c.requires.sound c.requires.last) c.requires.count c.moved-combination.ensures c.in_ok-push.ensures.items
