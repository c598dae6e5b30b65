use Rattle.std.proofs.Common.{◌≡◌, ◌+◌, length, ap, rules}
use Rattle.fm_elim.proofs.PruningLaws.{kept_one}
use Rattle.fm_elim.proofs.pruned.Pruned.keep.Goals as goal

pub returns-clause-pruning : goal.returns-clause-pruning
returns-clause-pruning c =
    let e : c.len.result ≡ length c.args.self.now.sources.items = search rules in
    kept_one c.args.log.now c.args.self.now _ c.args.source c.moved-combination.result _ c.requires.pruning c.requires.made c.moved-combination.ensures
    (ap (λ k. length c.args.log.now.given.now + k) e)
    c.in_ok-push-2.ensures.items c.in_ok-push-3.ensures.items
