use Rattle.std.specs.Vec.Iter.{into_iter_len}
use Rattle.std.proofs.Common.{◌≡◌, List, length, map-id, sym, ◌∙◌, subst, rules}
use Rattle.std.proofs.lemmas.Iterator.Adapters.{YieldsList-from_vec}
use Rattle.std.proofs.lemmas.Iterator.Consumers.{YieldsList-end}
use Rattle.fm_elim.specs.declared.live.Live.{Live}
use Rattle.fm_elim.specs.machine.Sides.{IsSplit, AreParts}
use Rattle.fm_elim.proofs.sides.split.Goals as goal

pub returns-clause-rows : goal.returns-clause-rows
returns-clause-rows c =
    let count : into_iter_len c.into_iter-live-iterator.result ≡ length c.args.rows.items = search rules in
    let all = YieldsList-end (YieldsList-from_vec _ c.into_iter-live-iterator.ensures.into_iter_gives.0 count) _ _ c.loop-live.yielded_by _ c.next.new.self c.in-None.is c.next.ensures.steps in
    subst (λ (ls : List Live). IsSplit c.args.unknown.now ls c.loop-live.parts) (sym (map-id c.loop-live.yielded) ∙ all.0) c.loop-live.invariant.rows

pub returns-clause-lives : goal.returns-clause-lives
returns-clause-lives c =
    let count : into_iter_len c.into_iter-live-iterator.result ≡ length c.args.rows.items = search rules in
    let all = YieldsList-end (YieldsList-from_vec _ c.into_iter-live-iterator.ensures.into_iter_gives.0 count) _ _ c.loop-live.yielded_by _ c.next.new.self c.in-None.is c.next.ensures.steps in
    subst (λ (ls : List Live). AreParts c.args.unknown.now ls c.loop-live.parts) (sym (map-id c.loop-live.yielded) ∙ all.0) c.loop-live.invariant.lives
