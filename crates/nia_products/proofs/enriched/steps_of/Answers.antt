use Rattle.std.specs.Vec.Iter.{into_iter_len}
use Rattle.std.proofs.Common.{◌≡◌, List, length, map, map-id, ap, sym, ◌∙◌, rules}
use Rattle.std.proofs.lemmas.Iterator.Adapters.{YieldsList-from_vec}
use Rattle.std.proofs.lemmas.Iterator.Consumers.{YieldsList-end}
use Rattle.cert_kit.specs.declared.cert.Psatz.{Psatz}
use Rattle.cert_kit.specs.declared.cert.Step.TheVariants.{Rat}
use Rattle.nia_products.proofs.enriched.steps_of.Goals as goal

pub returns : goal.returns
returns c =
    let count : into_iter_len c.into_iter-source-iterator.result ≡ length c.args.sources.items = search rules in
    let all = YieldsList-end (YieldsList-from_vec _ c.into_iter-source-iterator.ensures.into_iter_gives.0 count) _ _ c.loop-source.yielded_by _ c.next.new.self c.in-None.is c.next.ensures.steps in
    c.loop-source.invariant ∙ ap (λ (es : List Psatz). map Rat es) (sym (map-id c.loop-source.yielded) ∙ all.0)
