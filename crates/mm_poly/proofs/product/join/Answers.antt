use Rattle.std.specs.Vec.Iter.{into_iter_len}
use Rattle.std.proofs.Common.{◌≡◌, List, [], length, map-id, ap, sym, ◌∙◌, rules}
use Rattle.std.proofs.lemmas.Iterator.Adapters.{YieldsList-from_vec}
use Rattle.std.proofs.lemmas.Iterator.Consumers.{YieldsList-end}
use Rattle.std.proofs.lemmas.List.Sorted.{answers_always}
use Rattle.mm_poly.specs.declared.term.Term.{Term}
use Rattle.mm_poly.specs.Poly.{plus}
use Rattle.mm_poly.proofs.JoinLaws.{comes_before, monomials_order, joined_ordered, begin, next, joining}
use Rattle.mm_poly.proofs.product.join.Goals as goal

pub loop-term-init : goal.loop-term-init
loop-term-init c = begin _ _ _ _ c.requires.nonzero c.requires.small c.in_ok-sort_by.ensures.permutation
    (c.in_ok-sort_by.ensures.sorted comes_before monomials_order (answers_always _ _ _ (λ f a r g h. search rules)))
    c.in_ok-out.ensures.items c.into_iter-term-iterator.ensures.into_iter_gives.0

pub push_joined-requires-clause-order : goal.push_joined-requires-clause-order
push_joined-requires-clause-order c = (next _ _ _ _ _ c.loop-term.invariant c.in-Some.ensures.steps.0).order

pub push_joined-requires-clause-after : goal.push_joined-requires-clause-after
push_joined-requires-clause-after c = (next _ _ _ _ _ c.loop-term.invariant c.in-Some.ensures.steps.0).after

pub push_joined-requires-clause-nonzero : goal.push_joined-requires-clause-nonzero
push_joined-requires-clause-nonzero c = (next _ _ _ _ _ c.loop-term.invariant c.in-Some.ensures.steps.0).nonzero

pub push_joined-requires-clause-small : goal.push_joined-requires-clause-small
push_joined-requires-clause-small c = (next _ _ _ _ _ c.loop-term.invariant c.in-Some.ensures.steps.0).small

pub loop-term-preserved : goal.loop-term-preserved
loop-term-preserved c = joining _ _ _ _ _ _ c.loop-term.invariant c.in-Some.ensures.steps.0 c.in_ok-push_joined.ensures

pub returns : goal.returns
returns c =
    let count : into_iter_len c.into_iter-term-iterator.result ≡ length c.sort_by.new.self.items = search rules in
    let all = YieldsList-end (YieldsList-from_vec _ c.into_iter-term-iterator.ensures.into_iter_gives.0 count) _ _ c.loop-term.yielded_by _ c.next.new.self c.in-None.is c.next.ensures.steps in
    c.shrink_to_fit.ensures.items
    ∙ c.loop-term.invariant.is
    ∙ ap (λ (ts : List Term). plus ts []) (sym (map-id c.loop-term.yielded) ∙ all.0)
    ∙ joined_ordered _ _ c.requires.nonzero c.in_ok-sort_by.ensures.permutation
