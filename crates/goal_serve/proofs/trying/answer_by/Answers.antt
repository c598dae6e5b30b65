use Rattle.std.proofs.Common.{◌+◌, refl, subst}
use Rattle.std.specs.Vec.Iter.{into_iter_items}
use Rattle.goal_serve.specs.machine.Trying.{GoesOn}
use Rattle.goal_serve.proofs.TryingLaws.{next_is, next_on, stopped_at}
use Rattle.goal_serve.proofs.trying.answer_by.Goals as goal

pub reach-requires-clause-clause : goal.reach-requires-clause-clause
reach-requires-clause-clause g c κs within = next_is c.args.goal.now c.args.turns c.args.list.items (into_iter_items c.loop-named.named-iterator) (into_iter_items c.next.new.self) c.loop-named.number c.in-Some.named c.loop-named.tried
    c.loop-named.invariant.trying c.in-Some.ensures.steps.0 c.requires.list c.requires.short

pub loop-named-preserved : goal.loop-named-preserved
loop-named-preserved g c =
    let step = subst (GoesOn c.args.goal.now c.loop-named.tried c.loop-named.number c.in_ok-reached.reached) c.in-Go.is c.in_ok-tried.ensures in
    record {
      next = tt;
      finite = tt;
      trying = next_on c.args.goal.now c.args.turns c.args.list.items (into_iter_items c.loop-named.named-iterator) (into_iter_items c.next.new.self) c.loop-named.number (c.loop-named.number + 1) c.in-Some.named c.loop-named.tried c.in-Go.tried
          c.in_ok-reached.reached c.loop-named.invariant.trying c.in-Some.ensures.steps.0 refl step c.in_ok-reached.ensures;
    }

pub returns-in-Refuted : goal.returns-in-Refuted
returns-in-Refuted g c =
    let step = subst (GoesOn c.args.goal.now c.loop-named.tried c.loop-named.number c.in_ok-reached.reached) c.in-Refuted.is c.in_ok-tried.ensures in
    stopped_at c.args.goal.now c.args.turns c.args.list.items (into_iter_items c.loop-named.named-iterator) c.loop-named.number c.in-Some.named c.loop-named.tried c.in_ok-reached.reached c.in-Refuted.a
    c.loop-named.invariant.trying step c.in_ok-reached.ensures
