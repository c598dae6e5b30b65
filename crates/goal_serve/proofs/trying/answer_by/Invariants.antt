use Rattle.std.specs.Vec.Iter.{into_iter_items}
use Rattle.goal_serve.proofs.TryingLaws.{Trying}
use Rattle.goal_serve.proofs.trying.answer_by.Given as goal

abbrev pub invariant-loop-named : goal.invariant-loop-named
invariant-loop-named g l = record {
  next : (goal.iterator-loop-named g).can_next l.named-iterator;
  finite : (goal.iterator-loop-named g).is_finite l.named-iterator;
  trying : Trying l.goal l.turns l.fn.list.items (into_iter_items l.named-iterator) l.number l.tried;
}
