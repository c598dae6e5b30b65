use Rattle.std.proofs.Common.{sym, arith}
use Rattle.box_enum.proofs.SearchLaws.{due_false, due_true, due_places, due_small}
use Rattle.box_enum.proofs.searching.passing.Goals as goal

pub holds-requires-clause-places : goal.holds-requires-clause-places
holds-requires-clause-places c = due_places _ _ _ c.loop-n.n _ _ c.requires.waiting (omega arith) c.index-rows-n.is (omega arith)

pub holds-requires-clause-small : goal.holds-requires-clause-small
holds-requires-clause-small c = due_small c.args.places c.args.reach _ c.loop-n.n _ c.args.chosen.now c.requires.waiting (omega arith) c.index-rows-n.is c.requires.within

pub returns-then-not-holds-clause-none : goal.returns-then-not-holds-clause-none
returns-then-not-holds-clause-none c e zs = due_false _ _ _ c.loop-n.n _ c.args.chosen.now zs c.requires.waiting (omega arith) c.index-rows-n.is (omega arith) (sym c.if-not-holds.ensures)

pub loop-n-preserved : goal.loop-n-preserved
loop-n-preserved c = due_true _ _ _ c.loop-n.n _ c.args.chosen.now c.requires.waiting (omega arith) c.index-rows-n.is (omega arith) (sym c.if-not-holds.ensures) c.loop-n.invariant
