use Rattle.integer_search.proofs.branching.+close.Given as goal

abbrev pub decreases-close : goal.decreases-close
decreases-close l = l.splits
