use Rattle.std.proofs.Common.{◌≡◌, ◌+◌, ◌*◌, ◌++◌, ◌∷◌, [], length, ◌≤ℤ◌}
use Rattle.box_enum.specs.Box.{count_of}
use Rattle.box_enum.specs.machine.Edges.{side_at, sides_at}
use Rattle.box_enum.specs.machine.Searching.{first_from, first_value}
use Rattle.box_enum.proofs.SearchLaws.{left}
use Rattle.box_enum.proofs.searching.+searching.Given as goal

abbrev pub decreases-search : goal.decreases-search
decreases-search l = 2 * length l.edges.now

abbrev pub decreases-search_values : goal.decreases-search_values
decreases-search_values l = 2 * length l.later.now + 1

-- the values that are left decide
abbrev pub invariant-search_values-loop-value : goal.invariant-search_values-loop-value
invariant-search_values-loop-value l = record {
  kept : l.chosen.items ≡ l.fn.chosen.items;
  from : l.edge.low ≤ℤ l.value;
  first : first_value (λ z. first_from l.rows (l.fn.chosen.items ++ z ∷ []) (sides_at l.later)) l.value (left l.value l.edge.high)
      ≡ first_value (λ z. first_from l.rows (l.fn.chosen.items ++ z ∷ []) (sides_at l.later)) l.edge.low (count_of (side_at l.edge));
}

abbrev pub decreases-search_values-loop-value : goal.decreases-search_values-loop-value
decreases-search_values-loop-value l = left l.value l.edge.high
