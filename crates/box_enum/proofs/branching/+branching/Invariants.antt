use Rattle.std.proofs.Common.{◌≡◌, ◌≤◌, ◌+◌, ◌*◌, ◌∷◌, List, pos, ◌+ℤ◌, length}
use Rattle.std.specs.List.{AllByRecursion}
use Rattle.mm_poly.specs.Poly.{variable_of}
use Rattle.cert_kit.specs.declared.row.PRow.{PRow}
use Rattle.cert_kit.specs.Making.{AreGood}
use Rattle.box_enum.specs.machine.Places.{wall_count, IsPlace, IsShallow}
use Rattle.box_enum.proofs.SearchLaws.{left}
use Rattle.box_enum.proofs.branching.+branching.Given as goal

abbrev pub decreases-branch : goal.decreases-branch
decreases-branch l = 3 * length l.walls.now

abbrev pub decreases-members : goal.decreases-members
decreases-members l = 3 * length l.later.now + 2

abbrev pub decreases-member : goal.decreases-member
decreases-member l = 3 * length l.later.now + 1

-- a good member for each value so far
abbrev pub invariant-members-loop-value : goal.invariant-members-loop-value
invariant-members-loop-value l = record {
  kept : l.choices.items ≡ l.fn.choices.items;
  at : l.value ≡ l.wall.low +ℤ pos (length l.members.items);
  few : length l.members.items ≤ wall_count l.wall;
  good : (rows : List PRow) → IsPlace rows l.count l.ground.standing l.fn.choices.items (l.wall ∷ l.later) → AreGood (variable_of l.wall.variable) l.wall.low l.members.items rows;
  shallow : AllByRecursion (IsShallow (length l.later + 2)) l.members.items;
}

abbrev pub decreases-members-loop-value : goal.decreases-members-loop-value
decreases-members-loop-value l = left l.value l.wall.high
