use Rattle.std.proofs.Common.{◌+◌, ◌-◌, ◌*◌, length}
use Rattle.box_enum.proofs.cube_search.+search.Given as goal

abbrev pub decreases-search : goal.decreases-search
decreases-search l = 8 * (length l.goal.now.vars - length l.a.now.values) + 7

abbrev pub decreases-search_values : goal.decreases-search_values
decreases-search_values l = 8 * (length l.goal.now.vars - length l.a.now.values) + length l.values.now

abbrev pub decreases-search_value : goal.decreases-search_value
decreases-search_value l = 8 * (length l.goal.now.vars - length l.a.now.values)
