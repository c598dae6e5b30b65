-- How many tokens a body has so far, and how many names a goal has bound.
use Rattle.std.specs.Prelude.{ℕ, ◌+◌, length, Option, Some, None}
use Rattle.goal_text.specs.declared.state.State.{State}
use Rattle.goal_text.specs.declared.state.State.TheVariants as states
use Rattle.goal_text.specs.declared.state.Between.{Between}
use Rattle.goal_text.specs.declared.state.Between.TheVariants as betweens
use Rattle.goal_text.specs.declared.state.Part.{Part}
use Rattle.goal_text.specs.declared.state.Part.TheVariants as parts
use Rattle.goal_text.specs.Steps.{FileRead}

-- the tokens of the body so far, where reading stands in one
abbrev pub part_count : Part → Option ℕ
part_count (parts.Body r n) = Some n
part_count part = None

-- the names that the goal has bound so far, where another may come
abbrev pub binding_count : ℕ → Part → Option ℕ
binding_count n parts.Binders = Some n
binding_count n (parts.Bare names) = Some (n + length names)
binding_count n (parts.Grouped names) = Some (n + length names)
binding_count n part = None

abbrev pub body_between : Between → Option ℕ
body_between (betweens.Goal p bs part) = part_count part
body_between b = None

abbrev pub bound_between : Between → Option ℕ
bound_between (betweens.Goal p bs part) = binding_count (length bs) part
bound_between b = None

abbrev pub body_in : State → Option ℕ
body_in (states.Within w b) = body_between b
body_in s = None

abbrev pub bound_in : State → Option ℕ
bound_in (states.Within w b) = bound_between b
bound_in s = None

-- in a file
abbrev pub body_count : FileRead → Option ℕ
body_count f = body_in f.1

abbrev pub bound_count : FileRead → Option ℕ
bound_count f = bound_in f.1
