-- The variables that a goal binds, one after the other.
use Rattle.std.specs.Prelude.{ℕ, List, [], ◌∷◌, ◌++◌, Bool, if◌then◌else◌, codes}
use Rattle.goal_ast.specs.declared.term.Sort.{Sort}
use Rattle.goal_ast.specs.declared.goal.Bound.{Bound}
use Rattle.goal_ast.specs.Sorted.{is_sort}
use Rattle.goal_token.specs.Spelling.{sort_text}

-- the parenthesis before a group, where there are several
abbrev pub opening : Bool → List ℕ
opening several = if several then codes "(" else []

-- and the one after it
abbrev pub closing : Bool → List ℕ
closing several = if several then codes ")" else []

-- what stands after the last name of a group
abbrev pub ending : Bool → Sort → List ℕ
ending several s = codes " : " ++ (sort_text s ++ closing several)

-- a name, and what stands between it and a name of this sort before it
abbrev pub next : Bool → Sort → Bound → List ℕ
next several s b = if is_sort s b.sort then codes " " ++ b.name.bytes else ending several s ++ (codes " " ++ (opening several ++ b.name.bytes))

-- what stands after a name of this sort, with these variables after it
abbrev pub following : Bool → Sort → List Bound → List ℕ
following several s [] = ending several s
following several s (b ∷ vars) = next several s b ++ following several b.sort vars
