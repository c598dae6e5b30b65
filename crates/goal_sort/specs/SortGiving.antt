-- What a step of sorting gives: a value, or the place that is refused.
use Rattle.std.specs.Prelude.{◌≡◌, ℕ, Option, Some, None, Result, Ok, Err}
use Rattle.mm_num.specs.Result.{◌>>=◌}
use Rattle.goal_sort.specs.declared.fail.SortFail.{SortFail}
use Rattle.goal_sort.specs.declared.fail.SortFail.TheVariants.{IllSorted, NoMemory}

-- a value, or the place that is refused
abbrev pub Placed : Type 0 → Type 0
Placed A = Result A ℕ

-- what there is, or else this place
abbrev pub given_at : {A : Type 0} → ℕ → Option A → Placed A
given_at at None = Err at
given_at at (Some x) = Ok x

abbrev pub Refuses : {A : Type 0} → SortFail → Placed A → Type 0
Refuses (IllSorted at) sorted = sorted ≡ Err at
Refuses NoMemory sorted = Unit {0}

-- what a function returned is what sorting gives, unless memory ran out
abbrev pub GivesPlaced : {A : Type 0} → Result A SortFail → Placed A → Type 0
GivesPlaced (Ok x) sorted = sorted ≡ Ok x
GivesPlaced (Err e) sorted = Refuses e sorted
