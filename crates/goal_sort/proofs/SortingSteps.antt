-- What a sorted goal, or a refusal, says.
use Rattle.std.specs.Prelude.{◌≡◌, ◌≢◌, ℕ, Result, Ok, Err, IfOk, IfErr}
use Rattle.std.proofs.Common.{refl}
use Rattle.goal_ast.specs.declared.goal.Goal.{Goal}
use Rattle.goal_ast.specs.Sorted.{IsWellFormed}
use Rattle.goal_sort.specs.declared.fail.SortFail.{SortFail}
use Rattle.goal_sort.specs.declared.fail.SortFail.TheVariants.{IllSorted, NoMemory}
use Rattle.goal_sort.specs.declared.raw.RawGoal.{RawGoal}
use Rattle.goal_sort.specs.SortGiving.{Placed, Refuses, GivesPlaced}
use Rattle.goal_sort.specs.Sorting.{sorting, IsReadable}
use Rattle.goal_sort.specs.IsSorted.{IsSorted}
use Rattle.goal_sort.proofs.FoundLaws.{found}
use Rattle.goal_sort.proofs.AgainLaws.{again}
use Rattle.goal_sort.proofs.WellFormedLaws.{well_formed}

pub given_sorted : (raw : RawGoal) (r : Result Goal SortFail) → IsReadable raw → GivesPlaced r (sorting raw) → IfOk r (λ goal. IsSorted raw goal)
given_sorted raw (Ok goal) is h = found raw goal is.literals h
given_sorted raw (Err e) is h = tt

pub given_well_formed : (raw : RawGoal) (r : Result Goal SortFail) → IsReadable raw → GivesPlaced r (sorting raw) → IfOk r IsWellFormed
given_well_formed raw (Ok goal) is h = well_formed raw goal is (found raw goal is.literals h)
given_well_formed raw (Err e) is h = tt

pub given_refused : (r : Result Goal SortFail) (s : Placed Goal) → GivesPlaced r s → IfErr r (λ fail. Refuses fail s)
given_refused (Ok x) s h = tt
given_refused (Err e) s h = h

never_both : (goal : Goal) (at : ℕ) (s : Placed Goal) → s ≡ Err at → s ≡ Ok goal → ⊥
never_both goal at s h k = absurd (cc)

pub given_none : (raw : RawGoal) (r : Result Goal SortFail) → GivesPlaced r (sorting raw) → IfErr r (λ fail. fail ≢ NoMemory → (goal : Goal) → IsSorted raw goal → ⊥)
given_none raw (Ok x) h = tt
given_none raw (Err (IllSorted at)) h = λ other goal is. never_both goal at (sorting raw) h (again raw goal is)
given_none raw (Err NoMemory) h = λ other. absurd (other refl)
