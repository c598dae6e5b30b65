-- What a step of reading gives.
use Rattle.std.specs.Prelude.{◌≡◌, Option, Some, None, Result, Ok, Err}
use Rattle.goal_text.specs.declared.fail.StepFail.{StepFail}
use Rattle.goal_text.specs.declared.fail.StepFail.TheVariants.{Bad, NoMemory}

abbrev pub Fails : {A : Type 0} → StepFail → Option A → Type 0
Fails Bad read = read ≡ None
Fails NoMemory read = Unit {0}

-- what a function returned is what the step gives, unless memory ran out
abbrev pub Gives : {A : Type 0} → Result A StepFail → Option A → Type 0
Gives (Ok x) read = read ≡ Some x
Gives (Err e) read = Fails e read

-- what a function left behind is what the step gives, unless memory ran out
abbrev pub Leaves : {A B : Type 0} → Result A StepFail → B → Option B → Type 0
Leaves (Ok x) left read = read ≡ Some left
Leaves (Err e) left read = Fails e read

-- what a function left behind, and what it returned, is what the step gives, unless memory ran out
abbrev pub LeavesWith : {A B : Type 0} → Result A StepFail → B → Option (B × A) → Type 0
LeavesWith (Ok x) left read = read ≡ Some (left, x)
LeavesWith (Err e) left read = Fails e read
