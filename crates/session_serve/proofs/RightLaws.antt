-- What good answers say of goals.
use Rattle.std.proofs.Common.{ℕ, List, [], ◌∷◌, All}
use Rattle.std.specs.List.{AllByRecursion}
use Rattle.std.proofs.lemmas.List.Elements.{recursion_from_All}
use Rattle.goal_ast.specs.declared.goal.Goal.{Goal}
use Rattle.goal_ast.specs.Range.{IsValid}
use Rattle.goal_ast.specs.Sorted.{IsWellFormed}
use Rattle.goal_sort.specs.declared.raw.RawGoal.{RawGoal}
use Rattle.goal_sort.specs.declared.raw.RawSession.{RawSession}
use Rattle.goal_sort.specs.IsSorted.{IsSorted}
use Rattle.goal_sort.specs.Sorting.{IsReadable}
use Rattle.goal_text.specs.GoalsRead.{AreReadable}
use Rattle.goal_serve.specs.declared.answers.Answer.{Answer}
use Rattle.goal_serve.specs.declared.answers.Answer.TheVariants.{Proved, Refuted, Unsettled, Oversize, IllSorted}
use Rattle.goal_serve.specs.Answering.{MeetsGoal, MeetsRaw, IfProved}
use Rattle.goal_serve.proofs.AnswerLaws.{refuted_false}
use Rattle.session_serve.specs.Pairing.{OneEach}
use Rattle.session_serve.specs.Rightness.{IsValidRaw, IsRight, AreRight, AreValid}
use Rattle.session_serve.specs.Serving.{IsServed, IsProved, MeetSessions, AreProved}

-- what sorting and answering promise
abbrev pub SortsWell : Type 0
SortsWell = (raw : RawGoal) (goal : Goal) → IsReadable raw → IsSorted raw goal → IsWellFormed goal

abbrev pub ProvesWell : Type 0
ProvesWell = (goal : Goal) (turns : ℕ) (a : Answer) → IsWellFormed goal → MeetsGoal goal turns a → IfProved (IsValid goal) a

right : SortsWell → ProvesWell → (turns : ℕ) (raw : RawGoal) (a : Answer) → IsReadable raw → MeetsRaw raw turns a → IsRight raw a
right sorts proves turns raw (Proved shown) readable meets = (meets.0, meets.1, proves meets.0 turns (Proved shown) (sorts raw meets.0 readable meets.1) meets.2)
right sorts proves turns raw (Refuted a) readable meets = (meets.0, meets.1, refuted_false meets.0 turns a meets.2)
right sorts proves turns raw (Unsettled k why) readable meets = tt
right sorts proves turns raw (Oversize kind) readable meets = tt
right sorts proves turns raw (IllSorted at) readable meets = tt

each_with : {A B : Type 0} {P : A → Type 0} {Q R : A → B → Type 0} → ((x : A) (y : B) → P x → Q x y → R x y) → (xs : List A) (ys : List B) → AllByRecursion P xs → OneEach Q xs ys → OneEach R xs ys
each_with f [] [] all each = tt
each_with f [] (y ∷ ys) all each = absurd each
each_with f (x ∷ xs) [] all each = absurd each
each_with f (x ∷ xs) (y ∷ ys) all each = (f x y all.0 each.0, each_with f xs ys all.1 each.1)

-- good answers are right
pub all_right : SortsWell → ProvesWell → (turns : ℕ) (ss : List RawSession) (answers : List (List Answer)) → AreReadable ss → MeetSessions turns ss answers → AreRight ss answers
all_right sorts proves turns =
    each_with (λ (s : RawSession) answers. each_with (λ raw a readable (h : IsServed turns raw a). right sorts proves turns raw a readable h.meets) s.goals answers)

-- ---- all proved

valid : (raw : RawGoal) (a : Answer) → IsRight raw a → IsProved a → IsValidRaw raw
valid raw (Proved shown) is proved = is
valid raw (Refuted a) is proved = absurd proved
valid raw (Unsettled k why) is proved = absurd proved
valid raw (Oversize kind) is proved = absurd proved
valid raw (IllSorted at) is proved = absurd proved

all_of_each : {A B : Type 0} {P : A → Type 0} {Q : B → Type 0} {R : A → B → Type 0} → ((x : A) (y : B) → R x y → Q y → P x) → (xs : List A) (ys : List B) → OneEach R xs ys → AllByRecursion Q ys → AllByRecursion P xs
all_of_each f [] [] each all = tt
all_of_each f [] (y ∷ ys) each all = absurd each
all_of_each f (x ∷ xs) [] each all = absurd each
all_of_each f (x ∷ xs) (y ∷ ys) each all = (f x y each.0 all.0, all_of_each f xs ys each.1 all.1)

-- where the right answer to each goal is that it's proved, each holds
pub all_valid : (ss : List RawSession) (answers : List (List Answer)) → AreRight ss answers → AreProved answers → AreValid ss
all_valid ss answers are proved =
    all_of_each (λ (s : RawSession) made each all. all_of_each valid s.goals made each (recursion_from_All IsProved made all)) ss answers are (recursion_from_All (All IsProved) answers proved)
