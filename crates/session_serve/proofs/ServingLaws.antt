-- Good answers.
use Rattle.std.proofs.Common.{◌≡◌, ℕ, List, Ok, Err, refl, sym, subst}
use Rattle.goal_ast.specs.declared.goal.Goal.{Goal}
use Rattle.goal_sort.specs.declared.raw.RawGoal.{RawGoal}
use Rattle.goal_sort.specs.declared.raw.RawSession.{RawSession}
use Rattle.goal_sort.specs.IsSorted.{IsSorted}
use Rattle.goal_sort.specs.Sorting.{sorting}
use Rattle.goal_sort.specs.SortGiving.{Placed}
use Rattle.goal_serve.specs.declared.answers.Answer.{Answer}
use Rattle.goal_serve.specs.declared.answers.Answer.TheVariants.{Proved, Refuted, Unsettled, Oversize, IllSorted}
use Rattle.goal_serve.specs.Answering.{MeetsGoal, MeetsRaw}
use Rattle.goal_serve.specs.Reply.{IsPrintable}
use Rattle.goal_serve.proofs.AnswerLaws.{refuted_false, not_ill_sorted}
use Rattle.session_serve.specs.Report.{IsReply, AreReplies}
use Rattle.session_serve.specs.Serving.{IsServed, MeetSessions}
use Rattle.session_serve.proofs.PairingLaws.{each_weaker}

-- ---- serving

meets_raw : (raw : RawGoal) (goal : Goal) (turns : ℕ) (a : Answer) → IsSorted raw goal → MeetsGoal goal turns a → MeetsRaw raw turns a
meets_raw raw goal turns (Proved shown) sorted meets = (goal, sorted, meets)
meets_raw raw goal turns (Refuted a) sorted meets = (goal, sorted, meets)
meets_raw raw goal turns (Unsettled k why) sorted meets = (goal, sorted, meets)
meets_raw raw goal turns (Oversize kind) sorted meets = (goal, sorted, meets)
meets_raw raw goal turns (IllSorted at) sorted meets = absurd (not_ill_sorted goal turns at meets)

-- a good answer to the goal is one to the goal as it was read
pub served : (raw : RawGoal) (goal : Goal) (turns : ℕ) (a : Answer) → IsSorted raw goal → MeetsGoal goal turns a → IsServed turns raw a
served raw goal turns a sorted meets = record { meets = meets_raw raw goal turns a sorted meets; files = refl }

pub served_refused : (raw : RawGoal) (turns at : ℕ) → sorting raw ≡ Err at → IsServed turns raw (IllSorted at)
served_refused raw turns at e = record { meets = e; files = refl }

-- ---- reporting

printable : (goal : Goal) (turns : ℕ) (a : Answer) → MeetsGoal goal turns a → IsPrintable goal a
printable goal turns (Proved shown) meets = tt
printable goal turns (Refuted a) meets = (refuted_false goal turns a meets).in_range
printable goal turns (Unsettled k why) meets = tt
printable goal turns (Oversize kind) meets = tt
printable goal turns (IllSorted at) meets = not_ill_sorted goal turns at meets

abbrev pub replies_by : Placed Goal → Answer → Type 0
replies_by sorted a = elim sorted as (λ _. Type 0) [ Ok goal ↦ IsPrintable goal a | Err at ↦ a ≡ IllSorted at ]

reply_to : (raw : RawGoal) (goal : Goal) (turns : ℕ) (a : Answer) → sorting raw ≡ Ok goal → MeetsGoal goal turns a → IsReply raw a
reply_to raw goal turns a e meets = subst (λ s. replies_by s a) (sym e) (printable goal turns a meets)

abbrev pub gives : Type 0
gives = (raw : RawGoal) (goal : Goal) → IsSorted raw goal → sorting raw ≡ Ok goal

reply : gives → (turns : ℕ) (raw : RawGoal) (a : Answer) → MeetsRaw raw turns a → IsReply raw a
reply g turns raw (Proved shown) meets = reply_to raw meets.0 turns (Proved shown) (g raw meets.0 meets.1) meets.2
reply g turns raw (Refuted a) meets = reply_to raw meets.0 turns (Refuted a) (g raw meets.0 meets.1) meets.2
reply g turns raw (Unsettled k why) meets = reply_to raw meets.0 turns (Unsettled k why) (g raw meets.0 meets.1) meets.2
reply g turns raw (Oversize kind) meets = reply_to raw meets.0 turns (Oversize kind) (g raw meets.0 meets.1) meets.2
reply g turns raw (IllSorted at) meets = subst (λ s. replies_by s (IllSorted at)) (sym meets) refl

-- good answers can be reported
pub replies : gives → (turns : ℕ) (ss : List RawSession) (answers : List (List Answer)) → MeetSessions turns ss answers → AreReplies ss answers
replies g turns = each_weaker (λ (s : RawSession) answers. each_weaker (λ raw a (h : IsServed turns raw a). reply g turns raw a h.meets) s.goals answers)
