-- The endings of goals that can't be read, and of those that were answered.
use Rattle.std.specs.Prelude.{◌≡◌, List, true, Bool, ◌↔◌, Result, Ok, Err}
use Rattle.goal_text.specs.declared.fail.TextFail.{TextFail}
use Rattle.goal_text.specs.declared.fail.TextFail.TheVariants as fails
use Rattle.goal_sort.specs.declared.raw.RawSession.{RawSession}
use Rattle.goal_serve.specs.declared.answers.Answer.{Answer}
use Rattle.session_serve.specs.Serving.{AreProved}
use Rattle.session_serve.specs.Report.{report_text, no_cache}
use Rattle.session_serve.specs.Spelling.{AreSpelled}
use Rattle.mm_run.specs.declared.ending.Ending.{Ending}
use Rattle.mm_run.specs.declared.ending.Ending.TheVariants.{Bad, Long, Many, Reported}
use Rattle.mm_run.specs.declared.fail.RunFail.{RunFail}
use Rattle.mm_run.specs.declared.fail.RunFail.TheVariants as runs

abbrev pub refusal_of : TextFail → Result Ending RunFail
refusal_of (fails.Bad at) = Ok (Bad at)
refusal_of (fails.Long at) = Ok (Long at)
refusal_of (fails.Many at) = Ok (Many at)
refusal_of fails.NoMemory = Err runs.NoMemory

-- the ending is the report on the answers, which are spelled so that they are read again, and tells whether each is proved
abbrev pub Tells : List RawSession → List (List Answer) → Ending → Type 0
Tells sessions answers (Reported text proved) = (text.items ≡ report_text sessions answers no_cache no_cache) × ((proved ≡ true) ↔ AreProved answers) × AreSpelled answers
Tells sessions answers ending = ⊥
