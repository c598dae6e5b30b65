-- What goals that were read call for.
use Rattle.std.specs.Prelude.{◌≡◌, ◌≢◌, ℕ, List, Result, Ok, Err, IfOk}
use Rattle.std.proofs.Common.{sym, subst}
use Rattle.goal_sort.specs.declared.raw.RawSession.{RawSession}
use Rattle.goal_text.specs.declared.fail.TextFail.{TextFail}
use Rattle.goal_text.specs.declared.fail.TextFail.TheVariants as fails
use Rattle.goal_text.specs.Refusals.{IsRefused, IsWithin}
use Rattle.goal_text.specs.GoalsRead.{AreReadable}
use Rattle.goal_serve.specs.declared.answers.Answer.{Answer}
use Rattle.session_serve.specs.Rightness.{AreRight}
use Rattle.session_serve.specs.Serving.{MeetSessions}
use Rattle.mm_run.specs.declared.words.Command.TheVariants.{Prove}
use Rattle.mm_run.specs.declared.ending.Ending.{Ending}
use Rattle.mm_run.specs.declared.ending.Ending.TheVariants.{Usage, TooLong, Bad, Long, Many, Checked, Reported, AllGood, NotGood}
use Rattle.mm_run.specs.declared.fail.RunFail.{RunFail}
use Rattle.goal_token.specs.Tokens.{tokens_of}
use Rattle.goal_text.specs.Files.{Reads}
use Rattle.session_serve.specs.Report.{report_text, no_cache}
use Rattle.session_serve.specs.Spelling.{AreSpelled}
use Rattle.report_check.specs.declared.types.Recheck.TheVariants.{Accepted}
use Rattle.report_check.specs.Goodness.{Rechecks}
use Rattle.mm_run.specs.Reporting.{IsGoalFile, IsNoGoalFile}
use Rattle.mm_run.specs.Ending.{InputCallsFor}
use Rattle.mm_run.specs.machine.Calling.{refusal_of, Tells}

pub refusal_due : (turns : ℕ) (bytes : List ℕ) (fail : TextFail) (r : Result Ending RunFail) → r ≡ refusal_of fail → IsRefused bytes fail
    → (fail ≢ fails.NoMemory → IsNoGoalFile bytes) → IfOk r (InputCallsFor (Prove turns) bytes)
refusal_due turns bytes (fails.Bad at) r e h n = subst (λ (k : Result Ending RunFail). IfOk k (InputCallsFor (Prove turns) bytes)) (sym e) (n (λ q. absurd cc), h)
refusal_due turns bytes (fails.Long at) r e h n = subst (λ (k : Result Ending RunFail). IfOk k (InputCallsFor (Prove turns) bytes)) (sym e) (n (λ q. absurd cc), h)
refusal_due turns bytes (fails.Many at) r e h n = subst (λ (k : Result Ending RunFail). IfOk k (InputCallsFor (Prove turns) bytes)) (sym e) (n (λ q. absurd cc), h)
refusal_due turns bytes fails.NoMemory r e h n = subst (λ (k : Result Ending RunFail). IfOk k (InputCallsFor (Prove turns) bytes)) (sym e) tt

-- a report on good answers that are spelled so that they are read again is accepted
abbrev pub AcceptedLaw : Type 0
AcceptedLaw = (turns : ℕ) (bytes : List ℕ) (sessions : List RawSession) (answers : List (List Answer)) → Reads bytes sessions → IsWithin (tokens_of bytes) → MeetSessions turns sessions answers
    → AreSpelled answers → Rechecks (report_text sessions answers no_cache no_cache) Accepted

told : AcceptedLaw → (turns : ℕ) (bytes : List ℕ) (sessions : List RawSession) (answers : List (List Answer)) (ending : Ending) → Tells sessions answers ending
    → IsGoalFile bytes sessions → AreRight sessions answers → MeetSessions turns sessions answers → InputCallsFor (Prove turns) bytes ending
told law turns bytes sessions answers (Reported text proved) t f r m = record {
  sessions = sessions;
  file = f;
  answers = answers;
  good = m;
  report = t.0;
  each = t.1;
  right = r;
  accepted = subst (λ text. Rechecks text Accepted) (sym t.0) (law turns bytes sessions answers f.0 f.1 m t.2);
}
told law turns bytes sessions answers Usage t f r m = absurd t
told law turns bytes sessions answers TooLong t f r m = absurd t
told law turns bytes sessions answers (Bad at) t f r m = absurd t
told law turns bytes sessions answers (Long at) t f r m = absurd t
told law turns bytes sessions answers (Many at) t f r m = absurd t
told law turns bytes sessions answers (Checked v) t f r m = absurd t
told law turns bytes sessions answers AllGood t f r m = absurd t
told law turns bytes sessions answers (NotGood s g) t f r m = absurd t

-- good answers to sessions are right
abbrev RightLaw : Type 0
RightLaw = (turns : ℕ) (sessions : List RawSession) (answers : List (List Answer)) → AreReadable sessions → MeetSessions turns sessions answers → AreRight sessions answers

-- the report on answers to the sessions that were read
pub told_due : AcceptedLaw → (turns : ℕ) (bytes : List ℕ) (sessions served printed : List RawSession) (answers : List (List Answer)) (r : Result Ending RunFail) → served ≡ sessions → printed ≡ sessions
    → IfOk r (Tells printed answers) → IsGoalFile bytes sessions → RightLaw → AreReadable sessions → MeetSessions turns served answers → IfOk r (InputCallsFor (Prove turns) bytes)
told_due accepted turns bytes sessions served printed answers (Err e) s p t f law d m = tt
told_due accepted turns bytes sessions served printed answers (Ok ending) s p t f law d m =
    let good = subst (λ (k : List RawSession). MeetSessions turns k answers) s m in
    told accepted turns bytes sessions answers ending (subst (λ (k : List RawSession). Tells k answers ending) p t) f (law turns sessions answers d good) good
