-- What status 0 means.
use Rattle.std.specs.Prelude.{◌≡◌, ℕ, List, true, false, Option, Some, None, IfSome, refl}
use Rattle.std.proofs.Common.{sym, arith}
use Rattle.goal_sort.specs.declared.raw.RawSession.{RawSession}
use Rattle.goal_serve.specs.declared.answers.Answer.{Answer}
use Rattle.session_serve.specs.Rightness.{AreRight, AreValid}
use Rattle.session_serve.specs.Serving.{AreProved}
use Rattle.cert_kit.specs.declared.row.PRow.{PRow}
use Rattle.cert_kit.specs.declared.cert.Cert.{Cert}
use Rattle.cert_kit.proofs.FaultLaws.{no_fault_good}
use Rattle.cert_kit.proofs.SoundLaws.{accepted_sound}
use Rattle.cert_check.specs.declared.checking.Verdict.TheVariants.{Accepted, Rejected, Size}
use Rattle.cert_check.proofs.VerdictLaws.{accepted_is}
use Rattle.mm_run.specs.declared.words.Command.{Command}
use Rattle.mm_run.specs.declared.words.Command.TheVariants.{Check, Prove, Recheck}
use Rattle.mm_run.specs.declared.ending.Ending.{Ending}
use Rattle.mm_run.specs.declared.ending.Ending.TheVariants.{Usage, TooLong, Bad, Long, Many, Checked, Reported, AllGood, NotGood}
use Rattle.report_text.specs.Report.{Report, IsReport}
use Rattle.report_check.specs.Goodness.{HasGoodGoals}
use Rattle.report_check.specs.Rightness.{IsRightReport}
use Rattle.mm_run.specs.Words.{Asks}
use Rattle.mm_run.specs.Reporting.{HasVerdict, IsUnsolvable}
use Rattle.mm_run.specs.Ending.{BytesCallFor, CallsFor, status_of, IsSettledBy}

accepted_unsolvable : (bytes : List ℕ) → HasVerdict bytes Accepted → IsUnsolvable bytes
accepted_unsolvable bytes h =
    let good = no_fault_good h.1 h.0 (accepted_is _ (sym h.4)) in
    (h.0, h.1, h.3, good, accepted_sound h.1 h.0 good.accepted)

-- where right answers are that each goal is proved, each holds for all values
abbrev ValidLaw : Type 0
ValidLaw = (sessions : List RawSession) (answers : List (List Answer)) → AreRight sessions answers → AreProved answers → AreValid sessions

-- where the goals of a report are good, it is right
abbrev GoodLaw : Type 0
GoodLaw = (r : Report) → IsReport r → HasGoodGoals r → IsRightReport r

bytes_settled : ValidLaw → GoodLaw → (c : Command) (bytes : List ℕ) (e : Ending) → status_of e ≡ 0 → BytesCallFor c bytes e → IsSettledBy c bytes
bytes_settled law good Check bytes (Checked Accepted) s h = accepted_unsolvable bytes h.1
bytes_settled law good (Prove n) bytes (Reported text true) s h = (h.1.sessions, h.1.file, law h.1.sessions h.1.answers h.1.right (h.1.each.0 refl))
bytes_settled law good Recheck bytes AllGood s h = (h.1.0, record { spell = h.1.1; good = h.1.2; right = good h.1.0 h.1.1.is h.1.2 })
bytes_settled law good Check bytes AllGood s h = absurd h.1
bytes_settled law good (Prove n) bytes AllGood s h = absurd h.1
bytes_settled law good Recheck bytes (Checked Accepted) s h = absurd h.1
bytes_settled law good Recheck bytes (Reported text true) s h = absurd h.1
bytes_settled law good c bytes (NotGood t g) s h = absurd (omega (arith, s))
bytes_settled law good Check bytes (Reported text true) s h = absurd h.1
bytes_settled law good (Prove n) bytes (Checked Accepted) s h = absurd h.1
bytes_settled law good c bytes (Checked Rejected) s h = absurd (omega (arith, s))
bytes_settled law good c bytes (Checked Size) s h = absurd (omega (arith, s))
bytes_settled law good c bytes (Reported text false) s h = absurd (omega (arith, s))
bytes_settled law good c bytes Usage s h = absurd (omega (arith, s))
bytes_settled law good c bytes TooLong s h = absurd (omega (arith, s))
bytes_settled law good c bytes (Bad at) s h = absurd (omega (arith, s))
bytes_settled law good c bytes (Long at) s h = absurd (omega (arith, s))
bytes_settled law good c bytes (Many at) s h = absurd (omega (arith, s))

if_some : {A : Type 0} (P Q : A → Type 0) (x : Option A) → ((a : A) → P a → Q a) → IfSome x P → IfSome x Q
if_some P Q None f p = tt
if_some P Q (Some a) f p = f a p

settled : (words : List (List ℕ)) (left : Option (List ℕ)) (e : Ending) → ((c : Command) (bytes : List ℕ) → BytesCallFor c bytes e → IsSettledBy c bytes)
    → (c : Command) × Asks words c × IfSome left (λ bytes. BytesCallFor c bytes e) → (c : Command) × Asks words c × IfSome left (IsSettledBy c)
settled words left e f h = (h.0, h.1, if_some (λ bytes. BytesCallFor h.0 bytes e) (IsSettledBy h.0) left (f h.0) h.2)

-- status 0 is due only where no integer point solves the rows, or each goal holds for all values
pub ending_sound : ValidLaw → GoodLaw → (words : List (List ℕ)) (left : Option (List ℕ)) (e : Ending) → CallsFor words left e → status_of e ≡ 0
    → (c : Command) × Asks words c × IfSome left (IsSettledBy c)
ending_sound law good words left (Checked v) h s = settled words left (Checked v) (λ c bytes. bytes_settled law good c bytes (Checked v) s) h
ending_sound law good words left (Reported text proved) h s = settled words left (Reported text proved) (λ c bytes. bytes_settled law good c bytes (Reported text proved) s) h
ending_sound law good words left AllGood h s = settled words left AllGood (λ c bytes. bytes_settled law good c bytes AllGood s) h
ending_sound law good words left (NotGood t g) h s = absurd (omega (arith, s))
ending_sound law good words left Usage h s = absurd (omega (arith, s))
ending_sound law good words left TooLong h s = absurd (omega (arith, s))
ending_sound law good words left (Bad at) h s = absurd (omega (arith, s))
ending_sound law good words left (Long at) h s = absurd (omega (arith, s))
ending_sound law good words left (Many at) h s = absurd (omega (arith, s))
