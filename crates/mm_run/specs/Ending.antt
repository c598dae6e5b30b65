-- How a run ends: the text that it writes, its status, and when it is due.
use Rattle.std.specs.Prelude.{◌≡◌, ◌≢◌, ℕ, ◌<◌, ◌≤◌, List, [], ◌∷◌, ◌++◌, length, codes, decimal, take, Bool, true, false, ◌⊎◌, Option, Some, None, IfSome, IsSomeAnd}
use Rattle.std.specs.Io.KnownBytes.{Appends}
use Rattle.cert_check.specs.declared.checking.Verdict.{Verdict}
use Rattle.cert_check.specs.declared.checking.Verdict.TheVariants.{Accepted, Rejected, Size}
use Rattle.cert_text.specs.Place.{IsNoCheck, IsBadAt}
use Rattle.goal_text.specs.declared.fail.TextFail.TheVariants as fails
use Rattle.goal_text.specs.Refusals.{IsRefused}
use Rattle.mm_run.specs.declared.words.Command.{Command}
use Rattle.mm_run.specs.declared.words.Command.TheVariants.{Check, Prove, Recheck}
use Rattle.mm_run.specs.declared.ending.Ending.{Ending}
use Rattle.mm_run.specs.declared.ending.Ending.TheVariants.{Usage, TooLong, Bad, Long, Many, Checked, Reported, AllGood, NotGood}
use Rattle.mm_run.specs.Words.{Asks, input_limit}
use Rattle.report_text.specs.Place.{IsNoReport}
use Rattle.report_check.specs.declared.types.Recheck.TheVariants as verdicts
use Rattle.report_check.specs.Goodness.{Rechecks}
use Rattle.mm_run.specs.Reporting.{HasVerdict, IsUnsolvable, IsNoGoalFile, IsReportOn, IsValidFile, IsRightReportText}

-- what input that isn't too long calls for
abbrev pub InputCallsFor : Command → List ℕ → Ending → Type 0
InputCallsFor Check bytes (Bad at) = IsNoCheck bytes × IsBadAt bytes at
InputCallsFor Check bytes (Checked v) = HasVerdict bytes v
InputCallsFor (Prove turns) bytes (Bad at) = IsNoGoalFile bytes × IsRefused bytes (fails.Bad at)
InputCallsFor (Prove turns) bytes (Long at) = IsNoGoalFile bytes × IsRefused bytes (fails.Long at)
InputCallsFor (Prove turns) bytes (Many at) = IsNoGoalFile bytes × IsRefused bytes (fails.Many at)
InputCallsFor (Prove turns) bytes (Reported text proved) = IsReportOn turns bytes text.items proved
InputCallsFor Recheck bytes (Bad at) = Rechecks bytes (verdicts.Bad at)
InputCallsFor Recheck bytes AllGood = Rechecks bytes verdicts.Accepted
InputCallsFor Recheck bytes (NotGood session goal) = Rechecks bytes (verdicts.Rejected session goal)
InputCallsFor command bytes ending = ⊥

-- what input calls for
abbrev pub BytesCallFor : Command → List ℕ → Ending → Type 0
BytesCallFor command bytes TooLong = input_limit command < length bytes
BytesCallFor command bytes ending = (length bytes ≤ input_limit command) × InputCallsFor command bytes ending

-- what the words call for, and the bytes that were left where they are known
abbrev pub CallsFor : List (List ℕ) → Option (List ℕ) → Ending → Type 0
CallsFor words left Usage = (command : Command) → Asks words command → ⊥
CallsFor words left ending = (command : Command) × Asks words command × IfSome left (λ bytes. BytesCallFor command bytes ending)

abbrev pub verdict_word : Verdict → List ℕ
verdict_word Accepted = codes "accepted"
verdict_word Rejected = codes "rejected"
verdict_word Size = codes "size"

-- a line of a word and a place
abbrev pub placed : List ℕ → ℕ → List ℕ
placed word at = (word ++ decimal at) ++ 10 ∷ []

-- the line of a goal that isn't good
abbrev pub rejected : ℕ → ℕ → List ℕ
rejected session goal = ((codes "rejected " ++ decimal session) ++ 32 ∷ [] ++ decimal goal) ++ 10 ∷ []

-- the text, each line with its line feed
abbrev pub text_of : Ending → List ℕ
text_of Usage = codes "usage: mm check | prove [--turns N] | recheck\n"
text_of TooLong = codes "too long\n"
text_of (Bad at) = placed (codes "bad ") at
text_of (Long at) = placed (codes "long ") at
text_of (Many at) = placed (codes "many ") at
text_of (Checked v) = verdict_word v ++ 10 ∷ []
text_of (Reported text proved) = text.items
text_of AllGood = codes "accepted\n"
text_of (NotGood session goal) = rejected session goal

abbrev pub verdict_status : Verdict → ℕ
verdict_status Accepted = 0
verdict_status Rejected = 1
verdict_status Size = 1

abbrev pub report_status : Bool → ℕ
report_status true = 0
report_status false = 1

abbrev pub status_of : Ending → ℕ
status_of (Checked v) = verdict_status v
status_of (Reported text proved) = report_status proved
status_of AllGood = 0
status_of (NotGood session goal) = 1
status_of ending = 2

-- the ending's own status, or that of want of memory or of a device that failed
abbrev pub IsEndingStatus : Ending → ℕ → Type 0
IsEndingStatus e status = (status ≡ status_of e) ⊎ ((status ≡ 3) ⊎ (status ≡ 5))

-- the run wrote the whole text that is due, and has its status
abbrev pub Ends : List (List ℕ) → Option (List ℕ) → Option (List ℕ) → Option (List ℕ) → ℕ → Type 0
Ends words left old new status = (e : Ending) × CallsFor words left e × (status ≡ status_of e) × Appends old new (text_of e)

-- the run wrote a prefix of a text that is due, or nothing
abbrev pub WritesPrefix : List (List ℕ) → Option (List ℕ) → Option (List ℕ) → Option (List ℕ) → Type 0
WritesPrefix words left old new =
    Appends old new [] ⊎ ((e : Ending) × (n : ℕ) × CallsFor words left e × Appends old new (take n (text_of e)))

-- the run wrote a report that is accepted when it is checked
abbrev pub WritesAccepted : Option (List ℕ) → Option (List ℕ) → Type 0
WritesAccepted old new = (text : List ℕ) × Appends old new text × Rechecks text verdicts.Accepted

-- neither memory nor a device failed the run
abbrev pub IsWhole : ℕ → Type 0
IsWhole status = (status ≢ 3) × (status ≢ 5)

-- what status 0 says of known bytes: no integer point solves the rows; each goal holds for all values; the report is right
abbrev pub IsSettledBy : Command → List ℕ → Type 0
IsSettledBy Check bytes = IsUnsolvable bytes
IsSettledBy (Prove turns) bytes = IsValidFile bytes
IsSettledBy Recheck bytes = IsRightReportText bytes

-- the bytes aren't what the command reads
abbrev pub IsNoInput : Command → List ℕ → Type 0
IsNoInput Check bytes = IsNoCheck bytes
IsNoInput (Prove turns) bytes = IsNoGoalFile bytes
IsNoInput Recheck bytes = IsNoReport bytes

-- the words aren't right, or known bytes are too many or not what is read
abbrev pub IsRefusal : List (List ℕ) → Option (List ℕ) → Type 0
IsRefusal words left = ((command : Command) → Asks words command → ⊥)
    ⊎ ((command : Command) × Asks words command × IsSomeAnd left (λ bytes. (input_limit command < length bytes) ⊎ IsNoInput command bytes))
