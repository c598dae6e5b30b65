-- When an ending is due, and which are those of refusals.
use Rattle.std.specs.Prelude.{◌≡◌, ℕ, ◌<◌, ◌≤◌, List, [], ◌++◌, length, Option, Some, None, Result, Ok, Err, IfOk, IfSome, ◌⊎◌, refl}
use Rattle.std.proofs.Common.{sym, ◌∙◌, ap, subst, arith, append-nil, inl, inr}
use Rattle.std.specs.Io.KnownBytes.{Appends, Consumes, IsAtEnd}
use Rattle.mm_run.specs.declared.words.Command.{Command}
use Rattle.mm_run.specs.declared.words.Command.TheVariants.{Check, Prove, Recheck}
use Rattle.mm_run.specs.declared.ending.Ending.{Ending}
use Rattle.mm_run.specs.declared.ending.Ending.TheVariants.{Usage, TooLong, Bad, Long, Many, Checked, Reported, AllGood, NotGood}
use Rattle.mm_run.specs.declared.fail.RunFail.{RunFail}
use Rattle.mm_run.specs.Words.{Asks, input_limit}
use Rattle.mm_run.specs.Ending.{InputCallsFor, BytesCallFor, CallsFor, text_of, status_of, IsNoInput, IsRefusal, WritesAccepted}
use Rattle.report_check.specs.declared.types.Recheck.TheVariants.{Accepted}
use Rattle.report_check.specs.Goodness.{Rechecks}
use Rattle.mm_run.proofs.WordLaws.{one_limit, one_kind, check_is_not_prove, recheck_is_not_prove}

-- ---- due

all_read : (xs bytes ys : List ℕ) → xs ≡ bytes ++ ys → ys ≡ [] → bytes ≡ xs
all_read xs bytes ys h e = sym (h ∙ ap (λ r. bytes ++ r) e ∙ append-nil bytes)

-- bytes that were read to the end are those that were left
left_is : (left now : Option (List ℕ)) (bytes : List ℕ) → Consumes left now bytes → IsAtEnd now → IfSome left (λ k. bytes ≡ k)
left_is None now bytes c a = tt
left_is (Some xs) None bytes c a = absurd c
left_is (Some xs) (Some ys) bytes c a = all_read xs bytes ys c a

known : (P : List ℕ → Type 0) (left : Option (List ℕ)) (bytes : List ℕ) → IfSome left (λ k. bytes ≡ k) → P bytes → IfSome left P
known P None bytes k p = tt
known P (Some xs) bytes k p = subst P k p

calls_for : (words : List (List ℕ)) (left : Option (List ℕ)) (c : Command) (bytes : List ℕ) (e : Ending) → Asks words c → IfSome left (λ k. bytes ≡ k)
    → length bytes ≤ input_limit c → InputCallsFor c bytes e → CallsFor words left e
calls_for words left Check bytes Usage a k l t = absurd t
calls_for words left (Prove n) bytes Usage a k l t = absurd t
calls_for words left Recheck bytes Usage a k l t = absurd t
calls_for words left Check bytes TooLong a k l t = absurd t
calls_for words left (Prove n) bytes TooLong a k l t = absurd t
calls_for words left Recheck bytes TooLong a k l t = absurd t
calls_for words left c bytes (Bad at) a k l t = (c, a, known (λ b. BytesCallFor c b (Bad at)) left bytes k (l, t))
calls_for words left c bytes (Long at) a k l t = (c, a, known (λ b. BytesCallFor c b (Long at)) left bytes k (l, t))
calls_for words left c bytes (Many at) a k l t = (c, a, known (λ b. BytesCallFor c b (Many at)) left bytes k (l, t))
calls_for words left c bytes (Checked v) a k l t = (c, a, known (λ b. BytesCallFor c b (Checked v)) left bytes k (l, t))
calls_for words left c bytes (Reported text proved) a k l t = (c, a, known (λ b. BytesCallFor c b (Reported text proved)) left bytes k (l, t))
calls_for words left c bytes AllGood a k l t = (c, a, known (λ b. BytesCallFor c b AllGood) left bytes k (l, t))
calls_for words left c bytes (NotGood s g) a k l t = (c, a, known (λ b. BytesCallFor c b (NotGood s g)) left bytes k (l, t))

-- what the bytes that were read call for is due
pub read_due : (words : List (List ℕ)) (left now : Option (List ℕ)) (c : Command) (bytes : List ℕ) (r : Result Ending RunFail) → Asks words c
    → Consumes left now bytes → IsAtEnd now → length bytes ≤ input_limit c → IfOk r (InputCallsFor c bytes) → IfOk r (CallsFor words left)
read_due words left now c bytes (Err f) a h e l t = tt
read_due words left now c bytes (Ok ending) a h e l t = calls_for words left c bytes ending a (left_is left now bytes h e) l t

-- ---- refusals

-- bytes that are read are input of the command
is_input : (c : Command) (bytes : List ℕ) (e : Ending) → InputCallsFor c bytes e → IsNoInput c bytes → status_of e ≡ 2
is_input Check bytes (Checked v) h n = absurd (n h.0 h.1 h.2 h.3)
is_input (Prove turns) bytes (Reported text proved) h n = absurd (n h.sessions h.file)
is_input c bytes Usage h n = refl
is_input c bytes TooLong h n = refl
is_input c bytes (Bad at) h n = refl
is_input c bytes (Long at) h n = refl
is_input c bytes (Many at) h n = refl
is_input (Prove turns) bytes (Checked v) h n = absurd h
is_input Check bytes (Reported text proved) h n = absurd h
is_input Recheck bytes (Checked v) h n = absurd h
is_input Recheck bytes (Reported text proved) h n = absurd h
is_input Recheck bytes AllGood h n = absurd (n h.0 h.1.is h.1.spelled)
is_input Recheck bytes (NotGood s g) h n = absurd (n h.0 h.1.is h.1.spelled)
is_input Check bytes AllGood h n = absurd h
is_input Check bytes (NotGood s g) h n = absurd h
is_input (Prove turns) bytes AllGood h n = absurd h
is_input (Prove turns) bytes (NotGood s g) h n = absurd h

within : (words : List (List ℕ)) (c d : Command) (bytes : List ℕ) (e : Ending) → Asks words c → Asks words d → length bytes ≤ input_limit c → InputCallsFor c bytes e
    → (input_limit d < length bytes) ⊎ IsNoInput d bytes → status_of e ≡ 2
within words c d bytes e a b l h (inl long) = absurd (omega (arith, l, long, one_limit words c d a b))
within words c d bytes e a b l h (inr unread) = is_input c bytes e h (one_kind (λ k. IsNoInput k bytes) (λ n m p. p) words d c b a unread)

of_input : (words : List (List ℕ)) (left : Option (List ℕ)) (e : Ending)
    → ((c : Command) (bytes : List ℕ) → BytesCallFor c bytes e → (length bytes ≤ input_limit c) × InputCallsFor c bytes e)
    → (c : Command) × Asks words c × IfSome left (λ bytes. BytesCallFor c bytes e) → IsRefusal words left → status_of e ≡ 2
of_input words left e f h (inl none) = absurd (none h.0 h.1)
of_input words None e f h (inr r) = absurd r.2
of_input words (Some bytes) e f h (inr r) = let i = f h.0 bytes h.2 in within words h.0 r.0 bytes e h.1 r.1 i.0 i.1 r.2

-- words or input that are refused have status 2
pub refusal_ends : (words : List (List ℕ)) (left : Option (List ℕ)) (e : Ending) → CallsFor words left e → IsRefusal words left → status_of e ≡ 2
refusal_ends words left (Checked v) h r = of_input words left (Checked v) (λ c bytes p. p) h r
refusal_ends words left (Reported text proved) h r = of_input words left (Reported text proved) (λ c bytes p. p) h r
refusal_ends words left AllGood h r = of_input words left AllGood (λ c bytes p. p) h r
refusal_ends words left (NotGood s g) h r = of_input words left (NotGood s g) (λ c bytes p. p) h r
refusal_ends words left Usage h r = refl
refusal_ends words left TooLong h r = refl
refusal_ends words left (Bad at) h r = refl
refusal_ends words left (Long at) h r = refl
refusal_ends words left (Many at) h r = refl

-- ---- reports

bytes_accepted : (n : ℕ) (bytes : List ℕ) (e : Ending) → BytesCallFor (Prove n) bytes e → status_of e < 2 → Rechecks (text_of e) Accepted
bytes_accepted n bytes (Reported text proved) h s = h.1.accepted
bytes_accepted n bytes (Checked v) h s = absurd h.1
bytes_accepted n bytes AllGood h s = absurd h.1
bytes_accepted n bytes (NotGood t g) h s = absurd h.1
bytes_accepted n bytes Usage h s = absurd (omega (arith, s))
bytes_accepted n bytes TooLong h s = absurd (omega (arith, s))
bytes_accepted n bytes (Bad at) h s = absurd (omega (arith, s))
bytes_accepted n bytes (Long at) h s = absurd (omega (arith, s))
bytes_accepted n bytes (Many at) h s = absurd (omega (arith, s))

command_accepted : (words : List (List ℕ)) (turns : ℕ) (c : Command) (bytes : List ℕ) (e : Ending) → Asks words c → Asks words (Prove turns) → BytesCallFor c bytes e → status_of e < 2
    → Rechecks (text_of e) Accepted
command_accepted words turns Check bytes e a b h s = absurd (check_is_not_prove words turns a b)
command_accepted words turns Recheck bytes e a b h s = absurd (recheck_is_not_prove words turns a b)
command_accepted words turns (Prove n) bytes e a b h s = bytes_accepted n bytes e h s

called_accepted : (words : List (List ℕ)) (left old new : Option (List ℕ)) (e : Ending) (turns : ℕ) → Asks words (Prove turns) → status_of e < 2 → Appends old new (text_of e)
    → (c : Command) × Asks words c × IfSome left (λ bytes. BytesCallFor c bytes e) → IfSome left (λ bytes. WritesAccepted old new)
called_accepted words None old new e turns a s w h = tt
called_accepted words (Some bytes) old new e turns a s w h = (text_of e, w, command_accepted words turns h.0 bytes e h.1 a h.2 s)

-- the report that is written on goals is accepted when it is checked
pub report_accepted : (words : List (List ℕ)) (left old new : Option (List ℕ)) (e : Ending) (turns : ℕ) → Asks words (Prove turns) → status_of e < 2 → Appends old new (text_of e)
    → CallsFor words left e → IfSome left (λ bytes. WritesAccepted old new)
report_accepted words left old new (Checked v) turns a s w h = called_accepted words left old new (Checked v) turns a s w h
report_accepted words left old new (Reported text proved) turns a s w h = called_accepted words left old new (Reported text proved) turns a s w h
report_accepted words left old new AllGood turns a s w h = called_accepted words left old new AllGood turns a s w h
report_accepted words left old new (NotGood t g) turns a s w h = called_accepted words left old new (NotGood t g) turns a s w h
report_accepted words left old new Usage turns a s w h = absurd (omega (arith, s))
report_accepted words left old new TooLong turns a s w h = absurd (omega (arith, s))
report_accepted words left old new (Bad at) turns a s w h = absurd (omega (arith, s))
report_accepted words left old new (Long at) turns a s w h = absurd (omega (arith, s))
report_accepted words left old new (Many at) turns a s w h = absurd (omega (arith, s))
