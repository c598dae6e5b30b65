-- Reading the tokens of a file, up to the first refusal.
use Rattle.std.specs.Prelude.{◌≡◌, ◌≤◌, ℕ, Option, Some, None, Result, Ok, Err, IfSome}
use Rattle.goal_token.specs.declared.token.Placed.{Placed}
use Rattle.goal_text.specs.declared.fail.TextFail.{TextFail}
use Rattle.goal_text.specs.declared.fail.TextFail.TheVariants.{Bad, Long, Many, NoMemory}
use Rattle.goal_text.specs.declared.read.Counters.{Counters}
use Rattle.goal_text.specs.Steps.{FileRead, file_with}
use Rattle.goal_text.specs.Counts.{body_count}
use Rattle.goal_text.specs.Outcome.{Begun, limit_at}

-- a refusal is what reading comes to; want of memory may stand for anything
abbrev pub Refuses : {A : Type 0} → TextFail → Result A TextFail → Type 0
Refuses (Bad at) read = read ≡ Err (Bad at)
Refuses (Long at) read = read ≡ Err (Long at)
Refuses (Many at) read = read ≡ Err (Many at)
Refuses NoMemory read = Unit {0}

-- what a function returned is what reading comes to, unless memory ran out
abbrev pub Comes : {A : Type 0} → Result A TextFail → Result A TextFail → Type 0
Comes (Ok x) read = read ≡ Ok x
Comes (Err e) read = Refuses e read

-- the counters of a reading
abbrev pub begun_of : Counters → Begun
begun_of c = record { sessions = c.sessions; goals = c.goals }

-- a refusal at this place, where there is nothing
abbrev pub or_bad : {A : Type 0} → ℕ → Option A → Result A TextFail
or_bad at None = Err (Bad at)
or_bad at (Some x) = Ok x

-- a limit refuses what was read
abbrev pub unless : {A : Type 0} → Option TextFail → A → Result A TextFail
unless (Some fail) x = Err fail
unless None x = Ok x

-- one more token, up to the limits
abbrev pub taken : FileRead → Begun → Placed → Result FileRead TextFail
taken f b t = elim (or_bad t.at (file_with f t)) [ Err fail ↦ Err fail | Ok g ↦ unless (limit_at f b t) g ]

-- the limits hold so far
pub record IsFew (f : FileRead) (b : Begun) : Type 0 where
  pub sessions : b.sessions ≤ 64
  pub goals : b.goals ≤ 1024
  pub body : IfSome (body_count f) (λ n. n ≤ 2048)
