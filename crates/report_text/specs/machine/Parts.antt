-- Parts of a line that are read with memory: names, goals, and the bytes up to a line feed.
use Rattle.std.specs.Prelude.{◌≡◌, ◌≢◌, ℕ, List, [], ◌∷◌, ◌++◌, Option, Some, None, false, ◌==◌, if◌then◌else◌, codes}
use Rattle.mm_num.specs.Option.{◌>>=◌}
use Rattle.cert_text.specs.Text.{has_line_feed}
use Rattle.cert_text.specs.Reading.{after}
use Rattle.goal_ast.specs.declared.goal.Goal.{Goal}
use Rattle.goal_ast.specs.declared.goal.Mode.{Mode}
use Rattle.goal_ast.specs.declared.goal.Mode.TheVariants.{Lia, Nia}
use Rattle.goal_ast.specs.declared.goal.Name.{Name}
use Rattle.goal_token.specs.declared.token.Token.{Token}
use Rattle.goal_token.specs.declared.token.Token.TheVariants as token
use Rattle.goal_token.specs.declared.token.Placed.{Placed}
use Rattle.goal_token.specs.Spacing.{IsName}
use Rattle.goal_token.specs.Tokens.{tokens_of}
use Rattle.goal_sort.specs.declared.raw.RawGoal.{RawGoal}
use Rattle.goal_sort.specs.declared.raw.RawSession.{RawSession}
use Rattle.goal_sort.specs.IsSorted.{IsSorted}
use Rattle.goal_text.specs.Files.{Reads}
use Rattle.goal_text.specs.GoalsRead.{AreGoalsOfFile}
use Rattle.goal_text.specs.Refusals.{IsWithin}
use Rattle.goal_print.specs.Text.{goal_text}
use Rattle.goal_print.specs.ReadsBack.{ReadsBack, mode_text, alone}
use Rattle.goal_serve.specs.Line.{asked_text}
use Rattle.report_text.specs.Line.{IsText, IsAsked}
use Rattle.report_text.specs.machine.Reading.{first_of, word_at, number_after}

-- the bytes before the first line feed and those after it, or none where there is no line feed
abbrev pub SplitsLine : List ℕ → Option (List ℕ × List ℕ) → Type 0
SplitsLine bytes None = has_line_feed bytes ≡ false
SplitsLine bytes (Some x) = (has_line_feed x.0 ≡ false) × (bytes ≡ x.0 ++ 10 ∷ x.1)

-- the bytes before a dot and the first line feed, and those after it, or none where no dot stands before it
abbrev pub SplitsDotted : List ℕ → Option (List ℕ × List ℕ) → Type 0
SplitsDotted bytes None = (text rest : List ℕ) → has_line_feed text ≡ false → bytes ≢ (text ++ codes ".\n") ++ rest
SplitsDotted bytes (Some x) = (has_line_feed x.0 ≡ false) × (bytes ≡ (x.0 ++ codes ".\n") ++ x.1)

-- ---- names

abbrev pub name_in : Token → Option Name
name_in (token.Name x) = Some x
name_in t = None

-- the name that is the first of the tokens
abbrev pub first_name : List Placed → Option Name
first_name [] = None
first_name (t ∷ ts) = name_in t.token

-- the name with this text, or none where the text is no name
abbrev pub ReadsName : List ℕ → Option Name → Type 0
ReadsName text None = IsName text → ⊥
ReadsName text (Some name) = IsName text × (name.bytes ≡ text)

-- ---- goals

-- a file with a goal of this text alone
abbrev pub file_with : Mode → List ℕ → List ℕ
file_with mode text = codes "Session a. Goal " ++ (text ++ (codes ". " ++ (mode_text mode ++ codes ".")))

-- the sessions of a file, or none where the bytes are no file within the limits
abbrev pub ReadsSessions : List ℕ → Option (List RawSession) → Type 0
ReadsSessions bytes None = (sessions : List RawSession) → Reads bytes sessions → IsWithin (tokens_of bytes) → ⊥
ReadsSessions bytes (Some sessions) = Reads bytes sessions × IsWithin (tokens_of bytes) × AreGoalsOfFile sessions

-- the goal that stands alone in a session of the name `a`, or none where the sessions are others
abbrev pub IsOnlyGoal : List RawSession → Option RawGoal → Type 0
IsOnlyGoal sessions None = (raw : RawGoal) → sessions ≢ alone raw
IsOnlyGoal sessions (Some raw) = sessions ≡ alone raw

-- the goal that this one as it was read is, or none where it has no sorts
abbrev pub SortsTo : RawGoal → Option Goal → Type 0
SortsTo raw None = (goal : Goal) → IsSorted raw goal → ⊥
SortsTo raw (Some goal) = IsSorted raw goal

-- the bytes are a file within the limits with this goal alone
pub record IsFileOf (bytes : List ℕ) (goal : Goal) : Type 0 where
  pub raw : RawGoal
  pub reads : Reads bytes (alone raw)
  pub within : IsWithin (tokens_of bytes)
  pub sorted : IsSorted raw goal

-- the goal that stands alone in a file, or none where the bytes are no such file
abbrev pub ReadsFile : List ℕ → Option Goal → Type 0
ReadsFile bytes None = (goal : Goal) → IsFileOf bytes goal → ⊥
ReadsFile bytes (Some goal) = IsFileOf bytes goal

-- the goal of a mode with this text, or none where it is the text of no goal
abbrev pub ReadsGoal : Mode → List ℕ → Option Goal → Type 0
ReadsGoal mode text None = (goal : Goal) → goal.mode ≡ mode → ReadsBack goal → goal_text goal ≢ text
ReadsGoal mode text (Some goal) = (goal.mode ≡ mode) × ReadsBack goal × (goal_text goal ≡ text)

-- a goal's text with a dot at the front of the bytes, up to the end of the line, and what follows it
abbrev pub ReadsDotted : Mode → List ℕ → Option (Goal × List ℕ) → Type 0
ReadsDotted mode bytes None = (goal : Goal) (rest : List ℕ) → IsText mode goal → bytes ≢ (goal_text goal ++ codes ".\n") ++ rest
ReadsDotted mode bytes (Some x) = IsText mode x.0 × (bytes ≡ (goal_text x.0 ++ codes ".\n") ++ x.1)

-- what a goal's line says after the mode, and what follows it
abbrev pub ReadsAsked : Mode → List ℕ → Option (Option Goal × List ℕ) → Type 0
ReadsAsked mode bytes None = (goal : Option Goal) (rest : List ℕ) → IsAsked mode goal → bytes ≢ asked_text goal ++ rest
ReadsAsked mode bytes (Some x) = IsAsked mode x.0 × (bytes ≡ asked_text x.0 ++ x.1)

-- ---- numbers of lines

-- what follows this number, after a word and before a blank
abbrev pub numbered_after : List ℕ → ℕ → List ℕ → Option (List ℕ)
numbered_after word n bytes = number_after word bytes >>= λ m. after (codes " ") m.1 >>= λ rest. (if m.0 == n then Some rest else None)

abbrev pub mode_at : List ℕ → Option (Mode × List ℕ)
mode_at bytes = first_of (word_at (codes "lia") Lia bytes) (word_at (codes "nia") Nia bytes)
