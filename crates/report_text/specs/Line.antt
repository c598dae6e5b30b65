-- The lines of a report with the histories of its caches: their texts, and which of them are lines.
use Rattle.std.specs.Prelude.{◌≡◌, ℕ, ◌<◌, ◌^◌, ℤ, pos, List, ◌++◌, length, Bool, true, nat_le, nat_lt, ◌&&◌, ◌||◌, ◌⊎◌, Option, Some, None, codes, decimal}
use Rattle.std.specs.List.{AllByRecursion, flat_map}
use Rattle.mm_num.specs.Small.{IsSmall}
use Rattle.goal_ast.specs.declared.term.Sort.{Sort}
use Rattle.goal_ast.specs.declared.term.Sort.TheVariants as sorts
use Rattle.goal_ast.specs.declared.goal.Goal.{Goal}
use Rattle.goal_ast.specs.declared.goal.Mode.{Mode}
use Rattle.goal_token.specs.Spacing.{IsName}
use Rattle.cert_text.specs.Check.{IsRow, IsCert}
use Rattle.goal_print.specs.ReadsBack.{ReadsBack}
use Rattle.goal_serve.specs.declared.answers.Kind.{Kind}
use Rattle.goal_serve.specs.declared.answers.Kind.TheVariants as kinds
use Rattle.goal_serve.specs.Line.{Line, Begin, Session, Asked, Proved, Clause, Row, Certificate, Refuted, Value, Unsettled, Oversize, IllSorted, Cache, End, line_text}
use Rattle.report_text.specs.declared.call.Call.{Call}
use Rattle.report_text.specs.declared.call.Call.TheVariants.{Find, Store}

-- a line of a report
pub data ReportLine : Type 0 where
  -- one that a report has also where there is no cache
  Plain : Line → ReportLine
  -- a call of a cache's history
  Called : Call → ReportLine

-- ---- texts

-- where a clause was found
abbrev pub hit_text : Option ℕ → List ℕ
hit_text None = codes " miss\n"
hit_text (Some place) = codes " hit " ++ (decimal place ++ codes "\n")

-- the session, the goal and the clause of a call
abbrev pub asker_text : ℕ → ℕ → ℕ → List ℕ → List ℕ
asker_text session goal clause text = decimal session ++ (codes " " ++ (decimal goal ++ (codes " " ++ (decimal clause ++ text))))

abbrev pub call_text : Call → List ℕ
call_text (Find session goal clause front hit) = codes "find " ++ asker_text session goal clause (codes " front " ++ (decimal front ++ hit_text hit))
call_text (Store session goal clause place) = codes "store " ++ asker_text session goal clause (codes " place " ++ (decimal place ++ codes "\n"))

-- a line's bytes, with its line feed
abbrev pub report_line : ReportLine → List ℕ
report_line (Plain line) = line_text line
report_line (Called call) = call_text call

-- the lines, one after the other
abbrev pub report_lines_text : List ReportLine → List ℕ
report_lines_text = flat_map report_line

-- ---- limits

-- numbers are free below 2^64
abbrev pub IsFree : ℕ → Type 0
IsFree n = n < 2 ^ 64

-- a digit, or a letter from a to f
abbrev pub is_hex : ℕ → Bool
is_hex c = (nat_le 48 c && nat_lt c 58) || (nat_le 97 c && nat_lt c 103)

-- 16 hexadecimal digits, the letters in lower case
pub record IsKeyName (name : List ℕ) : Type 0 where
  pub sixteen : length name ≡ 16
  pub digits : AllByRecursion (λ c. is_hex c ≡ true) name

-- a value that is a number is small, and false is 0 and true is 1
abbrev pub IsValue : Sort → ℤ → Type 0
IsValue sorts.Bool z = (z ≡ pos 0) ⊎ (z ≡ pos 1)
IsValue sorts.Int z = IsSmall z
IsValue sorts.Bin z = IsSmall z
IsValue sorts.Nat z = IsSmall z
IsValue sorts.Pos z = IsSmall z

-- the text of a goal, which reads back as that goal
pub record IsText (mode : Mode) (goal : Goal) : Type 0 where
  pub moded : goal.mode ≡ mode
  pub reads : ReadsBack goal

abbrev pub IsAsked : Mode → Option Goal → Type 0
IsAsked mode None = Unit {0}
IsAsked mode (Some goal) = IsText mode goal

abbrev pub IsKind : Kind → Type 0
IsKind kinds.Weight = Unit {0}
IsKind kinds.Spread = Unit {0}
IsKind kinds.Degree = Unit {0}
IsKind (kinds.Splits n) = IsFree n

abbrev pub IsPlain : Line → Type 0
IsPlain Begin = Unit {0}
IsPlain (Session n name) = IsFree n × IsName name.bytes
IsPlain (Asked n mode goal) = IsFree n × IsAsked mode goal
IsPlain (Proved n) = IsFree n
IsPlain (Clause n name origin) = IsFree n × IsKeyName name
IsPlain (Row row) = IsRow row
IsPlain (Certificate cert) = IsCert cert
IsPlain Refuted = Unit {0}
IsPlain (Value bound value) = IsValue bound.sort value
IsPlain (Unsettled n why) = IsFree n
IsPlain (Oversize kind) = IsKind kind
IsPlain (IllSorted at) = IsFree at
IsPlain (Cache mode opened stored saved) = IsFree opened × IsFree stored × IsFree saved
IsPlain End = Unit {0}

abbrev pub IsHit : Option ℕ → Type 0
IsHit None = Unit {0}
IsHit (Some place) = IsFree place

abbrev pub IsCall : Call → Type 0
IsCall (Find session goal clause front hit) = IsFree session × IsFree goal × IsFree clause × IsFree front × IsHit hit
IsCall (Store session goal clause place) = IsFree session × IsFree goal × IsFree clause × IsFree place

-- a line within the limits
abbrev pub IsReportLine : ReportLine → Type 0
IsReportLine (Plain line) = IsPlain line
IsReportLine (Called call) = IsCall call
