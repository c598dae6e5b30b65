-- Reading lines from left to right: what a line says and the bytes after it, or none where the bytes don't begin so.
use Rattle.std.specs.Prelude.{ℕ, zero, suc, ◌^◌, ℤ, pos, List, length, take, drop, Option, Some, None, true, nat_le, ◌&&◌, ◌==◌, if◌then◌else◌, codes}
use Rattle.std.specs.List.{list_all}
use Rattle.mm_num.specs.Option.{◌>>=◌}
use Rattle.cert_text.specs.Reading.{after, positive_at, number_at, signed}
use Rattle.clause_engine.specs.declared.outcome.Why.{Why}
use Rattle.clause_engine.specs.declared.outcome.Why.TheVariants.{Grey, Over}
use Rattle.goal_ast.specs.declared.goal.Bound.{Bound}
use Rattle.goal_ast.specs.declared.goal.Mode.{Mode}
use Rattle.goal_ast.specs.declared.goal.Mode.TheVariants.{Lia, Nia}
use Rattle.goal_ast.specs.declared.term.Sort.{Sort}
use Rattle.goal_ast.specs.declared.term.Sort.TheVariants as sorts
use Rattle.goal_print.specs.ReadsBack.{mode_text}
use Rattle.goal_serve.specs.declared.answers.Kind.{Kind}
use Rattle.goal_serve.specs.declared.answers.Kind.TheVariants.{Weight, Spread, Degree, Splits}
use Rattle.goal_serve.specs.declared.answers.Origin.TheVariants.{New}
use Rattle.report_text.specs.declared.call.Call.{Call}
use Rattle.report_text.specs.declared.call.Call.TheVariants.{Find, Store}
use Rattle.report_text.specs.declared.lines.Line.{Line}
use Rattle.report_text.specs.declared.lines.Line.TheVariants as lines
use Rattle.report_text.specs.Line.{is_hex}

-- a number below 2^64 after a word
abbrev pub number_after : List ℕ → List ℕ → Option (ℕ × List ℕ)
number_after word bytes = after word bytes >>= λ rest. number_at (2 ^ 64) rest

-- the first of two that there is
abbrev pub first_of : {A : Type 0} → Option A → Option A → Option A
first_of (Some x) other = Some x
first_of None other = other

-- what a word stands for
abbrev pub word_at : {A : Type 0} → List ℕ → A → List ℕ → Option (A × List ℕ)
word_at word x bytes = after word bytes >>= λ rest. Some (x, rest)

-- the first line
abbrev pub begin_at : List ℕ → Option (Line × List ℕ)
begin_at bytes = word_at (codes "mm report 1\n") lines.Begin bytes

-- ---- answers

abbrev pub proved_at : List ℕ → Option (Line × List ℕ)
proved_at bytes = do
  n ← number_after (codes "proved ") bytes
  rest ← after (codes "\n") n.1
  Some (lines.Proved n.0, rest)

abbrev pub refuted_at : List ℕ → Option (Line × List ℕ)
refuted_at bytes = word_at (codes "refuted\n") lines.Refuted bytes

abbrev pub why_at : List ℕ → Option (Why × List ℕ)
why_at bytes = first_of (word_at (codes "grey") Grey bytes) (word_at (codes "over") Over bytes)

abbrev pub unsettled_at : List ℕ → Option (Line × List ℕ)
unsettled_at bytes = do
  n ← number_after (codes "unsettled ") bytes
  word ← after (codes " ") n.1
  why ← why_at word
  rest ← after (codes "\n") why.1
  Some (lines.Unsettled n.0 why.0, rest)

abbrev pub splits_at : List ℕ → Option (Kind × List ℕ)
splits_at bytes = number_after (codes "splits ") bytes >>= λ n. Some (Splits n.0, n.1)

abbrev pub kind_at : List ℕ → Option (Kind × List ℕ)
kind_at bytes =
    first_of (word_at (codes "weight") Weight bytes)
    (first_of (word_at (codes "spread") Spread bytes) (first_of (word_at (codes "degree") Degree bytes) (splits_at bytes)))

abbrev pub oversize_at : List ℕ → Option (Line × List ℕ)
oversize_at bytes = do
  word ← after (codes "oversize ") bytes
  kind ← kind_at word
  rest ← after (codes "\n") kind.1
  Some (lines.Oversize kind.0, rest)

unfoldable pub answer_at : List ℕ → Option (Line × List ℕ)
answer_at bytes = first_of (proved_at bytes) (first_of (refuted_at bytes) (first_of (unsettled_at bytes) (oversize_at bytes)))

-- the place where a goal has no sorts
unfoldable pub place_at : List ℕ → Option (Line × List ℕ)
place_at bytes = do
  n ← number_after (codes "ill-sorted ") bytes
  rest ← after (codes "\n") n.1
  Some (lines.IllSorted n.0, rest)

-- ---- values

abbrev pub minus_at : List ℕ → Option (ℤ × List ℕ)
minus_at bytes = positive_at (2 ^ 126) bytes >>= λ n. Some (signed true n.0, n.1)

abbrev pub plus_at : List ℕ → Option (ℤ × List ℕ)
plus_at bytes = number_at (2 ^ 126) bytes >>= λ n. Some (pos n.0, n.1)

-- a small number
abbrev pub small_at : List ℕ → Option (ℤ × List ℕ)
small_at bytes = elim (after (codes "-") bytes) [ Some rest ↦ minus_at rest | None ↦ plus_at bytes ]

abbrev pub truth_at : List ℕ → Option (ℤ × List ℕ)
truth_at bytes = first_of (word_at (codes "true") (pos 1) bytes) (word_at (codes "false") (pos 0) bytes)

abbrev pub sorted_value_at : Sort → List ℕ → Option (ℤ × List ℕ)
sorted_value_at sorts.Bool bytes = truth_at bytes
sorted_value_at sort bytes = small_at bytes

-- the value of a variable
unfoldable pub value_at : Bound → List ℕ → Option (Line × List ℕ)
value_at bound bytes = do
  named ← after bound.name.bytes bytes
  word ← after (codes " := ") named
  z ← sorted_value_at bound.sort word
  rest ← after (codes "\n") z.1
  Some (lines.Value z.0, rest)

-- ---- clauses

-- the name of a key
abbrev pub key_name_at : List ℕ → Option (List ℕ × List ℕ)
key_name_at bytes = if nat_le 16 (length bytes) && list_all is_hex (take 16 bytes) then Some (take 16 bytes, drop 16 bytes) else None

-- the clause of this number
unfoldable pub clause_at : ℕ → List ℕ → Option (Line × List ℕ)
clause_at k bytes = do
  n ← number_after (codes "clause ") bytes
  word ← after (codes " ") n.1
  name ← key_name_at word
  rest ← after (codes " new\n") name.1
  if n.0 == k then Some (lines.Clause n.0 name.0 New, rest) else None

-- ---- caches

-- how many entries the cache of a mode was opened with, how many were stored, and how many are saved
unfoldable pub cache_at : Mode → List ℕ → Option (Line × List ℕ)
cache_at mode bytes = do
  word ← after (codes "cache ") bytes
  moded ← after (mode_text mode) word
  opened ← number_after (codes " opened ") moded
  stored ← number_after (codes " stored ") opened.1
  saved ← number_after (codes " saved ") stored.1
  rest ← after (codes "\n") saved.1
  Some (lines.Cache mode opened.0 stored.0 saved.0, rest)

-- a session, a goal and a clause by their numbers, after a word
abbrev pub asker_at : List ℕ → List ℕ → Option ((ℕ × ℕ × ℕ) × List ℕ)
asker_at word bytes = do
  session ← number_after word bytes
  goal ← number_after (codes " ") session.1
  clause ← number_after (codes " ") goal.1
  Some ((session.0, goal.0, clause.0), clause.1)

abbrev pub hit_place_at : List ℕ → Option (Option ℕ × List ℕ)
hit_place_at bytes = number_after (codes " hit ") bytes >>= λ n. Some (Some n.0, n.1)

-- where a clause was found
abbrev pub hit_at : List ℕ → Option (Option ℕ × List ℕ)
hit_at bytes = first_of (word_at (codes " miss") None bytes) (hit_place_at bytes)

unfoldable pub find_at : List ℕ → Option (Call × List ℕ)
find_at bytes = do
  asker ← asker_at (codes "find ") bytes
  front ← number_after (codes " front ") asker.1
  hit ← hit_at front.1
  rest ← after (codes "\n") hit.1
  Some (Find asker.0.0 asker.0.1 asker.0.2 front.0 hit.0, rest)

unfoldable pub store_at : List ℕ → Option (Call × List ℕ)
store_at bytes = do
  asker ← asker_at (codes "store ") bytes
  place ← number_after (codes " place ") asker.1
  rest ← after (codes "\n") place.1
  Some (Store asker.0.0 asker.0.1 asker.0.2 place.0, rest)

abbrev pub called : Option (Call × List ℕ) → Option (Line × List ℕ)
called call = call >>= λ c. Some (lines.Called c.0, c.1)

-- what stands after all calls of a cache
abbrev pub after_calls_at : Mode → List ℕ → Option (Line × List ℕ)
after_calls_at Lia bytes = cache_at Nia bytes
after_calls_at Nia bytes = word_at (codes "end\n") lines.End bytes

-- a call of a cache, of which so many still store; where there are none, also what stands after all of them
unfoldable pub call_at : Mode → ℕ → List ℕ → Option (Line × List ℕ)
call_at mode zero bytes = first_of (called (find_at bytes)) (after_calls_at mode bytes)
call_at mode (suc stores) bytes = first_of (called (find_at bytes)) (called (store_at bytes))
