-- An elimination as it goes.
use Rattle.std.specs.Prelude.{◌≡◌, ℕ, max, List, ◌++◌}
use Rattle.fm_elim.specs.declared.rule.Rule.{Rule}
use Rattle.fm_elim.specs.declared.removal.Removal.{Removal}
use Rattle.fm_elim.specs.declared.state.State.{State}
use Rattle.fm_elim.specs.declared.state.Ran.{Ran}
use Rattle.fm_elim.specs.declared.state.Ran.TheVariants as ran
use Rattle.fm_elim.specs.declared.state.Next.{Next}
use Rattle.fm_elim.specs.declared.state.Next.TheVariants as after
use Rattle.fm_elim.specs.Tidy.{Contra, Point, Grey, Over}
use Rattle.fm_elim.specs.Elimination.{Outcome, by_rule, outcome_in}
use Rattle.fm_elim.specs.machine.Tidying.{rows_of, AreStanding}

-- an outcome with what came before
abbrev pub wrapped : List Removal → ℕ → Outcome → Outcome
wrapped removed n o = record { end = o.end; removed = removed ++ o.removed; norm = max n o.norm }

-- the whole outcome is what at most n more steps come to
abbrev pub IsRunning : Outcome → ℕ → State → Type 0
IsRunning whole n s = whole ≡ wrapped s.removed.items s.norm (outcome_in n s.exact (rows_of s.rows.items))

-- the same where this rule comes next
abbrev pub IsRuling : Outcome → ℕ → State → Rule → Type 0
IsRuling whole n s rule = whole ≡ wrapped s.removed.items s.norm (by_rule (outcome_in n) s.exact (rows_of s.rows.items) rule)

-- how it ended
abbrev pub IsRan : Ran → Outcome → Type 0
IsRan ran.Contra whole = whole.end ≡ Contra
IsRan (ran.Point removed norm) whole = whole ≡ record { end = Point; removed = removed.items; norm = norm }
IsRan ran.Grey whole = whole.end ≡ Grey
IsRan ran.Over whole = whole.end ≡ Over

abbrev pub IsNext : Next → ℕ → Outcome → Type 0
IsNext (after.Going s) n whole = IsRunning whole n s
IsNext (after.Ended r) n whole = IsRan r whole

-- the rows that go on are tidy
abbrev pub NextStands : Next → Type 0
NextStands (after.Going s) = AreStanding (rows_of s.rows.items)
NextStands (after.Ended r) = Unit {0}
