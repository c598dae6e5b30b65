-- Which limit refuses a goal, and what the answer then is.
use Rattle.std.specs.Prelude.{◌≡◌, ◌^◌, nat_lt, Option, Some, None, Result, MatchResult, Err, if◌then◌else◌}
use Rattle.goal_ast.specs.declared.goal.Goal.{Goal}
use Rattle.goal_measure.specs.declared.measure.Measure.{Measure}
use Rattle.zify.specs.declared.fail.ZFail.{ZFail}
use Rattle.zify.specs.declared.fail.ZFail.TheVariants as fails
use Rattle.zify.specs.declared.goal.ZGoal.{ZGoal}
use Rattle.zify.specs.Translation.{translated}

-- the first limit that measures pass
abbrev pub refused : Measure → Option ZFail
refused m = if nat_lt m.weight (2 ^ 100) then (if nat_lt m.spread 257 then (if nat_lt m.degree 9 then None else Some fails.Degree) else Some fails.Spread) else Some fails.Weight

-- the answer for a goal that is refused so, or isn't
abbrev pub Zified : Goal → Option ZFail → Result ZGoal ZFail → Type 0
Zified goal None r = MatchResult r (λ z. z ≡ translated goal) (λ f. f ≡ fails.NoMemory)
Zified goal (Some f) r = r ≡ Err f
