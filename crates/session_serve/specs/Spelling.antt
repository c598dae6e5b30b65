-- Answers that a report spells so that they are read again.
use Rattle.std.specs.Prelude.{◌<◌, ◌^◌, List, All}
use Rattle.cert_text.specs.Check.{AreRows, IsCert}
use Rattle.goal_serve.specs.declared.answers.Shown.{Shown}
use Rattle.goal_serve.specs.declared.answers.Answer.{Answer}
use Rattle.goal_serve.specs.declared.answers.Answer.TheVariants as answers

-- the rows of the clause and the certificate have texts within the limits of what is read
pub record IsShownSpelled (s : Shown) : Type 0 where
  pub rows : AreRows s.clause.rows
  pub cert : IsCert s.cert

-- each clause is so, and the place of a goal without sorts is below 2^64
abbrev pub IsSpelled : Answer → Type 0
IsSpelled (answers.Proved shown) = All IsShownSpelled shown
IsSpelled (answers.IllSorted at) = at < 2 ^ 64
IsSpelled answer = Unit {0}

-- that of each answer
abbrev pub AreSpelled : List (List Answer) → Type 0
AreSpelled answers = All (All IsSpelled) answers
