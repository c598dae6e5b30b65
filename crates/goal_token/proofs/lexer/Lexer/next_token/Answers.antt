use Rattle.std.proofs.Common.{◌<◌, length, drop, get_or, sym, ◌∙◌, arith}
use Rattle.goal_token.proofs.PlaceSteps.{taken}
use Rattle.goal_token.proofs.SmallLaws.{taken_small}
use Rattle.goal_token.proofs.lexer.Lexer.next_token.Goals as goal

pub returns-clause-next : goal.returns-clause-next
returns-clause-next c =
    let lt : c.in-Some.start < length c.self.inside.bytes.now = omega (arith, c.in-Some.ensures.within) in
    let e = rw c.split_at.ensures.back at c.in_ok-token.ensures.value in
    sym c.self.view_is ∙ c.in-Some.ensures.same ∙ taken c.in-Some.start c.self.inside.bytes.now c.in_ok-token.token c.in_ok-token.length lt c.in-Some.ensures.begins e

pub returns-clause-small : goal.returns-clause-small
returns-clause-small c =
    taken_small c.in_ok-token.token c.in_ok-token.length (get_or c.split_at.result.1.now 0 0) (drop 1 c.split_at.result.1.now) c.in_ok-token.ensures.value
