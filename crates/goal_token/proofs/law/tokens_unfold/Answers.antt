use Rattle.std.proofs.Common.{refl}
use Rattle.goal_token.proofs.TokenLaws.{of_blank, of_comment, of_open_comment, of_token}
use Rattle.goal_token.proofs.law.tokens_unfold.Goals as goal

pub returns : goal.returns
returns c = record {
  nothing = λ place. refl;
  blank = of_blank;
  comment = of_comment;
  open_comment = of_open_comment;
  token = of_token;
}
