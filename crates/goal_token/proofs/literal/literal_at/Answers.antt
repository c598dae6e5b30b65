use Rattle.std.proofs.Common.{◌≡◌, ◌+◌, true, get_or, subst, sym, arith}
use Rattle.goal_token.specs.Tokens.{is_digit}
use Rattle.goal_token.proofs.LiteralSteps.{IsLeft, one_more}
use Rattle.goal_token.proofs.literal.literal_at.Goals as goal

pub loop-place-preserved : goal.loop-place-preserved
loop-place-preserved c =
    let digit : is_digit (get_or c.args.bytes.now c.loop-place.place 0) ≡ true = cc in
    record {
      left =
          subst (λ v. IsLeft c.args.bytes.now v (c.loop-place.place + 1)) (sym c.with_digit-value.ensures)
          (one_more c.args.bytes.now c.loop-place.value c.loop-place.place c.loop-place-test.true digit c.loop-place.invariant.left);
      capped = omega arith;
    }
