use Rattle.std.proofs.Common.{◌≡◌, true, false, drop, sym}
use Rattle.goal_token.specs.Tokens.{is_blank, begins_comment}
use Rattle.goal_token.proofs.CommentSteps.{first}
use Rattle.goal_token.proofs.PlaceSteps.{past_comment, in_open_comment, tokens_from}
use Rattle.goal_token.proofs.comment.skip_blanks.Goals as goal

pub returns-in_err-place-clause-unclosed : goal.returns-in_err-place-clause-unclosed
returns-in_err-place-clause-unclosed c =
    let b : is_blank (first c.loop-place.place c.args.bytes.now) ≡ false = cc in
    let o : begins_comment (drop c.loop-place.place c.args.bytes.now) ≡ true = cc (c.split_at.ensures.back) in
    rw c.from_residual.ensures (in_open_comment c.loop-place.place c.args.bytes.now (tokens_from c.args.start c.args.bytes.now) c.loop-place-test.true b o (sym c.in_err-place.ensures.rest) c.loop-place.invariant.same)

pub loop-place-preserved : goal.loop-place-preserved
loop-place-preserved c =
    let b : is_blank (first c.loop-place.place c.args.bytes.now) ≡ false = cc in
    let o : begins_comment (drop c.loop-place.place c.args.bytes.now) ≡ true = cc (c.split_at.ensures.back) in
    record {
      same = past_comment c.loop-place.place c.in_ok-place.place c.args.bytes.now (tokens_from c.args.start c.args.bytes.now) c.in_ok-place.ensures.after c.in_ok-place.ensures.within b o (sym c.in_ok-place.ensures.rest) c.loop-place.invariant.same;
      within = c.in_ok-place.ensures.within;
    }
