use Rattle.std.proofs.Common.{◌≡◌, sym, ◌∙◌, true, false, arith}
use Rattle.goal_token.specs.Tokens.{is_opening, is_closing}
use Rattle.goal_token.proofs.CommentSteps.{comment_end, opens, closes, passes, first, second}
use Rattle.goal_token.proofs.comment.after_comment.Goals as goal

pub returns-then-bytes-place-lt2-clause-rest : goal.returns-then-bytes-place-lt2-clause-rest
returns-then-bytes-place-lt2-clause-rest c =
    sym (comment_end c.loop-depth.depth c.loop-depth.place c.args.bytes.now c.loop-depth-test.true c.if-bytes-place-lt2.true) ∙ c.loop-depth.invariant.rest

pub loop-depth-preserved-then-is_opening : goal.loop-depth-preserved-then-is_opening
loop-depth-preserved-then-is_opening c =
    let e : is_opening (first c.loop-depth.place c.args.bytes.now) (second c.loop-depth.place c.args.bytes.now) ≡ true = cc in
    record {
      rest = opens c.loop-depth.depth c.loop-depth.place c.args.bytes.now _ c.loop-depth-test.true (omega arith) e c.loop-depth.invariant.rest;
      after = omega arith;
      within = omega arith;
      shallow = omega arith;
    }

pub loop-depth-preserved-then-is_closing : goal.loop-depth-preserved-then-is_closing
loop-depth-preserved-then-is_closing c =
    let e : is_opening (first c.loop-depth.place c.args.bytes.now) (second c.loop-depth.place c.args.bytes.now) ≡ false = cc in
    let f : is_closing (first c.loop-depth.place c.args.bytes.now) (second c.loop-depth.place c.args.bytes.now) ≡ true = cc in
    record {
      rest = closes c.loop-depth.depth c.loop-depth.place c.args.bytes.now _ c.loop-depth-test.true (omega arith) e f c.loop-depth.invariant.rest;
      after = omega arith;
      within = omega arith;
      shallow = omega arith;
    }

pub loop-depth-preserved : goal.loop-depth-preserved
loop-depth-preserved c =
    let e : is_opening (first c.loop-depth.place c.args.bytes.now) (second c.loop-depth.place c.args.bytes.now) ≡ false = cc in
    let f : is_closing (first c.loop-depth.place c.args.bytes.now) (second c.loop-depth.place c.args.bytes.now) ≡ false = cc in
    record {
      rest = passes c.loop-depth.depth c.loop-depth.place c.args.bytes.now _ c.loop-depth-test.true (omega arith) e f c.loop-depth.invariant.rest;
      after = omega arith;
      within = omega arith;
      shallow = omega arith;
    }
