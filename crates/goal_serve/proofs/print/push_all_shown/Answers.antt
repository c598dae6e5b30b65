use Rattle.std.proofs.Common.{◌++◌, ◌∙◌, ap}
use Rattle.goal_serve.specs.declared.answers.Shown.{Shown}
use Rattle.goal_serve.specs.Line.{lines_text}
use Rattle.goal_serve.specs.Reply.{clause_lines, shown_lines}
use Rattle.goal_serve.proofs.PrintLaws.{shown_out}
use Rattle.goal_serve.proofs.print.push_all_shown.Goals as goal

pub loop-number-preserved : goal.loop-number-preserved
loop-number-preserved c =
    let shown = c.index-shown-number.result in
    shown_out c.args.shown.now c.loop-number.number shown c.loop-number.out.items c.push_shown.new.out.items
    (c.args.out.now.items ++ lines_text (shown_lines 0 c.args.shown.now)) c.loop-number-test.true
    (c.in_ok-push_shown.ensures ∙ ap (λ (s : Shown). c.loop-number.out.items ++ lines_text (clause_lines c.loop-number.number s)) c.index-shown-number.is) c.loop-number.invariant
