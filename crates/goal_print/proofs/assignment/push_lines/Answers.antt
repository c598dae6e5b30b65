use Rattle.std.proofs.Common.{◌++◌, pos, get_or, ◌∙◌, ap, arith}
use Rattle.goal_ast.specs.declared.goal.Bound.{Bound}
use Rattle.goal_print.specs.Text.{line_text, lines_text}
use Rattle.goal_print.proofs.AssignmentLaws.{line_added}
use Rattle.goal_print.proofs.assignment.push_lines.Goals as goal

pub loop-at-preserved : goal.loop-at-preserved
loop-at-preserved c =
    let bound = c.index-vars-at.result in
    let value = get_or c.args.values.now c.loop-at.at (pos 0) in
    line_added c.args.vars.now c.args.values.now c.loop-at.at bound (pos 0) c.loop-at.out.items c.push_line.new.out.items
    (c.args.out.now.items ++ lines_text c.args.vars.now c.args.values.now) c.loop-at-test.true (omega (arith, c.loop-at-test.true, c.requires))
    (c.in_ok-push_line.ensures ∙ ap (λ (b : Bound). c.loop-at.out.items ++ line_text b value) c.index-vars-at.is) c.loop-at.invariant
