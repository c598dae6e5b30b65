use Rattle.std.proofs.Common.{List, ◌++◌, ap, ◌∙◌}
use Rattle.goal_ast.specs.declared.goal.Mode.TheVariants.{Lia, Nia}
use Rattle.goal_serve.specs.declared.answers.Answer.{Answer}
use Rattle.goal_serve.specs.Line.{Begin, Cache, line_text, lines_text}
use Rattle.session_serve.specs.Report.{sessions_lines}
use Rattle.session_serve.proofs.ReportLaws.{report_out}
use Rattle.session_serve.proofs.report.print_report.Goals as goal

pub returns-clause-text : goal.returns-clause-text
returns-clause-text g c =
    report_out (sessions_lines 0 c.args.sessions.now c.args.served.now.answers) (Cache Lia 0 0 0) (Cache Nia 0 0 0)
    c.push_begin.new.out.items c.push_sessions.new.out.items c.push_cache.new.out.items c.push_cache-2.new.out.items c.push_end.new.out.items
    (c.in_ok-push_begin.ensures ∙ ap (λ x. x ++ line_text Begin) c.new-out.ensures.items)
    (c.in_ok-push_sessions.ensures ∙ ap (λ (a : List (List Answer)). c.push_begin.new.out.items ++ lines_text (sessions_lines 0 c.args.sessions.now a)) c.as_slice-2.ensures)
    c.in_ok-push_cache.ensures c.in_ok-push_cache-2.ensures c.in_ok-push_end.ensures
