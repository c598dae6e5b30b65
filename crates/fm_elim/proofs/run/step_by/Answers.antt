use Rattle.std.proofs.Common.{subst}
use Rattle.fm_elim.specs.machine.Running.{IsRuling}
use Rattle.std.proofs.Common.{sym, ◌∙◌}
use Rattle.fm_elim.specs.declared.rule.Rule.{Rule}
use Rattle.fm_elim.specs.machine.Tidying.{rows_of}
use Rattle.fm_elim.proofs.RuleLaws.{Eliminates, no_equalities}
use Rattle.fm_elim.proofs.run.step_by.Goals as goal

pub returns-in-Finished-clause-next : goal.returns-in-Finished-clause-next
returns-in-Finished-clause-next c = λ n whole r. c.finish.ensures.ran n whole (subst (IsRuling whole n c.args.state) c.in-Finished.is r)

pub step_exact-requires-clause-inequalities : goal.step_exact-requires-clause-inequalities
step_exact-requires-clause-inequalities c = no_equalities (rows_of c.args.state.rows.items) (subst (λ (r : Rule). Eliminates r) (sym c.in-Exact.is ∙ c.requires.rule) tt)

pub step_inexact-requires-clause-inequalities : goal.step_inexact-requires-clause-inequalities
step_inexact-requires-clause-inequalities c = no_equalities (rows_of c.args.state.rows.items) (subst (λ (r : Rule). Eliminates r) (sym c.in-Inexact.is ∙ c.requires.rule) tt)

pub returns-in-Finished-clause-logged : goal.returns-in-Finished-clause-logged
returns-in-Finished-clause-logged c = c.finish.ensures.logged c.args.log.now c.args.log.now
