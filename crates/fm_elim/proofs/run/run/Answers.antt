use Rattle.std.proofs.Common.{subst}
use Rattle.fm_elim.specs.declared.stepped.Stepped.{Stepped}
use Rattle.fm_elim.specs.machine.Logging.{LogsStep}
use Rattle.fm_elim.specs.machine.Tidying.{StandsTidy}
use Rattle.fm_elim.proofs.StandingLaws.{step_standing}
use Rattle.fm_elim.proofs.LoggingLaws.{ran_after}
use Rattle.fm_elim.proofs.run.run.Goals as goal

pub run_from-requires-clause-logged : goal.run_from-requires-clause-logged
run_from-requires-clause-logged c =
    let s = subst (λ (s : Stepped). LogsStep s c.args.log.now c.tidy_rows.new.log) c.in-Rows.is c.in_ok-kept.ensures.logged in
    s.logged

pub returns-in_ok-ran-in-Rows-clause-logged : goal.returns-in_ok-ran-in-Rows-clause-logged
returns-in_ok-ran-in-Rows-clause-logged c =
    let s = subst (λ (s : Stepped). LogsStep s c.args.log.now c.tidy_rows.new.log) c.in-Rows.is c.in_ok-kept.ensures.logged in
    ran_after c.args.log.now c.tidy_rows.new.log c.run_from.new.log c.in-Rows.kept.items c.in_ok-ran-in-Rows.ran s c.in_ok-ran-in-Rows.ensures.logged

pub returns-in-Contra-clause-logged : goal.returns-in-Contra-clause-logged
returns-in-Contra-clause-logged c = subst (λ (s : Stepped). LogsStep s c.args.log.now c.tidy_rows.new.log) c.in-Contra.is c.in_ok-kept.ensures.logged

pub run_from-requires-clause-tidy : goal.run_from-requires-clause-tidy
run_from-requires-clause-tidy c = subst StandsTidy c.in-Rows.is (step_standing c.in_ok-kept.field-0 c.args.rows.now c.in_ok-kept.ensures.rows)
