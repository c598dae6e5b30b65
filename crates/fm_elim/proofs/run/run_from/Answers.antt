use Rattle.std.proofs.Common.{◌≡◌, ◌-◌, suc, true, subst, arith}
use Rattle.fm_elim.specs.declared.state.Next.{Next}
use Rattle.fm_elim.specs.Elimination.{outcome_in, enough_steps}
use Rattle.fm_elim.specs.machine.Tidying.{rows_of}
use Rattle.fm_elim.specs.machine.Running.{IsRunning, IsNext, NextStands}
use Rattle.std.proofs.Common.{false}
use Rattle.fm_elim.specs.machine.Logged.{LogsNext}
use Rattle.fm_elim.proofs.LoggingLaws.{logs_both, ran_after}
use Rattle.fm_elim.proofs.run.run_from.Goals as goal

pub loop-left-preserved : goal.loop-left-preserved
loop-left-preserved c =
    let whole = outcome_in (enough_steps (rows_of c.args.rows.items)) true (rows_of c.args.rows.items) in
    let e : c.loop-left.left ≡ suc (c.loop-left.left - 1) = omega arith in
    let s = subst (λ (x : Next). LogsNext x c.loop-left.log c.step.new.log) c.in-Going.is c.in_ok-next.ensures.logged in
    record {
      running = subst (λ (x : Next). IsNext x (c.loop-left.left - 1) whole) c.in-Going.is
          (c.in_ok-next.ensures.next (c.loop-left.left - 1) whole (subst (λ k. IsRunning whole k c.loop-left.state) e c.loop-left.invariant.running));
      tidy = subst NextStands c.in-Going.is c.in_ok-next.ensures.tidy;
      logs = logs_both false c.args.log.now c.loop-left.log c.step.new.log c.loop-left.state.rows.items c.in-Going.next.rows.items c.loop-left.invariant.logs s;
    }

pub returns-in-Ended-clause-ran : goal.returns-in-Ended-clause-ran
returns-in-Ended-clause-ran c =
    let whole = outcome_in (enough_steps (rows_of c.args.rows.items)) true (rows_of c.args.rows.items) in
    let e : c.loop-left.left ≡ suc (c.loop-left.left - 1) = omega arith in
    subst (λ (x : Next). IsNext x (c.loop-left.left - 1) whole) c.in-Ended.is
    (c.in_ok-next.ensures.next (c.loop-left.left - 1) whole (subst (λ k. IsRunning whole k c.loop-left.state) e c.loop-left.invariant.running))

pub step-requires-clause-logged : goal.step-requires-clause-logged
step-requires-clause-logged c = c.loop-left.invariant.logs.logged

pub returns-in-Ended-clause-logged : goal.returns-in-Ended-clause-logged
returns-in-Ended-clause-logged c =
    let s = subst (λ (x : Next). LogsNext x c.loop-left.log c.step.new.log) c.in-Ended.is c.in_ok-next.ensures.logged in
    ran_after c.args.log.now c.loop-left.log c.step.new.log c.loop-left.state.rows.items c.in-Ended.ran c.loop-left.invariant.logs s
