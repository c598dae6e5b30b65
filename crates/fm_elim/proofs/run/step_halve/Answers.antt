use Rattle.fm_elim.specs.Steps.{halved}
use Rattle.fm_elim.specs.machine.Tidying.{rows_of}
use Rattle.fm_elim.proofs.StandingLaws.{step_standing}
use Rattle.fm_elim.proofs.RunLaws.{equality_inside}
use Rattle.fm_elim.proofs.RunLaws.{halved_equality}
use Rattle.fm_elim.proofs.run.step_halve.Goals as goal

pub halve-requires-clause-place : goal.halve-requires-clause-place
halve-requires-clause-place c = equality_inside c.args.state.rows.items c.args.place c.requires.rule

pub halve-requires-clause-equality : goal.halve-requires-clause-equality
halve-requires-clause-equality c = λ live s. halved_equality c.args.state.rows.items c.args.place live c.requires.rule s

pub returns-clause-logged : goal.returns-clause-logged
returns-clause-logged c = c.go_on.ensures.logged c.args.log.now c.halve.new.log c.in_ok-stepped.ensures.logged

pub returns-clause-tidy : goal.returns-clause-tidy
returns-clause-tidy c = c.go_on.ensures.tidy (step_standing c.in_ok-stepped.stepped (halved c.args.place (rows_of c.args.state.rows.items)) c.in_ok-stepped.ensures.rows)
