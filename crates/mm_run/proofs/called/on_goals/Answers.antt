use Rattle.mm_run.proofs.CallingLaws.{refusal_due, told_due}
use Rattle.mm_run.proofs.called.on_goals.Goals as goal

pub returns-in-Err-clause-due : goal.returns-in-Err-clause-due
returns-in-Err-clause-due g c = refusal_due c.args.turns c.args.bytes.now c.in-Err.fail c.on_refusal.result c.on_refusal.ensures c.in-Err.ensures.refused
    (λ n sessions f. c.in-Err.ensures.exact n sessions f.0 f.1)

pub returns-in-Ok-serve_all-clause-due : goal.returns-in-Ok-serve_all-clause-due
returns-in-Ok-serve_all-clause-due g c = told_due c.served_reports_are_accepted.ensures c.args.turns c.args.bytes.now c.in-Ok.sessions c.as_slice.result.now c.as_slice-in-Ok-serve_all.result.now
    c.in-Ok-serve_all.served.answers c.reported-ending.result c.as_slice.ensures c.as_slice-in-Ok-serve_all.ensures c.reported-ending.ensures.told
    c.in-Ok.ensures.found c.good_answers_are_right.ensures (c.readable.ensures c.in-Ok.sessions c.in-Ok.ensures.goals) c.in-Ok-serve_all.ensures.meet
