use Rattle.std.proofs.Common.{◌≡◌, ◌≤◌, List, ℕ, IfOk, length, map, string_bytes, subst, rules}
use Rattle.mm_run.specs.Words.{input_limit}
use Rattle.mm_run.specs.Ending.{InputCallsFor}
use Rattle.mm_run.proofs.EndingLaws.{read_due}
use Rattle.mm_run.proofs.called.called_for.Goals as goal

pub returns-in-Ok-clause-due : goal.returns-in-Ok-clause-due
returns-in-Ok-clause-due g c =
    let limit : length c.in-Ok.bytes.items ≤ input_limit c.in-Some.command = search rules in
    let due : IfOk c.on_input.result.ending (InputCallsFor c.in-Some.command c.in-Ok.bytes.items) =
    subst (λ (k : List ℕ). IfOk c.on_input.result.ending (InputCallsFor c.in-Some.command k)) c.deref.ensures.value c.on_input.ensures.due in
    read_due (map string_bytes c.args.words.now) _ _ c.in-Some.command c.in-Ok.bytes.items c.on_input.result.ending c.in-Some.ensures.asked c.in-Ok.ensures.all.0 c.in-Ok.ensures.all.1 limit due
