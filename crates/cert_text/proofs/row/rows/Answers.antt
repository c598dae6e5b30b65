use Rattle.std.proofs.Common.{ap, sym, ◌∙◌, Bor, List, ℕ}
use Rattle.std.specs.Option.{option_map}
use Rattle.cert_kit.specs.declared.row.PRow.{PRow}
use Rattle.cert_text.proofs.LoopSteps.{row_goes_on, rows_stop, rows_done}
use Rattle.cert_text.specs.Reading.{rows_at}
use Rattle.cert_text.proofs.row.rows.Goals as goal

pub returns-in_default : goal.returns-in_default
returns-in_default c =
    rows_stop c.loop.rows.items c.args.most c.loop.counter c.loop.rest.now (rows_at c.args.most c.args.bytes.now) (sym c.in_ok-next.ensures ∙ ap (option_map (λ (x : PRow × Bor (List ℕ)). (x.0, x.1.now))) c.in_default.is) c.loop.invariant

pub loop-preserved : goal.loop-preserved
loop-preserved c =
    rw c.in_ok-push.ensures.items (row_goes_on c.loop.rows.items c.args.most c.loop.counter c.loop.rest.now c.in-Some.next c.in-Some.after.now (rows_at c.args.most c.args.bytes.now) c.loop-test.true
    (sym c.in_ok-next.ensures ∙ ap (option_map (λ (x : PRow × Bor (List ℕ)). (x.0, x.1.now))) c.in-Some.is) c.loop.invariant)

pub returns : goal.returns
returns c = rows_done c.loop.rows.items c.args.most c.loop.counter c.loop.rest.now (rows_at c.args.most c.args.bytes.now) c.loop-test.false c.loop.invariant
