use Rattle.relaxation.proofs.FormLaws.{more_forms}
use Rattle.relaxation.proofs.linear.forms.Goals as goal

pub loop-row-preserved : goal.loop-row-preserved
loop-row-preserved c =
    more_forms c.args.unknowns.now c.args.rows.now c.loop-row.forms.items c.push.new.self.items c.loop-row.row-index c.row-item.result c.in_ok-form.field-0
    c.loop-row-test.true c.row-item.is c.loop-row.invariant c.in_ok-form.ensures c.in_ok-push.ensures.items
