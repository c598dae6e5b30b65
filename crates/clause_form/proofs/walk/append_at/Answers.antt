use Rattle.clause_form.specs.machine.Walk.{lent}
use Rattle.clause_form.proofs.WalkLaws.{nothing_more, one_more}
use Rattle.clause_form.proofs.walk.append_at.Goals as goal

pub returns-then-place-from : goal.returns-then-place-from
returns-then-place-from c = nothing_more (lent c.args.rows.now.items) c.args.from.now c.args.place c.if-place-from.true

pub returns : goal.returns
returns c = one_more c.args.rows.now.items c.push.new.self.items _ c.args.from.now c.args.place c.in_ok-push.ensures.items c.if-place-from.false c.index-from-place.is
