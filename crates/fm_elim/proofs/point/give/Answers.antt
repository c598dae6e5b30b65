use Rattle.std.proofs.Common.{◌≡◌, max, List, to_z, of_z, ap, ◌∙◌}
use Rattle.std.specs.Int.{w128}
use Rattle.mm_num.proofs.FracLaws.{wide}
use Rattle.fm_elim.specs.declared.value.Value.{Value}
use Rattle.fm_elim.specs.declared.value.Given.{Given}
use Rattle.fm_elim.specs.Points.{value_after}
use Rattle.fm_elim.specs.machine.Giving.{given}
use Rattle.fm_elim.proofs.GivingLaws.{one_given}
use Rattle.fm_elim.proofs.point.give.Goals as goal

pub returns : goal.returns
returns c =
    let t : to_z w128 (of_z w128 c.value_after-value.result) ≡ c.value_after-value.result = wide c.value_after-value.result c.value_after-value.ensures.bound in
    let x : Value = record { unknown = c.in_ok-unknown.unknown; value = c.value_after-value.result } in
    let new : Given = record { values = c.push.new.self; greatest = c.max-given.result } in
    let z = c.value_after-value.ensures.value ∙ ap (λ (vs : List Value). value_after (given vs) c.args.removal.now) c.deref.ensures.value in
    λ later i. one_given later c.args.removal.now c.args.given.now new x i c.in_ok-unknown.ensures z c.value_after-value.ensures.bound (simp t at c.in_ok-push.ensures.items)
    (c.max-given.ensures ∙ ap (λ k. max c.args.given.now.greatest k) (simp t at c.unsigned_abs.ensures.value))
