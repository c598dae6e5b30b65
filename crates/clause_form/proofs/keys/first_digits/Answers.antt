use Rattle.std.proofs.Common.{◌≢◌, ◌∙◌, ◌<◌, length, arith, get_or-set_other, get_or-set_same, length-set, below_more}
use Rattle.clause_form.proofs.keys.first_digits.Goals as goal

pub loop-place-preserved : goal.loop-place-preserved
loop-place-preserved c = record {
  size = length-set c.loop-place.name c.loop-place.place c.digit_at.result ∙ c.loop-place.invariant.size;
  digits = below_more _ _
      (λ k h. let ne : k ≢ c.loop-place.place = omega arith in rw get_or-set_other (c.loop-place.invariant.digits k h))
      (let lt : c.loop-place.place < length c.loop-place.name = omega (arith, c.loop-place.invariant.size) in rw get_or-set_same c.digit_at.ensures);
}

pub returns : goal.returns
returns c = λ k h. c.loop-place.invariant.digits k (omega (arith, c.loop-place.invariant.size))
