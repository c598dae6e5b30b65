use Rattle.std.proofs.Common.{arith, refl}
use Rattle.clause_form.proofs.RenumberingLaws.{next_number, places_below}
use Rattle.clause_form.proofs.naming.write_places.Goals as goal

pub overflow_cast-place : goal.overflow_cast-place
overflow_cast-place c =
    let l = places_below c.args.vars.now c.loop-place.place c.requires (λ i. omega (arith, c.type_inv.vars i)) c.loop-place-test.true in
    omega (arith, l)

pub loop-place-preserved : goal.loop-place-preserved
loop-place-preserved c = next_number _ _ _ _ _ _ c.loop-place.invariant c.in_ok-set_at.ensures refl c.loop-place-test.true refl c.requires
