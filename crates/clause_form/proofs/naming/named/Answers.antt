use Rattle.std.proofs.Common.{length, sym, ◌∙◌, refl, subst}
use Rattle.clause_form.specs.machine.Numbering.{Numbers}
use Rattle.clause_form.specs.machine.Walk.{lent}
use Rattle.clause_form.proofs.RenumberingLaws.{variables_rise, rows_have_places, named_made}
use Rattle.clause_form.proofs.naming.named.Goals as goal

pub write_places-requires : goal.write_places-requires
write_places-requires c = variables_rise c.deref.result.now (lent c.args.rows.now) (c.deref.ensures.value ∙ c.in_ok-vars.ensures)

pub renumbered-requires : goal.renumbered-requires
renumbered-requires c =
    let t : Numbers c.deref-2.result.now c.deref.result.now (length c.deref.result.now) =
    subst (λ ts. Numbers ts c.deref.result.now (length c.deref.result.now)) (sym c.deref-2.ensures.value) c.in_ok-write_places.ensures in
    rows_have_places c.deref-2.result.now c.deref.result.now (length c.deref.result.now) (lent c.args.rows.now) t refl (c.deref.ensures.value ∙ c.in_ok-vars.ensures)

pub returns-clause-made : goal.returns-clause-made
returns-clause-made c =
    let t : Numbers c.deref-2.result.now c.deref.result.now (length c.deref.result.now) =
    subst (λ ts. Numbers ts c.deref.result.now (length c.deref.result.now)) (sym c.deref-2.ensures.value) c.in_ok-write_places.ensures in
    named_made c.deref-2.result.now c.deref.result.now (lent c.args.rows.now) _ _ _ t (c.deref.ensures.value ∙ c.in_ok-vars.ensures)
    c.in_ok-renumbered.ensures
    (c.from_vec.ensures ∙ c.in_order-rows.ensures)
    (c.from_vec-2.ensures ∙ c.in_ok-vars.ensures)
