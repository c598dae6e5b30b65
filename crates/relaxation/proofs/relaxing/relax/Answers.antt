use Rattle.std.proofs.Common.{◌≡◌, ◌≤◌, List, length, ap, sym, ◌∙◌, refl, subst, arith}
use Rattle.mm_num.proofs.BoolLaws.{never}
use Rattle.mm_poly.specs.declared.mono.Mono.{Mono}
use Rattle.simplex_core.specs.declared.row.LinRow.{LinRow}
use Rattle.fm_elim.specs.Unknowns.{unknowns}
use Rattle.relaxation.specs.Relaxing.{AreFormsOf}
use Rattle.relaxation.proofs.EndLaws.{not_too_many, not_narrow, not_in_reach, forms_wide, forms_few, forms_small, end_small, end_farkas, end_room, end_point, end_refuting}
use Rattle.relaxation.proofs.relaxing.relax.Goals as goal

pub solve_within-requires-clause-wide : goal.solve_within-requires-clause-wide
solve_within-requires-clause-wide c = forms_wide c.args.rows.now c.deref-2.result.now
    (subst (λ ls. AreFormsOf (unknowns c.args.rows.now) c.args.rows.now ls) (sym c.deref-2.ensures.value)
    (subst (λ us. AreFormsOf us c.args.rows.now c.in_ok-forms.forms.items) c.requires.unknowns c.in_ok-forms.ensures))

pub solve_within-requires-clause-small : goal.solve_within-requires-clause-small
solve_within-requires-clause-small c = forms_small (unknowns c.args.rows.now) c.args.rows.now c.deref-2.result.now c.have_bounds.ensures
    (subst (λ ls. AreFormsOf (unknowns c.args.rows.now) c.args.rows.now ls) (sym c.deref-2.ensures.value)
    (subst (λ us. AreFormsOf us c.args.rows.now c.in_ok-forms.forms.items) c.requires.unknowns c.in_ok-forms.ensures))

pub solve_within-requires-clause-few : goal.solve_within-requires-clause-few
solve_within-requires-clause-few c =
    let e = forms_few c.args.rows.now c.deref-2.result.now
    (subst (λ ls. AreFormsOf (unknowns c.args.rows.now) c.args.rows.now ls) (sym c.deref-2.ensures.value)
    (subst (λ us. AreFormsOf us c.args.rows.now c.in_ok-forms.forms.items) c.requires.unknowns c.in_ok-forms.ensures)) in
    let u = ap length c.requires.unknowns in
    let f = c.if-unknowns-rows-ge-MOST_VARIABLES.false in
    omega (arith, e, u, f)

pub ended-requires-clause-small : goal.ended-requires-clause-small
ended-requires-clause-small c = end_small c.in_ok-walked.walked.solved c.in_ok-walked.ensures.narrow_multipliers

pub ended-requires-clause-farkas : goal.ended-requires-clause-farkas
ended-requires-clause-farkas c = end_farkas c.args.rows.now c.deref-2.result.now c.in_ok-walked.walked.solved c.have_bounds.ensures
    (subst (λ ls. AreFormsOf (unknowns c.args.rows.now) c.args.rows.now ls) (sym c.deref-2.ensures.value)
    (subst (λ us. AreFormsOf us c.args.rows.now c.in_ok-forms.forms.items) c.requires.unknowns c.in_ok-forms.ensures))
    c.in_ok-walked.ensures.farkas

pub ended-requires-clause-room : goal.ended-requires-clause-room
ended-requires-clause-room c p = end_room c.args.rows.now c.deref-2.result.now c.args.turns c.in_ok-walked.walked.solved c.have_bounds.ensures
    (subst (λ ls. AreFormsOf (unknowns c.args.rows.now) c.args.rows.now ls) (sym c.deref-2.ensures.value)
    (subst (λ us. AreFormsOf us c.args.rows.now c.in_ok-forms.forms.items) c.requires.unknowns c.in_ok-forms.ensures))
    c.in_ok-walked.ensures.narrow_multipliers p

pub ended-requires-clause-point : goal.ended-requires-clause-point
ended-requires-clause-point c = end_point c.args.rows.now c.deref-2.result.now c.in_ok-walked.walked.solved c.have_bounds.ensures
    (subst (λ ls. AreFormsOf (unknowns c.args.rows.now) c.args.rows.now ls) (sym c.deref-2.ensures.value)
    (subst (λ us. AreFormsOf us c.args.rows.now c.in_ok-forms.forms.items) c.requires.unknowns c.in_ok-forms.ensures))
    c.in_ok-walked.ensures.point

pub ended-requires-clause-refuted : goal.ended-requires-clause-refuted
ended-requires-clause-refuted c p = end_refuting c.args.rows.now c.deref-2.result.now c.args.turns c.in_ok-walked.walked.solved c.have_bounds.ensures
    (subst (λ ls. AreFormsOf (unknowns c.args.rows.now) c.args.rows.now ls) (sym c.deref-2.ensures.value)
    (subst (λ us. AreFormsOf us c.args.rows.now c.in_ok-forms.forms.items) c.requires.unknowns c.in_ok-forms.ensures))
    c.in_ok-walked.ensures.point c.in_ok-walked.ensures.enough_turns c.in_ok-walked.ensures.narrow_forms p

pub returns-then-not-is_in_reach-clause-refuted : goal.returns-then-not-is_in_reach-clause-refuted
returns-then-not-is_in_reach-clause-refuted c p = absurd (not_in_reach c.args.rows.now (length c.args.unknowns.now) (length c.args.rows.now) c.args.turns
    (ap length c.requires.unknowns) refl (λ h. never (sym c.if-not-is_in_reach.true ∙ c.is_in_reach.ensures h)) p)

pub returns-then-not-are_narrow-clause-refuted : goal.returns-then-not-are_narrow-clause-refuted
returns-then-not-are_narrow-clause-refuted c p = absurd (not_narrow c.args.rows.now c.deref.result.now c.args.turns
    (subst (λ ls. AreFormsOf (unknowns c.args.rows.now) c.args.rows.now ls) (sym c.deref.ensures.value)
    (subst (λ us. AreFormsOf us c.args.rows.now c.in_ok-forms.forms.items) c.requires.unknowns c.in_ok-forms.ensures))
    (λ h. never (sym c.if-not-are_narrow.true ∙ c.are_narrow.ensures.1 h)) p)

pub returns-then-unknowns-rows-ge-MOST_VARIABLES-clause-refuted : goal.returns-then-unknowns-rows-ge-MOST_VARIABLES-clause-refuted
returns-then-unknowns-rows-ge-MOST_VARIABLES-clause-refuted c p =
    let q = not_too_many c.args.rows.now (length c.args.unknowns.now) c.args.turns (ap length c.requires.unknowns) c.ranges.turns.fits c.requires.rows p in
    let f = c.if-unknowns-rows-ge-MOST_VARIABLES.true in
    absurd (omega (arith, q, f))
