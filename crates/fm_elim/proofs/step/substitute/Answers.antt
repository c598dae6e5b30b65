use Rattle.std.proofs.Common.{◌≡◌, false, pos, ◌*ℤ◌, neg_ℤ, unsigned_abs, to_z, of_z, [], ◌∷◌, ap, sym, ◌∙◌, subst, arith}
use Rattle.std.proofs.lemmas.Int.{ints}
use Rattle.std.specs.Int.{w128}
use Rattle.std.specs.Ordering.{int_eq}
use Rattle.mm_num.specs.Small.{IsSmall}
use Rattle.mm_num.proofs.FracLaws.{wide}
use Rattle.mm_poly.specs.Poly.{coeff_of}
use Rattle.cert_kit.specs.declared.row.PRow.{PRow}
use Rattle.fm_elim.specs.Unknowns.{coeff_in}
use Rattle.fm_elim.specs.machine.Tidying.{Feeds}
use Rattle.fm_elim.proofs.ScaledLaws.{nonzero_test, taken_out}
use Rattle.fm_elim.specs.declared.source.Combination.TheVariants.{Sum}
use Rattle.fm_elim.specs.machine.Logging.{all_rows, Derives}
use Rattle.fm_elim.proofs.LoggingLaws.{sum_made}
use Rattle.fm_elim.proofs.step.substitute.Goals as goal

pub returns-clause-feeds : goal.returns-clause-feeds
returns-clause-feeds c =
    let v = c.coefficient-coeff.ensures.value in
    let w = c.coefficient-coeff.ensures.small in
    let n : int_eq (coeff_in c.args.unknown.now c.args.live.row) (pos 0) ≡ false =
    nonzero_test (coeff_in c.args.unknown.now c.args.live.row) (λ z. absurd (omega (arith, ints, v, w, c.if-coeff-eq0.false, z))) in
    let a : to_z w128 (of_z w128 c.coefficient-coeff.result) ≡ c.coefficient-coeff.result = wide _ (subst IsSmall (sym c.coefficient-coeff.ensures.value) c.coefficient-coeff.ensures.small) in
    let b : to_z w128 (of_z w128 c.coefficient.result) ≡ c.coefficient.result = wide _ (subst IsSmall (sym c.coefficient.ensures.value) c.coefficient.ensures.small) in
    let t : to_z w128 (of_z w128 c.negated_product-times.result) ≡ c.negated_product-times.result = wide _ c.negated_product-times.ensures.small in
    let e : c.negated_product-times.result ≡ neg_ℤ (coeff_of c.args.live.row.poly c.args.unknown.now *ℤ coeff_of c.args.equality.now.row.poly c.args.unknown.now) =
    (simp (a, b) at c.negated_product-times.ensures.value) ∙ ap (λ z. neg_ℤ (z *ℤ c.coefficient.result)) c.coefficient-coeff.ensures.value
    ∙ ap (λ z. neg_ℤ (coeff_of c.args.live.row.poly c.args.unknown.now *ℤ z)) c.coefficient.ensures.value in
    subst (λ (r : PRow). Feeds c.in_ok-found.found c.args.kept.now c.take.new.self (r ∷ []))
    ((simp t at c.in_ok-row.ensures) ∙ sym (taken_out c.args.unknown.now c.args.equality.now.row.poly c.args.live.row c.negated_product-times.result n e))
    c.in_ok-found.ensures.feeds

pub take-requires-clause-derives : goal.take-requires-clause-derives
take-requires-clause-derives c =
    let v = c.coefficient-coeff.ensures.value in
    let w = c.coefficient-coeff.ensures.small in
    let n : int_eq (coeff_in c.args.unknown.now c.args.live.row) (pos 0) ≡ false =
    nonzero_test (coeff_in c.args.unknown.now c.args.live.row) (λ z. absurd (omega (arith, ints, v, w, c.if-coeff-eq0.false, z))) in
    let t : to_z w128 (of_z w128 c.negated_product-times.result) ≡ c.negated_product-times.result = wide _ c.negated_product-times.ensures.small in
    let a : to_z w128 (of_z w128 c.coefficient-coeff.result) ≡ c.coefficient-coeff.result = wide _ (subst IsSmall (sym c.coefficient-coeff.ensures.value) c.coefficient-coeff.ensures.small) in
    subst (λ k. Derives (all_rows c.args.log.now) (Sum c.args.live.number k c.args.equality.now.number) c.in_ok-row.row) (sym t)
    (sum_made c.args.log.now c.args.unknown.now c.args.live c.args.equality.now c.negated_product-times.result c.in_ok-row.row c.requires.live c.requires.equality c.requires.equal n
    c.negated_product-times.ensures.small c.requires.room (c.negated_product-times.ensures.magnitude ∙ ap (λ z. unsigned_abs z) (a ∙ c.coefficient-coeff.ensures.value)) (simp t at c.in_ok-row.ensures))
