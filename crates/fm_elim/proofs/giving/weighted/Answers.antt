use Rattle.std.proofs.Common.{◌≡◌, ◌≤◌, ◌<◌, ◌^◌, ◌+◌, ◌*◌, pos, ◌*ℤ◌, to_z, of_z, unsigned_abs, ap, sym, ◌∙◌, subst, arith}
use Rattle.std.proofs.lemmas.Int.{ints}
use Rattle.std.specs.Int.{w128}
use Rattle.mm_num.proofs.FracLaws.{wide}
use Rattle.fm_elim.specs.machine.Giving.{given}
use Rattle.fm_elim.proofs.ParallelLaws.{differ}
use Rattle.fm_elim.proofs.GivingLaws.{weight_here, weight_other, product_within, no_more, given_within}
use Rattle.fm_elim.proofs.giving.weighted.Goals as goal
use Rattle.mm_num.proofs.Ring.{mul_zero}

pub returns-then-same-clause-value : goal.returns-then-same-clause-value
returns-then-same-clause-value c =
    let e = weight_here (given c.args.values.now) c.args.unknown.now c.args.term.now.mono (pos 0) (c.same.ensures.0 c.if-same.true) in
    sym (ap (λ z. c.args.term.now.coeff *ℤ z) e ∙ mul_zero c.args.term.now.coeff)

pub returns-clause-value : goal.returns-clause-value
returns-clause-value c =
    let v = given c.args.values.now in
    let small : unsigned_abs c.args.term.now.coeff < 2 ^ 126 = no_more (unsigned_abs c.args.term.now.coeff) c.args.greatest (2 ^ 126) c.requires.room in
    let bound = given_within c.args.greatest c.args.values.now c.args.term.now.mono c.requires.within in
    let near : unsigned_abs c.value_of-value.result ≤ 1 + c.args.greatest = subst (λ z. unsigned_abs z ≤ 1 + c.args.greatest) (sym c.value_of-value.ensures.value) bound in
    let g = c.requires.small in
    let a : to_z w128 (of_z w128 c.args.term.now.coeff) ≡ c.args.term.now.coeff = wide c.args.term.now.coeff small in
    let b : to_z w128 (of_z w128 c.value_of-value.result) ≡ c.value_of-value.result = omega (arith, ints) in
    wide c.product.result c.product.ensures.small ∙ (simp (a, b) at c.product.ensures.product)
    ∙ ap (λ z. c.args.term.now.coeff *ℤ z)
    (c.value_of-value.ensures.value ∙ sym (weight_other v c.args.unknown.now c.args.term.now.mono (pos 0) (λ h. differ c.same.result (c.same.ensures.1 h) c.if-same.false)))

pub returns-clause-bound : goal.returns-clause-bound
returns-clause-bound c =
    let small : unsigned_abs c.args.term.now.coeff < 2 ^ 126 = no_more (unsigned_abs c.args.term.now.coeff) c.args.greatest (2 ^ 126) c.requires.room in
    let bound = given_within c.args.greatest c.args.values.now c.args.term.now.mono c.requires.within in
    let near : unsigned_abs c.value_of-value.result ≤ 1 + c.args.greatest = subst (λ z. unsigned_abs z ≤ 1 + c.args.greatest) (sym c.value_of-value.ensures.value) bound in
    let g = c.requires.small in
    let a : to_z w128 (of_z w128 c.args.term.now.coeff) ≡ c.args.term.now.coeff = wide c.args.term.now.coeff small in
    let b : to_z w128 (of_z w128 c.value_of-value.result) ≡ c.value_of-value.result = omega (arith, ints) in
    let e = wide c.product.result c.product.ensures.small ∙ (simp (a, b) at c.product.ensures.product) in
    subst (λ z. unsigned_abs z ≤ unsigned_abs c.args.term.now.coeff * (1 + c.args.greatest)) (sym e)
    (product_within c.args.term.now.coeff c.value_of-value.result (1 + c.args.greatest) near)
