use Rattle.std.proofs.Common.{◌≡◌, ◌∙◌, sym, subst, to_z, of_z}
use Rattle.std.proofs.lemmas.Option.{IfSome_then}
use Rattle.std.specs.Int.{w128}
use Rattle.mm_num.specs.Small.{IsSmall}
use Rattle.mm_num.proofs.FracLaws.{wide}
use Rattle.cut_branch.proofs.StepLaws.{numerator_is}
use Rattle.cut_branch.proofs.scaled.numerator_over.Goals as goal

pub returns-clause-value : goal.returns-clause-value
returns-clause-value c =
    let x = c.args.value.now in
    let num : to_z w128 (of_z w128 c.num.result) ≡ x.0 =
    wide c.num.result (subst IsSmall (sym c.num.ensures.value) c.num.ensures.fraction.small_num) ∙ c.num.ensures.value in
    let den : to_z w128 (of_z w128 c.den.result) ≡ x.1 =
    wide c.den.result (subst IsSmall (sym c.den.ensures.value) c.den.ensures.fraction.small_den) ∙ c.den.ensures.value in
    let times = wide c.in_ok-times.times c.in_ok-times.ensures.small in
    let common = wide c.args.den c.requires.small in
    let exact = simp (den, common) at c.in_ok-times.ensures.value in
    IfSome_then c.small_product.result c.small_product.ensures.value
    (λ n e. numerator_is n c.in_ok-times.times x.0 x.1 c.args.den exact (simp (num, times) at e))
