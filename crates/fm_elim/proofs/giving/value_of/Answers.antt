use Rattle.std.proofs.Common.{◌≡◌, ◌<◌, ◌≤◌, ◌-◌, ◌+◌, unsigned_abs, take, length, ap, sym, ◌∙◌, refl, arith}
use Rattle.std.proofs.lemmas.Option.{slice_get_read}
use Rattle.mm_num.specs.Small.{IsSmall}
use Rattle.mm_num.proofs.FracLaws.{wide}
use Rattle.fm_elim.specs.declared.value.Value.{Value}
use Rattle.fm_elim.specs.machine.Giving.{given}
use Rattle.fm_elim.proofs.ListLaws.{all_at}
use Rattle.fm_elim.proofs.ParallelLaws.{differ}
use Rattle.fm_elim.proofs.GivingLaws.{given_here, given_not_here, given_within}
use Rattle.fm_elim.proofs.giving.value_of.Goals as goal

pub loop-n-preserved : goal.loop-n-preserved
loop-n-preserved c =
    let xs = c.args.values.now in
    let i = c.loop-n.n - 1 in
    let inside : c.loop-n.n - 1 < length c.args.values.now = omega arith in
    let e : c.loop-n.n - 1 + 1 ≡ c.loop-n.n = omega arith in
    c.loop-n.invariant ∙ ap (λ k. given (take k xs) c.args.mono.now) (sym e)
    ∙ given_not_here xs i c.index-values-n.result c.args.mono.now inside c.index-values-n.is (λ h. differ c.same.result (c.same.ensures.1 h) c.if-same.false)

pub returns-then-same-clause-value : goal.returns-then-same-clause-value
returns-then-same-clause-value c =
    let xs = c.args.values.now in
    let x = c.index-values-n.result in
    let i = c.loop-n.n - 1 in
    let inside : c.loop-n.n - 1 < length c.args.values.now = omega arith in
    let e : c.loop-n.n - 1 + 1 ≡ c.loop-n.n = omega arith in
    let s = slice_get_read xs (length xs) i x refl inside c.index-values-n.is in
    let w : unsigned_abs c.index-values-n.result.value ≤ c.args.greatest = all_at (λ (y : Value). unsigned_abs y.value ≤ c.args.greatest) xs i x s c.requires.within in
    let small : IsSmall c.index-values-n.result.value = (let g = c.requires.small in omega arith) in
    wide x.value small
    ∙ sym (c.loop-n.invariant ∙ ap (λ k. given (take k xs) c.args.mono.now) (sym e) ∙ given_here xs i x c.args.mono.now inside c.index-values-n.is (c.same.ensures.0 c.if-same.true))

pub returns-then-same-clause-bound : goal.returns-then-same-clause-bound
returns-then-same-clause-bound c = given_within c.args.greatest c.args.values.now c.args.mono.now c.requires.within
