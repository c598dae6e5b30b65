use Rattle.std.proofs.Common.{◌≡◌, ◌<◌, ◌≤◌, ◌+◌, ◌*◌, ◌^◌, ◌+ℤ◌, List, ◌∷◌, drop, length, to_z, of_z, unsigned_abs, ap, sym, ◌∙◌, subst, arith}
use Rattle.std.proofs.lemmas.List.{drop_more}
use Rattle.std.specs.Int.{w128}
use Rattle.mm_num.specs.Small.{IsSmall}
use Rattle.mm_num.proofs.FracLaws.{wide}
use Rattle.mm_poly.specs.declared.term.Term.{Term}
use Rattle.mm_poly.specs.Poly.{norm}
use Rattle.fm_elim.specs.Points.{rest_of}
use Rattle.fm_elim.specs.machine.Giving.{given}
use Rattle.fm_elim.proofs.GivingLaws.{sum_small, sum_regroup, below_top, other_below}
use Rattle.fm_elim.proofs.giving.rest_of.Goals as goal

pub loop-term-preserved : goal.loop-term-preserved
loop-term-preserved c =
    let xs = c.args.terms.now in
    let i = c.loop-term.term-index in
    let g = c.args.greatest in
    let u = c.args.unknown.now in
    let v = given c.args.values.now in
    let item = c.term-item.result in
    let ds = drop (c.loop-term.term-index + 1) c.args.terms.now in
    let top = norm c.args.terms.now * (1 + c.args.greatest) in
    let total = to_z w128 c.loop-term.total-bits in
    let w = c.weighted-total.result in
    let inside : c.loop-term.term-index < length c.args.terms.now = omega arith in
    let here : drop c.loop-term.term-index c.args.terms.now ≡ c.term-item.result ∷ drop (c.loop-term.term-index + 1) c.args.terms.now =
    drop_more xs i item inside ∙ ap (λ (t : Term). t ∷ drop (i + 1) xs) (sym c.term-item.is) in
    let before = subst (λ (q : List Term). unsigned_abs (to_z w128 c.loop-term.total-bits) + norm q * (1 + c.args.greatest) ≤ norm c.args.terms.now * (1 + c.args.greatest)) here c.loop-term.invariant.bound in
    let after = sum_small total w (unsigned_abs item.coeff) (norm ds) g top before c.weighted-total.ensures.bound in
    let small : IsSmall (to_z w128 c.loop-term.total-bits +ℤ c.weighted-total.result) = below_top (unsigned_abs (total +ℤ w)) (norm ds) g top (2 ^ 126) after c.requires.room in
    let own : IsSmall c.weighted-total.result = other_below (unsigned_abs w) (unsigned_abs total) (unsigned_abs item.coeff) (norm ds) g top (2 ^ 126) c.weighted-total.ensures.bound before c.requires.room in
    let a : to_z w128 (of_z w128 c.weighted-total.result) ≡ c.weighted-total.result = wide w own in
    let e : to_z w128 (of_z w128 (to_z w128 c.loop-term.total-bits +ℤ to_z w128 (of_z w128 c.weighted-total.result))) ≡ to_z w128 c.loop-term.total-bits +ℤ c.weighted-total.result =
    ap (λ z. to_z w128 (of_z w128 (total +ℤ z))) a ∙ wide (total +ℤ w) small in
    let sum = subst (λ (q : List Term). to_z w128 c.loop-term.total-bits +ℤ rest_of u v q ≡ rest_of u v xs) here c.loop-term.invariant.sum in
    record {
      sum = ap (λ z. z +ℤ rest_of u v ds) e ∙ sum_regroup total w (rest_of u v ds) (rest_of u v xs) (ap (λ z. total +ℤ (z +ℤ rest_of u v ds)) c.weighted-total.ensures.value ∙ sum);
      bound = subst (λ z. unsigned_abs z + norm ds * (1 + g) ≤ top) (sym e) after;
    }
