use Rattle.std.proofs.Common.{◌≡◌, ◌<◌, ap, sym, List, ℕ, get_or, length, arith}
use Rattle.std.proofs.lemmas.Result.{IfOk-weaker}
use Rattle.cert_kit.specs.Variables.{variables_of}
use Rattle.cut_branch.proofs.StepLaws.{get_here, get_inside}
use Rattle.cut_branch.proofs.PickLaws.{split_between}
use Rattle.cut_branch.proofs.picking.split_off.Goals as goal

pub returns-clause-split : goal.returns-clause-split
returns-clause-split c =
    let place = c.in-Some.place in
    let x = c.index-point-place.result in
    let f = c.in-Some.ensures.some in
    let inside : place < length c.args.point.now = get_inside c.args.point.now place f.value f.here in
    let same : length c.args.vars.now ≡ length (variables_of c.args.rows.now) = ap length c.requires.vars in
    let count = c.requires.count in
    let within : place < length (variables_of c.args.rows.now) = omega (arith, inside, same, count) in
    IfOk-weaker c.split.result _ _
    (λ p s. split_between c.args.rows.now c.args.point.now place (get_or c.args.vars.now place 0) x p c.have_fractions.ensures within
    (ap (λ (vs : List ℕ). get_or vs place 0) (sym c.requires.vars)) (get_here c.args.point.now place x x inside c.index-point-place.is) s)
    c.split.ensures
