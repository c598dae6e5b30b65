use Rattle.std.proofs.Common.{◌≡◌, List, to_z, of_z, ap, ◌∙◌, arith}
use Rattle.std.proofs.lemmas.Int.{ints}
use Rattle.std.specs.Int.{w128}
use Rattle.mm_poly.specs.declared.term.Term.{Term}
use Rattle.mm_poly.specs.Poly.{plus, scaled}
use Rattle.cert_kit.specs.declared.row.PRow.{PRow}
use Rattle.mm_poly.proofs.FiniteLaws.{one_scaled}
use Rattle.fm_elim.proofs.step.with_multiple.Goals as goal

pub returns : goal.returns
returns c =
    let t : to_z w128 (of_z w128 c.args.times) ≡ c.args.times = omega (arith, ints) in
    ap (λ (s : List Term). let a : PRow = record { poly = s; op = c.args.row.now.op } in a)
    ((simp t at c.in_ok-combination.ensures) ∙ ap (λ (s : List Term). plus s (scaled c.args.times c.args.zero.now)) (one_scaled c.args.row.now.poly c.spread.ensures.fits.order))
