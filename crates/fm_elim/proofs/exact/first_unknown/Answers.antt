use Rattle.std.proofs.Common.{◌≡◌, ◌+◌, ◌-◌, ◌<◌, List, ◌∷◌, drop, length, ap, sym, ◌∙◌, subst, arith}
use Rattle.std.proofs.lemmas.List.{drop_more}
use Rattle.mm_poly.specs.Poly.{IsPoly, without_constant}
use Rattle.fm_elim.specs.declared.live.Live.{Live}
use Rattle.fm_elim.specs.Unknowns.{unknowns}
use Rattle.fm_elim.specs.machine.Choice.{first_lent, first_of, first_unknown, earlier}
use Rattle.fm_elim.specs.machine.Tidying.{rows_of}
use Rattle.fm_elim.proofs.ExactLaws.{first_with_all}
use Rattle.fm_elim.proofs.exact.first_unknown.Goals as goal

pub loop-n-preserved : goal.loop-n-preserved
loop-n-preserved c =
    let rows = c.args.rows.now in
    let n = c.loop-n.n in
    let x = c.index-rows-n.result in
    let l = c.loop-n-test.true in
    let a = c.loop-n.auto.n in
    let next : c.loop-n.n - 1 + 1 ≡ c.loop-n.n = omega (arith, l) in
    let inside : c.loop-n.n - 1 < length c.args.rows.now = omega (arith, l, a) in
    let here : drop (c.loop-n.n - 1) c.args.rows.now ≡ c.index-rows-n.result ∷ drop c.loop-n.n c.args.rows.now =
    drop_more rows (n - 1) x inside ∙ ap (λ (r : Live). r ∷ drop (n - 1 + 1) rows) (sym c.index-rows-n.is) ∙ ap (λ k. x ∷ drop k rows) next in
    c.earlier-first.ensures.first ∙ ap (λ (l : Live). earlier (first_unknown (without_constant l.row.poly)) (first_lent c.loop-n.first)) (sym c.index-rows-n.is)
    ∙ ap (λ o. earlier (first_unknown (without_constant x.row.poly)) o) c.loop-n.invariant
    ∙ sym (first_with_all x.row.poly (unknowns (rows_of (drop n rows))) (subst (λ (l : Live). IsPoly l.row.poly) (sym c.index-rows-n.is) c.earlier-first.ensures.order))
    ∙ ap (λ (ls : List Live). first_of (unknowns (rows_of ls))) (sym here)
