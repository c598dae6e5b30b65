use Rattle.std.proofs.Common.{◌≡◌, ◌≤◌, sym, subst, arith}
use Rattle.std.proofs.lemmas.Int.{ints}
use Rattle.mm_poly.specs.Poly.{content}
use Rattle.cert_kit.specs.declared.row.PRow.{PRow}
use Rattle.cert_kit.specs.Cut.{cut_of}
use Rattle.cert_kit.proofs.CutSameLaws.{cut_itself}
use Rattle.cert_kit.proofs.CutTwiceLaws.{cut_twice}
use Rattle.fm_elim.proofs.tidying.tidy_cut.Goals as goal

pub returns-then-content-le1-clause-cut : goal.returns-then-content-le1-clause-cut
returns-then-content-le1-clause-cut c =
    let few : content c.args.row.poly ≤ 1 = (let v = c.content.ensures.value in let t = c.if-content-le1.true in omega (arith, ints)) in
    sym (cut_itself c.args.row c.content.ensures.fits few)

pub returns-then-content-le1-clause-changed : goal.returns-then-content-le1-clause-changed
returns-then-content-le1-clause-changed c =
    let few : content c.args.row.poly ≤ 1 = (let v = c.content.ensures.value in let t = c.if-content-le1.true in omega (arith, ints)) in
    λ e. cut_itself c.args.row c.content.ensures.fits few

pub returns-then-content-le1-clause-itself : goal.returns-then-content-le1-clause-itself
returns-then-content-le1-clause-itself c =
    let few : content c.args.row.poly ≤ 1 = (let v = c.content.ensures.value in let t = c.if-content-le1.true in omega (arith, ints)) in
    cut_itself c.args.row c.content.ensures.fits few

pub returns-clause-itself : goal.returns-clause-itself
returns-clause-itself c = subst (λ (q : PRow). cut_of q ≡ q) (sym c.in_ok-cut.ensures) (cut_twice c.args.row c.content.ensures.fits)
