use Rattle.std.proofs.Common.{◌≡◌, IfOk, List, [], ap, sym, ◌∙◌, subst, arith}
use Rattle.mm_poly.specs.declared.term.Term.{Term}
use Rattle.mm_poly.specs.Poly.{norm, plus}
use Rattle.mm_poly.specs.Product.{AllNonZero}
use Rattle.mm_poly.proofs.ProductLaws.{nonzero_of, nonzero_all, norm_all, times_all}
use Rattle.mm_poly.proofs.SingleLaws.{single_left}
use Rattle.mm_poly.proofs.product.product_of_runs.Goals as goal

pub join-requires-clause-nonzero : goal.join-requires-clause-nonzero
join-requires-clause-nonzero c =
    subst (λ ts. AllNonZero ts) (sym c.in_ok-terms.ensures) (nonzero_all c.args.left.now c.args.right.now (nonzero_of _ c.requires.left) (nonzero_of _ c.requires.right))

pub join-requires-clause-small : goal.join-requires-clause-small
join-requires-clause-small c =
    omega (arith, ap (λ (ts : List Term). norm ts) c.in_ok-terms.ensures, norm_all c.args.left.now c.args.right.now, c.requires.small)

pub returns : goal.returns
returns c =
    let e = ap (λ (ts : List Term). plus ts []) c.in_ok-terms.ensures ∙ sym (times_all c.args.left.now c.args.right.now (nonzero_of _ c.requires.left) (nonzero_of _ c.requires.right)) in
    subst (λ ts. IfOk c.join.result (λ out. out.items ≡ ts)) e c.join.ensures

pub returns-then-left-le1 : goal.returns-then-left-le1
returns-then-left-le1 c =
    c.in_ok-terms.ensures ∙ sym (single_left c.args.left.now c.args.right.now c.if-left-le1.true c.requires.left c.requires.left_monos c.requires.right c.requires.right_monos)
