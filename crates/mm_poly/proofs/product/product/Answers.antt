use Rattle.std.proofs.Common.{◌≡◌, IfOk, List, subst}
use Rattle.mm_poly.specs.declared.term.Term.{Term}
use Rattle.mm_poly.proofs.ExchangeLaws.{exchanged}
use Rattle.mm_poly.proofs.product.product.Goals as goal

pub returns-else-left-right : goal.returns-else-left-right
returns-else-left-right c = subst (λ (ts : List Term). IfOk c.product_of_runs-else-left-right.result (λ terms. terms.items ≡ ts))
    (exchanged c.args.right.now c.args.left.now c.requires.right c.requires.right_monos c.requires.left c.requires.left_monos)
    c.product_of_runs-else-left-right.ensures
