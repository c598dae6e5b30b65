use Rattle.std.proofs.Common.{◌≡◌, List, IfOk, subst}
use Rattle.mm_poly.specs.declared.term.Term.{Term}
use Rattle.mm_poly.proofs.InsertionLaws.{plus_swap}
use Rattle.mm_poly.proofs.insert.joined_lists.Goals as goal

pub returns-then-len-2 : goal.returns-then-len-2
returns-then-len-2 c = subst (λ (ts : List Term). IfOk c.put_all-then-len-2.result (λ terms. terms.items ≡ ts)) (plus_swap c.args.right.items c.args.left.items c.requires.right c.requires.left) c.put_all-then-len-2.ensures
