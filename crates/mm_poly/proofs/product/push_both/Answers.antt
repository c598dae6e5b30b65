use Rattle.std.proofs.Common.{◌≡◌, OnOk, List, [], ◌∷◌, ◌++◌, refl, ap, sym, ◌∙◌, subst, rules}
use Rattle.mm_poly.specs.declared.term.Term.{Term}
use Rattle.mm_poly.proofs.JoinLaws.{more, same}
use Rattle.mm_poly.proofs.product.push_both.Goals as goal

pub returns-then-same : goal.returns-then-same
returns-then-same c =
    let e = same _ c.args.last c.args.term c.requires.order c.requires.nonzero (c.if-same.ensures.0 refl) in
    subst (λ (ts : List Term). OnOk c.push_nonzero.result (c.push_nonzero.new.out.items ≡ ts)) (sym e) (search rules)

pub returns-in_ok-push-2 : goal.returns-in_ok-push-2
returns-in_ok-push-2 c =
    c.in_ok-push-2.ensures.items
    ∙ ap (λ (ts : List Term). ts ++ c.args.term ∷ []) c.in_ok-push.ensures.items
    ∙ sym (more _ c.args.last c.args.term c.requires.order c.requires.after c.requires.nonzero (λ e. let equal = c.if-same.ensures.1 e in cc))
