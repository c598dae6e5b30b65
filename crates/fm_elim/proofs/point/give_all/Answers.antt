use Rattle.std.proofs.Common.{◌≡◌, ◌<◌, ◌-◌, ◌+◌, ◌^◌, List, ◌∷◌, drop, length, ap, sym, ◌∙◌, subst, arith}
use Rattle.std.proofs.lemmas.List.{drop_more}
use Rattle.fm_elim.specs.declared.removal.Removal.{Removal}
use Rattle.fm_elim.specs.machine.Giving.{IsGiven}
use Rattle.fm_elim.proofs.GivingLaws.{wild_already}
use Rattle.fm_elim.proofs.point.give_all.Goals as goal

pub returns-then-not-is_tame : goal.returns-then-not-is_tame
returns-then-not-is_tame c =
    wild_already c.loop-n.n c.args.removed.now c.loop-n.given c.args.top (2 ^ 126) c.loop-n.invariant (sym c.is_tame.ensures ∙ c.if-not-is_tame.true)

pub loop-n-preserved : goal.loop-n-preserved
loop-n-preserved c =
    let xs = c.args.removed.now in
    let i = c.loop-n.n - 1 in
    let inside : c.loop-n.n - 1 < length c.args.removed.now = omega arith in
    let e : c.loop-n.n - 1 + 1 ≡ c.loop-n.n = omega arith in
    let here : drop (c.loop-n.n - 1) c.args.removed.now ≡ c.index-removed-n.result ∷ drop c.loop-n.n c.args.removed.now =
    drop_more xs i c.index-removed-n.result inside ∙ ap (λ (r : Removal). r ∷ drop (i + 1) xs) (sym c.index-removed-n.is) ∙ ap (λ k. c.index-removed-n.result ∷ drop k xs) e in
    subst (λ (q : List Removal). IsGiven q c.give.new.given) (sym here) (c.in_ok-give.ensures (drop c.loop-n.n xs) c.loop-n.invariant)
