use Rattle.std.proofs.Common.{◌≡◌, ℕ, List, Some, None, ap, sym, ◌∙◌, arith}
use Rattle.std.specs.List.{insert}
use Rattle.fm_elim.specs.machine.Choice.{place_from}
use Rattle.fm_elim.proofs.ChoiceLaws.{none_there, put_there}
use Rattle.fm_elim.proofs.unknowns.add_unknown.Goals as goal

pub insert-requires : goal.insert-requires
insert-requires c =
    let us = c.args.found.now.items in
    let e : place_from c.args.found.now.items c.args.mono.now 0 ≡ Some c.in-Some.place =
    ap (λ (q : List (List (ℕ × ℕ))). place_from q c.args.mono.now 0) (sym c.deref.ensures.value) ∙ sym c.place_of.ensures ∙ c.in-Some.is in
    let h = (put_there us c.args.mono.now c.in-Some.place e).inside in
    omega (arith, h)

pub returns-in-None : goal.returns-in-None
returns-in-None c =
    let e : place_from c.args.found.now.items c.args.mono.now 0 ≡ None =
    ap (λ (q : List (List (ℕ × ℕ))). place_from q c.args.mono.now 0) (sym c.deref.ensures.value) ∙ sym c.place_of.ensures ∙ c.in-None.is in
    sym (none_there c.args.found.now.items c.args.mono.now 0 e)

pub returns-in_ok-insert-in-Some : goal.returns-in_ok-insert-in-Some
returns-in_ok-insert-in-Some c =
    let us = c.args.found.now.items in
    let e : place_from c.args.found.now.items c.args.mono.now 0 ≡ Some c.in-Some.place =
    ap (λ (q : List (List (ℕ × ℕ))). place_from q c.args.mono.now 0) (sym c.deref.ensures.value) ∙ sym c.place_of.ensures ∙ c.in-Some.is in
    c.in_ok-insert-in-Some.ensures.items ∙ ap (λ (m : List (ℕ × ℕ)). insert us c.in-Some.place m) c.in_ok-copy-in-Some.ensures
    ∙ sym (put_there us c.args.mono.now c.in-Some.place e).put
