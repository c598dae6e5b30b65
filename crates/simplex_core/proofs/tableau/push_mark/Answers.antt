use Rattle.std.proofs.Common.{◌≡◌, ◌≤◌, ◌+◌, ◌++◌, ◌∷◌, [], drop, to_z, of_z, ap, sym, ◌∙◌, arith}
use Rattle.std.proofs.lemmas.Int.{ints}
use Rattle.std.proofs.lemmas.List.{append-nil, append_assoc}
use Rattle.std.specs.Int.{w128}
use Rattle.simplex_core.specs.Form.{at}
use Rattle.simplex_core.specs.machine.Tableau.{mark}
use Rattle.simplex_core.proofs.StartLaws.{drop-mark, drop-mark_all, at-mark}
use Rattle.simplex_core.proofs.tableau.push_mark.Goals as goal

pub loop-slack-preserved : goal.loop-slack-preserved
loop-slack-preserved c =
    let number : to_z w128 (of_z w128 c.from.result) ≡ at (mark c.args.places c.args.place) c.loop-slack.slack =
    grind (arith, ints, c.from.ensures, at-mark c.args.places c.args.place c.loop-slack.slack c.loop-slack-test.true) in
    ap (λ t. t ++ drop (c.loop-slack.slack + 1) (mark c.args.places c.args.place)) c.in_ok-push.ensures.items
    ∙ append_assoc c.loop-slack.numbers.items (to_z w128 (of_z w128 c.from.result) ∷ []) (drop (c.loop-slack.slack + 1) (mark c.args.places c.args.place))
    ∙ ap (λ t. c.loop-slack.numbers.items ++ (t ∷ drop (c.loop-slack.slack + 1) (mark c.args.places c.args.place))) number
    ∙ ap (λ t. c.loop-slack.numbers.items ++ t) (sym (drop-mark c.args.places c.args.place c.loop-slack.slack c.loop-slack-test.true))
    ∙ c.loop-slack.invariant

pub returns : goal.returns
returns c =
    let h : c.args.places ≤ c.loop-slack.slack = omega arith in
    sym (append-nil c.loop-slack.numbers.items)
    ∙ ap (λ t. c.loop-slack.numbers.items ++ t) (sym (drop-mark_all c.args.places c.args.place c.loop-slack.slack h)) ∙ c.loop-slack.invariant
