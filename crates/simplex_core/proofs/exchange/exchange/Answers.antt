use Rattle.std.proofs.Common.{◌≡◌, ℤ, List, [], length, drop, ap, sym, subst, ◌∙◌, arith}
use Rattle.std.proofs.lemmas.List.{get_or_read, take_at}
use Rattle.std.proofs.lemmas.List.Elements.{All-get_or}
use Rattle.std.specs.List.{insert, remove}
use Rattle.simplex_core.specs.Form.{Line}
use Rattle.simplex_core.specs.Walk.{AreNarrow}
use Rattle.simplex_core.specs.machine.Tableau.{turned, swept_all, line_at, IsSweepable}
use Rattle.simplex_core.proofs.ExchangeSteps.{turned_narrow, exchanged_at}
use Rattle.simplex_core.proofs.exchange.exchange.Goals as goal

pub sweep_all-requires-clause-pivot : goal.sweep_all-requires-clause-pivot
sweep_all-requires-clause-pivot c =
    let form = c.args.lines.now.items in
    let here : c.remove-pivot.result ≡ line_at form c.args.place =
    get_or_read form c.args.place c.remove-pivot.result c.requires.inside c.remove-pivot.ensures.value (0, []) in
    let narrow : AreNarrow (line_at form c.args.place).1 =
    (All-get_or (IsSweepable (length (line_at form c.args.place).1)) form c.args.place (0, []) c.requires.inside c.requires.sweepable).narrow in
    let turned_line : c.numbers.result.now ≡ turned c.args.enters (line_at form c.args.place).1 =
    c.numbers.ensures ∙ ap (λ (l : Line). l.1) c.solve_for.ensures ∙ ap (λ (l : Line). turned c.args.enters l.1) here in
    subst AreNarrow (sym turned_line) (turned_narrow c.args.enters (line_at form c.args.place).1 narrow)

pub returns : goal.returns
returns c =
    let form = c.args.lines.now.items in
    let here : c.remove-pivot.result ≡ line_at form c.args.place =
    get_or_read form c.args.place c.remove-pivot.result c.requires.inside c.remove-pivot.ensures.value (0, []) in
    let pivot : List ℤ = turned c.args.enters (line_at form c.args.place).1 in
    let solved : c.solve_for.new.self ≡ (c.args.enters, turned c.args.enters (line_at form c.args.place).1) =
    c.solve_for.ensures ∙ ap (λ (l : Line). (c.args.enters, turned c.args.enters l.1)) here in
    let swept : c.sweep_all.new.lines ≡ swept_all c.args.enters (turned c.args.enters (line_at form c.args.place).1) (remove form c.args.place) =
    c.sweep_all.ensures
    ∙ ap (λ p. swept_all c.args.enters p c.deref_mut.result.now) (c.numbers.ensures ∙ ap (λ (l : Line). l.1) solved)
    ∙ ap (swept_all c.args.enters (turned c.args.enters (line_at form c.args.place).1)) (c.deref_mut.ensures.value ∙ c.remove-pivot.ensures.items) in
    let size : length c.sweep_all.new.lines ≡ c.remove-pivot.new.self.len = (let q = c.deref_mut.ensures.len in let r = c.sweep_all.auto.lines in omega (arith, q, r)) in
    c.in_ok-insert.ensures.items
    ∙ ap (λ xs. insert xs c.args.place c.solve_for.new.self)
    (take_at c.sweep_all.new.lines (drop (length c.sweep_all.new.lines) c.remove-pivot.new.self.items) c.remove-pivot.new.self.len size ∙ swept)
    ∙ ap (insert (swept_all c.args.enters (turned c.args.enters (line_at form c.args.place).1) (remove form c.args.place)) c.args.place) solved
    ∙ exchanged_at form c.args.place c.args.enters (turned c.args.enters (line_at form c.args.place).1) c.requires.inside c.requires.distinct
