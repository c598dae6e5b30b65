use Rattle.std.proofs.Common.{◌≡◌, ◌<◌, ◌+◌, ◌-◌, ◌^◌, pos, ◌<ℤ◌, unsigned_abs, length, take, drop, ap, sym, ◌∙◌, arith}
use Rattle.std.proofs.lemmas.Int.{ints}
use Rattle.std.proofs.lemmas.List.Elements.{All-get_or}
use Rattle.std.proofs.lemmas.Result.{IfOk-weaker}
use Rattle.simplex_core.specs.Form.{at}
use Rattle.simplex_core.specs.machine.Tableau.{negated, slacks_of}
use Rattle.simplex_core.proofs.ExchangeSteps.{turned_below}
use Rattle.simplex_core.proofs.FarkasLaws.{slacks_of-negated}
use Rattle.simplex_core.proofs.answer.multipliers.Goals as goal

pub returns-then-numbers-unknowns-lt0 : goal.returns-then-numbers-unknowns-lt0
returns-then-numbers-unknowns-lt0 c =
    let n = c.args.unknowns in
    let m = c.args.slacks in
    let cs = c.args.line.now.1 in
    let inside : n + m < length cs = (let q = c.requires.placed.0 in omega (arith, q)) in
    let bound : unsigned_abs (at cs (n + m)) < 2 ^ 30 = All-get_or (λ z. unsigned_abs z < 2 ^ 30) cs (n + m) (pos 0) inside c.requires.narrow in
    let same : at c.numbers-numbers.result.now (n + m) ≡ at cs (n + m) = ap (λ ds. at ds (n + m)) c.numbers-numbers.ensures in
    let below : at cs (n + m) <ℤ pos 0 = grind (arith, ints, same, bound, c.if-numbers-unknowns-lt0.true) in
    IfOk-weaker c.negated.result _ _
    (λ ms e. e ∙ ap (λ ds. negated (take (n + m - n) (drop n ds))) c.numbers-numbers.ensures ∙ slacks_of-negated n m cs ∙ ap (slacks_of n m) (sym (turned_below (n + m) cs below)))
    c.negated.ensures
