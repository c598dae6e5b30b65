use Rattle.std.proofs.Common.{◌≡◌, [], ◌+◌, true, false, subst, sym, ◌∙◌, arith}
use Rattle.std.proofs.lemmas.List.{get_or_read}
use Rattle.simplex_core.specs.Walk.{IsBroken}
use Rattle.simplex_core.specs.machine.Tableau.{line_at}
use Rattle.simplex_core.proofs.ChoiceLaws.{IsBest, best_skip, best_take, best_end}
use Rattle.simplex_core.proofs.choice.least_broken.Goals as goal
use Rattle.simplex_core.proofs.choice.least_broken.Goals.{then-is_broken, else-is_broken}
use Rattle.mm_num.proofs.BoolLaws.{never}

pub loop-place-preserved : goal.loop-place-preserved
loop-place-preserved c =
    let here : c.index-lines-place.result ≡ line_at c.args.lines.now c.loop-place.place =
    get_or_read c.args.lines.now c.loop-place.place c.index-lines-place.result c.loop-place-test.true c.index-lines-place.is (0, []) in
    let n = c.args.unknowns in
    let rows = c.args.rows.now in
    let form = c.args.lines.now in
    elim c.if-is_broken.branch [
      | then-is_broken w ↦
          let broken : IsBroken n rows (line_at form c.loop-place.place) = subst (IsBroken n rows) here (c.is_broken.ensures.0 w.if-is_broken.true) in
          subst (IsBest n rows form (c.loop-place.place + 1)) (sym w.best-is)
          (best_take n rows form c.loop-place.place w.lesser.result c.loop-place.best c.loop-place.invariant broken w.lesser.ensures)
      | else-is_broken w ↦
          let whole : IsBroken n rows (line_at form c.loop-place.place) → ⊥ = λ b. never (sym w.if-is_broken.false ∙ c.is_broken.ensures.1 (subst (IsBroken n rows) (sym here) b)) in
          subst (IsBest n rows form (c.loop-place.place + 1)) (sym w.best-is)
          (best_skip n rows form c.loop-place.place c.loop-place.best c.loop-place.invariant whole)
    ]

pub returns : goal.returns
returns c =
    best_end c.args.unknowns c.args.rows.now c.args.lines.now c.loop-place.place c.loop-place.best c.loop-place.invariant (omega arith)
