use Rattle.std.proofs.Common.{◌≡◌, ◌<◌, [], length, ap, ◌∙◌, arith}
use Rattle.std.proofs.lemmas.List.{get_or_default}
use Rattle.simplex_core.specs.machine.Tableau.{swept_by, line_at, IsSweepable}
use Rattle.simplex_core.proofs.LoopLaws.{mapping_step}
use Rattle.simplex_core.proofs.exchange.sweep_all.Goals as goal

pub loop-line-preserved : goal.loop-line-preserved
loop-line-preserved c =
    let lt : c.loop-line.line-index < length c.loop-line.lines = omega arith in
    let e : c.sweep.new.self ≡ swept_by c.args.variable c.args.pivot.now (line_at c.loop-line.lines c.loop-line.line-index) =
    c.sweep.ensures ∙ ap (swept_by c.args.variable c.args.pivot.now) (get_or_default c.loop-line.lines c.loop-line.line-index c.line-item.result (0, []) lt) in
    mapping_step (swept_by c.args.variable c.args.pivot.now) (IsSweepable (length c.args.pivot.now)) c.loop-line.lines c.args.lines.now c.loop-line.line-index (0, [])
    c.sweep.new.self c.loop-line.invariant lt e
