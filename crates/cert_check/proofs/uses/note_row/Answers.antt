use Rattle.std.proofs.Common.{◌∙◌, max, ap, arith}
use Rattle.cert_check.proofs.UseLaws.{row_early, row_past, row_within}
use Rattle.cert_check.proofs.uses.note_row.Goals.{then-n-first-via-then-n-first, then-n-first-via-else-n-first+then-n-first-2}
use Rattle.cert_check.proofs.uses.note_row.Goals as goal

pub returns-then-n-first : goal.returns-then-n-first
returns-then-n-first c = elim c.then-n-first.branch [
  | then-n-first-via-then-n-first w ↦ row_early c.args.first c.args.time c.args.n c.args.times.now.items (omega arith)
  | then-n-first-via-else-n-first+then-n-first-2 w ↦ row_past c.args.first c.args.time c.args.n c.args.times.now.items (omega arith) (omega arith)
]

pub returns : goal.returns
returns c = row_within c.args.first c.args.time c.args.n c.index.result.now _ c.args.times.now.items (omega arith) (omega arith)
    (c.max.ensures ∙ ap (λ x. max x c.args.time) c.index.ensures)
