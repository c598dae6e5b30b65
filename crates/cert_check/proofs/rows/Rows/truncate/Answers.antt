use Rattle.std.proofs.Common.{List, ◌++◌, take, ap, ◌∙◌}
use Rattle.cert_kit.specs.declared.row.PRow.{PRow}
use Rattle.cert_check.proofs.RowsLaws.{take_past}
use Rattle.cert_check.proofs.rows.Rows.truncate.Goals as goal

pub returns-else-len-given : goal.returns-else-len-given
returns-else-len-given c =
    ap (λ (rows : List PRow). c.self.inside.given.now ++ rows) c.truncate.ensures.items
    ∙ take_past c.self.inside.given.now c.self.inside.more.items c.args.len c.if-len-given.false
    ∙ ap (λ (rows : List PRow). take c.args.len rows) c.self.view_is
