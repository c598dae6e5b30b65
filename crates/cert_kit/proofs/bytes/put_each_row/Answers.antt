use Rattle.std.proofs.Common.{arith}
use Rattle.std.proofs.lemmas.Result.{err_from_is_err_and}
use Rattle.cert_kit.specs.Bytes.{row_bytes}
use Rattle.cert_kit.proofs.SinkLaws.{item_refused}
use Rattle.cert_kit.proofs.bytes.put_each_row.Goals as goal

pub returns-in_err-put_row-clause-refused : goal.returns-in_err-put_row-clause-refused
returns-in_err-put_row-clause-refused g c =
    let p = err_from_is_err_and c.from_residual.result c.from_residual.ensures.1 in
    rw p.1 (item_refused g.S.ByteSink.took g.S.ByteSink.refuses g.met.S.ByteSink.at_once g.met.S.ByteSink.later row_bytes c.args.rows.now c.loop-row.row-index c.row-item.result c.args.sink.now c.loop-row.sink (omega arith) c.row-item.is c.loop-row.invariant c.in_err-put_row.ensures.refused)
