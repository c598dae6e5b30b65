use Rattle.std.proofs.Common.{arith}
use Rattle.std.proofs.lemmas.Result.{err_from_is_err_and}
use Rattle.cert_kit.specs.Bytes.{factor_bytes}
use Rattle.cert_kit.proofs.SinkLaws.{one_refused}
use Rattle.cert_kit.proofs.bytes.put_factors.Goals as goal

pub returns-in_err-put_factor-clause-refused : goal.returns-in_err-put_factor-clause-refused
returns-in_err-put_factor-clause-refused g c =
    let p = err_from_is_err_and c.from_residual.result c.from_residual.ensures.1 in
    rw p.1 (one_refused g.S.ByteSink.took g.S.ByteSink.refuses g.met.S.ByteSink.at_once g.met.S.ByteSink.later factor_bytes c.args.factors.now c.loop-factor.factor-index (0, 0) c.args.sink.now c.loop-factor.sink (omega arith) c.loop-factor.invariant c.in_err-put_factor.ensures.refused)
