use Rattle.std.proofs.Common.{[], ◌++◌, ap}
use Rattle.cert_kit.proofs.KeyLaws.{one_key}
use Rattle.cert_kit.proofs.key.one_key.Goals as goal

pub returns : goal.returns
returns c = λ e. (one_key c.args.rows.now c.args.others.now [] [] (c.requires.rows, c.have_bounds.ensures) (c.requires.others, c.have_bounds-2.ensures) (ap (λ t. t ++ []) e)).0
