use Rattle.std.proofs.Common.{length}
use Rattle.mm_poly.specs.Renaming.{by_table}
use Rattle.mm_poly.proofs.RenamingLaws.{value_renamed, rising_renamed, rising_norm, rising_spread, rising_degree}
use Rattle.mm_poly.proofs.laws.renaming.Goals as goal

pub returns-clause-value : goal.returns-clause-value
returns-clause-value c = λ x. value_renamed x (by_table c.args.table.now) c.args.p.now

pub returns-clause-rising : goal.returns-clause-rising
returns-clause-rising c = λ up. rising_renamed (length c.args.table.now) (by_table c.args.table.now) c.args.p.now up c.requires c.spread.ensures.fits.monos c.spread.ensures.fits.order

pub returns-clause-norm : goal.returns-clause-norm
returns-clause-norm c = λ up. rising_norm (length c.args.table.now) (by_table c.args.table.now) c.args.p.now up c.requires c.spread.ensures.fits.monos c.spread.ensures.fits.order

pub returns-clause-spread : goal.returns-clause-spread
returns-clause-spread c = λ up. rising_spread (length c.args.table.now) (by_table c.args.table.now) c.args.p.now up c.requires c.spread.ensures.fits.monos c.spread.ensures.fits.order

pub returns-clause-degree : goal.returns-clause-degree
returns-clause-degree c = λ up. rising_degree (length c.args.table.now) (by_table c.args.table.now) c.args.p.now up c.requires c.spread.ensures.fits.monos c.spread.ensures.fits.order
