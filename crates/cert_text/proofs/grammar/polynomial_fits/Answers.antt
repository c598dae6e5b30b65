use Rattle.mm_poly.proofs.TestLaws.{fits_from}
use Rattle.cert_text.proofs.grammar.polynomial_fits.Goals as goal

pub returns-clause-test : goal.returns-clause-test
returns-clause-test c = fits_from c.args.poly.now c.spread.ensures.fits
