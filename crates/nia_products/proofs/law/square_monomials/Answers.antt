use Rattle.mm_poly.specs.Mono.{mono_cmp}
use Rattle.mm_poly.proofs.OrderLaws.{mono_total, mono_exact}
use Rattle.cert_kit.proofs.OrderedLaws.{in_order_rises, any_in_order}
use Rattle.nia_products.specs.Squares.{row_squares}
use Rattle.nia_products.proofs.law.square_monomials.Goals as goal

pub returns-clause-rise : goal.returns-clause-rise
returns-clause-rise c = λ rows. in_order_rises mono_cmp mono_total (row_squares rows)

pub returns-clause-same : goal.returns-clause-same
returns-clause-same c = λ rows test. any_in_order mono_cmp test mono_exact (row_squares rows)
