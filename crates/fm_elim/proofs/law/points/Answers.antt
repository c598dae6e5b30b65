use Rattle.mm_poly.specs.Poly.{Fits}
use Rattle.cert_kit.specs.declared.row.PRow.{PRow}
use Rattle.fm_elim.proofs.ListLaws.{all_with}
use Rattle.fm_elim.proofs.TidyLaws.{IsPolyRow}
use Rattle.fm_elim.proofs.EndLaws.{point_values, point_solves}
use Rattle.fm_elim.proofs.law.points.Goals as goal

pub returns-clause-values : goal.returns-clause-values
returns-clause-values c = λ rows a p. (point_values rows (all_with (λ (r : PRow). Fits r.poly) IsPolyRow rows (λ r h. h.order) a) p).hold

pub returns-clause-linear : goal.returns-clause-linear
returns-clause-linear c = point_solves
