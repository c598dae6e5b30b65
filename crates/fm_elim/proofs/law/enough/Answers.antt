use Rattle.mm_poly.specs.Poly.{Fits}
use Rattle.cert_kit.specs.declared.row.PRow.{PRow}
use Rattle.fm_elim.proofs.ListLaws.{all_with}
use Rattle.fm_elim.proofs.TidyLaws.{IsPolyRow}
use Rattle.fm_elim.proofs.FuelLaws.{steps_suffice}
use Rattle.fm_elim.proofs.law.enough.Goals as goal

pub returns : goal.returns
returns c = λ rows kept k a e. steps_suffice rows kept k (all_with (λ (r : PRow). Fits r.poly) IsPolyRow rows (λ r h. h.order) a) e
