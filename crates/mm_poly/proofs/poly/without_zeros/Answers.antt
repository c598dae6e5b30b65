use Rattle.std.proofs.Common.{rules, pos, not}
use Rattle.std.specs.Ordering.{int_eq}
use Rattle.std.proofs.lemmas.Fn.{filter_same}
use Rattle.mm_poly.specs.declared.term.Term.{Term}
use Rattle.mm_poly.proofs.poly.without_zeros.Goals as goal

pub returns : goal.returns
returns c = filter_same _ (λ (t : Term). not (int_eq t.coeff (pos 0))) _ (λ x b f' k. search rules) _ _ c.retain.ensures.filtered
