use Rattle.std.proofs.Common.{rules}
use Rattle.std.proofs.lemmas.List.Sorted.{answers_always}
use Rattle.fm_elim.specs.machine.Tidying.{rows_of}
use Rattle.fm_elim.proofs.ExactLaws.{comes_before, monomials_order, ordered}
use Rattle.fm_elim.proofs.exact.terms_in_order.Goals as goal

pub returns : goal.returns
returns c = ordered (rows_of c.args.rows.now) c.in_ok-terms.terms.items c.sort_unstable_by.new.self.items c.in_ok-terms.ensures c.sort_unstable_by.ensures.permutation
    (c.sort_unstable_by.ensures.sorted comes_before monomials_order (answers_always _ _ _ (λ f a r g h. search rules)))
