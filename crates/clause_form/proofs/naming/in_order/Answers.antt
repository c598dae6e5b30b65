use Rattle.std.proofs.Common.{rules}
use Rattle.std.proofs.lemmas.Fn.{dedup_same}
use Rattle.std.proofs.lemmas.List.Sorted.{answers_always}
use Rattle.clause_form.proofs.SortLaws.{row_below, rows_order, same_row, rows_once}
use Rattle.clause_form.proofs.naming.in_order.Goals as goal

pub returns : goal.returns
returns c = rows_once _ _ _ c.sort_unstable_by.ensures.permutation
    (c.sort_unstable_by.ensures.sorted row_below rows_order (answers_always _ _ _ (λ f a r g h. search rules)))
    (dedup_same _ same_row _ (λ x y b f' x' y' k. search rules) _ _ c.dedup_by.ensures.filtered)
