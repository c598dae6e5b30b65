use Rattle.std.proofs.Common.{◌∙◌, ap, rules}
use Rattle.std.specs.List.{list_all}
use Rattle.std.proofs.lemmas.Fn.{dedup_same}
use Rattle.std.proofs.lemmas.List.Sorted.{answers_always}
use Rattle.nia_products.specs.Squares.{is_square}
use Rattle.nia_products.proofs.OrderLaws.{comes_before, is_same, monomials_order, once, squares_pass}
use Rattle.nia_products.proofs.squares.squares.Goals as goal

pub returns : goal.returns
returns c =
    let sorted = c.sort_unstable_by.ensures.sorted comes_before monomials_order (answers_always _ _ _ (λ f a r g h. search rules)) in
    let kept = dedup_same _ is_same _ (λ x y b f' x' y' k. search rules) _ _ c.dedup_by.ensures.filtered in
    let value = once c.args.rows.now c.in_ok-monos.monos.items c.sort_unstable_by.new.self.items c.dedup_by.new.self.items c.in_ok-monos.ensures c.sort_unstable_by.ensures.permutation sorted kept in
    record { value = value; even = ap (list_all is_square) value ∙ squares_pass c.args.rows.now }
