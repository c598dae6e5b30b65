use Rattle.std.proofs.Common.{◌<◌, ◌+◌, ◌-◌, length, take, drop, arith}
use Rattle.nia_products.specs.Products.{pairs_with, pairs, pair_row, pair_source}
use Rattle.nia_products.specs.machine.Lending.{factor_of, lent_factors}
use Rattle.nia_products.proofs.ProductLaws.{pairs_at, given_more}
use Rattle.nia_products.proofs.products.push_products.Goals as goal

pub loop-n-preserved : goal.loop-n-preserved
loop-n-preserved c =
    let fs = c.args.factors.now in
    let n = c.loop-n.n in
    let f = c.index-factors-n.result in
    let l : c.loop-n.n < length c.args.factors.now = omega arith in
    let p = pairs_at fs n f l c.index-factors-n.is in
    let some = pairs_with (factor_of f) (lent_factors (take (length fs - n) (drop n fs))) in
    let others = pairs (lent_factors (drop (n + 1) fs)) in
    let all = pairs (lent_factors (drop n fs)) in
    record {
      rows = given_more pair_row _ _ _ all some others c.loop-n.invariant.rows p c.in_ok-push_products_with.ensures.rows;
      sources = given_more pair_source _ _ _ all some others c.loop-n.invariant.sources p c.in_ok-push_products_with.ensures.sources;
    }
