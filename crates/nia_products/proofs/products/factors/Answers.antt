use Rattle.std.proofs.Common.{◌≡◌, length, drop, arith}
use Rattle.nia_products.specs.Products.{factors_from}
use Rattle.nia_products.proofs.ProductLaws.{full}
use Rattle.nia_products.proofs.products.factors.Goals as goal

pub returns-then-len-eq-MOST_FACTORS : goal.returns-then-len-eq-MOST_FACTORS
returns-then-len-eq-MOST_FACTORS c =
    let t = c.if-len-eq-MOST_FACTORS.true in
    let e = c.len.ensures in
    let l : length c.loop-n.factors.items ≡ 20 = omega (arith, t, e) in
    full c.loop-n.factors.items (factors_from c.loop-n.n (drop c.loop-n.n c.args.rows.now)) (factors_from 0 c.args.rows.now) c.loop-n.invariant.whole l
