use Rattle.std.specs.Prelude.{◌≡◌, ◌+◌, ◌*◌, ◌^◌, ◌<◌, ◌≤◌, ◌++◌, drop, unsigned_abs}
use Rattle.mm_poly.specs.Mono.{mono_degree}
use Rattle.mm_poly.specs.Poly.{norm, degree}
use Rattle.mm_poly.specs.Product.{term_products}
use Rattle.mm_poly.proofs.product.push_products.Given as goal

-- what is out, and the products with the terms that are left
abbrev pub invariant-loop-second : goal.invariant-loop-second
invariant-loop-second l = (l.out.items ++ term_products l.first (drop l.second-index l.right) ≡ l.fn.out.items ++ term_products l.first l.right)
    × (unsigned_abs l.first.coeff * norm (drop l.second-index l.right) < 2 ^ 126)
    × (mono_degree l.first.mono + degree (drop l.second-index l.right) ≤ 255)
