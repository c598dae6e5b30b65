use Rattle.std.specs.Prelude.{◌≡◌, ◌+◌, ◌*◌, ◌^◌, ◌<◌, ◌≤◌, ◌++◌, drop}
use Rattle.mm_poly.specs.Poly.{norm, degree}
use Rattle.mm_poly.specs.Product.{all_products}
use Rattle.mm_poly.proofs.product.products.Given as goal

-- what is out, and the products of the terms that are left
abbrev pub invariant-loop-first : goal.invariant-loop-first
invariant-loop-first l = (l.out.items ++ all_products (drop l.first-index l.left) l.right ≡ all_products l.left l.right)
    × (norm (drop l.first-index l.left) * norm l.right < 2 ^ 126)
    × (degree (drop l.first-index l.left) + degree l.right ≤ 255)
