-- Monomials and inequalities that are lent.
use Rattle.std.specs.Prelude.{ℕ, List, map}
use Rattle.std.specs.Borrow.{Bor}
use Rattle.nia_products.specs.declared.numbered.Numbered.{Numbered}
use Rattle.nia_products.specs.Products.{Factor}

abbrev pub lent : List (Bor (List (ℕ × ℕ))) → List (List (ℕ × ℕ))
lent ms = map (λ m. m.now) ms

abbrev pub factor_of : Numbered → Factor
factor_of f = record { number = f.number; poly = f.poly.now }

abbrev pub lent_factors : List Numbered → List Factor
lent_factors fs = map factor_of fs
