-- Fractions, as numerators over one common denominator.
use Rattle.std.specs.Prelude.{ℤ, pos, ◌*ℤ◌, List, [], ◌∷◌, map}

-- the product of the denominators
abbrev pub denominator : List (ℤ × ℤ) → ℤ
denominator [] = pos 1
denominator (x ∷ xs) = x.1 *ℤ denominator xs

-- the numerators over it
abbrev pub numerators : List (ℤ × ℤ) → List ℤ
numerators [] = []
numerators (x ∷ xs) = (x.0 *ℤ denominator xs) ∷ map (λ n. x.1 *ℤ n) (numerators xs)
