-- A common denominator, and the numerators over it.
use Rattle.std.specs.Prelude.{◌≡◌, ℤ, pos, ◌*ℤ◌, ◌<ℤ◌, List, [], ◌∷◌, length, suc, refl}
use Rattle.std.proofs.Common.{ap, ◌∙◌, arith}
use Rattle.std.proofs.lemmas.Int.{ints}
use Rattle.std.proofs.lemmas.List.{length-map}
use Rattle.std.specs.List.{AllByRecursion}
use Rattle.mm_num.specs.Frac.{IsFraction}
use Rattle.mm_num.proofs.Ring.{product_positive}
use Rattle.farkas_rows.specs.Fractions.{denominator, numerators}

pub length-numerators : (xs : List (ℤ × ℤ)) → length (numerators xs) ≡ length xs
length-numerators [] = refl
length-numerators (x ∷ xs) = ap suc (length-map (numerators xs) (λ z. x.1 *ℤ z) ∙ length-numerators xs)

pub positive_denominator : (xs : List (ℤ × ℤ)) → AllByRecursion IsFraction xs → pos 0 <ℤ denominator xs
positive_denominator [] a = omega (arith, ints)
positive_denominator (x ∷ xs) a = product_positive x.1 (denominator xs) a.0.positive (positive_denominator xs a.1)
