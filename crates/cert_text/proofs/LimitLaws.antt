-- Factors that pass the test are made a monomial, and terms that pass it a polynomial.
use Rattle.std.proofs.Common.{◌≡◌, ℕ, true, false, List, Option, Some, None, Result, Ok, Err, refl, ap}
use Rattle.std.specs.Prelude.{◌↔◌, IsSome, IfSome, ok_or}
use Rattle.std.proofs.lemmas.Bool.{false_from_ne_true}
use Rattle.mm_poly.specs.declared.term.Term.{Term}
use Rattle.mm_poly.specs.Mono.{IsMonomial}
use Rattle.mm_poly.specs.Poly.{Fits}
use Rattle.mm_poly.specs.Tests.{is_monomial, is_polynomial}
use Rattle.mm_poly.proofs.TestLaws.{monomial_given, monomial_from, fits_given, fits_from}
use Rattle.cert_text.specs.declared.fail.TextFail.{TextFail}
use Rattle.cert_text.specs.declared.fail.TextFail.TheVariants.{Bad}
use Rattle.cert_text.specs.Reading.{Gives, rising, fitting}

not_fit : (ts : List Term) → (Fits ts → ⊥) → is_polynomial ts ≡ false
not_fit ts other = false_from_ne_true (is_polynomial ts) (λ e. other (fits_given ts e))

-- a polynomial that is made of terms that fit, and of no others
pub from_terms_gives : (ts : List Term) (made : Option (List Term)) (r : Result (List Term) TextFail) → (IsSome made ↔ Fits ts) → IfSome made (λ p. p ≡ ts) → r ≡ ok_or made Bad → Gives (λ p. p) r (fitting ts)
from_terms_gives ts (Some p) (Ok q) some value e =
    let fits : is_polynomial ts ≡ true = fits_from ts (some.0 refl) in
    let same : p ≡ ts = value in
    rw fits (ap (λ t. Some t) (cc))
from_terms_gives ts None (Err f) some value e =
    let fits : is_polynomial ts ≡ false = not_fit ts (λ h. absurd (let none = some.1 h in cc)) in
    let bad : f ≡ Bad = cc in
    rw (bad, fits) refl
from_terms_gives ts (Some p) (Err f) some value e = absurd cc
from_terms_gives ts None (Ok q) some value e = absurd cc

not_monomial : (fs : List (ℕ × ℕ)) → (IsMonomial fs → ⊥) → is_monomial fs ≡ false
not_monomial fs other = false_from_ne_true (is_monomial fs) (λ e. other (monomial_given fs e))

-- a monomial that is made of factors that rise, and of no others
pub from_factors_gives : (fs : List (ℕ × ℕ)) (made : Option (List (ℕ × ℕ))) (r : Result (List (ℕ × ℕ)) TextFail) → (IsSome made ↔ IsMonomial fs) → IfSome made (λ m. m ≡ fs) → r ≡ ok_or made Bad
    → Gives (λ m. m) r (rising fs)
from_factors_gives fs (Some p) (Ok q) some value e =
    let good : is_monomial fs ≡ true = monomial_from fs (some.0 refl) in
    let same : p ≡ fs = value in
    rw good (ap (λ t. Some t) (cc))
from_factors_gives fs None (Err f) some value e =
    let good : is_monomial fs ≡ false = not_monomial fs (λ h. absurd (let none = some.1 h in cc)) in
    let bad : f ≡ Bad = cc in
    rw (bad, good) refl
from_factors_gives fs (Some p) (Err f) some value e = absurd cc
from_factors_gives fs None (Ok q) some value e = absurd cc
