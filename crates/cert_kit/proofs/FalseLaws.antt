-- A row that is constant and false has one term.
use Rattle.std.specs.Prelude.{◌≡◌, ◌≢◌, ℕ, List, [], ◌∷◌, length, Bool, true, false, ◌&&◌, refl, Some, slice_get}
use Rattle.std.proofs.Common.{ap, arith}
use Rattle.std.specs.declared.cmp.Ordering.TheVariants.{Less}
use Rattle.mm_poly.specs.declared.term.Term.{Term}
use Rattle.mm_poly.specs.Mono.{mono_cmp, is_constant}
use Rattle.mm_poly.specs.Poly.{IsPoly, constant_part, without_constant}
use Rattle.cert_kit.specs.declared.row.Op.{Op}
use Rattle.cert_kit.specs.declared.row.Op.TheVariants.{Ge, Eq}
use Rattle.cert_kit.specs.Row.{is_false_constant, has_no_terms, is_false}

constant_is : (m : List (ℕ × ℕ)) → is_constant m ≡ true → m ≡ []
constant_is [] h = refl
constant_is (f ∷ fs) h = cc

-- a list of one term
pub lone : (p : List Term) (t : Term) → length p ≡ 1 → slice_get p 0 ≡ Some t → p ≡ t ∷ []
lone [] t h e = absurd (omega arith)
lone (u ∷ []) t h e = cc
lone (u ∷ v ∷ us) t h e = absurd (omega arith)

no_terms : (o : Op) → is_false (record { poly = []; op = o }) ≡ false
no_terms Ge = refl
no_terms Eq = refl

not_both : (m n : List (ℕ × ℕ)) → m ≡ [] → n ≡ [] → mono_cmp m n ≡ Less → ⊥
not_both [] [] p q h = cc
not_both (f ∷ fs) n p q h = cc
not_both [] (f ∷ fs) p q h = cc

-- of two terms in order one isn't constant
has_terms : (t u : Term) (us : List Term) (a b : Bool) → is_constant t.mono ≡ a → is_constant u.mono ≡ b
    → mono_cmp t.mono u.mono ≡ Less → has_no_terms (without_constant (t ∷ u ∷ us)) ≡ false
has_terms t u us false b p q h = rw (p) refl
has_terms t u us true false p q h = rw (p, q) refl
has_terms t u us true true p q h = absurd (not_both t.mono u.mono (constant_is t.mono p) (constant_is u.mono q) h)

-- a polynomial without exactly one term isn't a false constant
pub not_lone : (p : List Term) (o : Op) → IsPoly p → length p ≢ 1 → is_false (record { poly = p; op = o }) ≡ false
not_lone [] o h n = no_terms o
not_lone (t ∷ []) o h n = absurd (n refl)
not_lone (t ∷ u ∷ us) o h n =
    ap (λ b. b && is_false_constant o (constant_part (t ∷ u ∷ us))) (has_terms t u us _ _ refl refl h.1.0)
