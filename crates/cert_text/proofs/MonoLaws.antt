-- A monomial that is read is spelled so, and a monomial that is spelled so is read.
use Rattle.std.proofs.Common.{◌≡◌, ℕ, ◌^◌, ◌<◌, ◌≤◌, Bool, true, false, cond, eqb, inl, inr, List, [], ◌∷◌, ◌++◌, length, Some, None, refl, sym, ap, subst, ◌∙◌, append_assoc, arith}
use Rattle.std.specs.Prelude.{◌&&◌, not, decimal, codes}
use Rattle.std.specs.List.{flat_map, AllByRecursion}
use Rattle.std.proofs.lemmas.Bool.{ne_eqb, cases_eq, and_parts, not-true}
use Rattle.std.proofs.lemmas.Option.{same_Some}
use Rattle.mm_num.specs.Option.{◌>>=◌}
use Rattle.mm_num.proofs.OptionLaws.{bind_some, choice_some}
use Rattle.mm_poly.specs.Mono.{IsMono, IsMonomial, VarsBelow, mono_degree}
use Rattle.cert_text.specs.Text.{factor_text, more_factors}
use Rattle.mm_poly.specs.Tests.{is_monomial}
use Rattle.cert_text.specs.Reading.{after, is_digit, number_at, positive_at, exponent_at, factor_at, more_factors_at, factors_at, rising, monomial_at}
use Rattle.cert_text.proofs.WordLaws.{guard_some, guard_none, after_takes}
use Rattle.cert_text.proofs.NumberLaws.{IsLimit, room, positive_takes, number_takes, positive_again, number_again, begins_digit}
use Rattle.mm_poly.proofs.TestLaws.{monomial_given, monomial_from}
use Rattle.mm_poly.proofs.MonoLaws.{length_below}
use Rattle.cert_text.proofs.ManyLaws.{AreTaken, AreRead, many_take, many_again, many_follow}

-- ---- what may follow

-- what may follow a factor: no digit and no ^
abbrev pub ends_factor : List ℕ → Bool
ends_factor [] = true
ends_factor (c ∷ rest) = not (is_digit c) && not (eqb c 94)

-- what may follow a term: no * either
abbrev pub ends_term : List ℕ → Bool
ends_term [] = true
ends_term (c ∷ rest) = (not (is_digit c) && not (eqb c 94)) && not (eqb c 42)

pub factor_ends : (rest : List ℕ) → ends_term rest ≡ true → ends_factor rest ≡ true
factor_ends [] e = refl
factor_ends (c ∷ rest) e = (and_parts (not (is_digit c) && not (eqb c 94)) (not (eqb c 42)) e).0

pub no_digit : (rest : List ℕ) → ends_factor rest ≡ true → begins_digit rest ≡ false
no_digit [] e = refl
no_digit (c ∷ rest) e = not-true (is_digit c) (and_parts (not (is_digit c)) (not (eqb c 94)) e).0

no_power : (rest : List ℕ) → ends_factor rest ≡ true → after (codes "^") rest ≡ None
no_power [] e = refl
no_power (c ∷ rest) e =
    let other : eqb c 94 ≡ false = not-true (eqb c 94) (and_parts (not (is_digit c)) (not (eqb c 94)) e).1 in
    rw other refl

pub no_star : (rest : List ℕ) → ends_term rest ≡ true → after (codes "*x") rest ≡ None
no_star [] e = refl
no_star (c ∷ rest) e =
    let other : eqb c 42 ≡ false = not-true (eqb c 42) (and_parts (not (is_digit c) && not (eqb c 94)) (not (eqb c 42)) e).1 in
    rw other refl

-- ---- exponents

byte : IsLimit 256
byte = record { above = omega arith; small = omega arith }

-- an exponent, left out where it is 1
abbrev pub power_text : ℕ → List ℕ
power_text e = cond (eqb e 1) [] (codes "^" ++ decimal e)

power_written : (e : ℕ) (rest : List ℕ) → eqb e 1 ≡ false → power_text e ++ rest ≡ codes "^" ++ (decimal e ++ rest)
power_written e rest other = rw other refl

pub record TakesPower (bytes : List ℕ) (e : ℕ) (rest : List ℕ) : Type 0 where
  pub text : bytes ≡ power_text e ++ rest
  pub positive : 1 ≤ e
  pub small : e < 256

exponent_takes : (bytes : List ℕ) (e : ℕ) (rest : List ℕ) → exponent_at bytes ≡ Some (e, rest) → TakesPower bytes e rest
unfolding exponent_at
exponent_takes bytes e rest read =
    elim (choice_some (after (codes "^") bytes) (λ r. positive_at 256 r >>= λ e. cond (eqb e.0 1) None (Some (e.0, e.1))) (Some (1, bytes)) (e, rest) read) [
      | inl h ↦
          let a = bind_some (positive_at 256 h.0) (λ e. cond (eqb e.0 1) None (Some (e.0, e.1))) (e, rest) h.2 in
          let n = positive_takes 256 h.0 a.0.0 a.0.1 byte a.1 in
          let g = guard_none (eqb a.0.0 1) (Some (a.0.0, a.0.1)) (e, rest) a.2 in
          let number = n.0 in
          let text : bytes ≡ power_text a.0.0 ++ a.0.1 = after_takes (codes "^") bytes h.0 h.1 ∙ ap (λ t. codes "^" ++ t) number.text ∙ sym (power_written a.0.0 a.0.1 g.0) in
          subst (λ (p : ℕ × List ℕ). TakesPower bytes p.0 p.1) (same_Some (a.0.0, a.0.1) (e, rest) g.1) (record { text = text; positive = n.1; small = number.below })
      | inr h ↦ subst (λ (p : ℕ × List ℕ). TakesPower bytes p.0 p.1) (same_Some (1, bytes) (e, rest) h.1) (record { text = refl; positive = omega arith; small = omega arith })
    ]

exponent_again : (e : ℕ) (rest : List ℕ) → 1 ≤ e → e < 256 → ends_factor rest ≡ true → exponent_at (power_text e ++ rest) ≡ Some (e, rest)
unfolding exponent_at
exponent_again e rest positive below ends = elim (cases_eq e 1) [
  | inl one ↦
      let plain : exponent_at rest ≡ Some (1, rest) = rw (no_power rest ends) refl in
      subst (λ k. exponent_at (power_text k ++ rest) ≡ Some (k, rest)) (sym one) plain
  | inr other ↦
      let not_one : eqb e 1 ≡ false = ne_eqb e 1 other in
      let read : positive_at 256 (decimal e ++ rest) ≡ Some (e, rest) = positive_again 256 e rest byte (omega arith) below (no_digit rest ends) in
      ap exponent_at (power_written e rest not_one) ∙ rw read (rw not_one refl)
]

-- an exponent begins with no digit
power_no_digit : (e : ℕ) (rest : List ℕ) → ends_factor rest ≡ true → begins_digit (power_text e ++ rest) ≡ false
power_no_digit e rest ends = elim (eqb e 1) as (λ b. begins_digit (cond b [] (codes "^" ++ decimal e) ++ rest) ≡ false) [ true ↦ no_digit rest ends | false ↦ refl ]

-- ---- factors

pub record IsFactor (f : ℕ × ℕ) : Type 0 where
  pub positive : 1 ≤ f.1
  pub small : f.1 < 256
  pub room : f.0 < 2 ^ 32

factor_text_on : (f : ℕ × ℕ) (rest : List ℕ) → factor_text f ++ rest ≡ codes "x" ++ (decimal f.0 ++ (power_text f.1 ++ rest))
factor_text_on f rest = ap (λ t. 120 ∷ t) (append_assoc (decimal f.0) (power_text f.1) rest)

factor_takes : (bytes : List ℕ) (f : ℕ × ℕ) (rest : List ℕ) → factor_at bytes ≡ Some (f, rest) → (codes "x" ++ bytes ≡ factor_text f ++ rest) × IsFactor f
unfolding factor_at
factor_takes bytes f rest read =
    let a = bind_some (number_at (2 ^ 32) bytes) (λ v. exponent_at v.1 >>= λ e. Some ((v.0, e.0), e.1)) (f, rest) read in
    let b = bind_some (exponent_at a.0.1) (λ e. Some ((a.0.0, e.0), e.1)) (f, rest) a.2 in
    let v = number_takes (2 ^ 32) bytes a.0.0 a.0.1 room a.1 in
    let e = exponent_takes a.0.1 b.0.0 b.0.1 b.1 in
    let text : codes "x" ++ bytes ≡ factor_text (a.0.0, b.0.0) ++ b.0.1 = ap (λ t. 120 ∷ t) (v.text ∙ ap (λ t. decimal a.0.0 ++ t) e.text) ∙ sym (factor_text_on (a.0.0, b.0.0) b.0.1) in
    subst (λ (p : (ℕ × ℕ) × List ℕ). (codes "x" ++ bytes ≡ factor_text p.0 ++ p.1) × IsFactor p.0) (same_Some ((a.0.0, b.0.0), b.0.1) (f, rest) b.2)
    (text, record { positive = e.positive; small = e.small; room = v.below })

factor_again : (f : ℕ × ℕ) (rest : List ℕ) → IsFactor f → ends_factor rest ≡ true → factor_at (decimal f.0 ++ (power_text f.1 ++ rest)) ≡ Some (f, rest)
unfolding factor_at
factor_again f rest is ends =
    let v = number_again (2 ^ 32) f.0 (power_text f.1 ++ rest) room is.room (power_no_digit f.1 rest ends) in
    let e = exponent_again f.1 rest is.positive is.small ends in
    rw v (rw e refl)

abbrev pub next_factor : ℕ × ℕ → List ℕ
next_factor f = codes "*" ++ factor_text f

pub more_factors-flat : (fs : List (ℕ × ℕ)) → more_factors fs ≡ flat_map next_factor fs
more_factors-flat [] = refl
more_factors-flat (f ∷ fs) = ap (λ t. 42 ∷ (factor_text f ++ t)) (more_factors-flat fs)

next_factor_takes : (bytes m : List ℕ) (f : ℕ × ℕ) (rest : List ℕ) → after (codes "*x") bytes ≡ Some m → factor_at m ≡ Some (f, rest) → (bytes ≡ next_factor f ++ rest) × IsFactor f
next_factor_takes bytes m f rest marked read =
    let t = factor_takes m f rest read in
    (after_takes (codes "*x") bytes m marked ∙ ap (λ b. 42 ∷ b) t.0, t.1)

factors_taken : AreTaken (after (codes "*x")) factor_at next_factor IsFactor
factors_taken = record { takes = next_factor_takes }

-- bytes that may follow a factor
abbrev FactorEnds : List ℕ → Type 0
FactorEnds rest = ends_factor rest ≡ true

factors_read : AreRead (after (codes "*x")) factor_at next_factor IsFactor FactorEnds
factors_read = record {
  again = λ f rest is ends. (decimal f.0 ++ (power_text f.1 ++ rest), ap (λ t. after (codes "*x") (42 ∷ t)) (factor_text_on f rest), factor_again f rest is ends);
  goes_on = λ f rest is. refl;
}

-- ---- monomials

factors_of : (fs : List (ℕ × ℕ)) → IsMono fs → mono_degree fs ≤ 255 → VarsBelow (2 ^ 32) fs → AllByRecursion IsFactor fs
factors_of [] order flat room = tt
factors_of (f ∷ fs) order flat room = (record { positive = order.0; small = omega arith; room = room.0 }, factors_of fs order.2 (omega arith) room.1)

-- factors after their first x, nested to the right
abbrev pub factors_on : ℕ × ℕ → List (ℕ × ℕ) → List ℕ → List ℕ
factors_on f fs rest = decimal f.0 ++ (power_text f.1 ++ (flat_map next_factor fs ++ rest))

pub factors_text_on : (f : ℕ × ℕ) (fs : List (ℕ × ℕ)) (rest : List ℕ) → (factor_text f ++ more_factors fs) ++ rest ≡ codes "x" ++ factors_on f fs rest
factors_text_on f fs rest =
    append_assoc (factor_text f) (more_factors fs) rest ∙ ap (λ t. factor_text f ++ (t ++ rest)) (more_factors-flat fs) ∙ factor_text_on f (flat_map next_factor fs ++ rest)

-- a monomial that is no constant, as it is read
pub record TakesMonomial (bytes : List ℕ) (m : List (ℕ × ℕ)) (rest : List ℕ) : Type 0 where
  pub first : ℕ × ℕ
  pub others : List (ℕ × ℕ)
  pub is : first ∷ others ≡ m
  pub text : codes "x" ++ bytes ≡ (factor_text first ++ more_factors others) ++ rest
  pub good : IsMonomial m

factors_take : (bytes : List ℕ) (fs : List (ℕ × ℕ)) (rest : List ℕ) → factors_at bytes ≡ Some (fs, rest) → IsMonomial fs → TakesMonomial bytes fs rest
unfolding factors_at
factors_take bytes fs rest e =
    let a = bind_some (factor_at bytes) (λ first. more_factors_at 255 first.1 >>= λ others. Some (first.0 ∷ others.0, others.1)) (fs, rest) e in
    let b = bind_some (more_factors_at 255 a.0.1) (λ others. Some (a.0.0 ∷ others.0, others.1)) (fs, rest) a.2 in
    let first = factor_takes bytes a.0.0 a.0.1 a.1 in
    let others = many_take (after (codes "*x")) factor_at next_factor IsFactor factors_taken 255 a.0.1 b.0.0 b.0.1 b.1 in
    let flat : flat_map next_factor b.0.0 ++ b.0.1 ≡ more_factors b.0.0 ++ b.0.1 = ap (λ t. t ++ b.0.1) (sym (more_factors-flat b.0.0)) in
    let text : codes "x" ++ bytes ≡ (factor_text a.0.0 ++ more_factors b.0.0) ++ b.0.1 =
    first.0 ∙ ap (λ t. factor_text a.0.0 ++ t) (others.0 ∙ flat) ∙ sym (append_assoc (factor_text a.0.0) (more_factors b.0.0) b.0.1) in
    subst (λ (p : List (ℕ × ℕ) × List ℕ). IsMonomial p.0 → TakesMonomial bytes p.0 p.1) (same_Some (a.0.0 ∷ b.0.0, b.0.1) (fs, rest) b.2)
    (λ good. record { first = a.0.0; others = b.0.0; is = refl; text = text; good = good })

pub monomial_takes : (bytes : List ℕ) (m : List (ℕ × ℕ)) (rest : List ℕ) → monomial_at bytes ≡ Some (m, rest) → TakesMonomial bytes m rest
unfolding monomial_at
monomial_takes bytes m rest e =
    let a = bind_some (factors_at bytes) (λ factors. rising factors.0 >>= λ m. Some (m, factors.1)) (m, rest) e in
    let b = bind_some (rising a.0.0) (λ m. Some (m, a.0.1)) (m, rest) a.2 in
    let g = guard_some (is_monomial a.0.0) (Some a.0.0) b.0 b.1 in
    let same : a.0.0 ≡ b.0 = same_Some a.0.0 b.0 g.1 in
    subst (λ (p : List (ℕ × ℕ) × List ℕ). TakesMonomial bytes p.0 p.1) (ap (λ p. (p, a.0.1)) same ∙ same_Some (b.0, a.0.1) (m, rest) b.2)
    (factors_take bytes a.0.0 a.0.1 a.1 (monomial_given a.0.0 g.0))

factors_again : (f : ℕ × ℕ) (fs : List (ℕ × ℕ)) (rest : List ℕ) → AllByRecursion IsFactor (f ∷ fs) → length fs ≤ 255 → ends_term rest ≡ true → factors_at (factors_on f fs rest) ≡ Some (f ∷ fs, rest)
unfolding factors_at
factors_again f fs rest are few ends =
    let others : more_factors_at 255 (flat_map next_factor fs ++ rest) ≡ Some (fs, rest) =
    many_again (after (codes "*x")) factor_at next_factor IsFactor FactorEnds factors_read 255 fs rest few are.1 (factor_ends rest ends) (no_star rest ends) in
    let go_on : ends_factor (flat_map next_factor fs ++ rest) ≡ true = many_follow (after (codes "*x")) factor_at next_factor IsFactor FactorEnds factors_read fs rest are.1 (factor_ends rest ends) in
    let first = factor_again f (flat_map next_factor fs ++ rest) are.0 go_on in
    rw first (rw others refl)

pub monomial_again : (f : ℕ × ℕ) (fs : List (ℕ × ℕ)) (rest : List ℕ) → IsMonomial (f ∷ fs) → ends_term rest ≡ true → monomial_at (factors_on f fs rest) ≡ Some (f ∷ fs, rest)
unfolding monomial_at
monomial_again f fs rest good ends =
    let order = good.order in
    let flat = good.degree in
    let room = good.room in
    let few : length fs ≤ 255 = omega (arith, length_below fs order.2) in
    let read = factors_again f fs rest (factors_of (f ∷ fs) order flat room) few ends in
    rw read (rw (monomial_from (f ∷ fs) good) refl)
