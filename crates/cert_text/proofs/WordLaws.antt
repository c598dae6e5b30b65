-- What a step of reading says, and words at the front.
use Rattle.std.proofs.Common.{◌≡◌, ℕ, ◌+◌, Bool, true, false, cond, eqb, List, [], ◌∷◌, ◌++◌, length, take, drop, Option, Some, None, Bor, refl, sym, ap, ◌∙◌, append_assoc}
use Rattle.std.specs.Prelude.{MatchOption, ◌&&◌}
use Rattle.std.specs.Option.{option_map}
use Rattle.std.specs.Cmp.Lexicographic.{pointwise}
use Rattle.std.proofs.lemmas.Bool.{eqb-true, eq-eqb}
use Rattle.std.proofs.lemmas.Option.{same_Some}
use Rattle.cert_text.specs.Reading.{after}

-- a test that did not fail
pub guard_some : {A : Type 0} (b : Bool) (o : Option A) (y : A) → cond b o None ≡ Some y → (b ≡ true) × (o ≡ Some y)
guard_some true o y e = (refl, e)
guard_some false o y e = absurd cc

pub guard_none : {A : Type 0} (b : Bool) (o : Option A) (y : A) → cond b None o ≡ Some y → (b ≡ false) × (o ≡ Some y)
guard_none true o y e = absurd cc
guard_none false o y e = (refl, e)

-- two texts, one after the other
pub joined : (bytes first others second rest : List ℕ) → bytes ≡ first ++ others → others ≡ second ++ rest → bytes ≡ (first ++ second) ++ rest
joined bytes first others second rest e f = e ∙ ap (λ t. first ++ t) f ∙ sym (append_assoc first second rest)

pub after_takes : (word bytes rest : List ℕ) → after word bytes ≡ Some rest → bytes ≡ word ++ rest
after_takes [] bytes rest e = same_Some bytes rest e
after_takes (w ∷ word) [] rest e = absurd cc
after_takes (w ∷ word) (c ∷ bytes) rest e =
    let g = guard_some (eqb c w) (after word bytes) rest e in
    let same : c ≡ w = eqb-true c w g.0 in
    let others : bytes ≡ word ++ rest = after_takes word bytes rest g.1 in
    cc

pub after_again : (word rest : List ℕ) → after word (word ++ rest) ≡ Some rest
after_again [] rest = refl
after_again (w ∷ word) rest =
    let same : eqb w w ≡ true = eq-eqb w w refl in
    rw same (after_again word rest)

-- what a word's test and the bytes after it come to
after_tested : (word bytes : List ℕ) → after word bytes ≡ cond (pointwise eqb (take (length word) bytes) word) (Some (drop (length word) bytes)) None
after_tested [] bytes = refl
after_tested (w ∷ word) [] = refl
after_tested (w ∷ word) (c ∷ bytes) = elim (eqb c w) as (λ b. cond b (after word bytes) None ≡ cond (b && pointwise eqb (take (length word) bytes) word) (Some (drop (length word) bytes)) None) [
  | true ↦ after_tested word bytes
  | false ↦ refl
]

pub strip_gives : (word bytes : List ℕ) (r : Option (Bor (List ℕ)))
    → MatchOption r (pointwise eqb (take (length word) bytes) word ≡ false) (λ x. (pointwise eqb (take (length word) bytes) word ≡ true) × (x.now ≡ drop (length word) bytes) × (length x.now + length word ≡ length bytes))
    → option_map (λ x. x.now) r ≡ after word bytes
strip_gives word bytes (Some x) h = sym (after_tested word bytes ∙ rw h.0 (ap (λ b. Some b) (sym h.1)))
strip_gives word bytes None h = sym (after_tested word bytes ∙ rw h refl)
