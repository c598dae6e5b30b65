-- What comes of a step, a test or a choice that has an answer.
use Rattle.std.proofs.Common.{◌≡◌, refl, ◌⊎◌, inl, inr, Bool, true, false, cond, Option, Some, None}
use Rattle.mm_num.specs.Option.{◌>>=◌}

-- the value of a step that did not fail
pub bind_some : {A B : Type 0} (o : Option A) (f : A → Option B) (y : B) → (o >>= f) ≡ Some y → (x : A) × (o ≡ Some x) × (f x ≡ Some y)
bind_some (Some x) f y e = (x, refl, e)
bind_some None f y e = absurd cc

-- one of two, by a test
pub test_some : {A : Type 0} (b : Bool) (o p : Option A) (y : A) → cond b o p ≡ Some y → ((b ≡ true) × (o ≡ Some y)) ⊎ ((b ≡ false) × (p ≡ Some y))
test_some true o p y e = inl (refl, e)
test_some false o p y e = inr (refl, e)

-- a way for a value, and another without
pub choice_some : {A B : Type 0} (o : Option A) (f : A → Option B) (d : Option B) (y : B) → elim o [ Some x ↦ f x | None ↦ d ] ≡ Some y
    → ((x : A) × (o ≡ Some x) × (f x ≡ Some y)) ⊎ ((o ≡ None) × (d ≡ Some y))
choice_some (Some x) f d y e = inl (x, refl, e)
choice_some None f d y e = inr (refl, e)
