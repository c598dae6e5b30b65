-- What a step that gave a value says.
use Rattle.std.proofs.Common.{◌≡◌, ℕ, Bool, true, false, Option, Some, None, Ok, Err, refl, ◌⊎◌, inl, inr}
use Rattle.std.specs.Prelude.{if◌then◌else◌}
use Rattle.mm_num.specs.Result.{◌>>=◌}
use Rattle.goal_sort.specs.SortGiving.{Placed, given_at}
use Rattle.goal_sort.specs.SortedNumbers.{provided}
use Rattle.goal_sort.specs.Sorting.{unless}

pub ok_is : {A : Type 0} (x y : A) → ◌≡◌ {A = Placed A} (Ok x) (Ok y) → x ≡ y
ok_is x y e = cc

pub bind_ok : {A B : Type 0} (r : Placed A) (f : A → Placed B) (y : B) → (r >>= f) ≡ Ok y → (x : A) × (r ≡ Ok x) × (f x ≡ Ok y)
bind_ok (Ok x) f y e = (x, refl, e)
bind_ok (Err at) f y e = absurd cc

-- what was given and bound
pub given_bound : {A B : Type 0} (at : ℕ) (o : Option A) (f : A → Placed B) (y : B) → (given_at at o >>= f) ≡ Ok y → (x : A) × (o ≡ Some x) × (f x ≡ Ok y)
given_bound at (Some x) f y e = (x, refl, e)
given_bound at None f y e = absurd cc

pub provided_ok : {A : Type 0} (at : ℕ) (b : Bool) (r : Placed A) (y : A) → provided at b r ≡ Ok y → (b ≡ true) × (r ≡ Ok y)
provided_ok at true r y e = (refl, e)
provided_ok at false r y e = absurd cc

pub unless_ok : {A : Type 0} (o : Option ℕ) (r : Placed A) (y : A) → unless o r ≡ Ok y → (o ≡ None) × (r ≡ Ok y)
unless_ok None r y e = (refl, e)
unless_ok (Some at) r y e = absurd cc

pub test_some : {A : Type 0} (b : Bool) (o p : Option A) (y : A) → (if b then o else p) ≡ Some y → ((b ≡ true) × (o ≡ Some y)) ⊎ ((b ≡ false) × (p ≡ Some y))
test_some true o p y e = inl (refl, e)
test_some false o p y e = inr (refl, e)

-- a choice of two ways
pub choice_ok : {A B : Type 0} (o : Option A) (f : A → Placed B) (d : Placed B) (y : B) → elim o as (λ _. Placed B) [ Some x ↦ f x | None ↦ d ] ≡ Ok y
    → ((x : A) × (o ≡ Some x) × (f x ≡ Ok y)) ⊎ ((o ≡ None) × (d ≡ Ok y))
choice_ok (Some x) f d y e = inl (x, refl, e)
choice_ok None f d y e = inr (refl, e)
