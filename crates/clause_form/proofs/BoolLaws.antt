-- Tests that agree.
use Rattle.std.specs.Prelude.{◌≡◌, Bool, true, false, not, ◌&&◌, ◌||◌, refl}
use Rattle.goal_ast.specs.Truth.{same}

pub same_tests : (a b : Bool) → (a ≡ true → b ≡ true) → (b ≡ true → a ≡ true) → a ≡ b
same_tests true true f g = refl
same_tests true false f g = let h = f refl in cc
same_tests false true f g = let h = g refl in cc
same_tests false false f g = refl

pub and_true : (a : Bool) → (a && true) ≡ a
and_true true = refl
and_true false = refl

pub or_false : (a : Bool) → (a || false) ≡ a
or_false true = refl
or_false false = refl

pub and_assoc : (a b c : Bool) → ((a && b) && c) ≡ (a && (b && c))
and_assoc true b c = refl
and_assoc false b c = refl

pub or_assoc : (a b c : Bool) → ((a || b) || c) ≡ (a || (b || c))
or_assoc true b c = refl
or_assoc false b c = refl

pub and_or : (a b c : Bool) → ((a && b) || (a && c)) ≡ (a && (b || c))
and_or true b c = refl
and_or false b c = refl

pub or_and : (a b c : Bool) → ((a && c) || (b && c)) ≡ ((a || b) && c)
or_and true true c = by_last c
  where
    by_last : (c : Bool) → (c || c) ≡ c
    by_last true = refl
    by_last false = refl
or_and true false c = or_false c
or_and false b c = refl

pub not_and : (a b : Bool) → (not a || not b) ≡ not (a && b)
not_and true b = refl
not_and false b = refl

pub not_or : (a b : Bool) → (not a && not b) ≡ not (a || b)
not_or true b = refl
not_or false b = refl

pub not_not : (a : Bool) → not (not a) ≡ a
not_not true = refl
not_not false = refl

pub not_implies : (a b : Bool) → (a && not b) ≡ not (not a || b)
not_implies true b = refl
not_implies false b = refl

pub both_or_none : (a b : Bool) → ((a && b) || (not a && not b)) ≡ same a b
both_or_none true b = or_false b
both_or_none false b = refl

pub one_alone : (a b : Bool) → ((a && not b) || (not a && b)) ≡ not (same a b)
one_alone true b = or_false (not b)
one_alone false true = refl
one_alone false false = refl
