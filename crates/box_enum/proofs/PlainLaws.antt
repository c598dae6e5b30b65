use Rattle.std.specs.Prelude.{◌≡◌, ℕ, ◌-◌, ◌≤◌, nat_eq, nat_le, List, length, drop, take, Bool, true, false, not, refl}
use Rattle.std.proofs.Common.{arith}
use Rattle.std.proofs.lemmas.List.{length-take, length-drop}
use Rattle.std.specs.Ordering.{is_eq}
use Rattle.std.specs.declared.cmp.Ordering.{Ordering}
use Rattle.std.specs.declared.cmp.Ordering.TheVariants.{Less, Equal, Greater}

-- Answers of tests, and a length.

pub number_itself : (v : ℕ) → nat_eq v v ≡ true
number_itself v = grind arith

pub number_not : (x v : ℕ) → (v ≡ x → ⊥) → nat_eq v x ≡ false
number_not x v n = grind arith

pub at_most : (m n : ℕ) → nat_le m n ≡ true → m ≤ n
at_most m n h = grind arith

pub not_false : (b : Bool) → not b ≡ false → b ≡ true
not_false true e = refl
not_false false e = cc

pub is_equal : (o : Ordering) → is_eq o ≡ true → o ≡ Equal
is_equal Less e = cc
is_equal Equal e = refl
is_equal Greater e = cc

pub later_length : {A : Type 0} (xs : List A) → length (take (length xs - 1) (drop 1 xs)) ≡ length xs - 1
later_length xs = simp (length-take, length-drop) (omega arith)
