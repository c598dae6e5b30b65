-- Two lists, item by item.
use Rattle.std.specs.Prelude.{List, [], ◌∷◌}

-- the lists are as long as each other, and each item with the one at its place is such a pair
abbrev pub OneEach : {A B : Type 0} → (A → B → Type 0) → List A → List B → Type 0
OneEach P [] [] = Unit {0}
OneEach P [] (y ∷ ys) = ⊥
OneEach P (x ∷ xs) [] = ⊥
OneEach P (x ∷ xs) (y ∷ ys) = P x y × OneEach P xs ys
