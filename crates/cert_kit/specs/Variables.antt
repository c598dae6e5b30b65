-- The variables of rows, and points that are written as one value for each of them.
use Rattle.std.specs.Prelude.{ℕ, zero, suc, ◌+◌, ℤ, pos, List, [], ◌∷◌, map, nat_eq, slice_index_or}
use Rattle.std.specs.List.{flat_map, position_or_len}
use Rattle.std.specs.Ordering.{nat_cmp}
use Rattle.std.specs.declared.cmp.Ordering.{Ordering}
use Rattle.std.specs.declared.cmp.Ordering.TheVariants.{Less, Equal, Greater}
use Rattle.mm_poly.specs.declared.term.Term.{Term}
use Rattle.cert_kit.specs.declared.row.PRow.{PRow}

-- an element at its place in a list, or the list where it has it
abbrev pub with_element : {A : Type 0} → (A → A → Ordering) → A → List A → List A
with_element cmp a [] = a ∷ []
with_element cmp a (b ∷ bs) = elim (cmp a b) [ Less ↦ a ∷ b ∷ bs | Equal ↦ b ∷ bs | Greater ↦ b ∷ with_element cmp a bs ]

-- the elements in order, each once
abbrev pub in_order : {A : Type 0} → (A → A → Ordering) → List A → List A
in_order cmp [] = []
in_order cmp (a ∷ rest) = with_element cmp a (in_order cmp rest)

abbrev pub mono_variables : List (ℕ × ℕ) → List ℕ
mono_variables fs = map (λ f. f.0) fs

abbrev pub poly_variables : List Term → List ℕ
poly_variables ts = flat_map (λ t. mono_variables t.mono) ts

abbrev pub row_variables : List PRow → List ℕ
row_variables rows = flat_map (λ r. poly_variables r.poly) rows

-- the variables that occur in rows, rising
abbrev pub variables_of : List PRow → List ℕ
variables_of rows = in_order nat_cmp (row_variables rows)

-- the number of a variable: its place among those that occur
abbrev pub place_of : List ℕ → ℕ → ℕ
place_of vars v = position_or_len (nat_eq v) vars

-- the numbers from k on, this many
abbrev pub numbers_from : ℕ → ℕ → List ℕ
numbers_from k zero = []
numbers_from k (suc n) = k ∷ numbers_from (k + 1) n

-- the point that gives each of these variables the value at its place, and 0 to all others
abbrev pub point_over : List ℕ → List ℤ → ℕ → ℤ
point_over vars zs v = slice_index_or zs (place_of vars v) (pos 0)
