-- Where an unknown is put among others, and the first one that can be eliminated exactly.
use Rattle.std.specs.Prelude.{◌≡◌, ◌≢◌, ℕ, ◌+◌, ℤ, pos, negsuc, List, [], ◌∷◌, ◌++◌, map, Bool, false, not, ◌||◌, int_le, Option, Some, None, if◌then◌else◌}
use Rattle.std.specs.Borrow.{Bor}
use Rattle.std.specs.List.{list_all}
use Rattle.std.specs.List.Sorted.{IsPermutation}
use Rattle.std.specs.Option.{option_map}
use Rattle.std.specs.Ordering.{is_eq}
use Rattle.std.specs.declared.cmp.Ordering.TheVariants.{Less, Equal, Greater}
use Rattle.mm_poly.specs.declared.term.Term.{Term}
use Rattle.mm_poly.specs.Mono.{mono_cmp, is_constant}
use Rattle.mm_poly.specs.Poly.{EachMono, without_constant}
use Rattle.cert_kit.specs.declared.row.PRow.{PRow}
use Rattle.fm_elim.specs.declared.group.Group.{Group}
use Rattle.fm_elim.specs.Unknowns.{coeff_in, with_unknowns}

-- the place, counted from n; none where the monomial is there
abbrev pub place_from : List (List (ℕ × ℕ)) → List (ℕ × ℕ) → ℕ → Option ℕ
place_from [] m n = Some n
place_from (u ∷ us) m n = elim (mono_cmp m u) [
  | Less ↦ Some n
  | Equal ↦ None
  | Greater ↦ place_from us m (n + 1)
]

abbrev pub at_most_1 : ℤ → Bool
at_most_1 c = int_le c (pos 1)

abbrev pub at_least_minus_1 : ℤ → Bool
at_least_minus_1 c = int_le (negsuc 0) c

abbrev pub is_at_most_1 : List (ℕ × ℕ) → PRow → Bool
is_at_most_1 u r = at_most_1 (coeff_in u r)

abbrev pub is_at_least_minus_1 : List (ℕ × ℕ) → PRow → Bool
is_at_least_minus_1 u r = at_least_minus_1 (coeff_in u r)

-- the first of monomials, and of the terms' ones
abbrev pub first_of : List (List (ℕ × ℕ)) → Option (List (ℕ × ℕ))
first_of [] = None
first_of (u ∷ us) = Some u

abbrev pub first_unknown : List Term → Option (List (ℕ × ℕ))
first_unknown [] = None
first_unknown (t ∷ ts) = Some t.mono

abbrev pub earlier : Option (List (ℕ × ℕ)) → Option (List (ℕ × ℕ)) → Option (List (ℕ × ℕ))
earlier None o = o
earlier (Some m) None = Some m
earlier (Some m) (Some u) = elim (mono_cmp m u) [
  | Less ↦ Some m
  | Equal ↦ Some u
  | Greater ↦ Some u
]

-- terms and a monomial that are lent
abbrev pub lent : List (Bor Term) → List Term
lent ts = map (λ t. t.now) ts

abbrev pub first_lent : Option (Bor (List (ℕ × ℕ))) → Option (List (ℕ × ℕ))
first_lent o = option_map (λ m. m.now) o

-- the terms of rows that aren't constant
abbrev pub terms_of : List PRow → List Term
terms_of [] = []
terms_of (r ∷ rows) = without_constant r.poly ++ terms_of rows

-- the term's coefficient passes a test, where it is one of this unknown
abbrev pub passes : (ℤ → Bool) → List (ℕ × ℕ) → Term → Bool
passes test u t = not (is_eq (mono_cmp t.mono u)) || test t.coeff

abbrev pub is_exact_in : List Term → List (ℕ × ℕ) → Bool
is_exact_in ts u = list_all (passes at_most_1 u) ts || list_all (passes at_least_minus_1 u) ts

abbrev pub first_exact_in : List Term → List (List (ℕ × ℕ)) → Option (List (ℕ × ℕ))
first_exact_in ts [] = None
first_exact_in ts (u ∷ us) = if is_exact_in ts u then Some u else first_exact_in ts us

-- no later term comes before an earlier one, and none is constant
abbrev pub AreInOrder : List Term → Type 0
AreInOrder [] = Unit {0}
AreInOrder (t ∷ ts) = (is_constant t.mono ≡ false) × EachMono (λ m. mono_cmp t.mono m ≢ Greater) ts × AreInOrder ts

-- the terms of rows that aren't constant, in order
pub record AreOrdered (rows : List PRow) (ts : List Term) : Type 0 where
  pub same : IsPermutation (terms_of rows) ts
  pub order : AreInOrder ts

abbrev pub first_in_group : Group → Option (List (ℕ × ℕ))
first_in_group g = if g.lower_ones || g.upper_ones then Some g.unknown.now else first_lent g.later

-- the first unknown of the terms, and the first exact one of the others
pub record IsGroup (ts : List Term) (g : Group) : Type 0 where
  pub others : List (List (ℕ × ℕ))
  pub unknowns : with_unknowns ts [] ≡ g.unknown.now ∷ others
  pub lower : g.lower_ones ≡ list_all (passes at_most_1 g.unknown.now) ts
  pub upper : g.upper_ones ≡ list_all (passes at_least_minus_1 g.unknown.now) ts
  pub later : first_lent g.later ≡ first_exact_in ts others
