-- Products of inequalities: from p >= 0 and q >= 0 follows p*q >= 0 (the Micromega chapter of the Rocq manual, at `nra`:
-- it is added for all pairs of inequalities; here for few and small ones).
use Rattle.std.specs.Prelude.{ℕ, ◌+◌, ◌*◌, ◌^◌, List, [], ◌∷◌, ◌++◌, map, take, Bool, ◌&&◌, nat_lt, nat_le}
use Rattle.std.specs.List.{filter}
use Rattle.mm_poly.specs.declared.term.Term.{Term}
use Rattle.mm_poly.specs.Poly.{norm, spread, degree, times}
use Rattle.cert_kit.specs.declared.row.Op.{Op}
use Rattle.cert_kit.specs.declared.row.Op.TheVariants.{Ge, Eq}
use Rattle.cert_kit.specs.declared.row.PRow.{PRow}
use Rattle.cert_kit.specs.declared.cert.Psatz.{Psatz}
use Rattle.cert_kit.specs.declared.cert.Psatz.TheVariants.{Hyp, Mul}
use Rattle.cert_kit.specs.Meaning.{at_least_0}

-- the polynomial of an inequality, and the number of its row
pub record Factor : Type 0 where
  pub number : ℕ
  pub poly : List Term

-- a factor in front, where the row is an inequality
abbrev pub with_factor : Op → Factor → List Factor → List Factor
with_factor Ge f fs = f ∷ fs
with_factor Eq f fs = fs

-- the inequalities among rows that are numbered from n on
abbrev pub factors_from : ℕ → List PRow → List Factor
factors_from n [] = []
factors_from n (r ∷ rows) = with_factor r.op (record { number = n; poly = r.poly }) (factors_from (n + 1) rows)

-- the first 20 inequalities
abbrev pub factors_of : List PRow → List Factor
factors_of rows = take 20 (factors_from 0 rows)

-- a factor with each of others
abbrev pub pairs_with : Factor → List Factor → List (Factor × Factor)
pairs_with f gs = map (λ g. (f, g)) gs

-- each with itself, and then with each one after it
abbrev pub pairs : List Factor → List (Factor × Factor)
pairs [] = []
pairs (f ∷ fs) = pairs_with f (f ∷ fs) ++ pairs fs

-- the limits of a product
abbrev pub has_room : List Term → List Term → Bool
has_room p q = nat_lt (norm p * norm q) (2 ^ 100) && (nat_le (spread p * spread q) 4096 && nat_le (degree p + degree q) 8)

abbrev pub pair_has_room : Factor × Factor → Bool
pair_has_room p = has_room p.0.poly p.1.poly

-- the pairs of the first inequalities whose products are within the limits
abbrev pub products_of : List PRow → List (Factor × Factor)
products_of rows = filter pair_has_room (pairs (factors_of rows))

-- p*q >= 0, and why
abbrev pub pair_row : Factor × Factor → PRow
pair_row p = at_least_0 (times p.0.poly p.1.poly)

abbrev pub pair_source : Factor × Factor → Psatz
pair_source p = Mul (Hyp p.0.number) (Hyp p.1.number)
