-- Tidy rows: each is its own cut, none is constant, and of parallel inequalities one stands.
use Rattle.std.specs.Prelude.{List, [], ◌∷◌, ◌++◌, length, map, Bool, true, false, ◌&&◌, ◌||◌, int_lt, nat_le, Result, Ok, Err, if◌then◌else◌}
use Rattle.std.specs.Ordering.{is_eq}
use Rattle.mm_poly.specs.Poly.{constant_part, without_constant, poly_cmp}
use Rattle.cert_kit.specs.declared.row.Op.{Op}
use Rattle.cert_kit.specs.declared.row.Op.TheVariants.{Ge, Eq}
use Rattle.cert_kit.specs.declared.row.PRow.{PRow}
use Rattle.cert_kit.specs.Row.{has_no_terms, is_false}
use Rattle.cert_kit.specs.Cut.{cut_of}

-- how an elimination ends
pub data End : Type 0 where
  Contra : End
  Point : End
  Grey : End
  Over : End

abbrev pub is_inequality : Op → Bool
is_inequality Ge = true
is_inequality Eq = false

-- inequalities that are the same but for their constants
abbrev pub are_parallel : PRow → PRow → Bool
are_parallel r s = (is_inequality r.op && is_inequality s.op) && is_eq (poly_cmp (without_constant r.poly) (without_constant s.poly))

abbrev pub is_tighter : PRow → PRow → Bool
is_tighter r s = int_lt (constant_part r.poly) (constant_part s.poly)

-- of a row that stands and of one after it that is parallel to it: the first with the least constant, at its place
abbrev pub tighter : PRow → PRow → List PRow → List PRow
tighter s r rows = if is_tighter r s then rows ++ r ∷ [] else s ∷ rows

abbrev pub put : PRow → List PRow → List PRow
put r [] = r ∷ []
put r (s ∷ rows) = if are_parallel s r then tighter s r rows else s ∷ put r rows

abbrev pub is_constant_row : PRow → Bool
is_constant_row r = has_no_terms (without_constant r.poly)

-- one row after another, without the constant ones
abbrev pub kept_after : List PRow → List PRow → List PRow
kept_after [] kept = kept
kept_after (r ∷ rows) kept = kept_after rows (if is_constant_row r then kept else put r kept)

abbrev pub cuts : List PRow → List PRow
cuts rows = map cut_of rows

abbrev pub has_false : List PRow → Bool
has_false [] = false
has_false (r ∷ rows) = is_false r || has_false rows

-- at most 512 rows
abbrev pub within_512 : List PRow → Result (List PRow) End
within_512 rows = if nat_le (length rows) 512 then Ok rows else Err Over

-- tidy rows of the same integer solutions; a false constant row is looked for before the rows are counted
abbrev pub tidied : List PRow → Result (List PRow) End
tidied rows = if has_false (cuts rows) then Err Contra else within_512 (kept_after (cuts rows) [])
