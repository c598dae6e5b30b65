-- Numbers, polynomials and rows as bytes: the one spelling of each. A list has its length before it, so no spelling is
-- the beginning of another.
use Rattle.std.specs.Prelude.{ℕ, zero, suc, ◌<◌, ◌^◌, ℤ, unsigned_abs, List, [], ◌∷◌, ◌++◌, length, Option, Some, None, nat_lt, if◌then◌else◌}
use Rattle.std.specs.List.{AllByRecursion}
use Rattle.std.specs.Int.{w32, w128, to_le_bytes, cast_unsigned, cast_signed}
use Rattle.mm_num.specs.Option.{◌>>=◌}
use Rattle.mm_poly.specs.declared.term.Term.{Term}
use Rattle.mm_poly.specs.Poly.{Fits}
use Rattle.mm_poly.specs.Tests.{is_monomial, is_polynomial}
use Rattle.cert_kit.specs.declared.row.Op.{Op}
use Rattle.cert_kit.specs.declared.row.Op.TheVariants.{Ge, Eq}
use Rattle.cert_kit.specs.declared.row.PRow.{PRow}
use Rattle.cert_kit.specs.Codec.{Reader, number_bytes, counted_bytes, byte_at, number_at, both_at, counted_at, made_at}

-- an integer: sixteen bytes of its two's complement, the least first
unfoldable pub integer_bytes : ℤ → List ℕ
integer_bytes z = to_le_bytes w128 (cast_unsigned w128 z)

-- a variable and its exponent
abbrev pub factor_bytes : ℕ × ℕ → List ℕ
factor_bytes f = number_bytes f.0 ++ f.1 ∷ []

abbrev pub mono_bytes : List (ℕ × ℕ) → List ℕ
mono_bytes = counted_bytes factor_bytes

abbrev pub term_bytes : Term → List ℕ
term_bytes t = integer_bytes t.coeff ++ mono_bytes t.mono

abbrev pub poly_bytes : List Term → List ℕ
poly_bytes = counted_bytes term_bytes

-- 0 for an inequality, 1 for an equality
abbrev pub op_byte : Op → ℕ
op_byte Ge = 0
op_byte Eq = 1

unfoldable pub op_bytes : Op → List ℕ
op_bytes o = op_byte o ∷ []

abbrev pub row_bytes : PRow → List ℕ
row_bytes r = op_bytes r.op ++ poly_bytes r.poly

-- the key of a clause: its rows as bytes
abbrev pub rows_bytes : List PRow → List ℕ
rows_bytes = counted_bytes row_bytes

-- ---- the other way round

abbrev pub factor_at : Reader (ℕ × ℕ)
factor_at = both_at (number_at w32) byte_at

abbrev pub rising : List (ℕ × ℕ) → Option (List (ℕ × ℕ))
rising fs = if is_monomial fs then Some fs else None

unfoldable pub mono_at : Reader (List (ℕ × ℕ))
mono_at = made_at (counted_at factor_at) rising

-- two's complement, of magnitude below 2^126
abbrev pub small_integer : ℕ → Option ℤ
small_integer n = if nat_lt (unsigned_abs (cast_signed w128 n)) (2 ^ 126) then Some (cast_signed w128 n) else None

unfoldable pub integer_at : Reader ℤ
integer_at = made_at (number_at w128) small_integer

abbrev pub term_of : ℤ × List (ℕ × ℕ) → Option Term
term_of p = Some (record { coeff = p.0; mono = p.1 })

unfoldable pub term_at : Reader Term
term_at = made_at (both_at integer_at mono_at) term_of

abbrev pub fitting : List Term → Option (List Term)
fitting ts = if is_polynomial ts then Some ts else None

unfoldable pub poly_at : Reader (List Term)
poly_at = made_at (counted_at term_at) fitting

abbrev pub op_of : ℕ → Option Op
op_of zero = Some Ge
op_of (suc zero) = Some Eq
op_of (suc (suc n)) = None

abbrev pub row_of : ℕ × List Term → Option PRow
row_of p = do
  o ← op_of p.0
  Some (record { poly = p.1; op = o })

unfoldable pub row_at : Reader PRow
row_at = made_at (both_at byte_at poly_at) row_of

unfoldable pub rows_at : Reader (List PRow)
rows_at = counted_at row_at

-- rows within the bounds of polynomials, fewer than 2^32
abbrev pub AreRows : List PRow → Type 0
AreRows rows = (length rows < 2 ^ 32) × AllByRecursion (λ (r : PRow). Fits r.poly) rows
