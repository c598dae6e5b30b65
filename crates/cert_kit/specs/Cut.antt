-- The cut of a row (Micromega, "cutting plane proofs"): for an integer q and a positive g, g*q + k >= 0 gives
-- q + floor(k/g) >= 0.
use Rattle.std.specs.Prelude.{ℕ, ◌%◌, ◌==◌, negsuc, unsigned_abs, List, if◌then◌else◌}
use Rattle.mm_num.specs.Quotient.{floor_by}
use Rattle.mm_poly.specs.declared.term.Term.{Term}
use Rattle.mm_poly.specs.Poly.{plus, constant_of, constant_part, without_constant, content, floor_divided}
use Rattle.cert_kit.specs.declared.row.Op.{Op}
use Rattle.cert_kit.specs.declared.row.Op.TheVariants.{Ge, Eq}
use Rattle.cert_kit.specs.declared.row.PRow.{PRow}

-- the row -1 >= 0
abbrev pub contradiction : PRow
contradiction = record { poly = constant_of (negsuc 0); op = Ge }

-- what isn't constant divided by g, and the constant divided and rounded down
abbrev pub divided : ℕ → List Term → List Term
divided g p = plus (floor_divided g (without_constant p)) (constant_of (floor_by (constant_part p) g))

-- an equality whose constant g doesn't divide holds nowhere
abbrev pub cut_by : ℕ → Op → List Term → PRow
cut_by g Ge p = record { poly = divided g p; op = Ge }
cut_by g Eq p = if unsigned_abs (constant_part p) % g == 0 then record { poly = divided g p; op = Eq } else contradiction

-- the cut of a row by the content of its polynomial; a row without non-constant terms stays
abbrev pub cut_of : PRow → PRow
cut_of r = if content r.poly == 0 then r else cut_by (content r.poly) r.op r.poly
