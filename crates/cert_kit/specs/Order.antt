-- The order of rows.
use Rattle.std.specs.Ordering.{ordering_then}
use Rattle.std.specs.declared.cmp.Ordering.{Ordering}
use Rattle.std.specs.declared.cmp.Ordering.TheVariants.{Less, Equal, Greater}
use Rattle.mm_poly.specs.Poly.{poly_cmp}
use Rattle.cert_kit.specs.declared.row.Op.{Op}
use Rattle.cert_kit.specs.declared.row.Op.TheVariants.{Ge, Eq}
use Rattle.cert_kit.specs.declared.row.PRow.{PRow}

-- `>=` before `=`
abbrev pub op_cmp : Op → Op → Ordering
op_cmp Ge Ge = Equal
op_cmp Ge Eq = Less
op_cmp Eq Ge = Greater
op_cmp Eq Eq = Equal

-- by the polynomial, and then by how it compares to 0
abbrev pub row_cmp : PRow → PRow → Ordering
row_cmp r s = ordering_then (poly_cmp r.poly s.poly) (op_cmp r.op s.op)
