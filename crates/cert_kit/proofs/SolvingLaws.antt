-- The tests of rows at a point say what they are to tell.
use Rattle.std.specs.Prelude.{◌≡◌, ◌↔◌, ℕ, ℤ, List, [], ◌∷◌, true, refl}
use Rattle.std.proofs.lemmas.Int.{ints}
use Rattle.std.proofs.lemmas.Bool.{and_parts, and_from}
use Rattle.mm_poly.specs.Poly.{value}
use Rattle.std.proofs.Common.{arith}
use Rattle.cert_kit.specs.declared.row.Op.{Op}
use Rattle.cert_kit.specs.declared.row.Op.TheVariants.{Ge, Eq}
use Rattle.cert_kit.specs.declared.row.PRow.{PRow}
use Rattle.cert_kit.specs.Row.{Compares, Holds, Solves, compares_0, row_holds, all_hold}

compares : (o : Op) (v : ℤ) → compares_0 o v ≡ true → Compares o v
compares Ge v h = grind (arith, ints)
compares Eq v h = grind (arith, ints)

compared : (o : Op) (v : ℤ) → Compares o v → compares_0 o v ≡ true
compared Ge v h = grind (arith, ints)
compared Eq v h = grind (arith, ints)

pub row_tested : (x : ℕ → ℤ) (r : PRow) → (row_holds x r ≡ true) ↔ Holds x r
row_tested x r = (compares r.op (value x r.poly), compared r.op (value x r.poly))

solves : (x : ℕ → ℤ) (rows : List PRow) → all_hold x rows ≡ true → Solves x rows
solves x [] h = tt
solves x (r ∷ rows) h = let p = and_parts (row_holds x r) (all_hold x rows) h in (compares r.op (value x r.poly) p.0, solves x rows p.1)

solved : (x : ℕ → ℤ) (rows : List PRow) → Solves x rows → all_hold x rows ≡ true
solved x [] h = refl
solved x (r ∷ rows) h = and_from (row_holds x r) (all_hold x rows) (compared r.op (value x r.poly) h.0) (solved x rows h.1)

pub rows_tested : (x : ℕ → ℤ) (rows : List PRow) → (all_hold x rows ≡ true) ↔ Solves x rows
rows_tested x rows = (solves x rows, solved x rows)
