use Rattle.std.proofs.Common.{◌≡◌, ◌++◌, map, drop, length}
use Rattle.std.specs.List.{AllByRecursion}
use Rattle.mm_poly.specs.Poly.{HasPlaces}
use Rattle.mm_poly.specs.Renaming.{by_table}
use Rattle.cert_kit.specs.declared.row.PRow.{PRow}
use Rattle.clause_form.specs.Naming.{renamed_row}
use Rattle.clause_form.specs.machine.Walk.{lent}
use Rattle.clause_form.proofs.naming.renumbered.Given as goal

-- what is out, and the rows that are left
abbrev pub invariant-loop-row : goal.invariant-loop-row
invariant-loop-row l = (l.out.items ++ map (renamed_row (by_table l.table)) (lent (drop l.row-index l.rows)) ≡ map (renamed_row (by_table l.table)) (lent l.rows))
    × AllByRecursion (λ (r : PRow). HasPlaces (length l.table) r.poly) (lent (drop l.row-index l.rows))
