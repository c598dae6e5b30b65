-- Renumbered rows hold at a point exactly where the rows hold at the point that is seen through the renumbering.
use Rattle.std.specs.Prelude.{◌≡◌, ℕ, List, [], ◌∷◌, map, ◌&&◌, refl}
use Rattle.std.proofs.Common.{ap, ◌∙◌}
use Rattle.mm_poly.proofs.RenamingLaws.{value_renamed}
use Rattle.cert_kit.specs.declared.row.PRow.{PRow}
use Rattle.goal_ast.specs.Truth.{Point}
use Rattle.goal_ast.proofs.CountingLaws.{both_same}
use Rattle.cert_kit.specs.Variables.{variables_of, place_of}
use Rattle.cert_kit.proofs.OrderedLaws.{all_in_order}
use Rattle.clause_form.specs.Naming.{renamed_row, named_rows}
use Rattle.cert_kit.specs.Order.{row_cmp}
use Rattle.cert_kit.specs.Row.{compares_0, row_holds, all_hold}
use Rattle.cert_kit.proofs.RowOrderLaws.{row_exact}
use Rattle.clause_form.specs.Clauses.{seen_by}
use Rattle.cert_kit.proofs.VariableLaws.{rows_local, found, occurs_there}

-- ---- renumbered rows

pub renamed_hold : (y : Point) (r : ℕ → ℕ) (rows : List PRow) → all_hold y (map (renamed_row r) rows) ≡ all_hold (λ v. y (r v)) rows
renamed_hold y r [] = refl
renamed_hold y r (q ∷ rows) = both_same (λ s t. s && t) _ _ _ _ (ap (compares_0 q.op) (value_renamed y r q.poly)) (renamed_hold y r rows)

-- a solution of the clause gives one of the rows
pub named_back : (y : Point) (vars : List ℕ) (rows : List PRow) → all_hold y (named_rows vars rows) ≡ all_hold (λ v. y (place_of vars v)) rows
named_back y vars rows = all_in_order row_cmp (row_holds y) row_exact (map (renamed_row (place_of vars)) rows) ∙ renamed_hold y (place_of vars) rows

-- and the rows hold where the point, renumbered, solves the clause
pub named_through : (x : Point) (rows : List PRow) → all_hold (seen_by (variables_of rows) x) (named_rows (variables_of rows) rows) ≡ all_hold x rows
named_through x rows =
    named_back (seen_by (variables_of rows) x) (variables_of rows) rows
    ∙ rows_local (λ v. seen_by (variables_of rows) x (place_of (variables_of rows) v)) x rows
    (λ v h. ap x (found v (variables_of rows) (occurs_there v rows h)))
