-- Rows that are sorted, each once.
use Rattle.std.specs.Prelude.{◌≡◌, Bool, List, refl}
use Rattle.std.specs.List.{dedup}
use Rattle.std.specs.List.Sorted.{IsPermutation, IsSortedBy}
use Rattle.std.specs.Ordering.{eq_by_cmp, is_lt}
use Rattle.std.specs.Cmp.{IsStrictWeakOrder}
use Rattle.std.proofs.Common.{◌∙◌}
use Rattle.std.proofs.lemmas.List.Sorted.{ranks_by}
use Rattle.cert_kit.specs.declared.row.PRow.{PRow}
use Rattle.cert_kit.specs.Order.{row_cmp}
use Rattle.cert_kit.specs.Variables.{in_order}
use Rattle.cert_kit.proofs.RowOrderLaws.{row_total, row_exact}
use Rattle.cert_kit.proofs.OrderedLaws.{sorted_once}

-- as a test
abbrev pub row_below : PRow → PRow → Bool
row_below r s = is_lt (row_cmp r s)

pub rows_order : IsStrictWeakOrder row_below
rows_order = ranks_by row_total (λ (r : PRow). r)

abbrev pub same_row : PRow → PRow → Bool
same_row r s = eq_by_cmp row_cmp r s

-- rows, sorted and without doubles
pub rows_once : (rows sorted once : List PRow) → IsPermutation rows sorted → IsSortedBy row_below sorted → once ≡ dedup same_row sorted → once ≡ in_order row_cmp rows
rows_once rows sorted once p s e = e ∙ sorted_once row_cmp row_total row_exact same_row (λ r s. refl) rows sorted p s
