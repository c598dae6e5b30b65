use Rattle.std.proofs.Common.{◌≡◌, length}
use Rattle.std.specs.List.{All}
use Rattle.simplex_core.specs.Rows.{AreSmall}
use Rattle.mm_cases.proofs.simplex.rows_of.Given as goal

abbrev pub invariant-loop-part : goal.invariant-loop-part
invariant-loop-part l = record {
  wide : All (λ r. length r.coeffs.items ≡ l.width) l.rows.items;
  small : AreSmall l.rows.items;
}
