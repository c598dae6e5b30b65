use Rattle.std.proofs.Common.{ℕ, ◌-◌, ◌^◌, ◌≤◌, List, length, sym, subst}
use Rattle.cert_kit.specs.declared.row.PRow.{PRow}
use Rattle.cert_text.proofs.CheckLaws.{rows_short}
use Rattle.cert_text.proofs.check.check.Goals as goal

pub last-requires : goal.last-requires
last-requires c = subst (λ (p : List PRow × List ℕ). length p.1 ≤ length c.args.bytes.now) (sym c.in_ok-rows.ensures) (rows_short (2 ^ 32 - 1) c.args.bytes.now)
