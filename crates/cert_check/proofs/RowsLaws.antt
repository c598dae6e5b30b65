-- The first rows of two lists in a row.
use Rattle.std.specs.Prelude.{◌≡◌, ℕ, ◌+◌, ◌-◌, ◌≤◌, List, ◌++◌, length, take}
use Rattle.std.proofs.Common.{ap, sym, ◌∙◌, arith}
use Rattle.std.proofs.Math.Seq.{take-append-add}
use Rattle.cert_kit.specs.declared.row.PRow.{PRow}

pub take_past : (given more : List PRow) (n : ℕ) → length given ≤ n → given ++ take (n - length given) more ≡ take n (given ++ more)
take_past given more n h =
    let e : length given + (n - length given) ≡ n = omega arith in
    sym (take-append-add given more (n - length given)) ∙ ap (λ (k : ℕ). take k (given ++ more)) e
