use Rattle.std.proofs.Common.{◌≡◌, ap, ◌∙◌, length, List, ℕ, arith}
use Rattle.cert_kit.specs.declared.row.PRow.{PRow}
use Rattle.cert_kit.specs.Variables.{variables_of}
use Rattle.clause_engine.proofs.NumberedLaws.{count_unknowns}
use Rattle.clause_engine.proofs.engine.relaxed.Goals as goal

pub searched-requires-clause-count : goal.searched-requires-clause-count
searched-requires-clause-count c =
    let linear = c.are_linear.ensures.0 c.if-not-are_linear.false in
    let counted = ap (λ (us : List (List (ℕ × ℕ))). length us) c.in_ok-unknowns.ensures
    ∙ count_unknowns c.as_slice-rows.result.now c.are_rows.ensures linear
    ∙ ap (λ (rows : List PRow). length (variables_of rows)) c.as_slice-rows.ensures in
    let lent = ap (λ (us : List (List (ℕ × ℕ))). length us) c.deref.ensures.value in
    let size = c.deref.ensures.len in
    let own = c.len-count.ensures in
    omega (arith, counted, lent, size, own)

pub searched-requires-in-Open-clause-count : goal.searched-requires-in-Open-clause-count
searched-requires-in-Open-clause-count c =
    let linear = c.are_linear.ensures.0 c.if-not-are_linear.false in
    let counted = ap (λ (us : List (List (ℕ × ℕ))). length us) c.in_ok-unknowns.ensures
    ∙ count_unknowns c.as_slice-rows.result.now c.are_rows.ensures linear
    ∙ ap (λ (rows : List PRow). length (variables_of rows)) c.as_slice-rows.ensures in
    let lent = ap (λ (us : List (List (ℕ × ℕ))). length us) c.deref.ensures.value in
    let size = c.deref.ensures.len in
    let own = c.len-count.ensures in
    omega (arith, counted, lent, size, own)
