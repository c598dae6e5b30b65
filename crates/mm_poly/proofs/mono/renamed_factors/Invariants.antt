use Rattle.std.specs.Prelude.{◌≡◌, drop}
use Rattle.mm_poly.specs.Renaming.{by_table, renamed_mono}
use Rattle.mm_poly.proofs.mono.renamed_factors.Given as goal

-- the factors from here on
abbrev pub invariant-loop-n : goal.invariant-loop-n
invariant-loop-n l = l.renamed ≡ renamed_mono (by_table l.table) (drop l.n l.factors)
