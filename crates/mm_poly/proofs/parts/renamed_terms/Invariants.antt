use Rattle.std.specs.Prelude.{◌≡◌, ◌++◌, drop, length}
use Rattle.mm_poly.specs.Poly.{HasPlaces}
use Rattle.mm_poly.specs.Renaming.{by_table, renamed_terms}
use Rattle.mm_poly.proofs.parts.renamed_terms.Given as goal

-- what is out, and the terms that are left
abbrev pub invariant-loop-term : goal.invariant-loop-term
invariant-loop-term l = (l.out.items ++ renamed_terms (by_table l.table) (drop l.term-index l.terms) ≡ renamed_terms (by_table l.table) l.terms)
    × HasPlaces (length l.table) (drop l.term-index l.terms)
