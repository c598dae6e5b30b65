use Rattle.std.proofs.Common.{◌≡◌, ◌++◌, drop}
use Rattle.mm_poly.specs.Renaming.{renamed_terms}
use Rattle.cert_kit.specs.Variables.{place_of}
use Rattle.box_enum.proofs.waiting.placed_terms.Given as goal

-- what is out, and the terms that are left
abbrev pub invariant-loop-term : goal.invariant-loop-term
invariant-loop-term l = l.out.items ++ renamed_terms (place_of l.vars) (drop l.term-index l.terms) ≡ renamed_terms (place_of l.vars) l.terms
