use Rattle.std.proofs.Common.{◌≡◌, ◌++◌, drop}
use Rattle.cert_text.specs.Text.{more_terms}
use Rattle.cert_text.proofs.print.polynomial.push_more_terms.Given as goal

-- what is out, with the terms that are left
abbrev pub invariant-loop-n : goal.invariant-loop-n
invariant-loop-n l = l.out.items ++ more_terms (drop l.n l.poly) ≡ l.fn.out.items ++ more_terms (drop 1 l.poly)
