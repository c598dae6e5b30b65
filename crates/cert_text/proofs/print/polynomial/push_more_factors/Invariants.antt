use Rattle.std.proofs.Common.{◌≡◌, ◌++◌, drop}
use Rattle.cert_text.specs.Text.{more_factors}
use Rattle.cert_text.proofs.print.polynomial.push_more_factors.Given as goal

-- what is out, with the factors that are left
abbrev pub invariant-loop-n : goal.invariant-loop-n
invariant-loop-n l = l.out.items ++ more_factors (drop l.n l.mono) ≡ l.fn.out.items ++ more_factors (drop 1 l.mono)
