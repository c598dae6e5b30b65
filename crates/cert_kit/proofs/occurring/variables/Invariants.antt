use Rattle.std.proofs.Common.{◌≡◌, ◌++◌, drop}
use Rattle.cert_kit.specs.Variables.{row_variables}
use Rattle.cert_kit.proofs.occurring.variables.Given as goal

-- what is out, and the rows that are left
abbrev pub invariant-loop-row : goal.invariant-loop-row
invariant-loop-row l = l.vars.items ++ row_variables (drop l.row-index l.rows) ≡ row_variables l.rows
