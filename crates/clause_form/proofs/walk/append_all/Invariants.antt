use Rattle.std.proofs.Common.{◌≡◌, ◌++◌, drop}
use Rattle.clause_form.specs.machine.Walk.{lent, walk_all}
use Rattle.clause_form.proofs.walk.append_all.Given as goal

-- what is out, and what the parts that are left give
abbrev pub invariant-loop-part : goal.invariant-loop-part
invariant-loop-part l = lent l.rows.items ++ walk_all (drop l.part-index l.parts) l.place ≡ lent l.fn.rows.items ++ walk_all l.parts l.fn.place
