use Rattle.std.proofs.Common.{◌≡◌, ◌<◌, ◌^◌, length, take}
use Rattle.std.specs.List.{All}
use Rattle.clause_form.specs.declared.named.Named.{Named}
use Rattle.clause_form.specs.Clauses.{clauses_of}
use Rattle.clause_form.proofs.clause_list.all_named.Given as goal

-- the first clauses
abbrev pub invariant-loop-place : goal.invariant-loop-place
invariant-loop-place l = record {
  first : l.list.items ≡ take l.place (clauses_of l.goal);
  short : All (λ (n : Named). length n.clause.rows < 2 ^ 32) l.list.items;
}
