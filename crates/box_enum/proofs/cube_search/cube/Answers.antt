use Rattle.std.proofs.Common.{rules, ◌≡◌, length, true, false, [], subst, sym, arith}
use Rattle.goal_ast.specs.Fitting.{all_fit}
use Rattle.box_enum.specs.machine.Trying.{IsFoundIn, points_from}
use Rattle.box_enum.proofs.CubeLaws.{none_fit, cube_found, cube_none}
use Rattle.box_enum.proofs.cube_search.cube.Goals as goal

pub search-requires-clause-fit : goal.search-requires-clause-fit
search-requires-clause-fit c =
    let start : c.from_vec.result ≡ [] = search rules in
    subst (λ zs. all_fit c.args.goal.now.vars zs ≡ true) (sym start) (none_fit c.args.goal.now.vars)

pub returns-then-branch-clause-first : goal.returns-then-branch-clause-first
returns-then-branch-clause-first c =
    let start : c.from_vec.result ≡ [] = search rules in
    let found : IsFoundIn c.args.goal.now (points_from (length c.from_vec.result) c.args.goal.now) c.from_vec.result true c.search.new.a.values = search rules in
    cube_found c.args.goal.now c.from_vec.result c.search.new.a.values start (omega arith) found

pub returns-else-branch-clause-first : goal.returns-else-branch-clause-first
returns-else-branch-clause-first c =
    let start : c.from_vec.result ≡ [] = search rules in
    let found : IsFoundIn c.args.goal.now (points_from (length c.from_vec.result) c.args.goal.now) c.from_vec.result false c.search.new.a.values = search rules in
    cube_none c.args.goal.now c.from_vec.result c.search.new.a.values start (omega arith) found
