use Rattle.std.proofs.Common.{rules, ◌≡◌, ◌<◌, ℕ, List, length, ap, sym, ◌∙◌, subst}
use Rattle.std.specs.Prelude.{ℤ}
use Rattle.std.specs.List.{AllByRecursion}
use Rattle.std.specs.List.Sorted.{IsStrictlySortedBy}
use Rattle.std.specs.Ordering.{nat_cmp}
use Rattle.mm_num.specs.Small.{IsSmall}
use Rattle.mm_poly.specs.Point.{point_of as point_by}
use Rattle.cert_kit.specs.Row.{Solves}
use Rattle.cert_kit.specs.Variables.{variables_of}
use Rattle.clause_engine.specs.Settled.{HasPoint, clause_point, IsReason}
use Rattle.goal_serve.proofs.ReachLaws.{is_numbered, vars_rise, one_value_each, is_found, is_assigned, point_in_range, point_reached}
use Rattle.goal_serve.proofs.trying.reach.Goals as goal

pub prove_clause-requires-clause-numbered : goal.prove_clause-requires-clause-numbered
prove_clause-requires-clause-numbered g c κs within = is_numbered c.args.goal.now c.args.named c.requires.clause

pub placed-requires-clause-order : goal.placed-requires-clause-order
placed-requires-clause-order g c =
    let vars : c.as_slice.result.now ≡ c.args.named.vars = search rules in
    subst (λ us. IsStrictlySortedBy nat_cmp us) (sym vars) (vars_rise c.args.goal.now c.args.named c.requires.clause)

pub placed-requires-clause-one_each : goal.placed-requires-clause-one_each
placed-requires-clause-one_each g c =
    let vars : c.as_slice.result.now ≡ c.args.named.vars = search rules in
    let values : c.as_slice-in-Point.result.now ≡ c.in-Point.values = search rules in
    let count : length c.in-Point.values ≡ length (variables_of c.args.named.clause.rows) = search rules in
    ap (λ (zs : List ℤ). length zs) values ∙ one_value_each c.args.goal.now c.args.named c.in-Point.values c.requires.clause count ∙ sym (ap (λ (us : List ℕ). length us) vars)

pub at_point-requires-clause-in_range : goal.at_point-requires-clause-in_range
at_point-requires-clause-in_range g c =
    let vars : c.as_slice.result.now ≡ c.args.named.vars = search rules in
    let values : c.as_slice-in-Point.result.now ≡ c.in-Point.values = search rules in
    let bound : c.len.result ≡ length c.args.goal.now.vars = search rules in
    let count : length c.in-Point.values ≡ length (variables_of c.args.named.clause.rows) = search rules in
    let given : HasPoint c.args.goal.now.mode c.args.turns c.args.named.clause.rows → (v : ℕ) → v < length c.in-Point.values → point_by c.in-Point.values v ≡ clause_point c.args.goal.now.mode c.args.turns c.args.named.clause.rows v = search rules in
    let small : AllByRecursion IsSmall c.in-Point.values = search rules in
    let solves : Solves (point_by c.in-Point.values) c.args.named.clause.rows = search rules in
    let found = is_found c.args.goal.now c.args.turns c.args.named c.in-Point.values c.requires.clause count given small solves in
    let assigned = is_assigned c.args.goal.now c.args.named c.in-Point.values c.in_ok-a-in-Point.a c.len.result c.as_slice.result.now c.as_slice-in-Point.result.now bound vars values
    c.in_ok-a-in-Point.ensures.one_each c.in_ok-a-in-Point.ensures.values in
    point_in_range c.args.goal.now c.args.turns c.args.named c.in-Point.values c.in_ok-a-in-Point.a c.requires.formed c.requires.clause found assigned

pub returns-in_ok-a-in-Point : goal.returns-in_ok-a-in-Point
returns-in_ok-a-in-Point g c =
    let vars : c.as_slice.result.now ≡ c.args.named.vars = search rules in
    let values : c.as_slice-in-Point.result.now ≡ c.in-Point.values = search rules in
    let bound : c.len.result ≡ length c.args.goal.now.vars = search rules in
    let count : length c.in-Point.values ≡ length (variables_of c.args.named.clause.rows) = search rules in
    let given : HasPoint c.args.goal.now.mode c.args.turns c.args.named.clause.rows → (v : ℕ) → v < length c.in-Point.values → point_by c.in-Point.values v ≡ clause_point c.args.goal.now.mode c.args.turns c.args.named.clause.rows v = search rules in
    let small : AllByRecursion IsSmall c.in-Point.values = search rules in
    let solves : Solves (point_by c.in-Point.values) c.args.named.clause.rows = search rules in
    let reason : IsReason c.args.goal.now.mode c.args.turns c.args.named.clause.rows c.in-Point.why = search rules in
    let found = is_found c.args.goal.now c.args.turns c.args.named c.in-Point.values c.requires.clause count given small solves in
    let assigned = is_assigned c.args.goal.now c.args.named c.in-Point.values c.in_ok-a-in-Point.a c.len.result c.as_slice.result.now c.as_slice-in-Point.result.now bound vars values
    c.in_ok-a-in-Point.ensures.one_each c.in_ok-a-in-Point.ensures.values in
    point_reached c.args.goal.now c.args.turns c.args.named c.in-Point.values c.in_ok-a-in-Point.a c.in-Point.why c.at_point.result c.requires.formed c.requires.clause found assigned reason c.at_point.ensures
