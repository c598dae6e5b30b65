use Rattle.std.proofs.Common.{rules, ◌≡◌, ◌+◌, length, refl, sym, subst, ap, ◌∙◌, arith}
use Rattle.mm_poly.specs.Point.{point_of as point_by}
use Rattle.goal_serve.proofs.PlacingLaws.{IsPut, next_put, next_left, all_put, again}
use Rattle.goal_serve.proofs.placing.placed.Goals as goal
use Rattle.goal_serve.proofs.placing.placed.Goals.{then-var-bound, else-var-bound}

pub loop-place-preserved : goal.loop-place-preserved
loop-place-preserved c = elim c.if-var-bound.branch [
  | then-var-bound w ↦ next_put c.loop-place.out.items c.if-var-bound.out.items c.args.vars.now c.args.values.now c.args.bound c.loop-place.place _ _
      c.loop-place.invariant c.loop-place-test.true c.requires.order refl w.if-var-bound.true
      (again c.args.values.now c.requires.small c.loop-place.place)
      (ap (λ o. o.items) w.out-is)
  | else-var-bound w ↦ subst (λ zs. IsPut zs c.args.vars.now c.args.values.now c.args.bound (c.loop-place.place + 1)) (sym (ap (λ o. o.items) w.out-is))
      (next_left c.loop-place.out.items c.args.vars.now c.args.values.now c.args.bound c.loop-place.place _ c.loop-place.invariant refl w.if-var-bound.false)
]

pub returns-clause-values : goal.returns-clause-values
returns-clause-values c =
    let items : c.from_vec.result ≡ c.loop-place.out.items = search rules in
    let whole : c.loop-place.place ≡ length c.args.vars.now = omega (arith, c.loop-place.auto.place-end, c.loop-place-test.false) in
    let put = subst (λ n. IsPut c.loop-place.out.items c.args.vars.now c.args.values.now c.args.bound n) whole c.loop-place.invariant in
    λ v h. ap (λ zs. point_by zs v) items ∙ all_put c.loop-place.out.items c.args.vars.now c.args.values.now c.args.bound put v h
