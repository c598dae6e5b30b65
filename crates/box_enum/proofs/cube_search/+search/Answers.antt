use Rattle.std.proofs.Common.{rules, ◌≡◌, ◌-◌, suc, length, true, false, Some, None, slice_get, [], ◌∷◌, ◌++◌, List, ℤ, subst, sym, ap, ◌∙◌, arith, take, drop}
use Rattle.goal_ast.specs.Fitting.{all_fit, is_in_sort, fits_bound}
use Rattle.box_enum.specs.machine.Trying.{IsFoundIn, points_from, points_with_one_of}
use Rattle.std.specs.Int.{w128}
use mir.Val.{of_z, to_z}
use Rattle.std.proofs.lemmas.Int.{to_z-of_z}
use Rattle.mm_num.specs.Small.{IsSmall}
use Rattle.box_enum.proofs.CubeLaws.{first_and_rest, first_small, small_again, to_end, on_true, length_more, whole_fits, leaf_found, next_found, next_within, fit_one_more, pushed_found, popped_found, value_found, values_found}
use Rattle.box_enum.proofs.cube_search.+search.Goals as goal

pub search-returns-in_ok-found-in-Some-clause-found :
    goal.search-returns-in_ok-found-in-Some-clause-found
search-returns-in_ok-found-in-Some-clause-found t c =
    let next : slice_get c.args.goal.now.vars (length c.args.a.now.values) ≡ Some c.in-Some.bound.now = search rules in
    next_found c.args.goal.now c.in-Some.bound.now c.args.a.now.values c.search_values.new.a.values c.in_ok-found-in-Some.found next c.in_ok-found-in-Some.ensures.found

pub search_value-search-requires : goal.search_value-search-requires
search_value-search-requires t c =
    let pushed : c.push.new.self ≡ c.args.a.now.values ++ c.args.value ∷ [] = c.in_ok-push.ensures.ok ∙ ap (λ (z : ℤ). c.args.a.now.values ++ z ∷ []) (to_z-of_z _ _ c.ranges.value) in
    let within = next_within c.args.goal.now.vars (length c.args.a.now.values) c.args.bound.now c.requires.next in
    let fits : fits_bound c.args.bound.now c.args.value ≡ true = search rules in
    let fit = fit_one_more c.args.goal.now.vars c.args.a.now.values c.args.bound.now c.args.value c.requires.next c.requires.fit fits in
    let long : length c.push.new.self ≡ suc (length c.args.a.now.values) = ap (λ (zs : List ℤ). length zs) pushed ∙ length_more c.args.a.now.values c.args.value in
    (omega (arith, long, within), (c.requires.well_formed, (omega (arith, long, within), subst (λ zs. all_fit c.args.goal.now.vars zs ≡ true) (sym pushed) fit)))

pub search_value-returns-then-branch-clause-found :
    goal.search_value-returns-then-branch-clause-found
search_value-returns-then-branch-clause-found t c =
    let pushed : c.push.new.self ≡ c.args.a.now.values ++ c.args.value ∷ [] = c.in_ok-push.ensures.ok ∙ ap (λ (z : ℤ). c.args.a.now.values ++ z ∷ []) (to_z-of_z _ _ c.ranges.value) in
    let its : is_in_sort c.args.bound.now.sort c.args.value ≡ true = search rules in
    let found : IsFoundIn c.args.goal.now (points_from (length c.push.new.self) c.args.goal.now) c.push.new.self true c.search.new.a.values = search rules in
    pushed_found c.args.goal.now c.args.bound.now c.args.value c.args.a.now.values c.push.new.self c.search.new.a.values its pushed found

pub search_value-returns-clause-found : goal.search_value-returns-clause-found
search_value-returns-clause-found t c =
    let pushed : c.push.new.self ≡ c.args.a.now.values ++ c.args.value ∷ [] = c.in_ok-push.ensures.ok ∙ ap (λ (z : ℤ). c.args.a.now.values ++ z ∷ []) (to_z-of_z _ _ c.ranges.value) in
    let its : is_in_sort c.args.bound.now.sort c.args.value ≡ true = search rules in
    let found : IsFoundIn c.args.goal.now (points_from (length c.push.new.self) c.args.goal.now) c.push.new.self false c.search.new.a.values = search rules in
    popped_found c.args.goal.now c.args.bound.now c.args.value c.args.a.now.values c.push.new.self c.search.new.a.values c.pop.new.self c.pop.result its pushed found c.pop.ensures

pub search_values-returns-then-branch-clause-found :
    goal.search_values-returns-then-branch-clause-found
search_values-returns-then-branch-clause-found t c =
    let whole : c.args.values.now ≡ c.in-Some.value.now ∷ drop 1 c.args.values.now = first_and_rest c.args.values.now c.in-Some.value.now (search rules) in
    let small : IsSmall c.in-Some.value.now = first_small c.args.values.now c.in-Some.value.now _ whole c.requires.small in
    let found = subst (λ (z : ℤ). IsFoundIn c.args.goal.now (points_with_one_of c.args.bound.now (z ∷ []) (points_from (suc (length c.args.a.now.values)) c.args.goal.now)) c.args.a.now.values true c.search_value.new.a.values) (small_again c.in-Some.value.now small)
    (subst (λ b. IsFoundIn c.args.goal.now (points_with_one_of c.args.bound.now (to_z w128 (of_z w128 c.in-Some.value.now) ∷ []) (points_from (suc (length c.args.a.now.values)) c.args.goal.now)) c.args.a.now.values b c.search_value.new.a.values) c.if-branch.true c.in_ok-search_value.ensures.found) in
    subst (λ (zs : List ℤ). IsFoundIn c.args.goal.now (points_with_one_of c.args.bound.now zs (points_from (suc (length c.args.a.now.values)) c.args.goal.now)) c.args.a.now.values true c.search_value.new.a.values) (sym whole)
    (value_found c.args.goal.now c.args.bound.now c.in-Some.value.now (drop 1 c.args.values.now) c.args.a.now.values c.search_value.new.a.values (points_from (suc (length c.args.a.now.values)) c.args.goal.now) found)

pub search_values-returns-clause-found : goal.search_values-returns-clause-found
search_values-returns-clause-found t c =
    let whole : c.args.values.now ≡ c.in-Some.value.now ∷ drop 1 c.args.values.now = first_and_rest c.args.values.now c.in-Some.value.now (search rules) in
    let small : IsSmall c.in-Some.value.now = first_small c.args.values.now c.in-Some.value.now _ whole c.requires.small in
    let rest = to_end 1 c.args.values.now in
    let none = subst (λ (z : ℤ). IsFoundIn c.args.goal.now (points_with_one_of c.args.bound.now (z ∷ []) (points_from (suc (length c.args.a.now.values)) c.args.goal.now)) c.args.a.now.values false c.search_value.new.a.values) (small_again c.in-Some.value.now small)
    (subst (λ b. IsFoundIn c.args.goal.now (points_with_one_of c.args.bound.now (to_z w128 (of_z w128 c.in-Some.value.now) ∷ []) (points_from (suc (length c.args.a.now.values)) c.args.goal.now)) c.args.a.now.values b c.search_value.new.a.values) c.if-branch.false c.in_ok-search_value.ensures.found) in
    let same : c.search_value.new.a.values ≡ c.args.a.now.values = none.1 in
    let found : IsFoundIn c.args.goal.now (points_with_one_of c.args.bound.now (drop 1 c.args.values.now) (points_from (suc (length c.args.a.now.values)) c.args.goal.now)) c.search_value.new.a.values c.in_ok-found.found c.search_values.new.a.values =
    subst (λ (zs : List ℤ). IsFoundIn c.args.goal.now (points_with_one_of c.args.bound.now zs (points_from (suc (length c.args.a.now.values)) c.args.goal.now)) c.search_value.new.a.values c.in_ok-found.found c.search_values.new.a.values) rest
    (subst (λ k. IsFoundIn c.args.goal.now (points_with_one_of c.args.bound.now (take (length c.args.values.now - 1) (drop 1 c.args.values.now)) (points_from k c.args.goal.now)) c.search_value.new.a.values c.in_ok-found.found c.search_values.new.a.values) (ap (λ (zs : List ℤ). suc (length zs)) same) c.in_ok-found.ensures.found) in
    subst (λ (zs : List ℤ). IsFoundIn c.args.goal.now (points_with_one_of c.args.bound.now zs (points_from (suc (length c.args.a.now.values)) c.args.goal.now)) c.args.a.now.values c.in_ok-found.found c.search_values.new.a.values) (sym whole)
    (values_found c.args.goal.now c.args.bound.now c.in-Some.value.now (drop 1 c.args.values.now) c.args.a.now.values c.search_value.new.a.values c.search_values.new.a.values (points_from (suc (length c.args.a.now.values)) c.args.goal.now) c.in_ok-found.found none found)

pub search-fails-requires-clause-in_range : goal.search-fails-requires-clause-in_range
search-fails-requires-clause-in_range t c =
    let none : slice_get c.args.goal.now.vars (length c.args.a.now.values) ≡ None = search rules in
    whole_fits c.args.goal.now _ c.requires.few none c.requires.fit

pub search-returns-in-None-clause-found : goal.search-returns-in-None-clause-found
search-returns-in-None-clause-found t c =
    let none : slice_get c.args.goal.now.vars (length c.args.a.now.values) ≡ None = search rules in
    leaf_found c.args.goal.now c.args.a.now.values c.fails.result none c.fails.ensures

pub search-returns-in-None-clause-whole : goal.search-returns-in-None-clause-whole
search-returns-in-None-clause-whole t c =
    let none : slice_get c.args.goal.now.vars (length c.args.a.now.values) ≡ None = search rules in
    on_true c.fails.result (whole_fits c.args.goal.now _ c.requires.few none c.requires.fit)
