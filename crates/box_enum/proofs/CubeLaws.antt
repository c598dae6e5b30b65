-- Values that are tried one after another.
use Rattle.std.specs.Prelude.{◌≡◌, ℕ, zero, suc, ◌≤◌, ℤ, pos, negsuc, List, [], ◌∷◌, ◌++◌, ◌-◌, length, take, drop, Bool, true, false, ◌&&◌, cond, nat_le, if◌then◌else◌, Option, Some, None, slice_get, refl}
use Rattle.std.specs.Bool.{OnTrue}
use Rattle.std.specs.Option.{MatchOption, option_map}
use Rattle.std.specs.List.{find, filter, flat_map, AllByRecursion}
use Rattle.std.proofs.Common.{ap, sym, ◌∙◌, subst, append_assoc, append-nil, length-drop, arith}
use Rattle.std.specs.Int.{w128}
use mir.Val.{SFits, of_z, to_z}
use Rattle.std.proofs.lemmas.Int.{to_z-of_z}
use Rattle.std.proofs.lemmas.List.{take_all}
use Rattle.mm_num.specs.Small.{IsSmall}
use Rattle.goal_ast.specs.declared.goal.Bound.{Bound}
use Rattle.goal_ast.specs.declared.goal.Goal.{Goal}
use Rattle.goal_ast.specs.declared.goal.Assignment.{Assignment}
use Rattle.goal_ast.specs.Range.{sorts_of, IsInRange}
use Rattle.goal_ast.specs.Fitting.{is_in_sort, fits_bound, all_fit}
use Rattle.goal_ast.proofs.FittingLaws.{in_range_is}
use Rattle.box_enum.specs.Cube.{cube_points, fails_at, cube_of}
use Rattle.box_enum.specs.machine.Trying.{fails_after, IsFoundIn, points_from, points_with, points_with_one_of}
use Rattle.box_enum.proofs.FindLaws.{find_here, find_later, find_first, find_second, find_map, find_map_none, find_same}

pub found_first : (goal : Goal) (xs ys : List (List ℤ)) (chosen after : List ℤ) → IsFoundIn goal xs chosen true after → IsFoundIn goal (xs ++ ys) chosen true after
found_first goal xs ys chosen after f = (f.0, find_first (fails_after goal chosen) xs ys f.0 f.1, f.2)

pub found_second : (goal : Goal) (xs ys : List (List ℤ)) (chosen middle after : List ℤ) (found : Bool) → IsFoundIn goal xs chosen false middle → IsFoundIn goal ys middle found after → IsFoundIn goal (xs ++ ys) chosen found after
found_second goal xs ys chosen middle after true n f =
    let g = subst (λ zs. IsFoundIn goal ys zs true after) n.1 f in
    (g.0, find_second (fails_after goal chosen) xs ys n.0 ∙ g.1, g.2)
found_second goal xs ys chosen middle after false n f =
    let g = subst (λ zs. IsFoundIn goal ys zs false after) n.1 f in
    (find_second (fails_after goal chosen) xs ys n.0 ∙ g.0, g.1)

regroup : (goal : Goal) (chosen : List ℤ) (z : ℤ) (zs : List ℤ) → fails_after goal (chosen ++ z ∷ []) zs ≡ fails_after goal chosen (z ∷ zs)
regroup goal chosen z zs = ap (fails_at goal) (append_assoc chosen (z ∷ []) zs)

pub found_with : (goal : Goal) (points : List (List ℤ)) (chosen after : List ℤ) (z : ℤ) → IsFoundIn goal points (chosen ++ z ∷ []) true after → IsFoundIn goal (points_with z points) chosen true after
found_with goal points chosen after z f = (z ∷ f.0, find_map (fails_after goal chosen) (λ zs. z ∷ zs) points f.0 (sym (find_same _ _ points (regroup goal chosen z)) ∙ f.1), f.2 ∙ append_assoc chosen (z ∷ []) f.0)

pub found_none_with : (goal : Goal) (points : List (List ℤ)) (chosen after : List ℤ) (z : ℤ) → IsFoundIn goal points (chosen ++ z ∷ []) false after
    → (find (fails_after goal chosen) (points_with z points) ≡ None) × (after ≡ chosen ++ z ∷ [])
found_none_with goal points chosen after z f = (find_map_none (fails_after goal chosen) (λ zs. z ∷ zs) points (sym (find_same _ _ points (regroup goal chosen z)) ∙ f.0), f.1)

-- ---- the values of one variable

in_bits : (z : ℤ) → IsSmall z → SFits w128 z
in_bits (pos n) small = record { sfits = omega arith }
in_bits (negsuc n) small = record { sfits = omega arith }

-- a small number is itself in 128 bits
pub small_again : (z : ℤ) → IsSmall z → to_z w128 (of_z w128 z) ≡ z
small_again z h = to_z-of_z w128 z (in_bits z h)

by_sort : (c : Bool) (z : ℤ) (zs : List ℤ) (points : List (List ℤ)) → flat_map (λ y. points_with y points) (cond c (z ∷ zs) zs)
    ≡ flat_map (λ y. points_with y points) (cond c (z ∷ []) []) ++ flat_map (λ y. points_with y points) zs
by_sort true z zs points = ap (λ ps. ps ++ flat_map (λ y. points_with y points) zs) (sym (append-nil (points_with z points)))
by_sort false z zs points = refl

pub first_value : (b : Bound) (z : ℤ) (zs : List ℤ) (points : List (List ℤ)) → points_with_one_of b (z ∷ zs) points ≡ points_with_one_of b (z ∷ []) points ++ points_with_one_of b zs points
first_value b z zs points = by_sort (is_in_sort b.sort z) z (filter (is_in_sort b.sort) zs) points

pub its_value : (b : Bound) (z : ℤ) (points : List (List ℤ)) → is_in_sort b.sort z ≡ true → points_with_one_of b (z ∷ []) points ≡ points_with z points
its_value b z points e = ap (λ c. flat_map (λ y. points_with y points) (cond c (z ∷ []) [])) e ∙ append-nil (points_with z points)

pub no_value : (b : Bound) (z : ℤ) (points : List (List ℤ)) → is_in_sort b.sort z ≡ false → points_with_one_of b (z ∷ []) points ≡ []
no_value b z points e = ap (λ c. flat_map (λ y. points_with y points) (cond c (z ∷ []) [])) e

-- ---- the variables from a place on

pub drop_next : (vars : List Bound) (k : ℕ) (b : Bound) → slice_get vars k ≡ Some b → drop k vars ≡ b ∷ drop (suc k) vars
drop_next [] k b e = absurd cc
drop_next (v ∷ vars) zero b e = let f : v ≡ b = cc in ap (λ w. w ∷ vars) f
drop_next (v ∷ vars) (suc k) b e = drop_next vars k b e

pub next_within : (vars : List Bound) (k : ℕ) (b : Bound) → slice_get vars k ≡ Some b → suc k ≤ length vars
next_within [] k b e = absurd cc
next_within (v ∷ vars) zero b e = omega arith
next_within (v ∷ vars) (suc k) b e = let h = next_within vars k b e in omega arith

pub drop_all : (vars : List Bound) (k : ℕ) → slice_get vars k ≡ None → drop k vars ≡ []
drop_all [] zero e = refl
drop_all [] (suc k) e = refl
drop_all (v ∷ vars) zero e = absurd cc
drop_all (v ∷ vars) (suc k) e = drop_all vars k e

one_fits : (b : Bound) (z : ℤ) → fits_bound b z ≡ true → (vars : List Bound) → all_fit (b ∷ vars) (z ∷ []) ≡ true
one_fits b z g [] = rw g refl
one_fits b z g (v ∷ vars) = rw g refl

pub within_none : (vars : List Bound) (k : ℕ) → slice_get vars k ≡ None → length vars ≤ k
within_none [] k e = omega arith
within_none (v ∷ vars) zero e = absurd cc
within_none (v ∷ vars) (suc k) e = let h = within_none vars k e in omega arith

pub whole_fits : (goal : Goal) (a : Assignment) → length a.values ≤ length goal.vars → slice_get goal.vars (length a.values) ≡ None → all_fit goal.vars a.values ≡ true → IsInRange goal a
whole_fits goal a l n f = in_range_is goal a (omega (arith, l, within_none goal.vars (length a.values) n)) f

pub fit_one_more : (vars : List Bound) (zs : List ℤ) (b : Bound) (z : ℤ) → slice_get vars (length zs) ≡ Some b → all_fit vars zs ≡ true → fits_bound b z ≡ true → all_fit vars (zs ++ z ∷ []) ≡ true
fit_one_more [] zs b z e f g = absurd cc
fit_one_more (v ∷ vars) [] b z e f g = let h : b ≡ v = cc in subst (λ w. all_fit (w ∷ vars) (z ∷ []) ≡ true) h (one_fits b z g vars)
fit_one_more (v ∷ vars) (y ∷ zs) b z e f g = by_first (fits_bound v y) (λ h. fit_one_more vars zs b z e h g) f
  where
    by_first : (c : Bool) → (all_fit vars zs ≡ true → all_fit vars (zs ++ z ∷ []) ≡ true) → (c && all_fit vars zs) ≡ true → (c && all_fit vars (zs ++ z ∷ [])) ≡ true
    by_first true k h = k h
    by_first false k h = absurd cc

pub length_more : (zs : List ℤ) (z : ℤ) → length (zs ++ z ∷ []) ≡ suc (length zs)
length_more [] z = refl
length_more (y ∷ zs) z = ap suc (length_more zs z)

same_front : (xs ys : List ℤ) (x y : ℤ) → xs ++ x ∷ [] ≡ ys ++ y ∷ [] → xs ≡ ys
same_front [] [] x y e = refl
same_front [] (w ∷ []) x y e = absurd cc
same_front [] (w ∷ v ∷ ys) x y e = absurd cc
same_front (w ∷ []) [] x y e = absurd cc
same_front (w ∷ v ∷ xs) [] x y e = absurd cc
same_front (w ∷ xs) (v ∷ ys) x y e = let h : w ≡ v = cc in let t : xs ++ x ∷ [] ≡ ys ++ y ∷ [] = cc in let r = same_front xs ys x y t in cc

-- the values that are tried
abbrev pub all_values : List ℤ
all_values = pos 0 ∷ pos 1 ∷ negsuc 0 ∷ pos 2 ∷ negsuc 1 ∷ []

-- ---- the search

pub found_none : (goal : Goal) (b : Bound) (z : ℤ) (points : List (List ℤ)) (chosen : List ℤ) → is_in_sort b.sort z ≡ false → IsFoundIn goal (points_with_one_of b (z ∷ []) points) chosen false chosen
found_none goal b z points chosen e = (ap (find (fails_after goal chosen)) (no_value b z points e), refl)

pub pushed_found : (goal : Goal) (b : Bound) (z : ℤ) (chosen pushed after : List ℤ) → is_in_sort b.sort z ≡ true → pushed ≡ chosen ++ z ∷ []
    → IsFoundIn goal (points_from (length pushed) goal) pushed true after → IsFoundIn goal (points_with_one_of b (z ∷ []) (points_from (suc (length chosen)) goal)) chosen true after
pushed_found goal b z chosen pushed after e p f =
    let l : length pushed ≡ suc (length chosen) = ap (λ (zs : List ℤ). length zs) p ∙ length_more chosen z in
    let g : IsFoundIn goal (points_from (suc (length chosen)) goal) (chosen ++ z ∷ []) true after = subst (λ zs. IsFoundIn goal (points_from (suc (length chosen)) goal) zs true after) p (subst (λ k. IsFoundIn goal (points_from k goal) pushed true after) l f) in
    subst (λ ps. IsFoundIn goal ps chosen true after) (sym (its_value b z (points_from (suc (length chosen)) goal) e)) (found_with goal (points_from (suc (length chosen)) goal) chosen after z g)

-- without its last value a list is what it was before that was put behind it
popped_is : (o : Option ℤ) (old new chosen : List ℤ) (z : ℤ) → MatchOption o ((old ≡ []) × (new ≡ [])) (λ last. old ≡ new ++ last ∷ []) → old ≡ chosen ++ z ∷ [] → new ≡ chosen
popped_is (Some y) old new chosen z m e = same_front new chosen y z (sym m ∙ e)
popped_is None old new [] z m e = m.1
popped_is None old new (w ∷ chosen) z m e = let n = m.0 in absurd cc

pub popped_found : (goal : Goal) (b : Bound) (z : ℤ) (chosen pushed after popped : List ℤ) (o : Option ℤ) → is_in_sort b.sort z ≡ true → pushed ≡ chosen ++ z ∷ []
    → IsFoundIn goal (points_from (length pushed) goal) pushed false after → MatchOption o ((after ≡ []) × (popped ≡ [])) (λ last. after ≡ popped ++ last ∷ [])
    → IsFoundIn goal (points_with_one_of b (z ∷ []) (points_from (suc (length chosen)) goal)) chosen false popped
popped_found goal b z chosen pushed after popped o e p f q =
    let l : length pushed ≡ suc (length chosen) = ap (λ (zs : List ℤ). length zs) p ∙ length_more chosen z in
    let g : IsFoundIn goal (points_from (suc (length chosen)) goal) (chosen ++ z ∷ []) false after = subst (λ zs. IsFoundIn goal (points_from (suc (length chosen)) goal) zs false after) p (subst (λ k. IsFoundIn goal (points_from k goal) pushed false after) l f) in
    let n = found_none_with goal (points_from (suc (length chosen)) goal) chosen after z g in
    (ap (find (fails_after goal chosen)) (its_value b z (points_from (suc (length chosen)) goal) e) ∙ n.0, popped_is o after popped chosen z q n.1)

pub leaf_found : (goal : Goal) (chosen : List ℤ) (found : Bool) → slice_get goal.vars (length chosen) ≡ None → found ≡ fails_at goal chosen → IsFoundIn goal (points_from (length chosen) goal) chosen found chosen
leaf_found goal chosen found n e = subst (λ ps. IsFoundIn goal ps chosen found chosen) (sym (ap (λ vars. cube_points (sorts_of vars)) (drop_all goal.vars (length chosen) n))) (at_end found (e ∙ sym (ap (fails_at goal) (append-nil chosen))))
  where
    at_end : (b : Bool) → b ≡ fails_after goal chosen [] → IsFoundIn goal ([] ∷ []) chosen b chosen
    at_end true f = ([], find_here (fails_after goal chosen) [] [] (sym f), sym (append-nil chosen))
    at_end false f = (find_later (fails_after goal chosen) [] [] (sym f), refl)

pub next_found : (goal : Goal) (b : Bound) (chosen after : List ℤ) (found : Bool) → slice_get goal.vars (length chosen) ≡ Some b
    → IsFoundIn goal (points_with_one_of b all_values (points_from (suc (length chosen)) goal)) chosen found after → IsFoundIn goal (points_from (length chosen) goal) chosen found after
next_found goal b chosen after found e f = subst (λ vars. IsFoundIn goal (cube_points (sorts_of vars)) chosen found after) (sym (drop_next goal.vars (length chosen) b e)) f

pub value_found : (goal : Goal) (b : Bound) (z : ℤ) (zs : List ℤ) (chosen after : List ℤ) (points : List (List ℤ)) → IsFoundIn goal (points_with_one_of b (z ∷ []) points) chosen true after
    → IsFoundIn goal (points_with_one_of b (z ∷ zs) points) chosen true after
value_found goal b z zs chosen after points f = subst (λ ps. IsFoundIn goal ps chosen true after) (sym (first_value b z zs points)) (found_first goal (points_with_one_of b (z ∷ []) points) (points_with_one_of b zs points) chosen after f)

pub values_found : (goal : Goal) (b : Bound) (z : ℤ) (zs : List ℤ) (chosen middle after : List ℤ) (points : List (List ℤ)) (found : Bool) → IsFoundIn goal (points_with_one_of b (z ∷ []) points) chosen false middle
    → IsFoundIn goal (points_with_one_of b zs points) middle found after → IsFoundIn goal (points_with_one_of b (z ∷ zs) points) chosen found after
values_found goal b z zs chosen middle after points found n f =
    subst (λ ps. IsFoundIn goal ps chosen found after) (sym (first_value b z zs points)) (found_second goal (points_with_one_of b (z ∷ []) points) (points_with_one_of b zs points) chosen middle after found n f)

-- ---- lists

pub first_and_rest : (zs : List ℤ) (z : ℤ) → slice_get zs 0 ≡ Some z → zs ≡ z ∷ drop 1 zs
first_and_rest [] z e = absurd cc
first_and_rest (y ∷ zs) z e = let h : y ≡ z = cc in ap (λ x. x ∷ zs) h

pub first_small : (zs : List ℤ) (z : ℤ) (rest : List ℤ) → zs ≡ z ∷ rest → AllByRecursion IsSmall zs → IsSmall z
first_small zs z rest e a = (subst (λ ys. AllByRecursion IsSmall ys) e a).0

pub to_end : (i : ℕ) (zs : List ℤ) → take (length zs - i) (drop i zs) ≡ drop i zs
to_end i zs = take_all (length zs - i) (drop i zs) (omega (arith, length-drop i zs))

pub on_true : {P : Type 0} → (b : Bool) → P → OnTrue b P
on_true true p = p
on_true false p = tt

-- ---- the cube

abbrev as_assignment : List ℤ → Assignment
as_assignment zs = record { values = zs }

few_vars : (goal : Goal) → length goal.vars ≤ 6 → nat_le (length goal.vars) 6 ≡ true
few_vars goal l = grind arith

pub none_fit : (vars : List Bound) → all_fit vars [] ≡ true
none_fit [] = refl
none_fit (b ∷ vars) = refl

pub cube_found : (goal : Goal) (start after : List ℤ) → start ≡ [] → length goal.vars ≤ 6 → IsFoundIn goal (points_from (length start) goal) start true after → Some (record { values = after }) ≡ cube_of goal
cube_found goal start after s l f =
    let g = subst (λ zs. IsFoundIn goal (points_from (length zs) goal) zs true after) s f in
    sym (ap (λ b. if b then option_map as_assignment (find (fails_at goal) (cube_points (sorts_of goal.vars))) else None) (few_vars goal l) ∙ ap (option_map as_assignment) g.1 ∙ ap (λ zs. Some (as_assignment zs)) (sym g.2))

pub cube_none : (goal : Goal) (start after : List ℤ) → start ≡ [] → length goal.vars ≤ 6 → IsFoundIn goal (points_from (length start) goal) start false after → None ≡ cube_of goal
cube_none goal start after s l f =
    let g = subst (λ zs. IsFoundIn goal (points_from (length zs) goal) zs false after) s f in
    sym (ap (λ b. if b then option_map as_assignment (find (fails_at goal) (cube_points (sorts_of goal.vars))) else None) (few_vars goal l) ∙ ap (option_map as_assignment) g.0)
