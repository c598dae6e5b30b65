-- The points of the cube are the assignments in range with values from -2 to 2.
use Rattle.std.specs.Prelude.{◌≡◌, ◌⊎◌, zero, suc, ◌≤◌, ℤ, pos, negsuc, unsigned_abs, List, [], ◌∷◌, ◌++◌, length, map, Bool, true, false, ◌&&◌, cond, nat_le, if◌then◌else◌, Option, Some, None, refl}
use Rattle.std.specs.Option.{option_map}
use Rattle.std.specs.List.{find, filter, flat_map, AllByRecursion}
use Rattle.std.proofs.Common.{ap, sym, ◌∙◌, subst, arith, inl, inr}
use Rattle.goal_ast.specs.declared.term.Sort.{Sort}
use Rattle.goal_ast.specs.declared.term.Sort.TheVariants as sorts
use Rattle.goal_ast.specs.declared.goal.Bound.{Bound}
use Rattle.goal_ast.specs.declared.goal.Goal.{Goal}
use Rattle.goal_ast.specs.declared.goal.Assignment.{Assignment}
use Rattle.goal_ast.specs.declared.types.Eval.{Eval}
use Rattle.goal_ast.specs.declared.types.Eval.TheVariants as evals
use Rattle.goal_ast.specs.Range.{IsInRange, point_of, sorts_of}
use Rattle.goal_ast.specs.Fitting.{is_in_sort, fits_bound, all_fit}
use Rattle.goal_ast.specs.Evaluation.{eval_of}
use Rattle.goal_ast.proofs.FittingLaws.{in_range_is, in_range_test}
use Rattle.box_enum.specs.Cube.{cube_values, cube_points, is_eval_false, fails_at, cube_of}
use Rattle.box_enum.proofs.FindLaws.{find_passes}

-- ---- each point of the cube is in range

-- one value for each of the variables, and each fits
abbrev Suits : List Bound → List ℤ → Type 0
Suits vars zs = (length zs ≡ length vars) × (all_fit vars zs ≡ true)

all_append : {A : Type 0} → (P : A → Type 0) (xs ys : List A) → AllByRecursion P xs → AllByRecursion P ys → AllByRecursion P (xs ++ ys)
all_append P [] ys h k = k
all_append P (x ∷ xs) ys h k = (h.0, all_append P xs ys h.1 k)

one_more : (b : Bound) (vars : List Bound) (z : ℤ) → fits_bound b z ≡ true → (points : List (List ℤ)) → AllByRecursion (Suits vars) points → AllByRecursion (Suits (b ∷ vars)) (map (λ zs. z ∷ zs) points)
one_more b vars z f [] a = tt
one_more b vars z f (zs ∷ points) a = ((ap suc a.0.0, ap (λ c. c && all_fit vars zs) f ∙ a.0.1), one_more b vars z f points a.1)

each_value : (b : Bound) (vars : List Bound) (points : List (List ℤ)) → AllByRecursion (Suits vars) points → (values : List ℤ) → AllByRecursion (λ z. fits_bound b z ≡ true) values
    → AllByRecursion (Suits (b ∷ vars)) (flat_map (λ z. map (λ zs. z ∷ zs) points) values)
each_value b vars points a [] f = tt
each_value b vars points a (z ∷ values) f =
    all_append (Suits (b ∷ vars)) (map (λ zs. z ∷ zs) points) (flat_map (λ y. map (λ zs. y ∷ zs) points) values) (one_more b vars z f.0 points a) (each_value b vars points a values f.1)

values_fit : (b : Bound) → AllByRecursion (λ z. fits_bound b z ≡ true) (cube_values b.sort)
values_fit b = by_sort b.sort
  where
    by_sort : (s : Sort) → AllByRecursion (λ z. fits_bound (record { name = b.name; sort = s }) z ≡ true) (cube_values s)
    by_sort sorts.Int = (refl, (refl, (refl, (refl, (refl, tt)))))
    by_sort sorts.Bin = (refl, (refl, (refl, tt)))
    by_sort sorts.Nat = (refl, (refl, (refl, tt)))
    by_sort sorts.Pos = (refl, (refl, tt))
    by_sort sorts.Bool = (refl, (refl, tt))

points_suit : (vars : List Bound) → AllByRecursion (Suits vars) (cube_points (sorts_of vars))
points_suit [] = ((refl, refl), tt)
points_suit (b ∷ vars) = each_value b vars (cube_points (sorts_of vars)) (points_suit vars) (cube_values b.sort) (values_fit b)

find_among : {A : Type 0} → (P : A → Type 0) (test : A → Bool) (xs : List A) (x : A) → AllByRecursion P xs → find test xs ≡ Some x → P x
find_among P test [] x a e = absurd cc
find_among P test (y ∷ xs) x a e = by_test (test y) (find_among P test xs x a.1) e
  where
    by_test : (c : Bool) → (find test xs ≡ Some x → P x) → cond c (Some y) (find test xs) ≡ Some x → P x
    by_test true f h = let s : y ≡ x = cc in subst P s a.0
    by_test false f h = f h

is_false : (r : Eval) → is_eval_false r ≡ true → r ≡ evals.False
is_false evals.True e = absurd cc
is_false evals.False e = refl
is_false evals.Big e = absurd cc

abbrev as_assignment : List ℤ → Assignment
as_assignment zs = record { values = zs }

found_there : (few : Bool) (o : Option (List ℤ)) (a : Assignment) → (if few then option_map as_assignment o else None) ≡ Some a → o ≡ Some a.values
found_there true (Some zs) a e = let s : as_assignment zs ≡ a = cc in ap (λ (b : Assignment). Some b.values) s
found_there true None a e = absurd cc
found_there false o a e = absurd cc

pub cube_falsifies : (goal : Goal) (a : Assignment) → cube_of goal ≡ Some a → IsInRange goal a × (eval_of (point_of a.values) goal.body ≡ evals.False)
cube_falsifies goal a e =
    let points = cube_points (sorts_of goal.vars) in
    let f : find (fails_at goal) points ≡ Some a.values = found_there (nat_le (length goal.vars) 6) (find (fails_at goal) points) a e in
    let s = find_among (Suits goal.vars) (fails_at goal) points a.values (points_suit goal.vars) f in
    (in_range_is goal a s.0 s.1, is_false (eval_of (point_of a.values) goal.body) (find_passes (fails_at goal) points a.values f))

-- ---- and each such assignment is one of them

-- one of the elements
abbrev Among : {A : Type 0} → A → List A → Type 0
Among x [] = ⊥
Among x (y ∷ ys) = (x ≡ y) ⊎ Among x ys

among_first : {A : Type 0} → (x : A) (xs ys : List A) → Among x xs → Among x (xs ++ ys)
among_first x [] ys h = absurd h
among_first x (y ∷ xs) ys (inl e) = inl e
among_first x (y ∷ xs) ys (inr h) = inr (among_first x xs ys h)

among_second : {A : Type 0} → (x : A) (xs ys : List A) → Among x ys → Among x (xs ++ ys)
among_second x [] ys h = h
among_second x (y ∷ xs) ys h = inr (among_second x xs ys h)

among_with : (z : ℤ) (zs : List ℤ) (points : List (List ℤ)) → Among zs points → Among (z ∷ zs) (map (λ ys. z ∷ ys) points)
among_with z zs [] h = absurd h
among_with z zs (ys ∷ points) (inl e) = inl (ap (λ xs. z ∷ xs) e)
among_with z zs (ys ∷ points) (inr h) = inr (among_with z zs points h)

among_each : (z : ℤ) (zs : List ℤ) (points : List (List ℤ)) → Among zs points → (values : List ℤ) → Among z values → Among (z ∷ zs) (flat_map (λ y. map (λ ys. y ∷ ys) points) values)
among_each z zs points h [] k = absurd k
among_each z zs points h (y ∷ values) (inl e) =
    subst (λ x. Among (z ∷ zs) (map (λ ys. x ∷ ys) points ++ flat_map (λ x. map (λ ys. x ∷ ys) points) values)) e (among_first (z ∷ zs) (map (λ ys. z ∷ ys) points) (flat_map (λ x. map (λ ys. x ∷ ys) points) values) (among_with z zs points h))
among_each z zs points h (y ∷ values) (inr k) = among_second (z ∷ zs) (map (λ ys. y ∷ ys) points) (flat_map (λ x. map (λ ys. x ∷ ys) points) values) (among_each z zs points h values k)

among_kept : (test : ℤ → Bool) (z : ℤ) (values : List ℤ) → test z ≡ true → Among z values → Among z (filter test values)
among_kept test z [] t h = absurd h
among_kept test z (y ∷ values) t (inl e) =
    let s : test y ≡ true = ap test (sym e) ∙ t in
    subst (λ (c : Bool). Among z (cond c (y ∷ filter test values) (filter test values))) (sym s) (inl e)
among_kept test z (y ∷ values) t (inr h) = by_test (test y) (among_kept test z values t h)
  where
    by_test : (c : Bool) → Among z (filter test values) → Among z (cond c (y ∷ filter test values) (filter test values))
    by_test true k = inr k
    by_test false k = k

abbrev tried : List ℤ
tried = pos 0 ∷ pos 1 ∷ negsuc 0 ∷ pos 2 ∷ negsuc 1 ∷ []

among_tried : (z : ℤ) → unsigned_abs z ≤ 2 → Among z tried
among_tried (pos zero) h = inl refl
among_tried (pos (suc zero)) h = inr (inl refl)
among_tried (pos (suc (suc zero))) h = inr (inr (inr (inl refl)))
among_tried (pos (suc (suc (suc n)))) h = absurd (omega arith)
among_tried (negsuc zero) h = inr (inr (inl refl))
among_tried (negsuc (suc zero)) h = inr (inr (inr (inr (inl refl))))
among_tried (negsuc (suc (suc n))) h = absurd (omega arith)

first_sort : (b : Bound) (z : ℤ) (vars : List Bound) (zs : List ℤ) → all_fit (b ∷ vars) (z ∷ zs) ≡ true → is_in_sort b.sort z ≡ true
first_sort b z vars zs f = grind (arith, f)

other_fits : (b : Bound) (z : ℤ) (vars : List Bound) (zs : List ℤ) → all_fit (b ∷ vars) (z ∷ zs) ≡ true → all_fit vars zs ≡ true
other_fits b z vars zs f = by_first (fits_bound b z) f
  where
    by_first : (c : Bool) → (c && all_fit vars zs) ≡ true → all_fit vars zs ≡ true
    by_first true h = h
    by_first false h = absurd cc

pub among_points : (vars : List Bound) (zs : List ℤ) → length zs ≡ length vars → all_fit vars zs ≡ true → AllByRecursion (λ z. unsigned_abs z ≤ 2) zs → Among zs (cube_points (sorts_of vars))
among_points [] [] l f a = inl refl
among_points [] (z ∷ zs) l f a = absurd (omega arith)
among_points (b ∷ vars) [] l f a = absurd (omega arith)
among_points (b ∷ vars) (z ∷ zs) l f a =
    among_each z zs (cube_points (sorts_of vars)) (among_points vars zs (omega arith) (other_fits b z vars zs f) a.1) (cube_values b.sort)
    (among_kept (is_in_sort b.sort) z tried (first_sort b z vars zs f) (among_tried z a.0))

none_passes : {A : Type 0} → (test : A → Bool) (xs : List A) (x : A) → find test xs ≡ None → Among x xs → test x ≡ false
none_passes test [] x e h = absurd h
none_passes test (y ∷ xs) x e h = by_test (test y) refl (λ f k. none_passes test xs x f k) e h
  where
    by_test : (c : Bool) → test y ≡ c → (find test xs ≡ None → Among x xs → test x ≡ false) → cond c (Some y) (find test xs) ≡ None → Among x (y ∷ xs) → test x ≡ false
    by_test true t f n k = absurd cc
    by_test false t f n (inl s) = ap test s ∙ t
    by_test false t f n (inr k) = f n k

none_there : (goal : Goal) → length goal.vars ≤ 6 → cube_of goal ≡ None → find (fails_at goal) (cube_points (sorts_of goal.vars)) ≡ None
none_there goal l e =
    let few : nat_le (length goal.vars) 6 ≡ true = grind (arith, l) in
    by_option (find (fails_at goal) (cube_points (sorts_of goal.vars))) (sym (ap (λ c. if c then option_map as_assignment (find (fails_at goal) (cube_points (sorts_of goal.vars))) else None) few) ∙ e)
  where
    by_option : (o : Option (List ℤ)) → option_map as_assignment o ≡ None → o ≡ None
    by_option (Some zs) h = absurd cc
    by_option None h = refl

pub cube_misses_none : (goal : Goal) (a : Assignment) → cube_of goal ≡ None → length goal.vars ≤ 6 → IsInRange goal a → AllByRecursion (λ z. unsigned_abs z ≤ 2) a.values → eval_of (point_of a.values) goal.body ≡ evals.False → ⊥
cube_misses_none goal a e l r s f =
    let t : fails_at goal a.values ≡ false = none_passes (fails_at goal) (cube_points (sorts_of goal.vars)) a.values (none_there goal l e) (among_points goal.vars a.values r.one_each (in_range_test goal a r) s) in
    let u : fails_at goal a.values ≡ true = ap is_eval_false f in
    absurd cc
