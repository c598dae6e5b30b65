-- What the walk over a goal's body finds is the goal's translation, and what its measures say.
use Rattle.std.specs.Prelude.{◌≡◌, ◌↔◌, ℕ, ◌+◌, ◌^◌, ◌<◌, ◌≤◌, nat_lt, Bool, true, false, List, [], ◌++◌, length, drop, refl, Option, Some, None, Result, Ok, Err, IfOk, IsErrOf, if◌then◌else◌}
use Rattle.std.proofs.Common.{ap, sym, ◌∙◌, subst, arith, get_or, append_assoc}
use Rattle.std.proofs.lemmas.List.{append-nil, at_drop_more, at_drop_all, length-map}
use Rattle.goal_ast.specs.declared.goal.Bound.{Bound}
use Rattle.goal_ast.specs.declared.goal.Goal.{Goal}
use Rattle.goal_ast.specs.Range.{IsValid, sorts_of}
use Rattle.goal_ast.specs.Sorted.{IsWellFormed}
use Rattle.goal_ast.proofs.CountingLaws.{both_same}
use Rattle.zify.specs.declared.form.ZForm.{ZForm}
use Rattle.zify.specs.declared.goal.ZGoal.{ZGoal}
use Rattle.goal_measure.specs.declared.measure.Measure.{Measure}
use Rattle.zify.specs.declared.fail.ZFail.{ZFail}
use Rattle.zify.specs.declared.fail.ZFail.TheVariants as fails
use Rattle.zify.specs.Measure.{greatest_of, IsWithinLimits, IsTooHeavy, IsTooWide, IsTooSteep}
use Rattle.zify.specs.Operations.{distinct_operations}
use Rattle.zify.specs.Translation.{range_of, ranges_from, form_of, table_of, translated}
use Rattle.zify.specs.Truth.{IsValidTranslated}
use Rattle.goal_measure.specs.Bounding.{formula_bound}
use Rattle.zify.specs.machine.Refusal.{refused, Zified}
use Rattle.zify.specs.machine.Table.{State}
use Rattle.zify.specs.machine.Walking.{Formed, formula_walk}
use Rattle.zify.proofs.NumberLaws.{id_in, keeps_self}
use Rattle.zify.proofs.WalkLaws.{Represents}
use Rattle.zify.proofs.FormLaws.{Forms, formula_formed}
use Rattle.zify.proofs.LimitLaws.{weight_exactly, spread_exactly, degree_exactly}
use Rattle.zify.proofs.TranslationLaws.{law}
use Rattle.mm_num.proofs.TestLaws.{is_below}

-- ---- ranges

pub ranges_step : (vars : List Bound) (at : ℕ) (b : Bound) → at < length vars → ranges_from at (sorts_of (drop at vars)) ≡ range_of at (get_or vars at b).sort ++ ranges_from (at + 1) (sorts_of (drop (at + 1) vars))
ranges_step vars at b h = at_drop_more (λ (bs : List Bound). ranges_from at (sorts_of bs)) vars at b h

pub ranges_on : (out : List ZForm) (vars : List Bound) (at : ℕ) (b : Bound) → at < length vars → b ≡ get_or vars at b
    → (out ++ range_of at b.sort) ++ ranges_from (at + 1) (sorts_of (drop (at + 1) vars)) ≡ out ++ ranges_from at (sorts_of (drop at vars))
ranges_on out vars at b h e =
    let rest = ranges_from (at + 1) (sorts_of (drop (at + 1) vars)) in
    append_assoc out (range_of at b.sort) rest
    ∙ ap (λ (c : Bound). out ++ (range_of at c.sort ++ rest)) e
    ∙ ap (λ fs. out ++ fs) (sym (ranges_step vars at b h))

pub ranges_end : (out : List ZForm) (vars : List Bound) (at : ℕ) → length vars ≤ at → out ++ ranges_from at (sorts_of (drop at vars)) ≡ out
ranges_end out vars at h = ap (λ fs. out ++ fs) (at_drop_all (λ (bs : List Bound). ranges_from at (sorts_of bs)) vars at h) ∙ append-nil out

-- ---- the whole goal

abbrev pub ranges_of : Goal → List ZForm
ranges_of goal = ranges_from 0 (sorts_of goal.vars)

-- nothing found yet
abbrev pub begun : Goal → State
begun goal = record { shapes = []; operations = []; conditions = ranges_of goal }

begun_represents : (goal : Goal) → Represents (table_of goal) (ranges_of goal) [] [] (begun goal)
begun_represents goal = record { closed = tt; shapes = refl; found = tt; operations = refl; conditions = sym (append-nil (ranges_of goal)) }

found : (goal : Goal) → Forms (table_of goal) (ranges_of goal) (distinct_operations goal.body) (form_of (table_of goal) goal.body) (formula_walk (length goal.vars) goal.body (begun goal))
found goal = formula_formed (table_of goal) (ranges_of goal) goal.body [] [] (begun goal) (begun_represents goal) (keeps_self (distinct_operations goal.body))

pub form_found : (goal : Goal) → (formula_walk (length goal.vars) goal.body (begun goal)).form ≡ form_of (table_of goal) goal.body
form_found goal = (found goal).form

pub conditions_found : (goal : Goal) → (formula_walk (length goal.vars) goal.body (begun goal)).state.conditions ≡ (translated goal).hyps
conditions_found goal = (found goal).state.conditions

pub count_found : (goal : Goal) → length (formula_walk (length goal.vars) goal.body (begun goal)).state.operations ≡ length (distinct_operations goal.body)
count_found goal = ap (λ ns. length ns) (found goal).state.operations ∙ length-map (distinct_operations goal.body) (id_in (found goal).after)

abbrev pub z_goal : ℕ → ℕ → List ZForm → ZForm → ZGoal
z_goal v b hs f = record { vars = v; bound = b; hyps = hs; body = f }

-- what the code joins is the translation
pub translated_is : (goal : Goal) (n v : ℕ) (hs : List ZForm) (f : ZForm) (s : State) → s ≡ (formula_walk (length goal.vars) goal.body (begun goal)).state → f ≡ (formula_walk (length goal.vars) goal.body (begun goal)).form
    → n ≡ length s.operations → hs ≡ s.conditions → v ≡ length goal.vars + n → z_goal v (length goal.vars) hs f ≡ translated goal
translated_is goal n v hs f s e i j k l =
    let b = length goal.vars in
    ap (λ (x : ℕ). z_goal x b hs f) (l ∙ ap (λ m. b + m) (j ∙ ap (λ (r : State). length r.operations) e ∙ count_found goal))
    ∙ ap (λ (xs : List ZForm). z_goal (translated goal).vars b xs f) (k ∙ ap (λ (r : State). r.conditions) e ∙ conditions_found goal)
    ∙ ap (λ (g : ZForm). z_goal (translated goal).vars b (translated goal).hyps g) (i ∙ form_found goal)

pub translated_whole : (goal : Goal) (b n : ℕ) (hs : List ZForm) (f : ZForm) (r s : State) → b ≡ length goal.vars → r ≡ begun goal → s ≡ (formula_walk b goal.body r).state → f ≡ (formula_walk b goal.body r).form
    → n ≡ length s.operations → hs ≡ s.conditions → z_goal (b + n) b hs f ≡ translated goal
translated_whole goal b n hs f r s h k e i j l =
    let w : formula_walk b goal.body r ≡ formula_walk (length goal.vars) goal.body (begun goal) = both_same (λ m t. formula_walk m goal.body t) _ _ _ _ h k in
    ap (λ m. z_goal (b + n) m hs f) h
    ∙ translated_is goal n (b + n) hs f s (e ∙ ap (λ (x : Formed). x.state) w) (i ∙ ap (λ (x : Formed). x.form) w) j l (ap (λ m. m + n) h)

-- ---- limits

abbrev Lights : Measure → Measure → Type 0
Lights m n = ((m.weight < 2 ^ 100) ↔ (n.weight < 2 ^ 100)) × ((m.spread < 257) ↔ (n.spread < 257)) × ((m.degree < 9) ↔ (n.degree < 9))

lights : (goal : Goal) → Lights (formula_bound goal.body) (greatest_of (translated goal))
lights goal = (weight_exactly goal, spread_exactly goal, degree_exactly goal)

-- what each refusal says of the measures
abbrev Says : Option ZFail → Measure → Type 0
Says None m = (m.weight < 2 ^ 100) × (m.spread < 257) × (m.degree < 9)
Says (Some fails.Weight) m = 2 ^ 100 ≤ m.weight
Says (Some fails.Spread) m = (m.weight < 2 ^ 100) × (257 ≤ m.spread)
Says (Some fails.Degree) m = (m.weight < 2 ^ 100) × (m.spread < 257) × (9 ≤ m.degree)
Says (Some fails.NoMemory) m = ⊥

reached : (n l : ℕ) → nat_lt n l ≡ false → l ≤ n
reached n l h = grind arith

says_by : (m : Measure) (a b c : Bool) → nat_lt m.weight (2 ^ 100) ≡ a → nat_lt m.spread 257 ≡ b → nat_lt m.degree 9 ≡ c
    → Says (if a then (if b then (if c then None else Some fails.Degree) else Some fails.Spread) else Some fails.Weight) m
says_by m true true true i j k = (is_below m.weight (2 ^ 100) i, is_below m.spread 257 j, is_below m.degree 9 k)
says_by m true true false i j k = (is_below m.weight (2 ^ 100) i, is_below m.spread 257 j, reached m.degree 9 k)
says_by m true false c i j k = (is_below m.weight (2 ^ 100) i, reached m.spread 257 j)
says_by m false b c i j k = reached m.weight (2 ^ 100) i

says : (m : Measure) → Says (refused m) m
says m = says_by m _ _ _ refl refl refl

back_over : (a b l : ℕ) → ((a < l) ↔ (b < l)) → l ≤ a → l ≤ b
back_over a b l h k = over (nat_lt b l) refl
  where
    over : (t : Bool) → nat_lt b l ≡ t → l ≤ b
    over true e = let g = h.1 (is_below b l e) in omega arith
    over false e = reached b l e

says_there : (o : Option ZFail) (m n : Measure) → Lights m n → Says o m → Says o n
says_there None m n l h = (l.0.0 h.0, l.1.0 h.1, l.2.0 h.2)
says_there (Some fails.Weight) m n l h = back_over m.weight n.weight (2 ^ 100) l.0 h
says_there (Some fails.Spread) m n l h = (l.0.0 h.0, back_over m.spread n.spread 257 l.1 h.1)
says_there (Some fails.Degree) m n l h = (l.0.0 h.0, l.1.0 h.1, back_over m.degree n.degree 9 l.2 h.2)
says_there (Some fails.NoMemory) m n l h = h

abbrev Answer : Type 0
Answer = Result ZGoal ZFail

heavy : (goal : Goal) (o : Option ZFail) (r : Answer) (n : Measure) → Zified goal o r → Says o n → IsErrOf r fails.Weight ↔ (2 ^ 100 ≤ n.weight)
heavy goal None (Ok z) n h k = (λ e. absurd (cc), λ g. absurd (omega arith))
heavy goal None (Err f) n h k = (λ e. absurd (cc), λ g. absurd (omega arith))
heavy goal (Some fails.Weight) r n h k = (λ e. k, λ g. h)
heavy goal (Some fails.Spread) r n h k = (λ e. absurd (cc), λ g. absurd (omega arith))
heavy goal (Some fails.Degree) r n h k = (λ e. absurd (cc), λ g. absurd (omega arith))
heavy goal (Some fails.NoMemory) r n h k = absurd k

wide : (goal : Goal) (o : Option ZFail) (r : Answer) (n : Measure) → Zified goal o r → Says o n → IsErrOf r fails.Spread ↔ ((n.weight < 2 ^ 100) × (256 < n.spread))
wide goal None (Ok z) n h k = (λ e. absurd (cc), λ g. absurd (omega arith))
wide goal None (Err f) n h k = (λ e. absurd (cc), λ g. absurd (omega arith))
wide goal (Some fails.Weight) r n h k = (λ e. absurd (cc), λ g. absurd (omega arith))
wide goal (Some fails.Spread) r n h k = (λ e. (k.0, omega arith), λ g. h)
wide goal (Some fails.Degree) r n h k = (λ e. absurd (cc), λ g. absurd (omega arith))
wide goal (Some fails.NoMemory) r n h k = absurd k

steep : (goal : Goal) (o : Option ZFail) (r : Answer) (n : Measure) → Zified goal o r → Says o n → IsErrOf r fails.Degree ↔ ((n.weight < 2 ^ 100) × (n.spread ≤ 256) × (8 < n.degree))
steep goal None (Ok z) n h k = (λ e. absurd (cc), λ g. absurd (omega arith))
steep goal None (Err f) n h k = (λ e. absurd (cc), λ g. absurd (omega arith))
steep goal (Some fails.Weight) r n h k = (λ e. absurd (cc), λ g. absurd (omega arith))
steep goal (Some fails.Spread) r n h k = (λ e. absurd (cc), λ g. absurd (omega arith))
steep goal (Some fails.Degree) r n h k = (λ e. (k.0, omega arith, omega arith), λ g. h)
steep goal (Some fails.NoMemory) r n h k = absurd k

-- where there is an answer, it is the translation, within the limits
given : (goal : Goal) (o : Option ZFail) (r : Answer) → Zified goal o r → Says o (greatest_of (translated goal)) → IfOk r (λ z. (z ≡ translated goal) × IsWithinLimits (translated goal))
given goal None (Ok z) h k = (h, record { weight = k.0; spread = omega arith; degree = omega arith })
given goal None (Err f) h k = tt
given goal (Some f) (Ok z) h k = absurd (cc)
given goal (Some f) (Err g) h k = tt

found_of : (goal : Goal) → Says (refused (formula_bound goal.body)) (greatest_of (translated goal))
found_of goal = says_there (refused (formula_bound goal.body)) (formula_bound goal.body) (greatest_of (translated goal)) (lights goal) (says (formula_bound goal.body))

ok_on : {P Q : ZGoal → Type 0} → (r : Answer) → ((z : ZGoal) → P z → Q z) → IfOk r P → IfOk r Q
ok_on (Ok z) f h = f z h
ok_on (Err e) f h = tt

pub gives_translated : (goal : Goal) (r : Answer) → Zified goal (refused (formula_bound goal.body)) r → IfOk r (λ z. z ≡ translated goal)
gives_translated goal r h = ok_on r (λ z p. p.0) (given goal (refused (formula_bound goal.body)) r h (found_of goal))

pub gives_limits : (goal : Goal) (r : Answer) → Zified goal (refused (formula_bound goal.body)) r → IfOk r IsWithinLimits
gives_limits goal r h = ok_on r (λ z p. subst (λ (y : ZGoal). IsWithinLimits y) (sym p.0) p.1) (given goal (refused (formula_bound goal.body)) r h (found_of goal))

pub gives_law : (goal : Goal) (r : Answer) → IsWellFormed goal → Zified goal (refused (formula_bound goal.body)) r → IfOk r (λ z. IsValid goal ↔ IsValidTranslated z)
gives_law goal r w h = ok_on r (λ z p. subst (λ (y : ZGoal). IsValid goal ↔ IsValidTranslated y) (sym p.0) (law goal w)) (given goal (refused (formula_bound goal.body)) r h (found_of goal))

pub gives_weight : (goal : Goal) (r : Answer) → Zified goal (refused (formula_bound goal.body)) r → IsErrOf r fails.Weight ↔ IsTooHeavy (translated goal)
gives_weight goal r h = heavy goal (refused (formula_bound goal.body)) r (greatest_of (translated goal)) h (found_of goal)

pub gives_spread : (goal : Goal) (r : Answer) → Zified goal (refused (formula_bound goal.body)) r → IsErrOf r fails.Spread ↔ IsTooWide (translated goal)
gives_spread goal r h = wide goal (refused (formula_bound goal.body)) r (greatest_of (translated goal)) h (found_of goal)

pub gives_degree : (goal : Goal) (r : Answer) → Zified goal (refused (formula_bound goal.body)) r → IsErrOf r fails.Degree ↔ IsTooSteep (translated goal)
gives_degree goal r h = steep goal (refused (formula_bound goal.body)) r (greatest_of (translated goal)) h (found_of goal)
