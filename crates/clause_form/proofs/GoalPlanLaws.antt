-- The walk of a goal's plan gives its clauses.
use Rattle.std.specs.Prelude.{◌≡◌, ℕ, ◌+◌, ◌<◌, ◌≤◌, List, [], ◌∷◌, ◌++◌, ◌*◌, ◌/◌, ◌%◌, map, fold, take, length, true, slice_index_or, refl}
use Rattle.std.specs.List.{All, AllByRecursion}
use Rattle.std.proofs.Common.{ap, ◌∙◌, sym, subst, arith}
use Rattle.std.proofs.lemmas.List.{length-map, get_or-map, take_more, append-nil}
use Rattle.std.proofs.Math.Nat.{div-one, mod-lt, mul_comm}
use Rattle.std.proofs.lemmas.List.Elements.{All-from_recursion}
use Rattle.goal_ast.proofs.CountingLaws.{both_same}
use Rattle.cert_kit.specs.declared.row.PRow.{PRow}
use Rattle.zify.specs.declared.form.ZForm.{ZForm}
use Rattle.zify.specs.declared.goal.ZGoal.{ZGoal}
use Rattle.goal_measure.specs.declared.measure.Measure.{Measure}
use Rattle.goal_measure.specs.Measure.{greater}
use Rattle.zify.specs.Measure.{greatest_in, greatest_of, IsWithinLimits as GoalWithinLimits}
use Rattle.clause_form.specs.declared.named.Named.{Named}
use Rattle.clause_form.specs.declared.plan.Part.{Part}
use Rattle.clause_form.specs.declared.tally.Tally.{Tally}
use Rattle.clause_form.specs.Polynomial.{IsWithinLimits}
use Rattle.clause_form.specs.Alternatives.{Sides, pairs, sides_of, all_alternatives, alternatives_of}
use Rattle.clause_form.specs.Clauses.{named, clauses_of}
use Rattle.clause_form.specs.machine.Tally.{product, negated, tally_of}
use Rattle.clause_form.specs.machine.Plan.{Planned, planned, right_plan, Made, made_not, made, MadePart, made_part, joint_others, made_parts, made_goal}
use Rattle.clause_form.specs.machine.Walk.{quotient, remainder, walk, walk_all}
use Rattle.clause_form.proofs.TallyLaws.{up_to, product_up_to, length-pairs}
use Rattle.clause_form.proofs.WalkLaws.{pairs_at}
use Rattle.clause_form.proofs.PlanLaws.{first_within, second_within}
use Rattle.clause_form.proofs.PlaceLaws.{WalksIn, quotient_is, remainder_is, quotient_below, factor_positive, factor_below, factor_small, IsRight, right_not, form_right, plan_walks}

-- ---- limits

abbrev FormWithin : ZForm → Type 0
FormWithin f = IsWithinLimits (greatest_in f)

all_within : (hs : List ZForm) (a : Measure) → IsWithinLimits (fold greater a (map greatest_in hs)) → IsWithinLimits a × AllByRecursion FormWithin hs
all_within [] a h = (h, tt)
all_within (f ∷ hs) a h =
    let p = all_within hs (greater a (greatest_in f)) h in
    (first_within a (greatest_in f) p.0, (second_within a (greatest_in f) p.0, p.1))

measured : (z : ZGoal) → GoalWithinLimits z → IsWithinLimits (greatest_of z)
measured z h = record { weight = h.weight; spread = h.spread; degree = h.degree }

pub body_within : (z : ZGoal) → GoalWithinLimits z → IsWithinLimits (greatest_in z.body)
body_within z h = (all_within z.hyps (greatest_in z.body) (measured z h)).0

pub hypotheses_within : (z : ZGoal) → GoalWithinLimits z → All (λ (f : ZForm). IsWithinLimits (greatest_in f)) z.hyps
hypotheses_within z h = All-from_recursion FormWithin z.hyps (all_within z.hyps (greatest_in z.body) (measured z h)).1

-- ---- the parts of a goal

joint_counts : (hs : List ZForm) (m : Made) (t : Tally) (s : Sides) → IsRight m t s → joint_others hs m ≡ up_to (length (all_alternatives hs s.holds))
joint_counts [] m t s h = ap (λ (u : Tally). u.holds) h.tally ∙ h.counts.holds
joint_counts (f ∷ hs) m t s h =
    let r = form_right f in
    both_same product _ _ _ _ (joint_counts hs m t s h) (ap (λ (u : Tally). u.holds) r.tally ∙ r.counts.holds)
    ∙ product_up_to (length (all_alternatives hs s.holds)) (length (sides_of f).holds)
    ∙ ap up_to (mul_comm (length (all_alternatives hs s.holds)) (length (sides_of f).holds) ∙ sym (length-pairs (sides_of f).holds (all_alternatives hs s.holds)))

-- a part's plan gives its alternatives
part_walks : (p : Part) (d : Planned) (s : Sides) (k : ℕ) → planned p.plan ≡ d → d ≡ right_plan s → length s.holds ≤ 4096 → k < length s.holds → walk p.plan true k ≡ slice_index_or s.holds k []
part_walks p d s k e f h l = (subst (λ x. WalksIn (walk p.plan) x) (e ∙ f) (plan_walks p.plan)) true k refl h l

head_plan : (p : Part) (ps : List Part) (d : MadePart) (ds : List MadePart) → map made_part (p ∷ ps) ≡ d ∷ ds → planned p.plan ≡ d.plan
head_plan p ps d ds e = let h : made_part p ≡ d = cc in ap (λ (q : MadePart). q.plan) h

head_others : (p : Part) (ps : List Part) (d : MadePart) (ds : List MadePart) → map made_part (p ∷ ps) ≡ d ∷ ds → p.others ≡ d.others
head_others p ps d ds e = let h : made_part p ≡ d = cc in ap (λ (q : MadePart). q.others) h

tail_parts : (p : Part) (ps : List Part) (d : MadePart) (ds : List MadePart) → map made_part (p ∷ ps) ≡ d ∷ ds → map made_part ps ≡ ds
tail_parts p ps d ds e = cc

no_parts : (ps : List Part) → map made_part ps ≡ [] → ps ≡ []
no_parts [] e = refl
no_parts (p ∷ ps) e = absurd (cc)

parts_walk : (ps : List Part) (hs : List ZForm) (m : Made) (t : Tally) (s : Sides) (k : ℕ) → IsRight m t s → map made_part ps ≡ made_parts hs m → length (all_alternatives hs s.holds) ≤ 4096 → k < length (all_alternatives hs s.holds)
    → walk_all ps k ≡ slice_index_or (all_alternatives hs s.holds) k []
parts_walk [] [] m t s k r e h l = absurd (cc)
parts_walk [] (f ∷ hs) m t s k r e h l = absurd (cc)
parts_walk (p ∷ ps) [] m t s k r e h l =
    let last : MadePart = record { plan = m.plan; others = 1 } in
    let n : ps ≡ [] = no_parts ps (tail_parts p ps last [] e) in
    let o : p.others ≡ 1 = head_others p ps last [] e in
    let q : quotient k p.others ≡ k = ap (quotient k) o ∙ quotient_is k 1 (omega arith) ∙ div-one k in
    both_same (λ (i : ℕ) (rest : List PRow). walk p.plan true i ++ rest) _ _ _ _ q (ap (λ qs. walk_all qs (remainder k p.others)) n)
    ∙ append-nil (walk p.plan true k)
    ∙ part_walks p m.plan s k (head_plan p ps last [] e) r.plan h l
parts_walk (p ∷ ps) (f ∷ hs) m t s k r e h l =
    let a : List (List PRow) = (sides_of f).holds in
    let b : List (List PRow) = all_alternatives hs s.holds in
    let d : MadePart = record { plan = (made f).plan; others = joint_others hs m } in
    let n : length (pairs a b) ≡ length a * length b = length-pairs a b in
    let i : k < length a * length b = omega arith in
    let j : length a * length b ≤ 4096 = omega arith in
    let z : 0 < length b = factor_positive (length a) (length b) k i in
    let y : length b ≤ 4096 = factor_below (length a) (length b) k i j in
    let x : length a ≤ 4096 = factor_small (length a) (length b) k i j in
    let c : joint_others hs m ≡ up_to (length b) = joint_counts hs m t s r in
    let o : p.others ≡ length b = head_others p ps d (made_parts hs m) e ∙ c ∙ small (length b) y in
    let q : quotient k p.others ≡ k / length b = ap (quotient k) o ∙ quotient_is k (length b) z in
    let w : remainder k p.others ≡ k % length b = ap (remainder k) o ∙ remainder_is k (length b) z in
    both_same (λ (u v : ℕ). walk p.plan true u ++ walk_all ps v) _ _ _ _ q w
    ∙ both_same (λ (u v : List PRow). u ++ v) _ _ _ _
    (part_walks p (made f).plan (sides_of f) (k / length b) (head_plan p ps d (made_parts hs m) e) (form_right f).plan x (quotient_below k (length b) (length a) z i))
    (parts_walk ps hs m t s (k % length b) r (tail_parts p ps d (made_parts hs m) e) y (mod-lt k z))
    ∙ sym (pairs_at a b k z i)
  where
    small : (n : ℕ) → n ≤ 4096 → up_to n ≡ n
    small n h = omega arith

goal_walks : (parts : List Part) (z : ZGoal) (k : ℕ) → map made_part parts ≡ made_goal z → length (alternatives_of z) ≤ 4096 → k < length (alternatives_of z)
    → walk_all parts k ≡ slice_index_or (alternatives_of z) k []
goal_walks parts z k e h l = parts_walk parts z.hyps (made_not (made z.body)) (negated (tally_of z.body)) (record { holds = (sides_of z.body).fails; fails = (sides_of z.body).holds }) k
    (right_not (made z.body) (tally_of z.body) (sides_of z.body) (form_right z.body)) e h l

-- one more clause
pub next_clause : (z : ZGoal) (parts : List Part) (list : List Named) (n : Named) (k m : ℕ) → map made_part parts ≡ made_goal z → length (clauses_of z) ≤ 4096 → k < length (clauses_of z)
    → list ≡ take k (clauses_of z) → n ≡ named (walk_all parts k) → m ≡ k + 1 → list ++ n ∷ [] ≡ take m (clauses_of z)
next_clause z parts list n k m e h l t s q =
    let i : length (clauses_of z) ≡ length (alternatives_of z) = length-map (alternatives_of z) named in
    let a : n ≡ named (slice_index_or (alternatives_of z) k []) = s ∙ ap named (goal_walks parts z k e (omega arith) (omega arith)) in
    let b : n ≡ slice_index_or (clauses_of z) k n = a ∙ sym (get_or-map named (alternatives_of z) k [] n (omega arith)) in
    both_same (λ (ns : List Named) (o : Named). ns ++ o ∷ []) _ _ _ _ t b ∙ sym (take_more (clauses_of z) k n l) ∙ ap (λ j. take j (clauses_of z)) (sym q)
