-- The walk of a plan gives the alternative at a place.
use Rattle.std.specs.Prelude.{◌≡◌, ℕ, zero, suc, ◌+◌, ◌*◌, ◌-◌, ◌/◌, ◌%◌, ◌==◌, ◌<◌, ◌≤◌, nat_lt, List, [], ◌∷◌, ◌++◌, map, length, Bool, true, false, not, ◌&&◌, if◌then◌else◌, slice_index_or, refl}
use Rattle.std.proofs.Common.{ap, ◌∙◌, sym, subst, arith, inl, inr, length-append}
use Rattle.std.proofs.lemmas.Bool.{and_parts, eqb-true, eq-eqb, cases_lt}
use Rattle.std.proofs.lemmas.List.{get_or_append_left, get_or-append-add}
use Rattle.std.proofs.lemmas.Nat.{div-add-mod'}
use Rattle.std.proofs.Math.Nat.{mod-lt, mul-le-mul}
use Rattle.goal_ast.proofs.CountingLaws.{both_same}
use Rattle.mm_poly.proofs.CaseLaws.{by_if}
use Rattle.cert_kit.specs.declared.row.PRow.{PRow}
use Rattle.clause_form.specs.declared.tally.Tally.{Tally}
use Rattle.clause_form.specs.declared.plan.Plan.{Plan}
use Rattle.goal_ast.specs.declared.formula.Cmp.{Cmp}
use Rattle.goal_ast.specs.declared.formula.Cmp.TheVariants as cmps
use Rattle.zify.specs.declared.term.ZTerm.{ZTerm}
use Rattle.zify.specs.declared.form.ZForm.{ZForm}
use Rattle.zify.specs.declared.form.ZForm.TheOpen.{ZForm-F}
use Rattle.zify.specs.declared.form.ZForm.TheViews.{roll-ZForm}
use Rattle.zify.specs.declared.form.ZForm.TheFolds.{map-ZForm, fold-roll-ZForm, ind-ZForm}
use Rattle.clause_form.specs.declared.plan.Plan.TheOpen.{Plan-F}
use Rattle.clause_form.specs.declared.plan.Plan.TheViews.{roll-Plan}
use Rattle.clause_form.specs.declared.plan.Plan.TheFolds.{map-Plan, fold-roll-Plan, ind-Plan}
use Rattle.clause_form.specs.Alternatives.{Sides, alone, pairs, sides_level, sides_of}
use Rattle.clause_form.specs.machine.Tally.{product, negated, of_both, of_same, of_comparison, tally_level, tally_of}
use Rattle.clause_form.specs.machine.Plan.{constant_sides, is_count, Planned, negated_plan, are_counted, both_planned, same_planned, planned_level, planned, right_plan, Made, made_atom, made_not, made_both, made_same, made_level, made}
use Rattle.clause_form.specs.machine.Walk.{Walk, side, side_of, quotient, remainder, walk_pairs, walk_both, walk_same, row_at, walk_rows, walk_level, walk}
use Rattle.clause_form.proofs.TallyLaws.{Counts, counts_not, counts_both, counts_same, up_to, product_up_to, length-pairs}
use Rattle.clause_form.proofs.WalkLaws.{pairs_at}

-- a walk gives the alternatives of a plan of at most 4,096
abbrev pub WalksIn : Walk → Planned → Type 0
WalksIn w d = (s : Bool) (k : ℕ) → d.counted ≡ true → length (side s d.sides) ≤ 4096 → k < length (side s d.sides) → w s k ≡ slice_index_or (side s d.sides) k []

count_side : (t : Tally) (s : Sides) (b : Bool) → is_count t s ≡ true → side_of t b ≡ up_to (length (side b s))
count_side t s true h = eqb-true t.holds _ (and_parts _ _ h).0
count_side t s false h = eqb-true t.fails _ (and_parts _ _ h).1

-- ---- joined lists

pick : (a b : List (List PRow)) (n k : ℕ) (x y : List PRow) → n ≡ length a → (k < length a → x ≡ slice_index_or a k []) → (length a ≤ k → y ≡ slice_index_or b (k - length a) [])
    → (if nat_lt k n then x else y) ≡ slice_index_or (a ++ b) k []
pick a b n k x y e f g = by_if (nat_lt k n) x y (λ z. z ≡ slice_index_or (a ++ b) k [])
    (λ t. let l : k < length a = below k n (length a) t e in f l ∙ sym (get_or_append_left a b [] k l))
    (λ t.
    let l : length a ≤ k = above k n (length a) t e in
    let m : length a + (k - length a) ≡ k = omega arith in
    g l ∙ sym (get_or-append-add a b (k - length a) []) ∙ ap (λ i. slice_index_or (a ++ b) i []) m)
  where
    below : (k n m : ℕ) → nat_lt k n ≡ true → n ≡ m → k < m
    below k n m t e = grind arith

    above : (k n m : ℕ) → nat_lt k n ≡ false → n ≡ m → m ≤ k
    above k n m t e = grind arith

-- ---- pairs

pub quotient_is : (k n : ℕ) → 0 < n → quotient k n ≡ k / n
quotient_is k n h = by_if (n == 0) 0 (k / n) (λ z. z ≡ k / n) (λ t. absurd (let z = eqb-true n 0 t in omega arith)) (λ t. refl)

pub remainder_is : (k n : ℕ) → 0 < n → remainder k n ≡ k % n
remainder_is k n h = by_if (n == 0) 0 (k % n) (λ z. z ≡ k % n) (λ t. absurd (let z = eqb-true n 0 t in omega arith)) (λ t. refl)

pub quotient_below : (k n m : ℕ) → 0 < n → k < m * n → k / n < m
quotient_below k n m h l = elim (cases_lt (k / n) m) [
  | inl s ↦ s
  | inr s ↦ absurd (let p : m * n ≤ k / n * n = mul-le-mul {n₁ = m} {m₁ = n} {n₂ = k / n} {m₂ = n} s (omega arith) in let q = div-add-mod' k n in omega arith)
]

pub factor_positive : (m n k : ℕ) → k < m * n → 0 < n
factor_positive m zero k l = absurd (omega arith)
factor_positive m (suc n) k l = omega arith

pub factor_below : (m n k : ℕ) → k < m * n → m * n ≤ 4096 → n ≤ 4096
factor_below zero n k l h = absurd (omega arith)
factor_below (suc m) n k l h = let p : 1 * n ≤ suc m * n = mul-le-mul {n₁ = 1} {m₁ = n} {n₂ = suc m} {m₂ = n} (omega arith) (omega arith) in omega arith

pub factor_small : (m n k : ℕ) → k < m * n → m * n ≤ 4096 → m ≤ 4096
factor_small m n k l h = factor_below n m k (omega arith) (omega arith)

pair_walks : (u : Tally) (w v : Walk) (d e : Planned) (s r : Bool) (k : ℕ) → WalksIn w d → WalksIn v e → d.counted ≡ true → e.counted ≡ true → is_count u e.sides ≡ true
    → length (side s d.sides) * length (side r e.sides) ≤ 4096
    → k < length (side s d.sides) * length (side r e.sides)
    → walk_pairs u w v s r k ≡ slice_index_or (pairs (side s d.sides) (side r e.sides)) k []
pair_walks u w v d e s r k f g c q t h l =
    let z : 0 < length (side r e.sides) = factor_positive (length (side s d.sides)) (length (side r e.sides)) k l in
    let y : length (side r e.sides) ≤ 4096 = factor_below (length (side s d.sides)) (length (side r e.sides)) k l h in
    let x : length (side s d.sides) ≤ 4096 = factor_small (length (side s d.sides)) (length (side r e.sides)) k l h in
    let p = count_side u e.sides r t in
    let o : side_of u r ≡ length (side r e.sides) = omega arith in
    let a : quotient k (side_of u r) ≡ k / length (side r e.sides) = ap (quotient k) o ∙ quotient_is k (length (side r e.sides)) z in
    let b : remainder k (side_of u r) ≡ k % length (side r e.sides) = ap (remainder k) o ∙ remainder_is k (length (side r e.sides)) z in
    both_same (λ i j. w s i ++ v r j) _ _ _ _ a b
    ∙ both_same (λ i j. i ++ j) _ _ _ _
    (f s (k / length (side r e.sides)) c x (quotient_below k (length (side r e.sides)) (length (side s d.sides)) z l))
    (g r (k % length (side r e.sides)) q y (mod-lt k z))
    ∙ sym (pairs_at (side s d.sides) (side r e.sides) k z l)

-- ---- nodes

counted_parts : (t u : Tally) (d e : Planned) → are_counted t u d e ≡ true → ((is_count t d.sides ≡ true) × (is_count u e.sides ≡ true)) × ((d.counted ≡ true) × (e.counted ≡ true))
counted_parts t u d e h = let p = and_parts _ _ h in (and_parts _ _ p.0, and_parts _ _ p.1)

not_walks : (w : Walk) (d : Planned) → WalksIn w d → WalksIn (λ s k. w (not s) k) (negated_plan d)
not_walks w d f true k c h l = f false k c h l
not_walks w d f false k c h l = f true k c h l

both_walks : (t u : Tally) (w v : Walk) (d e : Planned) → WalksIn w d → WalksIn v e → WalksIn (walk_both t u w v) (both_planned t u d e)
both_walks t u w v d e f g true k c h l =
    let p = counted_parts t u d e c in
    let n = length-pairs d.sides.holds e.sides.holds in
    pair_walks u w v d e true true k f g p.1.0 p.1.1 p.0.1 (omega arith) (omega arith)
both_walks t u w v d e f g false k c h l =
    let p = counted_parts t u d e c in
    let n = length-append d.sides.fails e.sides.fails in
    let q = count_side t d.sides false p.0.0 in
    pick d.sides.fails e.sides.fails t.fails k (w false k) (v false (k - t.fails)) (omega arith)
    (λ s. f false k p.1.0 (omega arith) s)
    (λ s.
    let o : t.fails ≡ length d.sides.fails = omega arith in
    ap (λ i. v false (k - i)) o ∙ g false (k - length d.sides.fails) p.1.1 (omega arith) (omega arith))

small_product : (m n : ℕ) → m * n ≤ 4096 → up_to (m * n) ≡ m * n
small_product m n h = omega arith

same_side : (t u : Tally) (w v : Walk) (d e : Planned) (s : Bool) (k : ℕ) → WalksIn w d → WalksIn v e → are_counted t u d e ≡ true
    → length (pairs (side true d.sides) (side s e.sides) ++ pairs (side false d.sides) (side (not s) e.sides)) ≤ 4096
    → k < length (pairs (side true d.sides) (side s e.sides) ++ pairs (side false d.sides) (side (not s) e.sides))
    → walk_same t u w v s k ≡ slice_index_or (pairs (side true d.sides) (side s e.sides) ++ pairs (side false d.sides) (side (not s) e.sides)) k []
same_side t u w v d e s k f g c h l =
    let p = counted_parts t u d e c in
    let a = length-append (pairs (side true d.sides) (side s e.sides)) (pairs (side false d.sides) (side (not s) e.sides)) in
    let m = length-pairs (side true d.sides) (side s e.sides) in
    let n = length-pairs (side false d.sides) (side (not s) e.sides) in
    let x : length (side true d.sides) * length (side s e.sides) ≤ 4096 = omega arith in
    let y : length (side false d.sides) * length (side (not s) e.sides) ≤ 4096 = omega arith in
    let o : product t.holds (side_of u s) ≡ length (side true d.sides) * length (side s e.sides)
    = both_same product _ _ _ _ (count_side t d.sides true p.0.0) (count_side u e.sides s p.0.1)
    ∙ product_up_to (length (side true d.sides)) (length (side s e.sides))
    ∙ small_product (length (side true d.sides)) (length (side s e.sides)) x in
    let q : product t.holds (side_of u s) ≡ length (pairs (side true d.sides) (side s e.sides)) = o ∙ sym m in
    pick (pairs (side true d.sides) (side s e.sides)) (pairs (side false d.sides) (side (not s) e.sides)) (product t.holds (side_of u s)) k
    (walk_pairs u w v true s k) (walk_pairs u w v false (not s) (k - product t.holds (side_of u s))) q
    (λ z. pair_walks u w v d e true s k f g p.1.0 p.1.1 p.0.1 x (omega arith))
    (λ z.
    ap (λ i. walk_pairs u w v false (not s) (k - i)) q
    ∙ pair_walks u w v d e false (not s) (k - length (pairs (side true d.sides) (side s e.sides))) f g p.1.0 p.1.1 p.0.1 y (omega arith))

same_walks : (t u : Tally) (w v : Walk) (d e : Planned) → WalksIn w d → WalksIn v e → WalksIn (walk_same t u w v) (same_planned t u d e)
same_walks t u w v d e f g true k c h l = same_side t u w v d e true k f g c h l
same_walks t u w v d e f g false k c h l = same_side t u w v d e false k f g c h l

alone_at : (rows : List PRow) (k : ℕ) → k < length (map alone rows) → row_at rows k ≡ slice_index_or (map alone rows) k []
alone_at [] k l = absurd (omega arith)
alone_at (r ∷ rows) zero l = refl
alone_at (r ∷ rows) (suc k) l = alone_at rows k (omega arith)

rows_walks : (h f : List PRow) → WalksIn (walk_rows h f) (record { sides = record { holds = map alone h; fails = map alone f }; counted = true })
rows_walks h f true k c b l = alone_at h k l
rows_walks h f false k c b l = alone_at f k l

abbrev no_rows : List PRow
no_rows = []

empty_at : (k : ℕ) → k < 1 → no_rows ≡ slice_index_or (no_rows ∷ []) k no_rows
empty_at zero l = refl
empty_at (suc k) l = absurd (omega arith)

constant_walks : (b : Bool) → WalksIn (λ s k. []) (record { sides = constant_sides b; counted = true })
constant_walks true true k c h l = empty_at k l
constant_walks true false k c h l = absurd (omega arith)
constant_walks false true k c h l = absurd (omega arith)
constant_walks false false k c h l = empty_at k l

abbrev PlanWalks : Plan → Type 0
PlanWalks p = WalksIn (walk p) (planned p)

abbrev Known : Type 0
Known = (p : Plan) × PlanWalks p

abbrev plans_of : Plan-F Known → Plan-F Plan
plans_of y = map-Plan Known Plan (λ p. p.0) y

walks_step : (y : Plan-F Known) → WalksIn (walk_level (map-Plan Plan Walk walk (plans_of y))) (planned_level (map-Plan Plan Planned planned (plans_of y)))
walks_step (Plan-F.Constant b) = constant_walks b
walks_step (Plan-F.Rows h f) = rows_walks h f
walks_step (Plan-F.Not p) = not_walks (walk p.0) (planned p.0) p.1
walks_step (Plan-F.Both t u p q) = both_walks t u (walk p.0) (walk q.0) (planned p.0) (planned q.0) p.1 q.1
walks_step (Plan-F.Same t u p q) = same_walks t u (walk p.0) (walk q.0) (planned p.0) (planned q.0) p.1 q.1

moved : (w v : Walk) (d e : Planned) → w ≡ v → d ≡ e → WalksIn v e → WalksIn w d
moved w v d e f g h = subst (λ x. WalksIn x d) (sym f) (subst (λ x. WalksIn v x) (sym g) h)

pub plan_walks : (p : Plan) → PlanWalks p
plan_walks = ind-Plan PlanWalks (λ d y q. subst (λ (z : Plan-F Plan). PlanWalks (roll-Plan z)) q (step y))
  where
    step : (y : Plan-F Known) → PlanWalks (roll-Plan (plans_of y))
    step y = moved _ _ _ _ (fold-roll-Plan Walk walk_level (plans_of y)) (fold-roll-Plan Planned planned_level (plans_of y)) (walks_step y)

-- ---- plans of formulas

is_count_of : (t : Tally) (s : Sides) → Counts t s → is_count t s ≡ true
is_count_of t s h = both_same (λ a b. a && b) _ _ _ _ (eq-eqb t.holds _ h.holds) (eq-eqb t.fails _ h.fails)

pub record IsRight (m : Made) (t : Tally) (s : Sides) : Type 0 where
  pub tally : m.tally ≡ t
  pub plan : m.plan ≡ right_plan s
  pub counts : Counts t s

made_of : (m : Made) (t : Tally) (d : Planned) → m.tally ≡ t → m.plan ≡ d → m ≡ record { tally = t; plan = d }
made_of m t d e f = both_same (λ (a : Tally) (b : Planned). record { tally = a; plan = b }) _ _ _ _ e f

pub right_not : (m : Made) (t : Tally) (s : Sides) → IsRight m t s → IsRight (made_not m) (negated t) (record { holds = s.fails; fails = s.holds })
right_not m t s h = record { tally = ap negated h.tally; plan = ap negated_plan h.plan; counts = counts_not t s h.counts }

right_both : (m n : Made) (t u : Tally) (s r : Sides) → IsRight m t s → IsRight n u r
    → IsRight (made_both m n) (of_both t u) (record { holds = pairs s.holds r.holds; fails = s.fails ++ r.fails })
right_both m n t u s r h k =
    let e = both_same made_both _ _ _ _ (made_of m t (right_plan s) h.tally h.plan) (made_of n u (right_plan r) k.tally k.plan) in
    record {
      tally = ap (λ (x : Made). x.tally) e;
      plan = ap (λ (x : Made). x.plan) e ∙ ap (λ b. record { sides = record { holds = pairs s.holds r.holds; fails = s.fails ++ r.fails }; counted = b }) (counted_of t u s r h.counts k.counts);
      counts = counts_both t u s r h.counts k.counts;
    }
  where
    counted_of : (t u : Tally) (s r : Sides) → Counts t s → Counts u r → ((is_count t s && is_count u r) && (true && true)) ≡ true
    counted_of t u s r a b = both_same (λ x y. (x && y) && true) _ _ _ _ (is_count_of t s a) (is_count_of u r b)

right_same : (m n : Made) (t u : Tally) (s r : Sides) → IsRight m t s → IsRight n u r
    → IsRight (made_same m n) (of_same t u) (record { holds = pairs s.holds r.holds ++ pairs s.fails r.fails; fails = pairs s.holds r.fails ++ pairs s.fails r.holds })
right_same m n t u s r h k =
    let e = both_same made_same _ _ _ _ (made_of m t (right_plan s) h.tally h.plan) (made_of n u (right_plan r) k.tally k.plan) in
    record {
      tally = ap (λ (x : Made). x.tally) e;
      plan = ap (λ (x : Made). x.plan) e
          ∙ ap (λ b. record { sides = record { holds = pairs s.holds r.holds ++ pairs s.fails r.fails; fails = pairs s.holds r.fails ++ pairs s.fails r.holds }; counted = b })
          (both_same (λ x y. (x && y) && true) _ _ _ _ (is_count_of t s h.counts) (is_count_of u r k.counts));
      counts = counts_same t u s r h.counts k.counts;
    }

abbrev FormRight : ZForm → Type 0
FormRight f = IsRight (made f) (tally_of f) (sides_of f)

abbrev KnownForm : Type 0
KnownForm = (f : ZForm) × FormRight f

abbrev forms_of : ZForm-F KnownForm → ZForm-F ZForm
forms_of y = map-ZForm KnownForm ZForm (λ p. p.0) y

atom_right : (c : Cmp) (t u : ZTerm) → Counts (of_comparison c) (sides_level (ZForm-F.Atom c t u)) → IsRight (made_atom c t u) (of_comparison c) (sides_level (ZForm-F.Atom c t u))
atom_right c t u h = record { tally = refl; plan = refl; counts = h }

right_step : (y : ZForm-F KnownForm)
    → IsRight (made_level (map-ZForm ZForm Made made (forms_of y))) (tally_level (map-ZForm ZForm Tally tally_of (forms_of y))) (sides_level (map-ZForm ZForm Sides sides_of (forms_of y)))
right_step ZForm-F.True = record { tally = refl; plan = refl; counts = record { holds = refl; fails = refl } }
right_step ZForm-F.False = record { tally = refl; plan = refl; counts = record { holds = refl; fails = refl } }
right_step (ZForm-F.Atom cmps.Eq t u) = atom_right cmps.Eq t u (record { holds = refl; fails = refl })
right_step (ZForm-F.Atom cmps.Ne t u) = atom_right cmps.Ne t u (record { holds = refl; fails = refl })
right_step (ZForm-F.Atom cmps.Lt t u) = atom_right cmps.Lt t u (record { holds = refl; fails = refl })
right_step (ZForm-F.Atom cmps.Le t u) = atom_right cmps.Le t u (record { holds = refl; fails = refl })
right_step (ZForm-F.Atom cmps.Gt t u) = atom_right cmps.Gt t u (record { holds = refl; fails = refl })
right_step (ZForm-F.Atom cmps.Ge t u) = atom_right cmps.Ge t u (record { holds = refl; fails = refl })
right_step (ZForm-F.Not f) = right_not _ _ _ f.1
right_step (ZForm-F.And f g) = right_both _ _ _ _ _ _ f.1 g.1
right_step (ZForm-F.Or f g) = right_not _ _ _ (right_both _ _ _ _ _ _ (right_not _ _ _ f.1) (right_not _ _ _ g.1))
right_step (ZForm-F.Imp f g) = right_not _ _ _ (right_both _ _ _ _ _ _ f.1 (right_not _ _ _ g.1))
right_step (ZForm-F.Iff f g) = right_same _ _ _ _ _ _ f.1 g.1

right_moved : (m n : Made) (t u : Tally) (s r : Sides) → m ≡ n → t ≡ u → s ≡ r → IsRight n u r → IsRight m t s
right_moved m n t u s r e f g h = subst (λ x. IsRight x t s) (sym e) (subst (λ x. IsRight n x s) (sym f) (subst (λ x. IsRight n u x) (sym g) h))

-- the plan of a formula has its alternatives and the right numbers
pub form_right : (f : ZForm) → FormRight f
form_right = ind-ZForm FormRight (λ d y q. subst (λ (z : ZForm-F ZForm). FormRight (roll-ZForm z)) q (step y))
  where
    step : (y : ZForm-F KnownForm) → FormRight (roll-ZForm (forms_of y))
    step y = right_moved _ _ _ _ _ _ (fold-roll-ZForm Made made_level (forms_of y)) (fold-roll-ZForm Tally tally_level (forms_of y)) (fold-roll-ZForm Sides sides_level (forms_of y)) (right_step y)
