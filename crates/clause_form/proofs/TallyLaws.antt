-- The numbers that stop at a limit are the numbers of alternatives, up to it.
use Rattle.std.specs.Prelude.{◌≡◌, ℕ, zero, suc, ◌+◌, ◌*◌, ◌-◌, ◌^◌, ◌<◌, ◌≤◌, min, List, [], ◌∷◌, ◌++◌, map, drop, length, slice_index_or, refl}
use Rattle.std.proofs.Common.{ap, ◌∙◌, sym, subst, arith, length-append}
use Rattle.std.proofs.lemmas.List.{length-map, drop_all}
use Rattle.cert_kit.specs.declared.row.PRow.{PRow}
use Rattle.goal_ast.specs.declared.formula.Cmp.TheVariants as cmps
use Rattle.goal_ast.proofs.CountingLaws.{both_same}
use Rattle.zify.specs.declared.form.ZForm.{ZForm}
use Rattle.zify.specs.declared.form.ZForm.TheOpen.{ZForm-F}
use Rattle.zify.specs.declared.form.ZForm.TheViews.{roll-ZForm}
use Rattle.zify.specs.declared.form.ZForm.TheFolds.{map-ZForm, fold-roll-ZForm, ind-ZForm}
use Rattle.goal_measure.proofs.CapLaws.{product_below, multiple_below}
use Rattle.clause_form.specs.declared.tally.Tally.{Tally}
use Rattle.zify.specs.declared.goal.ZGoal.{ZGoal}
use Rattle.std.proofs.Math.Nat.{mul_comm}
use Rattle.clause_form.specs.Clauses.{named, clauses_of}
use Rattle.clause_form.specs.Alternatives.{all_alternatives, alternatives_of, pairs, Sides, sides_level, sides_of}
use Rattle.clause_form.specs.machine.Tally.{sum, product, negated, of_both, of_same, tally_level, tally_of, joint_number}

abbrev pub up_to : ℕ → ℕ
up_to n = min n (2 ^ 64 - 1)

pub length-pairs : (a b : List (List PRow)) → length (pairs a b) ≡ length a * length b
length-pairs [] b = omega arith
length-pairs (r ∷ a) b = omega (arith, length-append (map (λ c. r ++ c) b) (pairs a b), length-map b (λ c. r ++ c), length-pairs a b)

sum_up_to : (m n : ℕ) → sum (up_to m) (up_to n) ≡ up_to (m + n)
sum_up_to m n = omega arith

pub product_up_to : (m n : ℕ) → product (up_to m) (up_to n) ≡ up_to (m * n)
product_up_to m n = product_below m n (2 ^ 64 - 1) (omega arith)

-- the counts of lists
pub record Counts (t : Tally) (s : Sides) : Type 0 where
  pub holds : t.holds ≡ up_to (length s.holds)
  pub fails : t.fails ≡ up_to (length s.fails)

joined : (m n : ℕ) (a b : List (List PRow)) → m ≡ up_to (length a) → n ≡ up_to (length b) → sum m n ≡ up_to (length (a ++ b))
joined m n a b e f = both_same sum _ _ _ _ e f ∙ sum_up_to (length a) (length b) ∙ ap up_to (sym (length-append a b))

paired : (m n : ℕ) (a b : List (List PRow)) → m ≡ up_to (length a) → n ≡ up_to (length b) → product m n ≡ up_to (length (pairs a b))
paired m n a b e f = both_same product _ _ _ _ e f ∙ product_up_to (length a) (length b) ∙ ap up_to (sym (length-pairs a b))

abbrev FormCounts : ZForm → Type 0
FormCounts f = Counts (tally_of f) (sides_of f)

abbrev Known : Type 0
Known = (f : ZForm) × FormCounts f

abbrev forms_of : ZForm-F Known → ZForm-F ZForm
forms_of y = map-ZForm Known ZForm (λ p. p.0) y

pub counts_both : (s t : Tally) (f g : Sides) → Counts s f → Counts t g → Counts (of_both s t) (record { holds = pairs f.holds g.holds; fails = f.fails ++ g.fails })
counts_both s t f g h k = record {
  holds = paired s.holds t.holds f.holds g.holds h.holds k.holds;
  fails = joined s.fails t.fails f.fails g.fails h.fails k.fails;
}

pub counts_not : (s : Tally) (f : Sides) → Counts s f → Counts (negated s) (record { holds = f.fails; fails = f.holds })
counts_not s f h = record { holds = h.fails; fails = h.holds }

pub counts_same : (s t : Tally) (f g : Sides) → Counts s f → Counts t g
    → Counts (of_same s t) (record { holds = pairs f.holds g.holds ++ pairs f.fails g.fails; fails = pairs f.holds g.fails ++ pairs f.fails g.holds })
counts_same s t f g h k = record {
  holds = joined (product s.holds t.holds) (product s.fails t.fails) (pairs f.holds g.holds) (pairs f.fails g.fails)
      (paired s.holds t.holds f.holds g.holds h.holds k.holds) (paired s.fails t.fails f.fails g.fails h.fails k.fails);
  fails = joined (product s.holds t.fails) (product s.fails t.holds) (pairs f.holds g.fails) (pairs f.fails g.holds)
      (paired s.holds t.fails f.holds g.fails h.holds k.fails) (paired s.fails t.holds f.fails g.holds h.fails k.holds);
}

counts_step : (y : ZForm-F Known) → Counts (tally_level (map-ZForm ZForm Tally tally_of (forms_of y))) (sides_level (map-ZForm ZForm Sides sides_of (forms_of y)))
counts_step ZForm-F.True = record { holds = refl; fails = refl }
counts_step ZForm-F.False = record { holds = refl; fails = refl }
counts_step (ZForm-F.Atom cmps.Eq t u) = record { holds = refl; fails = refl }
counts_step (ZForm-F.Atom cmps.Ne t u) = record { holds = refl; fails = refl }
counts_step (ZForm-F.Atom cmps.Lt t u) = record { holds = refl; fails = refl }
counts_step (ZForm-F.Atom cmps.Le t u) = record { holds = refl; fails = refl }
counts_step (ZForm-F.Atom cmps.Gt t u) = record { holds = refl; fails = refl }
counts_step (ZForm-F.Atom cmps.Ge t u) = record { holds = refl; fails = refl }
counts_step (ZForm-F.Not f) = counts_not _ _ f.1
counts_step (ZForm-F.And f g) = counts_both _ _ _ _ f.1 g.1
counts_step (ZForm-F.Or f g) = counts_not _ _ (counts_both _ _ _ _ (counts_not _ _ f.1) (counts_not _ _ g.1))
counts_step (ZForm-F.Imp f g) = counts_not _ _ (counts_both _ _ _ _ f.1 (counts_not _ _ g.1))
counts_step (ZForm-F.Iff f g) = counts_same _ _ _ _ f.1 g.1

moved : (s t : Tally) (f g : Sides) → s ≡ t → f ≡ g → Counts t g → Counts s f
moved s t f g e d h = subst (λ u. Counts u f) (sym e) (subst (λ k. Counts t k) (sym d) h)

pub form_counts : (f : ZForm) → FormCounts f
form_counts = ind-ZForm FormCounts (λ d y q. subst (λ (z : ZForm-F ZForm). FormCounts (roll-ZForm z)) q (step y))
  where
    step : (y : ZForm-F Known) → FormCounts (roll-ZForm (forms_of y))
    step y = moved _ _ _ _ (fold-roll-ZForm Tally tally_level (forms_of y)) (fold-roll-ZForm Sides sides_level (forms_of y)) (counts_step y)

-- a count of a formula
pub holds_tallied : (t : Tally) (f : ZForm) → t ≡ tally_of f → t.holds ≡ min (length (sides_of f).holds) (2 ^ 64 - 1)
holds_tallied t f e = ap (λ (u : Tally). u.holds) e ∙ (form_counts f).holds

pub fails_tallied : (t : Tally) (f : ZForm) → t ≡ tally_of f → t.fails ≡ min (length (sides_of f).fails) (2 ^ 64 - 1)
fails_tallied t f e = ap (λ (u : Tally). u.fails) e ∙ (form_counts f).fails

-- ---- goals

pub length-all : (hs : List ZForm) (last : List (List PRow)) → length (all_alternatives hs last) ≡ length last * joint_number hs
length-all [] last = omega arith
length-all (h ∷ hs) last = length-pairs (sides_of h).holds (all_alternatives hs last) ∙ ap (λ n. length (sides_of h).holds * n) (length-all hs last)
    ∙ turned (length (sides_of h).holds) (length last) (joint_number hs)
  where
    turned : (a b c : ℕ) → a * (b * c) ≡ b * (a * c)
    turned a b c = omega arith

-- one more factor before the others
next_joint : (n a m r c : ℕ) → 1 ≤ c → m ≡ min (n * min a c) c → min (m * r) c ≡ min (n * (a * r)) c
next_joint n a m r c h e =
    ap (λ k. min (k * r) c) e
    ∙ ap (λ k. min k c) (mul_comm (min (n * min a c) c) r)
    ∙ multiple_below r (n * min a c) c h
    ∙ ap (λ k. min k c) (regrouped r n (min a c))
    ∙ multiple_below (r * n) a c h
    ∙ ap (λ k. min k c) (ordered r n a)
  where
    regrouped : (x y z : ℕ) → x * (y * z) ≡ (x * y) * z
    regrouped x y z = omega arith

    ordered : (x y z : ℕ) → (x * y) * z ≡ y * (z * x)
    ordered x y z = omega arith

abbrev AfterStep : ℕ → ℕ → ℕ → List ZForm → List ZForm → Type 0
AfterStep n m j hs from = min (m * joint_number (drop j hs)) (2 ^ 64 - 1) ≡ min (n * joint_number from) (2 ^ 64 - 1)

pub joint_step : (n m i j : ℕ) (hs : List ZForm) (h : ZForm) → i < length hs → slice_index_or hs i h ≡ h → m ≡ min (n * min (length (sides_of h).holds) (2 ^ 64 - 1)) (2 ^ 64 - 1) → j ≡ i + 1
    → AfterStep n m j hs (drop i hs)
joint_step n m i j [] h l e s q = absurd (omega arith)
joint_step n m zero j (h ∷ hs) k l e s q =
    let o : suc zero ≡ j = omega arith in
    let t : m ≡ min (n * min (length (sides_of h).holds) (2 ^ 64 - 1)) (2 ^ 64 - 1) = s ∙ ap (λ (f : ZForm). min (n * min (length (sides_of f).holds) (2 ^ 64 - 1)) (2 ^ 64 - 1)) (sym e) in
    subst (λ w. AfterStep n m w (h ∷ hs) (h ∷ hs)) o (next_joint n (length (sides_of h).holds) m (joint_number hs) (2 ^ 64 - 1) (omega arith) t)
joint_step n m (suc i) j (h ∷ hs) k l e s q =
    let o : suc (i + 1) ≡ j = omega arith in
    subst (λ w. AfterStep n m w (h ∷ hs) (drop i hs)) o (joint_step n m i (i + 1) hs k (omega arith) e s refl)

pub goal_counted : (z : ZGoal) (n m : ℕ) → n ≡ min (length (sides_of z.body).fails) (2 ^ 64 - 1) → m ≡ min (n * joint_number z.hyps) (2 ^ 64 - 1) → m ≡ min (length (clauses_of z)) (2 ^ 64 - 1)
goal_counted z n m e f =
    let c : ℕ = 2 ^ 64 - 1 in
    let l : length (clauses_of z) ≡ length (sides_of z.body).fails * joint_number z.hyps = length-map (alternatives_of z) named ∙ length-all z.hyps (sides_of z.body).fails in
    f ∙ ap (λ k. min (k * joint_number z.hyps) (2 ^ 64 - 1)) e
    ∙ ap (λ k. min k (2 ^ 64 - 1)) (mul_comm (min (length (sides_of z.body).fails) (2 ^ 64 - 1)) (joint_number z.hyps))
    ∙ multiple_below (joint_number z.hyps) (length (sides_of z.body).fails) (2 ^ 64 - 1) (omega arith)
    ∙ ap (λ k. min k (2 ^ 64 - 1)) (mul_comm (joint_number z.hyps) (length (sides_of z.body).fails) ∙ sym l)

pub joint_end : (n i w : ℕ) (hs : List ZForm) → length hs ≤ i → n ≤ 2 ^ 64 - 1 → min (n * joint_number (drop i hs)) (2 ^ 64 - 1) ≡ w → n ≡ w
joint_end n i w hs l s e =
    let d : drop i hs ≡ [] = drop_all i hs l in
    let j : joint_number (drop i hs) ≡ 1 = ap joint_number d in
    let p : n * joint_number (drop i hs) ≡ n * 1 = ap (λ k. n * k) j in
    omega arith
