-- What stands of the removals of an outcome.
use Rattle.std.specs.Prelude.{◌≡◌, ℕ, zero, suc, ◌≤◌, max, ℤ, pos, unsigned_abs, List, [], ◌∷◌, slice_get, Bool, true, false, int_lt, Some, Result, Ok, Err, refl}
use Rattle.std.proofs.Common.{sym, subst, arith}
use Rattle.std.proofs.lemmas.Int.{ints}
use Rattle.std.specs.List.{AllByRecursion, remove}
use Rattle.mm_num.specs.Result.{◌>>=◌}
use Rattle.mm_poly.specs.declared.term.Term.{Term}
use Rattle.mm_poly.specs.Poly.{norm, coeff_of}
use Rattle.cert_kit.specs.declared.row.PRow.{PRow}
use Rattle.fm_elim.specs.declared.rule.Rule.{Rule}
use Rattle.fm_elim.specs.declared.rule.Rule.TheVariants.{Finished, Solve, Halve, Exact, Inexact}
use Rattle.fm_elim.specs.declared.removal.Removal.{Removal}
use Rattle.fm_elim.specs.declared.removal.Removal.TheVariants.{Solved, Bounded}
use Rattle.fm_elim.specs.Unknowns.{coeff_in, lowers, uppers}
use Rattle.fm_elim.specs.Tidy.{End, tidied, kept_after, cuts}
use Rattle.fm_elim.specs.Steps.{rule_of, poly_at, solved, halved, eliminated}
use Rattle.fm_elim.specs.Elimination.{Outcome, next, greatest_norm, by_rule, outcome_in, enough_steps, outcome}
use Rattle.fm_elim.specs.machine.Giving.{IsBound, IsRemoval}
use Rattle.fm_elim.proofs.ListLaws.{all_at, all_with, all_filter}
use Rattle.fm_elim.proofs.TidyLaws.{IsPolyRow, by_tidied, kept_tidy}
use Rattle.fm_elim.proofs.RuleLaws.{Applies, IsGivenAt, rule_applies}
use Rattle.fm_elim.proofs.PolyRowLaws.{solved_polys, halved_polys, eliminated_polys}
use Rattle.fm_elim.proofs.ContraLaws.{poly_at_is}
use Rattle.fm_elim.proofs.RunLaws.{magnitude_one}

bound_more : (n m : ℕ) (u : List (ℕ × ℕ)) (r : PRow) → n ≤ m → IsBound n u r → IsBound m u r
bound_more n m u r h b = record { there = b.there; within = (let w = b.within in omega arith) }

removal_more : (n m : ℕ) (r : Removal) → n ≤ m → IsRemoval n r → IsRemoval m r
removal_more n m (Solved u p) h i = (i.0, (let w = i.1 in omega arith))
removal_more n m (Bounded u ls hs) h i = (all_with (IsBound n u) (IsBound m u) ls (λ r b. bound_more n m u r h b) i.0, all_with (IsBound n u) (IsBound m u) hs (λ r b. bound_more n m u r h b) i.1)

abbrev AreRemovals : Outcome → Type 0
AreRemovals o = AllByRecursion (IsRemoval o.norm) o.removed

abbrev Going : (List PRow → Outcome) → Type 0
Going go = (rows : List PRow) → AllByRecursion IsPolyRow rows → AreRemovals (go rows)

next_removals : (go : List PRow → Outcome) (rows : List PRow) → Going go → AllByRecursion IsPolyRow rows → AreRemovals (next go (tidied rows))
next_removals go rows g a = by_tidied rows (λ res. AreRemovals (next go res)) (λ e. tt) tt (λ e. g (kept_after (cuts rows) []) (kept_tidy rows a).polys)

step_removals : (go : List PRow → Outcome) (res : Result (List PRow) End) → Going go → ((after : List PRow) → res ≡ Ok after → AllByRecursion IsPolyRow after) → AreRemovals (next go (res >>= tidied))
step_removals go (Ok rows) g a = next_removals go rows g (a rows refl)
step_removals go (Err e) g a = tt

norm_at : (rows : List PRow) (k : ℕ) (r : PRow) → slice_get rows k ≡ Some r → norm r.poly ≤ greatest_norm rows
norm_at rows k r e = all_at (λ (q : PRow). norm q.poly ≤ greatest_norm rows) rows k r e (norms_are rows)
  where
    more : (rows : List PRow) (n : ℕ) → greatest_norm rows ≤ n → AllByRecursion (λ (q : PRow). norm q.poly ≤ n) rows
    more [] n h = tt
    more (r ∷ rows) n h = (omega arith, more rows n (omega arith))

    norms_are : (rows : List PRow) → AllByRecursion (λ (q : PRow). norm q.poly ≤ greatest_norm rows) rows
    norms_are rows = more rows (greatest_norm rows) (omega arith)

pub norms_within : (rows : List PRow) (n : ℕ) → greatest_norm rows ≤ n → AllByRecursion (λ (q : PRow). norm q.poly ≤ n) rows
norms_within [] n h = tt
norms_within (r ∷ rows) n h = (omega arith, norms_within rows n (omega arith))

above_there : (c : ℤ) → int_lt (pos 0) c ≡ true → 1 ≤ unsigned_abs c
above_there c e = grind (arith, ints)

below_there : (c : ℤ) → int_lt c (pos 0) ≡ true → 1 ≤ unsigned_abs c
below_there c e = grind (arith, ints)

bounds_are : (u : List (ℕ × ℕ)) (rows : List PRow) (n : ℕ) → greatest_norm rows ≤ n → IsRemoval n (Bounded u (lowers u rows) (uppers u rows))
bounds_are u rows n h =
    let w = norms_within rows n h in (
      all_filter (λ r. int_lt (pos 0) (coeff_in u r)) (λ (q : PRow). norm q.poly ≤ n) (IsBound n u) rows (λ r t k. record { there = above_there (coeff_in u r) t; within = k }) w,
      all_filter (λ r. int_lt (coeff_in u r) (pos 0)) (λ (q : PRow). norm q.poly ≤ n) (IsBound n u) rows (λ r t k. record { there = below_there (coeff_in u r) t; within = k }) w,
    )

most_left : (m n : ℕ) → m ≤ max m n
most_left m n = omega arith

most_right : (m n : ℕ) → n ≤ max m n
most_right m n = omega arith

all_more : (n m : ℕ) (rs : List Removal) → n ≤ m → AllByRecursion (IsRemoval n) rs → AllByRecursion (IsRemoval m) rs
all_more n m rs h a = all_with (IsRemoval n) (IsRemoval m) rs (λ r i. removal_more n m r h i) a

given_is : (rows : List PRow) (k : ℕ) (u : List (ℕ × ℕ)) (n : ℕ) → AllByRecursion IsPolyRow rows → IsGivenAt rows k u → greatest_norm rows ≤ n → IsRemoval n (Solved u (poly_at k rows))
given_is rows k u n a g h =
    let e = sym (poly_at_is rows k g.row g.here) in
    let w = norm_at rows k g.row g.here in (
      subst (λ (p : List Term). unsigned_abs (coeff_of p u) ≡ 1) e (magnitude_one (coeff_of g.row.poly u) (g.unit (all_at IsPolyRow rows k g.row g.here a)).square),
      subst (λ (p : List Term). norm p ≤ n) e (omega (arith, w)),
    )

rule_removals : (go : Bool → List PRow → Outcome) (exact : Bool) (rows : List PRow) (rule : Rule) → ((b : Bool) → Going (go b)) → AllByRecursion IsPolyRow rows → Applies rows rule
    → AllByRecursion (IsRemoval (max (greatest_norm rows) (by_rule go exact rows rule).norm)) (by_rule go exact rows rule).removed
rule_removals go exact rows Finished g a w = tt
rule_removals go exact rows (Solve k u) g a w =
    let o = next (go exact) (solved u (poly_at k rows) (remove rows k) >>= tidied) in (
      given_is rows k u (max (greatest_norm rows) o.norm) a w (most_left (greatest_norm rows) o.norm),
      all_more o.norm (max (greatest_norm rows) o.norm) o.removed (most_right (greatest_norm rows) o.norm)
          (step_removals (go exact) (solved u (poly_at k rows) (remove rows k)) (g exact) (λ after e. solved_polys k u rows after a e)),
    )
rule_removals go exact rows (Halve k) g a w =
    let o = next (go exact) (tidied (halved k rows)) in
    all_more o.norm (max (greatest_norm rows) o.norm) o.removed (most_right (greatest_norm rows) o.norm) (next_removals (go exact) (halved k rows) (g exact) (halved_polys k rows a))
rule_removals go exact rows (Exact u) g a w =
    let o = next (go exact) (eliminated u rows >>= tidied) in (
      bounds_are u rows (max (greatest_norm rows) o.norm) (most_left (greatest_norm rows) o.norm),
      all_more o.norm (max (greatest_norm rows) o.norm) o.removed (most_right (greatest_norm rows) o.norm)
          (step_removals (go exact) (eliminated u rows) (g exact) (λ after e. eliminated_polys u rows after a e)),
    )
rule_removals go exact rows (Inexact u) g a w =
    let o = next (go false) (eliminated u rows >>= tidied) in
    all_more o.norm (max (greatest_norm rows) o.norm) o.removed (most_right (greatest_norm rows) o.norm)
    (step_removals (go false) (eliminated u rows) (g false) (λ after e. eliminated_polys u rows after a e))

removals_in : (n : ℕ) (exact : Bool) → Going (outcome_in n exact)
removals_in zero exact rows a = tt
removals_in (suc n) exact rows a = rule_removals (outcome_in n) exact rows (rule_of rows) (λ b. removals_in n b) a (rule_applies rows)

-- the removals of an outcome, by its norm
pub removals_are : (rows : List PRow) → AllByRecursion IsPolyRow rows → AllByRecursion (IsRemoval (outcome rows).norm) (outcome rows).removed
removals_are rows a = next_removals (λ kept. outcome_in (enough_steps kept) true kept) rows (λ kept b. removals_in (enough_steps kept) true kept b) a
