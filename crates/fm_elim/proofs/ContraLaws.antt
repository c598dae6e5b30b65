-- After a contradiction no integer point solves the rows.
use Rattle.std.specs.Prelude.{◌≡◌, ℕ, zero, suc, ℤ, pos, negsuc, ◌+ℤ◌, ◌*ℤ◌, ◌≤ℤ◌, neg_ℤ, unsigned_abs, List, [], ◌∷◌, ◌++◌, map, take, drop, slice_get, Bool, true, false, Some, Result, Ok, Err}
use Rattle.std.proofs.Common.{ap, sym, ◌∙◌, subst, arith}
use Rattle.std.proofs.lemmas.Int.{ints}
use Rattle.std.specs.List.{remove}
use Rattle.std.specs.Option.{option_map_or}
use Rattle.std.specs.Ordering.{int_eq}
use Rattle.mm_num.specs.Result.{◌>>=◌}
use Rattle.mm_poly.specs.declared.term.Term.{Term}
use Rattle.mm_poly.specs.Poly.{value, plus, scaled}
use Rattle.mm_poly.proofs.CaseLaws.{by_if}
use Rattle.mm_poly.proofs.ValueLaws.{sum_zero, value_plus, value_scaled}
use Rattle.cert_kit.specs.declared.row.Op.{Op}
use Rattle.cert_kit.specs.declared.row.Op.TheVariants.{Ge, Eq}
use Rattle.cert_kit.specs.declared.row.PRow.{PRow}
use Rattle.cert_kit.specs.Row.{Compares, Holds, Solves, HasNoSolution}
use Rattle.cert_kit.specs.Meaning.{at_least_0}
use Rattle.fm_elim.specs.declared.rule.Rule.{Rule}
use Rattle.fm_elim.specs.declared.rule.Rule.TheVariants.{Finished, Solve, Halve, Exact, Inexact}
use Rattle.fm_elim.specs.Unknowns.{coeff_in, without, lowers, uppers}
use Rattle.fm_elim.specs.Tidy.{End, Contra, Point, Grey, Over, tidied, kept_after, cuts}
use Rattle.fm_elim.specs.Steps.{rule_of, poly_at, substituted, solve_has_room, solved, halved, combined, combined_all, pairs_have_room, eliminated}
use Rattle.fm_elim.specs.Elimination.{Outcome, next, end_of, by_rule, outcome_in, enough_steps, elimination}
use Rattle.fm_elim.proofs.ListLaws.{all_take, all_drop, all_at, all_map, all_with, all_filter}
use Rattle.fm_elim.proofs.TidyLaws.{MayEnd, Allows, tidied_allows, by_tidied}
use Rattle.fm_elim.proofs.ShadowLaws.{times_at}
use Rattle.fm_elim.proofs.RuleLaws.{Applies, IsEqualityAt, IsGivenAt, rule_applies}
use Rattle.mm_num.proofs.Ring.{mul_zero}
use Rattle.mm_num.proofs.ListLaws.{all_join}

zero_value : (o : Op) (z : ℤ) → o ≡ Eq → Compares o z → z ≡ pos 0
zero_value Ge z e c = absurd cc
zero_value Eq z e c = c

pub at_least : (o : Op) (z : ℤ) → Compares o z → pos 0 ≤ℤ z
at_least Ge z c = c
at_least Eq z c = omega (arith, ints)

-- a multiple of what is 0 changes no value
same_value : (x : ℕ → ℤ) (q p : List Term) (k : ℤ) → value x p ≡ pos 0 → value x (plus q (scaled k p)) ≡ value x q
same_value x q p k e =
    value_plus x q (scaled k p)
    ∙ ap (λ z. value x q +ℤ z) (value_scaled x k p ∙ ap (λ z. k *ℤ z) e ∙ mul_zero k)
    ∙ sum_zero (value x q)

substituted_holds : (x : ℕ → ℤ) (u : List (ℕ × ℕ)) (p : List Term) (r : PRow) → value x p ≡ pos 0 → Holds x r → Holds x (substituted u p r)
substituted_holds x u p r e h = by_if (int_eq (coeff_in u r) (pos 0)) r _ (Holds x)
    (λ b. h)
    (λ b. subst (Compares r.op) (sym (same_value x r.poly p (neg_ℤ (coeff_in u r *ℤ coeff_in u (at_least_0 p))) e)) h)

sum_at_least : (a b : ℤ) → pos 0 ≤ℤ a → pos 0 ≤ℤ b → pos 0 ≤ℤ (a +ℤ b)
sum_at_least a b h k = omega (arith, ints)

combined_holds : (x : ℕ → ℤ) (u : List (ℕ × ℕ)) (l h : PRow) → Holds x l → Holds x h → Holds x (combined u l h)
combined_holds x u l h a b =
    let m = unsigned_abs (coeff_in u h) in
    let n = unsigned_abs (coeff_in u l) in
    subst (λ z. pos 0 ≤ℤ z)
    (sym (value_plus x (scaled (pos m) l.poly) (scaled (pos n) h.poly)
    ∙ ap (λ z. z +ℤ value x (scaled (pos n) h.poly)) (value_scaled x (pos m) l.poly)
    ∙ ap (λ z. pos m *ℤ value x l.poly +ℤ z) (value_scaled x (pos n) h.poly)))
    (sum_at_least _ _ (times_at m _ (at_least l.op (value x l.poly) a)) (times_at n _ (at_least h.op (value x h.poly) b)))

combined_all_hold : (x : ℕ → ℤ) (u : List (ℕ × ℕ)) (ls hs : List PRow) → Solves x ls → Solves x hs → Solves x (combined_all u ls hs)
combined_all_hold x u [] hs a b = tt
combined_all_hold x u (l ∷ ls) hs a b =
    all_join (Holds x) (map (combined u l) hs) (combined_all u ls hs)
    (all_map (Holds x) (combined u l) hs (all_with (Holds x) (λ h. Holds x (combined u l h)) hs (λ h k. combined_holds x u l h a.0 k) b))
    (combined_all_hold x u ls hs a.1 b)

-- each step keeps the integer solutions

pub poly_at_is : (rows : List PRow) (k : ℕ) (r : PRow) → slice_get rows k ≡ Some r → poly_at k rows ≡ r.poly
poly_at_is rows k r e = ap (λ o. option_map_or (λ (q : PRow). q.poly) o []) e

equality_value : (x : ℕ → ℤ) (rows : List PRow) (k : ℕ) (r : PRow) → slice_get rows k ≡ Some r → r.op ≡ Eq → Solves x rows → value x (poly_at k rows) ≡ pos 0
equality_value x rows k r e o s = ap (value x) (poly_at_is rows k r e) ∙ zero_value r.op (value x r.poly) o (all_at (Holds x) rows k r e s)

pub solved_allows : (x : ℕ → ℤ) (rows : List PRow) (k : ℕ) (u : List (ℕ × ℕ)) → IsGivenAt rows k u → Solves x rows → Allows x (solved u (poly_at k rows) (remove rows k))
solved_allows x rows k u g s = by_if (solve_has_room u (poly_at k rows) (remove rows k)) (Ok (map (substituted u (poly_at k rows)) (remove rows k))) (Err Over) (Allows x)
    (λ b. all_map (Holds x) (substituted u (poly_at k rows)) (remove rows k)
    (all_with (Holds x) (λ r. Holds x (substituted u (poly_at k rows) r)) (remove rows k)
    (λ r h. substituted_holds x u (poly_at k rows) r (equality_value x rows k g.row g.here g.equality s) h)
    (all_join (Holds x) (take k rows) (drop (suc k) rows) (all_take (Holds x) k rows s) (all_drop (Holds x) (suc k) rows s))))
    (λ b. tt)

least_of_zero : (z : ℤ) → z ≡ pos 0 → pos 0 ≤ℤ z
least_of_zero z e = omega (arith, ints)

pub halved_holds : (x : ℕ → ℤ) (rows : List PRow) (k : ℕ) → IsEqualityAt rows k → Solves x rows → Solves x (halved k rows)
halved_holds x rows k g s =
    let p = poly_at k rows in
    let e = equality_value x rows k g.row g.here g.equality s in
    let m : value x (scaled (negsuc 0) (poly_at k rows)) ≡ pos 0 = value_scaled x (negsuc 0) p ∙ ap (λ z. negsuc 0 *ℤ z) e ∙ mul_zero (negsuc 0) in
    all_join (Holds x) (take k rows) _ (all_take (Holds x) k rows s)
    (least_of_zero _ e, (least_of_zero _ m, all_drop (Holds x) (suc k) rows s))

pub eliminated_allows : (x : ℕ → ℤ) (u : List (ℕ × ℕ)) (rows : List PRow) → Solves x rows → Allows x (eliminated u rows)
eliminated_allows x u rows s = by_if (pairs_have_room u (lowers u rows) (uppers u rows)) (Ok (without u rows ++ combined_all u (lowers u rows) (uppers u rows))) (Err Over) (Allows x)
    (λ b. all_join (Holds x) (without u rows) (combined_all u (lowers u rows) (uppers u rows))
    (all_filter _ (Holds x) (Holds x) rows (λ r t h. h) s)
    (combined_all_hold x u (lowers u rows) (uppers u rows) (all_filter _ (Holds x) (Holds x) rows (λ r t h. h) s) (all_filter _ (Holds x) (Holds x) rows (λ r t h. h) s)))
    (λ b. tt)

-- the outcome

abbrev Going : (ℕ → ℤ) → (List PRow → Outcome) → Type 0
Going x go = (rows : List PRow) → Solves x rows → MayEnd (go rows).end

next_allows : (x : ℕ → ℤ) (go : List PRow → Outcome) (rows : List PRow) → Going x go → Solves x rows → MayEnd (next go (tidied rows)).end
next_allows x go rows g s = by_tidied rows (λ res. Allows x res → MayEnd (next go res).end)
    (λ e h. h) (λ h. tt) (λ e h. g (kept_after (cuts rows) []) h) (tidied_allows x rows s)

step_allows : (x : ℕ → ℤ) (go : List PRow → Outcome) (res : Result (List PRow) End) → Going x go → Allows x res → MayEnd (next go (res >>= tidied)).end
step_allows x go (Ok rows) g h = next_allows x go rows g h
step_allows x go (Err e) g h = h

ends_allow : (x : ℕ → ℤ) (exact : Bool) → MayEnd (end_of exact)
ends_allow x true = tt
ends_allow x false = tt

rule_allows : (x : ℕ → ℤ) (go : Bool → List PRow → Outcome) (exact : Bool) (rows : List PRow) (rule : Rule) → ((b : Bool) → Going x (go b)) → Applies rows rule → Solves x rows → MayEnd (by_rule go exact rows rule).end
rule_allows x go exact rows Finished g w s = ends_allow x exact
rule_allows x go exact rows (Solve k u) g w s =
    step_allows x (go exact) (solved u (poly_at k rows) (remove rows k)) (g exact) (solved_allows x rows k u w s)
rule_allows x go exact rows (Halve k) g w s = next_allows x (go exact) (halved k rows) (g exact) (halved_holds x rows k w s)
rule_allows x go exact rows (Exact u) g w s = step_allows x (go exact) (eliminated u rows) (g exact) (eliminated_allows x u rows s)
rule_allows x go exact rows (Inexact u) g w s = step_allows x (go false) (eliminated u rows) (g false) (eliminated_allows x u rows s)

outcome_allows : (x : ℕ → ℤ) (n : ℕ) (exact : Bool) → Going x (outcome_in n exact)
outcome_allows x zero exact rows s = tt
outcome_allows x (suc n) exact rows s =
    rule_allows x (outcome_in n) exact rows (rule_of rows) (λ b. outcome_allows x n b) (rule_applies rows) s

contra_ends : (e : End) → e ≡ Contra → MayEnd e → ⊥
contra_ends Contra e h = h
contra_ends Point e h = cc
contra_ends Grey e h = cc
contra_ends Over e h = cc

-- no integer point solves rows whose elimination ends in a contradiction
pub contra : (rows : List PRow) → elimination rows ≡ Contra → HasNoSolution rows
contra rows e x s = contra_ends (elimination rows) e
    (next_allows x (λ kept. outcome_in (enough_steps kept) true kept) rows (λ kept h. outcome_allows x (enough_steps kept) true kept h) s)
