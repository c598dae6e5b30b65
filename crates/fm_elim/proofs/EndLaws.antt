-- The values of a point solve the rows that were eliminated.
use Rattle.std.specs.Prelude.{◌≡◌, ℕ, zero, suc, ◌≤◌, pos, ◌*ℤ◌, ◌+ℤ◌, List, [], ◌∷◌, ◌++◌, map, Bool, true, false, Ok, Err, refl, if◌then◌else◌}
use Rattle.std.proofs.Common.{ap, sym, ◌∙◌, subst, arith}
use Rattle.std.proofs.Math.IntN.{*ℤ_comm}
use Rattle.std.specs.List.{AllByRecursion, remove}
use Rattle.mm_num.specs.Result.{◌>>=◌}
use Rattle.mm_num.specs.Power.{power}
use Rattle.mm_poly.specs.declared.term.Term.{Term}
use Rattle.mm_poly.specs.Mono.{mono_value, mono_degree, IsMono}
use Rattle.mm_poly.specs.Poly.{Fits, AllMono, degree, value, linear_value}
use Rattle.mm_poly.proofs.CaseLaws.{by_if}
use Rattle.mm_poly.proofs.ValueLaws.{one_mul}
use Rattle.cert_kit.specs.declared.row.PRow.{PRow}
use Rattle.cert_kit.specs.Row.{Compares, Holds, Solves}
use Rattle.fm_elim.specs.declared.rule.Rule.{Rule}
use Rattle.fm_elim.specs.declared.rule.Rule.TheVariants.{Finished, Solve, Halve, Exact, Inexact}
use Rattle.fm_elim.specs.declared.removal.Removal.{Removal}
use Rattle.fm_elim.specs.declared.removal.Removal.TheVariants.{Solved, Bounded}
use Rattle.fm_elim.specs.Unknowns.{without, lowers, uppers}
use Rattle.fm_elim.specs.Tidy.{Point, Over, tidied, kept_after, cuts}
use Rattle.fm_elim.specs.Steps.{rule_of, poly_at, substituted, solve_has_room, solved, halved, combined_all, pairs_have_room, eliminated}
use Rattle.fm_elim.specs.Elimination.{Outcome, next, by_rule, outcome_in, enough_steps, outcome, elimination}
use Rattle.fm_elim.specs.Points.{Values, no_values, value_after, values_of, HoldsBy, AreRows, AreLinear, point_at}
use Rattle.fm_elim.proofs.ListLaws.{all_at, all_with, all_zip}
use Rattle.fm_elim.proofs.TidyLaws.{IsPolyRow, AreTidy, kept_tidy, by_tidied, tidy_back}
use Rattle.fm_elim.proofs.RuleLaws.{Applies, IsExactIn, IsGivenAt, rule_applies, no_rows}
use Rattle.fm_elim.proofs.PolyRowLaws.{solved_polys, halved_polys, eliminated_polys}
use Rattle.fm_elim.proofs.PointLaws.{constant_stays, solved_back, halved_back}
use Rattle.fm_elim.proofs.PairLaws.{eliminated_back}

-- the constant counts for itself, and the rows hold by the values
pub record IsPointed (removed : List Removal) (rows : List PRow) : Type 0 where
  pub constant : values_of removed [] ≡ pos 1
  pub hold : AllByRecursion (HoldsBy (values_of removed)) rows

abbrev Going : (List PRow → Outcome) → Type 0
Going go = (rows : List PRow) → AreTidy rows → (go rows).end ≡ Point → IsPointed (go rows).removed rows

next_back : (go : List PRow → Outcome) (rows : List PRow) → Going go → AllByRecursion IsPolyRow rows → (next go (tidied rows)).end ≡ Point → IsPointed (next go (tidied rows)).removed rows
next_back go rows g a = by_tidied rows (λ res. (next go res).end ≡ Point → IsPointed (next go res).removed rows) (λ e p. absurd cc) (λ p. absurd cc)
    (λ e p.
    let k = g (kept_after (cuts rows) []) (kept_tidy rows a) p in
    record { constant = k.constant; hold = tidy_back (values_of (go (kept_after (cuts rows) [])).removed) rows k.constant e k.hold })

solve_back : (go : List PRow → Outcome) (rows : List PRow) (k : ℕ) (u : List (ℕ × ℕ)) → Going go → AllByRecursion IsPolyRow rows → IsGivenAt rows k u
    → (next go (solved u (poly_at k rows) (remove rows k) >>= tidied)).end ≡ Point
    → IsPointed (Solved u (poly_at k rows) ∷ (next go (solved u (poly_at k rows) (remove rows k) >>= tidied)).removed) rows
solve_back go rows k u g a w = by_room (solve_has_room u (poly_at k rows) (remove rows k)) refl
  where
    by_room : (b : Bool) → solve_has_room u (poly_at k rows) (remove rows k) ≡ b
        → (next go ((if b then Ok (map (substituted u (poly_at k rows)) (remove rows k)) else Err Over) >>= tidied)).end ≡ Point
        → IsPointed (Solved u (poly_at k rows) ∷ (next go ((if b then Ok (map (substituted u (poly_at k rows)) (remove rows k)) else Err Over) >>= tidied)).removed) rows
    by_room true e p =
        let after = map (substituted u (poly_at k rows)) (remove rows k) in
        let b = next_back go after g (solved_polys k u rows after a (rw e refl)) p in
        let v = values_of (next go (tidied after)).removed in
        record {
          constant = constant_stays v u (value_after v (Solved u (poly_at k rows))) (w.unit (all_at IsPolyRow rows k w.row w.here a)).unknown b.constant;
          hold = solved_back v rows k u a w b.hold;
        }
    by_room false e p = absurd cc

pair_back : (go : List PRow → Outcome) (rows : List PRow) (u : List (ℕ × ℕ)) → Going go → AllByRecursion IsPolyRow rows → IsExactIn rows u
    → (next go (eliminated u rows >>= tidied)).end ≡ Point
    → IsPointed (Bounded u (lowers u rows) (uppers u rows) ∷ (next go (eliminated u rows >>= tidied)).removed) rows
pair_back go rows u g a w = by_room (pairs_have_room u (lowers u rows) (uppers u rows)) refl
  where
    by_room : (b : Bool) → pairs_have_room u (lowers u rows) (uppers u rows) ≡ b
        → (next go ((if b then Ok (without u rows ++ combined_all u (lowers u rows) (uppers u rows)) else Err Over) >>= tidied)).end ≡ Point
        → IsPointed (Bounded u (lowers u rows) (uppers u rows) ∷ (next go ((if b then Ok (without u rows ++ combined_all u (lowers u rows) (uppers u rows)) else Err Over) >>= tidied)).removed) rows
    by_room true e p =
        let after = without u rows ++ combined_all u (lowers u rows) (uppers u rows) in
        let b = next_back go after g (eliminated_polys u rows after a (rw e refl)) p in
        let v = values_of (next go (tidied after)).removed in
        record {
          constant = constant_stays v u (value_after v (Bounded u (lowers u rows) (uppers u rows))) w.unknown b.constant;
          hold = eliminated_back v u rows a w b.hold;
        }
    by_room false e p = absurd cc

-- after an inexact step there is no point

abbrev IsNever : (List PRow → Outcome) → Type 0
IsNever go = (rows : List PRow) → (go rows).end ≡ Point → ⊥

never_next : (go : List PRow → Outcome) (rows : List PRow) → IsNever go → (next go (tidied rows)).end ≡ Point → ⊥
never_next go rows g = by_tidied rows (λ res. (next go res).end ≡ Point → ⊥) (λ e p. cc) (λ p. cc) (λ e p. g (kept_after (cuts rows) []) p)

never_solved : (go : List PRow → Outcome) (u : List (ℕ × ℕ)) (p : List Term) (rows : List PRow) → IsNever go → (next go (solved u p rows >>= tidied)).end ≡ Point → ⊥
never_solved go u p rows g = by_if (solve_has_room u p rows) (Ok (map (substituted u p) rows)) (Err Over) (λ res. (next go (res >>= tidied)).end ≡ Point → ⊥)
    (λ b. never_next go (map (substituted u p) rows) g) (λ b q. cc)

never_eliminated : (go : List PRow → Outcome) (u : List (ℕ × ℕ)) (rows : List PRow) → IsNever go → (next go (eliminated u rows >>= tidied)).end ≡ Point → ⊥
never_eliminated go u rows g =
    by_if (pairs_have_room u (lowers u rows) (uppers u rows)) (Ok (without u rows ++ combined_all u (lowers u rows) (uppers u rows))) (Err Over)
    (λ res. (next go (res >>= tidied)).end ≡ Point → ⊥) (λ b. never_next go (without u rows ++ combined_all u (lowers u rows) (uppers u rows)) g) (λ b q. cc)

never_rule : (go : Bool → List PRow → Outcome) (rows : List PRow) (rule : Rule) → IsNever (go false) → (by_rule go false rows rule).end ≡ Point → ⊥
never_rule go rows Finished g p = cc
never_rule go rows (Solve k u) g p = never_solved (go false) u (poly_at k rows) (remove rows k) g p
never_rule go rows (Halve k) g p = never_next (go false) (halved k rows) g p
never_rule go rows (Exact u) g p = never_eliminated (go false) u rows g p
never_rule go rows (Inexact u) g p = never_eliminated (go false) u rows g p

never_point : (n : ℕ) → IsNever (outcome_in n false)
never_point zero rows p = cc
never_point (suc n) rows p = never_rule (outcome_in n) rows (rule_of rows) (never_point n) p

-- the outcome

rule_back : (go : Bool → List PRow → Outcome) (exact : Bool) (rows : List PRow) (rule : Rule) → ((b : Bool) → Going (go b)) → IsNever (go false) → AreTidy rows
    → Applies rows rule → (by_rule go exact rows rule).end ≡ Point → IsPointed (by_rule go exact rows rule).removed rows
rule_back go exact rows Finished g n a w p = record {
  constant = refl;
  hold = subst (AllByRecursion (HoldsBy no_values)) (sym (no_rows rows a.unknown w)) tt;
}
rule_back go exact rows (Solve k u) g n a w p = solve_back (go exact) rows k u (g exact) a.polys w p
rule_back go exact rows (Halve k) g n a w p =
    let b = next_back (go exact) (halved k rows) (g exact) (halved_polys k rows a.polys) p in
    record { constant = b.constant; hold = halved_back (values_of (next (go exact) (tidied (halved k rows))).removed) rows k w b.hold }
rule_back go exact rows (Exact u) g n a w p = pair_back (go exact) rows u (g exact) a.polys w p
rule_back go exact rows (Inexact u) g n a w p = absurd (never_eliminated (go false) u rows n p)

outcome_back : (n : ℕ) (exact : Bool) → Going (outcome_in n exact)
outcome_back zero exact rows a p = absurd cc
outcome_back (suc n) exact rows a p =
    rule_back (outcome_in n) exact rows (rule_of rows) (λ b. outcome_back n b) (never_point n) a (rule_applies rows) p

-- the values solve the rows where each monomial counts for itself
pub point_values : (rows : List PRow) → AllByRecursion IsPolyRow rows → elimination rows ≡ Point → IsPointed (outcome rows).removed rows
point_values rows a p = next_back (λ kept. outcome_in (enough_steps kept) true kept) rows (λ kept b q. outcome_back (enough_steps kept) true kept b q) a p

-- linear rows

linear_mono : (w : Values) (m : List (ℕ × ℕ)) → w [] ≡ pos 1 → IsMono m → mono_degree m ≤ 1 → mono_value (λ v. w ((v, 1) ∷ [])) m ≡ w m
linear_mono w [] o h d = sym o
linear_mono w (f ∷ []) o h d =
    let e : f.1 ≡ 1 = (let l = h.0 in omega arith) in
    ap (λ n. power (w ((f.0, 1) ∷ [])) n *ℤ pos 1) e ∙ *ℤ_comm (w ((f.0, 1) ∷ []) *ℤ pos 1) (pos 1) ∙ one_mul (w ((f.0, 1) ∷ []) *ℤ pos 1)
    ∙ *ℤ_comm (w ((f.0, 1) ∷ [])) (pos 1) ∙ one_mul (w ((f.0, 1) ∷ [])) ∙ ap (λ n. w ((f.0, n) ∷ [])) (sym e)
linear_mono w (f ∷ g ∷ gs) o h d = let l = h.0 in let k = h.2.0 in absurd (omega arith)

linear_value_is : (w : Values) (p : List Term) → w [] ≡ pos 1 → AllMono p → degree p ≤ 1 → value (λ v. w ((v, 1) ∷ [])) p ≡ linear_value w p
linear_value_is w [] o h d = refl
linear_value_is w (t ∷ ts) o h d =
    let first : mono_degree t.mono ≤ 1 = omega arith in
    let rest : degree ts ≤ 1 = omega arith in
    ap (λ z. t.coeff *ℤ z +ℤ value (λ v. w ((v, 1) ∷ [])) ts) (linear_mono w t.mono o h.0 first) ∙ ap (λ z. t.coeff *ℤ w t.mono +ℤ z) (linear_value_is w ts o h.1 rest)

-- the point of linear rows solves them
pub point_solves : (rows : List PRow) → AreRows rows → AreLinear rows → elimination rows ≡ Point → Solves (point_at rows) rows
point_solves rows a l p =
    let b = point_values rows (all_with (λ (r : PRow). Fits r.poly) IsPolyRow rows (λ r h. h.order) a) p in
    let w = values_of (outcome rows).removed in
    all_zip (λ r. Fits r.poly × (degree r.poly ≤ 1)) (HoldsBy w) (Holds (point_at rows)) rows
    (λ r h k. subst (Compares r.op) (sym (linear_value_is w r.poly b.constant h.0.monos h.1)) k)
    (all_zip (λ (r : PRow). Fits r.poly) (λ (r : PRow). degree r.poly ≤ 1) (λ r. Fits r.poly × (degree r.poly ≤ 1)) rows (λ r h k. (h, k)) a l) b.hold
