-- What a rule that applies says of the rows.
use Rattle.std.specs.Prelude.{◌≡◌, ℕ, suc, ◌+◌, ℤ, pos, negsuc, ◌*ℤ◌, unsigned_abs, List, [], ◌∷◌, slice_get, Bool, true, false, cond, not, ◌&&◌, ◌==◌, refl, Option, Some, None}
use Rattle.std.proofs.Common.{sym, ◌∙◌, subst, arith}
use Rattle.std.specs.List.{AllByRecursion}
use Rattle.std.proofs.lemmas.Bool.{and_parts}
use Rattle.std.proofs.lemmas.Int.{ints}
use Rattle.std.proofs.lemmas.Option.{same_Some}
use Rattle.mm_poly.specs.declared.term.Term.{Term}
use Rattle.mm_poly.specs.Mono.{mono_cmp, is_constant}
use Rattle.mm_poly.specs.Poly.{coeff_of, IsPoly, without_constant}
use Rattle.mm_poly.proofs.OrderLaws.{mono_same}
use Rattle.mm_poly.proofs.CaseLaws.{by_if, by_cases, by_same}
use Rattle.mm_poly.proofs.CoeffLaws.{coeff_after}
use Rattle.cert_kit.specs.declared.row.Op.{Op}
use Rattle.cert_kit.specs.declared.row.Op.TheVariants.{Ge, Eq}
use Rattle.cert_kit.specs.declared.row.PRow.{PRow}
use Rattle.cert_kit.specs.Row.{has_no_terms}
use Rattle.fm_elim.specs.declared.rule.Rule.{Rule}
use Rattle.fm_elim.specs.declared.rule.Rule.TheVariants.{Finished, Solve, Halve, Exact, Inexact}
use Rattle.fm_elim.specs.Unknowns.{with_unknown, with_unknowns, unknowns}
use Rattle.fm_elim.specs.Tidy.{is_inequality, is_constant_row}
use Rattle.fm_elim.specs.Steps.{unit_unknown, solved_unknown, found_at, solvable_from, equality_from, is_exact, first_exact, first_of, exact_or, halve_or, solve_or, rule_of}
use Rattle.fm_elim.specs.machine.Tidying.{HasUnknowns}
use Rattle.fm_elim.proofs.TidyLaws.{IsPolyRow}

abbrev pub IsUnknown : List (ℕ × ℕ) → Type 0
IsUnknown u = is_constant u ≡ false

-- the coefficient is 1 or -1
pub record IsUnit (p : List Term) (u : List (ℕ × ℕ)) : Type 0 where
  pub square : coeff_of p u *ℤ coeff_of p u ≡ pos 1
  pub unknown : IsUnknown u

square_of : (c : ℤ) → (unsigned_abs c == 1) ≡ true → c *ℤ c ≡ pos 1
square_of (pos n) e = let o : n ≡ 1 = grind arith in rw o refl
square_of (negsuc n) e = let o : n ≡ 0 = grind arith in rw o refl

not_true : (b : Bool) → not b ≡ true → b ≡ false
not_true true e = absurd cc
not_true false e = refl

no_square : (c : ℤ) → c ≡ pos 0 → c *ℤ c ≡ pos 1 → ⊥
no_square c e h = omega (arith, ints, subst (λ z. z *ℤ z ≡ pos 1) e h)

first_unit : (t : Term) (ts : List Term) → (unsigned_abs t.coeff == 1) ≡ true → coeff_of (t ∷ ts) t.mono *ℤ coeff_of (t ∷ ts) t.mono ≡ pos 1
first_unit t ts e = rw (mono_same t.mono) (square_of t.coeff e)

pub unit_is : (p : List Term) (u : List (ℕ × ℕ)) → IsPoly p → unit_unknown p ≡ Some u → IsUnit p u
unit_is [] u h e = absurd cc
unit_is (t ∷ ts) u h e = by_if (not (is_constant t.mono) && (unsigned_abs t.coeff == 1)) (Some t.mono) (unit_unknown ts) (λ o. o ≡ Some u → IsUnit (t ∷ ts) u)
    (λ b e.
    let parts = and_parts (not (is_constant t.mono)) (unsigned_abs t.coeff == 1) b in
    subst (IsUnit (t ∷ ts)) (same_Some t.mono u e) (record { square = first_unit t ts parts.1; unknown = not_true _ parts.0 }))
    (λ b e.
    let rest = unit_is ts u h.2 e in
    record {
      square = by_same t.mono u t.coeff (coeff_of ts u) (λ r. r *ℤ r ≡ pos 1)
          (λ s. absurd (no_square (coeff_of ts u) (subst (λ m. coeff_of ts m ≡ pos 0) s (coeff_after t.mono ts h.1)) rest.square)) rest.square;
      unknown = rest.unknown;
    }) e

pub record IsEqualityAt (rows : List PRow) (k : ℕ) : Type 0 where
  pub row : PRow
  pub here : slice_get rows k ≡ Some row
  pub equality : row.op ≡ Eq

pub record IsGivenAt (rows : List PRow) (k : ℕ) (u : List (ℕ × ℕ)) : Type 0 where
  pub row : PRow
  pub here : slice_get rows k ≡ Some row
  pub equality : row.op ≡ Eq
  pub unit : IsPolyRow row → IsUnit row.poly u

equality_op : (o : Op) → is_inequality o ≡ false → o ≡ Eq
equality_op Ge e = absurd cc
equality_op Eq e = refl

solved_is : (r : PRow) (u : List (ℕ × ℕ)) → solved_unknown r ≡ Some u → (r.op ≡ Eq) × (IsPolyRow r → IsUnit r.poly u)
solved_is r u = by_if (is_inequality r.op) None (unit_unknown r.poly) (λ o. o ≡ Some u → (r.op ≡ Eq) × (IsPolyRow r → IsUnit r.poly u))
    (λ b e. absurd cc) (λ b e. (equality_op r.op b, λ h. unit_is r.poly u h e))

one_more : (m n k : ℕ) → m ≡ n + 1 + k → m ≡ n + suc k
one_more m n k e = omega arith

solvable_is : (rows : List PRow) (n : ℕ) (e : ℕ × List (ℕ × ℕ)) → solvable_from rows n ≡ Some e → (k : ℕ) × (e.0 ≡ n + k) × IsGivenAt rows k e.1
solvable_is [] n e h = absurd cc
solvable_is (r ∷ rows) n e h = by_test (solved_unknown r) refl h (λ f. solvable_is rows (n + 1) e f)
  where
    by_test : (o : Option (List (ℕ × ℕ))) → solved_unknown r ≡ o → found_at n o (solvable_from rows (n + 1)) ≡ Some e
        → (solvable_from rows (n + 1) ≡ Some e → (k : ℕ) × (e.0 ≡ n + 1 + k) × IsGivenAt rows k e.1) → (k : ℕ) × (e.0 ≡ n + k) × IsGivenAt (r ∷ rows) k e.1
    by_test (Some u) s f later =
        let d = same_Some (n, u) e f in
        let i = solved_is r u s in (
          0,
          subst (λ (q : ℕ × List (ℕ × ℕ)). q.0 ≡ n + 0) d (omega arith),
          record { row = r; here = refl; equality = i.0; unit = subst (λ (q : ℕ × List (ℕ × ℕ)). IsPolyRow r → IsUnit r.poly q.1) d i.1 },
        )
    by_test None s f later =
        let rest = later f in
        let g = rest.2 in
        (suc rest.0, one_more e.0 n rest.0 rest.1, record { row = g.row; here = g.here; equality = g.equality; unit = g.unit })

equality_is : (rows : List PRow) (n m : ℕ) → equality_from rows n ≡ Some m → (k : ℕ) × (m ≡ n + k) × IsEqualityAt rows k
equality_is [] n m h = absurd cc
equality_is (r ∷ rows) n m e = by_if (is_inequality r.op) (equality_from rows (n + 1)) (Some n) (λ o. o ≡ Some m → (k : ℕ) × (m ≡ n + k) × IsEqualityAt (r ∷ rows) k)
    (λ b h.
    let rest = equality_is rows (n + 1) m h in
    let g = rest.2 in
    (suc rest.0, one_more m n rest.0 rest.1, record { row = g.row; here = g.here; equality = g.equality }))
    (λ b h. (0, sym (same_Some n m h) ∙ omega arith, record { row = r; here = refl; equality = equality_op r.op b })) e

-- the unknowns aren't constant

pub all_with_unknown : (P : List (ℕ × ℕ) → Type 0) (m : List (ℕ × ℕ)) (us : List (List (ℕ × ℕ))) → P m → AllByRecursion P us → AllByRecursion P (with_unknown m us)
all_with_unknown P m [] h a = (h, tt)
all_with_unknown P m (u ∷ us) h a = by_cases (mono_cmp m u)
    (λ e. rw (e, with_unknown) (h, a)) (λ e. rw (e, with_unknown) a) (λ e. rw (e, with_unknown) (a.0, all_with_unknown P m us h a.1))

pub unknowns_with : (ts : List Term) (us : List (List (ℕ × ℕ))) → AllByRecursion IsUnknown us → AllByRecursion IsUnknown (with_unknowns ts us)
unknowns_with [] us a = a
unknowns_with (t ∷ ts) us a = by_if (is_constant t.mono) (with_unknowns ts us) (with_unknown t.mono (with_unknowns ts us)) (AllByRecursion IsUnknown)
    (λ e. unknowns_with ts us a) (λ e. all_with_unknown IsUnknown t.mono (with_unknowns ts us) e (unknowns_with ts us a))

pub unknowns_are : (rows : List PRow) → AllByRecursion IsUnknown (unknowns rows)
unknowns_are [] = tt
unknowns_are (r ∷ rows) = unknowns_with r.poly (unknowns rows) (unknowns_are rows)

-- where none is left, no row is

pub by_unknown : (m u : List (ℕ × ℕ)) (us : List (List (ℕ × ℕ))) (P : List (List (ℕ × ℕ)) → Type 0) → P (m ∷ u ∷ us) → P (u ∷ us) → P (u ∷ with_unknown m us) → P (with_unknown m (u ∷ us))
by_unknown m u us P l e g = by_cases (mono_cmp m u) (λ h. rw (h, with_unknown) l) (λ h. rw (h, with_unknown) e) (λ h. rw (h, with_unknown) g)

unknown_there : (m : List (ℕ × ℕ)) (us : List (List (ℕ × ℕ))) → with_unknown m us ≡ [] → ⊥
unknown_there m [] = λ e. cc
unknown_there m (u ∷ us) = by_unknown m u us (λ r. r ≡ [] → ⊥) (λ e. cc) (λ e. cc) (λ e. cc)

emptied : (b : Bool) (t : Term) (us : List (List (ℕ × ℕ))) (ts : List Term) → cond b us (with_unknown t.mono us) ≡ [] → (us ≡ [] → has_no_terms ts ≡ true)
    → has_no_terms (cond b ts (t ∷ ts)) ≡ true
emptied true t us ts e h = h e
emptied false t us ts e h = absurd (unknown_there t.mono us e)

no_unknown_in : (ts : List Term) (us : List (List (ℕ × ℕ))) → with_unknowns ts us ≡ [] → has_no_terms (without_constant ts) ≡ true
no_unknown_in [] us e = refl
no_unknown_in (t ∷ ts) us e = emptied (is_constant t.mono) t (with_unknowns ts us) (without_constant ts) e (no_unknown_in ts us)

pub no_rows : (rows : List PRow) → AllByRecursion HasUnknowns rows → unknowns rows ≡ [] → rows ≡ []
no_rows [] a e = refl
no_rows (r ∷ rows) a e = absurd (differ (is_constant_row r) (no_unknown_in r.poly (unknowns rows) e) a.0)
  where
    differ : (b : Bool) → b ≡ true → b ≡ false → ⊥
    differ b p q = cc

abbrev pub IsInequality : PRow → Type 0
IsInequality r = is_inequality r.op ≡ true

no_equality : (rows : List PRow) (n : ℕ) → equality_from rows n ≡ None → AllByRecursion IsInequality rows
no_equality [] n e = tt
no_equality (r ∷ rows) n e = by_if (is_inequality r.op) (equality_from rows (n + 1)) (Some n) (λ o. o ≡ None → AllByRecursion IsInequality (r ∷ rows))
    (λ b e. (b, no_equality rows (n + 1) e)) (λ b e. absurd cc) e

pub record IsExactIn (rows : List PRow) (u : List (ℕ × ℕ)) : Type 0 where
  pub exact : is_exact rows u ≡ true
  pub unknown : IsUnknown u
  pub inequalities : AllByRecursion IsInequality rows

-- what the rule says
abbrev pub Applies : List PRow → Rule → Type 0
Applies rows Finished = unknowns rows ≡ []
Applies rows (Solve k u) = IsGivenAt rows k u
Applies rows (Halve k) = IsEqualityAt rows k
Applies rows (Exact u) = IsExactIn rows u
Applies rows (Inexact u) = IsUnknown u

exact_is : (rows : List PRow) (us : List (List (ℕ × ℕ))) (u : List (ℕ × ℕ)) → AllByRecursion IsUnknown us → first_exact rows us ≡ Some u → (is_exact rows u ≡ true) × IsUnknown u
exact_is rows [] u a e = absurd cc
exact_is rows (m ∷ us) u a e = by_if (is_exact rows m) (Some m) (first_exact rows us) (λ o. o ≡ Some u → (is_exact rows u ≡ true) × IsUnknown u)
    (λ b e. subst (λ w. (is_exact rows w ≡ true) × IsUnknown w) (same_Some m u e) (b, a.0)) (λ b e. exact_is rows us u a.1 e) e

first_is : (rows : List PRow) (us : List (List (ℕ × ℕ))) → unknowns rows ≡ us → AllByRecursion IsUnknown us → Applies rows (first_of us)
first_is rows [] e a = e
first_is rows (u ∷ us) e a = a.0

pub rule_applies : (rows : List PRow) → Applies rows (rule_of rows)
rule_applies rows = by_solve (solvable_from rows 0) refl
  where
    by_exact : (o : Option (List (ℕ × ℕ))) → first_exact rows (unknowns rows) ≡ o → AllByRecursion IsInequality rows → Applies rows (exact_or o (first_of (unknowns rows)))
    by_exact (Some u) e q = let f = exact_is rows (unknowns rows) u (unknowns_are rows) e in record { exact = f.0; unknown = f.1; inequalities = q }
    by_exact None e q = first_is rows (unknowns rows) refl (unknowns_are rows)

    by_halve : (o : Option ℕ) → equality_from rows 0 ≡ o → Applies rows (halve_or o (exact_or (first_exact rows (unknowns rows)) (first_of (unknowns rows))))
    by_halve (Some k) e = let f = equality_is rows 0 k e in let q : f.0 ≡ k = omega (arith, f.1) in subst (IsEqualityAt rows) q f.2
    by_halve None e = by_exact (first_exact rows (unknowns rows)) refl (no_equality rows 0 e)

    by_solve : (o : Option (ℕ × List (ℕ × ℕ))) → solvable_from rows 0 ≡ o
        → Applies rows (solve_or o (halve_or (equality_from rows 0) (exact_or (first_exact rows (unknowns rows)) (first_of (unknowns rows)))))
    by_solve (Some e) h = let f = solvable_is rows 0 e h in let q : f.0 ≡ e.0 = omega (arith, f.1) in subst (λ k. IsGivenAt rows k e.1) q f.2
    by_solve None h = by_halve (equality_from rows 0) refl

-- where an unknown is eliminated, there is no equality

abbrev pub Eliminates : Rule → Type 0
Eliminates Finished = ⊥
Eliminates (Solve k u) = ⊥
Eliminates (Halve k) = ⊥
Eliminates (Exact u) = Unit {0}
Eliminates (Inexact u) = Unit {0}

inequal_op : (o : Op) → is_inequality o ≡ true → o ≡ Ge
inequal_op Ge e = refl
inequal_op Eq e = absurd cc

inequal_rows : (rows : List PRow) → AllByRecursion IsInequality rows → AllByRecursion (λ (r : PRow). r.op ≡ Ge) rows
inequal_rows [] a = tt
inequal_rows (r ∷ rows) a = (inequal_op r.op a.0, inequal_rows rows a.1)

pub no_equalities : (rows : List PRow) → Eliminates (rule_of rows) → AllByRecursion (λ (r : PRow). r.op ≡ Ge) rows
no_equalities rows h = by_solve (solvable_from rows 0) h
  where
    by_halve : (o : Option ℕ) → equality_from rows 0 ≡ o → Eliminates (halve_or o (exact_or (first_exact rows (unknowns rows)) (first_of (unknowns rows))))
        → AllByRecursion (λ (r : PRow). r.op ≡ Ge) rows
    by_halve (Some k) e h = absurd h
    by_halve None e h = inequal_rows rows (no_equality rows 0 e)

    by_solve : (o : Option (ℕ × List (ℕ × ℕ)))
        → Eliminates (solve_or o (halve_or (equality_from rows 0) (exact_or (first_exact rows (unknowns rows)) (first_of (unknowns rows)))))
        → AllByRecursion (λ (r : PRow). r.op ≡ Ge) rows
    by_solve (Some e) h = absurd h
    by_solve None h = by_halve (equality_from rows 0) refl h
