-- Each step removes an unknown or an equality, so the steps never run out.
use Rattle.std.specs.Prelude.{◌≡◌, ◌⊎◌, ℕ, zero, suc, ◌+◌, ◌*ℤ◌, ◌+ℤ◌, ◌<◌, ◌≤◌, ℤ, pos, negsuc, neg_ℤ, unsigned_abs, List, [], ◌∷◌, ◌++◌, length, map, take, drop, slice_get, Bool, true, false, cond, Option, Some, None, Result, Ok, Err, if◌then◌else◌, int_lt, refl}
use Rattle.std.proofs.Common.{ap, sym, ◌∙◌, subst, inl, inr, arith}
use Rattle.std.proofs.lemmas.Int.{ints}
use Rattle.std.proofs.lemmas.Option.{same_Some}
use Rattle.std.specs.declared.cmp.Ordering.TheVariants.{Less}
use Rattle.std.specs.Ordering.{int_eq}
use Rattle.std.specs.List.{AllByRecursion, remove}
use Rattle.mm_num.specs.Result.{◌>>=◌}
use Rattle.mm_num.proofs.TestLaws.{is_int}
use Rattle.mm_poly.specs.declared.term.Term.{Term}
use Rattle.mm_poly.specs.Mono.{mono_cmp, is_constant}
use Rattle.mm_poly.specs.Poly.{IsPoly, EachMono, coeff_of, content, constant_part, without_constant, plus, scaled, constant_of, floor_divided}
use Rattle.mm_poly.proofs.OrderLaws.{mono_exact, mono_through, mono_not_self}
use Rattle.mm_poly.proofs.CaseLaws.{by_if, by_cases}
use Rattle.mm_poly.proofs.CoeffLaws.{coeff_plus}
use Rattle.mm_poly.proofs.FiniteLaws.{coeff_scaled}
use Rattle.mm_poly.proofs.PartLaws.{coeff_found, coeff_passed}
use Rattle.mm_poly.proofs.PolyLaws.{poly_plus, poly_scaled}
use Rattle.mm_poly.proofs.EachLaws.{each_with, each_plus, each_scaled, each_without, each_divided}
use Rattle.cert_kit.specs.declared.row.Op.{Op}
use Rattle.cert_kit.specs.declared.row.Op.TheVariants.{Ge, Eq}
use Rattle.cert_kit.specs.declared.row.PRow.{PRow}
use Rattle.cert_kit.specs.Cut.{contradiction, divided, cut_by, cut_of}
use Rattle.cert_kit.specs.Meaning.{at_least_0}
use Rattle.mm_num.specs.Quotient.{floor_by}
use Rattle.fm_elim.specs.declared.rule.Rule.{Rule}
use Rattle.fm_elim.specs.declared.rule.Rule.TheVariants.{Finished, Solve, Halve, Exact, Inexact}
use Rattle.fm_elim.specs.declared.removal.Removal.TheVariants.{Solved, Bounded}
use Rattle.fm_elim.specs.Unknowns.{with_unknown, with_unknowns, unknowns, coeff_in, without, lowers, uppers}
use Rattle.fm_elim.specs.Tidy.{End, Over, are_parallel, is_tighter, tighter, put, is_constant_row, kept_after, cuts, tidied}
use Rattle.fm_elim.specs.Steps.{solvable_from, equality_from, is_exact, first_exact, first_of, exact_or, halve_or, solve_or, rule_of, poly_at, substituted, solve_has_room, solved, halved, combined, combined_all, pairs_have_room, eliminated}
use Rattle.fm_elim.specs.Elimination.{Outcome, standing, removing, next, by_rule, outcome_in, enough_steps}
use Rattle.fm_elim.proofs.ListLaws.{all_take, all_drop, all_at, all_map, all_filter, all_zip, all_with}
use Rattle.fm_elim.proofs.TidyLaws.{IsPolyRow, AreTidy, all_kept, by_tidied, kept_tidy}
use Rattle.fm_elim.proofs.RuleLaws.{IsUnknown, IsGivenAt, IsEqualityAt, Applies, by_unknown, unknowns_are, rule_applies}
use Rattle.fm_elim.proofs.PolyRowLaws.{poly_at_poly, remove_all, poly_substituted, combined_polys, halved_polys}
use Rattle.fm_elim.proofs.ContraLaws.{poly_at_is}
use Rattle.fm_elim.proofs.PointLaws.{taken_out}
use Rattle.fm_elim.proofs.PairLaws.{above_sign, below_sign, pair_cancels}
use Rattle.fm_elim.proofs.SolveLaws.{Has, known_rows}
use Rattle.fm_elim.proofs.NumberLaws.{Rise, rise_rows}
use Rattle.mm_num.proofs.ListLaws.{all_join}

-- what the unknowns of rows are

abbrev Each : (List (ℕ × ℕ) → Type 0) → List PRow → Type 0
Each P rows = AllByRecursion (λ (r : PRow). EachMono P r.poly) rows

later : (n m u : List (ℕ × ℕ)) (us : List (List (ℕ × ℕ))) → (n ≡ m) ⊎ Has n us → (n ≡ m) ⊎ Has n (u ∷ us)
later n m u us (inl e) = inl e
later n m u us (inr h) = inr (inr h)

beside : (n m u : List (ℕ × ℕ)) (us vs : List (List (ℕ × ℕ))) → (Has n vs → (n ≡ m) ⊎ Has n us) → Has n (u ∷ vs) → (n ≡ m) ⊎ Has n (u ∷ us)
beside n m u us vs f (inl e) = inr (inl e)
beside n m u us vs f (inr h) = later n m u us (f h)

has_either : (n m : List (ℕ × ℕ)) (us : List (List (ℕ × ℕ))) → Has n (with_unknown m us) → (n ≡ m) ⊎ Has n us
has_either n m [] h = h
has_either n m (u ∷ us) h =
    by_unknown m u us (λ vs. Has n vs → (n ≡ m) ⊎ Has n (u ∷ us)) (λ k. k) (λ k. inr k) (beside n m u us (with_unknown m us) (λ k. has_either n m us k)) h

either_is : (P : List (ℕ × ℕ) → Type 0) (n m : List (ℕ × ℕ)) (us : List (List (ℕ × ℕ))) → P m → (Has n us → P n) → (n ≡ m) ⊎ Has n us → P n
either_is P n m us p f (inl e) = subst P (sym e) p
either_is P n m us p f (inr h) = f h

term_each : (P : List (ℕ × ℕ) → Type 0) (n : List (ℕ × ℕ)) (t : Term) (us : List (List (ℕ × ℕ))) (b : Bool) → P t.mono → (Has n us → P n) → Has n (cond b us (with_unknown t.mono us)) → P n
term_each P n t us true p f h = f h
term_each P n t us false p f h = either_is P n t.mono us p f (has_either n t.mono us h)

pub terms_each : (P : List (ℕ × ℕ) → Type 0) (n : List (ℕ × ℕ)) (ts : List Term) (us : List (List (ℕ × ℕ))) → EachMono P ts → (Has n us → P n) → Has n (with_unknowns ts us) → P n
terms_each P n [] us a f h = f h
terms_each P n (t ∷ ts) us a f h = term_each P n t (with_unknowns ts us) (is_constant t.mono) a.0 (λ k. terms_each P n ts us a.1 f k) h

unknowns_each : (P : List (ℕ × ℕ) → Type 0) (n : List (ℕ × ℕ)) (rows : List PRow) → Each P rows → Has n (unknowns rows) → P n
unknowns_each P n [] a h = absurd h
unknowns_each P n (r ∷ rows) a h = terms_each P n r.poly (unknowns rows) a.0 (λ k. unknowns_each P n rows a.1 k) h

pub has_all : (P : List (ℕ × ℕ) → Type 0) (n : List (ℕ × ℕ)) (us : List (List (ℕ × ℕ))) → AllByRecursion P us → Has n us → P n
has_all P n [] a h = absurd h
has_all P n (u ∷ us) a (inl e) = subst P (sym e) a.0
has_all P n (u ∷ us) a (inr h) = has_all P n us a.1 h

-- constant, or among these
abbrev pub Known : List (List (ℕ × ℕ)) → List (ℕ × ℕ) → Type 0
Known us m = (m ≡ []) ⊎ Has m us

pub known_unknown : (n : List (ℕ × ℕ)) (us : List (List (ℕ × ℕ))) → IsUnknown n → Known us n → Has n us
known_unknown n us z (inl e) = absurd (differ n z e)
  where
    differ : (n : List (ℕ × ℕ)) → is_constant n ≡ false → n ≡ [] → ⊥
    differ [] z e = absurd cc
    differ (f ∷ fs) z e = absurd cc
known_unknown n us z (inr h) = h

-- fewer unknowns

abbrev pub Within : List (List (ℕ × ℕ)) → List (List (ℕ × ℕ)) → Type 0
Within us vs = (n : List (ℕ × ℕ)) → Has n us → Has n vs

pub less_than : (w : List (ℕ × ℕ)) (us : List (List (ℕ × ℕ))) → AllByRecursion (λ v. mono_cmp w v ≡ Less) us → (n : List (ℕ × ℕ)) → Has n us → mono_cmp w n ≡ Less
less_than w us a n h = has_all (λ v. mono_cmp w v ≡ Less) n us a h

not_first : (w v n : List (ℕ × ℕ)) (vs : List (List (ℕ × ℕ))) → mono_cmp w n ≡ Less → w ≡ v → Has n (v ∷ vs) → Has n vs
not_first w v n vs l e (inl f) = absurd (mono_not_self w (subst (λ (k : List (ℕ × ℕ)). mono_cmp w k ≡ Less) (f ∙ sym e) l))
not_first w v n vs l e (inr k) = k

past_first : (w v n : List (ℕ × ℕ)) (vs : List (List (ℕ × ℕ))) → mono_cmp v w ≡ Less → mono_cmp w n ≡ Less → Has n (v ∷ vs) → Has n vs
past_first w v n vs b l (inl f) = absurd (mono_not_self v (mono_through v w v b (subst (λ (k : List (ℕ × ℕ)). mono_cmp w k ≡ Less) f l)))
past_first w v n vs b l (inr k) = k

pub skip_same : (w v : List (ℕ × ℕ)) (us vs : List (List (ℕ × ℕ))) → w ≡ v → Rise (w ∷ us) → Within (w ∷ us) (v ∷ vs) → Within us vs
skip_same w v us vs e r s n h = not_first w v n vs (less_than w us r.0 n h) e (s n (inr h))

skip_later : (w v : List (ℕ × ℕ)) (us vs : List (List (ℕ × ℕ))) → Has w vs → Rise (w ∷ us) → Rise (v ∷ vs) → Within (w ∷ us) (v ∷ vs) → Within (w ∷ us) vs
skip_later w v us vs h r q s n (inl e) = subst (λ (k : List (ℕ × ℕ)). Has k vs) (sym e) h
skip_later w v us vs h r q s n (inr k) = past_first w v n vs (less_than v vs q.0 w h) (less_than w us r.0 n k) (s n (inr k))

no_more : (us vs : List (List (ℕ × ℕ))) → Rise us → Rise vs → Within us vs → length us ≤ length vs
no_more [] vs r q s = omega arith
no_more (w ∷ us) [] r q s = absurd (s w (inl refl))
no_more (w ∷ us) (v ∷ vs) r q s = elim (s w (inl refl)) as (λ _. length (w ∷ us) ≤ length (v ∷ vs)) [
  | inl e ↦ (let h = no_more us vs r.1 q.1 (skip_same w v us vs e r s) in omega (arith, h))
  | inr k ↦ (let h = no_more (w ∷ us) vs r q.1 (skip_later w v us vs k r q s) in omega (arith, h))
]

not_here : (u w v : List (ℕ × ℕ)) (us vs : List (List (ℕ × ℕ))) → w ≡ v → (Has u (w ∷ us) → ⊥) → Has u (v ∷ vs) → Has u vs
not_here u w v us vs e n (inl f) = absurd (n (inl (f ∙ sym e)))
not_here u w v us vs e n (inr i) = i

fewer : (u : List (ℕ × ℕ)) (us vs : List (List (ℕ × ℕ))) → Rise us → Rise vs → Within us vs → Has u vs → (Has u us → ⊥) → length us < length vs
fewer u us [] r q s h n = absurd h
fewer u [] (v ∷ vs) r q s h n = omega arith
fewer u (w ∷ us) (v ∷ vs) r q s h n = elim (s w (inl refl)) as (λ _. length (w ∷ us) < length (v ∷ vs)) [
  | inl e ↦ (let k = fewer u us vs r.1 q.1 (skip_same w v us vs e r s) (not_here u w v us vs e n h) (λ i. n (inr i)) in omega (arith, k))
  | inr k ↦ (let i = no_more (w ∷ us) vs r q.1 (skip_later w v us vs k r q s) in omega (arith, i))
]

-- equalities

abbrev one_equality : Op → ℕ
one_equality Ge = 0
one_equality Eq = 1

abbrev equalities : List PRow → ℕ
equalities [] = 0
equalities (r ∷ rows) = one_equality r.op + equalities rows

both_equalities : (xs ys : List PRow) → equalities (xs ++ ys) ≡ equalities xs + equalities ys
both_equalities [] ys = omega arith
both_equalities (x ∷ xs) ys = let h = both_equalities xs ys in omega (arith, h)

put_equalities : (r : PRow) (rows : List PRow) → equalities (put r rows) ≤ one_equality r.op + equalities rows
put_equalities r [] = omega arith
put_equalities r (s ∷ rows) = by_if (are_parallel s r) (tighter s r rows) (s ∷ put r rows) (λ q. equalities q ≤ one_equality r.op + equalities (s ∷ rows))
    (λ e. by_if (is_tighter r s) (rows ++ r ∷ []) (s ∷ rows) (λ q. equalities q ≤ one_equality r.op + equalities (s ∷ rows))
    (λ f. let b = both_equalities rows (r ∷ []) in omega (arith, b)) (λ f. omega arith))
    (λ e. let h = put_equalities r rows in omega (arith, h))

kept_equalities : (rows kept : List PRow) → equalities (kept_after rows kept) ≤ equalities rows + equalities kept
kept_equalities [] kept = omega arith
kept_equalities (r ∷ rows) kept =
    let h : equalities (kept_after rows (if is_constant_row r then kept else put r kept)) ≤ equalities rows + equalities (if is_constant_row r then kept else put r kept) =
    kept_equalities rows (if is_constant_row r then kept else put r kept) in
    let g : equalities (if is_constant_row r then kept else put r kept) ≤ one_equality r.op + equalities kept =
    by_if (is_constant_row r) kept (put r kept) (λ q. equalities q ≤ one_equality r.op + equalities kept) (λ e. omega arith) (λ e. put_equalities r kept) in
    omega (arith, h, g)

cut_by_equality : (g : ℕ) (o : Op) (p : List Term) → one_equality (cut_by g o p).op ≤ one_equality o
cut_by_equality g Ge p = omega arith
cut_by_equality g Eq p = by_if _ (record { poly = divided g p; op = Eq }) contradiction (λ (q : PRow). one_equality q.op ≤ 1) (λ e. omega arith) (λ e. omega arith)

cut_equality : (r : PRow) → one_equality (cut_of r).op ≤ one_equality r.op
cut_equality r = by_if _ r (cut_by (content r.poly) r.op r.poly) (λ (q : PRow). one_equality q.op ≤ one_equality r.op) (λ e. omega arith) (λ e. cut_by_equality (content r.poly) r.op r.poly)

cuts_equalities : (rows : List PRow) → equalities (cuts rows) ≤ equalities rows
cuts_equalities [] = omega arith
cuts_equalities (r ∷ rows) = let h = cuts_equalities rows in let g = cut_equality r in omega (arith, h, g)

-- tidying

each_cut_by : (P : List (ℕ × ℕ) → Type 0) (g : ℕ) (o : Op) (p : List Term) → P [] → EachMono P p → EachMono P (cut_by g o p).poly
each_cut_by P g Ge p z a = each_plus P (floor_divided g (without_constant p)) (constant_of (floor_by (constant_part p) g)) (each_divided P g (without_constant p) (each_without P p a)) (each_with P (floor_by (constant_part p) g) [] [] z tt)
each_cut_by P g Eq p z a = by_if _ (record { poly = divided g p; op = Eq }) contradiction (λ (q : PRow). EachMono P q.poly)
    (λ e. each_plus P (floor_divided g (without_constant p)) (constant_of (floor_by (constant_part p) g)) (each_divided P g (without_constant p) (each_without P p a)) (each_with P (floor_by (constant_part p) g) [] [] z tt))
    (λ e. each_with P (negsuc 0) [] [] z tt)

each_cut : (P : List (ℕ × ℕ) → Type 0) (r : PRow) → P [] → EachMono P r.poly → EachMono P (cut_of r).poly
each_cut P r z a = by_if _ r (cut_by (content r.poly) r.op r.poly) (λ (q : PRow). EachMono P q.poly) (λ e. a) (λ e. each_cut_by P (content r.poly) r.op r.poly z a)

each_kept : (P : List (ℕ × ℕ) → Type 0) (rows : List PRow) → P [] → Each P rows → Each P (kept_after (cuts rows) [])
each_kept P rows z a =
    all_kept (λ (r : PRow). EachMono P r.poly) (cuts rows) []
    (all_map (λ (r : PRow). EachMono P r.poly) cut_of rows (all_with (λ (r : PRow). EachMono P r.poly) (λ (r : PRow). EachMono P (cut_of r).poly) rows (λ r h. each_cut P r z h) a)) tt

-- how many unknowns and equalities are left
abbrev left_of : List PRow → ℕ
left_of rows = length (unknowns rows) + equalities rows

within_rows : (rows after : List PRow) → Each (Known (unknowns rows)) after → Within (unknowns after) (unknowns rows)
within_rows rows after a n h =
    known_unknown n (unknowns rows) (has_all IsUnknown n (unknowns after) (unknowns_are after) h) (unknowns_each (Known (unknowns rows)) n after a h)

tidy_less : (rows : List PRow) → left_of (kept_after (cuts rows) []) ≤ left_of rows
tidy_less rows =
    let kept = kept_after (cuts rows) [] in
    let u = no_more (unknowns kept) (unknowns rows) (rise_rows kept) (rise_rows rows) (within_rows rows kept (each_kept (Known (unknowns rows)) rows (inl refl) (known_rows rows))) in
    let e = kept_equalities (cuts rows) [] in
    let c = cuts_equalities rows in
    omega (arith, u, e, c)

-- an unknown that is gone

-- among these, and not this one
abbrev Other : List (ℕ × ℕ) → List (List (ℕ × ℕ)) → List (ℕ × ℕ) → Type 0
Other u us m = Known us m × (m ≡ u → ⊥)

removed_less : (u : List (ℕ × ℕ)) (rows after : List PRow) → Each (Other u (unknowns rows)) after → Has u (unknowns rows) → equalities after ≤ equalities rows → left_of after < left_of rows
removed_less u rows after a h e =
    let known = all_with (λ (r : PRow). EachMono (Other u (unknowns rows)) r.poly) (λ (r : PRow). EachMono (Known (unknowns rows)) r.poly) after
    (λ r k. all_with (λ (t : Term). Other u (unknowns rows) t.mono) (λ (t : Term). Known (unknowns rows) t.mono) r.poly (λ t i. i.0) k) a in
    let less = fewer u (unknowns after) (unknowns rows) (rise_rows after) (rise_rows rows) (within_rows rows after known) h
    (λ k. let o = unknowns_each (Other u (unknowns rows)) u after a k in o.1 refl) in
    omega (arith, less, e)

no_mono : (u : List (ℕ × ℕ)) (p : List Term) → IsPoly p → coeff_of p u ≡ pos 0 → EachMono (λ m. m ≡ u → ⊥) p
no_mono u [] a e = tt
no_mono u (t ∷ ts) a e =
    let not : t.mono ≡ u → ⊥ = (λ s. a.0 (sym (coeff_found t ts u s) ∙ e)) in
    (not, no_mono u ts a.2 (sym (coeff_passed t ts u not) ∙ e))

each_other : (u : List (ℕ × ℕ)) (us : List (List (ℕ × ℕ))) (p : List Term) → EachMono (Known us) p → IsPoly p → coeff_of p u ≡ pos 0 → EachMono (Other u us) p
each_other u us p a h e =
    all_zip (λ (t : Term). Known us t.mono) (λ (t : Term). t.mono ≡ u → ⊥) (λ (t : Term). Other u us t.mono) p (λ t i k. (i, k)) a (no_mono u p h e)

is_zero : (c : ℤ) → int_eq c (pos 0) ≡ true → c ≡ pos 0
is_zero c e = is_int c (pos 0) e

substituted_other : (u : List (ℕ × ℕ)) (us : List (List (ℕ × ℕ))) (p : List Term) (r : PRow) → IsPoly p → IsPolyRow r → coeff_of p u *ℤ coeff_of p u ≡ pos 1 → EachMono (Known us) p → EachMono (Known us) r.poly
    → EachMono (Other u us) (substituted u p r).poly
substituted_other u us p r h k s a b =
    by_if (int_eq (coeff_in u r) (pos 0)) r (record { poly = plus r.poly (scaled (neg_ℤ (coeff_in u r *ℤ coeff_in u (at_least_0 p))) p); op = r.op })
    (λ (q : PRow). EachMono (Other u us) q.poly)
    (λ e. each_other u us r.poly b k (is_zero (coeff_in u r) e))
    (λ e.
    let n = neg_ℤ (coeff_of r.poly u *ℤ coeff_of p u) in
    each_other u us (plus r.poly (scaled n p)) (each_plus (Known us) r.poly (scaled n p) b (each_scaled (Known us) n p a)) (poly_plus r.poly (scaled n p) k (poly_scaled n p h))
    (coeff_plus r.poly (scaled n p) u k (poly_scaled n p h) ∙ ap (λ y. coeff_of r.poly u +ℤ y) (coeff_scaled n p u h) ∙ taken_out (coeff_of r.poly u) (coeff_of p u) s))

combined_other : (u : List (ℕ × ℕ)) (us : List (List (ℕ × ℕ))) (l h : PRow) → IsPolyRow l → IsPolyRow h → EachMono (Known us) l.poly → EachMono (Known us) h.poly
    → coeff_in u l ≡ pos (unsigned_abs (coeff_in u l)) → coeff_in u h ≡ neg_ℤ (pos (unsigned_abs (coeff_in u h))) → EachMono (Other u us) (combined u l h).poly
combined_other u us l h p q a b s t =
    let x = unsigned_abs (coeff_in u l) in
    let y = unsigned_abs (coeff_in u h) in
    let first = scaled (pos (unsigned_abs (coeff_in u h))) l.poly in
    let second = scaled (pos (unsigned_abs (coeff_in u l))) h.poly in
    let pf : IsPoly (scaled (pos (unsigned_abs (coeff_in u h))) l.poly) = poly_scaled (pos y) l.poly p in
    let ps : IsPoly (scaled (pos (unsigned_abs (coeff_in u l))) h.poly) = poly_scaled (pos x) h.poly q in
    let gone : coeff_of (plus (scaled (pos (unsigned_abs (coeff_in u h))) l.poly) (scaled (pos (unsigned_abs (coeff_in u l))) h.poly)) u ≡ pos 0 =
    coeff_plus first second u pf ps ∙ ap (λ z. z +ℤ coeff_of second u) (coeff_scaled (pos y) l.poly u p)
    ∙ ap (λ z. pos y *ℤ coeff_in u l +ℤ z) (coeff_scaled (pos x) h.poly u q) ∙ pair_cancels x y (coeff_in u l) (coeff_in u h) s t in
    each_other u us (plus first second) (each_plus (Known us) first second (each_scaled (Known us) (pos y) l.poly a) (each_scaled (Known us) (pos x) h.poly b)) (poly_plus first second pf ps) gone

-- a polynomial row whose monomials are known
abbrev IsGood : List (List (ℕ × ℕ)) → PRow → Type 0
IsGood us r = IsPolyRow r × EachMono (Known us) r.poly

good_rows : (rows : List PRow) → AllByRecursion IsPolyRow rows → AllByRecursion (IsGood (unknowns rows)) rows
good_rows rows a = all_zip IsPolyRow (λ (r : PRow). EachMono (Known (unknowns rows)) r.poly) (IsGood (unknowns rows)) rows (λ r h k. (h, k)) a (known_rows rows)

-- where an unknown is solved

map_equalities : (f : PRow → PRow) (rows : List PRow) → ((r : PRow) → (f r).op ≡ r.op) → equalities (map f rows) ≡ equalities rows
map_equalities f [] e = refl
map_equalities f (r ∷ rows) e = let h = map_equalities f rows e in let g = ap one_equality (e r) in omega (arith, h, g)

split_equalities : (rows : List PRow) (k : ℕ) (r : PRow) → slice_get rows k ≡ Some r → equalities rows ≡ equalities (take k rows) + (one_equality r.op + equalities (drop (suc k) rows))
split_equalities [] k r e = absurd cc
split_equalities (s ∷ rows) zero r e = let h = ap (λ (q : PRow). one_equality q.op) (same_Some s r e) in omega (arith, h)
split_equalities (s ∷ rows) (suc k) r e = let h = split_equalities rows k r e in omega (arith, h)

removed_equalities : (rows : List PRow) (k : ℕ) (r : PRow) → slice_get rows k ≡ Some r → equalities (remove rows k) ≤ equalities rows
removed_equalities rows k r e = let h = split_equalities rows k r e in let b = both_equalities (take k rows) (drop (suc k) rows) in omega (arith, h, b)

same_op : (u : List (ℕ × ℕ)) (p : List Term) (r : PRow) → (substituted u p r).op ≡ r.op
same_op u p r = by_if (int_eq (coeff_in u r) (pos 0)) r (record { poly = plus r.poly (scaled (neg_ℤ (coeff_in u r *ℤ coeff_in u (at_least_0 p))) p); op = r.op })
    (λ (q : PRow). q.op ≡ r.op) (λ e. refl) (λ e. refl)

-- a monomial whose coefficient isn't 0 stands in a polynomial
coeff_known : (P : List (ℕ × ℕ) → Type 0) (u : List (ℕ × ℕ)) (p : List Term) → EachMono P p → (coeff_of p u ≡ pos 0 → ⊥) → P u
coeff_known P u [] a n = absurd (n refl)
coeff_known P u (t ∷ ts) a n = by_cases (mono_cmp t.mono u)
    (λ e. coeff_known P u ts a.1 (λ z. n (rw e z)))
    (λ e. subst P (mono_exact t.mono u e) a.0)
    (λ e. coeff_known P u ts a.1 (λ z. n (rw e z)))

no_square : (c : ℤ) → c *ℤ c ≡ pos 1 → c ≡ pos 0 → ⊥
no_square c e h = omega (arith, ints, subst (λ z. z *ℤ z ≡ pos 1) h e)

solved_less : (rows : List PRow) (k : ℕ) (u : List (ℕ × ℕ)) → AllByRecursion IsPolyRow rows → IsGivenAt rows k u → left_of (map (substituted u (poly_at k rows)) (remove rows k)) < left_of rows
solved_less rows k u a g =
    let us = unknowns rows in
    let p = poly_at k rows in
    let row = all_at (IsGood us) rows k g.row g.here (good_rows rows a) in
    let unit = g.unit row.0 in
    let same : g.row.poly ≡ poly_at k rows = sym (poly_at_is rows k g.row g.here) in
    let square : coeff_of (poly_at k rows) u *ℤ coeff_of (poly_at k rows) u ≡ pos 1 = subst (λ (q : List Term). coeff_of q u *ℤ coeff_of q u ≡ pos 1) same unit.square in
    let known : EachMono (Known (unknowns rows)) (poly_at k rows) = subst (EachMono (Known (unknowns rows))) same row.1 in
    let has = known_unknown u us unit.unknown (coeff_known (Known us) u p known (no_square (coeff_of p u) square)) in
    let e = map_equalities (substituted u p) (remove rows k) (same_op u p) in
    let f = removed_equalities rows k g.row g.here in
    removed_less u rows (map (substituted u p) (remove rows k))
    (all_map (λ (r : PRow). EachMono (Other u us) r.poly) (substituted u p) (remove rows k)
    (all_with (IsGood us) (λ (r : PRow). EachMono (Other u us) (substituted u p r).poly) (remove rows k)
    (λ r h. substituted_other u us p r (poly_at_poly rows k a) h.0 square known h.1) (remove_good us rows k (good_rows rows a)))) has (omega (arith, e, f))
  where
    remove_good : (us : List (List (ℕ × ℕ))) (rows : List PRow) (k : ℕ) → AllByRecursion (IsGood us) rows → AllByRecursion (IsGood us) (remove rows k)
    remove_good us rows k a = remove_all (IsGood us) rows k a

-- where an equality becomes two inequalities

halved_less : (rows : List PRow) (k : ℕ) → AllByRecursion IsPolyRow rows → IsEqualityAt rows k → left_of (halved k rows) < left_of rows
halved_less rows k a g =
    let us = unknowns rows in
    let p = poly_at k rows in
    let good = known_rows rows in
    let P : PRow → Type 0 = (λ (r : PRow). EachMono (Known (unknowns rows)) r.poly) in
    let row : EachMono (Known (unknowns rows)) (poly_at k rows) = subst (EachMono (Known (unknowns rows))) (sym (poly_at_is rows k g.row g.here)) (all_at (λ (r : PRow). EachMono (Known (unknowns rows)) r.poly) rows k g.row g.here good) in
    let each = all_join (λ (r : PRow). EachMono (Known us) r.poly) (take k rows) (at_least_0 p ∷ at_least_0 (scaled (negsuc 0) p) ∷ drop (suc k) rows)
    (all_take (λ (r : PRow). EachMono (Known us) r.poly) k rows good) (row, (each_scaled (Known us) (negsuc 0) p row, all_drop (λ (r : PRow). EachMono (Known us) r.poly) (suc k) rows good)) in
    let u = no_more (unknowns (halved k rows)) us (rise_rows (halved k rows)) (rise_rows rows) (within_rows rows (halved k rows) each) in
    let s = split_equalities rows k g.row g.here in
    let o = ap one_equality g.equality in
    let b = both_equalities (take k rows) (at_least_0 p ∷ at_least_0 (scaled (negsuc 0) p) ∷ drop (suc k) rows) in
    omega (arith, u, s, o, b)

-- where an unknown is eliminated

filtered_equalities : (test : PRow → Bool) (rows : List PRow) → equalities (Rattle.std.specs.List.filter test rows) ≤ equalities rows
filtered_equalities test [] = omega arith
filtered_equalities test (r ∷ rows) = by_test (test r) (filtered_equalities test rows)
  where
    by_test : (b : Bool) → equalities (Rattle.std.specs.List.filter test rows) ≤ equalities rows
        → equalities (cond b (r ∷ Rattle.std.specs.List.filter test rows) (Rattle.std.specs.List.filter test rows)) ≤ one_equality r.op + equalities rows
    by_test true h = omega (arith, h)
    by_test false h = omega (arith, h)

mapped_sums : (u : List (ℕ × ℕ)) (l : PRow) (hs : List PRow) → equalities (map (combined u l) hs) ≡ 0
mapped_sums u l [] = refl
mapped_sums u l (h ∷ hs) = let e = mapped_sums u l hs in omega (arith, e)

no_equalities_made : (u : List (ℕ × ℕ)) (ls hs : List PRow) → equalities (combined_all u ls hs) ≡ 0
no_equalities_made u [] hs = refl
no_equalities_made u (l ∷ ls) hs =
    let b = both_equalities (map (combined u l) hs) (combined_all u ls hs) in
    let f = mapped_sums u l hs in
    let r = no_equalities_made u ls hs in
    omega (arith, b, f, r)

abbrev IsLow : List (ℕ × ℕ) → List (List (ℕ × ℕ)) → PRow → Type 0
IsLow u us r = IsGood us r × (coeff_in u r ≡ pos (unsigned_abs (coeff_in u r)))

abbrev IsHigh : List (ℕ × ℕ) → List (List (ℕ × ℕ)) → PRow → Type 0
IsHigh u us r = IsGood us r × (coeff_in u r ≡ neg_ℤ (pos (unsigned_abs (coeff_in u r))))

sums_other : (u : List (ℕ × ℕ)) (us : List (List (ℕ × ℕ))) (ls hs : List PRow) → AllByRecursion (IsLow u us) ls → AllByRecursion (IsHigh u us) hs → Each (Other u us) (combined_all u ls hs)
sums_other u us [] hs a b = tt
sums_other u us (l ∷ ls) hs a b =
    all_join (λ (r : PRow). EachMono (Other u us) r.poly) (map (combined u l) hs) (combined_all u ls hs)
    (all_map (λ (r : PRow). EachMono (Other u us) r.poly) (combined u l) hs
    (all_with (IsHigh u us) (λ (h : PRow). EachMono (Other u us) (combined u l h).poly) hs (λ h k. combined_other u us l h a.0.0.0 k.0.0 a.0.0.1 k.0.1 a.0.1 k.1) b))
    (sums_other u us ls hs a.1 b)

eliminated_less : (rows : List PRow) (u : List (ℕ × ℕ)) → AllByRecursion IsPolyRow rows → Has u (unknowns rows)
    → left_of (without u rows ++ combined_all u (lowers u rows) (uppers u rows)) < left_of rows
eliminated_less rows u a h =
    let us = unknowns rows in
    let good = good_rows rows a in
    let rest = all_filter (λ (r : PRow). int_eq (coeff_in u r) (pos 0)) (IsGood us) (λ (r : PRow). EachMono (Other u us) r.poly) rows
    (λ r t g. each_other u us r.poly g.1 g.0 (is_zero (coeff_in u r) t)) good in
    let low = all_filter (λ (r : PRow). int_lt (pos 0) (coeff_in u r)) (IsGood us) (IsLow u us) rows (λ r t g. (g, (above_sign (coeff_in u r) t).1)) good in
    let high = all_filter (λ (r : PRow). int_lt (coeff_in u r) (pos 0)) (IsGood us) (IsHigh u us) rows (λ r t g. (g, (below_sign (coeff_in u r) t).1)) good in
    let b = both_equalities (without u rows) (combined_all u (lowers u rows) (uppers u rows)) in
    let f = filtered_equalities (λ (r : PRow). int_eq (coeff_in u r) (pos 0)) rows in
    let n = no_equalities_made u (lowers u rows) (uppers u rows) in
    removed_less u rows (without u rows ++ combined_all u (lowers u rows) (uppers u rows))
    (all_join (λ (r : PRow). EachMono (Other u us) r.poly) (without u rows) (combined_all u (lowers u rows) (uppers u rows)) rest (sums_other u us (lowers u rows) (uppers u rows) low high)) h
    (omega (arith, b, f, n))

-- the unknown that a rule eliminates is one

abbrev Eliminated : List PRow → Rule → Type 0
Eliminated rows Finished = Unit {0}
Eliminated rows (Solve k u) = Unit {0}
Eliminated rows (Halve k) = Unit {0}
Eliminated rows (Exact u) = Has u (unknowns rows)
Eliminated rows (Inexact u) = Has u (unknowns rows)

exact_has : (rows : List PRow) (us : List (List (ℕ × ℕ))) (u : List (ℕ × ℕ)) → first_exact rows us ≡ Some u → Has u us
exact_has rows [] u e = absurd cc
exact_has rows (m ∷ us) u e = by_if (is_exact rows m) (Some m) (first_exact rows us) (λ o. o ≡ Some u → Has u (m ∷ us)) (λ b f. inl (sym (same_Some m u f))) (λ b f. inr (exact_has rows us u f)) e

first_has : (rows : List PRow) (us : List (List (ℕ × ℕ))) → unknowns rows ≡ us → Eliminated rows (first_of us)
first_has rows [] e = tt
first_has rows (u ∷ us) e = subst (Has u) (sym e) (inl refl)

rule_has : (rows : List PRow) → Eliminated rows (rule_of rows)
rule_has rows = by_solve (solvable_from rows 0)
  where
    by_exact : (o : Option (List (ℕ × ℕ))) → first_exact rows (unknowns rows) ≡ o → Eliminated rows (exact_or o (first_of (unknowns rows)))
    by_exact (Some u) e = exact_has rows (unknowns rows) u e
    by_exact None e = first_has rows (unknowns rows) refl

    by_halve : (o : Option ℕ) → Eliminated rows (halve_or o (exact_or (first_exact rows (unknowns rows)) (first_of (unknowns rows))))
    by_halve (Some k) = tt
    by_halve None = by_exact (first_exact rows (unknowns rows)) refl

    by_solve : (o : Option (ℕ × List (ℕ × ℕ))) → Eliminated rows (solve_or o (halve_or (equality_from rows 0) (exact_or (first_exact rows (unknowns rows)) (first_of (unknowns rows)))))
    by_solve (Some e) = tt
    by_solve None = by_halve (equality_from rows 0)

-- more steps change nothing

abbrev Agrees : (List PRow → Outcome) → (List PRow → Outcome) → ℕ → Type 0
Agrees go gone n = (kept : List PRow) → AreTidy kept → left_of kept < n → go kept ≡ gone kept

tidied_same : (go gone : List PRow → Outcome) (n : ℕ) (after : List PRow) → AllByRecursion IsPolyRow after → left_of after < n → Agrees go gone n → next go (tidied after) ≡ next gone (tidied after)
tidied_same go gone n after a l f =
    by_tidied after (λ res. next go res ≡ next gone res) (λ e. refl) refl
    (λ e. f (kept_after (cuts after) []) (kept_tidy after a) (let t = tidy_less after in omega (arith, t, l)))

solved_same : (go gone : List PRow → Outcome) (rows : List PRow) (k : ℕ) (u : List (ℕ × ℕ)) → AllByRecursion IsPolyRow rows → IsGivenAt rows k u → Agrees go gone (left_of rows)
    → next go (solved u (poly_at k rows) (remove rows k) >>= tidied) ≡ next gone (solved u (poly_at k rows) (remove rows k) >>= tidied)
solved_same go gone rows k u a g f =
    let p = poly_at k rows in
    by_if (solve_has_room u p (remove rows k)) (Ok (map (substituted u p) (remove rows k))) (Err Over) (λ res. next go (res >>= tidied) ≡ next gone (res >>= tidied))
    (λ b. tidied_same go gone (left_of rows) (map (substituted u p) (remove rows k))
    (all_map IsPolyRow (substituted u p) (remove rows k)
    (all_with IsPolyRow (λ r. IsPolyRow (substituted u p r)) (remove rows k) (λ r h. poly_substituted u p r (poly_at_poly rows k a) h) (remove_all IsPolyRow rows k a)))
    (solved_less rows k u a g) f)
    (λ b. refl)

eliminated_same : (go gone : List PRow → Outcome) (rows : List PRow) (u : List (ℕ × ℕ)) → AllByRecursion IsPolyRow rows → Has u (unknowns rows) → Agrees go gone (left_of rows)
    → next go (eliminated u rows >>= tidied) ≡ next gone (eliminated u rows >>= tidied)
eliminated_same go gone rows u a h f =
    by_if (pairs_have_room u (lowers u rows) (uppers u rows)) (Ok (without u rows ++ combined_all u (lowers u rows) (uppers u rows))) (Err Over) (λ res. next go (res >>= tidied) ≡ next gone (res >>= tidied))
    (λ b. tidied_same go gone (left_of rows) (without u rows ++ combined_all u (lowers u rows) (uppers u rows))
    (all_join IsPolyRow (without u rows) (combined_all u (lowers u rows) (uppers u rows)) (all_filter _ IsPolyRow IsPolyRow rows (λ r t h. h) a)
    (combined_polys u (lowers u rows) (uppers u rows) (all_filter _ IsPolyRow IsPolyRow rows (λ r t h. h) a) (all_filter _ IsPolyRow IsPolyRow rows (λ r t h. h) a)))
    (eliminated_less rows u a h) f)
    (λ b. refl)

rule_same : (go gone : Bool → List PRow → Outcome) (exact : Bool) (rows : List PRow) (rule : Rule) → AllByRecursion IsPolyRow rows → Applies rows rule → Eliminated rows rule
    → ((b : Bool) → Agrees (go b) (gone b) (left_of rows)) → by_rule go exact rows rule ≡ by_rule gone exact rows rule
rule_same go gone exact rows Finished a w h f = refl
rule_same go gone exact rows (Solve k u) a w h f = ap (removing (Solved u (poly_at k rows))) (solved_same (go exact) (gone exact) rows k u a w (f exact))
rule_same go gone exact rows (Halve k) a w h f = tidied_same (go exact) (gone exact) (left_of rows) (halved k rows) (halved_polys k rows a) (halved_less rows k a w) (f exact)
rule_same go gone exact rows (Exact u) a w h f = ap (removing (Bounded u (lowers u rows) (uppers u rows))) (eliminated_same (go exact) (gone exact) rows u a h (f exact))
rule_same go gone exact rows (Inexact u) a w h f = eliminated_same (go false) (gone false) rows u a h (f false)

more_steps : (n k : ℕ) (exact : Bool) (rows : List PRow) → AreTidy rows → left_of rows < n → outcome_in (n + k) exact rows ≡ outcome_in n exact rows
more_steps zero k exact rows t l = absurd (omega (arith, l))
more_steps (suc n) k exact rows t l =
    let e : suc n + k ≡ suc (n + k) = omega arith in
    ap (λ m. outcome_in m exact rows) e
    ∙ ap (standing rows) (rule_same (outcome_in (n + k)) (outcome_in n) exact rows (rule_of rows) t.polys (rule_applies rows) (rule_has rows)
    (λ b kept q m. more_steps n k b kept q (omega (arith, l, m))))

-- there are enough steps

few_with : (m : List (ℕ × ℕ)) (us : List (List (ℕ × ℕ))) → length (with_unknown m us) ≤ suc (length us)
few_with m [] = omega arith
few_with m (u ∷ us) = by_unknown m u us (λ vs. length vs ≤ suc (length (u ∷ us))) (omega arith) (omega arith) (let h = few_with m us in omega (arith, h))

few_terms : (ts : List Term) (us : List (List (ℕ × ℕ))) → length (with_unknowns ts us) ≤ length ts + length us
few_terms [] us = omega arith
few_terms (t ∷ ts) us = by_test (is_constant t.mono) (few_terms ts us)
  where
    by_test : (b : Bool) → length (with_unknowns ts us) ≤ length ts + length us → length (cond b (with_unknowns ts us) (with_unknown t.mono (with_unknowns ts us))) ≤ length (t ∷ ts) + length us
    by_test true h = omega (arith, h)
    by_test false h = let g = few_with t.mono (with_unknowns ts us) in omega (arith, g, h)

one_at_most : (o : Op) → one_equality o ≤ 1
one_at_most Ge = omega arith
one_at_most Eq = omega arith

enough_left : (rows : List PRow) → left_of rows < enough_steps rows
enough_left [] = omega arith
enough_left (r ∷ rows) =
    let h = enough_left rows in
    let t = few_terms r.poly (unknowns rows) in
    let o = one_at_most r.op in
    omega (arith, h, t, o)

pub steps_suffice : (rows kept : List PRow) (k : ℕ) → AllByRecursion IsPolyRow rows → tidied rows ≡ Ok kept → outcome_in (enough_steps kept + k) true kept ≡ outcome_in (enough_steps kept) true kept
steps_suffice rows kept k a = by_tidied rows (λ res. res ≡ Ok kept → outcome_in (enough_steps kept + k) true kept ≡ outcome_in (enough_steps kept) true kept)
    (λ e f. absurd cc) (λ f. absurd cc)
    (λ e f.
    let same : kept_after (cuts rows) [] ≡ kept = ok_is (kept_after (cuts rows) []) kept f in
    more_steps (enough_steps kept) k true kept (subst AreTidy same (kept_tidy rows a)) (enough_left kept))
  where
    ok_is : (x y : List PRow) → Rattle.std.proofs.Common.◌≡◌ {A = Result (List PRow) End} (Ok x) (Ok y) → x ≡ y
    ok_is x y e = cc
