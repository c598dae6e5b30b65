-- The values of a point by the place of each unknown.
use Rattle.std.specs.Prelude.{◌≡◌, ◌⊎◌, ℕ, suc, ◌+◌, ◌<◌, ◌≤◌, ℤ, pos, ◌*ℤ◌, ◌+ℤ◌, List, [], ◌∷◌, map, length, slice_index_or, Bool, true, false, cond, refl}
use Rattle.std.proofs.Common.{ap, sym, ◌∙◌, subst, inl, inr, arith}
use Rattle.std.specs.declared.cmp.Ordering.TheVariants.{Less, Greater}
use Rattle.std.specs.Ordering.{is_eq}
use Rattle.std.specs.List.{AllByRecursion, position_or_len}
use Rattle.mm_num.specs.Power.{power}
use Rattle.mm_poly.specs.declared.term.Term.{Term}
use Rattle.mm_poly.specs.Mono.{mono_value, mono_degree, mono_cmp, is_constant, IsMono}
use Rattle.mm_poly.specs.Poly.{AllMono, degree, value}
use Rattle.mm_poly.specs.Point.{point_of as point_by}
use Rattle.mm_poly.proofs.OrderLaws.{mono_exact, mono_back, mono_not_self}
use Rattle.mm_poly.proofs.CaseLaws.{by_cases}
use Rattle.cert_kit.specs.declared.row.PRow.{PRow}
use Rattle.cert_kit.specs.Row.{Compares, Solves}
use Rattle.fm_elim.specs.Unknowns.{with_unknown, with_unknowns, unknowns}
use Rattle.fm_elim.specs.Tidy.{Point}
use Rattle.fm_elim.specs.Elimination.{outcome, elimination}
use Rattle.fm_elim.specs.Points.{Values, values_of, point_of, AreRows, AreLinear, point_at}
use Rattle.fm_elim.specs.Answers.{AreNumbered, by_unknowns}
use Rattle.fm_elim.proofs.EndLaws.{point_solves}

-- an unknown among others
abbrev pub Has : List (ℕ × ℕ) → List (List (ℕ × ℕ)) → Type 0
Has m [] = ⊥
Has m (u ∷ us) = (m ≡ u) ⊎ Has m us

pub has_with : (m : List (ℕ × ℕ)) (us : List (List (ℕ × ℕ))) → Has m (with_unknown m us)
has_with m [] = inl refl
has_with m (u ∷ us) = by_cases (mono_cmp m u)
    (λ e. rw (e, with_unknown) (inl refl)) (λ e. rw (e, with_unknown) (inl (mono_exact m u e))) (λ e. rw (e, with_unknown) (inr (has_with m us)))

pub has_more : (n m : List (ℕ × ℕ)) (us : List (List (ℕ × ℕ))) → Has n us → Has n (with_unknown m us)
has_more n m [] h = absurd h
has_more n m (u ∷ us) h = by_cases (mono_cmp m u)
    (λ e. rw (e, with_unknown) (inr h)) (λ e. rw (e, with_unknown) h)
    (λ e. rw (e, with_unknown) (elim h as (λ _. (n ≡ u) ⊎ Has n (with_unknown m us)) [ inl s ↦ inl s | inr t ↦ inr (has_more n m us t) ]))

pub has_terms : (n : List (ℕ × ℕ)) (ts : List Term) (us : List (List (ℕ × ℕ))) → Has n us → Has n (with_unknowns ts us)
has_terms n [] us h = h
has_terms n (t ∷ ts) us h = by_test (is_constant t.mono) (has_terms n ts us h)
  where
    by_test : (b : Bool) → Has n (with_unknowns ts us) → Has n (cond b (with_unknowns ts us) (with_unknown t.mono (with_unknowns ts us)))
    by_test true k = k
    by_test false k = has_more n t.mono (with_unknowns ts us) k

-- each monomial is constant or among them
abbrev pub Knows : List (List (ℕ × ℕ)) → List Term → Type 0
Knows us p = AllByRecursion (λ (t : Term). (t.mono ≡ []) ⊎ Has t.mono us) p

known_more : (us vs : List (List (ℕ × ℕ))) (p : List Term) → ((n : List (ℕ × ℕ)) → Has n us → Has n vs) → Knows us p → Knows vs p
known_more us vs [] f a = tt
known_more us vs (t ∷ ts) f a = (elim a.0 as (λ _. (t.mono ≡ []) ⊎ Has t.mono vs) [ inl s ↦ inl s | inr h ↦ inr (f t.mono h) ], known_more us vs ts f a.1)

pub known_terms : (ts : List Term) (us : List (List (ℕ × ℕ))) → Knows (with_unknowns ts us) ts
known_terms [] us = tt
known_terms (t ∷ ts) us = by_mono t.mono (known_terms ts us)
  where
    by_mono : (m : List (ℕ × ℕ)) → Knows (with_unknowns ts us) ts → ((m ≡ []) ⊎ Has m (cond (is_constant m) (with_unknowns ts us) (with_unknown m (with_unknowns ts us))))
        × Knows (cond (is_constant m) (with_unknowns ts us) (with_unknown m (with_unknowns ts us))) ts
    by_mono [] k = (inl refl, k)
    by_mono (f ∷ fs) k = (
      inr (has_with (f ∷ fs) (with_unknowns ts us)),
      known_more (with_unknowns ts us) (with_unknown (f ∷ fs) (with_unknowns ts us)) ts (λ n h. has_more n (f ∷ fs) (with_unknowns ts us) h) k,
    )

pub known_rows : (rows : List PRow) → AllByRecursion (λ (r : PRow). Knows (unknowns rows) r.poly) rows
known_rows [] = tt
known_rows (r ∷ rows) = (known_terms r.poly (unknowns rows), later rows (known_rows rows))
  where
    later : (qs : List PRow) → AllByRecursion (λ (q : PRow). Knows (unknowns rows) q.poly) qs → AllByRecursion (λ (q : PRow). Knows (unknowns (r ∷ rows)) q.poly) qs
    later [] a = tt
    later (q ∷ qs) a = (known_more (unknowns rows) (unknowns (r ∷ rows)) q.poly (λ n h. has_terms n r.poly (unknowns rows) h) a.0, later qs a.1)

-- two points agree at the variables among the unknowns
abbrev pub Agree : (ℕ → ℤ) → (ℕ → ℤ) → List (List (ℕ × ℕ)) → Type 0
Agree x y us = (v : ℕ) → Has ((v, 1) ∷ []) us → x v ≡ y v

same_mono : (x y : ℕ → ℤ) (us : List (List (ℕ × ℕ))) (m : List (ℕ × ℕ)) → Agree x y us → IsMono m → mono_degree m ≤ 1 → (m ≡ []) ⊎ Has m us → mono_value x m ≡ mono_value y m
same_mono x y us [] g i d h = refl
same_mono x y us (f ∷ []) g i d (inl e) = absurd cc
same_mono x y us (f ∷ []) g i d (inr h) =
    let one : f.1 ≡ 1 = (let l = i.0 in omega arith) in
    ap (λ z. power z f.1 *ℤ pos 1) (g f.0 (subst (λ n. Has ((f.0, n) ∷ []) us) one h))
same_mono x y us (f ∷ g ∷ gs) k i d h = let l = i.0 in let n = i.2.0 in absurd (omega (arith))

same_value : (x y : ℕ → ℤ) (us : List (List (ℕ × ℕ))) (p : List Term) → Agree x y us → AllMono p → degree p ≤ 1 → Knows us p → value x p ≡ value y p
same_value x y us [] g a d k = refl
same_value x y us (t ∷ ts) g a d k =
    let first : mono_degree t.mono ≤ 1 = omega arith in
    let rest : degree ts ≤ 1 = omega arith in
    ap (λ z. t.coeff *ℤ z +ℤ value x ts) (same_mono x y us t.mono g a.0 first k.0) ∙ ap (λ z. t.coeff *ℤ mono_value y t.mono +ℤ z) (same_value x y us ts g a.1 rest k.1)

same_solves : (x y : ℕ → ℤ) (us : List (List (ℕ × ℕ))) (rows : List PRow) → Agree x y us → AreRows rows → AreLinear rows → AllByRecursion (λ (r : PRow). Knows us r.poly) rows
    → Solves x rows → Solves y rows
same_solves x y us [] g a l k s = tt
same_solves x y us (r ∷ rows) g a l k s = (subst (Compares r.op) (same_value x y us r.poly g a.0.monos l.0 k.0) s.0, same_solves x y us rows g a.1 l.1 k.1 s.1)

-- the value at an unknown's place

not_there : (m u : List (ℕ × ℕ)) → mono_cmp m u ≡ Less → m ≡ u → ⊥
not_there m u e s = mono_not_self m (subst (λ (k : List (ℕ × ℕ)). mono_cmp m k ≡ Less) (sym s) e)

past_there : (m u : List (ℕ × ℕ)) → mono_cmp m u ≡ Greater → m ≡ u → ⊥
past_there m u e s = mono_not_self m (subst (λ (k : List (ℕ × ℕ)). mono_cmp k m ≡ Less) (sym s) (mono_back m u e))

further : (z : ℤ) (zs : List ℤ) (n : ℕ) → slice_index_or (z ∷ zs) (1 + n) (pos 0) ≡ slice_index_or zs n (pos 0)
further z zs n = let e : 1 + n ≡ suc n = omega arith in ap (λ k. slice_index_or (z ∷ zs) k (pos 0)) e

pub place_value : (w : Values) (m : List (ℕ × ℕ)) (us : List (List (ℕ × ℕ))) → Has m us → slice_index_or (map w us) (position_or_len (λ u. is_eq (mono_cmp m u)) us) (pos 0) ≡ w m
place_value w m [] h = absurd h
place_value w m (u ∷ us) (inl s) = by_cases (mono_cmp m u) (λ e. absurd (not_there m u e s)) (λ e. rw e (ap w (sym s))) (λ e. absurd (past_there m u e s))
place_value w m (u ∷ us) (inr h) = by_cases (mono_cmp m u)
    (λ e. rw e (further (w u) (map w us) (position_or_len (λ u. is_eq (mono_cmp m u)) us) ∙ place_value w m us h))
    (λ e. rw e (ap w (sym (mono_exact m u e))))
    (λ e. rw e (further (w u) (map w us) (position_or_len (λ u. is_eq (mono_cmp m u)) us) ∙ place_value w m us h))

pub unknowns_agree : (w : Values) (rows : List PRow) (zs : List ℤ) → zs ≡ map w (unknowns rows) → Agree (λ v. w ((v, 1) ∷ [])) (by_unknowns rows zs) (unknowns rows)
unknowns_agree w rows zs e = λ v h.
    sym (place_value w ((v, 1) ∷ []) (unknowns rows) h)
    ∙ ap (λ (q : List ℤ). slice_index_or q (position_or_len (λ u. is_eq (mono_cmp ((v, 1) ∷ []) u)) (unknowns rows)) (pos 0)) (sym e)

-- the unknown's place, where it is the number of its variable

pub record IsThere (w : Values) (us : List (List (ℕ × ℕ))) (m : List (ℕ × ℕ)) (k : ℕ) : Type 0 where
  pub inside : k < length us
  pub here : slice_index_or us k [] ≡ m
  pub value : slice_index_or (map w us) k (pos 0) ≡ w m

place_there : (w : Values) (m : List (ℕ × ℕ)) (us : List (List (ℕ × ℕ))) → Has m us → (k : ℕ) × IsThere w us m k
place_there w m [] h = absurd h
place_there w m (u ∷ us) (inl s) = (0, record { inside = omega arith; here = sym s; value = ap w (sym s) })
place_there w m (u ∷ us) (inr h) =
    let t = place_there w m us h in
    let i = t.1.inside in
    (suc t.0, record { inside = omega (arith, i); here = t.1.here; value = t.1.value })

abbrev pub one_variable : ℕ → List (ℕ × ℕ)
one_variable v = (v, 1) ∷ []

pub same_number : (k v : ℕ) → one_variable k ≡ one_variable v → k ≡ v
same_number k v e = ap (λ (m : List (ℕ × ℕ)). first m) e
  where
    first : List (ℕ × ℕ) → ℕ
    first [] = 0
    first (f ∷ fs) = f.0

pub numbers_agree : (w : Values) (rows : List PRow) (zs : List ℤ) → zs ≡ map w (unknowns rows) → AreNumbered rows → Agree (λ v. w ((v, 1) ∷ [])) (point_by zs) (unknowns rows)
numbers_agree w rows zs e n = λ v h.
    let t = place_there w ((v, 1) ∷ []) (unknowns rows) h in
    let k = same_number t.0 v (sym (n t.0 t.1.inside) ∙ t.1.here) in
    sym t.1.value ∙ ap (λ j. slice_index_or (map w (unknowns rows)) j (pos 0)) k ∙ ap (λ (q : List ℤ). slice_index_or q v (pos 0)) (sym e)

pub solved_by_unknowns : (rows : List PRow) (zs : List ℤ) → AreRows rows → AreLinear rows → elimination rows ≡ Point → zs ≡ point_of rows → Solves (by_unknowns rows zs) rows
solved_by_unknowns rows zs a l p e =
    same_solves (point_at rows) (by_unknowns rows zs) (unknowns rows) rows (unknowns_agree (values_of (outcome rows).removed) rows zs e) a l (known_rows rows) (point_solves rows a l p)

pub solved_by_numbers : (rows : List PRow) (zs : List ℤ) → AreRows rows → AreLinear rows → AreNumbered rows → elimination rows ≡ Point → zs ≡ point_of rows → Solves (point_by zs) rows
solved_by_numbers rows zs a l n p e =
    same_solves (point_at rows) (point_by zs) (unknowns rows) rows (numbers_agree (values_of (outcome rows).removed) rows zs e n) a l (known_rows rows) (point_solves rows a l p)
