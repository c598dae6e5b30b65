-- The first unknown that can be eliminated exactly, found among the terms of rows in monomial order.
use Rattle.std.specs.Prelude.{◌≡◌, ◌≢◌, ◌⊎◌, ℕ, zero, suc, ◌≤◌, ◌<◌, ◌+◌, ℤ, pos, List, [], ◌∷◌, ◌++◌, length, drop, Bool, true, false, cond, ◌&&◌, ◌||◌, Option, Some, None, if◌then◌else◌, refl}
use Rattle.std.proofs.Common.{get_or, ap, sym, ◌∙◌, subst, inl, inr, arith}
use Rattle.std.specs.Borrow.{Bor}
use Rattle.std.specs.List.{AllByRecursion, list_all}
use Rattle.std.specs.List.Sorted.{IsPermutation, IsSortedBy}
use Rattle.std.specs.Cmp.{IsStrictWeakOrder}
use Rattle.std.specs.Ordering.{is_lt}
use Rattle.std.specs.declared.cmp.Ordering.TheVariants.{Less, Equal, Greater}
use Rattle.std.proofs.lemmas.List.{drop_more}
use Rattle.std.proofs.lemmas.List.Sorted.{ranks_by, sorted_far, All-permutation, IsPermutation-sym, IsPermutation-map}
use Rattle.std.proofs.lemmas.List.Elements.{recursion_from_All, All-from_recursion}
use Rattle.std.proofs.lemmas.List.Sums.{AllPass-from_list_all, list_all-from_AllPass}
use Rattle.std.proofs.lemmas.List.Folds.{list_all-append}
use Rattle.mm_num.proofs.BoolLaws.{same_tests}
use Rattle.mm_poly.specs.declared.term.Term.{Term}
use Rattle.mm_poly.specs.Mono.{mono_cmp, is_constant}
use Rattle.mm_poly.specs.Poly.{IsPoly, AllAfter, EachMono, coeff_of, without_constant}
use Rattle.mm_poly.proofs.OrderLaws.{mono_total, mono_exact, mono_same, mono_back, mono_through, mono_not_self}
use Rattle.mm_poly.proofs.CaseLaws.{by_cases, by_if}
use Rattle.mm_poly.proofs.EachLaws.{each_without}
use Rattle.cert_kit.specs.declared.row.PRow.{PRow}
use Rattle.fm_elim.specs.declared.group.Group.{Group}
use Rattle.fm_elim.specs.Unknowns.{with_unknown, with_unknowns, unknowns, coeff_in}
use Rattle.fm_elim.specs.Steps.{is_exact, first_exact}
use Rattle.fm_elim.specs.machine.Choice.{at_most_1, at_least_minus_1, first_of, first_unknown, earlier, lent, first_lent, terms_of, passes, is_exact_in, first_exact_in, AreInOrder, AreOrdered, first_in_group, IsGroup}
use Rattle.fm_elim.proofs.ListLaws.{all_with}
use Rattle.fm_elim.proofs.TidyLaws.{IsPolyRow}
use Rattle.fm_elim.proofs.ChoiceLaws.{put_less, put_equal, put_greater}
use Rattle.fm_elim.proofs.RuleLaws.{IsUnknown, unknowns_with}
use Rattle.fm_elim.proofs.SolveLaws.{Has, Knows, known_terms}
use Rattle.fm_elim.proofs.NumberLaws.{Rise, rise_terms}
use Rattle.fm_elim.proofs.FuelLaws.{Known, Within, known_unknown, has_all, terms_each, skip_same, less_than}
use Rattle.mm_num.proofs.ListLaws.{all_join}

-- the first unknown

earlier_less : (m u : List (ℕ × ℕ)) → mono_cmp m u ≡ Less → earlier (Some m) (Some u) ≡ Some m
earlier_less m u e = rw (e, earlier) refl

earlier_same : (m u : List (ℕ × ℕ)) → mono_cmp m u ≡ Equal → earlier (Some m) (Some u) ≡ Some u
earlier_same m u e = rw (e, earlier) refl

earlier_more : (m u : List (ℕ × ℕ)) → mono_cmp m u ≡ Greater → earlier (Some m) (Some u) ≡ Some u
earlier_more m u e = rw (e, earlier) refl

earlier_past : (m h : List (ℕ × ℕ)) (o : Option (List (ℕ × ℕ))) → mono_cmp m h ≡ Less → earlier (Some m) (earlier (Some h) o) ≡ earlier (Some m) o
earlier_past m h None e = earlier_less m h e
earlier_past m h (Some u) e = by_cases (mono_cmp h u)
    (λ k. ap (earlier (Some m)) (earlier_less h u k) ∙ earlier_less m h e ∙ sym (earlier_less m u (mono_through m h u e k)))
    (λ k. ap (earlier (Some m)) (earlier_same h u k))
    (λ k. ap (earlier (Some m)) (earlier_more h u k))

first_with : (m : List (ℕ × ℕ)) (us : List (List (ℕ × ℕ))) → first_of (with_unknown m us) ≡ earlier (Some m) (first_of us)
first_with m [] = refl
first_with m (u ∷ us) = by_cases (mono_cmp m u)
    (λ e. ap first_of (put_less m u us e) ∙ sym (earlier_less m u e))
    (λ e. ap first_of (put_equal m u us e) ∙ sym (earlier_same m u e))
    (λ e. ap first_of (put_greater m u us e) ∙ sym (earlier_more m u e))

-- what comes after a monomial doesn't come first
passed : (m : List (ℕ × ℕ)) (ts : List Term) (o : Option (List (ℕ × ℕ))) → AllAfter m ts → earlier (Some m) (earlier (first_unknown (without_constant ts)) o) ≡ earlier (Some m) o
passed m [] o a = refl
passed m (t ∷ ts) o a = by_test (is_constant t.mono) (passed m ts o a.1)
  where
    by_test : (b : Bool) → earlier (Some m) (earlier (first_unknown (without_constant ts)) o) ≡ earlier (Some m) o
        → earlier (Some m) (earlier (first_unknown (cond b (without_constant ts) (t ∷ without_constant ts))) o) ≡ earlier (Some m) o
    by_test true h = h
    by_test false h = earlier_past m t.mono o a.0

pub first_with_all : (ts : List Term) (us : List (List (ℕ × ℕ))) → IsPoly ts → first_of (with_unknowns ts us) ≡ earlier (first_unknown (without_constant ts)) (first_of us)
first_with_all [] us p = refl
first_with_all (t ∷ ts) us p = by_test (is_constant t.mono) (first_with_all ts us p.2)
  where
    by_test : (b : Bool) → first_of (with_unknowns ts us) ≡ earlier (first_unknown (without_constant ts)) (first_of us)
        → first_of (cond b (with_unknowns ts us) (with_unknown t.mono (with_unknowns ts us))) ≡ earlier (first_unknown (cond b (without_constant ts) (t ∷ without_constant ts))) (first_of us)
    by_test true h = h
    by_test false h = first_with t.mono (with_unknowns ts us) ∙ ap (λ o. earlier (Some t.mono) o) h ∙ passed t.mono ts (first_of us) p.1

-- tests of an unknown's coefficients

other_passes : (test : ℤ → Bool) (u : List (ℕ × ℕ)) (t : Term) → (t.mono ≡ u → ⊥) → passes test u t ≡ true
other_passes test u t n = by_cases (mono_cmp t.mono u) (λ e. rw e refl) (λ e. absurd (n (mono_exact t.mono u e))) (λ e. rw e refl)

own_passes : (test : ℤ → Bool) (u : List (ℕ × ℕ)) (t : Term) → t.mono ≡ u → passes test u t ≡ test t.coeff
own_passes test u t e = rw (sym e, mono_same t.mono) refl

-- none of them is this unknown's
others_pass : (test : ℤ → Bool) (u : List (ℕ × ℕ)) (ts : List Term) → EachMono (λ m. m ≡ u → ⊥) ts → list_all (passes test u) ts ≡ true
others_pass test u [] a = refl
others_pass test u (t ∷ ts) a = ap (λ b. b && list_all (passes test u) ts) (other_passes test u t a.0) ∙ others_pass test u ts a.1

after_other : (m : List (ℕ × ℕ)) (ts : List Term) → AllAfter m ts → EachMono (λ k. k ≡ m → ⊥) ts
after_other m [] a = tt
after_other m (t ∷ ts) a = ((λ e. mono_not_self m (subst (λ (k : List (ℕ × ℕ)). mono_cmp m k ≡ Less) e a.0)), after_other m ts a.1)

unknown_kept : (t : Term) (ts : List Term) → is_constant t.mono ≡ false → without_constant (t ∷ ts) ≡ t ∷ without_constant ts
unknown_kept t ts e = ap (λ b. cond b (without_constant ts) (t ∷ without_constant ts)) e

and_true : (b : Bool) → (b && true) ≡ b
and_true true = refl
and_true false = refl

tested_term : (test : ℤ → Bool) (u : List (ℕ × ℕ)) (t : Term) (ts : List Term) → IsUnknown u → AllAfter t.mono ts → test (coeff_of ts u) ≡ list_all (passes test u) (without_constant ts)
    → test (coeff_of (t ∷ ts) u) ≡ list_all (passes test u) (without_constant (t ∷ ts))
tested_term test u t ts n a h = by_cases (mono_cmp t.mono u) (λ e. other (λ s. differs e s) (rw e refl)) here (λ e. other (λ s. differs_back e s) (rw e refl))
  where
    differs : mono_cmp t.mono u ≡ Less → t.mono ≡ u → ⊥
    differs e s = mono_not_self u (subst (λ (k : List (ℕ × ℕ)). mono_cmp k u ≡ Less) s e)

    differs_back : mono_cmp t.mono u ≡ Greater → t.mono ≡ u → ⊥
    differs_back e s = mono_not_self u (subst (λ (k : List (ℕ × ℕ)). mono_cmp u k ≡ Less) s (mono_back t.mono u e))

    other : (t.mono ≡ u → ⊥) → coeff_of (t ∷ ts) u ≡ coeff_of ts u → test (coeff_of (t ∷ ts) u) ≡ list_all (passes test u) (without_constant (t ∷ ts))
    other d c =
        ap test c ∙ h
        ∙ sym (by_if (is_constant t.mono) (without_constant ts) (t ∷ without_constant ts) (λ q. list_all (passes test u) q ≡ list_all (passes test u) (without_constant ts))
        (λ e. refl) (λ e. ap (λ b. b && list_all (passes test u) (without_constant ts)) (other_passes test u t d)))

    here : mono_cmp t.mono u ≡ Equal → test (coeff_of (t ∷ ts) u) ≡ list_all (passes test u) (without_constant (t ∷ ts))
    here e =
        let s = mono_exact t.mono u e in
        let k : is_constant t.mono ≡ false = subst (λ (m : List (ℕ × ℕ)). is_constant m ≡ false) (sym s) n in
        let rest : list_all (passes test u) (without_constant ts) ≡ true =
        others_pass test u (without_constant ts) (each_without (λ m. m ≡ u → ⊥) ts (subst (λ (m : List (ℕ × ℕ)). EachMono (λ k. k ≡ m → ⊥) ts) s (after_other t.mono ts a))) in
        let c : coeff_of (t ∷ ts) u ≡ t.coeff = rw e refl in
        ap test c
        ∙ sym (ap (list_all (passes test u)) (unknown_kept t ts k) ∙ ap (λ b. passes test u t && b) rest ∙ and_true (passes test u t) ∙ own_passes test u t s)

tested_poly : (test : ℤ → Bool) (u : List (ℕ × ℕ)) (ts : List Term) → test (pos 0) ≡ true → IsUnknown u → IsPoly ts → test (coeff_of ts u) ≡ list_all (passes test u) (without_constant ts)
tested_poly test u [] z n p = z
tested_poly test u (t ∷ ts) z n p = tested_term test u t ts n p.1 (tested_poly test u ts z n p.2)

tested_rows : (test : ℤ → Bool) (u : List (ℕ × ℕ)) (rows : List PRow) → test (pos 0) ≡ true → IsUnknown u → AllByRecursion IsPolyRow rows
    → list_all (λ r. test (coeff_in u r)) rows ≡ list_all (passes test u) (terms_of rows)
tested_rows test u [] z n a = refl
tested_rows test u (r ∷ rows) z n a =
    ap (λ b. b && list_all (λ q. test (coeff_in u q)) rows) (tested_poly test u r.poly z n a.0)
    ∙ ap (λ b. list_all (passes test u) (without_constant r.poly) && b) (tested_rows test u rows z n a.1)
    ∙ sym (list_all-append (passes test u) (without_constant r.poly) (terms_of rows))

-- the order of the terms doesn't matter

tested_ordered : (f : Term → Bool) (xs ys : List Term) → IsPermutation xs ys → list_all f xs ≡ list_all f ys
tested_ordered f xs ys p = same_tests (list_all f xs) (list_all f ys)
    (λ e. list_all-from_AllPass f ys (All-permutation (λ x. f x ≡ true) xs ys p (AllPass-from_list_all f xs e)))
    (λ e. list_all-from_AllPass f xs (All-permutation (λ x. f x ≡ true) ys xs (IsPermutation-sym xs ys p) (AllPass-from_list_all f ys e)))

each_ordered : (P : Term → Type 0) (xs ys : List Term) → IsPermutation xs ys → AllByRecursion P xs → AllByRecursion P ys
each_ordered P xs ys p a = recursion_from_All P ys (All-permutation P xs ys p (All-from_recursion P xs a))

exact_same : (rows : List PRow) (ts : List Term) (u : List (ℕ × ℕ)) → AllByRecursion IsPolyRow rows → IsPermutation (terms_of rows) ts → IsUnknown u → is_exact rows u ≡ is_exact_in ts u
exact_same rows ts u a p n =
    ap (λ b. b || list_all (λ r. at_least_minus_1 (coeff_in u r)) rows) (tested_rows at_most_1 u rows refl n a ∙ tested_ordered (passes at_most_1 u) (terms_of rows) ts p)
    ∙ ap (λ b. list_all (passes at_most_1 u) ts || b) (tested_rows at_least_minus_1 u rows refl n a ∙ tested_ordered (passes at_least_minus_1 u) (terms_of rows) ts p)

first_same : (rows : List PRow) (ts : List Term) (us : List (List (ℕ × ℕ))) → AllByRecursion IsPolyRow rows → IsPermutation (terms_of rows) ts → AllByRecursion IsUnknown us
    → first_exact rows us ≡ first_exact_in ts us
first_same rows ts [] a p n = refl
first_same rows ts (u ∷ us) a p n =
    ap (λ b. if b then Some u else first_exact rows us) (exact_same rows ts u a p n.0) ∙ ap (λ (o : Option (List (ℕ × ℕ))). if is_exact_in ts u then Some u else o) (first_same rows ts us a p n.1)

-- the unknowns of terms

with_both : (xs ys : List Term) (us : List (List (ℕ × ℕ))) → with_unknowns (xs ++ ys) us ≡ with_unknowns xs (with_unknowns ys us)
with_both [] ys us = refl
with_both (x ∷ xs) ys us = ap (λ q. cond (is_constant x.mono) q (with_unknown x.mono q)) (with_both xs ys us)

with_nonconstant : (ts : List Term) (us : List (List (ℕ × ℕ))) → with_unknowns (without_constant ts) us ≡ with_unknowns ts us
with_nonconstant [] us = refl
with_nonconstant (t ∷ ts) us = by_test (is_constant t.mono) refl (with_nonconstant ts us)
  where
    by_test : (b : Bool) → is_constant t.mono ≡ b → with_unknowns (without_constant ts) us ≡ with_unknowns ts us
        → with_unknowns (cond b (without_constant ts) (t ∷ without_constant ts)) us ≡ cond b (with_unknowns ts us) (with_unknown t.mono (with_unknowns ts us))
    by_test true e h = h
    by_test false e h = ap (λ b. cond b (with_unknowns (without_constant ts) us) (with_unknown t.mono (with_unknowns (without_constant ts) us))) e ∙ ap (λ q. with_unknown t.mono q) h

unknowns_terms : (rows : List PRow) → unknowns rows ≡ with_unknowns (terms_of rows) []
unknowns_terms [] = refl
unknowns_terms (r ∷ rows) =
    ap (λ q. with_unknowns r.poly q) (unknowns_terms rows) ∙ sym (with_nonconstant r.poly (with_unknowns (terms_of rows) [])) ∙ sym (with_both (without_constant r.poly) (terms_of rows) [])

-- lists that rise and have the same elements

rise_absurd : (w v : List (ℕ × ℕ)) (us vs : List (List (ℕ × ℕ))) → Rise (w ∷ us) → Rise (v ∷ vs) → Has w vs → (v ≡ w) ⊎ Has v us → ⊥
rise_absurd w v us vs r q h (inl e) = mono_not_self v (subst (λ (k : List (ℕ × ℕ)). mono_cmp v k ≡ Less) (sym e) (less_than v vs q.0 w h))
rise_absurd w v us vs r q h (inr k) = mono_not_self v (mono_through v w v (less_than v vs q.0 w h) (less_than w us r.0 v k))

rise_same : (us vs : List (List (ℕ × ℕ))) → Rise us → Rise vs → Within us vs → Within vs us → us ≡ vs
rise_same [] [] r q s t = refl
rise_same [] (v ∷ vs) r q s t = absurd (t v (inl refl))
rise_same (w ∷ us) [] r q s t = absurd (s w (inl refl))
rise_same (w ∷ us) (v ∷ vs) r q s t = elim (s w (inl refl)) as (λ _. w ∷ us ≡ v ∷ vs) [
  | inl e ↦
      ap (λ k. k ∷ us) e ∙ ap (λ ks. v ∷ ks) (rise_same us vs r.1 q.1 (skip_same w v us vs e r s) (skip_same v w vs us (sym e) q t))
  | inr k ↦ absurd (rise_absurd w v us vs r q k (t v (inl refl)))
]

terms_within : (xs ys : List Term) → IsPermutation ys xs → Within (with_unknowns xs []) (with_unknowns ys [])
terms_within xs ys p n h =
    known_unknown n (with_unknowns ys []) (has_all IsUnknown n (with_unknowns xs []) (unknowns_with xs [] tt) h)
    (terms_each (Known (with_unknowns ys [])) n xs [] (each_ordered (λ t. Known (with_unknowns ys []) t.mono) ys xs p (known_terms ys [])) (λ k. absurd k) h)

unknowns_ordered : (xs ys : List Term) → IsPermutation xs ys → with_unknowns xs [] ≡ with_unknowns ys []
unknowns_ordered xs ys p = rise_same (with_unknowns xs []) (with_unknowns ys []) (rise_terms xs [] tt) (rise_terms ys [] tt)
    (terms_within xs ys (IsPermutation-sym xs ys p)) (terms_within ys xs p)

pub found_in_terms : (rows : List PRow) (ts : List Term) → AllByRecursion IsPolyRow rows → AreOrdered rows ts → first_exact_in ts (with_unknowns ts []) ≡ first_exact rows (unknowns rows)
found_in_terms rows ts a o =
    let same : unknowns rows ≡ with_unknowns ts [] = unknowns_terms rows ∙ unknowns_ordered (terms_of rows) ts o.same in
    sym (ap (λ us. first_exact rows us) same ∙ first_same rows ts (with_unknowns ts []) a o.same (unknowns_with ts [] tt))

-- terms that are sorted

abbrev pub comes_before : Bor Term → Bor Term → Bool
comes_before t u = is_lt (mono_cmp t.now.mono u.now.mono)

pub monomials_order : IsStrictWeakOrder comes_before
monomials_order = ranks_by mono_total (λ (t : Bor Term). t.now.mono)

not_after : (a b : List (ℕ × ℕ)) → is_lt (mono_cmp b a) ≡ false → mono_cmp a b ≢ Greater
not_after a b h e = let less = ap is_lt (mono_back a b e) in cc

each_after : (t : Bor Term) (ts : List (Bor Term)) → ((k : ℕ) → k < length ts → comes_before (get_or ts k t) t ≡ false) → EachMono (λ m. mono_cmp t.now.mono m ≢ Greater) (lent ts)
each_after t [] h = tt
each_after t (u ∷ ts) h = (not_after t.now.mono u.now.mono (h 0 (omega arith)), each_after t ts (λ k p. h (suc k) (omega (arith, p))))

order_of : (ts : List (Bor Term)) → EachMono IsUnknown (lent ts) → ((i j : ℕ) (d : Bor Term) → i ≤ j → j < length ts → comes_before (get_or ts j d) (get_or ts i d) ≡ false) → AreInOrder (lent ts)
order_of [] n h = tt
order_of (t ∷ ts) n h = (
  n.0,
  each_after t ts (λ k p. h 0 (suc k) t (omega arith) (omega (arith, p))),
  order_of ts n.1 (λ i j d p q. h (suc i) (suc j) d (omega (arith, p)) (omega (arith, q))),
)

all_unknown : (rows : List PRow) → EachMono IsUnknown (terms_of rows)
all_unknown [] = tt
all_unknown (r ∷ rows) = all_join (λ (t : Term). IsUnknown t.mono) (without_constant r.poly) (terms_of rows) (unknown_terms r.poly) (all_unknown rows)
  where
    unknown_terms : (ts : List Term) → EachMono IsUnknown (without_constant ts)
    unknown_terms [] = tt
    unknown_terms (t ∷ ts) = by_if (is_constant t.mono) (without_constant ts) (t ∷ without_constant ts) (EachMono IsUnknown) (λ e. unknown_terms ts) (λ e. (e, unknown_terms ts))

pub ordered : (rows : List PRow) (given sorted : List (Bor Term)) → lent given ≡ terms_of rows → IsPermutation given sorted → IsSortedBy comes_before sorted → AreOrdered rows (lent sorted)
ordered rows given sorted e p s =
    let same : IsPermutation (terms_of rows) (lent sorted) = subst (λ ts. IsPermutation ts (lent sorted)) e (IsPermutation-map (λ (t : Bor Term). t.now) given sorted p) in
    record {
      same = same;
      order = order_of sorted (each_ordered (λ t. IsUnknown t.mono) (terms_of rows) (lent sorted) same (all_unknown rows)) (sorted_far comes_before monomials_order sorted s);
    }

-- what holds of terms in order holds of those from one on

order_from : (ts : List (Bor Term)) (n : ℕ) → AreInOrder (lent ts) → AreInOrder (lent (drop n ts))
order_from [] zero o = o
order_from [] (suc n) o = o
order_from (t ∷ ts) zero o = o
order_from (t ∷ ts) (suc n) o = order_from ts n o.2

-- the term at a place stands before those behind it
pub term_before : (ts : List (Bor Term)) (n m : ℕ) (t : Bor Term) → m ≡ n + 1 → n < length ts → t ≡ get_or ts n t → lent (drop n ts) ≡ t.now ∷ lent (drop m ts)
term_before ts n m t s h e = ap lent (drop_more ts n t h ∙ ap (λ (q : Bor Term). q ∷ drop (n + 1) ts) (sym e)) ∙ ap (λ k. t.now ∷ lent (drop k ts)) (sym s)

pub order_at : (ts : List (Bor Term)) (n m : ℕ) (t : Bor Term) → AreInOrder (lent ts) → m ≡ n + 1 → n < length ts → t ≡ get_or ts n t → AreInOrder (t.now ∷ lent (drop m ts))
order_at ts n m t o s h e = subst AreInOrder (term_before ts n m t s h e) (order_from ts n o)

-- the terms of one unknown after another, from the last one on

first_term : (test : ℤ → Bool) (t : Term) → test t.coeff ≡ list_all (passes test t.mono) (t ∷ [])
first_term test t = sym (and_true (passes test t.mono t) ∙ own_passes test t.mono t refl)

pub group_first : (t : Term) (g : Group) → is_constant t.mono ≡ false → g.unknown.now ≡ t.mono → g.lower_ones ≡ at_most_1 t.coeff → g.upper_ones ≡ at_least_minus_1 t.coeff → first_lent g.later ≡ None
    → IsGroup (t ∷ []) g
group_first t g n u l h e = record {
  others = [];
  unknowns = ap (λ b. cond b [] (t.mono ∷ [])) n ∙ ap (λ m. m ∷ []) (sym u);
  lower = l ∙ first_term at_most_1 t ∙ ap (λ m. list_all (passes at_most_1 m) (t ∷ [])) (sym u);
  upper = h ∙ first_term at_least_minus_1 t ∙ ap (λ m. list_all (passes at_least_minus_1 m) (t ∷ [])) (sym u);
  later = e;
}

-- a term of another unknown changes nothing
exact_past : (t : Term) (ts : List Term) (us : List (List (ℕ × ℕ))) → AllByRecursion (λ u. t.mono ≡ u → ⊥) us → first_exact_in (t ∷ ts) us ≡ first_exact_in ts us
exact_past t ts [] a = refl
exact_past t ts (u ∷ us) a =
    let low : list_all (passes at_most_1 u) (t ∷ ts) ≡ list_all (passes at_most_1 u) ts = ap (λ b. b && list_all (passes at_most_1 u) ts) (other_passes at_most_1 u t a.0) in
    let high : list_all (passes at_least_minus_1 u) (t ∷ ts) ≡ list_all (passes at_least_minus_1 u) ts = ap (λ b. b && list_all (passes at_least_minus_1 u) ts) (other_passes at_least_minus_1 u t a.0) in
    let e : is_exact_in (t ∷ ts) u ≡ is_exact_in ts u = ap (λ b. b || list_all (passes at_least_minus_1 u) (t ∷ ts)) low ∙ ap (λ b. list_all (passes at_most_1 u) ts || b) high in
    ap (λ b. if b then Some u else first_exact_in (t ∷ ts) us) e ∙ ap (λ (o : Option (List (ℕ × ℕ))). if is_exact_in ts u then Some u else o) (exact_past t ts us a.1)

less_differ : (m : List (ℕ × ℕ)) (us : List (List (ℕ × ℕ))) → AllByRecursion (λ u. mono_cmp m u ≡ Less) us → AllByRecursion (λ u. m ≡ u → ⊥) us
less_differ m us a = all_with (λ u. mono_cmp m u ≡ Less) (λ u. m ≡ u → ⊥) us (λ u l e. mono_not_self m (subst (λ (k : List (ℕ × ℕ)). mono_cmp m k ≡ Less) (sym e) l)) a

with_own : (t : Term) (ts : List Term) → is_constant t.mono ≡ false → with_unknowns (t ∷ ts) [] ≡ with_unknown t.mono (with_unknowns ts [])
with_own t ts e = ap (λ b. cond b (with_unknowns ts []) (with_unknown t.mono (with_unknowns ts []))) e

pub group_same : (t : Term) (ts : List Term) (g k : Group) → AreInOrder (t ∷ ts) → t.mono ≡ g.unknown.now → k.unknown.now ≡ g.unknown.now
    → k.lower_ones ≡ (at_most_1 t.coeff && g.lower_ones) → k.upper_ones ≡ (at_least_minus_1 t.coeff && g.upper_ones) → first_lent k.later ≡ first_lent g.later → IsGroup ts g → IsGroup (t ∷ ts) k
group_same t ts g k o s u l h e i =
    let m : List (ℕ × ℕ) = g.unknown.now in
    let rise : Rise (g.unknown.now ∷ i.others) = subst Rise i.unknowns (rise_terms ts [] tt) in
    let eq : mono_cmp t.mono g.unknown.now ≡ Equal = subst (λ (q : List (ℕ × ℕ)). mono_cmp q g.unknown.now ≡ Equal) (sym s) (mono_same m) in
    record {
      others = i.others;
      unknowns = with_own t ts o.0 ∙ ap (λ q. with_unknown t.mono q) i.unknowns ∙ put_equal t.mono m i.others eq ∙ ap (λ q. q ∷ i.others) (sym u);
      lower = l ∙ ap (λ b. at_most_1 t.coeff && b) i.lower ∙ ap (λ b. b && list_all (passes at_most_1 m) ts) (sym (own_passes at_most_1 m t s))
          ∙ ap (λ q. list_all (passes at_most_1 q) (t ∷ ts)) (sym u);
      upper = h ∙ ap (λ b. at_least_minus_1 t.coeff && b) i.upper ∙ ap (λ b. b && list_all (passes at_least_minus_1 m) ts) (sym (own_passes at_least_minus_1 m t s))
          ∙ ap (λ q. list_all (passes at_least_minus_1 q) (t ∷ ts)) (sym u);
      later = e ∙ i.later
          ∙ sym (exact_past t ts i.others (subst (λ (q : List (ℕ × ℕ)). AllByRecursion (λ v. q ≡ v → ⊥) i.others) (sym s) (less_differ m i.others rise.0)));
    }

pub group_exact : (ts : List Term) (g : Group) → IsGroup ts g → first_in_group g ≡ first_exact_in ts (with_unknowns ts [])
group_exact ts g i =
    let m : List (ℕ × ℕ) = g.unknown.now in
    ap (λ (o : Option (List (ℕ × ℕ))). if g.lower_ones || g.upper_ones then Some m else o) i.later
    ∙ ap (λ b. if b || g.upper_ones then Some m else first_exact_in ts i.others) i.lower
    ∙ ap (λ b. if list_all (passes at_most_1 m) ts || b then Some m else first_exact_in ts i.others) i.upper
    ∙ ap (λ us. first_exact_in ts us) (sym i.unknowns)

-- the unknown of a term that doesn't come after the others comes before them, where it is another one
before_all : (t : Term) (ts : List Term) (u : List (ℕ × ℕ)) (us : List (List (ℕ × ℕ))) → AreInOrder (t ∷ ts) → with_unknowns ts [] ≡ u ∷ us → (t.mono ≡ u → ⊥) → mono_cmp t.mono u ≡ Less
before_all t ts u us o e n =
    let here : Has u (with_unknowns ts []) = subst (λ q. Has u q) (sym e) (inl refl) in
    let late : mono_cmp t.mono u ≢ Greater = terms_each (λ m. mono_cmp t.mono m ≢ Greater) u ts [] o.1 (λ k. absurd k) here in
    by_cases (mono_cmp t.mono u) (λ h. h) (λ h. absurd (n (mono_exact t.mono u h))) (λ h. absurd (late h))

rise_before : (m u : List (ℕ × ℕ)) (us : List (List (ℕ × ℕ))) → mono_cmp m u ≡ Less → Rise (u ∷ us) → AllByRecursion (λ v. mono_cmp m v ≡ Less) (u ∷ us)
rise_before m u us l r = (l, all_with (λ v. mono_cmp u v ≡ Less) (λ v. mono_cmp m v ≡ Less) us (λ v k. mono_through m u v l k) r.0)

known_differ : (t : Term) (us : List (List (ℕ × ℕ))) (m : List (ℕ × ℕ)) → is_constant t.mono ≡ false → AllByRecursion (λ v. t.mono ≡ v → ⊥) us → (m ≡ []) ⊎ Has m us → m ≡ t.mono → ⊥
known_differ t us m n a (inl e) s = constant_not t.mono n (sym s ∙ e)
  where
    constant_not : (k : List (ℕ × ℕ)) → is_constant k ≡ false → k ≡ [] → ⊥
    constant_not [] n e = absurd cc
    constant_not (f ∷ fs) n e = absurd cc
known_differ t us m n a (inr h) s = has_all (λ v. t.mono ≡ v → ⊥) m us a h (sym s)

pub group_next : (t : Term) (ts : List Term) (g k : Group) → AreInOrder (t ∷ ts) → (t.mono ≡ g.unknown.now → ⊥) → k.unknown.now ≡ t.mono
    → k.lower_ones ≡ at_most_1 t.coeff → k.upper_ones ≡ at_least_minus_1 t.coeff → first_lent k.later ≡ first_in_group g → IsGroup ts g → IsGroup (t ∷ ts) k
group_next t ts g k o n u l h e i =
    let m : List (ℕ × ℕ) = g.unknown.now in
    let rise : Rise (g.unknown.now ∷ i.others) = subst Rise i.unknowns (rise_terms ts [] tt) in
    let less = before_all t ts m i.others o i.unknowns n in
    let differ = less_differ t.mono (m ∷ i.others) (rise_before t.mono m i.others less rise) in
    let known : EachMono (λ q. q ≡ t.mono → ⊥) ts =
    all_with (λ (v : Term). (v.mono ≡ []) ⊎ Has v.mono (g.unknown.now ∷ i.others)) (λ (v : Term). v.mono ≡ t.mono → ⊥) ts (λ v c. known_differ t (m ∷ i.others) v.mono o.0 differ c)
    (subst (λ us. Knows us ts) i.unknowns (known_terms ts [])) in
    let own : (test : ℤ → Bool) → test t.coeff ≡ list_all (passes test t.mono) (t ∷ ts) =
    (λ test. sym (ap (λ b. passes test t.mono t && b) (others_pass test t.mono ts known) ∙ and_true (passes test t.mono t) ∙ own_passes test t.mono t refl)) in
    record {
      others = g.unknown.now ∷ i.others;
      unknowns = with_own t ts o.0 ∙ ap (λ q. with_unknown t.mono q) i.unknowns ∙ put_less t.mono m i.others less ∙ ap (λ q. q ∷ m ∷ i.others) (sym u);
      lower = l ∙ own at_most_1 ∙ ap (λ q. list_all (passes at_most_1 q) (t ∷ ts)) (sym u);
      upper = h ∙ own at_least_minus_1 ∙ ap (λ q. list_all (passes at_least_minus_1 q) (t ∷ ts)) (sym u);
      later = e ∙ group_exact ts g i ∙ ap (λ us. first_exact_in ts us) i.unknowns ∙ sym (exact_past t ts (m ∷ i.others) differ);
    }
