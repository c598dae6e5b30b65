-- The unknowns of linear rows over the variables below a number.
use Rattle.std.specs.Prelude.{◌≡◌, ◌⊎◌, ◌↔◌, ℕ, zero, suc, ◌+◌, ◌<◌, ◌≤◌, List, [], ◌∷◌, length, slice_index_or, Bool, true, false, cond, refl}
use Rattle.std.proofs.Common.{ap, sym, ◌∙◌, subst, inl, inr, arith}
use Rattle.std.specs.declared.cmp.Ordering.{Ordering}
use Rattle.std.specs.declared.cmp.Ordering.TheVariants.{Less, Equal, Greater}
use Rattle.std.specs.Ordering.{nat_cmp, ordering_then}
use Rattle.std.specs.List.{AllByRecursion, Any}
use Rattle.std.specs.FinMap.{nat_cmp-IsAntisymmetric}
use Rattle.mm_poly.specs.declared.term.Term.{Term}
use Rattle.mm_poly.specs.Mono.{mono_degree, mono_cmp, is_constant, IsMono}
use Rattle.mm_poly.specs.Poly.{AllMono, degree}
use Rattle.mm_poly.proofs.OrderLaws.{mono_back, mono_through, mono_not_self}
use Rattle.mm_poly.proofs.CaseLaws.{by_cases}
use Rattle.cert_kit.specs.declared.row.PRow.{PRow}
use Rattle.fm_elim.specs.Unknowns.{with_unknown, with_unknowns, unknowns}
use Rattle.fm_elim.specs.Points.{AreRows, AreLinear}
use Rattle.fm_elim.specs.Answers.{Occurs, AreNumbered}
use Rattle.fm_elim.proofs.ListLaws.{all_with}
use Rattle.fm_elim.proofs.SolveLaws.{Has, Knows, known_rows, same_number}
use Rattle.mm_poly.proofs.FactorLaws.{less_is}

-- somewhere in a list

abbrev Some_in : {X : Type 0} → (X → Type 0) → List X → Type 0
Some_in P [] = ⊥
Some_in P (x ∷ xs) = P x ⊎ Some_in P xs

any_to : {X : Type 0} (P : X → Type 0) (xs : List X) → Any P xs → Some_in P xs
any_to P [] a = let h = a.2 in absurd (omega (arith, h))
any_to {X = X} P (x ∷ xs) a = by_place a.0 a.1 a.2 a.3 a.4 (λ b. any_to P xs b)
  where
    by_place : (k : ℕ) (y : X) → k < length (x ∷ xs) → slice_index_or (x ∷ xs) k y ≡ y → P y → (Any P xs → Some_in P xs) → P x ⊎ Some_in P xs
    by_place zero y h e p f = inl (subst P (sym e) p)
    by_place (suc k) y h e p f = inr (f (k, y, omega (arith, h), e, p))

some_with : {X : Type 0} (P Q : X → Type 0) (xs : List X) → ((x : X) → P x → Q x) → Some_in P xs → Some_in Q xs
some_with P Q [] f h = absurd h
some_with P Q (x ∷ xs) f (inl p) = inl (f x p)
some_with P Q (x ∷ xs) f (inr h) = inr (some_with P Q xs f h)

any_from : {X : Type 0} (P : X → Type 0) (xs : List X) → Some_in P xs → Any P xs
any_from P [] h = absurd h
any_from P (x ∷ xs) (inl p) = (0, x, omega arith, refl, p)
any_from P (x ∷ xs) (inr h) = let a = any_from P xs h in let l = a.2 in (suc a.0, a.1, omega (arith, l), a.3, a.4)

abbrev In_mono : ℕ → List (ℕ × ℕ) → Type 0
In_mono v m = Some_in (λ (f : ℕ × ℕ). f.0 ≡ v) m

abbrev In_poly : ℕ → List Term → Type 0
In_poly v p = Some_in (λ (t : Term). In_mono v t.mono) p

abbrev In_rows : ℕ → List PRow → Type 0
In_rows v rows = Some_in (λ (r : PRow). In_poly v r.poly) rows

occurs_to : (v : ℕ) (rows : List PRow) → Occurs v rows → In_rows v rows
occurs_to v rows o =
    some_with (λ (r : PRow). Any (λ (t : Term). Any (λ (f : ℕ × ℕ). f.0 ≡ v) t.mono) r.poly) (λ (r : PRow). In_poly v r.poly) rows
    (λ r h. some_with (λ (t : Term). Any (λ (f : ℕ × ℕ). f.0 ≡ v) t.mono) (λ (t : Term). In_mono v t.mono) r.poly
    (λ t k. any_to (λ (f : ℕ × ℕ). f.0 ≡ v) t.mono k) (any_to (λ (t : Term). Any (λ (f : ℕ × ℕ). f.0 ≡ v) t.mono) r.poly h))
    (any_to (λ (r : PRow). Any (λ (t : Term). Any (λ (f : ℕ × ℕ). f.0 ≡ v) t.mono) r.poly) rows o)

occurs_from : (v : ℕ) (rows : List PRow) → In_rows v rows → Occurs v rows
occurs_from v rows o =
    any_from (λ (r : PRow). Any (λ (t : Term). Any (λ (f : ℕ × ℕ). f.0 ≡ v) t.mono) r.poly) rows
    (some_with (λ (r : PRow). In_poly v r.poly) (λ (r : PRow). Any (λ (t : Term). Any (λ (f : ℕ × ℕ). f.0 ≡ v) t.mono) r.poly) rows
    (λ r h. any_from (λ (t : Term). Any (λ (f : ℕ × ℕ). f.0 ≡ v) t.mono) r.poly
    (some_with (λ (t : Term). In_mono v t.mono) (λ (t : Term). Any (λ (f : ℕ × ℕ). f.0 ≡ v) t.mono) r.poly (λ t k. any_from (λ (f : ℕ × ℕ). f.0 ≡ v) t.mono k) h)) o)

-- each unknown of linear rows is a variable that occurs

abbrev Is_variable : (ℕ → Type 0) → List (ℕ × ℕ) → Type 0
Is_variable P m = (v : ℕ) × (m ≡ (v, 1) ∷ []) × P v

linear_mono : (m : List (ℕ × ℕ)) → IsMono m → mono_degree m ≤ 1 → is_constant m ≡ false → Is_variable (λ v. In_mono v m) m
linear_mono [] i d e = absurd cc
linear_mono (f ∷ []) i d e =
    let one : f.1 ≡ 1 = (let l = i.0 in omega arith) in
    (f.0, ap (λ n. (f.0, n) ∷ []) one, inl refl)
linear_mono (f ∷ g ∷ gs) i d e = let l = i.0 in let n = i.2.0 in absurd (omega arith)

variable_more : (P Q : ℕ → Type 0) (m : List (ℕ × ℕ)) → ((v : ℕ) → P v → Q v) → Is_variable P m → Is_variable Q m
variable_more P Q m f h = (h.0, h.1, f h.0 h.2)

variables_with : (P : List (ℕ × ℕ) → Type 0) (m : List (ℕ × ℕ)) (us : List (List (ℕ × ℕ))) → P m → AllByRecursion P us → AllByRecursion P (with_unknown m us)
variables_with P m [] h a = (h, tt)
variables_with P m (u ∷ us) h a = by_cases (mono_cmp m u)
    (λ e. rw (e, with_unknown) (h, a)) (λ e. rw (e, with_unknown) a) (λ e. rw (e, with_unknown) (a.0, variables_with P m us h a.1))

terms_variables : (P : ℕ → Type 0) (ts : List Term) (us : List (List (ℕ × ℕ))) → AllMono ts → degree ts ≤ 1 → ((v : ℕ) → In_poly v ts → P v) → AllByRecursion (Is_variable P) us
    → AllByRecursion (Is_variable P) (with_unknowns ts us)
terms_variables P [] us i d f a = a
terms_variables P (t ∷ ts) us i d f a = by_test (is_constant t.mono) refl (terms_variables P ts us i.1 (omega arith) (λ v h. f v (inr h)) a)
  where
    first : mono_degree t.mono ≤ 1
    first = omega arith

    by_test : (b : Bool) → is_constant t.mono ≡ b → AllByRecursion (Is_variable P) (with_unknowns ts us)
        → AllByRecursion (Is_variable P) (cond b (with_unknowns ts us) (with_unknown t.mono (with_unknowns ts us)))
    by_test true e rest = rest
    by_test false e rest =
        variables_with (Is_variable P) t.mono (with_unknowns ts us) (variable_more (λ v. In_mono v t.mono) P t.mono (λ v h. f v (inl h)) (linear_mono t.mono i.0 first e)) rest

rows_variables : (P : ℕ → Type 0) (rows : List PRow) → AreRows rows → AreLinear rows → ((v : ℕ) → In_rows v rows → P v) → AllByRecursion (Is_variable P) (unknowns rows)
rows_variables P [] a l f = tt
rows_variables P (r ∷ rows) a l f = terms_variables P r.poly (unknowns rows) a.0.monos l.0 (λ v h. f v (inl h)) (rows_variables P rows a.1 l.1 (λ v h. f v (inr h)))

-- each variable that occurs is an unknown

mono_has : (v : ℕ) (us : List (List (ℕ × ℕ))) (m : List (ℕ × ℕ)) → IsMono m → mono_degree m ≤ 1 → (m ≡ []) ⊎ Has m us → In_mono v m → Has ((v, 1) ∷ []) us
mono_has v us [] i d h o = absurd o
mono_has v us (f ∷ []) i d (inl e) o = absurd cc
mono_has v us (f ∷ []) i d (inr h) (inl e) =
    let one : f.1 ≡ 1 = (let l = i.0 in omega arith) in
    subst (λ w. Has ((w, 1) ∷ []) us) e (subst (λ n. Has ((f.0, n) ∷ []) us) one h)
mono_has v us (f ∷ []) i d (inr h) (inr o) = absurd o
mono_has v us (f ∷ g ∷ gs) i d h o = let l = i.0 in let n = i.2.0 in absurd (omega arith)

poly_has : (v : ℕ) (us : List (List (ℕ × ℕ))) (p : List Term) → AllMono p → degree p ≤ 1 → Knows us p → In_poly v p → Has ((v, 1) ∷ []) us
poly_has v us [] i d k o = absurd o
poly_has v us (t ∷ ts) i d k (inl o) = let first : mono_degree t.mono ≤ 1 = omega arith in mono_has v us t.mono i.0 first k.0 o
poly_has v us (t ∷ ts) i d k (inr o) = let rest : degree ts ≤ 1 = omega arith in poly_has v us ts i.1 rest k.1 o

rows_have : (v : ℕ) (us : List (List (ℕ × ℕ))) (rows : List PRow) → AreRows rows → AreLinear rows → AllByRecursion (λ (r : PRow). Knows us r.poly) rows → In_rows v rows → Has ((v, 1) ∷ []) us
rows_have v us [] a l k o = absurd o
rows_have v us (r ∷ rows) a l k (inl o) = poly_has v us r.poly a.0.monos l.0 k.0 o
rows_have v us (r ∷ rows) a l k (inr o) = rows_have v us rows a.1 l.1 k.1 o

-- the unknowns rise

abbrev pub Rise : List (List (ℕ × ℕ)) → Type 0
Rise [] = Unit {0}
Rise (u ∷ us) = AllByRecursion (λ w. mono_cmp u w ≡ Less) us × Rise us

rise_with : (m : List (ℕ × ℕ)) (us : List (List (ℕ × ℕ))) → Rise us → Rise (with_unknown m us)
rise_with m [] r = (tt, tt)
rise_with m (u ∷ us) r = by_cases (mono_cmp m u)
    (λ e. rw (e, with_unknown) ((e, all_with (λ w. mono_cmp u w ≡ Less) (λ w. mono_cmp m w ≡ Less) us (λ w h. mono_through m u w e h) r.0), r))
    (λ e. rw (e, with_unknown) r)
    (λ e. rw (e, with_unknown) (variables_with (λ w. mono_cmp u w ≡ Less) m us (mono_back m u e) r.0, rise_with m us r.1))

pub rise_terms : (ts : List Term) (us : List (List (ℕ × ℕ))) → Rise us → Rise (with_unknowns ts us)
rise_terms [] us r = r
rise_terms (t ∷ ts) us r = by_test (is_constant t.mono) (rise_terms ts us r)
  where
    by_test : (b : Bool) → Rise (with_unknowns ts us) → Rise (cond b (with_unknowns ts us) (with_unknown t.mono (with_unknowns ts us)))
    by_test true k = k
    by_test false k = rise_with t.mono (with_unknowns ts us) k

pub rise_rows : (rows : List PRow) → Rise (unknowns rows)
rise_rows [] = tt
rise_rows (r ∷ rows) = rise_terms r.poly (unknowns rows) (rise_rows rows)

-- variables in order

then_same : (o : Ordering) → ordering_then (ordering_then o Equal) Equal ≡ o
then_same Less = refl
then_same Equal = refl
then_same Greater = refl

cmp_is : (v w : ℕ) → mono_cmp ((v, 1) ∷ []) ((w, 1) ∷ []) ≡ nat_cmp v w
cmp_is v w = then_same (nat_cmp v w)

not_both : (o : Ordering) → o ≡ Greater → o ≡ Less → ⊥
not_both Less e h = absurd cc
not_both Equal e h = absurd cc
not_both Greater e h = absurd cc

variable_cmp : (v w : ℕ) → mono_cmp ((v, 1) ∷ []) ((w, 1) ∷ []) ≡ Less → v < w
variable_cmp v w h = by_cases (nat_cmp v w)
    (λ e. less_is v w e)
    (λ e. absurd (mono_not_self ((v, 1) ∷ []) (subst (λ k. mono_cmp ((v, 1) ∷ []) ((k, 1) ∷ []) ≡ Less) (sym (nat_cmp-IsAntisymmetric v w e)) h)))
    (λ e. absurd (not_both (nat_cmp v w) e (sym (cmp_is v w) ∙ h)))

-- a rising list of the variables from k to n
from_k : (n : ℕ) (us : List (List (ℕ × ℕ))) (k : ℕ) → Rise us → AllByRecursion (Is_variable (λ v. (k ≤ v) × (v < n))) us → ((v : ℕ) → k ≤ v → v < n → Has ((v, 1) ∷ []) us)
    → (j : ℕ) → j < length us → slice_index_or us j [] ≡ (k + j, 1) ∷ []
from_k n [] k r a h j l = absurd (omega (arith, l))
from_k n (u ∷ us) k r a h j l = by_place j l (λ i m. from_k n us (k + 1) r.1 (later us r.0 a.1) rest i m)
  where
    v : ℕ
    v = a.0.0

    is_first : (h0 : Has ((k, 1) ∷ []) (u ∷ us)) → v ≡ k
    is_first (inl e) = sym (same_number k v (e ∙ a.0.1))
    is_first (inr t) =
        let less = has_less us r.0 t in
        let below = variable_cmp v k (subst (λ m. mono_cmp m ((k, 1) ∷ []) ≡ Less) a.0.1 less) in
        let above = a.0.2.0 in
        absurd (omega (arith, below, above))
      where
        has_less : (ws : List (List (ℕ × ℕ))) → AllByRecursion (λ w. mono_cmp u w ≡ Less) ws → Has ((k, 1) ∷ []) ws → mono_cmp u ((k, 1) ∷ []) ≡ Less
        has_less [] b t = absurd t
        has_less (w ∷ ws) b (inl e) = subst (λ m. mono_cmp u m ≡ Less) (sym e) b.0
        has_less (w ∷ ws) b (inr t) = has_less ws b.1 t

    inside : k < n
    inside = let p = a.0.2.0 in let q = a.0.2.1 in omega (arith, p, q)

    first : v ≡ k
    first = is_first (h k (omega arith) inside)

    later : (ws : List (List (ℕ × ℕ))) → AllByRecursion (λ w. mono_cmp u w ≡ Less) ws → AllByRecursion (Is_variable (λ v. (k ≤ v) × (v < n))) ws
        → AllByRecursion (Is_variable (λ v. (k + 1 ≤ v) × (v < n))) ws
    later [] b c = tt
    later (w ∷ ws) b c =
        let less = variable_cmp v c.0.0 (subst (λ m. mono_cmp m ((c.0.0, 1) ∷ []) ≡ Less) a.0.1 (subst (λ m. mono_cmp u m ≡ Less) c.0.1 b.0)) in
        let same = first in
        ((c.0.0, c.0.1, (omega (arith, less, same), c.0.2.1)), later ws b.1 c.1)

    rest : (w : ℕ) → k + 1 ≤ w → w < n → Has ((w, 1) ∷ []) us
    rest w p q = elim (h w (omega (arith, p)) q) as (λ _. Has ((w, 1) ∷ []) us) [
      | inl e ↦ absurd (let d = same_number w v (e ∙ a.0.1) in let same = first in omega (arith, d, same, p))
      | inr t ↦ t
    ]

    shifted : (j : ℕ) → k + 1 + j ≡ k + suc j
    shifted j = omega arith

    here : v ≡ k + 0
    here = let same = first in omega (arith, same)

    by_place : (j : ℕ) → j < length (u ∷ us) → ((i : ℕ) → i < length us → slice_index_or us i [] ≡ (k + 1 + i, 1) ∷ []) → slice_index_or (u ∷ us) j [] ≡ (k + j, 1) ∷ []
    by_place zero l f = a.0.1 ∙ ap (λ m. (m, 1) ∷ []) here
    by_place (suc j) l f = f j (omega (arith, l)) ∙ ap (λ m. (m, 1) ∷ []) (shifted j)

none_before : (j : ℕ) → 0 + j ≡ j
none_before j = omega arith

pub are_numbered : (rows : List PRow) (n : ℕ) → AreRows rows → AreLinear rows → ((v : ℕ) → (v < n) ↔ Occurs v rows) → AreNumbered rows
are_numbered rows n a l o = λ j h.
    from_k n (unknowns rows) 0 (rise_rows rows)
    (rows_variables (λ v. (0 ≤ v) × (v < n)) rows a l (λ v i. (omega arith, (o v).1 (occurs_from v rows i))))
    (λ v p q. rows_have v (unknowns rows) rows a l (known_rows rows) (occurs_to v rows ((o v).0 q))) j h ∙ ap (λ m. (m, 1) ∷ []) (none_before j)
