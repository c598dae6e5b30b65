-- The unknowns of linear rows are their variables.
use Rattle.std.specs.Prelude.{◌≡◌, ℕ, ◌≤◌, List, [], ◌∷◌, ◌++◌, map, cond, refl}
use Rattle.std.specs.Ordering.{nat_cmp, ordering_then}
use Rattle.std.specs.declared.cmp.Ordering.{Ordering}
use Rattle.std.specs.declared.cmp.Ordering.TheVariants.{Less, Equal, Greater}
use Rattle.std.proofs.Common.{ap, sym, ◌∙◌, subst, arith}
use Rattle.mm_poly.specs.declared.term.Term.{Term}
use Rattle.mm_poly.specs.Mono.{mono_cmp, mono_degree, is_constant, IsMono}
use Rattle.mm_poly.specs.Poly.{degree, AllMono}
use Rattle.mm_poly.proofs.CaseLaws.{by_cases}
use Rattle.cert_kit.specs.declared.row.PRow.{PRow}
use Rattle.cert_kit.specs.Variables.{with_element, in_order, mono_variables, poly_variables, row_variables, variables_of}
use Rattle.fm_elim.specs.Unknowns.{with_unknown, with_unknowns, unknowns}
use Rattle.fm_elim.specs.Points.{AreRows, AreLinear}

-- the monomial of a variable
abbrev pub single : ℕ → List (ℕ × ℕ)
single v = (v, 1) ∷ []

-- ---- a monomial of degree at most 1

by_degree : (fs : List (ℕ × ℕ)) (P : List (ℕ × ℕ) → Type 0) → IsMono fs → mono_degree fs ≤ 1 → P [] → ((v : ℕ) → P (single v)) → P fs
by_degree [] P m d h k = h
by_degree (f ∷ []) P m d h k = let e : f.1 ≡ 1 = omega (arith, m.0, d) in subst (λ n. P ((f.0, n) ∷ [])) (sym e) (k f.0)
by_degree (f ∷ g ∷ fs) P m d h k = absurd (let a = m.0 in let b = m.2.0 in omega (arith, a, b, d))

then_equal : (o : Ordering) → ordering_then (ordering_then o Equal) Equal ≡ o
then_equal Less = refl
then_equal Equal = refl
then_equal Greater = refl

cmp_single : (v w : ℕ) → mono_cmp (single v) (single w) ≡ nat_cmp v w
cmp_single v w = then_equal (nat_cmp v w)

with_single : (v : ℕ) (vs : List ℕ) → with_unknown (single v) (map single vs) ≡ map single (with_element nat_cmp v vs)
with_single v [] = refl
with_single v (w ∷ vs) = by_cases (nat_cmp v w)
    (λ o. let c = cmp_single v w ∙ o in rw (c, o, with_unknown, with_element) refl)
    (λ o. let c = cmp_single v w ∙ o in rw (c, o, with_unknown, with_element) refl)
    (λ o. let c = cmp_single v w ∙ o in rw (c, o, with_unknown, with_element) (ap (λ us. single w ∷ us) (with_single v vs)))

-- ---- unknowns and variables, in order

-- elements put at their places one after another, the last one first
abbrev put_all : List ℕ → List ℕ → List ℕ
put_all [] vs = vs
put_all (a ∷ us) vs = with_element nat_cmp a (put_all us vs)

in_order_append : (us vs : List ℕ) → in_order nat_cmp (us ++ vs) ≡ put_all us (in_order nat_cmp vs)
in_order_append [] vs = refl
in_order_append (u ∷ us) vs = ap (with_element nat_cmp u) (in_order_append us vs)

first_degree : (t : Term) (ts : List Term) → degree (t ∷ ts) ≤ 1 → mono_degree t.mono ≤ 1
first_degree t ts d = omega (arith, d)

other_degrees : (t : Term) (ts : List Term) → degree (t ∷ ts) ≤ 1 → degree ts ≤ 1
other_degrees t ts d = omega (arith, d)

terms_unknowns : (ts : List Term) (vs : List ℕ) → AllMono ts → degree ts ≤ 1 → with_unknowns ts (map single vs) ≡ map single (put_all (poly_variables ts) vs)
terms_unknowns [] vs m d = refl
terms_unknowns (t ∷ ts) vs m d =
    let i = terms_unknowns ts vs m.1 (other_degrees t ts d) in
    by_degree t.mono (λ fs. cond (is_constant fs) (with_unknowns ts (map single vs)) (with_unknown fs (with_unknowns ts (map single vs))) ≡ map single (put_all (mono_variables fs ++ poly_variables ts) vs)) m.0 (first_degree t ts d)
    i
    (λ v. ap (with_unknown (single v)) i ∙ with_single v (put_all (poly_variables ts) vs))

pub rows_unknowns : (rows : List PRow) → AreRows rows → AreLinear rows → unknowns rows ≡ map single (variables_of rows)
rows_unknowns [] w l = refl
rows_unknowns (r ∷ rows) w l =
    ap (with_unknowns r.poly) (rows_unknowns rows w.1 l.1)
    ∙ terms_unknowns r.poly (variables_of rows) w.0.monos l.0
    ∙ ap (map single) (sym (in_order_append (poly_variables r.poly) (row_variables rows)))
