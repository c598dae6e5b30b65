-- Pairs of inequalities: each stands at its number, and the limits of products leave room.
use Rattle.std.specs.Prelude.{◌≡◌, ℕ, suc, ◌+◌, ◌-◌, ◌*◌, ◌^◌, ◌<◌, ◌≤◌, List, [], ◌∷◌, ◌++◌, length, map, take, drop, true, ◌&&◌, nat_lt, nat_le, Some, slice_get, refl}
use Rattle.std.specs.List.{AllByRecursion, filter}
use Rattle.std.proofs.Common.{ap, sym, ◌∙◌, arith, zero-add, get_or, append_assoc, length-drop}
use Rattle.std.proofs.lemmas.List.{drop_more, take_all, take_at, length-map, map-append}
use Rattle.std.proofs.lemmas.List.Elements.{filter-append}
use Rattle.std.proofs.lemmas.Bool.{and_parts, leb-true}
use Rattle.mm_num.proofs.ListLaws.{all_join}
use Rattle.mm_num.proofs.TestLaws.{is_below}
use Rattle.mm_poly.specs.declared.term.Term.{Term}
use Rattle.mm_poly.specs.Poly.{Fits, norm, spread, degree}
use Rattle.mm_poly.specs.Room.{ProductHasRoom}
use Rattle.cert_kit.specs.declared.row.Op.{Op}
use Rattle.cert_kit.specs.declared.row.Op.TheVariants.{Ge, Eq}
use Rattle.cert_kit.specs.declared.row.PRow.{PRow}
use Rattle.cert_kit.specs.declared.cert.Psatz.TheVariants.{Hyp}
use Rattle.cert_kit.specs.Meaning.{own_bounds, product_bounds, are_within, at_least_0}
use Rattle.cert_kit.proofs.BoundedLaws.{IsBounded, within_limits, hyp_bounded, mul_bounded}
use Rattle.cert_kit.proofs.RowOrderLaws.{row_same}
use Rattle.nia_products.specs.declared.numbered.Numbered.{Numbered}
use Rattle.nia_products.specs.machine.Lending.{factor_of, lent_factors}
use Rattle.nia_products.specs.Products.{Factor, with_factor, factors_from, factors_of, pairs_with, pairs, has_room, pair_has_room, products_of, pair_row, pair_source}
use Rattle.nia_products.specs.Enriching.{AreFit}
use Rattle.nia_products.proofs.EachLaws.{each_taken, each_passed, each_made}

-- ---- the first inequalities

-- it stands at its number among the rows
pub record IsFactor (rows : List PRow) (f : Factor) : Type 0 where
  pub there : slice_get rows f.number ≡ Some (at_least_0 f.poly)
  pub fits : Fits f.poly

factors_there : (all rows : List PRow) (n : ℕ) → ((i : ℕ) → slice_get all (n + i) ≡ slice_get rows i) → AreFit rows → AllByRecursion (IsFactor all) (factors_from n rows)
factors_there all [] n h f = tt
factors_there all (r ∷ rows) n h f = by_op r.op refl (factors_there all rows (n + 1) next f.1)
  where
    next : (i : ℕ) → slice_get all (n + 1 + i) ≡ slice_get rows i
    next i = let e : n + 1 + i ≡ n + suc i = omega arith in ap (slice_get all) e ∙ h (suc i)

    here : r.op ≡ Ge → slice_get all n ≡ Some (at_least_0 r.poly)
    here e = let z : n ≡ n + 0 = omega arith in ap (slice_get all) z ∙ h 0 ∙ ap (λ (q : PRow). Some q) (row_same r (at_least_0 r.poly) refl e)

    by_op : (o : Op) → r.op ≡ o → AllByRecursion (IsFactor all) (factors_from (n + 1) rows)
        → AllByRecursion (IsFactor all) (with_factor o (record { number = n; poly = r.poly }) (factors_from (n + 1) rows))
    by_op Ge e rest = (record { there = here e; fits = f.0 }, rest)
    by_op Eq e rest = rest

pub factors_are : (rows : List PRow) → AreFit rows → AllByRecursion (IsFactor rows) (factors_of rows)
factors_are rows f = each_taken (IsFactor rows) 20 (factors_from 0 rows) (factors_there rows rows 0 (λ i. ap (slice_get rows) (zero-add i)) f)

-- ---- pairs

abbrev pub AreBoth : (Factor → Type 0) → Factor × Factor → Type 0
AreBoth P p = P p.0 × P p.1

each_pair : (P : Factor → Type 0) (fs : List Factor) → AllByRecursion P fs → AllByRecursion (AreBoth P) (pairs fs)
each_pair P [] h = tt
each_pair P (f ∷ fs) h =
    all_join (AreBoth P) (pairs_with f (f ∷ fs)) (pairs fs) (each_made (AreBoth P) P (λ g. (f, g)) (λ g k. (h.0, k)) (f ∷ fs) h) (each_pair P fs h.1)

abbrev pub IsProduct : List PRow → Factor × Factor → Type 0
IsProduct rows p = AreBoth (IsFactor rows) p × (pair_has_room p ≡ true)

pub products_are : (rows : List PRow) → AreFit rows → AllByRecursion (IsProduct rows) (products_of rows)
products_are rows f = each_passed (AreBoth (IsFactor rows)) pair_has_room (pairs (factors_of rows)) (each_pair (IsFactor rows) (factors_of rows) (factors_are rows f))

-- ---- room

pub record IsRoomy (p q : List Term) : Type 0 where
  pub norm : norm p * norm q < 2 ^ 100
  pub spread : spread p * spread q ≤ 4096
  pub degree : degree p + degree q ≤ 8

pub roomy : (p q : List Term) → has_room p q ≡ true → IsRoomy p q
roomy p q h =
    let a = and_parts (nat_lt (norm p * norm q) (2 ^ 100)) (nat_le (spread p * spread q) 4096 && nat_le (degree p + degree q) 8) h in
    let b = and_parts (nat_le (spread p * spread q) 4096) (nat_le (degree p + degree q) 8) a.1 in
    record { norm = is_below (norm p * norm q) (2 ^ 100) a.0; spread = leb-true (spread p * spread q) 4096 b.0; degree = leb-true (degree p + degree q) 8 b.1 }

smaller : (n : ℕ) → n < 2 ^ 100 → n < 2 ^ 126
smaller n h = omega arith

fewer : (n : ℕ) → n ≤ 4096 → n ≤ 65536
fewer n h = omega arith

lower : (n : ℕ) → n ≤ 8 → n ≤ 255
lower n h = omega arith

pub room_for : (p q : List Term) → has_room p q ≡ true → ProductHasRoom p q
room_for p q h =
    let r = roomy p q h in
    record { norm = smaller (norm p * norm q) r.norm; spread = fewer (spread p * spread q) r.spread; degree = lower (degree p + degree q) r.degree }

room_within : (p q : List Term) → has_room p q ≡ true → are_within (product_bounds (own_bounds p) (own_bounds q)) ≡ true
room_within p q h =
    let r = roomy p q h in
    within_limits (product_bounds (own_bounds p) (own_bounds q)) (smaller (norm p * norm q) r.norm) (fewer (spread p * spread q) r.spread) (lower (degree p + degree q) r.degree)

pub product_bounded : (rows : List PRow) (p : Factor × Factor) → IsProduct rows p → IsBounded (pair_source p) rows (pair_row p) (product_bounds (own_bounds p.0.poly) (own_bounds p.1.poly))
product_bounded rows p h =
    let f = h.0.0 in
    let g = h.0.1 in
    mul_bounded (Hyp p.0.number) (Hyp p.1.number) rows (at_least_0 p.0.poly) (at_least_0 p.1.poly) (own_bounds p.0.poly) (own_bounds p.1.poly)
    (hyp_bounded rows p.0.number (at_least_0 p.0.poly) f.there f.fits) (hyp_bounded rows p.1.number (at_least_0 p.1.poly) g.there g.fits) (room_within p.0.poly p.1.poly h.1)

-- ---- how the code makes them

-- 20 inequalities are the first 20
pub full : (fs : List Numbered) (gs all : List Factor) → lent_factors fs ++ gs ≡ all → length fs ≡ 20 → lent_factors fs ≡ take 20 all
full fs gs all e l = sym (ap (take 20) (sym e) ∙ take_at (lent_factors fs) gs 20 (length-map fs factor_of ∙ l))

-- the pairs from a place on: those of the factor there, and those of what is behind it
pub pairs_at : (fs : List Numbered) (n : ℕ) (f : Numbered) → n < length fs → f ≡ get_or fs n f
    → pairs (lent_factors (drop n fs)) ≡ pairs_with (factor_of f) (lent_factors (take (length fs - n) (drop n fs))) ++ pairs (lent_factors (drop (n + 1) fs))
pairs_at fs n f l e =
    let here : drop n fs ≡ f ∷ drop (n + 1) fs = drop_more fs n f l ∙ ap (λ (g : Numbered). g ∷ drop (n + 1) fs) (sym e) in
    let end : take (length fs - n) (drop n fs) ≡ drop n fs = (let k = length-drop n fs in take_all (length fs - n) (drop n fs) (omega (arith, k))) in
    ap (λ (gs : List Numbered). pairs (lent_factors gs)) here
    ∙ ap (λ (gs : List Numbered). pairs_with (factor_of f) (lent_factors gs) ++ pairs (lent_factors (drop (n + 1) fs))) (sym (end ∙ here))

-- what some of the pairs give, and then what the others do
pub given_more : {B : Type 0} → (make : Factor × Factor → B) (out next whole : List B) (all some others : List (Factor × Factor))
    → out ++ map make (filter pair_has_room all) ≡ whole → all ≡ some ++ others → next ≡ out ++ map make (filter pair_has_room some)
    → next ++ map make (filter pair_has_room others) ≡ whole
given_more make out next whole all some others w a n =
    ap (λ q. q ++ map make (filter pair_has_room others)) n
    ∙ append_assoc out (map make (filter pair_has_room some)) (map make (filter pair_has_room others))
    ∙ ap (λ q. out ++ q) (sym (map-append make (filter pair_has_room some) (filter pair_has_room others)) ∙ ap (map make) (sym (filter-append pair_has_room some others)))
    ∙ ap (λ q. out ++ map make (filter pair_has_room q)) (sym a)
    ∙ w
