-- The step that puts a value for a variable makes its row, within the bounds; and one step after another.
use Rattle.std.specs.Prelude.{◌≡◌, ℕ, zero, suc, ◌+◌, ◌-◌, ◌*◌, ◌^◌, ◌<◌, ◌≤◌, ℤ, neg_ℤ, unsigned_abs, List, [], ◌∷◌, ◌++◌, length, take, true, false, Option, Some, slice_get, refl}
use Rattle.std.proofs.Common.{ap, sym, ◌∙◌, subst, arith, get_or, length-append}
use Rattle.std.proofs.lemmas.Int.{ints}
use Rattle.std.proofs.lemmas.Bool.{and_parts, and_from}
use Rattle.std.proofs.Math.Nat.{mul-le-mul_left, mul-le-mul}
use Rattle.std.proofs.lemmas.List.{get_or_default}
use Rattle.std.specs.Option.{option_map_or}
use Rattle.std.specs.List.{AllByRecursion}
use Rattle.mm_num.proofs.ListLaws.{all_split}
use Rattle.mm_poly.specs.declared.term.Term.{Term}
use Rattle.mm_poly.specs.Poly.{norm, spread, degree, IsPoly, AllMono, times, variable_of, constant_of}
use Rattle.mm_poly.proofs.BoundLaws.{norm_plus, norm_with, spread_plus, spread_with, degree_plus, degree_with}
use Rattle.cert_kit.specs.declared.row.Op.{Op}
use Rattle.cert_kit.specs.declared.row.Op.TheVariants.{Ge, Eq}
use Rattle.cert_kit.specs.declared.row.PRow.{PRow}
use Rattle.cert_kit.specs.declared.cert.Psatz.{Psatz}
use Rattle.cert_kit.specs.declared.cert.Psatz.TheVariants.{Hyp, MulPoly, Add}
use Rattle.cert_kit.specs.declared.cert.Step.{Step}
use Rattle.cert_kit.specs.declared.bounds.Bounds.{Bounds}
use Rattle.cert_kit.specs.Depth.{has_constants_in_range, step_in_range, steps_depth, steps_in_range}
use Rattle.cert_kit.specs.Acceptance.{with_row, value_row}
use Rattle.cert_kit.specs.Making.{Makes}
use Rattle.cert_kit.specs.Meaning.{Measure, measure_of, own_bounds, no_bounds, product_bounds, sum_bounds, are_within, sum_op, sum_row, equal_to_0}
use Rattle.cert_kit.proofs.FormLaws.{hyp_means, hyp_measures}
use Rattle.cert_kit.proofs.RowOrderLaws.{row_same}
use Rattle.cert_kit.proofs.BoundedLaws.{IsBounded, within_limits, hyp_bounded, mulp_bounded, add_bounded}
use Rattle.cert_kit.proofs.FlatLaws.{IsFlat, flat_hyp, flat_mulp, flat_add}
use Rattle.cert_kit.proofs.MakerLaws.{makes_none, makes_rat, makes_both}
use Rattle.box_enum.specs.declared.numbered.Numbered.{Numbered}
use Rattle.box_enum.specs.declared.numbered.Choice.{Choice}
use Rattle.box_enum.specs.machine.Putting.{put_value, put_all, has_variable, cofactor, difference, weight, IsTame, StandsChosen, IsWithinReach, row_left, put_step, Puts}
use Rattle.box_enum.proofs.CofactorLaws.{put_is}
use Rattle.box_enum.proofs.PutBoundLaws.{norm_below, norm_cofactor, spread_cofactor, degree_cofactor, degree_from_one, reach_below}
use Rattle.box_enum.proofs.PutLaws.{put_tame, put_unused}

-- ---- the row of a choice

norm_difference : (x : ℕ) (v : ℤ) → norm (difference x v) ≤ 1 + unsigned_abs v
norm_difference x v =
    let n : unsigned_abs (neg_ℤ v) ≡ unsigned_abs v = omega (arith, ints) in
    omega (arith, norm_plus (variable_of x) (constant_of (neg_ℤ v)), norm_with (neg_ℤ v) [] [], n)

spread_difference : (x : ℕ) (v : ℤ) → spread (difference x v) ≤ 2
spread_difference x v = omega (arith, spread_plus (variable_of x) (constant_of (neg_ℤ v)), spread_with (neg_ℤ v) [] [])

degree_difference : (x : ℕ) (v : ℤ) → degree (difference x v) ≤ 1
degree_difference x v = omega (arith, degree_plus (variable_of x) (constant_of (neg_ℤ v)), degree_with (neg_ℤ v) [] [])

hyp_within : (rows : List PRow) (n : ℕ) (r : PRow) → slice_get rows n ≡ Some r → are_within (own_bounds r.poly) ≡ true → IsBounded (Hyp n) rows r (own_bounds r.poly)
hyp_within rows n r here w =
    let e = hyp_measures n rows ∙ ap (λ (o : Option PRow). measure_of (option_map_or (λ (q : PRow). own_bounds q.poly) o no_bounds) true) here in
    record { means = hyp_means n rows ∙ here; bounds = ap (λ (m : Measure). m.bounds) e; within = ap (λ (m : Measure). m.within) e ∙ w }

-- ---- the step

-- the bounds that the step's nodes need
pub record HasRoom (b : ℕ) (c : Choice) (p : List Term) : Type 0 where
  pub reach : 1 + b < 2 ^ 100
  pub norm : norm (cofactor c.variable c.value p) * norm (difference c.variable c.value) < 2 ^ 100
  pub spread : spread p + spread (cofactor c.variable c.value p) * spread (difference c.variable c.value) ≤ 65536
  pub degree : degree (cofactor c.variable c.value p) + degree (difference c.variable c.value) ≤ degree p

small_product : (q n b w : ℕ) → n ≤ 1 + b → q * (1 + b) ≤ w → q * n ≤ w
small_product q n b w h k = let s = mul-le-mul_left q h in omega (arith, s, k)

spread_room : (p q s d : ℕ) → q ≤ p * d → s ≤ 2 → p * (2 * d + 1) ≤ 65536 → p + q * s ≤ 65536
spread_room p q s d h k l =
    let t : q * s ≤ (p * d) * 2 = mul-le-mul h k in
    omega (arith, t, l)

degree_room : (b : ℕ) (c : Choice) (p : List Term) → IsTame b p → has_variable c.variable p ≡ true → degree (cofactor c.variable c.value p) + degree (difference c.variable c.value) ≤ degree p
degree_room b c p t h =
    let one = degree_from_one c.variable p t.monos h in
    omega (arith, one, degree_cofactor (degree p - 1) c.variable c.value p t.monos (omega (arith, one)), degree_difference c.variable c.value)

pub has_room : (b : ℕ) (c : Choice) (p : List Term) → IsTame b p → IsWithinReach b c → has_variable c.variable p ≡ true → HasRoom b c p
has_room b c p t h o =
    let f = t.fits in
    let w : weight b p < 2 ^ 100 = t.weight in
    let s : spread p * (2 * degree p + 1) ≤ 65536 = t.spread in
    let n : norm (difference c.variable c.value) ≤ 1 + b = omega (arith, norm_difference c.variable c.value, h) in
    record {
      reach = omega (arith, reach_below b c.variable p f.order t.monos o, w);
      norm = omega (arith, small_product (norm (cofactor c.variable c.value p)) (norm (difference c.variable c.value)) b (weight b p) n (norm_cofactor b c.variable c.value p h t.monos), w);
      spread = spread_room (spread p) (spread (cofactor c.variable c.value p)) (spread (difference c.variable c.value)) (degree p)
          (spread_cofactor c.variable c.value p t.monos) (spread_difference c.variable c.value) s;
      degree = degree_room b c p t o;
    }

sum_op_same : (o : Op) → sum_op o Eq ≡ o
sum_op_same Ge = refl
sum_op_same Eq = refl

abbrev put_expression : ℕ → Choice → List Term → Psatz
put_expression number c p = Add (Hyp number) (MulPoly (cofactor c.variable c.value p) (Hyp c.row))

sum_left : (r : PRow) (c : Choice) → IsPoly r.poly → AllMono r.poly
    → sum_row r (equal_to_0 (times (cofactor c.variable c.value r.poly) (difference c.variable c.value))) ≡ row_left r c
sum_left r c p a = row_same (sum_row r (equal_to_0 (times (cofactor c.variable c.value r.poly) (difference c.variable c.value)))) (row_left r c)
    (put_is c.variable c.value r.poly p a) (sum_op_same r.op)

abbrev multiple_bounds : Choice → List Term → Bounds
multiple_bounds c p = product_bounds (own_bounds (cofactor c.variable c.value p)) (own_bounds (difference c.variable c.value))

put_bounded : (b : ℕ) (rows : List PRow) (r : PRow) (number : ℕ) (c : Choice) → slice_get rows number ≡ Some r → StandsChosen rows c → IsTame b r.poly → IsWithinReach b c
    → has_variable c.variable r.poly ≡ true
    → IsBounded (put_expression number c r.poly) rows (sum_row r (equal_to_0 (times (cofactor c.variable c.value r.poly) (difference c.variable c.value))))
    (sum_bounds (own_bounds r.poly) (multiple_bounds c r.poly))
put_bounded b rows r number c here chosen t h o =
    let f = t.fits in
    let m = has_room b c r.poly t h o in
    let reach : 1 + b < 2 ^ 100 = m.reach in
    let n : norm (cofactor c.variable c.value r.poly) * norm (difference c.variable c.value) < 2 ^ 100 = m.norm in
    let s : spread r.poly + spread (cofactor c.variable c.value r.poly) * spread (difference c.variable c.value) ≤ 65536 = m.spread in
    let d : degree (cofactor c.variable c.value r.poly) + degree (difference c.variable c.value) ≤ degree r.poly = m.degree in
    let weighs : weight b r.poly < 2 ^ 100 = t.weight in
    let choice = hyp_within rows c.row (value_row (variable_of c.variable) c.value) chosen
    (within_limits (own_bounds (difference c.variable c.value)) (omega (arith, norm_difference c.variable c.value, h, reach))
    (omega (arith, spread_difference c.variable c.value)) (omega (arith, degree_difference c.variable c.value))) in
    let multiple = mulp_bounded (cofactor c.variable c.value r.poly) (Hyp c.row) rows (value_row (variable_of c.variable) c.value) (own_bounds (difference c.variable c.value)) choice refl
    (within_limits (multiple_bounds c r.poly) (omega (arith, n)) (omega (arith, s)) (omega (arith, d, f.degree))) in
    add_bounded (Hyp number) (MulPoly (cofactor c.variable c.value r.poly) (Hyp c.row)) rows r
    (equal_to_0 (times (cofactor c.variable c.value r.poly) (difference c.variable c.value))) (own_bounds r.poly) (multiple_bounds c r.poly)
    (hyp_bounded rows number r here f) multiple
    (within_limits (sum_bounds (own_bounds r.poly) (multiple_bounds c r.poly)) (omega (arith, norm_below b r.poly, weighs, n)) (omega (arith, s)) (omega (arith, d, f.degree)))

-- the step makes what is left
pub put_makes : (b : ℕ) (rows : List PRow) (r : PRow) (number : ℕ) (c : Choice) → slice_get rows number ≡ Some r → StandsChosen rows c → IsTame b r.poly → IsWithinReach b c
    → has_variable c.variable r.poly ≡ true → Makes rows (put_step number c r.poly ∷ []) (with_row rows (row_left r c))
put_makes b rows r number c here chosen t h o =
    let f = t.fits in
    let q = put_bounded b rows r number c here chosen t h o in
    makes_rat rows (put_expression number c r.poly) (row_left r c) (q.means ∙ ap (λ (s : PRow). Some s) (sum_left r c f.order t.monos)) q.within

pub put_flat : (number : ℕ) (c : Choice) (p : List Term) → IsFlat 2 (put_expression number c p)
put_flat number c p =
    flat_add (Hyp number) (MulPoly (cofactor c.variable c.value p) (Hyp c.row)) 1 (flat_hyp number 1)
    (flat_mulp (cofactor c.variable c.value p) (Hyp c.row) 0 (flat_hyp c.row 0))

-- ---- rows that stand where more rows are appended

get_front : {A : Type 0} (xs ys : List A) (n : ℕ) (x : A) → slice_get xs n ≡ Some x → slice_get (xs ++ ys) n ≡ Some x
get_front [] ys n x e = absurd cc
get_front (a ∷ xs) ys zero x e = e
get_front (a ∷ xs) ys (suc n) x e = get_front xs ys n x e

get_last : {A : Type 0} (xs : List A) (x : A) → slice_get (xs ++ x ∷ []) (length xs) ≡ Some x
get_last [] x = refl
get_last (a ∷ xs) x = get_last xs x

assoc : {A : Type 0} (xs ys zs : List A) → (xs ++ ys) ++ zs ≡ xs ++ (ys ++ zs)
assoc [] ys zs = refl
assoc (x ∷ xs) ys zs = ap (λ (r : List _). x ∷ r) (assoc xs ys zs)

append_nil : {A : Type 0} (xs : List A) → xs ++ [] ≡ xs
append_nil [] = refl
append_nil (x ∷ xs) = ap (λ (r : List _). x ∷ r) (append_nil xs)

-- ---- one choice after another

pub put_all_more : (cs : List Choice) (c : Choice) (p : List Term) → put_all (cs ++ c ∷ []) p ≡ put_value c.variable c.value (put_all cs p)
put_all_more [] c p = refl
put_all_more (d ∷ cs) c p = put_all_more cs c (put_value d.variable d.value p)

flat_more : (steps : List Step) (number : ℕ) (c : Choice) (p : List Term) → steps_depth steps ≤ 2 → steps_depth (steps ++ put_step number c p ∷ []) ≤ 2
flat_more [] number c p h = let f = (put_flat number c p).depth in omega (arith, f)
flat_more (s ∷ steps) number c p h = omega (arith, flat_more steps number c p (omega (arith, h)))

range_more : (steps : List Step) (number : ℕ) (c : Choice) (p : List Term) → steps_in_range steps ≡ true → steps_in_range (steps ++ put_step number c p ∷ []) ≡ true
range_more [] number c p h = and_from (has_constants_in_range (put_expression number c p)) true (put_flat number c p).constants refl
range_more (s ∷ steps) number c p h =
    let b = and_parts (step_in_range s) (steps_in_range steps) h in
    and_from (step_in_range s) (steps_in_range (steps ++ put_step number c p ∷ [])) b.0 (range_more steps number c p b.1)

-- the row that is left, after one choice more
left_by : (cs : List Choice) (c : Choice) (from left : PRow) (new : PRow) → left ≡ record { poly = put_all cs from.poly; op = from.op } → new ≡ row_left left c
    → new ≡ record { poly = put_all (cs ++ c ∷ []) from.poly; op = from.op }
left_by cs c from left new e f =
    f ∙ row_same (row_left left c) (record { poly = put_all (cs ++ c ∷ []) from.poly; op = from.op })
    (ap (λ (r : PRow). put_value c.variable c.value r.poly) e ∙ sym (put_all_more cs c from.poly)) (ap (λ (r : PRow). r.op) e)

-- nothing put yet
pub puts_none : (steps : List Step) (count : ℕ) (from left : Numbered) → left.row ≡ from.row → left.number ≡ from.number → Puts steps steps count from [] left
puts_none steps count from left e f = record {
  row = e;
  steps = record { more = []; is = sym (append_nil steps); few = omega arith; flat = omega arith; constants = refl };
  makes = λ rows l stands all. (
    [],
    subst (λ (rs : List PRow). Makes rows [] rs) (sym (append_nil rows)) (makes_none rows),
    get_front rows [] left.number left.row (ap (λ n. slice_get rows n) f ∙ stands ∙ ap (λ (r : PRow). Some r) (sym e)),
    ap (λ (rs : List PRow). length rs) (append_nil rows) ∙ omega (arith, l),
  );
}

longer : (cs : List Choice) (c : Choice) → length (cs ++ c ∷ []) ≡ length cs + 1
longer cs c = length-append cs (c ∷ [])

-- a choice whose variable doesn't occur
pub puts_same : (b : ℕ) (before after : List Step) (count : ℕ) (from left : Numbered) (cs : List Choice) (c : Choice) → Puts before after count from cs left
    → IsTame b left.row.poly → has_variable c.variable left.row.poly ≡ false → Puts before after count from (cs ++ c ∷ []) left
puts_same b before after count from left cs c p t h =
    let f = t.fits in
    let s = p.steps in
    record {
      row = left_by cs c from.row left.row left.row p.row (row_same left.row (row_left left.row c) (sym (put_unused c.variable c.value left.row.poly f.order t.monos h)) refl);
      steps = record { more = s.more; is = s.is; few = omega (arith, s.few, longer cs c); flat = s.flat; constants = s.constants };
      makes = λ rows l stands all. p.makes rows l stands (all_split (StandsChosen rows) cs (c ∷ []) all).0;
    }

-- a choice whose value is put
pub puts_more : (b : ℕ) (before after new : List Step) (count : ℕ) (from left next : Numbered) (cs : List Choice) (c : Choice) (p : Puts before after count from cs left)
    → IsTame b left.row.poly → IsWithinReach b c → has_variable c.variable left.row.poly ≡ true → new ≡ after ++ put_step left.number c left.row.poly ∷ []
    → next.row ≡ row_left left.row c → next.number ≡ count + length p.steps.more → Puts before new count from (cs ++ c ∷ []) next
puts_more b before after new count from left next cs c p t h o e f n =
    let s = p.steps in
    let step = put_step left.number c left.row.poly in
    record {
      row = left_by cs c from.row left.row next.row p.row f;
      steps = record {
        more = s.more ++ step ∷ [];
        is = e ∙ ap (λ (r : List Step). r ++ step ∷ []) s.is ∙ assoc before s.more (step ∷ []);
        few = omega (arith, s.few, longer cs c, length-append s.more (step ∷ []));
        flat = flat_more s.more left.number c left.row.poly s.flat;
        constants = range_more s.more left.number c left.row.poly s.constants;
      };
      makes = λ rows l stands all.
          let parts = all_split (StandsChosen rows) cs (c ∷ []) all in
          let q = p.makes rows l stands parts.0 in
          let r = row_left left.row c in
          let one = put_makes b (rows ++ q.0) left.row left.number c q.2 (get_front rows q.0 c.row (value_row (variable_of c.variable) c.value) parts.1.0) t h o in
          let both = makes_both rows (rows ++ q.0) (with_row (rows ++ q.0) r) s.more (step ∷ []) q.1 one in
          let here : slice_get ((rows ++ q.0) ++ r ∷ []) next.number ≡ Some next.row =
          ap (λ k. slice_get ((rows ++ q.0) ++ r ∷ []) k) (n ∙ sym q.3) ∙ get_last (rows ++ q.0) r ∙ ap (λ (x : PRow). Some x) (sym f) in (
            q.0 ++ r ∷ [],
            subst (λ (rs : List PRow). Makes rows (s.more ++ step ∷ []) rs) (assoc rows q.0 (r ∷ [])) both,
            subst (λ (rs : List PRow). slice_get rs next.number ≡ Some next.row) (assoc rows q.0 (r ∷ [])) here,
            ap (λ (rs : List PRow). length rs) (sym (assoc rows q.0 (r ∷ []))) ∙ omega (arith, length-append (rows ++ q.0) (r ∷ []), q.3, length-append s.more (step ∷ [])),
          );
    }

-- ---- the loop over the choices

pub take_more : (cs : List Choice) (n : ℕ) (c : Choice) → n < length cs → c ≡ get_or cs n c → take (n + 1) cs ≡ take n cs ++ c ∷ []
take_more [] n c l i = absurd (omega arith)
take_more (d ∷ cs) zero c l i = ap (λ (x : Choice). x ∷ []) (sym i)
take_more (d ∷ cs) (suc n) c l i = let s : suc n + 1 ≡ suc (n + 1) = omega arith in rw s (ap (λ (r : List Choice). d ∷ r) (take_more cs n c (omega arith) i))

pub within_at : (b : ℕ) (cs : List Choice) (n : ℕ) (c : Choice) → AllByRecursion (IsWithinReach b) cs → n < length cs → c ≡ get_or cs n c → IsWithinReach b c
within_at b [] n c a l i = absurd (omega arith)
within_at b (d ∷ cs) zero c a l i = subst (λ (x : Choice). IsWithinReach b x) (sym i) a.0
within_at b (d ∷ cs) (suc n) c a l i = within_at b cs n c a.1 (omega arith) i

-- what is put so far, and the number of the row that the next step makes
pub record Putting (b : ℕ) (before after : List Step) (count : ℕ) (from : Numbered) (cs : List Choice) (left : Numbered) (next : ℕ) : Type 0 where
  pub puts : Puts before after count from cs left
  pub tame : IsTame b left.row.poly
  pub number : next ≡ count + length puts.steps.more

-- one choice more in a list of them
one_choice : (b : ℕ) (before after : List Step) (count : ℕ) (from left : Numbered) (cs : List Choice) (n : ℕ) (c : Choice) (next : ℕ) → n < length cs → c ≡ get_or cs n c
    → Putting b before after count from (take n cs ++ c ∷ []) left next → Putting b before after count from (take (n + 1) cs) left next
one_choice b before after count from left cs n c next l i p = subst (λ (ds : List Choice). Putting b before after count from ds left next) (sym (take_more cs n c l i)) p

pub begin : (b : ℕ) (steps : List Step) (count : ℕ) (from left : Numbered) → left ≡ from → IsTame b from.row.poly → Putting b steps steps count from [] left count
unfolding puts_none
begin b steps count from left e t = record {
  puts = puts_none steps count from left (ap (λ (m : Numbered). m.row) e) (ap (λ (m : Numbered). m.number) e);
  tame = subst (λ (m : Numbered). IsTame b m.row.poly) (sym e) t;
  number = omega arith;
}

pub pass : (b : ℕ) (before after : List Step) (count : ℕ) (from left : Numbered) (cs : List Choice) (n : ℕ) (d : Choice) (next : ℕ)
    → Putting b before after count from (take n cs) left next → n < length cs → has_variable (get_or cs n d).variable left.row.poly ≡ false
    → Putting b before after count from (take (n + 1) cs) left next
unfolding puts_same
pass b before after count from left cs n d next p l h =
    let c = get_or cs n d in
    one_choice b before after count from left cs n c next l (get_or_default cs n d c l)
    (record { puts = puts_same b before after count from left (take n cs) c p.puts p.tame h; tame = p.tame; number = p.number })

pub put : (b : ℕ) (before after new : List Step) (count : ℕ) (from left then : Numbered) (cs : List Choice) (n : ℕ) (d : Choice) (next : ℕ)
    → Putting b before after count from (take n cs) left next → n < length cs → AllByRecursion (IsWithinReach b) cs → has_variable (get_or cs n d).variable left.row.poly ≡ true
    → new ≡ after ++ put_step left.number (get_or cs n d) left.row.poly ∷ [] → then.row ≡ row_left left.row (get_or cs n d) → then.number ≡ next
    → Putting b before new count from (take (n + 1) cs) then (next + 1)
unfolding puts_more
put b before after new count from left then cs n d next p l a h e f g =
    let c = get_or cs n d in
    let i : c ≡ get_or cs n c = get_or_default cs n d c l in
    let within = within_at b cs n c a l i in
    let s = p.puts.steps in
    one_choice b before new count from then cs n c (next + 1) l i
    (record {
      puts = puts_more b before after new count from left then (take n cs) c p.puts p.tame within h e f (g ∙ p.number);
      tame = subst (λ (r : PRow). IsTame b r.poly) (sym f) (put_tame b c.variable c.value left.row.poly p.tame within);
      number = omega (arith, p.number, length-append s.more (put_step left.number c left.row.poly ∷ []));
    })
