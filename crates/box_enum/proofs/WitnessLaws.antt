-- The rows of a wall's witnesses: what they mean, and which bounds their cuts give.
use Rattle.std.specs.Prelude.{◌≡◌, ℕ, zero, suc, ◌+◌, ◌-◌, ◌*◌, ◌^◌, ◌<◌, ◌≤◌, ◌⊎◌, ℤ, pos, negsuc, neg_ℤ, unsigned_abs, nat_eq, List, [], ◌∷◌, ◌++◌, map, length, drop, Bool, true, false, ◌&&◌, cond, Option, Some, None, slice_get, refl}
use Rattle.std.proofs.Common.{inl, inr, ap, sym, ◌∙◌, subst, arith, get_or, append_assoc}
use Rattle.std.proofs.lemmas.Int.{ints}
use Rattle.std.proofs.lemmas.Bool.{and_parts}
use Rattle.std.proofs.lemmas.Option.{same_Some, slice_get_read}
use Rattle.std.specs.Int.{int_min, int_max}
use Rattle.std.specs.Ordering.{int_eq, is_eq}
use Rattle.std.specs.declared.cmp.Ordering.{Ordering}
use Rattle.std.specs.declared.cmp.Ordering.TheVariants.{Less, Equal, Greater}
use Rattle.std.specs.List.{AllByRecursion}
use Rattle.mm_num.specs.Option.{◌>>=◌}
use Rattle.mm_num.proofs.OptionLaws.{bind_some}
use Rattle.mm_num.proofs.TestLaws.{is_int}
use Rattle.mm_poly.specs.declared.term.Term.{Term}
use Rattle.mm_poly.specs.Mono.{mono_cmp}
use Rattle.mm_poly.specs.Poly.{Fits, norm, spread, degree, plus, times, scaled, constant_of, variable_of, constant_part, without_constant, is_opposite}
use Rattle.mm_poly.proofs.CaseLaws.{by_if}
use Rattle.mm_poly.proofs.OrderLaws.{mono_exact, mono_same}
use Rattle.mm_poly.proofs.SumLaws.{plus_nil}
use Rattle.mm_poly.proofs.PolyLaws.{poly_scaled}
use Rattle.mm_poly.proofs.ConstantLaws.{times_constant}
use Rattle.cert_kit.specs.declared.row.Op.{Op}
use Rattle.cert_kit.specs.declared.row.Op.TheVariants.{Ge, Eq}
use Rattle.cert_kit.specs.declared.row.PRow.{PRow}
use Rattle.cert_kit.specs.declared.bounds.Bounds.{Bounds}
use Rattle.cert_kit.specs.declared.cert.Psatz.TheVariants.{Hyp, Square, MulPoly}
use Rattle.cert_kit.specs.Meaning.{own_bounds, no_bounds, product_bounds, sum_bounds, are_within, sum_op, sum_row, at_least_0, equal_to_0}
use Rattle.cert_kit.specs.Acceptance.{Range, range_between, range_by}
use Rattle.cert_kit.specs.Cut.{contradiction, cut_of}
use Rattle.cert_kit.proofs.CutLaws.{cut_of_least}
use Rattle.cert_kit.proofs.BoundedLaws.{IsBounded, within_limits, hyp_bounded, mulp_bounded, add_bounded, nothing_bounded}
use Rattle.box_enum.specs.declared.reading.Reading.{Reading}
use Rattle.box_enum.specs.declared.wall.Witness.{Witness}
use Rattle.box_enum.specs.declared.wall.Witness.TheVariants as witnesses
use Rattle.box_enum.specs.declared.wall.Wall.{Wall}
use Rattle.box_enum.specs.Box.{is_multiple_of, is_shifted, lower_by, upper_by}
use Rattle.box_enum.specs.machine.Places.{wall_range, Witnesses, StandsWall}
use Rattle.box_enum.specs.machine.Walling.{lower_witness, upper_witness}
use Rattle.box_enum.proofs.OppositeRowLaws.{IsOpposite, least_cut, CutsBoth, equality_cuts}
use Rattle.box_enum.proofs.PlainLaws.{is_equal}

-- ---- what the rows mean

weak_op : (o : Op) → sum_op o Ge ≡ Ge
weak_op Ge = refl
weak_op Eq = refl

weak_row : (p q : List Term) (o k : Op) → p ≡ q → o ≡ k → let a : PRow = record { poly = p; op = o } in let b : PRow = record { poly = q; op = k } in a ≡ b
weak_row p q o k e f = ap (λ (a : List Term). let r : PRow = record { poly = a; op = o } in r) e ∙ ap (λ (a : Op). let r : PRow = record { poly = q; op = a } in r) f

row_witness : (rows : List PRow) (n : ℕ) (r : PRow) → slice_get rows n ≡ Some r → Fits r.poly → Witnesses rows (witnesses.Row n) r
row_witness rows n r here f = let h = hyp_bounded rows n r here f in record { means = h.means; within = h.within }

sum_witness : (rows : List PRow) (n : ℕ) (r : PRow) → slice_get rows n ≡ Some r → Fits r.poly → Witnesses rows (witnesses.Sum n) (at_least_0 r.poly)
sum_witness rows n r here f =
    let w : are_within (sum_bounds (own_bounds r.poly) no_bounds) ≡ true =
    within_limits (sum_bounds (own_bounds r.poly) no_bounds) (omega (arith, f.norm)) (omega (arith, f.spread)) (omega (arith, f.degree)) in
    let a = add_bounded (Hyp n) (Square []) rows r (at_least_0 []) (own_bounds r.poly) no_bounds (hyp_bounded rows n r here f) (nothing_bounded rows) w in
    record { means = a.means ∙ ap (λ (q : PRow). Some q) (weak_row (plus r.poly []) r.poly (sum_op r.op Ge) Ge (plus_nil r.poly f.order) (weak_op r.op)); within = a.within }

opposite_witness : (rows : List PRow) (n : ℕ) (r : PRow) → slice_get rows n ≡ Some r → Fits r.poly → r.op ≡ Eq → Witnesses rows (witnesses.Opposite n) (at_least_0 (scaled (negsuc 0) r.poly))
opposite_witness rows n r here f o =
    let k : List Term = constant_of (negsuc 0) in
    let b : Bounds = product_bounds (own_bounds k) (own_bounds r.poly) in
    let n1 : 1 * norm r.poly < 2 ^ 126 = omega (arith, f.norm) in
    let s1 : 1 * spread r.poly ≤ 65536 = omega (arith, f.spread) in
    let d1 : 0 + degree r.poly ≤ 255 = omega (arith, f.degree) in
    let m = mulp_bounded k (Hyp n) rows r (own_bounds r.poly) (hyp_bounded rows n r here f) o (within_limits b n1 s1 d1) in
    let n2 : 1 * norm r.poly + 0 < 2 ^ 126 = omega (arith, f.norm) in
    let s2 : 1 * spread r.poly + 0 ≤ 65536 = omega (arith, f.spread) in
    let w : are_within (sum_bounds b no_bounds) ≡ true = within_limits (sum_bounds b no_bounds) n2 s2 (omega (arith, f.degree)) in
    let a = add_bounded (MulPoly k (Hyp n)) (Square []) rows (equal_to_0 (times k r.poly)) (at_least_0 []) b no_bounds m (nothing_bounded rows) w in
    let e : times k r.poly ≡ scaled (negsuc 0) r.poly = times_constant (negsuc 0) r.poly (λ z. absurd cc) f.order in
    record {
      means = a.means ∙ ap (λ (q : PRow). Some q) (weak_row (plus (times k r.poly) []) (scaled (negsuc 0) r.poly) Ge Ge
          (ap (λ (p : List Term). plus p []) e ∙ plus_nil (scaled (negsuc 0) r.poly) (poly_scaled (negsuc 0) r.poly f.order)) refl);
      within = a.within;
    }

-- ---- one unknown

abbrev multiple : ℕ → ℤ → List Term
multiple x c = record { coeff = c; mono = (x, 1) ∷ [] } ∷ []

term_is : (c d : ℤ) (m k : List (ℕ × ℕ)) → c ≡ d → m ≡ k → let a : Term = record { coeff = c; mono = m } in let b : Term = record { coeff = d; mono = k } in a ∷ [] ≡ b ∷ []
term_is c d m k e f = ap (λ (a : ℤ). let t : Term = record { coeff = a; mono = m } in t ∷ []) e ∙ ap (λ (a : List (ℕ × ℕ)). let t : Term = record { coeff = d; mono = a } in t ∷ []) f

multiple_is : (x : ℕ) (c : ℤ) (us : List Term) → is_multiple_of x c us ≡ true → us ≡ multiple x c
multiple_is x c [] h = absurd cc
multiple_is x c (t ∷ []) h =
    let p : (is_eq (mono_cmp t.mono ((x, 1) ∷ [])) ≡ true) × (int_eq t.coeff c ≡ true) = and_parts _ _ h in
    term_is t.coeff c t.mono ((x, 1) ∷ []) (is_int t.coeff c p.1) (mono_exact t.mono ((x, 1) ∷ []) (is_equal _ p.0))
multiple_is x c (t ∷ u ∷ us) h = absurd cc

same_unknown : (x : ℕ) → is_eq (mono_cmp ((x, 1) ∷ []) ((x, 1) ∷ [])) ≡ true
same_unknown x = ap is_eq (mono_same ((x, 1) ∷ []))

falls : (x : ℕ) (us : List Term) → is_multiple_of x (pos 1) us ≡ true → is_multiple_of x (negsuc 0) (scaled (negsuc 0) us) ≡ true
falls x us h = ap (λ (vs : List Term). is_multiple_of x (negsuc 0) (scaled (negsuc 0) vs)) (multiple_is x (pos 1) us h) ∙ ap (λ b. b && true) (same_unknown x)

rises : (x : ℕ) (us : List Term) → is_multiple_of x (negsuc 0) us ≡ true → is_multiple_of x (pos 1) (scaled (negsuc 0) us) ≡ true
rises x us h = ap (λ (vs : List Term). is_multiple_of x (pos 1) (scaled (negsuc 0) vs)) (multiple_is x (negsuc 0) us h) ∙ ap (λ b. b && true) (same_unknown x)

not_falling : (x : ℕ) (us : List Term) → is_multiple_of x (pos 1) us ≡ true → is_multiple_of x (negsuc 0) us ≡ false
not_falling x us h = ap (is_multiple_of x (negsuc 0)) (multiple_is x (pos 1) us h) ∙ ap (λ b. b && false) (same_unknown x)

-- ---- rows that bound a variable

-- the row of a witness is an inequality whose cut is x - z >= 0
pub record LowerRow (rows : List PRow) (x : ℕ) (z : ℤ) (w : Witness) : Type 0 where
  pub row : PRow
  pub stands : Witnesses rows w row
  pub least : row.op ≡ Ge
  pub bound : lower_by x Ge (cut_of row).poly ≡ Some z

-- the row of a witness is an inequality whose cut is -x + z >= 0
pub record UpperRow (rows : List PRow) (x : ℕ) (z : ℤ) (w : Witness) : Type 0 where
  pub row : PRow
  pub stands : Witnesses rows w row
  pub least : row.op ≡ Ge
  pub bound : upper_by x Ge (cut_of row).poly ≡ Some z

if_true : (b : Bool) (o p q : Option ℤ) → b ≡ true → cond b o p ≡ cond b o q
if_true true o p q e = refl
if_true false o p q e = absurd cc

first_if : (b c : Bool) (o p : Option ℤ) (z : ℤ) → c ≡ false → cond b o (cond c p None) ≡ Some z → (b ≡ true) × (o ≡ Some z)
first_if true c o p z f e = (refl, e)
first_if false false o p z f e = absurd cc
first_if false true o p z f e = absurd cc

second_if : (b c : Bool) (o p : Option ℤ) (z : ℤ) → b ≡ false → cond b o (cond c p None) ≡ Some z → (c ≡ true) × (p ≡ Some z)
second_if true c o p z f e = absurd cc
second_if false true o p z f e = (refl, e)
second_if false false o p z f e = absurd cc

only_if : (b : Bool) (k z : ℤ) → b ≡ true → k ≡ z → cond b (Some k) None ≡ Some z
only_if true k z e f = ap (λ (a : ℤ). Some a) f
only_if false k z e f = absurd cc

if_only : (b : Bool) (k z : ℤ) → cond b (Some k) None ≡ Some z → (b ≡ true) × (k ≡ z)
if_only true k z e = (refl, same_Some k z e)
if_only false k z e = absurd cc

twice_negated : (k m z : ℤ) → m ≡ neg_ℤ k → k ≡ z → neg_ℤ m ≡ z
twice_negated k m z e f = omega (arith, ints, e, f)

no_lower : (x : ℕ) (z : ℤ) (r : PRow) → r ≡ contradiction → lower_by x r.op r.poly ≡ Some z → ⊥
no_lower x z r e h = let k : lower_by x contradiction.op contradiction.poly ≡ Some z = subst (λ (q : PRow). lower_by x q.op q.poly ≡ Some z) e h in absurd cc

no_upper : (x : ℕ) (z : ℤ) (r : PRow) → r ≡ contradiction → upper_by x r.op r.poly ≡ Some z → ⊥
no_upper x z r e h = let k : upper_by x contradiction.op contradiction.poly ≡ Some z = subst (λ (q : PRow). upper_by x q.op q.poly ≡ Some z) e h in absurd cc

lower_equality : (rows : List PRow) (n : ℕ) (p : List Term) (x : ℕ) (z : ℤ) (b : Bool) → slice_get rows n ≡ Some (equal_to_0 p) → Fits p → CutsBoth p → lower_by x Eq (least_cut p) ≡ Some z
    → is_shifted x (pos 1) (least_cut p) ≡ b → LowerRow rows x z (lower_witness Eq b n)
lower_equality rows n p x z true here f c h e = record {
  row = at_least_0 p;
  stands = sum_witness rows n (equal_to_0 p) here f;
  least = refl;
  bound = if_true (is_shifted x (pos 1) (least_cut p)) (Some (neg_ℤ (constant_part (least_cut p)))) None _ e ∙ h;
}
lower_equality rows n p x z false here f c h e =
    let q : List Term = least_cut p in
    let o : List Term = least_cut (scaled (negsuc 0) p) in
    let s : (is_shifted x (negsuc 0) q ≡ true) × (Some (constant_part q) ≡ Some z) = second_if (is_shifted x (pos 1) q) (is_shifted x (negsuc 0) q) (Some (neg_ℤ (constant_part q))) (Some (constant_part q)) z e h in
    record {
      row = at_least_0 (scaled (negsuc 0) p);
      stands = opposite_witness rows n (equal_to_0 p) here f refl;
      least = refl;
      bound = only_if (is_shifted x (pos 1) o) (neg_ℤ (constant_part o)) z (ap (is_multiple_of x (pos 1)) c.opposite.unknowns ∙ rises x (without_constant q) s.0)
          (twice_negated (constant_part q) (constant_part o) z c.opposite.constant (same_Some (constant_part q) z s.1));
    }

upper_equality : (rows : List PRow) (n : ℕ) (p : List Term) (x : ℕ) (z : ℤ) (b : Bool) → slice_get rows n ≡ Some (equal_to_0 p) → Fits p → CutsBoth p → upper_by x Eq (least_cut p) ≡ Some z
    → is_shifted x (pos 1) (least_cut p) ≡ b → UpperRow rows x z (upper_witness Eq b n)
upper_equality rows n p x z false here f c h e =
    let q : List Term = least_cut p in
    let s : (is_shifted x (negsuc 0) q ≡ true) × (Some (constant_part q) ≡ Some z) = first_if (is_shifted x (negsuc 0) q) (is_shifted x (pos 1) q) (Some (constant_part q)) (Some (neg_ℤ (constant_part q))) z e h in
    record {
      row = at_least_0 p;
      stands = sum_witness rows n (equal_to_0 p) here f;
      least = refl;
      bound = only_if (is_shifted x (negsuc 0) q) (constant_part q) z s.0 (same_Some (constant_part q) z s.1);
    }
upper_equality rows n p x z true here f c h e =
    let q : List Term = least_cut p in
    let o : List Term = least_cut (scaled (negsuc 0) p) in
    let s : (is_shifted x (pos 1) q ≡ true) × (Some (neg_ℤ (constant_part q)) ≡ Some z) = second_if (is_shifted x (negsuc 0) q) (is_shifted x (pos 1) q) (Some (constant_part q)) (Some (neg_ℤ (constant_part q))) z (not_falling x (without_constant q) e) h in
    record {
      row = at_least_0 (scaled (negsuc 0) p);
      stands = opposite_witness rows n (equal_to_0 p) here f refl;
      least = refl;
      bound = only_if (is_shifted x (negsuc 0) o) (constant_part o) z (ap (is_multiple_of x (negsuc 0)) c.opposite.unknowns ∙ falls x (without_constant q) e)
          (c.opposite.constant ∙ same_Some (neg_ℤ (constant_part q)) z s.1);
    }

equality_is : (r : PRow) → r.op ≡ Eq → r ≡ equal_to_0 r.poly
equality_is r e = ap (λ (o : Op). let q : PRow = record { poly = r.poly; op = o } in q) e

pub lower_row : (rows : List PRow) (n : ℕ) (r : PRow) (x : ℕ) (z : ℤ) (b : Bool) → slice_get rows n ≡ Some r → Fits r.poly → lower_by x (cut_of r).op (cut_of r).poly ≡ Some z
    → is_shifted x (pos 1) (cut_of r).poly ≡ b → LowerRow rows x z (lower_witness r.op b n)
lower_row rows n r x z b here f h e = by_op r.op refl
  where
    by_op : (o : Op) → r.op ≡ o → LowerRow rows x z (lower_witness o b n)
    by_op Ge k = record { row = r; stands = row_witness rows n r here f; least = k; bound = ap (λ o. lower_by x o (cut_of r).poly) (sym (cut_of_least r k)) ∙ h }
    by_op Eq k =
        let s : r ≡ equal_to_0 r.poly = equality_is r k in
        let t : cut_of r ≡ cut_of (equal_to_0 r.poly) = ap cut_of s in
        elim (equality_cuts r.poly f) [
          | inl c ↦ absurd (no_lower x z (cut_of r) (t ∙ c) h)
          | inr c ↦ let u : cut_of r ≡ equal_to_0 (least_cut r.poly) = t ∙ c.same in
              lower_equality rows n r.poly x z b (here ∙ ap (λ (q : PRow). Some q) s) f c (ap (λ (q : PRow). lower_by x q.op q.poly) (sym u) ∙ h) (ap (λ (q : PRow). is_shifted x (pos 1) q.poly) (sym u) ∙ e)
        ]

pub upper_row : (rows : List PRow) (n : ℕ) (r : PRow) (x : ℕ) (z : ℤ) (b : Bool) → slice_get rows n ≡ Some r → Fits r.poly → upper_by x (cut_of r).op (cut_of r).poly ≡ Some z
    → is_shifted x (pos 1) (cut_of r).poly ≡ b → UpperRow rows x z (upper_witness r.op b n)
upper_row rows n r x z b here f h e = by_op r.op refl
  where
    by_op : (o : Op) → r.op ≡ o → UpperRow rows x z (upper_witness o b n)
    by_op Ge k = record { row = r; stands = row_witness rows n r here f; least = k; bound = ap (λ o. upper_by x o (cut_of r).poly) (sym (cut_of_least r k)) ∙ h }
    by_op Eq k =
        let s : r ≡ equal_to_0 r.poly = equality_is r k in
        let t : cut_of r ≡ cut_of (equal_to_0 r.poly) = ap cut_of s in
        elim (equality_cuts r.poly f) [
          | inl c ↦ absurd (no_upper x z (cut_of r) (t ∙ c) h)
          | inr c ↦ let u : cut_of r ≡ equal_to_0 (least_cut r.poly) = t ∙ c.same in
              upper_equality rows n r.poly x z b (here ∙ ap (λ (q : PRow). Some q) s) f c (ap (λ (q : PRow). upper_by x q.op q.poly) (sym u) ∙ h) (ap (λ (q : PRow). is_shifted x (pos 1) q.poly) (sym u) ∙ e)
        ]

-- ---- a wall stands on both

range_is : (x : ℕ) (a b : ℤ) (l u : List Term) → lower_by x Ge l ≡ Some a → upper_by x Ge u ≡ Some b → range_between l u ≡ Some (record { poly = variable_of x; low = a; high = b })
range_is x a b l u h k =
    let p : (is_shifted x (pos 1) l ≡ true) × (neg_ℤ (constant_part l) ≡ a) = if_only (is_shifted x (pos 1) l) (neg_ℤ (constant_part l)) a h in
    let q : (is_shifted x (negsuc 0) u ≡ true) × (constant_part u ≡ b) = if_only (is_shifted x (negsuc 0) u) (constant_part u) b k in
    let m : without_constant l ≡ multiple x (pos 1) = multiple_is x (pos 1) (without_constant l) p.0 in
    let n : without_constant u ≡ multiple x (negsuc 0) = multiple_is x (negsuc 0) (without_constant u) q.0 in
    let o : is_opposite (without_constant l) (without_constant u) ≡ true =
    ap (λ (v : List Term). is_opposite v (without_constant u)) m ∙ ap (λ (v : List Term). is_opposite (multiple x (pos 1)) v) n ∙ ap (λ c. c && true) (same_unknown x) in
    ap (λ c. cond c (Some (record { poly = without_constant l; low = neg_ℤ (constant_part l); high = constant_part u })) None) o
    ∙ ap (λ (v : List Term). let r : Range = record { poly = v; low = neg_ℤ (constant_part l); high = constant_part u } in Some r) m
    ∙ ap (λ (v : ℤ). let r : Range = record { poly = variable_of x; low = v; high = constant_part u } in Some r) p.1
    ∙ ap (λ (v : ℤ). let r : Range = record { poly = variable_of x; low = a; high = v } in Some r) q.1

pub wall_stands : (rows : List PRow) (w : Wall) → LowerRow rows w.variable w.low w.lower → UpperRow rows w.variable w.high w.upper → StandsWall rows w
wall_stands rows w l u = record {
  lower = l.row;
  upper = u.row;
  below = l.stands;
  above = u.stands;
  range = ap (λ o. range_by o u.row.op l.row u.row) l.least ∙ ap (λ o. range_by Ge o l.row u.row) u.least ∙ range_is w.variable w.low w.high (cut_of l.row).poly (cut_of u.row).poly l.bound u.bound;
}
