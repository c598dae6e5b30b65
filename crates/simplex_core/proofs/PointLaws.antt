-- Where nothing is broken, the fractions of the basic unknowns solve the rows.
use Rattle.std.specs.Prelude.{◌≡◌, ◌≢◌, ℕ, zero, suc, ◌+◌, ◌<◌, ◌≤◌, true, List, [], ◌∷◌, ◌++◌, length, get_or, ℤ, pos, negsuc, ◌+ℤ◌, ◌*ℤ◌, ◌≤ℤ◌, ◌<ℤ◌, neg_ℤ, refl}
use Rattle.std.proofs.Common.{ap, sym, ◌∙◌, subst, inl, inr, arith}
use Rattle.std.proofs.lemmas.Int.{ints}
use Rattle.std.specs.List.{AllByRecursion}
use Rattle.std.proofs.Math.IntN.{*ℤ_comm}
use Rattle.mm_num.specs.Frac.{IsFraction, HasValue}
use Rattle.mm_num.proofs.Ring.{dist, dist_r, assoc, swap, neg_mul, product_positive, product_nonneg, mul_zero}
use Rattle.simplex_core.specs.declared.row.LinRow.{LinRow}
use Rattle.simplex_core.specs.Rows.{dot, row_value, unknowns, AreWide, row_fraction, IsSolved, IsPoint}
use Rattle.simplex_core.specs.Form.{at, Among, one_of, Follows, Line, basis_of, IsLine, IsForm}
use Rattle.simplex_core.specs.Walk.{is_equality, shortfall}
use Rattle.simplex_core.specs.machine.Tableau.{line_at, IsValueOf, AreValues, NoneBroken}
use Rattle.simplex_core.proofs.ExchangeLaws.{among_or_not, of_all, line_of, Among-basis_of}
use Rattle.simplex_core.proofs.PivotLaws.{cancelled}
use Rattle.simplex_core.proofs.FormLaws.{same_line}
use Rattle.simplex_core.proofs.ChoiceLaws.{place_of}
use Rattle.simplex_core.proofs.SpotLaws.{IsSpot, has_spot, balance, spot_nonneg}
use Rattle.simplex_core.proofs.FarkasLaws.{first_equality, later_equality}

pub AreValues-push : (one : ℕ) (form : List Line) (s : ℕ) (xs : List (ℤ × ℤ)) (x : ℤ × ℤ) → AreValues one form s xs → IsValueOf one form (s + length xs) x
    → AreValues one form s (xs ++ x ∷ [])
AreValues-push one form s [] x h k = let z : s + 0 ≡ s = omega arith in (subst (λ (j : ℕ). IsValueOf one form j x) z k, tt)
AreValues-push one form s (y ∷ xs) x h k =
    let z : s + suc (length xs) ≡ suc s + length xs = omega arith in
    (h.0, AreValues-push one form (suc s) xs x h.1 (subst (λ (j : ℕ). IsValueOf one form j x) z k))

positive_cancel : (a x y : ℤ) → pos 0 <ℤ a → a *ℤ x ≡ a *ℤ y → x ≡ y
positive_cancel a x y h e =
    let d : a *ℤ (x +ℤ neg_ℤ y) ≡ pos 0 =
    (let p = dist a x (neg_ℤ y) in let q : a *ℤ neg_ℤ y ≡ neg_ℤ (a *ℤ y) = *ℤ_comm a (neg_ℤ y) ∙ neg_mul y a ∙ ap neg_ℤ (*ℤ_comm y a) in omega (arith, ints, p, q, e)) in
    let z : x +ℤ neg_ℤ y ≡ pos 0 = cancelled a (x +ℤ neg_ℤ y) h d in
    omega (arith, ints, z)

-- x0 * own ≡ - k * x1 and own * v + k * h ≡ 0
fraction_value : (own k h v a b : ℤ) → pos 0 <ℤ own → own *ℤ v +ℤ k *ℤ h ≡ pos 0 → a *ℤ own ≡ neg_ℤ k *ℤ b → a *ℤ h ≡ v *ℤ b
fraction_value own k h v a b po e f =
    positive_cancel own (a *ℤ h) (v *ℤ b) po (
    let p : own *ℤ (a *ℤ h) ≡ (a *ℤ own) *ℤ h = swap own a h ∙ sym (assoc a own h) in
    let q : (a *ℤ own) *ℤ h ≡ (neg_ℤ k *ℤ b) *ℤ h = ap (λ t. t *ℤ h) f in
    let r : (neg_ℤ k *ℤ b) *ℤ h ≡ neg_ℤ ((k *ℤ h) *ℤ b) =
    ap (λ t. t *ℤ h) (neg_mul k b) ∙ neg_mul (k *ℤ b) h ∙ ap neg_ℤ (assoc k b h ∙ ap (λ t. k *ℤ t) (*ℤ_comm b h) ∙ sym (assoc k h b)) in
    let s : neg_ℤ ((k *ℤ h) *ℤ b) ≡ (own *ℤ v) *ℤ b =
    sym (neg_mul (k *ℤ h) b) ∙ ap (λ t. t *ℤ b) (let z : neg_ℤ (k *ℤ h) ≡ own *ℤ v = omega (arith, ints, e) in z) in
    p ∙ q ∙ r ∙ s ∙ assoc own v b)

-- over the point's denominator a value's numerator is the point's
value_at : (n : ℕ) (rows : List LinRow) (form : List Line) (v : ℕ → ℤ) (j : ℕ) (x : ℤ × ℤ) → IsForm n rows form → IsSpot n rows form v → j < one_of n rows
    → IsValueOf (one_of n rows) form j x → x.0 *ℤ v (one_of n rows) ≡ v j *ℤ x.1
value_at n rows form v j x h s inside val = elim (among_or_not j (basis_of form)) as (λ _. x.0 *ℤ v (one_of n rows) ≡ v j *ℤ x.1) [
  | inr o ↦
      ap (λ t. t *ℤ v (one_of n rows)) (val.outside o) ∙ (*ℤ_comm (pos 0) (v (one_of n rows)) ∙ mul_zero (v (one_of n rows)))
      ∙ sym (ap (λ t. t *ℤ x.1) (s.outside j inside o) ∙ (*ℤ_comm (pos 0) x.1 ∙ mul_zero x.1))
  | inl b ↦
      let r : (l : Line) × Among l form × (l.0 ≡ j) = line_of j form b in
      let line : IsLine (one_of n rows) (basis_of form) r.0 = of_all (IsLine (one_of n rows) (basis_of form)) form r.0 h.lines r.1 in
      subst (λ (i : ℕ). x.0 *ℤ v (one_of n rows) ≡ v i *ℤ x.1) r.2
      (fraction_value (at r.0.1 r.0.0) (shortfall n rows r.0) (v (one_of n rows)) (v r.0.0) x.0 x.1 line.own (balance n rows form v r.0 h s r.1)
      (val.basic r.0 r.1 r.2))
]

-- the values over one denominator
abbrev pub AreOver : (ℕ → ℤ) → ℤ → List (ℤ × ℤ) → Type 0
AreOver v h [] = Unit {0}
AreOver v h (x ∷ xs) = ((pos 0 <ℤ x.1) × (x.0 *ℤ h ≡ v 0 *ℤ x.1)) × AreOver (λ i. v (suc i)) h xs

term_value : (c a b d h v : ℤ) → a *ℤ h ≡ v *ℤ b → ((c *ℤ a) *ℤ d) *ℤ h ≡ (b *ℤ d) *ℤ (c *ℤ v)
term_value c a b d h v p =
    assoc (c *ℤ a) d h ∙ ap (λ t. (c *ℤ a) *ℤ t) (*ℤ_comm d h) ∙ assoc c a (h *ℤ d) ∙ ap (λ t. c *ℤ t) (sym (assoc a h d) ∙ ap (λ t. t *ℤ d) p)
    ∙ ap (λ t. c *ℤ t) (assoc v b d) ∙ sym (assoc c v (b *ℤ d)) ∙ *ℤ_comm (c *ℤ v) (b *ℤ d)

alone : (a : ℤ) → a ≡ pos 1 *ℤ (pos 0 +ℤ a)
alone (pos n) = omega (arith, ints)
alone (negsuc n) = omega (arith, ints)

-- the row's fraction is its value over that denominator
fraction_is : (cs : List ℤ) (k : ℤ) (xs : List (ℤ × ℤ)) (v : ℕ → ℤ) (h : ℤ) → length cs ≡ length xs → AreOver v h xs
    → (pos 0 <ℤ (row_fraction cs k xs).1) × ((row_fraction cs k xs).0 *ℤ h ≡ (row_fraction cs k xs).1 *ℤ (dot v cs +ℤ k *ℤ h))
fraction_is [] k xs v h l w = (omega (arith, ints), alone (k *ℤ h))
fraction_is (c ∷ cs) k [] v h l w = absurd (omega (arith, l))
fraction_is (c ∷ cs) k (x ∷ xs) v h l w =
    let r : (pos 0 <ℤ (row_fraction cs k xs).1) × ((row_fraction cs k xs).0 *ℤ h ≡ (row_fraction cs k xs).1 *ℤ (dot (λ i. v (suc i)) cs +ℤ k *ℤ h)) =
    fraction_is cs k xs (λ i. v (suc i)) h (omega (arith, l)) w.1 in
    let d : ℤ = (row_fraction cs k xs).1 in
    let m : ℤ = (row_fraction cs k xs).0 in
    let rest : ℤ = dot (λ i. v (suc i)) cs in (
      product_positive x.1 d w.0.0 r.0,
      dist_r ((c *ℤ x.0) *ℤ d) (x.1 *ℤ m) h
          ∙ ap (λ t. t +ℤ (x.1 *ℤ m) *ℤ h) (term_value c x.0 x.1 d h (v 0) w.0.1)
          ∙ ap (λ t. (x.1 *ℤ d) *ℤ (c *ℤ v 0) +ℤ t) (assoc x.1 m h ∙ ap (λ t. x.1 *ℤ t) r.1 ∙ sym (assoc x.1 d (rest +ℤ k *ℤ h)))
          ∙ sym (dist (x.1 *ℤ d) (c *ℤ v 0) (rest +ℤ k *ℤ h))
          ∙ ap (λ t. (x.1 *ℤ d) *ℤ t) (omega (arith, ints)),
    )

values_over : (n : ℕ) (rows : List LinRow) (form : List Line) (v : ℕ → ℤ) (s : ℕ) (xs : List (ℤ × ℤ)) (w : ℕ → ℤ) → IsForm n rows form → IsSpot n rows form v → s + length xs ≤ one_of n rows
    → AreValues (one_of n rows) form s xs → ((i : ℕ) → w i ≡ v (s + i)) → AreOver w (v (one_of n rows)) xs
values_over n rows form v s [] w h sp l a e = tt
values_over n rows form v s (x ∷ xs) w h sp l a e =
    let z : s + 0 ≡ s = omega arith in
    let here : x.0 *ℤ v (one_of n rows) ≡ v s *ℤ x.1 = value_at n rows form v s x h sp (omega (arith, l)) a.0 in (
      (a.0.fraction.positive, here ∙ ap (λ t. t *ℤ x.1) (sym (e 0 ∙ ap v z))),
      values_over n rows form v (suc s) xs (λ i. w (suc i)) h sp (omega (arith, l)) a.1
          (λ i. let y : s + suc i ≡ suc s + i = omega arith in e (suc i) ∙ ap v y),
    )

sign_at : (z : ℤ) → ((pos 0 <ℤ z) → ⊥) → z ≤ℤ pos 0
sign_at (pos zero) h = omega (arith, ints)
sign_at (pos (suc n)) h = absurd (h (omega (arith, ints)))
sign_at (negsuc n) h = omega (arith, ints)

zero_at : (z : ℤ) → (z ≢ pos 0 → ⊥) → z ≡ pos 0
zero_at (pos zero) h = refl
zero_at (pos (suc n)) h = absurd (h (λ e. absurd (omega (arith, ints, e))))
zero_at (negsuc n) h = absurd (h (λ e. absurd (omega (arith, ints, e))))

slack_value : (n : ℕ) (rows : List LinRow) (form : List Line) (v : ℕ → ℤ) (j : ℕ) → IsForm n rows form → IsSpot n rows form v → NoneBroken n rows form → n ≤ j → j < one_of n rows
    → (pos 0 ≤ℤ v j) × (is_equality n rows j ≡ true → v j ≡ pos 0)
slack_value n rows form v j h s none low high = elim (among_or_not j (basis_of form)) as (λ _. (pos 0 ≤ℤ v j) × (is_equality n rows j ≡ true → v j ≡ pos 0)) [
  | inr o ↦ let z : v j ≡ pos 0 = s.outside j high o in (omega (arith, ints, z), λ _. z)
  | inl b ↦
      let r : (l : Line) × Among l form × (l.0 ≡ j) = line_of j form b in
      let line : IsLine (one_of n rows) (basis_of form) r.0 = of_all (IsLine (one_of n rows) (basis_of form)) form r.0 h.lines r.1 in
      let slack : n ≤ r.0.0 = subst (λ (i : ℕ). n ≤ i) (sym r.2) low in
      subst (λ (i : ℕ). (pos 0 ≤ℤ v i) × (is_equality n rows i ≡ true → v i ≡ pos 0)) r.2 (
        spot_nonneg n rows form v r.0 h s r.1 (sign_at (shortfall n rows r.0) (λ k. none r.0 r.1 (slack, inl k))),
        λ e.
            let z : shortfall n rows r.0 ≡ pos 0 = zero_at (shortfall n rows r.0) (λ d. none r.0 r.1 (slack, inr (e, d))) in
            let y : shortfall n rows r.0 *ℤ v (one_of n rows) ≡ pos 0 = ap (λ t. t *ℤ v (one_of n rows)) z ∙ (*ℤ_comm (pos 0) (v (one_of n rows)) ∙ mul_zero (v (one_of n rows))) in
            let p = balance n rows form v r.0 h s r.1 in
            cancelled (at r.0.1 r.0.0) (v r.0.0) line.own (omega (arith, ints, p, y)),
      )
]

nonneg_numerator : (a h d t : ℤ) → pos 0 <ℤ h → pos 0 <ℤ d → pos 0 ≤ℤ t → a *ℤ h ≡ d *ℤ t → pos 0 ≤ℤ a
nonneg_numerator (pos a) h d t ph pd pt e = omega (arith, ints)
nonneg_numerator (negsuc a) h d t ph pd pt e =
    let p : pos 0 <ℤ (pos (suc a) *ℤ h) = product_positive (pos (suc a)) h (omega (arith, ints)) ph in
    let q : negsuc a *ℤ h ≡ neg_ℤ (pos (suc a) *ℤ h) = neg_mul (pos (suc a)) h in
    let r : pos 0 ≤ℤ (d *ℤ t) = product_nonneg d t (omega (arith, ints, pd)) pt in
    absurd (omega (arith, ints, e, p, q, r))

row_solved : (r : LinRow) (xs : List (ℤ × ℤ)) (v : ℕ → ℤ) (h : ℤ) → length r.coeffs.items ≡ length xs → AreOver v h xs → pos 0 <ℤ h
    → pos 0 ≤ℤ row_value v h r → (r.equal ≡ true → row_value v h r ≡ pos 0) → IsSolved xs r
row_solved r xs v h l w ph ge eq =
    let f : (pos 0 <ℤ (row_fraction r.coeffs.items r.constant xs).1)
    × ((row_fraction r.coeffs.items r.constant xs).0 *ℤ h ≡ (row_fraction r.coeffs.items r.constant xs).1 *ℤ (dot v r.coeffs.items +ℤ r.constant *ℤ h)) =
    fraction_is r.coeffs.items r.constant xs v h l w in (
      nonneg_numerator (row_fraction r.coeffs.items r.constant xs).0 h (row_fraction r.coeffs.items r.constant xs).1 (row_value v h r) ph f.0 ge f.1,
      λ e. cancelled h (row_fraction r.coeffs.items r.constant xs).0 ph
          (*ℤ_comm h (row_fraction r.coeffs.items r.constant xs).0 ∙ f.1 ∙ ap (λ t. (row_fraction r.coeffs.items r.constant xs).1 *ℤ t) (eq e)
          ∙ mul_zero (row_fraction r.coeffs.items r.constant xs).1),
    )

rows_solved : (s one : ℕ) (rows : List LinRow) (xs : List (ℤ × ℤ)) (v : ℕ → ℤ) (n : ℕ) → AreWide n rows → length xs ≡ n → AreOver v (v one) xs → pos 0 <ℤ v one → Follows s one rows v
    → ((k : ℕ) → k < length rows → (pos 0 ≤ℤ v (s + k)) × (is_equality s rows (s + k) ≡ true → v (s + k) ≡ pos 0)) → AllByRecursion (IsSolved xs) rows
rows_solved s one [] xs v n wide l w ph f h = tt
rows_solved s one (r ∷ rs) xs v n wide l w ph f h =
    let z : s + 0 ≡ s = omega arith in
    let here : (pos 0 ≤ℤ v (s + 0)) × (is_equality s (r ∷ rs) (s + 0) ≡ true → v (s + 0) ≡ pos 0) = h 0 (omega arith) in
    let value : v (s + 0) ≡ row_value v (v one) r = ap v z ∙ f.0 in (
      row_solved r xs v (v one) (wide.0 ∙ sym l) w ph (subst (λ (t : ℤ). pos 0 ≤ℤ t) value here.0) (λ e. sym value ∙ here.1 (first_equality s r rs ∙ e)),
      rows_solved (suc s) one rs xs v n wide.1 l w ph f.1 (λ k q.
          let y : s + suc k ≡ suc s + k = omega arith in
          let later : (pos 0 ≤ℤ v (s + suc k)) × (is_equality s (r ∷ rs) (s + suc k) ≡ true → v (s + suc k) ≡ pos 0) = h (suc k) (omega arith) in
          (subst (λ (i : ℕ). pos 0 ≤ℤ v i) y later.0, λ e. sym (ap v y) ∙ later.1 (later_equality s k r rs ∙ e))),
    )

all_fractions : (one : ℕ) (form : List Line) (s : ℕ) (xs : List (ℤ × ℤ)) → AreValues one form s xs → AllByRecursion IsFraction xs
all_fractions one form s [] h = tt
all_fractions one form s (x ∷ xs) h = (h.0.fraction, all_fractions one form (suc s) xs h.1)

pub spot_solves : (n : ℕ) (rows : List LinRow) (form : List Line) (xs : List (ℤ × ℤ)) → AreWide n rows → n ≡ unknowns rows → IsForm n rows form → NoneBroken n rows form
    → length xs ≡ n → AreValues (one_of n rows) form 0 xs → IsPoint rows xs
spot_solves n rows form xs wide width h none l a =
    let r : (v : ℕ → ℤ) × IsSpot n rows form v = has_spot n rows form h in
    record {
      count = l ∙ width;
      fractions = all_fractions (one_of n rows) form 0 xs a;
      solved = rows_solved n (one_of n rows) rows xs r.0 n wide l
          (values_over n rows form r.0 0 xs r.0 h r.1 (omega (arith, l)) a (λ i. let z : i ≡ 0 + i = omega arith in ap r.0 z)) r.1.one (h.enough r.0 r.1.vanish)
          (λ k q. slack_value n rows form r.0 (n + k) h r.1 none (omega arith) (omega (arith, q)));
    }

-- the line at a place gives the value of its variable
pub value_here : (n : ℕ) (rows : List LinRow) (form : List Line) (l : Line) (x : ℤ × ℤ) → IsForm n rows form → Among l form → IsFraction x
    → HasValue x (neg_ℤ (at l.1 (one_of n rows))) (at l.1 l.0) → IsValueOf (one_of n rows) form l.0 x
value_here n rows form l x h m f v = record {
  fraction = f;
  basic = λ k q e. subst (λ (z : Line). HasValue x (neg_ℤ (at z.1 (one_of n rows))) (at z.1 z.0)) (sym (same_line form k l h.distinct q m e)) v;
  outside = λ o. absurd (o (Among-basis_of l form m));
}

-- a variable that no line is for has the value 0
pub value_nowhere : (one : ℕ) (form : List Line) (j : ℕ) (x : ℤ × ℤ) → IsFraction x → x.0 ≡ pos 0 → ((k : ℕ) → k < length form → (line_at form k).0 ≡ j → ⊥)
    → IsValueOf one form j x
value_nowhere one form j x f z none = record {
  fraction = f;
  basic = λ l m e.
      let r : (i : ℕ) × (i < length form) × (l ≡ get_or form i (0, [])) = place_of form l (0, []) m in
      absurd (none r.0 r.1 (sym (ap (λ (k : Line). k.0) r.2) ∙ e));
  outside = λ o. z;
}
