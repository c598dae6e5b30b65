-- The point of a basis.
use Rattle.std.specs.Prelude.{◌≡◌, ◌≢◌, ℕ, suc, ◌<◌, if◌then◌else◌, ◌==◌, List, [], ◌∷◌, ℤ, pos, negsuc, ◌+ℤ◌, ◌*ℤ◌, ◌≤ℤ◌, ◌<ℤ◌, neg_ℤ, refl}
use Rattle.std.proofs.Common.{ap, sym, ◌∙◌, subst, inl, inr, arith}
use Rattle.std.proofs.lemmas.Int.{ints}
use Rattle.std.specs.List.{AllByRecursion}
use Rattle.std.proofs.Math.IntN.{*ℤ_comm}
use Rattle.mm_num.proofs.Ring.{dist, swap, neg_mul, mul_neg, product_positive, product_nonneg, mul_zero}
use Rattle.simplex_core.specs.declared.row.LinRow.{LinRow}
use Rattle.simplex_core.specs.Rows.{dot}
use Rattle.simplex_core.specs.Form.{at, Among, Distinct, one_of, Line, basis_of, Vanish, IsLine, IsForm}
use Rattle.simplex_core.specs.Walk.{shortfall}
use Rattle.simplex_core.proofs.DotLaws.{dot_two}
use Rattle.simplex_core.proofs.ExchangeLaws.{other_test, among_or_not, of_all, to_all, Among-basis_of}
use Rattle.mm_num.proofs.TestLaws.{number_test}

-- a positive denominator, 0 for each variable outside the basis, and the equations hold
pub record IsSpot (n : ℕ) (rows : List LinRow) (form : List Line) (v : ℕ → ℤ) : Type 0 where
  pub one : pos 0 <ℤ v (one_of n rows)
  pub outside : (e : ℕ) → e < one_of n rows → (Among e (basis_of form) → ⊥) → v e ≡ pos 0
  pub vanish : Vanish form v

-- the two numbers of a line at such a point
abbrev pub Balances : ℕ → Line → (ℕ → ℤ) → Type 0
Balances one l v = at l.1 l.0 *ℤ v l.0 +ℤ at l.1 one *ℤ v one ≡ pos 0

-- the part of the point that some of the lines give
record IsPart (one : ℕ) (form : List Line) (v : ℕ → ℤ) : Type 0 where
  positive : pos 0 <ℤ v one
  outside : (e : ℕ) → e < one → (Among e (basis_of form) → ⊥) → v e ≡ pos 0
  balances : AllByRecursion (λ l. Balances one l v) form

-- the point with one more line
with_line : ℕ → Line → (ℕ → ℤ) → (ℕ → ℤ)
with_line one l v = λ j. if j == l.0 then neg_ℤ (at l.1 one *ℤ v one) else at l.1 l.0 *ℤ v j

line_here : (one : ℕ) (l : Line) (v : ℕ → ℤ) (j : ℕ) → j ≡ l.0 → with_line one l v j ≡ neg_ℤ (at l.1 one *ℤ v one)
unfolding with_line
line_here one l v j h = ap (λ t. if t then neg_ℤ (at l.1 one *ℤ v one) else at l.1 l.0 *ℤ v j) (number_test j l.0 h)

line_other : (one : ℕ) (l : Line) (v : ℕ → ℤ) (j : ℕ) → j ≢ l.0 → with_line one l v j ≡ at l.1 l.0 *ℤ v j
unfolding with_line
line_other one l v j h = ap (λ t. if t then neg_ℤ (at l.1 one *ℤ v one) else at l.1 l.0 *ℤ v j) (other_test j l.0 h)

below_differs : (i j : ℕ) → i < j → j ≢ i
below_differs i j h e = absurd (omega (arith, e))

own_balance : (a k h : ℤ) → a *ℤ neg_ℤ (k *ℤ h) +ℤ k *ℤ (a *ℤ h) ≡ pos 0
own_balance a k h = let p = mul_neg a (k *ℤ h) in let q = swap a k h in omega (arith, ints, p, q)

other_balance : (a b k x h : ℤ) → b *ℤ x +ℤ k *ℤ h ≡ pos 0 → b *ℤ (a *ℤ x) +ℤ k *ℤ (a *ℤ h) ≡ pos 0
other_balance a b k x h e =
    let p = swap b a x in
    let q = swap k a h in
    let d = dist a (b *ℤ x) (k *ℤ h) in
    let z : a *ℤ (b *ℤ x +ℤ k *ℤ h) ≡ pos 0 = ap (λ t. a *ℤ t) e ∙ mul_zero a in
    omega (arith, ints, p, q, d, z)

part : (one : ℕ) (form : List Line) → Distinct (basis_of form) → AllByRecursion (λ l. (l.0 < one) × (pos 0 <ℤ at l.1 l.0)) form → (v : ℕ → ℤ) × IsPart one form v
part one [] d h = (
  λ j. if j == one then pos 1 else pos 0,
  record {
    positive = rw (number_test one one refl) (omega (arith, ints));
    outside = λ e k o. rw (other_test e one (λ z. absurd (omega (arith, z)))) refl;
    balances = tt;
  },
)
part one (l ∷ form) d h =
    let r : (v : ℕ → ℤ) × IsPart one form v = part one form d.1 h.1 in
    let last : one ≢ l.0 = below_differs l.0 one h.0.0 in (
      with_line one l r.0,
      record {
        positive = subst (λ (z : ℤ). pos 0 <ℤ z) (sym (line_other one l r.0 one last)) (product_positive (at l.1 l.0) (r.0 one) h.0.1 r.1.positive);
        outside = λ e k o.
            line_other one l r.0 e (λ z. o (inl z)) ∙ ap (λ t. at l.1 l.0 *ℤ t) (r.1.outside e k (λ m. o (inr m))) ∙ mul_zero (at l.1 l.0);
        balances = (
          ap (λ t. at l.1 l.0 *ℤ t +ℤ at l.1 one *ℤ with_line one l r.0 one) (line_here one l r.0 l.0 refl)
              ∙ ap (λ t. at l.1 l.0 *ℤ neg_ℤ (at l.1 one *ℤ r.0 one) +ℤ at l.1 one *ℤ t) (line_other one l r.0 one last)
              ∙ own_balance (at l.1 l.0) (at l.1 one) (r.0 one),
          to_all (λ k. Balances one k (with_line one l r.0)) form (λ k m.
              let other : k.0 ≢ l.0 = λ z. d.0 (subst (λ (x : ℕ). Among x (basis_of form)) z (Among-basis_of k form m)) in
              ap (λ t. at k.1 k.0 *ℤ t +ℤ at k.1 one *ℤ with_line one l r.0 one) (line_other one l r.0 k.0 other)
              ∙ ap (λ t. at k.1 k.0 *ℤ (at l.1 l.0 *ℤ r.0 k.0) +ℤ at k.1 one *ℤ t) (line_other one l r.0 one last)
              ∙ other_balance (at l.1 l.0) (at k.1 k.0) (at k.1 one) (r.0 k.0) (r.0 one)
              (of_all (λ x. Balances one x r.0) form k r.1.balances m)),
        );
      },
    )

smaller : (i one : ℕ) → i < suc one → i ≢ one → i < one
smaller i one h d = grind arith

-- at a point that is 0 outside the basis only two terms of a line are left
pub line_value : (one : ℕ) (form : List Line) (l : Line) (v : ℕ → ℤ) → IsLine one (basis_of form) l
    → ((e : ℕ) → e < one → (Among e (basis_of form) → ⊥) → v e ≡ pos 0) → dot v l.1 ≡ at l.1 l.0 *ℤ v l.0 +ℤ at l.1 one *ℤ v one
line_value one form l v h o =
    dot_two l.1 v l.0 one h.inside (let q = h.long in omega (arith, q)) (λ i k d e.
    elim (among_or_not i (basis_of form)) as (λ _. at l.1 i *ℤ v i ≡ pos 0) [
      | inl m ↦ ap (λ t. t *ℤ v i) (h.others i m d) ∙ (*ℤ_comm (pos 0) (v i) ∙ mul_zero (v i))
      | inr m ↦ ap (λ t. at l.1 i *ℤ t) (o i (let q = h.long in smaller i one (omega (arith, k, q)) e) m) ∙ mul_zero (at l.1 i)
    ])

-- each basis has its point
pub has_spot : (n : ℕ) (rows : List LinRow) (form : List Line) → IsForm n rows form → (v : ℕ → ℤ) × IsSpot n rows form v
has_spot n rows form h =
    let line : (l : Line) → Among l form → IsLine (one_of n rows) (basis_of form) l = λ l m. of_all (IsLine (one_of n rows) (basis_of form)) form l h.lines m in
    let r : (v : ℕ → ℤ) × IsPart (one_of n rows) form v = part (one_of n rows) form h.distinct
    (to_all (λ l. (l.0 < one_of n rows) × (pos 0 <ℤ at l.1 l.0)) form (λ l m. ((line l m).inside, (line l m).own))) in (
      r.0,
      record {
        one = r.1.positive;
        outside = r.1.outside;
        vanish = to_all (λ l. dot r.0 l.1 ≡ pos 0) form (λ l m.
            line_value (one_of n rows) form l r.0 (line l m) r.1.outside ∙ of_all (λ k. Balances (one_of n rows) k r.0) form l r.1.balances m);
      },
    )

-- what a basic variable's line says of its value there
pub balance : (n : ℕ) (rows : List LinRow) (form : List Line) (v : ℕ → ℤ) (l : Line) → IsForm n rows form → IsSpot n rows form v → Among l form
    → at l.1 l.0 *ℤ v l.0 +ℤ shortfall n rows l *ℤ v (one_of n rows) ≡ pos 0
balance n rows form v l h s m =
    sym (line_value (one_of n rows) form l v (of_all (IsLine (one_of n rows) (basis_of form)) form l h.lines m) s.outside)
    ∙ of_all (λ k. dot v k.1 ≡ pos 0) form l s.vanish m

-- its sign
value_nonneg : (a x k h : ℤ) → pos 0 <ℤ a → pos 0 <ℤ h → a *ℤ x +ℤ k *ℤ h ≡ pos 0 → k ≤ℤ pos 0 → pos 0 ≤ℤ x
value_nonneg a (pos x) k h pa ph e le = omega (arith, ints)
value_nonneg a (negsuc x) k h pa ph e le =
    let p : pos 0 <ℤ (a *ℤ pos (suc x)) = product_positive a (pos (suc x)) pa (omega (arith, ints)) in
    let q : a *ℤ negsuc x ≡ neg_ℤ (a *ℤ pos (suc x)) = mul_neg a (pos (suc x)) in
    let r : pos 0 ≤ℤ (neg_ℤ k *ℤ h) = product_nonneg (neg_ℤ k) h (omega (arith, ints)) (omega (arith, ints)) in
    let s : neg_ℤ k *ℤ h ≡ neg_ℤ (k *ℤ h) = neg_mul k h in
    absurd (omega (arith, ints, e, p, q, r, s))

value_negative : (a x k h : ℤ) → pos 0 <ℤ a → pos 0 <ℤ h → a *ℤ x +ℤ k *ℤ h ≡ pos 0 → pos 0 <ℤ k → x <ℤ pos 0
value_negative a (negsuc x) k h pa ph e lt = omega (arith, ints)
value_negative a (pos x) k h pa ph e lt =
    let p : pos 0 ≤ℤ (a *ℤ pos x) = product_nonneg a (pos x) (omega (arith, ints)) (omega (arith, ints)) in
    let r : pos 0 <ℤ (k *ℤ h) = product_positive k h lt ph in
    absurd (omega (arith, ints, e, p, r))

pub spot_nonneg : (n : ℕ) (rows : List LinRow) (form : List Line) (v : ℕ → ℤ) (l : Line) → IsForm n rows form → IsSpot n rows form v → Among l form
    → shortfall n rows l ≤ℤ pos 0 → pos 0 ≤ℤ v l.0
spot_nonneg n rows form v l h s m le =
    value_nonneg (at l.1 l.0) (v l.0) (shortfall n rows l) (v (one_of n rows)) (of_all (IsLine (one_of n rows) (basis_of form)) form l h.lines m).own s.one
    (balance n rows form v l h s m) le

pub spot_negative : (n : ℕ) (rows : List LinRow) (form : List Line) (v : ℕ → ℤ) (l : Line) → IsForm n rows form → IsSpot n rows form v → Among l form
    → pos 0 <ℤ shortfall n rows l → v l.0 <ℤ pos 0
spot_negative n rows form v l h s m lt =
    value_negative (at l.1 l.0) (v l.0) (shortfall n rows l) (v (one_of n rows)) (of_all (IsLine (one_of n rows) (basis_of form)) form l h.lines m).own s.one
    (balance n rows form v l h s m) lt
