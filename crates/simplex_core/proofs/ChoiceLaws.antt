-- The choice of what leaves and what enters.
use Rattle.std.specs.Prelude.{◌≡◌, ℕ, zero, suc, ◌+◌, ◌-◌, ◌<◌, ◌≤◌, ◌⊎◌, false, if◌then◌else◌, List, [], ◌∷◌, length, get_or, Option, Some, None, IfSome, MatchOption, refl}
use Rattle.std.proofs.Common.{ap, sym, ◌∙◌, subst, inl, inr, arith}
use Rattle.simplex_core.specs.declared.row.LinRow.{LinRow}
use Rattle.simplex_core.specs.Form.{Among, one_of, Line, basis_of, IsPlaced, IsLine, IsForm}
use Rattle.simplex_core.specs.Walk.{is_equality, IsBroken}
use Rattle.simplex_core.specs.machine.Tableau.{NoneBroken, line_at, IsLeastAt, IsLesser}
use Rattle.simplex_core.proofs.ExchangeLaws.{other_test, of_all}
use Rattle.simplex_core.proofs.FarkasLaws.{first_equality, later_equality}

-- an unknown is no slack
pub no_equality : (n : ℕ) (rows : List LinRow) (j : ℕ) → j < n → is_equality n rows j ≡ false
no_equality n [] j h = refl
no_equality n (r ∷ rs) j h =
    ap (λ t. if t then r.equal else is_equality (suc n) rs j) (other_test j n (λ e. absurd (omega (arith, e, h)))) ∙ no_equality (suc n) rs j (omega arith)

-- a slack is its row's
pub slack_equality : (n : ℕ) (rows : List LinRow) (k : ℕ) (r : LinRow) → k < length rows → r ≡ get_or rows k r → is_equality n rows (n + k) ≡ r.equal
slack_equality n [] k r h e = absurd (omega arith)
slack_equality n (x ∷ rs) zero r h e = first_equality n x rs ∙ ap (λ (y : LinRow). y.equal) (sym e)
slack_equality n (x ∷ rs) (suc k) r h e = later_equality n k x rs ∙ slack_equality (suc n) rs k r (omega arith) e

pub equality_at : (n : ℕ) (rows : List LinRow) (j : ℕ) (r : LinRow) → n ≤ j → j < n + length rows → r ≡ get_or rows (j - n) r → is_equality n rows j ≡ r.equal
equality_at n rows j r h k e =
    let z : n + (j - n) ≡ j = omega arith in
    ap (is_equality n rows) (sym z) ∙ slack_equality n rows (j - n) r (omega arith) e

-- members by their place
pub Among-get_or : {A : Type 0} (xs : List A) (i : ℕ) (d : A) → i < length xs → Among (get_or xs i d) xs
Among-get_or [] i d h = absurd (omega arith)
Among-get_or (x ∷ xs) zero d h = inl refl
Among-get_or (x ∷ xs) (suc i) d h = inr (Among-get_or xs i d (omega arith))

pub place_of : {A : Type 0} (xs : List A) (x d : A) → Among x xs → (i : ℕ) × (i < length xs) × (x ≡ get_or xs i d)
place_of [] x d h = absurd h
place_of {A} (y ∷ xs) x d h = elim h as (λ _. (i : ℕ) × (i < length (y ∷ xs)) × (x ≡ get_or (y ∷ xs) i d)) [
  | inl e ↦ (0, omega arith, e)
  | inr m ↦ let r : (i : ℕ) × (i < length xs) × (x ≡ get_or xs i d) = place_of xs x d m in let q : r.0 < length xs = r.1 in (suc r.0, omega (arith, q), r.2)
]

pub line_placed : (one : ℕ) (basis : List ℕ) (l : Line) → IsLine one basis l → IsPlaced one l
line_placed one basis l h = (let q = h.long in omega (arith, q), h.inside)

-- the line at a place of a form
pub form_placed : (n : ℕ) (rows : List LinRow) (form : List Line) (i : ℕ) (l : Line) → IsForm n rows form → i < length form → l ≡ get_or form i l → IsPlaced (one_of n rows) l
form_placed n rows form i l h k e =
    line_placed (one_of n rows) (basis_of form) l
    (of_all (IsLine (one_of n rows) (basis_of form)) form l h.lines (subst (λ (x : Line). Among x form) (sym e) (Among-get_or form i l k)))

-- the best among the first lines
abbrev pub IsBest : ℕ → List LinRow → List Line → ℕ → Option ℕ → Type 0
IsBest n rows form i None = (k : ℕ) → k < i → IsBroken n rows (line_at form k) → ⊥
IsBest n rows form i (Some b) =
    (b < i) × IsBroken n rows (line_at form b) × ((k : ℕ) → k < i → IsBroken n rows (line_at form k) → (line_at form b).0 ≤ (line_at form k).0)

last_or_before : (k i : ℕ) → k < i + 1 → (k ≡ i) ⊎ (k < i)
last_or_before k i h = grind arith

pub best_start : (n : ℕ) (rows : List LinRow) (form : List Line) → IsBest n rows form 0 None
best_start n rows form = λ k h. absurd (omega (arith, h))

pub best_skip : (n : ℕ) (rows : List LinRow) (form : List Line) (i : ℕ) (best : Option ℕ) → IsBest n rows form i best → (IsBroken n rows (line_at form i) → ⊥)
    → IsBest n rows form (i + 1) best
best_skip n rows form i None h k = λ j l b. elim (last_or_before j i l) as (λ _. ⊥) [ inl e ↦ k (subst (λ (x : ℕ). IsBroken n rows (line_at form x)) e b) | inr s ↦ h j s b ]
best_skip n rows form i (Some b) h k = (
  let q : b < i = h.0 in omega (arith, q),
  h.1,
  λ j l x. elim (last_or_before j i l) as (λ _. (line_at form b).0 ≤ (line_at form j).0) [
    | inl e ↦ absurd (k (subst (λ (y : ℕ). IsBroken n rows (line_at form y)) e x))
    | inr s ↦ h.2 j s x
  ],
)

pub best_take : (n : ℕ) (rows : List LinRow) (form : List Line) (i j : ℕ) (best : Option ℕ) → IsBest n rows form i best → IsBroken n rows (line_at form i)
    → IsLesser form best i j → IsBest n rows form (i + 1) (Some j)
best_take n rows form i j None h b e = (
  omega (arith, e),
  subst (λ (x : ℕ). IsBroken n rows (line_at form x)) (sym e) b,
  λ k l x. elim (last_or_before k i l) as (λ _. (line_at form j).0 ≤ (line_at form k).0) [
    | inl y ↦ let z : (line_at form j).0 ≡ (line_at form k).0 = ap (λ t. (line_at form t).0) (e ∙ sym y) in omega (arith, z)
    | inr s ↦ absurd (h k s x)
  ],
)
best_take n rows form i j (Some c) h b e = elim e as (λ _. IsBest n rows form (i + 1) (Some j)) [
  | inl y ↦
      let same : j ≡ c = y.0 in
      let le : (line_at form c).0 ≤ (line_at form i).0 = y.1 in
      let q : c < i = h.0 in (
        omega (arith, same, q),
        subst (λ (x : ℕ). IsBroken n rows (line_at form x)) (sym same) h.1,
        λ k l x.
            subst (λ (t : ℕ). (line_at form t).0 ≤ (line_at form k).0) (sym same) (elim (last_or_before k i l) as (λ _. (line_at form c).0 ≤ (line_at form k).0) [
              | inl z ↦ subst (λ (t : ℕ). (line_at form c).0 ≤ (line_at form t).0) (sym z) le
              | inr s ↦ h.2 k s x
            ]),
      )
  | inr y ↦
      let same : j ≡ i = y.0 in
      let lt : (line_at form i).0 < (line_at form c).0 = y.1 in (
        omega (arith, same),
        subst (λ (x : ℕ). IsBroken n rows (line_at form x)) (sym same) b,
        λ k l x.
            subst (λ (t : ℕ). (line_at form t).0 ≤ (line_at form k).0) (sym same) (elim (last_or_before k i l) as (λ _. (line_at form i).0 ≤ (line_at form k).0) [
              | inl z ↦ subst (λ (t : ℕ). (line_at form i).0 ≤ (line_at form t).0) (sym z) (omega arith)
              | inr s ↦ let le : (line_at form c).0 ≤ (line_at form k).0 = h.2 k s x in omega (arith, lt, le)
            ]),
      )
]

pub best_inside : (n : ℕ) (rows : List LinRow) (form : List Line) (i : ℕ) (best : Option ℕ) → IsBest n rows form i best → i ≤ length form → IfSome best (λ b. b < length form)
best_inside n rows form i None h k = tt
best_inside n rows form i (Some b) h k = let q : b < i = h.0 in omega (arith, q)

pub best_none : (n : ℕ) (rows : List LinRow) (form : List Line) (i : ℕ) → IsBest n rows form i None → length form ≤ i → NoneBroken n rows form
best_none n rows form i h k = λ l m b.
    let r : (j : ℕ) × (j < length form) × (l ≡ get_or form j (0, [])) = place_of form l (0, []) m in
    let q : r.0 < length form = r.1 in
    h r.0 (omega (arith, q)) (subst (IsBroken n rows) r.2 b)

pub best_some : (n : ℕ) (rows : List LinRow) (form : List Line) (i b : ℕ) → IsBest n rows form i (Some b) → i ≡ length form → IsLeastAt n rows form b
best_some n rows form i b h k =
    let inside : b < length form = (let q : b < i = h.0 in omega (arith, q, k)) in
    record {
      inside = inside;
      least = record {
        stands = Among-get_or form b (0, []) inside;
        broken = h.1;
        least = λ l m x.
            let r : (j : ℕ) × (j < length form) × (l ≡ get_or form j (0, [])) = place_of form l (0, []) m in
            let q : r.0 < length form = r.1 in
            subst (λ (t : Line). (line_at form b).0 ≤ t.0) (sym r.2) (h.2 r.0 (omega (arith, q, k)) (subst (IsBroken n rows) r.2 x));
      };
    }

pub best_end : (n : ℕ) (rows : List LinRow) (form : List Line) (i : ℕ) (best : Option ℕ) → IsBest n rows form i best → i ≡ length form
    → MatchOption best (NoneBroken n rows form) (IsLeastAt n rows form)
best_end n rows form i None h k = best_none n rows form i h (omega (arith, k))
best_end n rows form i (Some b) h k = best_some n rows form i b h k
