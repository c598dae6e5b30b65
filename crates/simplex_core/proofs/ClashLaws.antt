-- No walk meets a basis twice.
--
-- On the way from a basis back to it, each variable that moves both leaves and enters. Let t be the greatest of them.
-- It enters at one step, where s leaves, and leaves at another, at whose point t is below 0 and no other variable that
-- moves is. The equation of s at the first step holds at that point, but none of its terms is below 0 there, and the
-- constant's is above.
use Rattle.std.specs.Prelude.{◌≡◌, ◌≢◌, ℕ, zero, suc, ◌<◌, ◌≤◌, ◌⊎◌, false, List, ◌∷◌, ℤ, pos, negsuc, ◌*ℤ◌, ◌≤ℤ◌, ◌<ℤ◌, neg_ℤ}
use Rattle.std.proofs.Common.{ap, sym, ◌∙◌, subst, inl, inr, arith}
use Rattle.std.proofs.lemmas.Int.{ints}
use Rattle.std.proofs.Math.IntN.{*ℤ_comm}
use Rattle.mm_num.proofs.Ring.{product_positive, product_nonneg, neg_mul, mul_neg, mul_zero}
use Rattle.simplex_core.specs.declared.row.LinRow.{LinRow}
use Rattle.simplex_core.specs.declared.solved.Pivot.{Pivot}
use Rattle.simplex_core.specs.Rows.{dot}
use Rattle.simplex_core.specs.Form.{at, Among, one_of, Line, basis_of, IsLine, IsForm}
use Rattle.simplex_core.specs.Walk.{is_equality, shortfall, IsBroken, IsDue, Leads}
use Rattle.simplex_core.proofs.DotLaws.{dot_positive}
use Rattle.simplex_core.proofs.ExchangeLaws.{same_or_not, among_or_not, of_all, line_of}
use Rattle.simplex_core.proofs.SpotLaws.{IsSpot, has_spot, spot_nonneg, spot_negative}
use Rattle.simplex_core.proofs.WalkLaws.{entering, leaving, from_map, Step, step_of, Inside, left_enters, entered_leaves, unmoved, moves_slack, greatest}
use Rattle.mm_num.proofs.BoolLaws.{contrary}
use Rattle.mm_num.proofs.TestLaws.{sign_cases}

-- a step at which t enters, one at which it leaves, and the moves between
pub record Clash (n : ℕ) (rows : List LinRow) (f : List Line) (l : Line) (p : Pivot) (g : List Line) (k : Line) (q : Pivot) (t : ℕ) (moves : List ℕ) : Type 0 where
  pub first : IsForm n rows f
  pub enters : IsDue n rows f l p
  pub last : IsForm n rows g
  pub leaves : IsDue n rows g k q
  pub entered : p.enters ≡ t
  pub left : q.leaves ≡ t
  pub starts : Among p.leaves moves
  pub slacks : (x : ℕ) → Among x moves → (n ≤ x) × (is_equality n rows x ≡ false)
  pub top : (x : ℕ) → Among x moves → x ≤ t
  pub still : (x : ℕ) → (Among x moves → ⊥) → Among x (basis_of g) → Among x (basis_of f)
  pub moving : Among t moves

int_cases : (z : ℤ) → (pos 0 <ℤ z) ⊎ (z ≤ℤ pos 0)
int_cases (pos zero) = inr (omega (arith, ints))
int_cases (pos (suc n)) = inl (omega (arith, ints))
int_cases (negsuc n) = inr (omega (arith, ints))

-- the broken slack of an inequality is below 0
pub broken_below : (n : ℕ) (rows : List LinRow) (l : Line) → IsBroken n rows l → is_equality n rows l.0 ≡ false → pos 0 <ℤ shortfall n rows l
broken_below n rows l b e = elim b.1 as (λ _. pos 0 <ℤ shortfall n rows l) [ inl a ↦ a | inr a ↦ contrary (is_equality n rows l.0) a.0 e ]

-- the line at which t enters is below 0 at its own variable
first_below : (n : ℕ) (rows : List LinRow) (f : List Line) (l : Line) (p : Pivot) (g : List Line) (k : Line) (q : Pivot) (t : ℕ) (moves : List ℕ)
    → Clash n rows f l p g k q t moves → pos 0 <ℤ shortfall n rows l
first_below n rows f l p g k q t moves c =
    broken_below n rows l c.enters.line.broken (ap (is_equality n rows) (sym c.enters.leaves) ∙ (c.slacks p.leaves c.starts).1)

-- and its number at t is below 0
top_number : (n : ℕ) (rows : List LinRow) (f : List Line) (l : Line) (p : Pivot) (g : List Line) (k : Line) (q : Pivot) (t : ℕ) (moves : List ℕ)
    → Clash n rows f l p g k q t moves → at l.1 t <ℤ pos 0
top_number n rows f l p g k q t moves c =
    let below : pos 0 <ℤ shortfall n rows l = first_below n rows f l p g k q t moves c in
    let number : at l.1 p.enters <ℤ pos 0 = elim c.enters.mends as (λ _. at l.1 p.enters <ℤ pos 0) [
      | inl a ↦ let x : p.enters < n = a.0 in let y : n ≤ t = (c.slacks t c.moving).0 in let z : p.enters ≡ t = c.entered in absurd (omega (arith, x, y, z))
      | inr b ↦ elim b.2 as (λ _. at l.1 p.enters <ℤ pos 0) [
        | inl a ↦ a.1
        | inr a ↦ let x : shortfall n rows l <ℤ pos 0 = a.0 in absurd (omega (arith, ints, x, below))
      ]
    ] in
    subst (λ (x : ℕ). at l.1 x <ℤ pos 0) c.entered number

-- a smaller moving variable isn't below 0 at the point where t leaves
lower_value : (n : ℕ) (rows : List LinRow) (f : List Line) (l : Line) (p : Pivot) (g : List Line) (k : Line) (q : Pivot) (t : ℕ) (moves : List ℕ)
    → Clash n rows f l p g k q t moves → (v : ℕ → ℤ) → IsSpot n rows g v → (x : ℕ) → Among x moves → x < t → x < one_of n rows → pos 0 ≤ℤ v x
lower_value n rows f l p g k q t moves c v s x m less inside = elim (among_or_not x (basis_of g)) as (λ _. pos 0 ≤ℤ v x) [
  | inr out ↦ let z : v x ≡ pos 0 = s.outside x inside out in omega (arith, ints, z)
  | inl b ↦
      let r : (j : Line) × Among j g × (j.0 ≡ x) = line_of x g b in
      subst (λ (y : ℕ). pos 0 ≤ℤ v y) r.2 (spot_nonneg n rows g v r.0 c.last s r.1 (elim (int_cases (shortfall n rows r.0)) as (λ _. shortfall n rows r.0 ≤ℤ pos 0) [
        | inr le ↦ le
        | inl lt ↦
            let slack : n ≤ r.0.0 = subst (λ (y : ℕ). n ≤ y) (sym r.2) (c.slacks x m).0 in
            let low : k.0 ≤ r.0.0 = c.leaves.line.least r.0 r.1 (slack, inl lt) in
            let top : q.leaves ≡ t = c.left in
            let own : q.leaves ≡ k.0 = c.leaves.leaves in
            let same : r.0.0 ≡ x = r.2 in
            absurd (omega (arith, low, top, own, same, less))
      ]))
]

zero_product : (a b : ℤ) → b ≡ pos 0 → pos 0 ≤ℤ (a *ℤ b)
zero_product a b e = let z : a *ℤ b ≡ pos 0 = ap (λ t. a *ℤ t) e ∙ mul_zero a in omega (arith, ints, z)

zero_factor : (a b : ℤ) → a ≡ pos 0 → pos 0 ≤ℤ (a *ℤ b)
zero_factor a b e = let z : a *ℤ b ≡ pos 0 = *ℤ_comm a b ∙ ap (λ t. b *ℤ t) e ∙ mul_zero b in omega (arith, ints, z)

negative_product : (a b : ℤ) → a <ℤ pos 0 → b <ℤ pos 0 → pos 0 ≤ℤ (a *ℤ b)
negative_product a b h k =
    let p : pos 0 ≤ℤ (neg_ℤ a *ℤ neg_ℤ b) = product_nonneg (neg_ℤ a) (neg_ℤ b) (omega (arith, ints)) (omega (arith, ints)) in
    let q = neg_mul a (neg_ℤ b) in
    let r = mul_neg a b in
    omega (arith, ints, p, q, r)

at_most : (x t : ℕ) → x ≤ t → x ≢ t → x < t
at_most x t h d = grind arith

-- a term of the line at the point
term : (n : ℕ) (rows : List LinRow) (f : List Line) (l : Line) (p : Pivot) (g : List Line) (k : Line) (q : Pivot) (t : ℕ) (moves : List ℕ)
    → Clash n rows f l p g k q t moves → (v : ℕ → ℤ) → IsSpot n rows g v → (x : ℕ) → x < one_of n rows → pos 0 ≤ℤ (at l.1 x *ℤ v x)
term n rows f l p g k q t moves c v s x inside =
    let line : IsLine (one_of n rows) (basis_of f) l = of_all (IsLine (one_of n rows) (basis_of f)) f l c.first.lines c.enters.line.stands in
    let out : Among p.enters (basis_of f) → ⊥ = c.enters.outside.1 in
    elim (among_or_not x (basis_of f)) as (λ _. pos 0 ≤ℤ (at l.1 x *ℤ v x)) [
      | inl b ↦ elim (same_or_not x l.0) as (λ _. pos 0 ≤ℤ (at l.1 x *ℤ v x)) [
        | inr d ↦ zero_factor (at l.1 x) (v x) (line.others x b d)
        | inl e ↦
            let m : Among x moves = subst (λ (y : ℕ). Among y moves) (c.enters.leaves ∙ sym e) c.starts in
            let d : x ≢ t = λ z. out (subst (λ (y : ℕ). Among y (basis_of f)) (z ∙ sym c.entered) b) in
            let own : pos 0 <ℤ at l.1 x = subst (λ (y : ℕ). pos 0 <ℤ at l.1 y) (sym e) line.own in
            product_nonneg (at l.1 x) (v x) (omega (arith, ints, own)) (lower_value n rows f l p g k q t moves c v s x m (at_most x t (c.top x m) d) inside)
      ]
      | inr o ↦ elim (among_or_not x moves) as (λ _. pos 0 ≤ℤ (at l.1 x *ℤ v x)) [
        | inr still ↦ zero_product (at l.1 x) (v x) (s.outside x inside (λ b. o (c.still x still b)))
        | inl m ↦ elim (same_or_not x t) as (λ _. pos 0 ≤ℤ (at l.1 x *ℤ v x)) [
          | inl e ↦
              let number : at l.1 x <ℤ pos 0 = subst (λ (y : ℕ). at l.1 y <ℤ pos 0) (sym e) (top_number n rows f l p g k q t moves c) in
              let eq : is_equality n rows k.0 ≡ false = ap (is_equality n rows) (sym c.leaves.leaves ∙ c.left) ∙ (c.slacks t c.moving).1 in
              let value : v k.0 <ℤ pos 0 = spot_negative n rows g v k c.last s c.leaves.line.stands (broken_below n rows k c.leaves.line.broken eq) in
              negative_product (at l.1 x) (v x) number (subst (λ (y : ℕ). v y <ℤ pos 0) (sym c.leaves.leaves ∙ c.left ∙ sym e) value)
          | inr d ↦
              let less : x < t = at_most x t (c.top x m) d in
              let below : pos 0 <ℤ shortfall n rows l = first_below n rows f l p g k q t moves c in
              product_nonneg (at l.1 x) (v x)
              (elim (sign_cases (at l.1 x)) as (λ _. pos 0 ≤ℤ at l.1 x) [
                | inr ge ↦ ge
                | inl lt ↦
                    let sl : (n ≤ x) × (is_equality n rows x ≡ false) = c.slacks x m in
                    let late : p.enters ≤ x = c.enters.first x (inside, o) (inr (sl.0, sl.1, inl (below, lt))) in
                    let top : p.enters ≡ t = c.entered in
                    absurd (omega (arith, late, top, less))
              ])
              (lower_value n rows f l p g k q t moves c v s x m less inside)
        ]
      ]
    ]

small_or_last : (i one : ℕ) → i < suc one → (i ≡ one) ⊎ (i < one)
small_or_last i one h = grind arith

pub no_clash : (n : ℕ) (rows : List LinRow) (f : List Line) (l : Line) (p : Pivot) (g : List Line) (k : Line) (q : Pivot) (t : ℕ) (moves : List ℕ)
    → Clash n rows f l p g k q t moves → ⊥
no_clash n rows f l p g k q t moves c =
    let line : IsLine (one_of n rows) (basis_of f) l = of_all (IsLine (one_of n rows) (basis_of f)) f l c.first.lines c.enters.line.stands in
    let r : (v : ℕ → ℤ) × IsSpot n rows g v = has_spot n rows g c.last in
    let zero_there : dot r.0 l.1 ≡ pos 0 = of_all (λ x. dot r.0 x.1 ≡ pos 0) f l (c.first.holds r.0 (c.last.enough r.0 r.1.vanish)) c.enters.line.stands in
    let constant : pos 0 <ℤ (at l.1 (one_of n rows) *ℤ r.0 (one_of n rows)) =
    product_positive (at l.1 (one_of n rows)) (r.0 (one_of n rows)) (first_below n rows f l p g k q t moves c) r.1.one in
    let above : pos 0 <ℤ dot r.0 l.1 = dot_positive l.1 r.0 (one_of n rows) (let z = line.long in omega (arith, z)) constant (λ i m.
    let z = line.long in
    elim (small_or_last i (one_of n rows) (omega (arith, z, m))) as (λ _. pos 0 ≤ℤ (at l.1 i *ℤ r.0 i)) [
      | inl e ↦ subst (λ (y : ℕ). pos 0 ≤ℤ (at l.1 y *ℤ r.0 y)) (sym e) (omega (arith, ints, constant))
      | inr less ↦ term n rows f l p g k q t moves c r.0 r.1 i less
    ]) in
    absurd (omega (arith, ints, above, zero_there))

-- pivots, at least one, don't lead back to the same basis
pub no_return : (n : ℕ) (rows : List LinRow) (f g : List Line) (p : Pivot) (ps : List Pivot) → IsForm n rows f → Leads n rows f (p ∷ ps) g
    → Inside f g → Inside g f → ⊥
no_return n rows f g p ps hf w forth back =
    let moves : List ℕ = entering (p ∷ ps) in
    let top : (t : ℕ) × Among t (entering (p ∷ ps)) × ((y : ℕ) → Among y (entering (p ∷ ps)) → y ≤ t) = greatest p.enters (entering ps) in
    let e : (x : Pivot) × Among x (p ∷ ps) × (top.0 ≡ x.enters) = from_map (λ x. x.enters) top.0 (p ∷ ps) top.1 in
    let s : Step n rows f (p ∷ ps) g e.0 = step_of n rows f g (p ∷ ps) e.0 hf w e.1 in
    let lv : Among e.0.enters (leaving (p ∷ ps)) = entered_leaves n rows f g (p ∷ ps) e.0 back s in
    let d : (x : Pivot) × Among x (p ∷ ps) × (e.0.enters ≡ x.leaves) = from_map (λ x. x.leaves) e.0.enters (p ∷ ps) lv in
    let t : Step n rows f (p ∷ ps) g d.0 = step_of n rows f g (p ∷ ps) d.0 hf w d.1 in
    no_clash n rows s.here s.line e.0 t.here t.line d.0 top.0 (entering (p ∷ ps)) (record {
      first = s.form;
      enters = s.due;
      last = t.form;
      leaves = t.due;
      entered = sym e.2;
      left = sym d.2 ∙ sym e.2;
      starts = left_enters n rows f g (p ∷ ps) e.0 forth s e.1;
      slacks = λ x m. moves_slack n rows f g (p ∷ ps) x hf w back m;
      top = top.2;
      still = λ x no_entry m. unmoved n rows f g (p ∷ ps) e.0 d.0 x forth e.1 t s no_entry m;
      moving = top.1;
    })
