-- Where nothing can mend a broken slack, its equation holds multipliers that refute the rows.
use Rattle.std.specs.Prelude.{◌≡◌, ◌≢◌, ℕ, zero, suc, ◌+◌, ◌-◌, ◌<◌, ◌≤◌, ◌⊎◌, true, false, if◌then◌else◌, ◌==◌, nat_lt, List, [], ◌∷◌, ◌++◌, length, take, drop, ℤ, pos, negsuc, ◌+ℤ◌, ◌*ℤ◌, ◌≤ℤ◌, ◌<ℤ◌, neg_ℤ, refl}
use Rattle.std.proofs.Common.{ap, sym, ◌∙◌, subst, inl, inr, arith}
use Rattle.std.proofs.lemmas.Int.{ints}
use Rattle.std.proofs.lemmas.List.{take-map, drop-map, take-append-drop, length-take, length-drop, get_or-take, get_or-drop}
use Rattle.std.proofs.Math.IntN.{*ℤ_comm}
use Rattle.simplex_core.specs.declared.row.LinRow.{LinRow}
use Rattle.simplex_core.specs.Rows.{dot, row_value, AreWide}
use Rattle.simplex_core.specs.Form.{at, Among, one_of, Follows, IsOfRows, Line, basis_of, IsLine, IsForm}
use Rattle.simplex_core.specs.Walk.{is_equality, shortfall}
use Rattle.simplex_core.specs.Farkas.{sum_at, sum_constants, AreSigned, IsFarkas}
use Rattle.simplex_core.specs.machine.Tableau.{negated, slacks_of, NoneMends}
use Rattle.simplex_core.proofs.DotLaws.{length-negated, at-negated, dot-negated, from, dot-agrees, dot-append, dot_one, dot_zero}
use Rattle.simplex_core.proofs.ExchangeLaws.{other_test, same_or_not, among_or_not, of_all}
use Rattle.mm_num.proofs.BoolLaws.{contrary}
use Rattle.mm_num.proofs.TestLaws.{sign_cases, number_test, past_test, below_test}
use Rattle.mm_num.proofs.Ring.{mul_zero}

-- the values of the rows at unknowns x over h, and h after them
abbrev pub at_rows : (ℕ → ℤ) → ℤ → List LinRow → ℕ → ℤ
at_rows x h [] k = h
at_rows x h (r ∷ rs) zero = row_value x h r
at_rows x h (r ∷ rs) (suc k) = at_rows x h rs k

-- the point of the rows at unknowns x over h
abbrev pub point : ℕ → (ℕ → ℤ) → ℤ → List LinRow → (ℕ → ℤ)
point n x h rows = λ j. if nat_lt j n then x j else at_rows x h rows (j - n)

point_unknown : (n : ℕ) (x : ℕ → ℤ) (h : ℤ) (rows : List LinRow) (j : ℕ) → j < n → point n x h rows j ≡ x j
point_unknown n x h rows j l = ap (λ t. if t then x j else at_rows x h rows (j - n)) (below_test j n l)

point_slack : (n : ℕ) (x : ℕ → ℤ) (h : ℤ) (rows : List LinRow) (k : ℕ) → point n x h rows (n + k) ≡ at_rows x h rows k
point_slack n x h rows k =
    let z : n + k - n ≡ k = omega arith in
    ap (λ t. if t then x (n + k) else at_rows x h rows (n + k - n)) (past_test n k) ∙ ap (at_rows x h rows) z

at_rows_last : (x : ℕ → ℤ) (h : ℤ) (rows : List LinRow) → at_rows x h rows (length rows) ≡ h
at_rows_last x h [] = refl
at_rows_last x h (r ∷ rs) = at_rows_last x h rs

follows : (n i one : ℕ) (x : ℕ → ℤ) (h : ℤ) (rows : List LinRow) (v : ℕ → ℤ) → AreWide n rows → ((j : ℕ) → j < n → v j ≡ x j) → v one ≡ h
    → ((k : ℕ) → k < length rows → v (i + k) ≡ at_rows x h rows k) → Follows i one rows v
follows n i one x h [] v w a b c = tt
follows n i one x h (r ∷ rs) v w a b c =
    let z : i ≡ i + 0 = omega arith in (
      ap v z ∙ c 0 (omega arith)
          ∙ ap (λ t. t +ℤ r.constant *ℤ h) (sym (dot-agrees r.coeffs.items v x (λ j l. let q = w.0 in a j (omega (arith, l, q)))))
          ∙ ap (λ t. dot v r.coeffs.items +ℤ r.constant *ℤ t) (sym b),
      follows n (suc i) one x h rs v w.1 a b (λ k l. let y : suc i + k ≡ i + suc k = omega arith in ap v y ∙ c (suc k) (omega arith)),
    )

-- it is a point of the rows
pub point_of_rows : (n : ℕ) (x : ℕ → ℤ) (h : ℤ) (rows : List LinRow) → AreWide n rows → IsOfRows n rows (point n x h rows)
point_of_rows n x h rows w =
    follows n n (n + length rows) x h rows (point n x h rows) w (λ j l. point_unknown n x h rows j l)
    (point_slack n x h rows (length rows) ∙ at_rows_last x h rows) (λ k l. point_slack n x h rows k)

-- the combination of the rows' values
abbrev pub weighted : (ℕ → ℤ) → ℤ → List ℤ → List LinRow → ℤ
weighted x h (m ∷ ms) (r ∷ rs) = m *ℤ row_value x h r +ℤ weighted x h ms rs
weighted x h ms rs = pos 0

dot_weighted : (x : ℕ → ℤ) (h : ℤ) (ms : List ℤ) (rows : List LinRow) → length ms ≡ length rows → dot (at_rows x h rows) ms ≡ weighted x h ms rows
dot_weighted x h [] [] l = refl
dot_weighted x h [] (r ∷ rs) l = absurd (omega (arith, l))
dot_weighted x h (m ∷ ms) [] l = absurd (omega (arith, l))
dot_weighted x h (m ∷ ms) (r ∷ rs) l = ap (λ z. m *ℤ row_value x h r +ℤ z) (dot_weighted x h ms rs (omega (arith, l)))

-- 1 for the unknown i
unit : ℕ → ℕ → ℤ
unit i = λ j. if j == i then pos 1 else pos 0

unit_same : (i : ℕ) → unit i i ≡ pos 1
unfolding unit
unit_same i = ap (λ t. if t then pos 1 else pos 0) (number_test i i refl)

unit_other : (i j : ℕ) → j ≢ i → unit i j ≡ pos 0
unfolding unit
unit_other i j d = ap (λ t. if t then pos 1 else pos 0) (other_test j i d)

times_one : (a : ℤ) → a *ℤ pos 1 ≡ a
times_one (pos n) = omega (arith, ints)
times_one (negsuc n) = omega (arith, ints)

past : (cs : List ℤ) (i : ℕ) → length cs ≤ i → at cs i ≡ pos 0
past [] i h = refl
past (c ∷ cs) zero h = absurd (omega arith)
past (c ∷ cs) (suc i) h = past cs i (omega arith)

within_or_past : (i k : ℕ) → (i < k) ⊎ (k ≤ i)
within_or_past i k = grind arith

dot_unit : (cs : List ℤ) (i : ℕ) → dot (unit i) cs ≡ at cs i
dot_unit cs i = elim (within_or_past i (length cs)) as (λ _. dot (unit i) cs ≡ at cs i) [
  | inl l ↦
      dot_one cs (unit i) i l (λ j k d. ap (λ t. at cs j *ℤ t) (unit_other i j d) ∙ mul_zero (at cs j))
      ∙ ap (λ t. at cs i *ℤ t) (unit_same i) ∙ times_one (at cs i)
  | inr g ↦
      dot_zero cs (unit i) (λ j k. ap (λ t. at cs j *ℤ t) (unit_other i j (λ e. absurd (omega (arith, e, k, g)))) ∙ mul_zero (at cs j))
      ∙ sym (past cs i g)
]

weighted_unit : (i : ℕ) (ms : List ℤ) (rows : List LinRow) → weighted (unit i) (pos 0) ms rows ≡ sum_at i ms rows
weighted_unit i [] rows = refl
weighted_unit i (m ∷ ms) [] = refl
weighted_unit i (m ∷ ms) (r ∷ rs) =
    let a : row_value (unit i) (pos 0) r ≡ at r.coeffs.items i = (let p = dot_unit r.coeffs.items i in let q = mul_zero r.constant in omega (arith, ints, p, q)) in
    ap (λ z. m *ℤ z +ℤ weighted (unit i) (pos 0) ms rs) a ∙ ap (λ z. m *ℤ at r.coeffs.items i +ℤ z) (weighted_unit i ms rs)

weighted_constant : (ms : List ℤ) (rows : List LinRow) → weighted (λ j. pos 0) (pos 1) ms rows ≡ sum_constants ms rows
weighted_constant [] rows = refl
weighted_constant (m ∷ ms) [] = refl
weighted_constant (m ∷ ms) (r ∷ rs) =
    let a : row_value (λ j. pos 0) (pos 1) r ≡ r.constant =
    (let p = dot_zero r.coeffs.items (λ j. pos 0) (λ i l. mul_zero (at r.coeffs.items i)) in let q = times_one r.constant in omega (arith, ints, p, q)) in
    ap (λ z. m *ℤ z +ℤ weighted (λ j. pos 0) (pos 1) ms rs) a ∙ ap (λ z. m *ℤ r.constant +ℤ z) (weighted_constant ms rs)

one_left : (cs : List ℤ) → length cs ≡ 1 → cs ≡ at cs 0 ∷ []
one_left [] h = absurd (omega (arith, h))
one_left (c ∷ []) h = refl
one_left (c ∷ d ∷ cs) h = absurd (omega (arith, h))

-- the three parts of a line
parts : (n m : ℕ) (cs : List ℤ) → length cs ≡ suc (n + m) → cs ≡ take n cs ++ (slacks_of n m cs ++ (at cs (n + m) ∷ []))
parts n m cs h =
    let rest : List ℤ = drop m (drop n cs) in
    let a : length (drop m (drop n cs)) ≡ 1 = omega (arith, h, length-drop m (drop n cs), length-drop n cs) in
    let z : n + (m + 0) ≡ n + m = omega arith in
    let b : at (drop m (drop n cs)) 0 ≡ at cs (n + m) = get_or-drop m (drop n cs) 0 (pos 0) ∙ get_or-drop n cs (m + 0) (pos 0) ∙ ap (at cs) z in
    sym (take-append-drop n cs)
    ∙ ap (λ t. take n cs ++ t) (sym (take-append-drop m (drop n cs)))
    ∙ ap (λ t. take n cs ++ (slacks_of n m cs ++ t)) (one_left (drop m (drop n cs)) a ∙ ap (λ t. t ∷ []) b)

-- an equation of all points of the rows, without unknowns, which refutes
pub record IsRefuting (n : ℕ) (rows : List LinRow) (cs : List ℤ) : Type 0 where
  pub long : length cs ≡ suc (one_of n rows)
  pub holds : (v : ℕ → ℤ) → IsOfRows n rows v → dot v cs ≡ pos 0
  pub unknowns : (i : ℕ) → i < n → at cs i ≡ pos 0
  pub slacks : (i : ℕ) → n ≤ i → i < one_of n rows → is_equality n rows i ≡ false → pos 0 ≤ℤ at cs i
  pub constant : pos 0 <ℤ at cs (one_of n rows)

length-slacks : (n m : ℕ) (cs : List ℤ) → length cs ≡ suc (n + m) → length (slacks_of n m cs) ≡ m
length-slacks n m cs h = omega (arith, h, length-take m (drop n cs), length-drop n cs)

length-front : (n m : ℕ) (cs : List ℤ) → length cs ≡ suc (n + m) → length (take n cs) ≡ n
length-front n m cs h = omega (arith, h, length-take n cs)

-- its combination of the rows, and the constant
balanced : (n : ℕ) (rows : List LinRow) (cs : List ℤ) (x : ℕ → ℤ) (h : ℤ) → AreWide n rows → IsRefuting n rows cs
    → weighted x h (slacks_of n (length rows) cs) rows +ℤ at cs (one_of n rows) *ℤ h ≡ pos 0
balanced n rows cs x h w r =
    let v : ℕ → ℤ = point n x h rows in
    let ms : List ℤ = slacks_of n (length rows) cs in
    let k : ℤ = at cs (one_of n rows) in
    let long : length cs ≡ suc (n + length rows) = r.long in
    let whole : dot v (take n cs ++ (ms ++ (k ∷ []))) ≡ pos 0 = ap (dot v) (sym (parts n (length rows) cs long)) ∙ r.holds v (point_of_rows n x h rows w) in
    let a : dot v (take n cs ++ (ms ++ (k ∷ []))) ≡ dot v (take n cs) +ℤ dot (from n v) (ms ++ (k ∷ [])) =
    dot-append (take n cs) (ms ++ (k ∷ [])) v ∙ ap (λ s. dot v (take n cs) +ℤ dot (from s v) (ms ++ (k ∷ []))) (length-front n (length rows) cs long) in
    let b : dot v (take n cs) ≡ pos 0 = dot_zero (take n cs) v (λ i l.
    let less : i < n = (let q = length-front n (length rows) cs long in omega (arith, l, q)) in
    ap (λ t. t *ℤ v i) (get_or-take n cs i (pos 0) less ∙ r.unknowns i less) ∙ (*ℤ_comm (pos 0) (v i) ∙ mul_zero (v i))) in
    let c : dot (from n v) (ms ++ (k ∷ [])) ≡ dot (from n v) ms +ℤ dot (from (length rows) (from n v)) (k ∷ []) =
    dot-append ms (k ∷ []) (from n v) ∙ ap (λ s. dot (from n v) ms +ℤ dot (from s (from n v)) (k ∷ [])) (length-slacks n (length rows) cs long) in
    let d : dot (from n v) ms ≡ weighted x h ms rows =
    dot-agrees ms (from n v) (at_rows x h rows) (λ i l. point_slack n x h rows i) ∙ dot_weighted x h ms rows (length-slacks n (length rows) cs long) in
    let e : v (n + (length rows + 0)) ≡ h =
    (let z : length rows + 0 ≡ length rows = omega arith in ap (λ s. v (n + s)) z) ∙ point_slack n x h rows (length rows) ∙ at_rows_last x h rows in
    let f : k *ℤ v (n + (length rows + 0)) ≡ k *ℤ h = ap (λ t. k *ℤ t) e in
    omega (arith, ints, whole, a, b, c, d, f)

pub first_equality : (s : ℕ) (r : LinRow) (rs : List LinRow) → is_equality s (r ∷ rs) (s + 0) ≡ r.equal
first_equality s r rs = let z : s + 0 ≡ s = omega arith in ap (λ t. if t then r.equal else is_equality (suc s) rs (s + 0)) (number_test (s + 0) s z)

pub later_equality : (s k : ℕ) (r : LinRow) (rs : List LinRow) → is_equality s (r ∷ rs) (s + suc k) ≡ is_equality (suc s) rs (suc s + k)
later_equality s k r rs =
    let d : s + suc k ≢ s = λ e. absurd (omega (arith, e)) in
    let z : s + suc k ≡ suc s + k = omega arith in
    ap (λ t. if t then r.equal else is_equality (suc s) rs (s + suc k)) (other_test (s + suc k) s d) ∙ ap (is_equality (suc s) rs) z

signed : (s : ℕ) (rows : List LinRow) (ms : List ℤ) → ((k : ℕ) → k < length rows → is_equality s rows (s + k) ≡ false → pos 0 ≤ℤ at ms k) → AreSigned ms rows
signed s [] [] h = tt
signed s [] (m ∷ ms) h = tt
signed s (r ∷ rs) [] h = tt
signed s (r ∷ rs) (m ∷ ms) h =
    (λ e. h 0 (omega arith) (first_equality s r rs ∙ e), signed (suc s) rs ms (λ k l e. h (suc k) (omega arith) (later_equality s k r rs ∙ e)))

pub refuting_farkas : (n : ℕ) (rows : List LinRow) (cs : List ℤ) → AreWide n rows → IsRefuting n rows cs → IsFarkas rows (slacks_of n (length rows) cs)
refuting_farkas n rows cs w r = record {
  count = length-slacks n (length rows) cs r.long;
  signed = signed n rows (slacks_of n (length rows) cs) (λ k l e.
      subst (λ (z : ℤ). pos 0 ≤ℤ z) (sym (get_or-take (length rows) (drop n cs) k (pos 0) l ∙ get_or-drop n cs k (pos 0)))
      (r.slacks (n + k) (omega arith) (omega (arith, l)) e));
  unknowns = λ i.
      let a = balanced n rows cs (unit i) (pos 0) w r in
      let b = weighted_unit i (slacks_of n (length rows) cs) rows in
      let c = mul_zero (at cs (one_of n rows)) in
      omega (arith, ints, a, b, c);
  constant =
      let a = balanced n rows cs (λ j. pos 0) (pos 1) w r in
      let b = weighted_constant (slacks_of n (length rows) cs) rows in
      let c = times_one (at cs (one_of n rows)) in
      let d = r.constant in
      omega (arith, ints, a, b, c, d);
}

zero_or_not : (z : ℤ) → (z ≡ pos 0) ⊎ (z ≢ pos 0)
zero_or_not (pos zero) = inl refl
zero_or_not (pos (suc n)) = inr (λ e. absurd (omega (arith, ints, e)))
zero_or_not (negsuc n) = inr (λ e. absurd (omega (arith, ints, e)))

pub line_in : (n : ℕ) (rows : List LinRow) (form : List Line) (l : Line) → IsForm n rows form → Among l form → IsLine (one_of n rows) (basis_of form) l
line_in n rows form l h m = of_all (IsLine (one_of n rows) (basis_of form)) form l h.lines m

line_holds : (n : ℕ) (rows : List LinRow) (form : List Line) (l : Line) → IsForm n rows form → Among l form → (v : ℕ → ℤ) → IsOfRows n rows v → dot v l.1 ≡ pos 0
line_holds n rows form l h m v f = of_all (λ k. dot v k.1 ≡ pos 0) form l (h.holds v f) m

-- the unknowns have no numbers there
no_unknowns : (n : ℕ) (rows : List LinRow) (form : List Line) (l : Line) → IsForm n rows form → Among l form → n ≤ l.0 → NoneMends n rows form l
    → (i : ℕ) → i < n → at l.1 i ≡ pos 0
no_unknowns n rows form l h m low none i less = elim (zero_or_not (at l.1 i)) as (λ _. at l.1 i ≡ pos 0) [
  | inl z ↦ z
  | inr d ↦ elim (among_or_not i (basis_of form)) as (λ _. at l.1 i ≡ pos 0) [
    | inl b ↦ (line_in n rows form l h m).others i b (λ e. absurd (omega (arith, e, low, less)))
    | inr o ↦ absurd (none i (omega arith, o) (inl (less, d)))
  ]
]

-- a line below 0 at its own variable
pub farkas_below : (n : ℕ) (rows : List LinRow) (form : List Line) (l : Line) → AreWide n rows → IsForm n rows form → Among l form → n ≤ l.0 → NoneMends n rows form l
    → pos 0 <ℤ shortfall n rows l → IsFarkas rows (slacks_of n (length rows) l.1)
farkas_below n rows form l w h m low none below =
    let line : IsLine (one_of n rows) (basis_of form) l = line_in n rows form l h m in
    refuting_farkas n rows l.1 w (record {
      long = line.long;
      holds = line_holds n rows form l h m;
      unknowns = no_unknowns n rows form l h m low none;
      slacks = λ i a b e. elim (sign_cases (at l.1 i)) as (λ _. pos 0 ≤ℤ at l.1 i) [
        | inr ge ↦ ge
        | inl lt ↦ elim (among_or_not i (basis_of form)) as (λ _. pos 0 ≤ℤ at l.1 i) [
          | inr o ↦ absurd (none i (b, o) (inr (a, e, inl (below, lt))))
          | inl q ↦ elim (same_or_not i l.0) as (λ _. pos 0 ≤ℤ at l.1 i) [
            | inl y ↦ let own : pos 0 <ℤ at l.1 i = subst (λ (x : ℕ). pos 0 <ℤ at l.1 x) (sym y) line.own in absurd (omega (arith, ints, own, lt))
            | inr d ↦ let z : at l.1 i ≡ pos 0 = line.others i q d in omega (arith, ints, z)
          ]
        ]
      ];
      constant = below;
    })

flipped : (z : ℤ) → neg_ℤ z <ℤ pos 0 → pos 0 <ℤ z
flipped z h = omega (arith, ints)

-- the line of an equality's slack above 0
pub farkas_above : (n : ℕ) (rows : List LinRow) (form : List Line) (l : Line) → AreWide n rows → IsForm n rows form → Among l form → n ≤ l.0 → NoneMends n rows form l
    → is_equality n rows l.0 ≡ true → shortfall n rows l <ℤ pos 0 → IsFarkas rows (slacks_of n (length rows) (negated l.1))
farkas_above n rows form l w h m low none equal above =
    let line : IsLine (one_of n rows) (basis_of form) l = line_in n rows form l h m in
    refuting_farkas n rows (negated l.1) w (record {
      long = length-negated l.1 ∙ line.long;
      holds = λ v f. let p = dot-negated l.1 v in let q = line_holds n rows form l h m v f in omega (arith, ints, p, q);
      unknowns = λ i k. let p = at-negated l.1 i in let q = no_unknowns n rows form l h m low none i k in omega (arith, ints, p, q);
      slacks = λ i a b e.
          let p = at-negated l.1 i in
          elim (sign_cases (neg_ℤ (at l.1 i))) as (λ _. pos 0 ≤ℤ at (negated l.1) i) [
            | inr ge ↦ omega (arith, ints, p, ge)
            | inl lt ↦ elim (among_or_not i (basis_of form)) as (λ _. pos 0 ≤ℤ at (negated l.1) i) [
              | inr o ↦ absurd (none i (b, o) (inr (a, e, inr (above, flipped (at l.1 i) lt))))
              | inl q ↦ elim (same_or_not i l.0) as (λ _. pos 0 ≤ℤ at (negated l.1) i) [
                | inl y ↦ contrary (is_equality n rows i) (ap (is_equality n rows) y ∙ equal) e
                | inr d ↦ let z : at l.1 i ≡ pos 0 = line.others i q d in omega (arith, ints, p, z)
              ]
            ]
          ];
      constant = let p = at-negated l.1 (one_of n rows) in omega (arith, ints, p, above);
    })

-- the slacks' numbers of the other sign
pub slacks_of-negated : (n m : ℕ) (cs : List ℤ) → negated (take (n + m - n) (drop n cs)) ≡ slacks_of n m (negated cs)
slacks_of-negated n m cs =
    let z : n + m - n ≡ m = omega arith in
    ap (λ k. negated (take k (drop n cs))) z ∙ sym (take-map neg_ℤ m (drop n cs)) ∙ ap (take m) (sym (drop-map neg_ℤ n cs))

pub slacks_of-range : (n m : ℕ) (cs : List ℤ) → take (n + m - n) (drop n cs) ≡ slacks_of n m cs
slacks_of-range n m cs = let z : n + m - n ≡ m = omega arith in ap (λ k. take k (drop n cs)) z
