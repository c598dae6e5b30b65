-- The walk of the code, and what it answers.
use Rattle.std.specs.Prelude.{◌≡◌, ◌≢◌, ℕ, zero, suc, ◌+◌, ◌^◌, ◌<◌, ◌≤◌, ◌⊎◌, false, List, [], ◌∷◌, ◌++◌, length, get_or, ℤ, pos, ◌<ℤ◌, ◌≤ℤ◌, ◌-◌, unsigned_abs, refl}
use Rattle.std.proofs.Common.{ap, sym, ◌∙◌, subst, inl, inr, arith}
use Rattle.std.proofs.lemmas.Int.{ints}
use Rattle.std.proofs.lemmas.List.{length_push}
use Rattle.std.proofs.lemmas.List.Elements.{All-nil, All-cons, All-take, All-drop, All-get_or}
use Rattle.simplex_core.specs.declared.row.LinRow.{LinRow}
use Rattle.simplex_core.specs.declared.solved.Pivot.{Pivot}
use Rattle.simplex_core.specs.declared.solved.Solved.{Solved}
use Rattle.simplex_core.specs.declared.solved.Solved.TheVariants.{Point, Farkas, Turns, Size}
use Rattle.simplex_core.specs.Rows.{unknowns, AreWide, IsPoint}
use Rattle.simplex_core.specs.Form.{at, Among, one_of, Line, basis_of, IsForm}
use Rattle.simplex_core.specs.Walk.{is_equality, shortfall, IsBroken, CanMend, IsDue, Leads, IsWalk, AreNarrow, IsNarrow, choose}
use Rattle.simplex_core.specs.Farkas.{IsFarkas}
use Rattle.simplex_core.specs.Solved.{IfPoint, IfFarkas, IfTurns, IfSize, EndsDue, EndsWide, AreFormsNarrow, LeavesTurns, IsAnswer}
use Rattle.simplex_core.specs.machine.Tableau.{turned, pivoted, first_lines, slacks_of, NoneBroken, NoneMends, line_at, IsLeastAt, IsFirstMender, AreValues}
use Rattle.simplex_core.proofs.ExchangeLaws.{same_or_not}
use Rattle.simplex_core.proofs.FormLaws.{mender_nonzero, next_form, turn}
use Rattle.simplex_core.proofs.CountLaws.{few_pivots}
use Rattle.simplex_core.proofs.StartLaws.{first_form, first_basis}
use Rattle.simplex_core.proofs.FarkasLaws.{farkas_below, farkas_above, line_in}
use Rattle.simplex_core.proofs.PointLaws.{spot_solves}
use Rattle.simplex_core.proofs.ChoiceLaws.{place_of}
use Rattle.simplex_core.proofs.ExchangeSteps.{turned_narrow, turned_below, turned_above}
use Rattle.mm_num.proofs.BoolLaws.{contrary}
use Rattle.mm_num.proofs.TestLaws.{sign_cases, positive}

-- some way along the walk
pub record IsAlong (rows : List LinRow) (n turns : ℕ) (lines : List Line) (ps : List Pivot) (left : ℕ) : Type 0 where
  pub form : IsForm n rows lines
  pub leads : Leads n rows (first_lines n (length rows) 0 rows) ps lines
  pub count : length ps + left ≡ turns

pub along_start : (rows : List LinRow) (n turns : ℕ) → AreWide n rows → IsAlong rows n turns (first_lines n (length rows) 0 rows) [] turns
along_start rows n turns w = record { form = first_form n rows w; leads = refl; count = omega arith }

not_below : (i k : ℕ) → (k < i → ⊥) → i ≤ k
not_below i k h = grind arith

-- the basic variables other than the line's have no number there, and its own can't mend it
mender_outside : (n : ℕ) (rows : List LinRow) (lines : List Line) (l : Line) (e : ℕ) → IsForm n rows lines → Among l lines → IsBroken n rows l → CanMend n rows l e
    → Among e (basis_of lines) → ⊥
mender_outside n rows lines l e h m broken mends b = elim (same_or_not e l.0) as (λ _. ⊥) [
  | inr d ↦ mender_nonzero n rows l e mends ((line_in n rows lines l h m).others e b d)
  | inl y ↦ elim mends as (λ _. ⊥) [
    | inl a ↦ let p : e < n = a.0 in let q : n ≤ l.0 = broken.0 in omega (arith, p, q, y)
    | inr a ↦
        let own : pos 0 <ℤ at l.1 e = subst (λ (x : ℕ). pos 0 <ℤ at l.1 x) (sym y) (line_in n rows lines l h m).own in
        let free : is_equality n rows l.0 ≡ false = ap (is_equality n rows) (sym y) ∙ a.1 in
        elim a.2 as (λ _. ⊥) [
          | inl c ↦ let q : at l.1 e <ℤ pos 0 = c.1 in omega (arith, ints, q, own)
          | inr c ↦ let q : shortfall n rows l <ℤ pos 0 = c.0 in elim broken.1 as (λ _. ⊥) [
            | inl x ↦ omega (arith, ints, q, x)
            | inr x ↦ contrary (is_equality n rows l.0) x.0 free
          ]
        ]
  ]
]

-- the pivot at the least broken slack's line and its first mender is due
pub is_due : (n : ℕ) (rows : List LinRow) (lines : List Line) (i : ℕ) (p : Pivot) → IsForm n rows lines → IsLeastAt n rows lines i → IsFirstMender n rows (line_at lines i) p.enters
    → p.leaves ≡ (line_at lines i).0 → IsDue n rows lines (line_at lines i) p
is_due n rows lines i p h least first e = record {
  line = least.least;
  leaves = e;
  outside = (first.inside, mender_outside n rows lines (line_at lines i) p.enters h least.least.stands least.least.broken first.mends);
  mends = first.mends;
  first = λ k o c. not_below p.enters k (λ less. first.first k less c);
}

pub along_next : (rows : List LinRow) (n turns : ℕ) (lines : List Line) (ps : List Pivot) (left i : ℕ) (p : Pivot) → IsAlong rows n turns lines ps left → 0 < left
    → IsLeastAt n rows lines i → IsFirstMender n rows (line_at lines i) p.enters → p.leaves ≡ (line_at lines i).0
    → IsAlong rows n turns (pivoted (line_at lines i).0 p.enters (turned p.enters (line_at lines i).1) lines) (ps ++ p ∷ []) (left - 1)
along_next rows n turns lines ps left i p h some least first e =
    let due : IsDue n rows lines (line_at lines i) p = is_due n rows lines i p h.form least first e in
    record {
      form = next_form n rows lines (line_at lines i) p h.form due;
      leads = turn n rows (first_lines n (length rows) 0 rows) lines ps (line_at lines i) p h.form h.leads due;
      count = let q = h.count in let r = length_push ps p in omega (arith, q, r, some);
    }

pub along_walk : (rows : List LinRow) (n turns : ℕ) (lines : List Line) (ps : List Pivot) (left : ℕ) → AreWide n rows → IsAlong rows n turns lines ps left → IsWalk n rows ps lines
along_walk rows n turns lines ps left w h = (first_lines n (length rows) 0 rows, first_form n rows w, first_basis n rows, h.leads)

-- what it leaves of the turns
pub along_left : (rows : List LinRow) (n turns : ℕ) (lines : List Line) (ps : List Pivot) (left : ℕ) → n ≡ unknowns rows → AreWide n rows → IsAlong rows n turns lines ps left
    → LeavesTurns rows turns left
along_left rows n turns lines ps left e w h = record {
  pivots = ps;
  form = lines;
  walk = subst (λ (k : ℕ). IsWalk k rows ps lines) e (along_walk rows n turns lines ps left w h);
  count = h.count;
}

narrow_or_wide : (c : ℤ) → (unsigned_abs c < 2 ^ 30) ⊎ (2 ^ 30 ≤ unsigned_abs c)
narrow_or_wide c = grind (arith, ints)

-- a number that isn't below 2^30
wide_number : (cs : List ℤ) → (AreNarrow cs → ⊥) → (i : ℕ) × (2 ^ 30 ≤ unsigned_abs (at cs i))
wide_number [] h = absurd (h (All-nil (λ c. unsigned_abs c < 2 ^ 30)))
wide_number (c ∷ cs) h = elim (narrow_or_wide c) as (λ _. (i : ℕ) × (2 ^ 30 ≤ unsigned_abs (at (c ∷ cs) i))) [
  | inr w ↦ (0, w)
  | inl q ↦
      let r : (i : ℕ) × (2 ^ 30 ≤ unsigned_abs (at cs i)) = wide_number cs (λ k. h (All-cons (λ x. unsigned_abs x < 2 ^ 30) c cs q k)) in
      (suc r.0, r.1)
]

-- whether all are below 2^30
narrow_test : (cs : List ℤ) → AreNarrow cs ⊎ (AreNarrow cs → ⊥)
narrow_test [] = inl (All-nil (λ c. unsigned_abs c < 2 ^ 30))
narrow_test (c ∷ cs) = elim (narrow_or_wide c) as (λ _. AreNarrow (c ∷ cs) ⊎ (AreNarrow (c ∷ cs) → ⊥)) [
  | inr w ↦ inr (λ k. let q : unsigned_abs c < 2 ^ 30 = k 0 (pos 0) (omega arith) in omega (arith, q, w))
  | inl q ↦ elim (narrow_test cs) as (λ _. AreNarrow (c ∷ cs) ⊎ (AreNarrow (c ∷ cs) → ⊥)) [
    | inl k ↦ inl (All-cons (λ x. unsigned_abs x < 2 ^ 30) c cs q k)
    | inr d ↦ inr (λ k. d (λ i x less. k (suc i) x (omega (arith, less))))
  ]
]

pub wide_line : (lines : List Line) → (IsNarrow lines → ⊥) → (l : Line) × Among l lines × (i : ℕ) × (2 ^ 30 ≤ unsigned_abs (at l.1 i))
wide_line [] h = absurd (h (All-nil (λ l. AreNarrow l.1)))
wide_line (l ∷ lines) h = elim (narrow_test l.1) as (λ _. (k : Line) × Among k (l ∷ lines) × (i : ℕ) × (2 ^ 30 ≤ unsigned_abs (at k.1 i))) [
  | inr d ↦ let r : (i : ℕ) × (2 ^ 30 ≤ unsigned_abs (at l.1 i)) = wide_number l.1 d in (l, inl refl, r.0, r.1)
  | inl q ↦
      let r : (k : Line) × Among k lines × (i : ℕ) × (2 ^ 30 ≤ unsigned_abs (at k.1 i)) = wide_line lines (λ k. h (All-cons (λ (x : Line). AreNarrow x.1) l lines q k)) in
      (r.0, inr r.1, r.2, r.3)
]

pub size_end : (rows : List LinRow) (n turns : ℕ) (lines : List Line) (ps : List Pivot) (left : ℕ) → n ≡ unknowns rows → AreWide n rows → IsAlong rows n turns lines ps left
    → (IsNarrow lines → ⊥) → EndsWide rows turns ps
size_end rows n turns lines ps left e w h wide =
    let r : (k : Line) × Among k lines × (i : ℕ) × (2 ^ 30 ≤ unsigned_abs (at k.1 i)) = wide_line lines wide in
    record {
      form = lines;
      walk = subst (λ (k : ℕ). IsWalk k rows ps lines) e (along_walk rows n turns lines ps left w h);
      count = let q = h.count in omega (arith, q);
      line = r.0;
      stands = r.1;
      place = r.2;
      wide = r.3;
    }

pub turns_end : (rows : List LinRow) (n turns : ℕ) (lines : List Line) (ps : List Pivot) (i enters : ℕ) → n ≡ unknowns rows → AreWide n rows → IsAlong rows n turns lines ps 0
    → IsLeastAt n rows lines i → IsFirstMender n rows (line_at lines i) enters → EndsDue rows turns ps
turns_end rows n turns lines ps i enters e w h least first = record {
  form = lines;
  walk = subst (λ (k : ℕ). IsWalk k rows ps lines) e (along_walk rows n turns lines ps 0 w h);
  count = let q = h.count in omega (arith, q);
  line = line_at lines i;
  next = record { leaves = (line_at lines i).0; enters = enters };
  due = subst (λ (k : ℕ). IsDue k rows lines (line_at lines i) (record { leaves = (line_at lines i).0; enters = enters })) e
      (is_due n rows lines i (record { leaves = (line_at lines i).0; enters = enters }) h.form least first refl);
}

pub point_end : (rows : List LinRow) (n : ℕ) (lines : List Line) (xs : List (ℤ × ℤ)) → n ≡ unknowns rows → AreWide n rows → IsForm n rows lines
    → NoneBroken n rows lines → length xs ≡ n → AreValues (one_of n rows) lines 0 xs → IsPoint rows xs
point_end rows n lines xs e w h none l a = spot_solves n rows lines xs w e h none l a

pub farkas_end : (rows : List LinRow) (n : ℕ) (lines : List Line) (i : ℕ) → AreWide n rows → IsForm n rows lines → IsNarrow lines → IsLeastAt n rows lines i
    → ((e : ℕ) → e < one_of n rows → CanMend n rows (line_at lines i) e → ⊥)
    → IsFarkas rows (slacks_of n (length rows) (turned (n + length rows) (line_at lines i).1)) × AreNarrow (slacks_of n (length rows) (turned (n + length rows) (line_at lines i).1))
farkas_end rows n lines i w h narrow least none =
    let l : Line = line_at lines i in
    let broken : IsBroken n rows (line_at lines i) = least.least.broken in
    let mends : NoneMends n rows lines (line_at lines i) = λ e o c. none e o.0 c in
    let numbers : AreNarrow (line_at lines i).1 = All-get_or (λ k. AreNarrow k.1) lines i (0, []) least.inside narrow in (
      elim (sign_cases (at (line_at lines i).1 (n + length rows))) as (λ _. IsFarkas rows (slacks_of n (length rows) (turned (n + length rows) (line_at lines i).1))) [
        | inl below ↦ elim broken.1 as (λ _. IsFarkas rows (slacks_of n (length rows) (turned (n + length rows) (line_at lines i).1))) [
          | inl x ↦ absurd (omega (arith, ints, below, x))
          | inr x ↦ subst (λ (cs : List ℤ). IsFarkas rows (slacks_of n (length rows) cs)) (sym (turned_below (n + length rows) (line_at lines i).1 below))
              (farkas_above n rows lines (line_at lines i) w h least.least.stands broken.0 mends x.0 below)
        ]
        | inr above ↦ subst (λ (cs : List ℤ). IsFarkas rows (slacks_of n (length rows) cs)) (sym (turned_above (n + length rows) (line_at lines i).1 above))
            (farkas_below n rows lines (line_at lines i) w h least.least.stands broken.0 mends (elim broken.1 as (λ _. pos 0 <ℤ shortfall n rows (line_at lines i)) [
              | inl x ↦ x
              | inr x ↦ positive (shortfall n rows (line_at lines i)) above x.1
            ]))
      ],
      All-take (λ c. unsigned_abs c < 2 ^ 30) (length rows) _
          (All-drop (λ c. unsigned_abs c < 2 ^ 30) n (turned (n + length rows) (line_at lines i).1) (turned_narrow (n + length rows) (line_at lines i).1 numbers)),
    )

-- a form at the end of pivots
pub leads_form : (n : ℕ) (rows : List LinRow) (f g : List Line) (ps : List Pivot) → IsForm n rows f → Leads n rows f ps g → IsForm n rows g
leads_form n rows f g [] h e = subst (IsForm n rows) e h
leads_form n rows f g (p ∷ ps) h w = leads_form n rows w.1 g ps w.3 w.5

-- each part of what an answer says
pub answer_point : (rows : List LinRow) (turns : ℕ) (s : Solved) → IsAnswer rows turns s → IfPoint (IsPoint rows) s
answer_point rows turns (Point xs) h = h
answer_point rows turns (Farkas ms) h = tt
answer_point rows turns (Turns ps) h = tt
answer_point rows turns (Size ps) h = tt

pub answer_farkas : (rows : List LinRow) (turns : ℕ) (s : Solved) → IsAnswer rows turns s → IfFarkas (IsFarkas rows) s
answer_farkas rows turns (Point xs) h = tt
answer_farkas rows turns (Farkas ms) h = h.0
answer_farkas rows turns (Turns ps) h = tt
answer_farkas rows turns (Size ps) h = tt

pub answer_narrow : (rows : List LinRow) (turns : ℕ) (s : Solved) → IsAnswer rows turns s → IfFarkas AreNarrow s
answer_narrow rows turns (Point xs) h = tt
answer_narrow rows turns (Farkas ms) h = h.1
answer_narrow rows turns (Turns ps) h = tt
answer_narrow rows turns (Size ps) h = tt

pub answer_turns : (rows : List LinRow) (turns : ℕ) (s : Solved) → IsAnswer rows turns s → IfTurns (EndsDue rows turns) s
answer_turns rows turns (Point xs) h = tt
answer_turns rows turns (Farkas ms) h = tt
answer_turns rows turns (Turns ps) h = h
answer_turns rows turns (Size ps) h = tt

pub answer_size : (rows : List LinRow) (turns : ℕ) (s : Solved) → IsAnswer rows turns s → IfSize (EndsWide rows turns) s
answer_size rows turns (Point xs) h = tt
answer_size rows turns (Farkas ms) h = tt
answer_size rows turns (Turns ps) h = tt
answer_size rows turns (Size ps) h = h

-- so many turns are enough
too_many : (rows : List LinRow) (turns : ℕ) (ps : List Pivot) → EndsDue rows turns ps → choose (one_of (unknowns rows) rows) (length rows) ≤ turns → ⊥
too_many rows turns ps h enough =
    let few = few_pivots (unknowns rows) rows h.walk.0 h.form ps h.walk.1 h.walk.3 in
    let count = h.count in
    omega (arith, few, count, enough)

pub answer_enough : (rows : List LinRow) (turns : ℕ) (s : Solved) → choose (one_of (unknowns rows) rows) (length rows) ≤ turns → IsAnswer rows turns s → IfTurns (λ ps. ⊥) s
answer_enough rows turns (Point xs) e h = tt
answer_enough rows turns (Farkas ms) e h = tt
answer_enough rows turns (Turns ps) e h = too_many rows turns ps.items h e
answer_enough rows turns (Size ps) e h = tt

inside_or_past : (cs : List ℤ) (i : ℕ) → (i < length cs) ⊎ (at cs i ≡ pos 0)
inside_or_past [] i = inr refl
inside_or_past (c ∷ cs) zero = inl (omega arith)
inside_or_past (c ∷ cs) (suc i) = elim (inside_or_past cs i) as (λ _. (suc i < length (c ∷ cs)) ⊎ (at (c ∷ cs) (suc i) ≡ pos 0)) [
  | inl h ↦ inl (omega (arith, h))
  | inr z ↦ inr z
]

too_wide : (rows : List LinRow) (turns : ℕ) (ps : List Pivot) → EndsWide rows turns ps → AreFormsNarrow rows → ⊥
too_wide rows turns ps h narrow =
    let all : IsNarrow h.form = narrow h.form (leads_form (unknowns rows) rows h.walk.0 h.form ps h.walk.1 h.walk.3) in
    let r : (i : ℕ) × (i < length h.form) × (h.line ≡ get_or h.form i (0, [])) = place_of h.form h.line (0, []) h.stands in
    let line : AreNarrow h.line.1 = subst (λ (l : Line). AreNarrow l.1) (sym r.2) (All-get_or (λ l. AreNarrow l.1) h.form r.0 (0, []) r.1 all) in
    let wide : 2 ^ 30 ≤ unsigned_abs (at h.line.1 h.place) = h.wide in
    elim (inside_or_past h.line.1 h.place) as (λ _. ⊥) [
      | inl q ↦ let k : unsigned_abs (at h.line.1 h.place) < 2 ^ 30 = All-get_or (λ c. unsigned_abs c < 2 ^ 30) h.line.1 h.place (pos 0) q line in omega (arith, k, wide)
      | inr z ↦ let k : unsigned_abs (at h.line.1 h.place) ≡ 0 = ap unsigned_abs z in omega (arith, k, wide)
    ]

pub answer_forms : (rows : List LinRow) (turns : ℕ) (s : Solved) → AreFormsNarrow rows → IsAnswer rows turns s → IfSize (λ ps. ⊥) s
answer_forms rows turns (Point xs) e h = tt
answer_forms rows turns (Farkas ms) e h = tt
answer_forms rows turns (Turns ps) e h = tt
answer_forms rows turns (Size ps) e h = too_wide rows turns ps.items h e
