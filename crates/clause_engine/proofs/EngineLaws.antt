-- What an elimination and a box say of the clause.
use Rattle.std.specs.Prelude.{◌≡◌, ◌⊎◌, ℕ, ◌<◌, ◌≤◌, ℤ, pos, List, [], length, map, Bool, true, false, Option, Some, None, Result, Ok, Err, IfOk, if◌then◌else◌, refl}
use Rattle.std.specs.Option.{option_map, option_map_or, unwrap_or}
use Rattle.std.specs.List.{AllByRecursion}
use Rattle.std.proofs.Common.{get_or, ap, sym, ◌∙◌, subst, arith, inl, inr}
use Rattle.std.proofs.lemmas.List.{length-map, get_or-map}
use Rattle.mm_num.specs.Small.{IsSmall}
use Rattle.mm_poly.specs.Point.{point_of as point_by}
use Rattle.goal_ast.specs.declared.goal.Mode.{Mode}
use Rattle.cert_kit.specs.declared.row.PRow.{PRow}
use Rattle.cert_kit.specs.declared.cert.Cert.{Cert}
use Rattle.cert_kit.specs.Row.{Solves, HasNoSolution}
use Rattle.cert_kit.specs.Acceptance.{IsGood}
use Rattle.cert_kit.specs.Depth.{cert_depth, MakesCert}
use Rattle.cert_kit.specs.Variables.{variables_of, point_over}
use Rattle.cert_kit.proofs.SoundLaws.{accepted_sound}
use Rattle.fm_elim.specs.Unknowns.{unknowns}
use Rattle.fm_elim.specs.Tidy.{Contra, Point, Grey, Over}
use Rattle.fm_elim.specs.Elimination.{outcome, elimination}
use Rattle.fm_elim.specs.Points.{values_of, point_of, point_at, IsTame, AreLinear, AreRows}
use Rattle.fm_elim.specs.Answers.{AreNumbered}
use Rattle.fm_elim.proofs.SolveLaws.{solved_by_numbers}
use Rattle.box_enum.specs.Box.{Side, box_of, bounds_of, is_box_within, is_boxed, IsBoxed, first_point}
use Rattle.box_enum.proofs.WithinLaws.{first_solves}
use Rattle.farkas_rows.proofs.FarkasLaws.{no_integer}
use Rattle.clause_engine.specs.declared.outcome.Outcome.{Outcome}
use Rattle.clause_engine.specs.declared.outcome.Outcome.TheVariants as outcomes
use Rattle.clause_engine.specs.declared.outcome.Why.{Why}
use Rattle.clause_engine.specs.declared.outcome.Why.TheVariants as whys
use Rattle.clause_engine.specs.Outcome.{IfCert, IfPoint, IfUnsettled}
use Rattle.clause_engine.specs.Settled.{IsNumbered, IsSettled, HasBoxPoint, HasPoint, box_point, clause_point, WhyOf, IsReason, IsPromised}
use Rattle.clause_engine.specs.machine.Deciding.{IsRefuted, IsSolved, IsLeft, Decides}
use Rattle.clause_engine.proofs.NumberedLaws.{by_number, solved_by_number, count_unknowns, are_numbered}
use Rattle.clause_engine.proofs.SmallLaws.{point_small}

if_true : (b : Bool) (x y : ℤ) → b ≡ true → (if b then x else y) ≡ x
if_true true x y e = refl
if_true false x y e = absurd cc

if_not_true : (b : Bool) (x y : ℤ) → (b ≡ true → ⊥) → (if b then x else y) ≡ y
if_not_true true x y f = absurd (f refl)
if_not_true false x y f = refl

-- ---- a certificate

unsolvable_box : (turns : ℕ) (rows : List PRow) → HasNoSolution rows → HasBoxPoint turns rows → ⊥
unsolvable_box turns rows n h = n (point_over (variables_of rows) h.values) (first_solves rows h.values h.first)

contra_pointless : (mode : Mode) (turns : ℕ) (rows : List PRow) → elimination rows ≡ Contra → HasNoSolution rows → HasPoint mode turns rows → ⊥
contra_pointless mode turns rows e n (inl h) = unsolvable_box turns rows n h
contra_pointless mode turns rows e n (inr h) = let p = h.1.ends in absurd cc

pub contradicted : (mode : Mode) (turns : ℕ) (rows : List PRow) (c : Cert) → elimination rows ≡ Contra → IsGood rows c → MakesCert c.steps c.close → cert_depth c ≤ 4000 → IsRefuted mode turns rows c
contradicted mode turns rows c e g m d = record { good = g; makes = m; shallow = d; pointless = contra_pointless mode turns rows e (accepted_sound c rows g.accepted) }

empty_pointless : (mode : Mode) (turns : ℕ) (rows : List PRow) → IsBoxed turns rows → first_point rows ≡ None → HasPoint mode turns rows → ⊥
empty_pointless mode turns rows b e (inl h) = let f = h.first in absurd cc
empty_pointless mode turns rows b e (inr h) = h.0 b

pub empty_box : (mode : Mode) (turns : ℕ) (rows : List PRow) (c : Cert) → IsBoxed turns rows × (first_point rows ≡ None) → IsGood rows c → MakesCert c.steps c.close → cert_depth c ≤ 4000
    → IsRefuted mode turns rows c
empty_box mode turns rows c b g m d = record { good = g; makes = m; shallow = d; pointless = empty_pointless mode turns rows b.0 b.1 }

-- ---- a point

one_each : (rows : List PRow) (zs : List ℤ) → AreRows rows → AreLinear rows → zs ≡ point_of rows → length zs ≡ length (variables_of rows)
one_each rows zs a l e = ap (λ (xs : List ℤ). length xs) e ∙ length-map (unknowns rows) (values_of (outcome rows).removed) ∙ count_unknowns rows a l

-- the k-th value is that of variable k
by_variable : (rows : List PRow) (zs : List ℤ) → zs ≡ point_of rows → AreNumbered rows → (v : ℕ) → v < length zs → point_by zs v ≡ point_at rows v
by_variable rows zs e n v h =
    let f = values_of (outcome rows).removed in
    let k : length zs ≡ length (unknowns rows) = ap (λ (xs : List ℤ). length xs) e ∙ length-map (unknowns rows) f in
    let l : v < length (unknowns rows) = omega (arith, k) in
    ap (λ (xs : List ℤ). point_by xs v) e ∙ get_or-map f (unknowns rows) v [] (pos 0) l ∙ ap f (n v l)

pub tame_solved : (mode : Mode) (turns : ℕ) (rows : List PRow) (zs : List ℤ) → IsNumbered rows → AreRows rows → AreLinear rows → (elimination rows ≡ Point) × IsTame rows → zs ≡ point_of rows → (IsBoxed turns rows → ⊥)
    → IsSolved mode turns rows zs whys.Over
tame_solved mode turns rows zs n a l t e b =
    let k : AreNumbered rows = are_numbered rows n a l in
    record {
      one_each = one_each rows zs a l e;
      values = λ p v h. by_variable rows zs e k v h ∙ sym (if_not_true (is_boxed turns rows) (box_point rows v) (point_at rows v) b);
      small = subst (λ (xs : List ℤ). AllByRecursion IsSmall xs) (sym e) (point_small rows a t.1);
      solves = solved_by_numbers rows zs a l k t.0 e;
      reason = inl (inr (b, record { linear = l; ends = t.0; tame = t.1 }), refl);
    }

pub box_solved : (mode : Mode) (turns : ℕ) (rows : List PRow) (zs : List ℤ) → IsNumbered rows → IsBoxed turns rows × (first_point rows ≡ Some zs) → length zs ≡ length (variables_of rows) → AllByRecursion IsSmall zs
    → Solves (point_over (variables_of rows) zs) rows
    → IsSolved mode turns rows zs whys.Over
box_solved mode turns rows zs n b k s p = record {
  one_each = k;
  values = λ q v h.
      let l : v < length (variables_of rows) = omega (arith, h, k) in
      by_number rows zs v n l ∙ ap (λ (o : Option (List ℤ)). point_over (variables_of rows) (unwrap_or o []) v) (sym b.1) ∙ sym (if_true (is_boxed turns rows) (box_point rows v) (point_at rows v) b.0);
  small = s;
  solves = solved_by_number rows zs n p;
  reason = inl (inl (record { boxed = b.0; values = zs; first = b.1 }), refl);
}

-- ---- a clause that isn't settled

pub bent_left : (mode : Mode) (turns : ℕ) (rows : List PRow) → (elimination rows ≡ Point) × IsTame rows → (AreLinear rows → ⊥) → (IsBoxed turns rows → ⊥) → IsLeft mode turns rows whys.Grey
bent_left mode turns rows t f b = record { unsettled = unsettled; reason = inr t }
  where
    unsettled : IsSettled mode turns rows → ⊥
    unsettled (inl c) = let p = t.0 in absurd cc
    unsettled (inr (inl h)) = b h
    unsettled (inr (inr h)) = f h.linear

pub grey_left : (mode : Mode) (turns : ℕ) (rows : List PRow) → elimination rows ≡ Grey → (IsBoxed turns rows → ⊥) → IsLeft mode turns rows whys.Grey
grey_left mode turns rows e b = record { unsettled = unsettled; reason = inl e }
  where
    unsettled : IsSettled mode turns rows → ⊥
    unsettled (inl c) = absurd cc
    unsettled (inr (inl h)) = b h
    unsettled (inr (inr h)) = let p = h.ends in absurd cc

not_over : (rows : List PRow) → (elimination rows ≡ Over) ⊎ ((elimination rows ≡ Point) × (IsTame rows → ⊥)) → elimination rows ≡ Contra → ⊥
not_over rows (inl e) c = absurd cc
not_over rows (inr e) c = let p = e.0 in absurd cc

not_tame : (rows : List PRow) → (elimination rows ≡ Over) ⊎ ((elimination rows ≡ Point) × (IsTame rows → ⊥)) → elimination rows ≡ Point → IsTame rows → ⊥
not_tame rows (inl e) p t = absurd cc
not_tame rows (inr e) p t = e.1 t

pub over_left : (mode : Mode) (turns : ℕ) (rows : List PRow) → (elimination rows ≡ Over) ⊎ ((elimination rows ≡ Point) × (IsTame rows → ⊥)) → (IsBoxed turns rows → ⊥) → IsLeft mode turns rows whys.Over
over_left mode turns rows e b = record { unsettled = unsettled; reason = e }
  where
    unsettled : IsSettled mode turns rows → ⊥
    unsettled (inl c) = not_over rows e c
    unsettled (inr (inl h)) = b h
    unsettled (inr (inr h)) = not_tame rows e h.ends h.tame

pub settled_by_point : (mode : Mode) (turns : ℕ) (rows : List PRow) → HasPoint mode turns rows → IsSettled mode turns rows
settled_by_point mode turns rows (inl h) = inr (inl h.boxed)
settled_by_point mode turns rows (inr h) = inr (inr h.1)

-- ---- a simplex's certificate for a clause that isn't settled

pub relaxed_refuted : (mode : Mode) (turns : ℕ) (rows : List PRow) (why : Why) (c : Cert) → IsLeft mode turns rows why → IsGood rows c → MakesCert c.steps c.close → cert_depth c ≤ 4000 → IsRefuted mode turns rows c
relaxed_refuted mode turns rows why c l g m d = record { good = g; makes = m; shallow = d; pointless = λ p. l.unsettled (settled_by_point mode turns rows p) }

-- values that a search finds for such a clause
pub searched_solved : (mode : Mode) (turns : ℕ) (rows : List PRow) (why : Why) (zs : List ℤ) → IsLeft mode turns rows why → length zs ≡ length (variables_of rows) → AllByRecursion IsSmall zs → Solves (point_by zs) rows
    → IsSolved mode turns rows zs why
searched_solved mode turns rows why zs l k s h = record {
  one_each = k;
  values = λ p. absurd (l.unsettled (settled_by_point mode turns rows p));
  small = s;
  solves = h;
  reason = inr (l.unsettled, l.reason);
}

pub promised_unsolvable : (turns : ℕ) (rows : List PRow) → IsPromised turns rows → HasNoSolution rows
promised_unsolvable turns rows p = no_integer rows p.refutable.none

-- ---- a clause without a box

pub not_boxed : (turns : ℕ) (rows : List PRow) → option_map bounds_of (box_of rows) ≡ None → IsBoxed turns rows → ⊥
not_boxed turns rows e b = by_box (box_of rows) e b
  where
    by_box : (o : Option (List Side)) → option_map bounds_of o ≡ None → option_map_or (is_box_within turns rows) o false ≡ true → ⊥
    by_box None e h = absurd cc
    by_box (Some sides) e h = absurd cc

-- ---- what is said of each kind of outcome

pub of_cert : (mode : Mode) (turns : ℕ) (rows : List PRow) (P : Cert → Type 0) → ((c : Cert) → IsRefuted mode turns rows c → P c) → (o : Outcome) → Decides mode turns rows o → IfCert P o
of_cert mode turns rows P f (outcomes.Cert c) d = f c d
of_cert mode turns rows P f (outcomes.Point zs why) d = tt
of_cert mode turns rows P f (outcomes.Unsettled why) d = tt

pub of_point : (mode : Mode) (turns : ℕ) (rows : List PRow) (P : List ℤ → Why → Type 0) → ((zs : List ℤ) (why : Why) → IsSolved mode turns rows zs why → P zs why) → (o : Outcome) → Decides mode turns rows o → IfPoint P o
of_point mode turns rows P f (outcomes.Cert c) d = tt
of_point mode turns rows P f (outcomes.Point zs why) d = f zs why d
of_point mode turns rows P f (outcomes.Unsettled why) d = tt

pub of_left : (mode : Mode) (turns : ℕ) (rows : List PRow) (P : Why → Type 0) → ((why : Why) → IsLeft mode turns rows why × (IsPromised turns rows → ⊥) → P why) → (o : Outcome) → Decides mode turns rows o → IfUnsettled P o
of_left mode turns rows P f (outcomes.Cert c) d = tt
of_left mode turns rows P f (outcomes.Point zs why) d = tt
of_left mode turns rows P f (outcomes.Unsettled why) d = f why d

pub ok_on : {X E : Type 0} {P Q : X → Type 0} → (r : Result X E) → ((x : X) → P x → Q x) → IfOk r P → IfOk r Q
ok_on (Ok x) f h = f x h
ok_on (Err e) f h = tt
