-- The first point of a box: what it is, and where there is none.
use Rattle.std.specs.Prelude.{◌≡◌, ℕ, zero, suc, ◌+◌, ◌*◌, ◌^◌, ◌<◌, ◌≤◌, max, ℤ, pos, negsuc, neg_ℤ, ◌+ℤ◌, ◌-ℤ◌, ◌≤ℤ◌, unsigned_abs, int_lt, nat_le, List, [], ◌∷◌, ◌++◌, map, length, Bool, true, false, cond, ◌&&◌, ◌||◌, Option, Some, None, refl, not}
use Rattle.std.proofs.Common.{ap, sym, ◌∙◌, subst, arith}
use Rattle.std.proofs.lemmas.Int.{ints}
use Rattle.std.proofs.lemmas.Bool.{and_parts}
use Rattle.std.proofs.lemmas.Option.{same_Some}
use Rattle.std.specs.Int.{int_min, int_max}
use Rattle.std.specs.List.Sorted.{IsPermutation}
use Rattle.std.proofs.lemmas.List.Sorted.{All-permutation, list_any-IsPermutation}
use Rattle.mm_poly.specs.Point.{point_of}
use Rattle.cert_kit.specs.Row.{row_holds}
use Rattle.std.specs.Option.{option_map, option_map_or}
use Rattle.std.specs.List.{All, AllByRecursion, find, flat_map, list_all, list_any}
use Rattle.mm_num.specs.Option.{◌>>=◌}
use Rattle.mm_num.specs.Small.{IsSmall}
use Rattle.mm_num.proofs.OptionLaws.{bind_some}
use Rattle.mm_num.proofs.TestLaws.{is_below}
use Rattle.mm_poly.specs.declared.term.Term.{Term}
use Rattle.mm_poly.specs.Poly.{Fits, norm, degree, constant_part}
use Rattle.mm_poly.specs.Renaming.{renamed, renamed_terms}
use Rattle.mm_poly.proofs.RenamingLaws.{norm_terms, degree_terms}
use Rattle.mm_poly.proofs.BoundLaws.{norm_plus, degree_plus}
use Rattle.mm_poly.proofs.PartLaws.{constant_small}
use Rattle.mm_poly.proofs.PointLaws.{part_of_power, smaller_base}
use Rattle.std.proofs.Math.Nat.{mul-le-mul_right}
use Rattle.cert_kit.specs.declared.row.Op.{Op}
use Rattle.cert_kit.specs.declared.row.Op.TheVariants.{Ge, Eq}
use Rattle.cert_kit.specs.declared.row.PRow.{PRow}
use Rattle.cert_kit.specs.Row.{Solves}
use Rattle.cert_kit.specs.Cut.{cut_of}
use Rattle.cert_kit.specs.Variables.{variables_of, place_of, point_over}
use Rattle.cert_kit.proofs.CutTwiceLaws.{norm_cut}
use Rattle.cert_kit.proofs.SolvingLaws.{rows_tested}
use Rattle.box_enum.specs.declared.edge.Edge.{Edge}
use Rattle.box_enum.specs.declared.waiting.Waiting.{Waiting}
use Rattle.box_enum.specs.Box.{Side, lower_by, upper_by, better, low_of, high_of, reach_of, side_of, sides_of, box_of, points_of, integers_from, count_of, not_below_0, solved_by, first_point, is_modest, is_box_within, IsBoxed}
use Rattle.box_enum.specs.machine.Reading.{lower_as, upper_as}
use Rattle.box_enum.specs.machine.Edges.{side_at, sides_at, IsSmallEdge}
use Rattle.box_enum.specs.machine.Searching.{IsPlaced, ArePlaced, IsWaiting, waits_hold, first_from}
use Rattle.box_enum.proofs.ReadingLaws.{by_tests, by_tests_above}
use Rattle.box_enum.proofs.PlacedLaws.{rows_placed}
use Rattle.box_enum.proofs.PlainLaws.{at_most}

-- ---- bounds are small

lower_abs : (b c : Bool) (o : Op) (k z : ℤ) → lower_as b c o k ≡ Some z → unsigned_abs z ≡ unsigned_abs k
lower_abs true c Ge k z e = let s : neg_ℤ k ≡ z = same_Some _ _ e in omega (arith, ints, s)
lower_abs false c Ge k z e = absurd cc
lower_abs true c Eq k z e = let s : neg_ℤ k ≡ z = same_Some _ _ e in omega (arith, ints, s)
lower_abs false true Eq k z e = let s : k ≡ z = same_Some _ _ e in ap unsigned_abs (sym s)
lower_abs false false Eq k z e = absurd cc

upper_abs : (b c : Bool) (o : Op) (k z : ℤ) → upper_as b c o k ≡ Some z → unsigned_abs z ≡ unsigned_abs k
upper_abs b true Ge k z e = let s : k ≡ z = same_Some _ _ e in ap unsigned_abs (sym s)
upper_abs b false Ge k z e = absurd cc
upper_abs b true Eq k z e = let s : k ≡ z = same_Some _ _ e in ap unsigned_abs (sym s)
upper_abs true false Eq k z e = let s : neg_ℤ k ≡ z = same_Some _ _ e in omega (arith, ints, s)
upper_abs false false Eq k z e = absurd cc

cut_small : (r : PRow) → Fits r.poly → unsigned_abs (constant_part (cut_of r).poly) < 2 ^ 126
cut_small r f = omega (arith, constant_small (cut_of r).poly, norm_cut r f.order, f.norm)

abbrev AllSmall : Option ℤ → Type 0
AllSmall o = (z : ℤ) → o ≡ Some z → IsSmall z

better_small : (f : ℤ → ℤ → ℤ) → ((a b : ℤ) → IsSmall a → IsSmall b → IsSmall (f a b)) → (a b : Option ℤ) → AllSmall a → AllSmall b → AllSmall (better f a b)
better_small f g None b h k = k
better_small f g (Some a) None h k = h
better_small f g (Some a) (Some b) h k = λ z e. subst (λ v. IsSmall v) (same_Some _ _ e) (g a b (h a refl) (k b refl))

max_small : (a b : ℤ) → IsSmall a → IsSmall b → IsSmall (int_max a b)
max_small a b h k = by_test (int_lt b a)
  where
    by_test : (t : Bool) → IsSmall (cond t a b)
    by_test true = h
    by_test false = k

min_small : (a b : ℤ) → IsSmall a → IsSmall b → IsSmall (int_min a b)
min_small a b h k = by_test (int_lt b a)
  where
    by_test : (t : Bool) → IsSmall (cond t b a)
    by_test true = k
    by_test false = h

low_small : (x : ℕ) (rows : List PRow) → AllByRecursion (λ (r : PRow). Fits r.poly) rows → AllSmall (low_of x rows)
low_small x [] a = λ z e. absurd cc
low_small x (r ∷ rows) a = better_small int_max max_small (lower_by x (cut_of r).op (cut_of r).poly) (low_of x rows)
    (λ z e. omega (arith, cut_small r a.0, lower_abs _ _ (cut_of r).op (constant_part (cut_of r).poly) z (sym (by_tests x (cut_of r).op (cut_of r).poly) ∙ e)))
    (low_small x rows a.1)

high_small : (x : ℕ) (rows : List PRow) → AllByRecursion (λ (r : PRow). Fits r.poly) rows → AllSmall (high_of x rows)
high_small x [] a = λ z e. absurd cc
high_small x (r ∷ rows) a = better_small int_min min_small (upper_by x (cut_of r).op (cut_of r).poly) (high_of x rows)
    (λ z e. omega (arith, cut_small r a.0, upper_abs _ _ (cut_of r).op (constant_part (cut_of r).poly) z (sym (by_tests_above x (cut_of r).op (cut_of r).poly) ∙ e)))
    (high_small x rows a.1)

abbrev IsSmallSide : Side → Type 0
IsSmallSide s = IsSmall s.low × IsSmall s.high

sides_small : (rows : List PRow) (xs : List ℕ) (ss : List Side) → AllByRecursion (λ (r : PRow). Fits r.poly) rows → sides_of rows xs ≡ Some ss → AllByRecursion IsSmallSide ss
sides_small rows [] ss a e = subst (λ (ts : List Side). AllByRecursion IsSmallSide ts) (same_Some [] ss e) tt
sides_small rows (x ∷ xs) ss a e =
    let p = bind_some (side_of rows x) _ ss e in
    let q = bind_some (sides_of rows xs) _ ss p.2 in
    let l = bind_some (low_of x rows) _ p.0 p.1 in
    let h = bind_some (high_of x rows) _ p.0 l.2 in
    let s : IsSmallSide p.0 = subst (λ (t : Side). IsSmallSide t) (same_Some _ _ h.2) (low_small x rows a l.0 l.1, high_small x rows a h.0 h.1) in
    subst (λ (ts : List Side). AllByRecursion IsSmallSide ts) (same_Some _ _ q.2) (s, sides_small rows xs q.0 a q.1)

edges_small : (es : List Edge) → AllByRecursion IsSmallSide (sides_at es) → All IsSmallEdge es
edges_small [] a k d h = absurd (omega arith)
edges_small (e ∷ es) a zero d h = a.0
edges_small (e ∷ es) a (suc k) d h = edges_small es a.1 k d (omega arith)

pub box_small : (rows : List PRow) (es : List Edge) → AllByRecursion (λ (r : PRow). Fits r.poly) rows → box_of rows ≡ Some (sides_at es) → All IsSmallEdge es
box_small rows es a e = edges_small es (sides_small rows (variables_of rows) (sides_at es) a e)

-- ---- a side for each variable

pub sides_length : (rows : List PRow) (xs : List ℕ) (ss : List Side) → sides_of rows xs ≡ Some ss → length ss ≡ length xs
sides_length rows [] ss e = ap length (sym (same_Some [] ss e))
sides_length rows (x ∷ xs) ss e =
    let p = bind_some (side_of rows x) _ ss e in
    let q = bind_some (sides_of rows xs) _ ss p.2 in
    let r : length q.0 ≡ length xs = sides_length rows xs q.0 q.1 in
    let s : length ss ≡ length (p.0 ∷ q.0) = ap length (sym (same_Some _ _ q.2)) in
    omega arith

edges_length : (es : List Edge) → length (sides_at es) ≡ length es
edges_length [] = refl
edges_length (e ∷ es) = omega (arith, edges_length es)

pub box_length : (rows : List PRow) (es : List Edge) → box_of rows ≡ Some (sides_at es) → length es ≡ length (variables_of rows)
box_length rows es e = sym (edges_length es) ∙ sides_length rows (variables_of rows) (sides_at es) e

-- ---- rows wait

norm_placed : (r : ℕ → ℕ) (p : List Term) → norm (renamed r p) ≤ norm p
norm_placed r p = omega (arith, norm_plus (renamed_terms r p) [], norm_terms r p)

degree_placed : (r : ℕ → ℕ) (p : List Term) → degree (renamed r p) ≤ degree p
degree_placed r p = omega (arith, degree_plus (renamed_terms r p) [], degree_terms r p)

tame : (n m d e b : ℕ) → n ≤ m → d ≤ e → m * (4 * b + 4) ^ (2 * e) < 2 ^ 100 → n * max 1 b ^ d < 2 ^ 126
tame n m d e b h k l =
    let one : 1 ≤ max 1 b = omega arith in
    let four : 1 ≤ 4 * b + 4 = omega arith in
    let base : max 1 b ≤ 4 * b + 4 = omega arith in
    let twice : d ≤ 2 * e = omega arith in
    let a : n * max 1 b ^ d ≤ m * max 1 b ^ d = mul-le-mul_right (max 1 b ^ d) h in
    let c : m * max 1 b ^ d ≤ m * max 1 b ^ (2 * e) = part_of_power m (max 1 b) d (2 * e) one twice in
    let f : m * max 1 b ^ (2 * e) < 2 ^ 100 = smaller_base m (max 1 b) (4 * b + 4) (2 * e) (2 ^ 100) base l in
    omega arith

pub all_wait : (vars : List ℕ) (count reach : ℕ) (rows : List PRow) (ws : List Waiting) → length vars ≡ count → ArePlaced vars rows ws → list_all (is_modest reach) rows ≡ true → All (IsWaiting count reach) ws
all_wait vars count reach [] [] e a m k d h = absurd (omega arith)
all_wait vars count reach [] (w ∷ ws) e a m k d h = absurd a
all_wait vars count reach (r ∷ rows) [] e a m k d h = absurd a
all_wait vars count reach (r ∷ rows) (w ∷ ws) e a m zero d h =
    let p = and_parts (is_modest reach r) (list_all (is_modest reach) rows) m in
    let q = and_parts _ _ p.0 in
    let i : IsPlaced vars r w = a.0 in
    let bound : norm r.poly * (4 * reach + 4) ^ (2 * degree r.poly) < 2 ^ 100 = is_below _ _ q.1 in
    record {
      places = i.places;
      early = subst (λ n. w.due ≤ n) e i.early;
      tame = subst (λ (s : PRow). norm s.poly * max 1 reach ^ degree s.poly < 2 ^ 126) (sym i.row)
          (tame (norm (renamed (place_of vars) r.poly)) (norm r.poly) (degree (renamed (place_of vars) r.poly)) (degree r.poly) reach (norm_placed (place_of vars) r.poly) (degree_placed (place_of vars) r.poly) bound);
    }
all_wait vars count reach (r ∷ rows) (w ∷ ws) e a m (suc k) d h =
    all_wait vars count reach rows ws e a.1 (and_parts (is_modest reach r) (list_all (is_modest reach) rows) m).1 k d (omega arith)

-- ---- the first point is what is searched

same_first : (rows : List PRow) (ws : List Waiting) (ps : List (List ℤ)) → ArePlaced (variables_of rows) rows ws → find (solved_by rows) ps ≡ option_map (λ zs. [] ++ zs) (find (λ zs. waits_hold ws ([] ++ zs)) ps)
same_first rows ws [] a = refl
same_first rows ws (p ∷ ps) a =
    ap (λ b. cond b (Some p) (find (solved_by rows) ps)) (sym (rows_placed (variables_of rows) p rows ws a)) ∙ by_test (waits_hold ws p) (same_first rows ws ps a)
  where
    by_test : (b : Bool) → find (solved_by rows) ps ≡ option_map (λ zs. [] ++ zs) (find (λ zs. waits_hold ws ([] ++ zs)) ps)
        → cond b (Some p) (find (solved_by rows) ps) ≡ option_map (λ zs. [] ++ zs) (cond b (Some p) (find (λ zs. waits_hold ws ([] ++ zs)) ps))
    by_test true e = refl
    by_test false e = e

pub first_in : (rows : List PRow) (ss : List Side) → box_of rows ≡ Some ss → first_point rows ≡ find (solved_by rows) (points_of ss)
first_in rows ss e = ap (λ o. o >>= λ sides. find (solved_by rows) (points_of sides)) e

pub searched_first : (rows : List PRow) (vars : List ℕ) (ws : List Waiting) (ss : List Side) (chosen : List ℤ) → box_of rows ≡ Some ss → vars ≡ variables_of rows → chosen ≡ [] → ArePlaced vars rows ws
    → first_from ws chosen ss ≡ first_point rows
searched_first rows vars ws ss chosen e f g a =
    ap (λ xs. first_from ws xs ss) g ∙ sym (first_in rows ss e ∙ same_first rows ws (points_of ss) (subst (λ vs. ArePlaced vs rows ws) f a))

no_maps : (zs : List ℤ) → flat_map (λ z. map (λ (ys : List ℤ). z ∷ ys) []) zs ≡ []
no_maps [] = refl
no_maps (z ∷ zs) = no_maps zs

below_count : (e : Edge) → int_lt e.high e.low ≡ true → count_of (side_at e) ≡ 0
below_count e h = by_size ((e.high -ℤ e.low) +ℤ pos 1) refl
  where
    by_size : (m : ℤ) → (e.high -ℤ e.low) +ℤ pos 1 ≡ m → not_below_0 m ≡ 0
    by_size (pos zero) q = refl
    by_size (pos (suc m)) q = absurd (grind (arith, ints))
    by_size (negsuc m) q = refl

no_points : (es : List Edge) → list_any (λ (e : Edge). int_lt e.high e.low) es ≡ true → points_of (sides_at es) ≡ []
no_points [] h = absurd cc
no_points (e ∷ es) h = by_test (int_lt e.high e.low) refl h (λ k. no_points es k)
  where
    by_test : (b : Bool) → int_lt e.high e.low ≡ b → (b || list_any (λ (e : Edge). int_lt e.high e.low) es) ≡ true
        → (list_any (λ (e : Edge). int_lt e.high e.low) es ≡ true → points_of (sides_at es) ≡ []) → points_of (sides_at (e ∷ es)) ≡ []
    by_test true q k rest = ap (λ n. flat_map (λ z. map (λ ys. z ∷ ys) (points_of (sides_at es))) (integers_from e.low n)) (below_count e q)
    by_test false q k rest = ap (λ ps. flat_map (λ z. map (λ ys. z ∷ ys) ps) (integers_from e.low (count_of (side_at e)))) (rest k) ∙ no_maps (integers_from e.low (count_of (side_at e)))

pub none_first : (rows : List PRow) (es : List Edge) → box_of rows ≡ Some (sides_at es) → list_any (λ (e : Edge). int_lt e.high e.low) es ≡ true → None ≡ first_point rows
none_first rows es e h = sym (first_in rows (sides_at es) e ∙ ap (find (solved_by rows)) (no_points es h))

-- ---- boxed within the turns

pub too_wide : (turns : ℕ) (rows : List PRow) (ss : List Side) → box_of rows ≡ Some ss → false ≡ is_box_within turns rows ss → IsBoxed turns rows → ⊥
too_wide turns rows ss e f h =
    let g : is_box_within turns rows ss ≡ true = sym (ap (λ o. option_map_or (is_box_within turns rows) o false) e) ∙ h in
    cc

pub not_too_wide : (turns : ℕ) (rows : List PRow) (ss : List Side) → box_of rows ≡ Some ss → true ≡ is_box_within turns rows ss → IsBoxed turns rows
not_too_wide turns rows ss e f = ap (λ o. option_map_or (is_box_within turns rows) o false) e ∙ sym f

pub within_parts : (turns : ℕ) (rows : List PRow) (ss : List Side) → true ≡ is_box_within turns rows ss → (length ss ≤ 2048) × (list_all (is_modest (reach_of ss)) rows ≡ true)
within_parts turns rows ss f =
    let p = and_parts _ _ (sym f) in
    let q = and_parts _ _ p.1 in
    (at_most _ _ p.0, q.1)

pub few_edges : (es : List Edge) → length (sides_at es) ≤ 2048 → length es ≤ 2048
few_edges es h = omega (arith, edges_length es)

-- ---- what it is

abbrev pub IsPoint : List Side → List ℤ → Type 0
IsPoint [] [] = Unit {0}
IsPoint [] (z ∷ zs) = ⊥
IsPoint (s ∷ ss) [] = ⊥
IsPoint (s ∷ ss) (z ∷ zs) = (s.low ≤ℤ z) × (z ≤ℤ s.high) × IsPoint ss zs

all_append : (P : List ℤ → Type 0) (xs ys : List (List ℤ)) → AllByRecursion P xs → AllByRecursion P ys → AllByRecursion P (xs ++ ys)
all_append P [] ys a b = b
all_append P (x ∷ xs) ys a b = (a.0, all_append P xs ys a.1 b)

all_map : (s : Side) (ss : List Side) (z : ℤ) (ps : List (List ℤ)) → s.low ≤ℤ z → z ≤ℤ s.high → AllByRecursion (IsPoint ss) ps → AllByRecursion (IsPoint (s ∷ ss)) (map (λ zs. z ∷ zs) ps)
all_map s ss z [] h k a = tt
all_map s ss z (p ∷ ps) h k a = ((h, k, a.0), all_map s ss z ps h k a.1)

from_on : (s : Side) (ss : List Side) (z : ℤ) (n : ℕ) → s.low ≤ℤ z → (z +ℤ pos n) ≤ℤ (s.high +ℤ pos 1) → AllByRecursion (IsPoint ss) (points_of ss)
    → AllByRecursion (IsPoint (s ∷ ss)) (flat_map (λ v. map (λ zs. v ∷ zs) (points_of ss)) (integers_from z n))
from_on s ss z zero h k a = tt
from_on s ss z (suc n) h k a = all_append (IsPoint (s ∷ ss)) (map (λ zs. z ∷ zs) (points_of ss)) (flat_map (λ v. map (λ zs. v ∷ zs) (points_of ss)) (integers_from (z +ℤ pos 1) n))
    (all_map s ss z (points_of ss) h (omega (arith, ints, k)) a) (from_on s ss (z +ℤ pos 1) n (omega (arith, ints, h)) (omega (arith, ints, k)) a)

pub all_points : (ss : List Side) → AllByRecursion (IsPoint ss) (points_of ss)
all_points [] = (tt, tt)
all_points (s ∷ ss) = by_size ((s.high -ℤ s.low) +ℤ pos 1) refl (all_points ss)
  where
    by_size : (m : ℤ) → (s.high -ℤ s.low) +ℤ pos 1 ≡ m → AllByRecursion (IsPoint ss) (points_of ss) → AllByRecursion (IsPoint (s ∷ ss)) (flat_map (λ v. map (λ zs. v ∷ zs) (points_of ss)) (integers_from s.low (not_below_0 m)))
    by_size (pos n) e a = from_on s ss s.low n (omega (arith, ints)) (omega (arith, ints, e)) a
    by_size (negsuc n) e a = tt

find_holds : (P : List ℤ → Type 0) (test : List ℤ → Bool) (ps : List (List ℤ)) (zs : List ℤ) → AllByRecursion P ps → find test ps ≡ Some zs → P zs × (test zs ≡ true)
find_holds P test [] zs a e = absurd cc
find_holds P test (p ∷ ps) zs a e = by_test (test p) refl e (λ k. find_holds P test ps zs a.1 k)
  where
    by_test : (b : Bool) → test p ≡ b → cond b (Some p) (find test ps) ≡ Some zs → (find test ps ≡ Some zs → P zs × (test zs ≡ true)) → P zs × (test zs ≡ true)
    by_test true q k rest = let s : p ≡ zs = same_Some p zs k in subst (λ (ys : List ℤ). P ys × (test ys ≡ true)) s (a.0, q)
    by_test false q k rest = rest k

pub point_is : (rows : List PRow) (ss : List Side) (zs : List ℤ) → box_of rows ≡ Some ss → first_point rows ≡ Some zs → IsPoint ss zs × (solved_by rows zs ≡ true)
point_is rows ss zs e f = find_holds (IsPoint ss) (solved_by rows) (points_of ss) zs (all_points ss) (sym (first_in rows ss e) ∙ f)

point_length : (ss : List Side) (zs : List ℤ) → IsPoint ss zs → length zs ≡ length ss
point_length [] [] p = refl
point_length [] (z ∷ zs) p = absurd p
point_length (s ∷ ss) [] p = absurd p
point_length (s ∷ ss) (z ∷ zs) p = omega (arith, point_length ss zs p.2)

between_small : (z low high : ℤ) → low ≤ℤ z → z ≤ℤ high → IsSmall low → IsSmall high → IsSmall z
between_small z low high h k a b = omega (arith, ints)

point_small : (es : List Edge) (zs : List ℤ) → All IsSmallEdge es → IsPoint (sides_at es) zs → AllByRecursion IsSmall zs
point_small [] [] a p = tt
point_small [] (z ∷ zs) a p = absurd p
point_small (e ∷ es) [] a p = absurd p
point_small (e ∷ es) (z ∷ zs) a p = let s = a 0 e (omega arith) in (between_small z e.low e.high p.0 p.1 s.0 s.1, point_small es zs (λ k d h. a (suc k) d (omega arith)) p.2)

pub point_one_each : (rows : List PRow) (es : List Edge) (zs : List ℤ) → box_of rows ≡ Some (sides_at es) → first_point rows ≡ Some zs → length zs ≡ length (variables_of rows)
point_one_each rows es zs e f = point_length (sides_at es) zs (point_is rows (sides_at es) zs e f).0 ∙ edges_length es ∙ box_length rows es e

pub point_each_small : (rows : List PRow) (es : List Edge) (zs : List ℤ) → box_of rows ≡ Some (sides_at es) → All IsSmallEdge es → first_point rows ≡ Some zs → AllByRecursion IsSmall zs
point_each_small rows es zs e a f = point_small es zs a (point_is rows (sides_at es) zs e f).0

pub point_solves : (rows : List PRow) (es : List Edge) (zs : List ℤ) → box_of rows ≡ Some (sides_at es) → first_point rows ≡ Some zs → Solves (point_over (variables_of rows) zs) rows
point_solves rows es zs e f = (rows_tested (point_over (variables_of rows) zs) rows).0 (point_is rows (sides_at es) zs e f).1

-- ---- in code

-- rows in another order

all_as_any : (test : Waiting → Bool) (ws : List Waiting) → list_all test ws ≡ not (list_any (λ w. not (test w)) ws)
all_as_any test [] = refl
all_as_any test (w ∷ ws) = by_test (test w) (all_as_any test ws)
  where
    by_test : (b : Bool) → list_all test ws ≡ not (list_any (λ w. not (test w)) ws) → (b && list_all test ws) ≡ not (not b || list_any (λ w. not (test w)) ws)
    by_test true e = e
    by_test false e = refl

hold_permuted : (ws us : List Waiting) (zs : List ℤ) → IsPermutation ws us → waits_hold us zs ≡ waits_hold ws zs
hold_permuted ws us zs p =
    let test : Waiting → Bool = λ w. row_holds (point_of zs) w.row in
    all_as_any test us ∙ ap not (sym (list_any-IsPermutation (λ w. not (test w)) ws us p)) ∙ sym (all_as_any test ws)

find_permuted : (ws us : List Waiting) (chosen : List ℤ) (ps : List (List ℤ)) → IsPermutation ws us → find (λ zs. waits_hold us (chosen ++ zs)) ps ≡ find (λ zs. waits_hold ws (chosen ++ zs)) ps
find_permuted ws us chosen [] p = refl
find_permuted ws us chosen (q ∷ ps) p =
    ap (λ b. cond b (Some q) (find (λ zs. waits_hold us (chosen ++ zs)) ps)) (hold_permuted ws us (chosen ++ q) p) ∙ ap (λ o. cond (waits_hold ws (chosen ++ q)) (Some q) o) (find_permuted ws us chosen ps p)

pub first_permuted : (ws us vs : List Waiting) (chosen : List ℤ) (ss : List Side) → IsPermutation ws us → vs ≡ us → first_from vs chosen ss ≡ first_from ws chosen ss
first_permuted ws us vs chosen ss p e = ap (λ (xs : List Waiting). first_from xs chosen ss) e ∙ ap (option_map (λ zs. chosen ++ zs)) (find_permuted ws us chosen (points_of ss) p)

pub waiting_in : (vars : List ℕ) (count reach : ℕ) (rows : List PRow) (es : List Edge) (vs ws us : List Waiting) → length vars ≡ count → reach ≡ reach_of (sides_at es) → vs ≡ us → IsPermutation ws us → ArePlaced vars rows ws
    → list_all (is_modest (reach_of (sides_at es))) rows ≡ true → All (IsWaiting count reach) vs
waiting_in vars count reach rows es vs ws us e f g p a m =
    subst (λ (xs : List Waiting). All (IsWaiting count reach) xs) (sym g)
    (All-permutation (IsWaiting count reach) ws us p (all_wait vars count reach rows ws e a (subst (λ r. list_all (is_modest r) rows ≡ true) (sym f) m)))
