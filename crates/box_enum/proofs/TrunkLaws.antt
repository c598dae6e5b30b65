-- The trunk of the certificate of an empty box, and what stands within it.
use Rattle.std.specs.Prelude.{◌≡◌, ℕ, zero, suc, ◌+◌, ◌-◌, ◌*◌, ◌^◌, ◌<◌, ◌≤◌, max, ℤ, pos, ◌+ℤ◌, ◌≤ℤ◌, unsigned_abs, nat_eq, List, [], ◌∷◌, ◌++◌, map, length, take, drop, Bool, true, false, Option, Some, None, slice_get, refl}
use Rattle.std.proofs.Common.{ap, sym, ◌∙◌, subst, arith, get_or, append_assoc, append-nil, length-append}
use Rattle.std.proofs.lemmas.Int.{ints}
use Rattle.std.proofs.lemmas.List.{take_all, length-map, take-append-drop, get_or_default}
use Rattle.std.proofs.lemmas.Bool.{and_parts}
use Rattle.std.proofs.lemmas.List.Sorted.{All-permutation, IsPermutation-map, length_permutation, list_any-IsPermutation}
use Rattle.std.proofs.lemmas.Map.Keys.{IsDistinct-IsPermutation, IsDistinct-from_sorted}
use Rattle.std.specs.List.Sorted.{IsPermutation, IsStrictlySortedBy}
use Rattle.std.specs.Ordering.{nat_cmp, eq_by_cmp}
use Rattle.mm_num.proofs.BoolLaws.{same_tests}
use Rattle.std.proofs.Math.Seq.{take-suc}
use Rattle.std.proofs.lemmas.Option.{slice_get_read}
use Rattle.std.specs.List.{All, AllByRecursion, IsDistinct, list_all, list_any}
use Rattle.mm_num.proofs.ListLaws.{all_join, all_split}
use Rattle.mm_poly.specs.declared.term.Term.{Term}
use Rattle.mm_poly.specs.Poly.{Fits, variable_of}
use Rattle.cert_kit.specs.declared.row.PRow.{PRow}
use Rattle.cert_kit.specs.declared.cert.Cert.{Cert}
use Rattle.cert_kit.specs.Row.{Holds, Solves, HasNoSolution}
use Rattle.cert_kit.specs.Acceptance.{value_row, with_row, IsGood}
use Rattle.cert_kit.specs.Making.{AreGood}
use Rattle.cert_kit.specs.Variables.{poly_variables, row_variables, variables_of}
use Rattle.cert_kit.proofs.VariableLaws.{in_first, in_second, occurs_there}
use Rattle.box_enum.specs.declared.edge.Edge.{Edge}
use Rattle.box_enum.specs.Box.{box_of, reach_of, is_modest, first_point}
use Rattle.box_enum.specs.machine.Edges.{side_at, sides_at, IsSmallEdge}
use Rattle.box_enum.specs.declared.numbered.Choice.{Choice}
use Rattle.box_enum.specs.declared.standing.Standing.{Standing}
use Rattle.box_enum.specs.declared.standing.Ground.{Ground}
use Rattle.box_enum.specs.declared.wall.Wall.{Wall}
use Rattle.box_enum.specs.machine.Putting.{IsTame, IsWithinReach, StandsChosen, StandsNumbered}
use Rattle.box_enum.specs.machine.Places.{StandsWall, IsBounded, IsPlace, IsOpen, IsGoodAt, IsShallow, IsInside, Agrees, HasNoPoint, AreNamed, names_of, choice_at, wall_count}
use Rattle.box_enum.specs.machine.Trunks.{IsSingle, single_row, choices_from, side_of_wall, wall_variables, IsWalled}
use Rattle.box_enum.proofs.BoundLaws.{rising}
use Rattle.box_enum.proofs.EdgeLaws.{small_reach}
use Rattle.box_enum.proofs.WithinLaws.{no_solution}
use Rattle.box_enum.proofs.LeafLaws.{modest_tame}
use Rattle.box_enum.proofs.WallLaws.{walls_more}
use Rattle.box_enum.proofs.PlaceLaws.{there_still, there_last, all_counted, one_counted}
use Rattle.box_enum.proofs.RefutingLaws.{all_at}

pub take_one : {A : Type 0} → (xs : List A) (n : ℕ) (d : A) → n < length xs → take (n + 1) xs ≡ take n xs ++ get_or xs n d ∷ []
take_one xs n d h = let s : n + 1 ≡ suc n = omega arith in ap (λ k. take k xs) s ∙ take-suc xs n d h

drop_one : {A : Type 0} → (xs : List A) (n : ℕ) (d : A) → n < length xs → drop n xs ≡ get_or xs n d ∷ drop (n + 1) xs
drop_one [] n d h = absurd (omega arith)
drop_one (x ∷ xs) zero d h = refl
drop_one (x ∷ xs) (suc n) d h = let s : suc n + 1 ≡ suc (n + 1) = omega arith in drop_one xs n d (omega arith) ∙ ap (λ k. get_or xs n d ∷ drop k (x ∷ xs)) (sym s)

pub map_join : {A B : Type 0} → (f : A → B) (xs ys : List A) → map f (xs ++ ys) ≡ map f xs ++ map f ys
map_join f [] ys = refl
map_join f (x ∷ xs) ys = ap (λ (zs : List _). f x ∷ zs) (map_join f xs ys)

-- ---- rows and what stands for them

pub of_rows : (P : PRow → Type 0) (rows : List PRow) (ss : List Standing) → map (λ (s : Standing). s.numbered.row) ss ≡ rows → AllByRecursion P rows → AllByRecursion (λ (s : Standing). P s.numbered.row) ss
of_rows P rows ss e a = go ss (subst (λ (rs : List PRow). AllByRecursion P rs) (sym e) a)
  where
    go : (us : List Standing) → AllByRecursion P (map (λ (s : Standing). s.numbered.row) us) → AllByRecursion (λ (s : Standing). P s.numbered.row) us
    go [] b = tt
    go (u ∷ us) b = (b.0, go us b.1)

pub to_rows : (P : PRow → Type 0) (rows : List PRow) (ss : List Standing) → map (λ (s : Standing). s.numbered.row) ss ≡ rows → AllByRecursion (λ (s : Standing). P s.numbered.row) ss → AllByRecursion P rows
to_rows P rows ss e a = subst (λ (rs : List PRow). AllByRecursion P rs) e (go ss a)
  where
    go : (us : List Standing) → AllByRecursion (λ (s : Standing). P s.numbered.row) us → AllByRecursion P (map (λ (s : Standing). s.numbered.row) us)
    go [] b = tt
    go (u ∷ us) b = (b.0, go us b.1)

-- ---- the choices of the only values

pub one_choice : (k n : ℕ) (ws : List Wall) (out new : List Choice) (w : Wall) → n < length ws → w ≡ get_or ws n w → new ≡ out ++ choice_at (k + n) w w.low ∷ []
    → out ++ choices_from (k + n) (drop n ws) ≡ choices_from k ws → new ++ choices_from (k + (n + 1)) (drop (n + 1) ws) ≡ choices_from k ws
one_choice k n ws out new w h is e f =
    let s : k + (n + 1) ≡ (k + n) + 1 = omega arith in
    ap (λ (cs : List Choice). cs ++ choices_from (k + (n + 1)) (drop (n + 1) ws)) e
    ∙ append_assoc out (choice_at (k + n) w w.low ∷ []) (choices_from (k + (n + 1)) (drop (n + 1) ws))
    ∙ ap (λ m. out ++ choice_at (k + n) w w.low ∷ choices_from m (drop (n + 1) ws)) s
    ∙ ap (λ (v : Wall). out ++ choice_at (k + n) v v.low ∷ choices_from ((k + n) + 1) (drop (n + 1) ws)) is
    ∙ ap (λ (vs : List Wall). out ++ choices_from (k + n) vs) (sym (drop_one ws n w h))
    ∙ f

pub choice_names : (k : ℕ) (ws us : List Wall) → names_of (choices_from k ws) us ≡ wall_variables (ws ++ us)
choice_names k [] us = refl
choice_names k (w ∷ ws) us = ap (λ (xs : List ℕ). w.variable ∷ xs) (choice_names (k + 1) ws us)

pub choices_within : (b k : ℕ) (ws : List Wall) → AllByRecursion (IsBounded b) ws → AllByRecursion (IsWithinReach b) (choices_from k ws)
choices_within b k [] a = tt
choices_within b k (w ∷ ws) a = (a.0.0, choices_within b (k + 1) ws a.1)

pub choices_length : (k : ℕ) (ws : List Wall) → length (choices_from k ws) ≡ length ws
choices_length k [] = refl
choices_length k (w ∷ ws) = omega (arith, choices_length (k + 1) ws)

pub choices_stand : (rows : List PRow) (k : ℕ) (ws : List Wall) → length rows ≡ k → AllByRecursion (StandsChosen (rows ++ map single_row ws)) (choices_from k ws)
choices_stand rows k [] e = tt
choices_stand rows k (w ∷ ws) e =
    let r = single_row w in
    let here : with_row rows r ++ map single_row ws ≡ rows ++ r ∷ map single_row ws = append_assoc rows (r ∷ []) (map single_row ws) in
    let l : length (with_row rows r) ≡ k + 1 = omega (arith, length-append rows (r ∷ []), e) in
    subst (λ (rs : List PRow). AllByRecursion (StandsChosen rs) (choices_from k (w ∷ ws))) here
    (there_still (with_row rows r) (map single_row ws) k r (there_last rows k r e), choices_stand (with_row rows r) (k + 1) ws l)

-- ---- the trunk

-- good over the rows with those of the first walls' only values, where the given certificate is over all of them
abbrev pub IsWrapped : ℕ → List Wall → Cert → Cert → Type 0
IsWrapped n ws inner c = (rows : List PRow) → AllByRecursion (StandsWall rows) ws → IsGood (rows ++ map single_row ws) inner → IsGood (rows ++ map single_row (take n ws)) c

pub none_wrapped : (n : ℕ) (ws : List Wall) (c : Cert) → n ≡ length ws → IsWrapped n ws c c
none_wrapped n ws c e rows a g = subst (λ (us : List Wall). IsGood (rows ++ map single_row us) c) (sym (take_all n ws (omega (arith, e)))) g

pub all_wrapped : (ws : List Wall) (inner c : Cert) → IsWrapped 0 ws inner c → (rows : List PRow) → AllByRecursion (StandsWall rows) ws → IsGood (rows ++ map single_row ws) inner → IsGood rows c
all_wrapped ws inner c f rows a g = subst (λ (rs : List PRow). IsGood rs c) (append-nil rows) (f rows a g)

one_member : (w : Wall) → IsSingle w → 1 ≡ wall_count w
one_member w e = all_counted w 1 (w.low +ℤ pos 1) refl (omega (arith, ints, e)) (one_counted w 0 w.low (omega (arith, ints)) (omega (arith, ints, e)))

pub single_counted : (ws : List Wall) (n : ℕ) (w : Wall) (members : List Cert) (c : Cert) → n < length ws → w ≡ get_or ws n w → AllByRecursion IsSingle ws → members ≡ c ∷ [] → length members ≡ wall_count w
single_counted ws n w members c h is a e = ap (λ (cs : List Cert). length cs) e ∙ one_member w (subst (λ (v : Wall). IsSingle v) (sym is) (all_at IsSingle ws n w h a))

pub one_wrapped : (n k : ℕ) (ws : List Wall) (w : Wall) (inner c d : Cert) (members : List Cert) → n < length ws → k ≡ n + 1 → w ≡ get_or ws n w → members ≡ c ∷ []
    → ((rows : List PRow) → StandsWall rows w → AreGood (variable_of w.variable) w.low members rows → IsGood rows d) → IsWrapped k ws inner c → IsWrapped n ws inner d
one_wrapped n k ws w inner c d members h e is m good f rows a g =
    let before : List PRow = rows ++ map single_row (take n ws) in
    let split : rows ++ map single_row (take k ws) ≡ with_row before (single_row w) =
    ap (λ j. rows ++ map single_row (take j ws)) e
    ∙ ap (λ (us : List Wall). rows ++ map single_row us) (take_one ws n w h)
    ∙ ap (λ (rs : List PRow). rows ++ rs) (map_join single_row (take n ws) (get_or ws n w ∷ []))
    ∙ ap (λ (v : Wall). rows ++ (map single_row (take n ws) ++ single_row v ∷ [])) (sym is)
    ∙ sym (append_assoc rows (map single_row (take n ws)) (single_row w ∷ [])) in
    good before (subst (λ (v : Wall). StandsWall before v) (sym is) (all_at (StandsWall before) ws n w h (walls_more rows (map single_row (take n ws)) ws a)))
    (subst (λ (cs : List Cert). AreGood (variable_of w.variable) w.low cs before) (sym m) (subst (λ (rs : List PRow). IsGood rs c) split (f rows a g), tt))

pub shallow_at : (d e : ℕ) (c : Cert) → d ≡ e → IsShallow d c → IsShallow e c
shallow_at d e c h s = subst (λ n. IsShallow n c) h s

pub shallow_below : (d e : ℕ) (c : Cert) → d ≤ e → IsShallow d c → IsShallow e c
shallow_below d e c h s = record { depth = omega (arith, h, s.depth); constants = s.constants }

pub one_member_shallow : (d : ℕ) (c : Cert) (members : List Cert) → members ≡ c ∷ [] → IsShallow d c → AllByRecursion (IsShallow d) members
one_member_shallow d c members e s = subst (λ (cs : List Cert). AllByRecursion (IsShallow d) cs) (sym e) (s, tt)

pub next_wrapped : (n k : ℕ) (ws : List Wall) (e : Wall) (inner c d : Cert) (members : List Cert) → n < length ws → k ≡ n + 1 → members ≡ c ∷ []
    → ((rows : List PRow) → StandsWall rows (get_or ws n e) → AreGood (variable_of (get_or ws n e).variable) (get_or ws n e).low members rows → IsGood rows d) → IsWrapped k ws inner c → IsWrapped n ws inner d
next_wrapped n k ws e inner c d members h l m good f = one_wrapped n k ws (get_or ws n e) inner c d members h l (get_or_default ws n e (get_or ws n e) h) m good f

-- ---- the walls of a box

all_permuted : {A : Type 0} → (P : A → Type 0) (xs ys : List A) → IsPermutation xs ys → AllByRecursion P xs → AllByRecursion P ys
all_permuted P xs ys p a = to_recursion P ys (All-permutation P xs ys p (to_all P xs a))
  where
    to_all : {A : Type 0} → (P : A → Type 0) (xs : List A) → AllByRecursion P xs → All P xs
    to_all P [] a k d h = absurd (omega arith)
    to_all P (x ∷ xs) a zero d h = a.0
    to_all P (x ∷ xs) a (suc k) d h = to_all P xs a.1 k d (omega arith)

    to_recursion : {A : Type 0} → (P : A → Type 0) (xs : List A) → All P xs → AllByRecursion P xs
    to_recursion P [] a = tt
    to_recursion P (x ∷ xs) a = (a 0 x (omega arith), to_recursion P xs (λ k d h. a (suc k) d (omega arith)))

flips : (x y : ℕ) → nat_eq x y ≡ nat_eq y x
flips x y = same_tests (nat_eq x y) (nat_eq y x) (λ e. grind arith) (λ e. grind arith)

nat_equal : (x y : ℕ) → nat_eq x y ≡ eq_by_cmp nat_cmp x y
nat_equal x y = grind arith

rising_distinct : (vars : List ℕ) → IsStrictlySortedBy nat_cmp vars → IsDistinct nat_eq vars
unfolding IsDistinct
rising_distinct vars s = as_equal vars (IsDistinct-from_sorted nat_cmp vars s)
  where
    as_false : (x : ℕ) (ys : List ℕ) → AllByRecursion (λ y. eq_by_cmp nat_cmp x y ≡ false) ys → AllByRecursion (λ y. nat_eq x y ≡ false) ys
    as_false x [] a = tt
    as_false x (y ∷ ys) a = (nat_equal x y ∙ a.0, as_false x ys a.1)

    as_equal : (ys : List ℕ) → IsDistinct (eq_by_cmp nat_cmp) ys → IsDistinct nat_eq ys
    as_equal [] a = tt
    as_equal (y ∷ ys) a = (as_false y ys a.0, as_equal ys a.1)

-- the variables of a row are among those of the rows
row_named : (rows : List PRow) (names : List ℕ) → ((v : ℕ) → list_any (nat_eq v) (row_variables rows) ≡ true → list_any (nat_eq v) names ≡ true) → AllByRecursion (λ (r : PRow). AreNamed names r.poly) rows
row_named [] names h = tt
row_named (r ∷ rows) names h = (
  (λ v o. h v (in_first v (poly_variables r.poly) (row_variables rows) o)),
  row_named rows names (λ v o. h v (in_second v (poly_variables r.poly) (row_variables rows) o)),
)

rows_tame : (b : ℕ) (rows : List PRow) → AllByRecursion (λ (r : PRow). Fits r.poly) rows → list_all (is_modest b) rows ≡ true → AllByRecursion (λ (r : PRow). IsTame b r.poly) rows
rows_tame b [] f m = tt
rows_tame b (r ∷ rows) f m = let p = and_parts (is_modest b r) (list_all (is_modest b) rows) m in (modest_tame b r f.0 f.0.monos p.0, rows_tame b rows f.1 p.1)

walls_bounded : (b : ℕ) (ws : List Wall) (es : List Edge) → map side_of_wall ws ≡ sides_at es → reach_of (sides_at es) ≤ b → AllByRecursion (IsBounded b) ws
walls_bounded b ws es e h = go ws (omega (arith, ap reach_of e, h))
  where
    go : (us : List Wall) → reach_of (map side_of_wall us) ≤ b → AllByRecursion (IsBounded b) us
    go [] k = tt
    go (u ∷ us) k = ((omega (arith, k), omega (arith, k)), go us (omega (arith, k)))

pub box_walled : (rows : List PRow) (es : List Edge) (found walls : List Wall) (b : ℕ) → length rows + 4096 < 2 ^ 32 → AllByRecursion (λ (r : PRow). Fits r.poly) rows → box_of rows ≡ Some (sides_at es) → length es ≤ 2048
    → list_all (is_modest (reach_of (sides_at es))) rows ≡ true → All IsSmallEdge es → first_point rows ≡ None → b ≡ reach_of (sides_at es)
    → wall_variables found ≡ variables_of rows → map side_of_wall found ≡ sides_at es → AllByRecursion (StandsWall rows) found → IsPermutation found walls → IsWalled rows b walls
box_walled rows es found walls b room fits boxed few modest small none reach names sides stand p =
    let q : IsPermutation (wall_variables found) (wall_variables walls) = IsPermutation-map (λ (w : Wall). w.variable) found walls p in
    let l : length walls ≡ length es = length_permutation found walls p ∙ sym (length-map found side_of_wall) ∙ ap length sides ∙ length-map es side_at in
    record {
      tame = rows_tame b rows fits (subst (λ n. list_all (is_modest n) rows ≡ true) (sym reach) modest);
      named = row_named rows (wall_variables walls) (λ v o. sym (list_any-IsPermutation (nat_eq v) (wall_variables found) (wall_variables walls) q) ∙ ap (λ (xs : List ℕ). list_any (nat_eq v) xs) names ∙ occurs_there v rows o);
      distinct = IsDistinct-IsPermutation nat_eq flips (wall_variables found) (wall_variables walls) q (rising_distinct (wall_variables found) (rising rows (wall_variables found) names));
      bounds = all_permuted (StandsWall rows) found walls p stand;
      bounded = all_permuted (IsBounded b) found walls p (walls_bounded b found es sides (omega (arith, reach)));
      none = no_solution rows (sides_at es) boxed none;
      small = omega (arith, reach, small_reach es small);
      few = omega (arith, l, few);
      room = room;
    }

pub split_walled : (rows : List PRow) (b n : ℕ) (walls front back : List Wall) → front ≡ take n walls → back ≡ drop n walls → IsWalled rows b walls → IsWalled rows b (front ++ back)
split_walled rows b n walls front back e f w =
    subst (λ (ws : List Wall). IsWalled rows b ws) (sym (take-append-drop n walls) ∙ ap (λ (ws : List Wall). ws ++ drop n walls) (sym e) ∙ ap (λ (ws : List Wall). front ++ ws) (sym f)) w

pub split_few : (n k : ℕ) (found walls front back : List Wall) (es : List Edge) → front ≡ take n walls → back ≡ drop n walls → map side_of_wall found ≡ sides_at es → IsPermutation found walls → length es ≤ k → length front + length back ≤ k
split_few n k found walls front back es e f sides p few =
    let l : length walls ≡ length es = length_permutation found walls p ∙ sym (length-map found side_of_wall) ∙ ap length sides ∙ length-map es side_at in
    let whole : length (take n walls ++ drop n walls) ≡ length walls = ap (λ (ws : List Wall). length ws) (take-append-drop n walls) in
    omega (arith, length-append (take n walls) (drop n walls), ap (λ (ws : List Wall). length ws) e, ap (λ (ws : List Wall). length ws) f, whole, l, few)
