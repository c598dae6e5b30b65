-- The search of a box finds the first point that solves the rows.
use Rattle.std.specs.Prelude.{◌≡◌, ℕ, zero, suc, ◌+◌, ◌-◌, ◌^◌, ◌<◌, ◌≤◌, max, ℤ, pos, negsuc, ◌+ℤ◌, ◌-ℤ◌, ◌*ℤ◌, ◌≤ℤ◌, ◌<ℤ◌, unsigned_abs, List, [], ◌∷◌, ◌++◌, map, length, take, drop, Bool, true, false, cond, ◌&&◌, Option, Some, None, nat_lt, refl}
use Rattle.std.proofs.Common.{ap, sym, ◌∙◌, subst, arith, get_or, append_assoc, append-nil, length-append}
use Rattle.std.proofs.lemmas.List.{length-take, length-drop}
use Rattle.std.proofs.lemmas.Int.{ints}
use Rattle.std.specs.Option.{option_map, option_or}
use Rattle.std.specs.List.{find, flat_map, All}
use Rattle.std.proofs.lemmas.List.Folds.{find-append}
use Rattle.mm_poly.specs.declared.term.Term.{Term}
use Rattle.mm_poly.specs.Mono.{mono_value, VarsBelow}
use Rattle.std.proofs.lemmas.List.{take_all}
use Rattle.mm_poly.specs.Poly.{norm, degree, value, HasPlaces}
use Rattle.mm_poly.proofs.PointLaws.{smaller_base}
use Rattle.mm_poly.specs.Point.{point_of, greatest_magnitude, value_bound}
use Rattle.mm_num.specs.Power.{power}
use Rattle.cert_kit.specs.declared.row.PRow.{PRow}
use Rattle.cert_kit.specs.Row.{row_holds, compares_0}
use Rattle.box_enum.specs.declared.waiting.Waiting.{Waiting}
use Rattle.box_enum.specs.declared.edge.Edge.{Edge}
use Rattle.box_enum.specs.machine.Edges.{side_at, sides_at}
use Rattle.box_enum.proofs.EdgeLaws.{places_more}
use Rattle.box_enum.specs.Box.{Side, points_of, integers_from, count_of, not_below_0, reach_of}
use Rattle.box_enum.specs.machine.Searching.{IsWaiting, IsPassed, waits_hold, first_from, first_value, Finds}
use Rattle.box_enum.proofs.PlainLaws.{later_length}

-- ---- a point's first places decide what has places there

place_first : (xs zs : List ℤ) (v : ℕ) → v < length xs → point_of (xs ++ zs) v ≡ point_of xs v
place_first [] zs v h = absurd (omega arith)
place_first (x ∷ xs) zs zero h = refl
place_first (x ∷ xs) zs (suc v) h = place_first xs zs v (omega arith)

mono_first : (xs zs : List ℤ) (n : ℕ) (fs : List (ℕ × ℕ)) → VarsBelow n fs → n ≤ length xs → mono_value (point_of (xs ++ zs)) fs ≡ mono_value (point_of xs) fs
mono_first xs zs n [] b h = refl
mono_first xs zs n (f ∷ fs) b h =
    ap (λ z. power z f.1 *ℤ mono_value (point_of (xs ++ zs)) fs) (place_first xs zs f.0 (omega (arith, b.0)))
    ∙ ap (λ z. power (point_of xs f.0) f.1 *ℤ z) (mono_first xs zs n fs b.1 h)

value_first : (xs zs : List ℤ) (n : ℕ) (ts : List Term) → HasPlaces n ts → n ≤ length xs → value (point_of (xs ++ zs)) ts ≡ value (point_of xs) ts
value_first xs zs n [] b h = refl
value_first xs zs n (t ∷ ts) b h =
    ap (λ z. t.coeff *ℤ z +ℤ value (point_of (xs ++ zs)) ts) (mono_first xs zs n t.mono b.0 h)
    ∙ ap (λ z. t.coeff *ℤ mono_value (point_of xs) t.mono +ℤ z) (value_first xs zs n ts b.1 h)

pub row_first : (xs zs : List ℤ) (n : ℕ) (r : PRow) → HasPlaces n r.poly → n ≤ length xs → row_holds (point_of (xs ++ zs)) r ≡ row_holds (point_of xs) r
row_first xs zs n r b h = ap (compares_0 r.op) (value_first xs zs n r.poly b h)

-- ---- the rows that are due

hold_step : (ws : List Waiting) (n : ℕ) (d : Waiting) (zs : List ℤ) → n < length ws → waits_hold (take (n + 1) ws) zs ≡ (waits_hold (take n ws) zs && row_holds (point_of zs) (get_or ws n d).row)
hold_step [] n d zs h = absurd (omega arith)
hold_step (w ∷ ws) zero d zs h = and_true (row_holds (point_of zs) w.row)
  where
    and_true : (b : Bool) → (b && true) ≡ b
    and_true true = refl
    and_true false = refl
hold_step (w ∷ ws) (suc n) d zs h =
    let one : suc n + 1 ≡ suc (n + 1) = omega arith in
    ap (λ k. waits_hold (take k (w ∷ ws)) zs) one
    ∙ ap (λ b. row_holds (point_of zs) w.row && b) (hold_step ws n d zs (omega arith))
    ∙ sym (and_assoc (row_holds (point_of zs) w.row) (waits_hold (take n ws) zs) (row_holds (point_of zs) (get_or ws n d).row))
  where
    and_assoc : (a b c : Bool) → ((a && b) && c) ≡ (a && (b && c))
    and_assoc true b c = refl
    and_assoc false b c = refl

false_at : (ws : List Waiting) (n : ℕ) (d : Waiting) (zs : List ℤ) → n < length ws → row_holds (point_of zs) (get_or ws n d).row ≡ false → waits_hold ws zs ≡ false
false_at [] n d zs h e = absurd (omega arith)
false_at (w ∷ ws) zero d zs h e = ap (λ b. b && waits_hold ws zs) e
false_at (w ∷ ws) (suc n) d zs h e = ap (λ b. row_holds (point_of zs) w.row && b) (false_at ws n d zs (omega arith) e) ∙ and_false (row_holds (point_of zs) w.row)
  where
    and_false : (b : Bool) → (b && false) ≡ false
    and_false true = refl
    and_false false = refl

pub due_false : (count reach : ℕ) (ws : List Waiting) (n : ℕ) (w : Waiting) (chosen zs : List ℤ) → All (IsWaiting count reach) ws → n < length ws → w ≡ get_or ws n w → w.due ≤ length chosen
    → row_holds (point_of chosen) w.row ≡ false → waits_hold ws (chosen ++ zs) ≡ false
due_false count reach ws n w chosen zs a h is e f =
    let at : IsWaiting count reach (get_or ws n w) = a n w h in
    let k : IsWaiting count reach w = subst (λ (x : Waiting). IsWaiting count reach x) (sym is) at in
    false_at ws n w (chosen ++ zs) h (ap (λ (x : Waiting). row_holds (point_of (chosen ++ zs)) x.row) (sym is) ∙ row_first chosen zs w.due w.row k.places e ∙ f)

pub due_true : (count reach : ℕ) (ws : List Waiting) (n : ℕ) (w : Waiting) (chosen : List ℤ) → All (IsWaiting count reach) ws → n < length ws → w ≡ get_or ws n w → w.due ≤ length chosen
    → row_holds (point_of chosen) w.row ≡ true → ((zs : List ℤ) → waits_hold (take n ws) (chosen ++ zs) ≡ true) → (zs : List ℤ) → waits_hold (take (n + 1) ws) (chosen ++ zs) ≡ true
due_true count reach ws n w chosen a h is e f g zs =
    let at : IsWaiting count reach (get_or ws n w) = a n w h in
    let k : IsWaiting count reach w = subst (λ (x : Waiting). IsWaiting count reach x) (sym is) at in
    hold_step ws n w (chosen ++ zs) h ∙ ap (λ b. b && row_holds (point_of (chosen ++ zs)) (get_or ws n w).row) (g zs)
    ∙ ap (λ (x : Waiting). row_holds (point_of (chosen ++ zs)) x.row) (sym is) ∙ row_first chosen zs w.due w.row k.places e ∙ f

-- those that hold leave the others to decide
hold_split : (ws : List Waiting) (n : ℕ) (zs : List ℤ) → waits_hold ws zs ≡ (waits_hold (take n ws) zs && waits_hold (drop n ws) zs)
hold_split ws zero zs = refl
hold_split [] (suc n) zs = refl
hold_split (w ∷ ws) (suc n) zs = ap (λ b. row_holds (point_of zs) w.row && b) (hold_split ws n zs) ∙ sym (and_assoc (row_holds (point_of zs) w.row) (waits_hold (take n ws) zs) (waits_hold (drop n ws) zs))
  where
    and_assoc : (a b c : Bool) → ((a && b) && c) ≡ (a && (b && c))
    and_assoc true b c = refl
    and_assoc false b c = refl

pub passed_first : (ws : List Waiting) (n : ℕ) (chosen : List ℤ) (sides : List Side) → ((zs : List ℤ) → waits_hold (take n ws) (chosen ++ zs) ≡ true) → first_from ws chosen sides ≡ first_from (drop n ws) chosen sides
passed_first ws n chosen sides h = ap (option_map (λ zs. chosen ++ zs)) (find_same (points_of sides))
  where
    find_same : (ps : List (List ℤ)) → find (λ zs. waits_hold ws (chosen ++ zs)) ps ≡ find (λ zs. waits_hold (drop n ws) (chosen ++ zs)) ps
    find_same [] = refl
    find_same (p ∷ ps) =
        ap (λ b. cond b (Some p) (find (λ zs. waits_hold ws (chosen ++ zs)) ps)) (hold_split ws n (chosen ++ p) ∙ ap (λ b. b && waits_hold (drop n ws) (chosen ++ p)) (h p))
        ∙ ap (λ o. cond (waits_hold (drop n ws) (chosen ++ p)) (Some p) o) (find_same ps)

pub none_from : (ws : List Waiting) (chosen : List ℤ) (sides : List Side) → ((zs : List ℤ) → waits_hold ws (chosen ++ zs) ≡ false) → first_from ws chosen sides ≡ None
none_from ws chosen sides h = ap (option_map (λ zs. chosen ++ zs)) (find_none (points_of sides))
  where
    find_none : (ps : List (List ℤ)) → find (λ zs. waits_hold ws (chosen ++ zs)) ps ≡ None
    find_none [] = refl
    find_none (p ∷ ps) = ap (λ b. cond b (Some p) (find (λ zs. waits_hold ws (chosen ++ zs)) ps)) (h p) ∙ find_none ps

-- ---- no side is left

pub found_here : (ws : List Waiting) (chosen : List ℤ) → waits_hold ws (chosen ++ []) ≡ true → first_from ws chosen [] ≡ Some chosen
found_here ws chosen h = ap (λ b. option_map (λ zs. chosen ++ zs) (cond b (Some []) None)) h ∙ ap (λ (xs : List ℤ). Some xs) (append-nil chosen)

-- ---- one side after another

pub map_find : (z : ℤ) (test : List ℤ → Bool) (ps : List (List ℤ)) → find test (map (λ zs. z ∷ zs) ps) ≡ option_map (λ zs. z ∷ zs) (find (λ zs. test (z ∷ zs)) ps)
map_find z test [] = refl
map_find z test (p ∷ ps) = by_test (test (z ∷ p)) (map_find z test ps)
  where
    by_test : (b : Bool) → find test (map (λ zs. z ∷ zs) ps) ≡ option_map (λ zs. z ∷ zs) (find (λ zs. test (z ∷ zs)) ps)
        → cond b (Some (z ∷ p)) (find test (map (λ zs. z ∷ zs) ps)) ≡ option_map (λ zs. z ∷ zs) (cond b (Some p) (find (λ zs. test (z ∷ zs)) ps))
    by_test true e = refl
    by_test false e = e

map_or : (f : List ℤ → List ℤ) (a b : Option (List ℤ)) → option_map f (option_or a b) ≡ option_or (option_map f a) (option_map f b)
map_or f None b = refl
map_or f (Some x) b = refl

map_map : (chosen : List ℤ) (z : ℤ) (o : Option (List ℤ)) → option_map (λ zs. chosen ++ zs) (option_map (λ zs. z ∷ zs) o) ≡ option_map (λ zs. (chosen ++ z ∷ []) ++ zs) o
map_map chosen z None = refl
map_map chosen z (Some zs) = ap (λ (xs : List ℤ). Some xs) (sym (append_assoc chosen (z ∷ []) zs))

same_find : (ws : List Waiting) (chosen : List ℤ) (z : ℤ) (ps : List (List ℤ)) → find (λ zs. waits_hold ws (chosen ++ z ∷ zs)) ps ≡ find (λ zs. waits_hold ws ((chosen ++ z ∷ []) ++ zs)) ps
same_find ws chosen z [] = refl
same_find ws chosen z (p ∷ ps) =
    ap (λ (xs : List ℤ). cond (waits_hold ws xs) (Some p) (find (λ zs. waits_hold ws (chosen ++ z ∷ zs)) ps)) (sym (append_assoc chosen (z ∷ []) p))
    ∙ ap (λ o. cond (waits_hold ws ((chosen ++ z ∷ []) ++ p)) (Some p) o) (same_find ws chosen z ps)

values_first : (ws : List Waiting) (chosen : List ℤ) (sides : List Side) (z : ℤ) (n : ℕ)
    → option_map (λ zs. chosen ++ zs) (find (λ zs. waits_hold ws (chosen ++ zs)) (flat_map (λ v. map (λ zs. v ∷ zs) (points_of sides)) (integers_from z n)))
    ≡ first_value (λ v. first_from ws (chosen ++ v ∷ []) sides) z n
values_first ws chosen sides z zero = refl
values_first ws chosen sides z (suc n) =
    ap (option_map (λ zs. chosen ++ zs)) (find-append (λ zs. waits_hold ws (chosen ++ zs)) (map (λ zs. z ∷ zs) (points_of sides)) (flat_map (λ v. map (λ zs. v ∷ zs) (points_of sides)) (integers_from (z +ℤ pos 1) n)))
    ∙ map_or (λ zs. chosen ++ zs) (find (λ zs. waits_hold ws (chosen ++ zs)) (map (λ zs. z ∷ zs) (points_of sides))) (find (λ zs. waits_hold ws (chosen ++ zs)) (flat_map (λ v. map (λ zs. v ∷ zs) (points_of sides)) (integers_from (z +ℤ pos 1) n)))
    ∙ ap (λ o. option_or o (option_map (λ zs. chosen ++ zs) (find (λ zs. waits_hold ws (chosen ++ zs)) (flat_map (λ v. map (λ zs. v ∷ zs) (points_of sides)) (integers_from (z +ℤ pos 1) n)))))
    (ap (option_map (λ zs. chosen ++ zs)) (map_find z (λ zs. waits_hold ws (chosen ++ zs)) (points_of sides) ∙ ap (option_map (λ zs. z ∷ zs)) (same_find ws chosen z (points_of sides)))
    ∙ map_map chosen z (find (λ zs. waits_hold ws ((chosen ++ z ∷ []) ++ zs)) (points_of sides)))
    ∙ ap (λ o. option_or (first_from ws (chosen ++ z ∷ []) sides) o) (values_first ws chosen sides (z +ℤ pos 1) n)

pub side_first : (ws : List Waiting) (chosen : List ℤ) (s : Side) (sides : List Side) → first_from ws chosen (s ∷ sides) ≡ first_value (λ v. first_from ws (chosen ++ v ∷ []) sides) s.low (count_of s)
side_first ws chosen s sides = values_first ws chosen sides s.low (count_of s)

-- how many values are left
abbrev pub left : ℤ → ℤ → ℕ
left value high = not_below_0 ((high -ℤ value) +ℤ pos 1)

pub one_left : (value high : ℤ) → value ≤ℤ high → left value high ≡ suc (left (value +ℤ pos 1) high)
one_left value high h = by_size ((high -ℤ value) +ℤ pos 1) ((high -ℤ (value +ℤ pos 1)) +ℤ pos 1) refl refl
  where
    by_size : (m n : ℤ) → (high -ℤ value) +ℤ pos 1 ≡ m → (high -ℤ (value +ℤ pos 1)) +ℤ pos 1 ≡ n → not_below_0 m ≡ suc (not_below_0 n)
    by_size (pos m) (pos n) e f = omega (arith, ints, h)
    by_size (pos m) (negsuc n) e f = absurd (omega (arith, ints, h))
    by_size (negsuc m) n e f = absurd (omega (arith, ints, h))

pub none_left : (value high : ℤ) → high <ℤ value → left value high ≡ 0
none_left value high h = by_size ((high -ℤ value) +ℤ pos 1) refl
  where
    by_size : (m : ℤ) → (high -ℤ value) +ℤ pos 1 ≡ m → not_below_0 m ≡ 0
    by_size (pos m) e = omega (arith, ints, h)
    by_size (negsuc m) e = refl

pub next_value : (f : ℤ → Option (List ℤ)) (value next high : ℤ) (whole : Option (List ℤ)) → value ≤ℤ high → next ≡ value +ℤ pos 1 → f value ≡ None → first_value f value (left value high) ≡ whole → first_value f next (left next high) ≡ whole
next_value f value next high whole h n e w =
    ap (λ v. first_value f v (left v high)) n
    ∙ sym (ap (λ k. first_value f value k) (one_left value high h) ∙ ap (λ o. option_or o (first_value f (value +ℤ pos 1) (left (value +ℤ pos 1) high))) e) ∙ w

pub this_value : (f : ℤ → Option (List ℤ)) (value high : ℤ) (whole : Option (List ℤ)) (zs : List ℤ) → value ≤ℤ high → f value ≡ Some zs → first_value f value (left value high) ≡ whole → whole ≡ Some zs
this_value f value high whole zs h e w =
    sym w ∙ ap (λ k. first_value f value k) (one_left value high h) ∙ ap (λ o. option_or o (first_value f (value +ℤ pos 1) (left (value +ℤ pos 1) high))) e

pub no_value : (f : ℤ → Option (List ℤ)) (value high : ℤ) (whole : Option (List ℤ)) → high <ℤ value → first_value f value (left value high) ≡ whole → whole ≡ None
no_value f value high whole h w = sym w ∙ ap (λ k. first_value f value k) (none_left value high h)

-- ---- in code

pub due_places : (count reach : ℕ) (ws : List Waiting) (n : ℕ) (w : Waiting) (m : ℕ) → All (IsWaiting count reach) ws → n < length ws → w ≡ get_or ws n w → w.due ≤ m → HasPlaces m w.row.poly
due_places count reach ws n w m a h is l =
    let k : IsWaiting count reach w = subst (λ (x : Waiting). IsWaiting count reach x) (sym is) (a n w h) in
    places_more w.due m w.row.poly l k.places

pub due_small : (count reach : ℕ) (ws : List Waiting) (n : ℕ) (w : Waiting) (chosen : List ℤ) → All (IsWaiting count reach) ws → n < length ws → w ≡ get_or ws n w → greatest_magnitude chosen ≤ reach
    → value_bound w.row.poly chosen < 2 ^ 126
due_small count reach ws n w chosen a h is l =
    let k : IsWaiting count reach w = subst (λ (x : Waiting). IsWaiting count reach x) (sym is) (a n w h) in
    let b : max 1 (greatest_magnitude chosen) ≤ max 1 reach = omega arith in
    smaller_base (norm w.row.poly) (max 1 (greatest_magnitude chosen)) (max 1 reach) (degree w.row.poly) (2 ^ 126) b k.tame

pub none_at : (ws : List Waiting) (chosen xs : List ℤ) (sides : List Side) → xs ≡ chosen → ((zs : List ℤ) → waits_hold ws (xs ++ zs) ≡ false) → first_from ws chosen sides ≡ None
none_at ws chosen xs sides e h = none_from ws chosen sides (λ zs. ap (λ ys. waits_hold ws (ys ++ zs)) (sym e) ∙ h zs)

pub end_found : (reach : ℕ) (ws : List Waiting) (edges : List Edge) (n : ℕ) (chosen xs : List ℤ) → length edges < 1 → xs ≡ chosen → All (IsWaiting (length chosen + length edges) reach) ws → IsPassed ws xs n
    → first_from ws chosen (sides_at edges) ≡ Some chosen
end_found reach ws (e ∷ es) n chosen xs l q a p = absurd (omega arith)
end_found reach ws [] n chosen xs l q a p = found_here ws chosen (by_rows ws refl)
  where
    by_rows : (us : List Waiting) → ws ≡ us → waits_hold ws (chosen ++ []) ≡ true
    by_rows [] e = ap (λ (vs : List Waiting). waits_hold vs (chosen ++ [])) e
    by_rows (u ∷ us) e = by_lt (nat_lt n (length ws)) refl
      where
        by_lt : (b : Bool) → nat_lt n (length ws) ≡ b → waits_hold ws (chosen ++ []) ≡ true
        by_lt true k =
            let m : n < length ws = grind arith in
            let d : length xs < (get_or ws n u).due = p.next u m in
            let f : IsWaiting (length chosen + 0) reach (get_or ws n u) = a n u m in
            let g : (get_or ws n u).due ≤ length chosen + 0 = f.early in
            let same : length xs ≡ length chosen = ap length q in
            absurd (omega arith)
        by_lt false k =
            let m : length ws ≤ n = grind arith in
            ap (λ (vs : List Waiting). waits_hold vs (chosen ++ [])) (sym (take_all n ws m)) ∙ ap (λ ys. waits_hold (take n ws) (ys ++ [])) (sym q) ∙ p.hold []

pub drop_waiting : (count reach : ℕ) (ws : List Waiting) (n : ℕ) → All (IsWaiting count reach) ws → All (IsWaiting count reach) (drop n ws)
drop_waiting count reach ws zero a = a
drop_waiting count reach [] (suc n) a = a
drop_waiting count reach (w ∷ ws) (suc n) a = drop_waiting count reach ws n (λ k d h. a (suc k) d (omega arith))

pub edges_later : (es : List Edge) → 1 ≤ length es → length (take (length es - 1) (drop 1 es)) + 1 ≡ length es
edges_later es h = omega (arith, later_length es)

all_of : {A : Type 0} (xs : List A) (n : ℕ) → take (length xs - n) (drop n xs) ≡ drop n xs
all_of xs n = take_all (length xs - n) (drop n xs) (omega (arith, length-drop n xs))

edges_split : (es : List Edge) (d : Edge) → 1 ≤ length es → es ≡ get_or es 0 d ∷ take (length es - 1) (drop 1 es)
edges_split [] d h = absurd (omega arith)
edges_split (e ∷ es) d h = ap (λ (r : List Edge). e ∷ r) (sym (all_of (e ∷ es) 1))

pub part_waiting : (count reach m : ℕ) (ws : List Waiting) (n : ℕ) → count ≡ m → All (IsWaiting count reach) ws → All (IsWaiting m reach) (take (length ws - n) (drop n ws))
part_waiting count reach m ws n e a = subst (λ (us : List Waiting). All (IsWaiting m reach) us) (sym (all_of ws n)) (subst (λ k. All (IsWaiting k reach) (drop n ws)) e (drop_waiting count reach ws n a))

pub same_waiting : (count reach m : ℕ) (ws : List Waiting) → count ≡ m → All (IsWaiting count reach) ws → All (IsWaiting m reach) ws
same_waiting count reach m ws e a = subst (λ k. All (IsWaiting k reach) ws) e a

pub later_within : (g reach : ℕ) (es : List Edge) (d : Edge) → 1 ≤ length es → max g (reach_of (sides_at es)) ≤ reach → max g (reach_of (sides_at (get_or es 0 d ∷ take (length es - 1) (drop 1 es)))) ≤ reach
later_within g reach es d h w = subst (λ (xs : List Edge). max g (reach_of (sides_at xs)) ≤ reach) (edges_split es d h) w

pub finds_edges : (ws : List Waiting) (es : List Edge) (d : Edge) (n : ℕ) (chosen xs new : List ℤ) (found : Bool) → 1 ≤ length es → xs ≡ chosen → IsPassed ws xs n
    → Finds found (first_value (λ z. first_from (take (length ws - n) (drop n ws)) (chosen ++ z ∷ []) (sides_at (take (length es - 1) (drop 1 es)))) (get_or es 0 d).low (count_of (side_at (get_or es 0 d)))) chosen new
    → Finds found (first_from ws chosen (sides_at es)) chosen new
finds_edges ws es d n chosen xs new found h e p f =
    let e0 = get_or es 0 d in
    let later = take (length es - 1) (drop 1 es) in
    let split : first_from ws chosen (sides_at es) ≡ first_value (λ z. first_from (take (length ws - n) (drop n ws)) (chosen ++ z ∷ []) (sides_at later)) e0.low (count_of (side_at e0)) =
    passed_first ws n chosen (sides_at es) (λ zs. ap (λ ys. waits_hold (take n ws) (ys ++ zs)) (sym e) ∙ p.hold zs)
    ∙ ap (λ (xs : List Edge). first_from (drop n ws) chosen (sides_at xs)) (edges_split es d h)
    ∙ side_first (drop n ws) chosen (side_at e0) (sides_at later)
    ∙ ap (λ (us : List Waiting). first_value (λ z. first_from us (chosen ++ z ∷ []) (sides_at later)) e0.low (count_of (side_at e0))) (sym (all_of ws n)) in
    subst (λ o. Finds found o chosen new) (sym split) f

-- ---- a value is chosen

magnitude_more : (xs : List ℤ) (v : ℤ) → greatest_magnitude (xs ++ v ∷ []) ≡ max (greatest_magnitude xs) (unsigned_abs v)
magnitude_more [] v = omega arith
magnitude_more (x ∷ xs) v = omega (arith, magnitude_more xs v)

between : (v low high : ℤ) → low ≤ℤ v → v ≤ℤ high → unsigned_abs v ≤ max (unsigned_abs low) (unsigned_abs high)
between v low high h k = omega (arith, ints)

pub value_within : (xs new : List ℤ) (v : ℤ) (e : Edge) (r reach : ℕ) → new ≡ xs ++ v ∷ [] → e.low ≤ℤ v → v ≤ℤ e.high → max (greatest_magnitude xs) (max (max (unsigned_abs e.low) (unsigned_abs e.high)) r) ≤ reach
    → max (greatest_magnitude new) r ≤ reach
value_within xs new v e r reach q h k w = omega (arith, ap greatest_magnitude q, magnitude_more xs v, between v e.low e.high h k)

pub one_longer : (xs new : List ℤ) (v : ℤ) (m : ℕ) → new ≡ xs ++ v ∷ [] → length xs + 1 + m ≡ length new + m
one_longer xs new v m q = omega (arith, ap length q, length-append xs (v ∷ []))

pub finds_true : (b : Bool) (o : Option (List ℤ)) (x y : List ℤ) → b ≡ true → Finds b o x y → o ≡ Some y
finds_true true o x y e f = f
finds_true false o x y e f = absurd cc

pub finds_false : (b : Bool) (o : Option (List ℤ)) (x y : List ℤ) → b ≡ false → Finds b o x y → (o ≡ None) × (y ≡ x)
finds_false false o x y e f = f
finds_false true o x y e f = absurd cc

pub less_left : (value next high : ℤ) → value ≤ℤ high → next ≡ value +ℤ pos 1 → left next high < left value high
less_left value next high h e = omega (arith, one_left value high h, ap (λ v. left v high) e)

take_front : (xs : List ℤ) (ys : List ℤ) → take (length xs) (xs ++ ys) ≡ xs
take_front [] ys = refl
take_front (x ∷ xs) ys = ap (λ zs. x ∷ zs) (take_front xs ys)

pub back_again : (xs new after out : List ℤ) (v : ℤ) (level : ℕ) → level ≡ length xs → new ≡ xs ++ v ∷ [] → after ≡ new → out ≡ take level after → out ≡ xs
back_again xs new after out v level l e f g = g ∙ ap (λ k. take k after) l ∙ ap (λ ys. take (length xs) ys) (f ∙ e) ∙ take_front xs (v ∷ [])
