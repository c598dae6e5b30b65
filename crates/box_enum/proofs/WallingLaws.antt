-- The walls of a box get their witnesses, one row after another.
use Rattle.std.specs.Prelude.{◌≡◌, ℕ, zero, suc, ◌+◌, ◌-◌, ◌<◌, ◌≤◌, ℤ, pos, nat_eq, nat_lt, List, [], ◌∷◌, ◌++◌, map, length, drop, Bool, true, false, cond, ◌⊎◌, int_lt, Ok, Err, Option, Some, None, slice_get, refl}
use Rattle.std.proofs.Common.{inl, inr, ap, sym, ◌∙◌, subst, arith, get_or, set, append_assoc, append-nil}
use Rattle.std.proofs.lemmas.Int.{ints}
use Rattle.std.proofs.lemmas.Option.{same_Some, slice_get_read}
use Rattle.std.proofs.lemmas.List.{drop_all, length-map}
use Rattle.std.proofs.Math.Seq.{drop-cons}
use Rattle.std.specs.Int.{int_min, int_max}
use Rattle.std.specs.Ordering.{int_eq, nat_cmp}
use Rattle.std.specs.List.{AllByRecursion}
use Rattle.std.specs.List.Sorted.{IsStrictlySortedBy}
use Rattle.mm_num.specs.Option.{◌>>=◌}
use Rattle.mm_num.proofs.OptionLaws.{bind_some}
use Rattle.mm_num.proofs.TestLaws.{is_int}
use Rattle.mm_poly.specs.Poly.{Fits}
use Rattle.mm_poly.proofs.CaseLaws.{by_if}
use Rattle.cert_kit.specs.declared.row.Op.{Op}
use Rattle.cert_kit.specs.declared.row.PRow.{PRow}
use Rattle.cert_kit.specs.Cut.{cut_of}
use Rattle.cert_kit.specs.Variables.{variables_of}
use Rattle.box_enum.specs.declared.edge.Edge.{Edge}
use Rattle.box_enum.specs.declared.reading.Reading.{Reading}
use Rattle.box_enum.specs.declared.wall.Witness.{Witness}
use Rattle.box_enum.specs.declared.wall.Wall.{Wall}
use Rattle.box_enum.specs.Box.{Side, is_shifted, lower_by, upper_by, better, low_of, high_of, side_of, sides_of, box_of}
use Rattle.box_enum.specs.machine.Edges.{side_at, sides_at}
use Rattle.box_enum.specs.machine.Reading.{low_read, high_read, IsReading}
use Rattle.box_enum.specs.machine.Places.{StandsWall}
use Rattle.box_enum.specs.machine.Trunks.{side_of_wall, wall_variables}
use Rattle.box_enum.specs.machine.Walling.{lower_witness, upper_witness, is_bound, witnessed, witnessed_there, bare_walls}
use Rattle.box_enum.proofs.BoundLaws.{place_above, above_all, not_in, by_lt}
use Rattle.box_enum.proofs.RefutingLaws.{all_at}
use Rattle.box_enum.proofs.WitnessLaws.{LowerRow, UpperRow, lower_row, upper_row, wall_stands}
use Rattle.box_enum.proofs.PlainLaws.{number_itself, number_not}

-- ---- a wall's witnesses so far

-- the rows from some on give the bounds only where the witnesses do
pub record IsHeld (rows rest : List PRow) (w : Wall) : Type 0 where
  pub lower : low_of w.variable rest ≡ Some w.low → LowerRow rows w.variable w.low w.lower
  pub upper : high_of w.variable rest ≡ Some w.high → UpperRow rows w.variable w.high w.upper

number_same : (v w : ℕ) → nat_eq v w ≡ true → v ≡ w
number_same v w h = grind arith

not_both : (b : Bool) → b ≡ true → b ≡ false → ⊥
not_both true e f = absurd cc
not_both false e f = absurd cc

unequal : (a z : ℤ) → int_eq a z ≡ false → a ≡ z → ⊥
unequal a z n k = not_both (int_eq z z) (itself z) (subst (λ m. int_eq m z ≡ false) k n)
  where
    itself : (m : ℤ) → int_eq m m ≡ true
    itself m = grind (arith, ints)

greater_is : (a b z : ℤ) → int_max a b ≡ z → int_eq a z ≡ false → b ≡ z
greater_is a b z e n = by_if (int_lt b a) a b (λ m. m ≡ z → b ≡ z) (λ l k. absurd (unequal a z n k)) (λ l k. k) e

less_is : (a b z : ℤ) → int_min a b ≡ z → int_eq a z ≡ false → b ≡ z
less_is a b z e n = by_if (int_lt b a) b a (λ m. m ≡ z → b ≡ z) (λ l k. k) (λ l k. absurd (unequal a z n k)) e

-- a bound that wasn't read is that of the rows before
other_lower : (o p : Option ℤ) (z : ℤ) → is_bound o z ≡ false → better int_max o p ≡ Some z → p ≡ Some z
other_lower None p z n e = e
other_lower (Some a) None z n e = absurd (unequal a z n (same_Some a z e))
other_lower (Some a) (Some b) z n e = ap (λ (k : ℤ). Some k) (greater_is a b z (same_Some (int_max a b) z e) n)

other_upper : (o p : Option ℤ) (z : ℤ) → is_bound o z ≡ false → better int_min o p ≡ Some z → p ≡ Some z
other_upper None p z n e = e
other_upper (Some a) None z n e = absurd (unequal a z n (same_Some a z e))
other_upper (Some a) (Some b) z n e = ap (λ (k : ℤ). Some k) (less_is a b z (same_Some (int_min a b) z e) n)

bound_is : (o : Option ℤ) (z : ℤ) → is_bound o z ≡ true → o ≡ Some z
bound_is None z e = absurd cc
bound_is (Some a) z e = ap (λ (k : ℤ). Some k) (is_int a z e)

-- ---- one more row in front

there : (rows rest : List PRow) (r : PRow) (x : Reading) (n : ℕ) (w : Wall) → slice_get rows n ≡ Some r → Fits r.poly → IsReading (cut_of r) (Some x) → nat_eq x.variable w.variable ≡ true
    → IsHeld rows rest w → IsHeld rows (r ∷ rest) (witnessed x r.op n w)
there rows rest r x n w here f i e h =
    let l : lower_by w.variable (cut_of r).op (cut_of r).poly ≡ x.low = i.lower w.variable ∙ ap (λ b. cond b x.low None) e in
    let u : upper_by w.variable (cut_of r).op (cut_of r).poly ≡ x.high = i.upper w.variable ∙ ap (λ b. cond b x.high None) e in
    let s : is_shifted w.variable (pos 1) (cut_of r).poly ≡ x.rising = subst (λ v. is_shifted v (pos 1) (cut_of r).poly ≡ x.rising) (number_same x.variable w.variable e) i.rising in
    record {
      lower = λ k. by_if (is_bound x.low w.low) (lower_witness r.op x.rising n) w.lower (LowerRow rows w.variable w.low)
          (λ b. lower_row rows n r w.variable w.low x.rising here f (l ∙ bound_is x.low w.low b) s)
          (λ b. h.lower (other_lower x.low (low_of w.variable rest) w.low b (ap (λ o. better int_max o (low_of w.variable rest)) (sym l) ∙ k)));
      upper = λ k. by_if (is_bound x.high w.high) (upper_witness r.op x.rising n) w.upper (UpperRow rows w.variable w.high)
          (λ b. upper_row rows n r w.variable w.high x.rising here f (u ∙ bound_is x.high w.high b) s)
          (λ b. h.upper (other_upper x.high (high_of w.variable rest) w.high b (ap (λ o. better int_min o (high_of w.variable rest)) (sym u) ∙ k)));
    }

elsewhere : (rows rest : List PRow) (r : PRow) (o : Option Reading) (w : Wall) → IsReading (cut_of r) o → low_read o w.variable ≡ None → high_read o w.variable ≡ None → IsHeld rows rest w → IsHeld rows (r ∷ rest) w
elsewhere rows rest r o w i e f h = record {
  lower = λ k. h.lower (ap (λ b. better int_max b (low_of w.variable rest)) (sym (i.lower w.variable ∙ e)) ∙ k);
  upper = λ k. h.upper (ap (λ b. better int_min b (high_of w.variable rest)) (sym (i.upper w.variable ∙ f)) ∙ k);
}

one_held : (rows rest : List PRow) (r : PRow) (x : Reading) (n : ℕ) (w : Wall) → slice_get rows n ≡ Some r → Fits r.poly → IsReading (cut_of r) (Some x) → IsHeld rows rest w → IsHeld rows (r ∷ rest) (witnessed_there x r.op n w)
one_held rows rest r x n w here f i h = by_if (nat_eq x.variable w.variable) (witnessed x r.op n w) w (IsHeld rows (r ∷ rest))
    (λ e. there rows rest r x n w here f i e h)
    (λ e. elsewhere rows rest r (Some x) w i (ap (λ b. cond b x.low None) e) (ap (λ b. cond b x.high None) e) h)

all_held : (rows rest : List PRow) (r : PRow) (x : Reading) (n : ℕ) (ws : List Wall) → slice_get rows n ≡ Some r → Fits r.poly → IsReading (cut_of r) (Some x) → AllByRecursion (IsHeld rows rest) ws
    → AllByRecursion (IsHeld rows (r ∷ rest)) (map (witnessed_there x r.op n) ws)
all_held rows rest r x n [] here f i h = tt
all_held rows rest r x n (w ∷ ws) here f i h = (one_held rows rest r x n w here f i h.0, all_held rows rest r x n ws here f i h.1)

all_passed : (rows rest : List PRow) (r : PRow) (ws : List Wall) → IsReading (cut_of r) None → AllByRecursion (IsHeld rows rest) ws → AllByRecursion (IsHeld rows (r ∷ rest)) ws
all_passed rows rest r [] i h = tt
all_passed rows rest r (w ∷ ws) i h = (elsewhere rows rest r None w i refl refl h.0, all_passed rows rest r ws i h.1)

none_held : (rows : List PRow) (ws : List Wall) → AllByRecursion (IsHeld rows []) ws
none_held rows [] = tt
none_held rows (w ∷ ws) = (record { lower = λ e. absurd cc; upper = λ e. absurd cc }, none_held rows ws)

-- ---- the walls stay what they are but for their witnesses

same_variable : (x : Reading) (o : Op) (n : ℕ) (w : Wall) → (witnessed_there x o n w).variable ≡ w.variable
same_variable x o n w = by_if (nat_eq x.variable w.variable) (witnessed x o n w) w (λ (v : Wall). v.variable ≡ w.variable) (λ e. refl) (λ e. refl)

same_side : (x : Reading) (o : Op) (n : ℕ) (w : Wall) → side_of_wall (witnessed_there x o n w) ≡ side_of_wall w
same_side x o n w = by_if (nat_eq x.variable w.variable) (witnessed x o n w) w (λ (v : Wall). side_of_wall v ≡ side_of_wall w) (λ e. refl) (λ e. refl)

same_variables : (x : Reading) (o : Op) (n : ℕ) (ws : List Wall) → wall_variables (map (witnessed_there x o n) ws) ≡ wall_variables ws
same_variables x o n [] = refl
same_variables x o n (w ∷ ws) = ap (λ v. v ∷ wall_variables (map (witnessed_there x o n) ws)) (same_variable x o n w) ∙ ap (λ (vs : List ℕ). w.variable ∷ vs) (same_variables x o n ws)

same_sides : (x : Reading) (o : Op) (n : ℕ) (ws : List Wall) → map side_of_wall (map (witnessed_there x o n) ws) ≡ map side_of_wall ws
same_sides x o n [] = refl
same_sides x o n (w ∷ ws) = ap (λ (s : Side). s ∷ map side_of_wall (map (witnessed_there x o n) ws)) (same_side x o n w) ∙ ap (λ (ss : List Side). side_of_wall w ∷ ss) (same_sides x o n ws)

-- the walls after the rows from this one on
pub record AreHeld (rows : List PRow) (n : ℕ) (vars : List ℕ) (edges : List Edge) (ws : List Wall) : Type 0 where
  pub variables : wall_variables ws ≡ vars
  pub sides : map side_of_wall ws ≡ sides_at edges
  pub held : AllByRecursion (IsHeld rows (drop n rows)) ws

one_front : (rows : List PRow) (n k : ℕ) (r : PRow) → 0 < n → n ≤ length rows → k ≡ n - 1 → r ≡ get_or rows k r → drop k rows ≡ r ∷ drop n rows
one_front rows zero k r p h e is = absurd (omega arith)
one_front rows (suc n) k r p h e is =
    let f : k ≡ n = omega (arith, e) in
    ap (λ j. drop j rows) f ∙ drop-cons rows n r h ∙ ap (λ (q : PRow). q ∷ drop (suc n) rows) (sym (is ∙ ap (λ j. get_or rows j r) f))

row_fits : (rows : List PRow) (k : ℕ) (r : PRow) → k < length rows → r ≡ get_or rows k r → AllByRecursion (λ (q : PRow). Fits q.poly) rows → Fits r.poly
row_fits rows k r h is a = subst (λ (q : PRow). Fits q.poly) (sym is) (all_at (λ (q : PRow). Fits q.poly) rows k r h a)

pub row_held : (rows : List PRow) (n k : ℕ) (r : PRow) (o : Option Reading) (x : Reading) (p : Op) (vars : List ℕ) (edges : List Edge) (ws new : List Wall) → 0 < n → n ≤ length rows → k ≡ n - 1 → r ≡ get_or rows k r → p ≡ r.op
    → AllByRecursion (λ (q : PRow). Fits q.poly) rows → o ≡ Some x → IsReading (cut_of r) o → new ≡ map (witnessed_there x p k) ws → AreHeld rows n vars edges ws → AreHeld rows k vars edges new
row_held rows n k r o x p vars edges ws new l h e is m fits f i g a =
    subst (λ (vs : List Wall). AreHeld rows k vars edges vs) (sym (g ∙ ap (λ c. map (witnessed_there x c k) ws) m)) (record {
      variables = same_variables x r.op k ws ∙ a.variables;
      sides = same_sides x r.op k ws ∙ a.sides;
      held = subst (λ (rest : List PRow). AllByRecursion (IsHeld rows rest) (map (witnessed_there x r.op k) ws)) (sym (one_front rows n k r l h e is))
          (all_held rows (drop n rows) r x k ws (slice_get_read rows (length rows) k r refl (omega (arith, e)) is) (row_fits rows k r (omega (arith, e)) is fits)
          (subst (λ (d : Option Reading). IsReading (cut_of r) d) f i) a.held);
    })

not_some : {A : Type 0} (o : Option A) → ((x : A) → o ≡ Some x → ⊥) → o ≡ None
not_some None n = refl
not_some (Some x) n = absurd (n x refl)

pub row_passed : (rows : List PRow) (n k : ℕ) (r : PRow) (o : Option Reading) (vars : List ℕ) (edges : List Edge) (ws : List Wall) → 0 < n → n ≤ length rows → k ≡ n - 1 → r ≡ get_or rows k r
    → ((x : Reading) → o ≡ Some x → ⊥) → IsReading (cut_of r) o → AreHeld rows n vars edges ws → AreHeld rows k vars edges ws
row_passed rows n k r o vars edges ws l h e is none i a = record {
  variables = a.variables;
  sides = a.sides;
  held = subst (λ (rest : List PRow). AllByRecursion (IsHeld rows rest) ws) (sym (one_front rows n k r l h e is))
      (all_passed rows (drop n rows) r ws (subst (λ (d : Option Reading). IsReading (cut_of r) d) (not_some o none) i) a.held);
}

-- ---- at first and at last

bare_variables : (vars : List ℕ) (edges : List Edge) → length vars ≡ length edges → wall_variables (bare_walls vars edges) ≡ vars
bare_variables [] edges e = refl
bare_variables (x ∷ vars) [] e = absurd (omega (arith, e))
bare_variables (x ∷ vars) (d ∷ edges) e = ap (λ (vs : List ℕ). x ∷ vs) (bare_variables vars edges (omega (arith, e)))

bare_sides : (vars : List ℕ) (edges : List Edge) → length vars ≡ length edges → map side_of_wall (bare_walls vars edges) ≡ sides_at edges
bare_sides [] [] e = refl
bare_sides [] (d ∷ edges) e = absurd (omega (arith, e))
bare_sides (x ∷ vars) [] e = absurd (omega (arith, e))
bare_sides (x ∷ vars) (d ∷ edges) e = ap (λ (ss : List Side). side_at d ∷ ss) (bare_sides vars edges (omega (arith, e)))

pub bare_held : (rows : List PRow) (n : ℕ) (vars : List ℕ) (edges : List Edge) (ws : List Wall) → length rows ≤ n → length vars ≡ length edges → ws ≡ bare_walls vars edges → AreHeld rows n vars edges ws
bare_held rows n vars edges ws h l e =
    subst (λ (vs : List Wall). AreHeld rows n vars edges vs) (sym e) (record {
      variables = bare_variables vars edges l;
      sides = bare_sides vars edges l;
      held = subst (λ (rest : List PRow). AllByRecursion (IsHeld rows rest) (bare_walls vars edges)) (sym (drop_all n rows h)) (none_held rows (bare_walls vars edges));
    })

same_head : {A : Type 0} (a b : A) (xs ys : List A) → a ∷ xs ≡ b ∷ ys → (a ≡ b) × (xs ≡ ys)
same_head a b xs ys e = (cc, cc)

side_bounds : (rows : List PRow) (w : Wall) → side_of rows w.variable ≡ Some (side_of_wall w) → (low_of w.variable rows ≡ Some w.low) × (high_of w.variable rows ≡ Some w.high)
side_bounds rows w e =
    let l = bind_some (low_of w.variable rows) _ (side_of_wall w) e in
    let h = bind_some (high_of w.variable rows) _ (side_of_wall w) l.2 in
    let s : record { low = l.0; high = h.0 } ≡ side_of_wall w = same_Some _ (side_of_wall w) h.2 in
    (l.1 ∙ ap (λ (t : Side). Some t.low) s, h.1 ∙ ap (λ (t : Side). Some t.high) s)

all_standing : (rows : List PRow) (ws : List Wall) → sides_of rows (wall_variables ws) ≡ Some (map side_of_wall ws) → AllByRecursion (IsHeld rows rows) ws → AllByRecursion (StandsWall rows) ws
all_standing rows [] e h = tt
all_standing rows (w ∷ ws) e h =
    let a = bind_some (side_of rows w.variable) _ (side_of_wall w ∷ map side_of_wall ws) e in
    let b = bind_some (sides_of rows (wall_variables ws)) _ (side_of_wall w ∷ map side_of_wall ws) a.2 in
    let s : (a.0 ≡ side_of_wall w) × (b.0 ≡ map side_of_wall ws) = same_head a.0 (side_of_wall w) b.0 (map side_of_wall ws) (same_Some _ _ b.2) in
    let k = side_bounds rows w (a.1 ∙ ap (λ (t : Side). Some t) s.0) in
    (wall_stands rows w (h.0.lower k.0) (h.0.upper k.1), all_standing rows ws (b.1 ∙ ap (λ (t : List Side). Some t) s.1) h.1)

pub walls_stand : (rows : List PRow) (n : ℕ) (vars : List ℕ) (edges : List Edge) (ws : List Wall) → n ≡ 0 → vars ≡ variables_of rows → box_of rows ≡ Some (sides_at edges) → AreHeld rows n vars edges ws → AllByRecursion (StandsWall rows) ws
walls_stand rows n vars edges ws z e b a =
    all_standing rows ws (ap (sides_of rows) (a.variables ∙ e) ∙ b ∙ ap (λ (ss : List Side). Some ss) (sym a.sides))
    (subst (λ k. AllByRecursion (IsHeld rows (drop k rows)) ws) z a.held)

-- one more without witnesses
pub bare_more : (out new : List Wall) (vars : List ℕ) (edges : List Edge) (n : ℕ) (x : ℕ) (d : Edge) → n < length vars → n < length edges → x ≡ get_or vars n 0 → d ≡ get_or edges n d
    → new ≡ out ++ bare_walls (x ∷ []) (d ∷ []) → out ++ bare_walls (drop n vars) (drop n edges) ≡ bare_walls vars edges
    → new ++ bare_walls (drop (n + 1) vars) (drop (n + 1) edges) ≡ bare_walls vars edges
bare_more out new vars edges n x d h k e f g w =
    let one : suc n ≡ n + 1 = omega arith in
    let rest : List Wall = bare_walls (drop (n + 1) vars) (drop (n + 1) edges) in
    let l : drop n vars ≡ x ∷ drop (n + 1) vars = drop-cons vars n 0 h ∙ ap (λ v. v ∷ drop (suc n) vars) (sym e) ∙ ap (λ j. x ∷ drop j vars) one in
    let r : drop n edges ≡ d ∷ drop (n + 1) edges = drop-cons edges n d k ∙ ap (λ (b : Edge). b ∷ drop (suc n) edges) (sym f) ∙ ap (λ j. d ∷ drop j edges) one in
    ap (λ (ws : List Wall). ws ++ rest) g
    ∙ append_assoc out (bare_walls (x ∷ []) (d ∷ [])) rest
    ∙ ap (λ (xs : List ℕ). out ++ bare_walls xs (d ∷ drop (n + 1) edges)) (sym l)
    ∙ ap (λ (ds : List Edge). out ++ bare_walls (drop n vars) ds) (sym r)
    ∙ w

pub all_bare : (out : List Wall) (vars : List ℕ) (edges : List Edge) (n : ℕ) → length vars ≤ n → out ++ bare_walls (drop n vars) (drop n edges) ≡ bare_walls vars edges → out ≡ bare_walls vars edges
all_bare out vars edges n h w = sym (append-nil out) ∙ ap (λ (xs : List ℕ). out ++ bare_walls xs (drop n edges)) (sym (drop_all n vars h)) ∙ w

-- ---- the wall of the variable that was read

untouched : (x : Reading) (o : Op) (n : ℕ) (ws : List Wall) → AllByRecursion (λ v. x.variable ≡ v → ⊥) (wall_variables ws) → ws ≡ map (witnessed_there x o n) ws
untouched x o n [] a = refl
untouched x o n (w ∷ ws) a =
    ap (λ (v : Wall). v ∷ ws) (ap (λ b. cond b (witnessed x o n w) w) (sym (number_not w.variable x.variable a.0)))
    ∙ ap (λ (vs : List Wall). witnessed_there x o n w ∷ vs) (untouched x o n ws a.1)

set_there : (x : Reading) (o : Op) (n k : ℕ) (d : Wall) (ws : List Wall) → IsStrictlySortedBy nat_cmp (wall_variables ws) → k < length ws → get_or (wall_variables ws) k 0 ≡ x.variable
    → set ws k (witnessed x o n (get_or ws k d)) ≡ map (witnessed_there x o n) ws
unfolding IsStrictlySortedBy
set_there x o n k d [] s h e = absurd (omega arith)
set_there x o n zero d (w ∷ ws) s h e =
    ap (λ (v : Wall). v ∷ ws) (ap (λ b. cond b (witnessed x o n w) w) (sym (number_itself x.variable) ∙ ap (λ v. nat_eq x.variable v) (sym e)))
    ∙ ap (λ (vs : List Wall). witnessed_there x o n w ∷ vs) (untouched x o n ws (subst (λ v. AllByRecursion (λ u. v ≡ u → ⊥) (wall_variables ws)) e (above_all w.variable (wall_variables ws) s.0)))
set_there x o n (suc k) d (w ∷ ws) s h e =
    let below : w.variable < x.variable = place_above w.variable x.variable (wall_variables ws) k s.0 (as_long ws k (omega arith)) e in
    ap (λ (v : Wall). v ∷ set ws k (witnessed x o n (get_or ws k d))) (ap (λ b. cond b (witnessed x o n w) w) (sym (number_not w.variable x.variable (λ q. absurd (omega (arith, below, q))))))
    ∙ ap (λ (vs : List Wall). witnessed_there x o n w ∷ vs) (set_there x o n k d ws s.1 (omega arith) e)
  where
    as_long : (vs : List Wall) (j : ℕ) → j < length vs → j < length (wall_variables vs)
    as_long [] j l = absurd (omega arith)
    as_long (v ∷ vs) zero l = omega arith
    as_long (v ∷ vs) (suc j) l = let r : j < length (wall_variables vs) = as_long vs j (omega arith) in omega arith

pub wall_witnessed : (x : Reading) (o : Op) (n k : ℕ) (d v : Wall) (vars : List ℕ) (ws new : List Wall) → wall_variables ws ≡ vars → IsStrictlySortedBy nat_cmp vars → (k < length vars) × (get_or vars k 0 ≡ x.variable)
    → d ≡ get_or ws k d → v ≡ witnessed x o n d → new ≡ set ws k v → new ≡ map (witnessed_there x o n) ws
wall_witnessed x o n k d v vars ws new e s b is f g =
    let l : k < length ws = omega (arith, b.0, ap (λ (vs : List ℕ). length vs) e, length-map ws (λ (w : Wall). w.variable)) in
    g ∙ ap (λ (u : Wall). set ws k u) (f ∙ ap (λ (u : Wall). witnessed x o n u) is)
    ∙ set_there x o n k d ws (subst (λ (vs : List ℕ). IsStrictlySortedBy nat_cmp vs) (sym e) s) l (ap (λ (vs : List ℕ). get_or vs k 0) e ∙ b.1)

pub wall_missing : (x : Reading) (o : Op) (n i : ℕ) (vars : List ℕ) (ws : List Wall) → wall_variables ws ≡ vars
    → (i ≤ length vars) × ((k : ℕ) → k < i → get_or vars k 0 < x.variable) × ((k : ℕ) → i ≤ k → k < length vars → x.variable < get_or vars k 0) → ws ≡ map (witnessed_there x o n) ws
wall_missing x o n i vars ws e b =
    untouched x o n ws (subst (λ (vs : List ℕ). AllByRecursion (λ v. x.variable ≡ v → ⊥) vs) (sym e) (not_in x.variable vars (λ k l q. other k l q)))
  where
    other : (k : ℕ) → k < length vars → get_or vars k 0 ≡ x.variable → ⊥
    other k l q = elim (by_lt k i (nat_lt k i) refl) [ inl a ↦ absurd (omega (arith, b.1 k a, q)) | inr a ↦ absurd (omega (arith, b.2 k a l, q)) ]
