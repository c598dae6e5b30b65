-- An elimination goes on by one rule.
use Rattle.std.specs.Prelude.{◌≡◌, ℕ, zero, suc, false, ◌<◌, ◌*◌, ◌*ℤ◌, max, ℤ, pos, unsigned_abs, List, [], ◌∷◌, ◌++◌, length, map, take, drop, slice_get, Bool, Some, Result, refl}
use Rattle.std.proofs.Common.{ap, sym, ◌∙◌, subst, append_assoc, get_or, arith}
use Rattle.std.proofs.lemmas.List.{length-map, map-append}
use Rattle.std.proofs.lemmas.Int.{unsigned_abs-mul}
use Rattle.std.proofs.lemmas.Option.{slice_get_read, slice_get_within, same_Some}
use Rattle.std.specs.List.{remove}
use Rattle.std.specs.Option.{option_map_or}
use Rattle.mm_poly.specs.declared.term.Term.{Term}
use Rattle.mm_poly.specs.Poly.{IsPoly, coeff_of}
use Rattle.cert_kit.specs.declared.row.Op.TheVariants.{Eq}
use Rattle.cert_kit.specs.declared.row.PRow.{PRow}
use Rattle.fm_elim.specs.declared.live.Live.{Live}
use Rattle.fm_elim.specs.declared.sides.Side.{Side}
use Rattle.fm_elim.specs.declared.sides.Parts.{Parts}
use Rattle.fm_elim.specs.declared.rule.Rule.TheVariants.{Solve, Halve, Exact, Inexact}
use Rattle.fm_elim.specs.declared.removal.Removal.{Removal}
use Rattle.fm_elim.specs.declared.removal.Removal.TheVariants.{Solved, Bounded}
use Rattle.fm_elim.specs.Unknowns.{lowers, uppers}
use Rattle.fm_elim.specs.Tidy.{End}
use Rattle.fm_elim.specs.Steps.{rule_of, poly_at, solved, eliminated}
use Rattle.fm_elim.specs.Elimination.{Outcome, removing, next, by_rule, outcome_in}
use Rattle.fm_elim.specs.machine.Tidying.{rows_of, then_tidied}
use Rattle.fm_elim.specs.machine.Sides.{sides_of, sums_of, IsSplit}
use Rattle.fm_elim.specs.machine.Running.{wrapped}
use Rattle.fm_elim.proofs.RuleLaws.{Applies, IsEqualityAt, IsGivenAt, rule_applies}

map_take : {X Y : Type 0} (f : X → Y) (k : ℕ) (xs : List X) → map f (take k xs) ≡ take k (map f xs)
map_take f zero xs = refl
map_take f (suc k) [] = refl
map_take f (suc k) (x ∷ xs) = ap (λ q. f x ∷ q) (map_take f k xs)

map_drop : {X Y : Type 0} (f : X → Y) (k : ℕ) (xs : List X) → map f (drop k xs) ≡ drop k (map f xs)
map_drop f zero xs = refl
map_drop f (suc k) [] = refl
map_drop f (suc k) (x ∷ xs) = map_drop f k xs

pub rows_remove : (lives : List Live) (k : ℕ) → rows_of (remove lives k) ≡ remove (rows_of lives) k
rows_remove lives k =
    map-append (λ (l : Live). l.row) (take k lives) (drop (suc k) lives)
    ∙ ap (λ (q : List PRow). q ++ map (λ (l : Live). l.row) (drop (suc k) lives)) (map_take (λ (l : Live). l.row) k lives)
    ∙ ap (λ (q : List PRow). take k (rows_of lives) ++ q) (map_drop (λ (l : Live). l.row) (suc k) lives)

row_there : (lives : List Live) (k : ℕ) (l : Live) → slice_get lives k ≡ Some l → slice_get (rows_of lives) k ≡ Some l.row
row_there [] k l e = absurd cc
row_there (m ∷ lives) zero l e = ap (λ (n : Live). Some n.row) (same_Some m l e)
row_there (m ∷ lives) (suc k) l e = row_there lives k l e

poly_live : (lives : List Live) (k : ℕ) (l : Live) → slice_get lives k ≡ Some l → poly_at k (rows_of lives) ≡ l.row.poly
poly_live lives k l e = ap (λ o. option_map_or (λ (r : PRow). r.poly) o []) (row_there lives k l e)

inside_rows : (lives : List Live) (k : ℕ) (r : PRow) → slice_get (rows_of lives) k ≡ Some r → k < length lives
inside_rows lives k r e =
    let h = slice_get_within (rows_of lives) k r e in
    let m = length-map lives (λ (l : Live). l.row) in
    omega (arith, h, m)

pub given_inside : (lives : List Live) (k : ℕ) (u : List (ℕ × ℕ)) → rule_of (rows_of lives) ≡ Solve k u → k < length lives
given_inside lives k u e = let g : IsGivenAt (rows_of lives) k u = subst (Applies (rows_of lives)) e (rule_applies (rows_of lives)) in inside_rows lives k g.row g.here

pub equality_inside : (lives : List Live) (k : ℕ) → rule_of (rows_of lives) ≡ Halve k → k < length lives
equality_inside lives k e = let g : IsEqualityAt (rows_of lives) k = subst (Applies (rows_of lives)) e (rule_applies (rows_of lives)) in inside_rows lives k g.row g.here

pub live_there : (lives : List Live) (k : ℕ) (x : Live) → k < length lives → x ≡ get_or lives k x → slice_get lives k ≡ Some x
live_there lives k x h e = slice_get_read lives (length lives) k x refl h e

one_of_square : (n : ℕ) → n * n ≡ 1 → n ≡ 1
one_of_square n e = grind arith

pub magnitude_one : (c : ℤ) → c *ℤ c ≡ pos 1 → unsigned_abs c ≡ 1
magnitude_one c e = one_of_square (unsigned_abs c) (sym (unsigned_abs-mul c c) ∙ ap unsigned_abs e)

-- the coefficient of the unknown that is solved is 1 or -1
pub given_unit : (lives : List Live) (k : ℕ) (u : List (ℕ × ℕ)) (x : Live) → rule_of (rows_of lives) ≡ Solve k u → slice_get lives k ≡ Some x → IsPoly x.row.poly
    → unsigned_abs (coeff_of x.row.poly u) ≡ 1
given_unit lives k u x e s h =
    let g : IsGivenAt (rows_of lives) k u = subst (Applies (rows_of lives)) e (rule_applies (rows_of lives)) in
    let same : g.row ≡ x.row = same_Some g.row x.row (sym g.here ∙ row_there lives k x s) in
    let p : IsPoly g.row.poly = subst (λ (r : PRow). IsPoly r.poly) (sym same) h in
    magnitude_one (coeff_of x.row.poly u) (subst (λ (r : PRow). coeff_of r.poly u *ℤ coeff_of r.poly u ≡ pos 1) same (g.unit p).square)

-- the rows of these rules are equalities

pub given_equality : (lives : List Live) (k : ℕ) (u : List (ℕ × ℕ)) (x : Live) → rule_of (rows_of lives) ≡ Solve k u → slice_get lives k ≡ Some x → x.row.op ≡ Eq
given_equality lives k u x e s =
    let g : IsGivenAt (rows_of lives) k u = subst (Applies (rows_of lives)) e (rule_applies (rows_of lives)) in
    let same : g.row ≡ x.row = same_Some g.row x.row (sym g.here ∙ row_there lives k x s) in
    ap (λ (r : PRow). r.op) (sym same) ∙ g.equality

pub halved_equality : (lives : List Live) (k : ℕ) (x : Live) → rule_of (rows_of lives) ≡ Halve k → slice_get lives k ≡ Some x → x.row.op ≡ Eq
halved_equality lives k x e s =
    let g : IsEqualityAt (rows_of lives) k = subst (Applies (rows_of lives)) e (rule_applies (rows_of lives)) in
    let same : g.row ≡ x.row = same_Some g.row x.row (sym g.here ∙ row_there lives k x s) in
    ap (λ (r : PRow). r.op) (sym same) ∙ g.equality

wrapped_removing : (rs : List Removal) (m : ℕ) (r : Removal) (o : Outcome) → wrapped rs m (removing r o) ≡ wrapped (rs ++ r ∷ []) m o
wrapped_removing rs m r o = ap (λ (q : List Removal). let w : Outcome = record { end = o.end; removed = q; norm = max m o.norm } in w) (sym (append_assoc rs (r ∷ []) o.removed))

pub solved_next : (n m k : ℕ) (exact : Bool) (rs pushed : List Removal) (u : List (ℕ × ℕ)) (lives others : List Live) (x : Live) → slice_get lives k ≡ Some x
    → others ≡ remove lives k → pushed ≡ rs ++ Solved u x.row.poly ∷ []
    → wrapped rs m (by_rule (outcome_in n) exact (rows_of lives) (Solve k u)) ≡ wrapped pushed m (next (outcome_in n exact) (then_tidied (solved u x.row.poly (rows_of others))))
solved_next n m k exact rs pushed u lives others x s e f =
    wrapped_removing rs m (Solved u (poly_at k (rows_of lives))) (next (outcome_in n exact) (then_tidied (solved u (poly_at k (rows_of lives)) (remove (rows_of lives) k))))
    ∙ ap (λ (p : List Term). wrapped (rs ++ Solved u p ∷ []) m (next (outcome_in n exact) (then_tidied (solved u p (remove (rows_of lives) k))))) (poly_live lives k x s)
    ∙ ap (λ (q : List PRow). wrapped (rs ++ Solved u x.row.poly ∷ []) m (next (outcome_in n exact) (then_tidied (solved u x.row.poly q)))) (sym (ap rows_of e ∙ rows_remove lives k))
    ∙ ap (λ (q : List Removal). wrapped q m (next (outcome_in n exact) (then_tidied (solved u x.row.poly (rows_of others))))) (sym f)

sums_are : (u : List (ℕ × ℕ)) (lives : List Live) (parts : Parts) (ls hs : List Side) → IsSplit u lives parts → ls ≡ parts.lowers.items → hs ≡ parts.uppers.items
    → eliminated u (rows_of lives) ≡ sums_of u (rows_of parts.without.items) (sides_of ls) (sides_of hs)
sums_are u lives parts ls hs p e f =
    ap (λ (q : List PRow). sums_of u q (lowers u (rows_of lives)) (uppers u (rows_of lives))) (sym p.without_is)
    ∙ ap (λ (q : List PRow). sums_of u (rows_of parts.without.items) q (uppers u (rows_of lives))) (sym (ap sides_of e ∙ p.lowers_are))
    ∙ ap (λ (q : List PRow). sums_of u (rows_of parts.without.items) (sides_of ls) q) (sym (ap sides_of f ∙ p.uppers_are))

pub inexact_next : (n m : ℕ) (exact : Bool) (rs : List Removal) (u : List (ℕ × ℕ)) (lives : List Live) (parts : Parts) (ls hs : List Side) → IsSplit u lives parts
    → ls ≡ parts.lowers.items → hs ≡ parts.uppers.items
    → wrapped rs m (by_rule (outcome_in n) exact (rows_of lives) (Inexact u))
    ≡ wrapped rs m (next (outcome_in n false) (then_tidied (sums_of u (rows_of parts.without.items) (sides_of ls) (sides_of hs))))
inexact_next n m exact rs u lives parts ls hs p e f = ap (λ (q : Result (List PRow) End). wrapped rs m (next (outcome_in n false) (then_tidied q))) (sums_are u lives parts ls hs p e f)

pub exact_next : (n m : ℕ) (exact : Bool) (rs pushed : List Removal) (u : List (ℕ × ℕ)) (lives : List Live) (parts : Parts) (ls hs : List Side) (low high : List PRow) → IsSplit u lives parts
    → ls ≡ parts.lowers.items → hs ≡ parts.uppers.items → low ≡ sides_of parts.lowers.items → high ≡ sides_of parts.uppers.items → pushed ≡ rs ++ Bounded u low high ∷ []
    → wrapped rs m (by_rule (outcome_in n) exact (rows_of lives) (Exact u))
    ≡ wrapped pushed m (next (outcome_in n exact) (then_tidied (sums_of u (rows_of parts.without.items) (sides_of ls) (sides_of hs))))
exact_next n m exact rs pushed u lives parts ls hs low high p e f i j g =
    wrapped_removing rs m (Bounded u (lowers u (rows_of lives)) (uppers u (rows_of lives))) (next (outcome_in n exact) (then_tidied (eliminated u (rows_of lives))))
    ∙ ap (λ (q : Result (List PRow) End). wrapped (rs ++ Bounded u (lowers u (rows_of lives)) (uppers u (rows_of lives)) ∷ []) m (next (outcome_in n exact) (then_tidied q)))
    (sums_are u lives parts ls hs p e f)
    ∙ ap (λ (q : List PRow). wrapped (rs ++ Bounded u q (uppers u (rows_of lives)) ∷ []) m (next (outcome_in n exact) (then_tidied (sums_of u (rows_of parts.without.items) (sides_of ls) (sides_of hs)))))
    (sym (i ∙ p.lowers_are))
    ∙ ap (λ (q : List PRow). wrapped (rs ++ Bounded u low q ∷ []) m (next (outcome_in n exact) (then_tidied (sums_of u (rows_of parts.without.items) (sides_of ls) (sides_of hs)))))
    (sym (j ∙ p.uppers_are))
    ∙ ap (λ (q : List Removal). wrapped q m (next (outcome_in n exact) (then_tidied (sums_of u (rows_of parts.without.items) (sides_of ls) (sides_of hs))))) (sym g)
