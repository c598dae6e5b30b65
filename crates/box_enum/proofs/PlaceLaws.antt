-- The places of a box: what goes on standing where a value is chosen.
use Rattle.std.specs.Prelude.{◌≡◌, ℕ, zero, suc, ◌+◌, ◌-◌, ◌*◌, ◌^◌, ◌<◌, ◌≤◌, max, ℤ, pos, negsuc, ◌+ℤ◌, ◌-ℤ◌, ◌≤ℤ◌, ◌<ℤ◌, unsigned_abs, nat_eq, List, [], ◌∷◌, ◌++◌, map, length, take, drop, Bool, true, false, cond, ◌&&◌, ◌||◌, Option, Some, None, slice_get, refl}
use Rattle.std.proofs.Common.{ap, sym, ◌∙◌, subst, arith, append_assoc, length-append, get_or}
use Rattle.std.proofs.lemmas.Int.{ints}
use Rattle.std.proofs.lemmas.List.{length-take, length-drop}
use Rattle.std.specs.List.{AllByRecursion, IsDistinct, list_any}
use Rattle.mm_num.proofs.ListLaws.{all_join, all_split}
use Rattle.mm_poly.specs.declared.term.Term.{Term}
use Rattle.mm_poly.specs.Poly.{variable_of}
use Rattle.cert_kit.specs.declared.row.PRow.{PRow}
use Rattle.cert_kit.specs.declared.cert.Cert.{Cert}
use Rattle.cert_kit.specs.Row.{Holds}
use Rattle.cert_kit.specs.Acceptance.{value_row, with_row, not_below_0, IsGood}
use Rattle.cert_kit.specs.Making.{AreGood}
use Rattle.box_enum.specs.declared.numbered.Choice.{Choice}
use Rattle.box_enum.specs.declared.numbered.Numbered.{Numbered}
use Rattle.box_enum.specs.declared.standing.Standing.{Standing}
use Rattle.box_enum.specs.declared.standing.Ground.{Ground}
use Rattle.box_enum.specs.declared.wall.Wall.{Wall}
use Rattle.box_enum.specs.machine.Putting.{IsTame, IsWithinReach, StandsChosen, StandsNumbered}
use Rattle.box_enum.specs.machine.Places.{wall_count, StandsWall, IsBounded, IsPlace, Agrees, IsInside, HasNoPoint, names_of, AreNamed, IsOpen, IsShallow, IsGoodAt, choice_at}
use Rattle.box_enum.proofs.WallLaws.{walls_more}
use Rattle.box_enum.proofs.PlainLaws.{later_length}

-- ---- rows go on standing

pub there_still : (rows more : List PRow) (n : ℕ) (r : PRow) → slice_get rows n ≡ Some r → slice_get (rows ++ more) n ≡ Some r
there_still [] more n r e = absurd cc
there_still (q ∷ rows) more zero r e = e
there_still (q ∷ rows) more (suc n) r e = there_still rows more n r e

pub there_last : (rows : List PRow) (n : ℕ) (r : PRow) → length rows ≡ n → slice_get (with_row rows r) n ≡ Some r
there_last [] zero r e = refl
there_last [] (suc n) r e = absurd (omega (arith, e))
there_last (q ∷ rows) zero r e = absurd (omega (arith, e))
there_last (q ∷ rows) (suc n) r e = there_last rows n r (omega (arith, e))

pub chosen_more : (rows more : List PRow) (cs : List Choice) → AllByRecursion (StandsChosen rows) cs → AllByRecursion (StandsChosen (rows ++ more)) cs
chosen_more rows more [] a = tt
chosen_more rows more (c ∷ cs) a = (there_still rows more c.row (value_row (variable_of c.variable) c.value) a.0, chosen_more rows more cs a.1)

pub standing_more : (rows more : List PRow) (ss : List Standing) → AllByRecursion (λ (s : Standing). StandsNumbered rows s.numbered) ss → AllByRecursion (λ (s : Standing). StandsNumbered (rows ++ more) s.numbered) ss
standing_more rows more [] a = tt
standing_more rows more (s ∷ ss) a = (there_still rows more s.numbered.number s.numbered.row a.0, standing_more rows more ss a.1)

-- ---- the next place

pub place_more : (rows : List PRow) (n : ℕ) (ss : List Standing) (cs : List Choice) (w : Wall) (ws : List Wall) (v : ℤ) → IsPlace rows n ss cs (w ∷ ws)
    → IsPlace (with_row rows (value_row (variable_of w.variable) v)) (n + 1) ss (cs ++ choice_at n w v ∷ []) ws
place_more rows n ss cs w ws v p =
    let r = value_row (variable_of w.variable) v in
    record {
      counted = omega (arith, length-append rows (r ∷ []), p.counted);
      numbered = standing_more rows (r ∷ []) ss p.numbered;
      chosen = all_join (StandsChosen (with_row rows r)) cs (choice_at n w v ∷ []) (chosen_more rows (r ∷ []) cs p.chosen) (there_last rows n r p.counted, tt);
      bounds = walls_more rows (r ∷ []) ws p.bounds.1;
    }

chosen_names : (cs ds : List Choice) → map (λ (c : Choice). c.variable) (cs ++ ds) ≡ map (λ (c : Choice). c.variable) cs ++ map (λ (c : Choice). c.variable) ds
chosen_names [] ds = refl
chosen_names (c ∷ cs) ds = ap (λ (xs : List ℕ). c.variable ∷ xs) (chosen_names cs ds)

pub same_names : (n : ℕ) (cs : List Choice) (w : Wall) (ws : List Wall) (v : ℤ) → names_of (cs ++ choice_at n w v ∷ []) ws ≡ names_of cs (w ∷ ws)
same_names n cs w ws v =
    ap (λ (xs : List ℕ). xs ++ map (λ (u : Wall). u.variable) ws) (chosen_names cs (choice_at n w v ∷ []))
    ∙ append_assoc (map (λ (c : Choice). c.variable) cs) (w.variable ∷ []) (map (λ (u : Wall). u.variable) ws)

between : (v low high : ℤ) (b : ℕ) → low ≤ℤ v → v ≤ℤ high → unsigned_abs low ≤ b → unsigned_abs high ≤ b → unsigned_abs v ≤ b
between v low high b h k l m = omega (arith, ints)

pub open_more : (g : Ground) (n : ℕ) (cs : List Choice) (w : Wall) (ws : List Wall) (v : ℤ) → w.low ≤ℤ v → v ≤ℤ w.high → IsOpen g n cs (w ∷ ws) → IsOpen g (n + 1) (cs ++ choice_at n w v ∷ []) ws
open_more g n cs w ws v l h o =
    let e = same_names n cs w ws v in
    record {
      tame = o.tame;
      named = subst (λ (xs : List ℕ). AllByRecursion (λ (s : Standing). AreNamed xs s.numbered.row.poly) g.standing) (sym e) o.named;
      distinct = subst (λ (xs : List ℕ). IsDistinct nat_eq xs) (sym e) o.distinct;
      within = all_join (IsWithinReach g.reach) cs (choice_at n w v ∷ []) o.within (between v w.low w.high g.reach l h o.bounded.0.0 o.bounded.0.1, tt);
      bounded = o.bounded.1;
      none = λ x a i s. next x a i s;
      small = o.small;
      room = omega (arith, length-append cs (choice_at n w v ∷ []), o.room);
    }
  where
    next : (x : ℕ → ℤ) → AllByRecursion (Agrees x) (cs ++ choice_at n w v ∷ []) → AllByRecursion (IsInside x) ws → AllByRecursion (λ (s : Standing). Holds x s.numbered.row) g.standing → ⊥
    next x a i s =
        let p = all_split (Agrees x) cs (choice_at n w v ∷ []) a in
        let e : x w.variable ≡ v = p.1.0 in
        o.none x p.0 ((subst (λ (z : ℤ). w.low ≤ℤ z) (sym e) l, subst (λ (z : ℤ). z ≤ℤ w.high) (sym e) h), i) s

-- ---- the members of an enumeration

pub good_more : (q : List Term) (v u : ℤ) (cs : List Cert) (c : Cert) (rows : List PRow) → u ≡ v +ℤ pos (length cs) → AreGood q v cs rows → IsGood (with_row rows (value_row q u)) c
    → AreGood q v (cs ++ c ∷ []) rows
good_more q v u [] c rows e a g = let f : u ≡ v = omega (arith, ints, e) in (subst (λ (z : ℤ). IsGood (with_row rows (value_row q z)) c) f g, tt)
good_more q v u (d ∷ cs) c rows e a g = (a.0, good_more q (v +ℤ pos 1) u cs c rows (omega (arith, ints, e)) a.1 g)

pub all_counted : (w : Wall) (n : ℕ) (v : ℤ) → v ≡ w.low +ℤ pos n → w.high <ℤ v → n ≤ wall_count w → n ≡ wall_count w
all_counted w n v e h l = by_size ((w.high -ℤ w.low) +ℤ pos 1) refl l
  where
    by_size : (m : ℤ) → (w.high -ℤ w.low) +ℤ pos 1 ≡ m → n ≤ not_below_0 m → n ≡ not_below_0 m
    by_size (pos m) f k = omega (arith, ints, e, h, f, k)
    by_size (negsuc m) f k = omega (arith, k)

pub one_counted : (w : Wall) (n : ℕ) (v : ℤ) → v ≡ w.low +ℤ pos n → v ≤ℤ w.high → n + 1 ≤ wall_count w
one_counted w n v e h = by_size ((w.high -ℤ w.low) +ℤ pos 1) refl
  where
    by_size : (m : ℤ) → (w.high -ℤ w.low) +ℤ pos 1 ≡ m → n + 1 ≤ not_below_0 m
    by_size (pos m) f = omega (arith, ints, e, h, f)
    by_size (negsuc m) f = absurd (omega (arith, ints, e, h, f))

-- in code

pub pushed_open : (g : Ground) (n : ℕ) (cs new : List Choice) (w : Wall) (ws : List Wall) (v : ℤ) → new ≡ cs ++ choice_at n w v ∷ [] → w.low ≤ℤ v → v ≤ℤ w.high → IsOpen g n cs (w ∷ ws) → IsOpen g (n + 1) new ws
pushed_open g n cs new w ws v e l h o = subst (λ (ds : List Choice). IsOpen g (n + 1) ds ws) (sym e) (open_more g n cs w ws v l h o)

pub pushed_good : (rows : List PRow) (n : ℕ) (ss : List Standing) (cs new : List Choice) (w : Wall) (ws : List Wall) (v : ℤ) (c : Cert) → new ≡ cs ++ choice_at n w v ∷ [] → IsGoodAt (n + 1) ss new ws c
    → IsPlace rows n ss cs (w ∷ ws) → IsGood (with_row rows (value_row (variable_of w.variable) v)) c
pushed_good rows n ss cs new w ws v c e g p =
    g (with_row rows (value_row (variable_of w.variable) v)) (subst (λ (ds : List Choice). IsPlace (with_row rows (value_row (variable_of w.variable) v)) (n + 1) ss ds ws) (sym e) (place_more rows n ss cs w ws v p))

pub deep_enough : (ws : List Wall) (c : Cert) → 1 ≤ length ws → IsShallow (length (take (length ws - 1) (drop 1 ws)) + 2 + 1) c → IsShallow (length ws + 2) c
deep_enough ws c h s = record { depth = omega (arith, later_length ws, h, s.depth); constants = s.constants }

pub no_walls : (g : Ground) (n : ℕ) (cs ds : List Choice) (ws : List Wall) → length ws < 1 → ds ≡ cs → IsOpen g n cs ws → IsOpen g n ds []
no_walls g n cs ds [] h e o = subst (λ (xs : List Choice). IsOpen g n xs []) (sym e) o
no_walls g n cs ds (w ∷ ws) h e o = absurd (omega arith)

-- ---- points with the chosen values

abbrev pub agreeing : List Choice → (ℕ → ℤ) → ℕ → ℤ
agreeing [] x v = x v
agreeing (c ∷ cs) x v = cond (nat_eq v c.variable) c.value (agreeing cs x v)
