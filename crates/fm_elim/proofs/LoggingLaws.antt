-- How a log grows, and what stands in it.
use Rattle.std.specs.Prelude.{◌≡◌, ℕ, zero, suc, ◌+◌, ◌^◌, ◌<◌, ◌≤◌, ◌≢◌, ◌*◌, ℤ, pos, negsuc, unsigned_abs, List, [], ◌∷◌, ◌++◌, length, if◌then◌else◌, take, drop, Bool, true, false, Option, Some, slice_get, int_lt, refl}
use Rattle.std.proofs.Common.{ap, sym, ◌∙◌, subst, arith, length-append}
use Rattle.std.proofs.lemmas.List.{map-append, length-map}
use Rattle.std.proofs.lemmas.Int.{to_z_pos}
use Rattle.std.proofs.Common.{to_z}
use Rattle.std.specs.Int.{w128}
use Rattle.std.specs.List.{AllByRecursion, remove, filter}
use Rattle.std.specs.Option.{option_map_or}
use Rattle.std.specs.Ordering.{int_eq}
use Rattle.mm_num.specs.Small.{IsSmall}
use Rattle.mm_num.proofs.OptionLaws.{bind_some}
use Rattle.mm_poly.specs.Poly.{Fits, norm, plus, scaled}
use Rattle.cert_kit.specs.declared.row.Op.TheVariants.{Ge, Eq}
use Rattle.cert_kit.specs.declared.row.PRow.{PRow}
use Rattle.cert_kit.specs.declared.cert.Step.{Step}
use Rattle.cert_kit.specs.declared.cert.Step.TheVariants.{Rat, Cut}
use Rattle.cert_kit.specs.declared.cert.Cert.{Cert}
use Rattle.cert_kit.specs.declared.cert.Close.TheVariants.{Done}
use Rattle.cert_kit.specs.Row.{is_false}
use Rattle.cert_kit.specs.Cut.{cut_of}
use Rattle.cert_kit.specs.Acceptance.{with_row, step_row, rows_after, ends_false, IsGood}
use Rattle.cert_kit.specs.Making.{Makes}
use Rattle.cert_kit.proofs.FormLaws.{hyp_means}
use Rattle.cert_kit.proofs.MakerLaws.{makes_none, makes_rat, makes_cut, makes_both, ends_with, good_done}
use Rattle.fm_elim.specs.declared.source.Source.{Source}
use Rattle.fm_elim.specs.declared.source.Combination.{Combination}
use Rattle.fm_elim.specs.declared.source.Combination.TheVariants.{Given, Pair, Sum}
use Rattle.fm_elim.specs.declared.source.Origin.{Origin}
use Rattle.fm_elim.specs.declared.source.Origin.TheVariants.{Stands}
use Rattle.fm_elim.specs.declared.log.Log.{Log}
use Rattle.fm_elim.specs.declared.live.Live.{Live}
use Rattle.fm_elim.specs.declared.sides.Side.{Side}
use Rattle.fm_elim.specs.declared.sides.Parts.{Parts}
use Rattle.fm_elim.specs.declared.state.Ran.{Ran}
use Rattle.fm_elim.specs.declared.state.Ran.TheVariants as ran
use Rattle.fm_elim.specs.Unknowns.{coeff_in}
use Rattle.fm_elim.specs.Steps.{combined, pair_has_room, solve_has_room}
use Rattle.fm_elim.specs.machine.Sides.{IsSide, AreParts, lives_of}
use Rattle.fm_elim.specs.machine.Tidying.{rows_of}
use Rattle.fm_elim.specs.machine.Logged.{LogsRan}
use Rattle.fm_elim.specs.machine.Logging.{expression, step_of, steps_of, made_row, rows_made, all_rows, HasSizes, AreSound, IsSound, Contradict, Grows, Derives, IsLive, IsLiveSide, IsLogged, Logs, IsNumbered, IsPushed, IsOrigin, CanKeep}
use Rattle.fm_elim.proofs.ListLaws.{all_with, all_unmap, all_filter, all_take, all_drop}
use Rattle.fm_elim.proofs.PartLaws.{IsAt, given_derives, pair_derives, sum_derives}
use Rattle.fm_elim.proofs.ScaledLaws.{room_for}
use Rattle.mm_num.proofs.ListLaws.{all_join}

pub get_front : {A : Type 0} (xs ys : List A) (n : ℕ) (x : A) → slice_get xs n ≡ Some x → slice_get (xs ++ ys) n ≡ Some x
get_front [] ys n x e = absurd cc
get_front (a ∷ xs) ys zero x e = e
get_front (a ∷ xs) ys (suc n) x e = get_front xs ys n x e

pub get_last : {A : Type 0} (xs : List A) (x : A) → slice_get (xs ++ x ∷ []) (length xs) ≡ Some x
get_last [] x = refl
get_last (a ∷ xs) x = get_last xs x

-- as many rows as were given and made
pub count_rows : (steps : List Step) (given rows : List PRow) → rows_after steps given ≡ Some rows → length rows ≡ length given + length steps
count_rows [] given rows e = by_same rows e
  where
    by_same : (rows : List PRow) → Some given ≡ Some rows → length rows ≡ length given + 0
    by_same rows e = let f : given ≡ rows = cc in ap (λ (q : List PRow). length q) (sym f) ∙ omega arith
count_rows (s ∷ steps) given rows e =
    let b = bind_some (step_row s given) (λ r. rows_after steps (with_row given r)) rows e in
    count_rows steps (with_row given b.0) rows b.2 ∙ ap (λ n. n + length steps) (length-append given (b.0 ∷ [])) ∙ omega arith

made_is : (given : List PRow) (sources : List Source) (rows : List PRow) → rows_after (steps_of sources) given ≡ Some rows → rows_made given sources ≡ rows
made_is given sources rows e = ap (λ (o : Option (List PRow)). option_map_or (λ (q : List PRow). q) o []) e

pub made_none : (given : List PRow) → AreSound given []
made_none given = record { makes = makes_none given; sized = tt }

pub record IsLonger (given : List PRow) (sources more : List Source) (s : Source) (r : PRow) : Type 0 where
  pub rows : rows_made given more ≡ with_row (rows_made given sources) (made_row s r)
  pub sound : AreSound given more

makes_step : (rows : List PRow) (s : Source) (r : PRow) → Derives rows s.combination r → Makes rows (step_of s ∷ []) (with_row rows (made_row s r))
makes_step rows s r d = by_kind s.is_cut
  where
    by_kind : (b : Bool) → Makes rows ((if b then Cut (expression s.combination) else Rat (expression s.combination)) ∷ []) (with_row rows (if b then cut_of r else r))
    by_kind true = makes_cut rows (expression s.combination) r d.means d.within
    by_kind false = makes_rat rows (expression s.combination) r d.means d.within

-- one more source
pub longer : (given : List PRow) (sources more : List Source) (s : Source) (r : PRow) → AreSound given sources → Derives (rows_made given sources) s.combination r
    → more ≡ sources ++ s ∷ [] → IsLonger given sources more s r
longer given sources more s r m d e =
    let rows = rows_made given sources in
    let all = makes_both given rows (with_row rows (made_row s r)) (steps_of sources) (step_of s ∷ []) m.makes (makes_step rows s r d) in
    let steps : steps_of more ≡ steps_of sources ++ step_of s ∷ [] = ap (λ (q : List Source). steps_of q) e ∙ map-append step_of sources (s ∷ []) in
    let made = subst (λ (q : List Step). Makes given q (with_row rows (made_row s r))) (sym steps) all in
    let same = made_is given more (with_row rows (made_row s r)) made.made in
    record {
      rows = same;
      sound = record {
        makes = subst (λ (q : List PRow). Makes given (steps_of more) q) (sym same) made;
        sized = subst (AllByRecursion HasSizes) (sym e) (all_join HasSizes sources (s ∷ []) m.sized (d.sized, tt));
      };
    }

-- logs

pub grows_not : (log : Log) → Grows log log
grows_not log = record { given = refl; rows = λ n r h. h }

pub grows_both : (a b d : Log) → Grows a b → Grows b d → Grows a d
grows_both a b d g h = record { given = h.given ∙ g.given; rows = λ n r e. h.rows n r (g.rows n r e) }

pub pushed : (before after : Log) (s : Source) (r : PRow) → IsSound before → Derives (all_rows before) s.combination r → after.given.now ≡ before.given.now
    → after.sources.items ≡ before.sources.items ++ s ∷ [] → IsPushed before after (made_row s r)
pushed before after s r m d g e =
    let l = longer before.given.now before.sources.items after.sources.items s r m d e in
    let rows : all_rows after ≡ with_row (all_rows before) (made_row s r) = ap (λ (q : List PRow). rows_made q after.sources.items) g ∙ l.rows in
    record {
      grows = record { given = g; rows = λ n q h. subst (λ (w : List PRow). slice_get w n ≡ Some q) (sym rows) (get_front (all_rows before) (made_row s r ∷ []) n q h) };
      sound = subst (λ (q : List PRow). AreSound q after.sources.items) (sym g) l.sound;
      rows = rows;
    }

last_there : (before : Log) (r : PRow) (n : ℕ) (rows : List PRow) → IsSound before → rows ≡ with_row (all_rows before) r → n ≡ length before.given.now + length before.sources.items
    → slice_get rows n ≡ Some r
last_there before r n rows m e f =
    let count : length (all_rows before) ≡ length before.given.now + length before.sources.items =
    count_rows (steps_of before.sources.items) before.given.now (all_rows before) m.makes.made ∙ ap (λ k. length before.given.now + k) (length-map before.sources.items step_of) in
    subst (λ (w : List PRow). slice_get w n ≡ Some r) (sym e)
    (subst (λ k. slice_get (all_rows before ++ r ∷ []) k ≡ Some r) (count ∙ sym f) (get_last (all_rows before) r))

pub numbered : (before after : Log) (s : Source) (r : PRow) (n : ℕ) → IsSound before → Derives (all_rows before) s.combination r → after.given.now ≡ before.given.now
    → after.sources.items ≡ before.sources.items ++ s ∷ [] → n ≡ length before.given.now + length before.sources.items → IsNumbered before after (made_row s r) n
numbered before after s r n m d g e f =
    let p = pushed before after s r m d g e in
    record { grows = p.grows; sound = p.sound; here = last_there before (made_row s r) n (all_rows after) m p.rows f }

-- a false row at the end

pub ends_so : (before after : Log) (r : PRow) → IsPushed before after r → is_false r ≡ true → ends_false (all_rows after) ≡ true
ends_so before after r p e = ap (λ (q : List PRow). ends_false q) p.rows ∙ ends_with (all_rows before) r ∙ e

-- rows that stand

pub live_grown : (before after : Log) (l : Live) → Grows before after → IsLive before l → IsLive after l
live_grown before after l g h = record { here = g.rows l.number l.row h.here; fits = h.fits; cut = h.cut; unknown = h.unknown }

pub lives_grown : (before after : Log) (ls : List Live) → Grows before after → AllByRecursion (IsLive before) ls → AllByRecursion (IsLive after) ls
lives_grown before after ls g a = all_with (IsLive before) (IsLive after) ls (λ l h. live_grown before after l g h) a

pub live_at : (log : Log) (l : Live) → IsLive log l → IsAt (all_rows log) l.number l.row
live_at log l h = record { here = h.here; fits = h.fits }

pub remove_live : (P : Live → Type 0) (ls : List Live) (k : ℕ) → AllByRecursion P ls → AllByRecursion P (remove ls k)
remove_live P ls k a = all_join P (take k ls) (drop (suc k) ls) (all_take P k ls a) (all_drop P (suc k) ls a)

-- one after another

pub logs_both : (found : Bool) (a b d : Log) (kept more : List Live) → Logs false a b kept → Logs found b d more → Logs found a d more
logs_both found a b d kept more f g = record { grows = grows_both a b d f.grows g.grows; logged = g.logged; ends = g.ends }

pub logs_start : (log : Log) (ls : List Live) → IsLogged log ls → Logs false log log ls
logs_start log ls h = record { grows = grows_not log; logged = h; ends = λ e. absurd cc }

pub found_is : (found what : Bool) (a b : Log) (ls : List Live) → found ≡ what → Logs found a b ls → Logs what a b ls
found_is found what a b ls e l = subst (λ t. Logs t a b ls) e l

-- the rows don't count where the last row is false
pub logs_contra : (a b : Log) (ls : List Live) → Logs true a b ls → Logs true a b []
logs_contra a b ls l = record { grows = l.grows; logged = record { sound = l.logged.sound; lives = tt }; ends = l.ends }

-- one more row stands
pub logs_kept : (a b : Log) (ls more : List Live) (r : PRow) (o : Origin) (n : ℕ) → CanKeep a ls r o → IsNumbered a b r n → more ≡ ls ++ record { row = r; number = n } ∷ [] → Logs false a b more
logs_kept a b ls more r o n k m e =
    let l : Live = record { row = r; number = n } in
    let all : AllByRecursion (IsLive b) (ls ++ l ∷ []) =
    all_join (IsLive b) ls (l ∷ []) (lives_grown a b ls m.grows k.logged.lives) (record { here = m.here; fits = k.fits; cut = k.cut; unknown = k.unknown }, tt) in
    record {
      grows = m.grows;
      logged = record { sound = m.sound; lives = subst (AllByRecursion (IsLive b)) (sym e) all };
      ends = λ e. absurd cc;
    }

-- the false row is the last one
pub logs_closed : (a b : Log) (ls : List Live) (r : PRow) → IsLogged a ls → IsPushed a b r → is_false r ≡ true → Logs true a b ls
logs_closed a b ls r h p e = record {
  grows = p.grows;
  logged = record { sound = p.sound; lives = lives_grown a b ls p.grows h.lives };
  ends = λ f. ends_so a b r p e;
}

-- what has a number is logged once more, as the last row
pub given_pushed : (a b : Log) (n : ℕ) (r : PRow) → IsSound a → Fits r.poly → slice_get (all_rows a) n ≡ Some r → b.given.now ≡ a.given.now
    → b.sources.items ≡ a.sources.items ++ record { combination = Given n; is_cut = false } ∷ [] → IsPushed a b r
given_pushed a b n r m f h g s =
    pushed a b (record { combination = Given n; is_cut = false }) r m (given_derives (all_rows a) n r (record { here = h; fits = f })) g s

pub made_pushed : (a b : Log) (s : Source) (r whole : PRow) → IsSound a → Derives (all_rows a) s.combination whole → r ≡ made_row s whole → b.given.now ≡ a.given.now
    → b.sources.items ≡ a.sources.items ++ s ∷ [] → IsPushed a b r
made_pushed a b s r whole m d e g f = subst (IsPushed a b) (sym e) (pushed a b s whole m d g f)

pub made_numbered : (a b : Log) (s : Source) (r whole : PRow) (n : ℕ) → IsSound a → Derives (all_rows a) s.combination whole → r ≡ made_row s whole → b.given.now ≡ a.given.now
    → b.sources.items ≡ a.sources.items ++ s ∷ [] → n ≡ length a.given.now + length a.sources.items → IsNumbered a b r n
made_numbered a b s r whole n m d e g f c = subst (λ q. IsNumbered a b q n) (sym e) (numbered a b s whole n m d g f c)

-- a row that is its own cut needs no cut
pub given_origin : (log : Log) (n : ℕ) (whole : PRow) → Derives (all_rows log) (Given n) whole → cut_of whole ≡ whole → IsOrigin log (cut_of whole) (Stands n)
given_origin log n whole d e = sym (hyp_means n (all_rows log)) ∙ d.means ∙ ap (λ (r : PRow). Some r) (sym e)

pub same_derives : (log : Log) (s : Combination) (r whole : PRow) → Derives (all_rows log) s whole → r ≡ whole → Derives (all_rows log) s r
same_derives log s r whole d e = subst (λ q. Derives (all_rows log) s q) (sym e) d

-- the first of a list that is what is left of another

pub left_front : {A : Type 0} (xs ys : List A) (n : ℕ) (x : A) → drop n xs ≡ x ∷ ys → (slice_get xs n ≡ Some x) × (ys ≡ drop (suc n) xs)
left_front [] ys zero x e = absurd cc
left_front [] ys (suc n) x e = absurd cc
left_front (a ∷ xs) ys zero x e = (cc, cc)
left_front (a ∷ xs) ys (suc n) x e = left_front xs ys n x e

-- a call that found or took rows, after others that found nothing
pub logs_next : (a b d : Log) (kept more : List Live) (found what : Bool) → found ≡ what → Logs false a b kept → Logs found b d more → Logs what a d more
logs_next a b d kept more found what e f g = logs_both what a b d kept more f (found_is found what b d more e g)

pub side_grown : (before after : Log) (s : Side) → Grows before after → IsLiveSide before s → IsLiveSide after s
side_grown before after s g h = record { live = live_grown before after s.live g h.live; inequality = h.inequality }

pub sides_grown : (before after : Log) (ss : List Side) → Grows before after → AllByRecursion (IsLiveSide before) ss → AllByRecursion (IsLiveSide after) ss
sides_grown before after ss g a = all_with (IsLiveSide before) (IsLiveSide after) ss (λ s h. side_grown before after s g h) a

-- the sum of a pair

pub pair_made : (log : Log) (u : List (ℕ × ℕ)) (lower upper : Side) (sum : PRow) → IsSide u lower → IsSide u upper → IsLiveSide log lower → IsLiveSide log upper
    → pair_has_room u lower.live.row upper.live.row ≡ true → sum ≡ combined u lower.live.row upper.live.row → (a b : ℤ) → a ≡ pos upper.coeff → b ≡ pos lower.coeff
    → Derives (all_rows log) (Pair a lower.live.number b upper.live.number) sum
pair_made log u lower upper sum s t i j room e a b f g =
    let l = lower.live.row in
    let h = upper.live.row in
    let d = pair_derives u (all_rows log) lower.live.number upper.live.number l h (live_at log lower.live i.live) (live_at log upper.live j.live) i.inequality j.inequality
    (subst (λ n. 1 ≤ n) s.coeff_is s.there) (subst (λ n. n < 2 ^ 126) s.coeff_is s.small) (subst (λ n. 1 ≤ n) t.coeff_is t.there) (subst (λ n. n < 2 ^ 126) t.coeff_is t.small) room in
    subst (λ x. Derives (all_rows log) (Pair x lower.live.number b upper.live.number) sum) (sym f)
    (subst (λ y. Derives (all_rows log) (Pair (pos upper.coeff) lower.live.number y upper.live.number) sum) (sym g)
    (same_derives log (Pair (pos upper.coeff) lower.live.number (pos lower.coeff) upper.live.number) sum (combined u l h)
    (subst (λ a. Derives (all_rows log) (Pair (pos a) lower.live.number (pos lower.coeff) upper.live.number) (combined u l h)) (sym t.coeff_is)
    (subst (λ b. Derives (all_rows log) (Pair (pos (unsigned_abs (coeff_in u h))) lower.live.number (pos b) upper.live.number) (combined u l h)) (sym s.coeff_is) d)) e))

pub wide_pos : (n : ℕ) → n < 2 ^ 126 → to_z w128 n ≡ pos n
wide_pos n h = to_z_pos w128 n (omega (arith, h))

-- a row and a multiple of an equality, in which the unknown cancels

nonzero_of : (k c : ℤ) → unsigned_abs k ≡ unsigned_abs c → int_eq c (pos 0) ≡ false → k ≢ pos 0
nonzero_of k c e n z =
    let a : unsigned_abs c ≡ 0 = sym e ∙ ap (λ y. unsigned_abs y) z in
    differ c a n
  where
    differ : (c : ℤ) → unsigned_abs c ≡ 0 → int_eq c (pos 0) ≡ false → ⊥
    differ (pos zero) a n = cc
    differ (pos (suc k)) a n = omega arith
    differ (negsuc k) a n = omega arith

pub sum_made : (log : Log) (u : List (ℕ × ℕ)) (live equality : Live) (k : ℤ) (sum : PRow) → IsLive log live → IsLive log equality → equality.row.op ≡ Eq
    → int_eq (coeff_in u live.row) (pos 0) ≡ false → IsSmall k → solve_has_room u equality.row.poly (live.row ∷ []) ≡ true → unsigned_abs k ≡ unsigned_abs (coeff_in u live.row)
    → sum ≡ record { poly = plus live.row.poly (scaled k equality.row.poly); op = live.row.op }
    → Derives (all_rows log) (Sum live.number k equality.number) sum
sum_made log u live equality k sum i j o n small room m e =
    let w = room_for u equality.row.poly live.row room n in
    let norms : norm live.row.poly * 1 + norm equality.row.poly * unsigned_abs k < 2 ^ 126 =
    subst (λ a. norm live.row.poly * 1 + norm equality.row.poly * a < 2 ^ 126) (sym m) w.norm_room in
    same_derives log (Sum live.number k equality.number) sum (record { poly = plus live.row.poly (scaled k equality.row.poly); op = live.row.op })
    (sum_derives (all_rows log) live.number equality.number k live.row equality.row (live_at log live i) (live_at log equality j) o (nonzero_of k (coeff_in u live.row) m n) small norms w.spread_room) e

pub fresh_logged : (log : Log) (ls : List Live) → IsSound log → ls ≡ [] → IsLogged log ls
fresh_logged log ls m e = record { sound = m; lives = subst (AllByRecursion (IsLive log)) (sym e) tt }

-- what came before a run, and the run

pub ran_after : (a b d : Log) (ls : List Live) (r : Ran) → Logs false a b ls → LogsRan r b d → LogsRan r a d
ran_after a b d ls ran.Contra l m = logs_both true a b d ls [] l m
ran_after a b d ls (ran.Point removed norm) l m = tt
ran_after a b d ls ran.Grey l m = tt
ran_after a b d ls ran.Over l m = tt

-- the rows of both sides are live inequalities

abbrev IsLiveInequality : Log → Live → Type 0
IsLiveInequality log l = IsLive log l × (l.row.op ≡ Ge)

with_inequalities : (log : Log) (ls : List Live) → AllByRecursion (IsLive log) ls → AllByRecursion (λ (r : PRow). r.op ≡ Ge) (rows_of ls) → AllByRecursion (IsLiveInequality log) ls
with_inequalities log [] a b = tt
with_inequalities log (l ∷ ls) a b = ((a.0, b.0), with_inequalities log ls a.1 b.1)

sides_live : (log : Log) (ss : List Side) (ls : List Live) → lives_of ss ≡ ls → AllByRecursion (IsLiveInequality log) ls → AllByRecursion (IsLiveSide log) ss
sides_live log ss ls e a =
    let b = all_unmap (IsLiveInequality log) (λ (s : Side). s.live) ss (subst (AllByRecursion (IsLiveInequality log)) (sym e) a) in
    all_with (λ (s : Side). IsLiveInequality log s.live) (IsLiveSide log) ss (λ s h. record { live = h.0; inequality = h.1 }) b

pub without_live : (log : Log) (u : List (ℕ × ℕ)) (ls : List Live) (parts : Parts) → AreParts u ls parts → AllByRecursion (IsLive log) ls → AllByRecursion (IsLive log) parts.without.items
without_live log u ls parts p a =
    subst (AllByRecursion (IsLive log)) (sym p.without_are) (all_filter (λ (l : Live). int_eq (coeff_in u l.row) (pos 0)) (IsLive log) (IsLive log) ls (λ l e h. h) a)

pub lowers_live : (log : Log) (u : List (ℕ × ℕ)) (ls : List Live) (parts : Parts) → AreParts u ls parts → AllByRecursion (IsLive log) ls
    → AllByRecursion (λ (r : PRow). r.op ≡ Ge) (rows_of ls) → AllByRecursion (IsLiveSide log) parts.lowers.items
lowers_live log u ls parts p a b =
    sides_live log parts.lowers.items (filter (λ (l : Live). int_lt (pos 0) (coeff_in u l.row)) ls) p.lowers_are
    (all_filter (λ (l : Live). int_lt (pos 0) (coeff_in u l.row)) (IsLiveInequality log) (IsLiveInequality log) ls (λ l e h. h) (with_inequalities log ls a b))

pub uppers_live : (log : Log) (u : List (ℕ × ℕ)) (ls : List Live) (parts : Parts) → AreParts u ls parts → AllByRecursion (IsLive log) ls
    → AllByRecursion (λ (r : PRow). r.op ≡ Ge) (rows_of ls) → AllByRecursion (IsLiveSide log) parts.uppers.items
uppers_live log u ls parts p a b =
    sides_live log parts.uppers.items (filter (λ (l : Live). int_lt (coeff_in u l.row) (pos 0)) ls) p.uppers_are
    (all_filter (λ (l : Live). int_lt (coeff_in u l.row) (pos 0)) (IsLiveInequality log) (IsLiveInequality log) ls (λ l e h. h) (with_inequalities log ls a b))

-- where nothing was made

pub new_logged : (log : Log) → log.sources.items ≡ [] → IsLogged log []
new_logged log e = record { sound = subst (AreSound log.given.now) (sym e) (made_none log.given.now); lives = tt }

pub new_rows : (log : Log) → log.sources.items ≡ [] → all_rows log ≡ log.given.now
new_rows log e = ap (λ (q : List Source). rows_made log.given.now q) e

-- the certificate of rows that end in a false one
pub refutes : (given : List PRow) (sources : List Source) (c : Cert) → Contradict given sources → c ≡ record { steps = steps_of sources; close = Done } → IsGood given c
refutes given sources c h e = subst (IsGood given) (sym e) (good_done given (rows_made given sources) (steps_of sources) h.sound.makes h.ends)
