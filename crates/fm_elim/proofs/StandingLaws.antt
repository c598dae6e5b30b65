-- Tidy rows that stand are kept as they are.
use Rattle.std.specs.Prelude.{◌≡◌, ◌≤◌, ℕ, List, [], ◌∷◌, ◌++◌, length, Bool, true, false, cond, ◌&&◌, ◌||◌, nat_le, Result, Ok, Err, if◌then◌else◌, refl}
use Rattle.std.proofs.Common.{ap, sym, ◌∙◌, subst, arith, append_assoc, append-nil}
use Rattle.std.proofs.lemmas.List.{map-append}
use Rattle.std.proofs.lemmas.Bool.{and_parts}
use Rattle.std.specs.List.{AllByRecursion, filter}
use Rattle.std.specs.Ordering.{is_eq}
use Rattle.mm_poly.specs.Poly.{constant_part, without_constant, poly_cmp}
use Rattle.mm_poly.proofs.CaseLaws.{by_if}
use Rattle.cert_kit.specs.declared.row.PRow.{PRow}
use Rattle.cert_kit.specs.Row.{is_false, is_false_constant}
use Rattle.cert_kit.specs.Cut.{cut_of}
use Rattle.fm_elim.specs.declared.log.Log.{Log}
use Rattle.fm_elim.specs.declared.live.Live.{Live}
use Rattle.fm_elim.specs.declared.kept.Kept.{Kept}
use Rattle.fm_elim.specs.declared.stepped.Stepped.{Stepped}
use Rattle.fm_elim.specs.declared.stepped.Stepped.TheVariants as stepped
use Rattle.fm_elim.specs.Tidy.{End, Contra, Over, is_inequality, are_parallel, is_tighter, tighter, put, is_constant_row, kept_after, cuts, has_false, within_512, tidied}
use Rattle.fm_elim.specs.Steps.{combined_all, pairs_have_room}
use Rattle.fm_elim.specs.machine.Sides.{sums_of}
use Rattle.fm_elim.specs.machine.Logging.{IsLive}
use Rattle.fm_elim.specs.machine.Tidying.{HasUnknowns, AreApart, AreStanding, StandsTidy, rows_of, Stands, Feeds, IsTidying, StepsTo, tidied_from, then_tidied}
use Rattle.fm_elim.proofs.ListLaws.{all_filter}
use Rattle.fm_elim.proofs.TidyLaws.{same_terms, all_put, kept_unknowns, by_tidied}
use Rattle.fm_elim.proofs.ParallelLaws.{same_is, fed_over, fed_put}

-- no two of the rows that tidying keeps are parallel

-- rows that are parallel to the same one are parallel
parallel_through : (s q r : PRow) → are_parallel s r ≡ true → are_parallel q r ≡ true → are_parallel s q ≡ true
parallel_through s q r e f =
    let a = and_parts (is_inequality s.op && is_inequality r.op) (is_eq (poly_cmp (without_constant s.poly) (without_constant r.poly))) e in
    let b = and_parts (is_inequality q.op && is_inequality r.op) (is_eq (poly_cmp (without_constant q.poly) (without_constant r.poly))) f in
    let i = and_parts (is_inequality s.op) (is_inequality r.op) a.0 in
    let j = and_parts (is_inequality q.op) (is_inequality r.op) b.0 in
    let same : without_constant s.poly ≡ without_constant q.poly = same_terms (without_constant s.poly) (without_constant r.poly) a.1 ∙ sym (same_terms (without_constant q.poly) (without_constant r.poly) b.1) in
    rw (i.0, j.0) (same_is (without_constant s.poly) (without_constant q.poly) same)

not_parallel : (s q r : PRow) → are_parallel s r ≡ true → are_parallel s q ≡ false → are_parallel q r ≡ false
not_parallel s q r e f = by_test (are_parallel q r) refl
  where
    by_test : (b : Bool) → are_parallel q r ≡ b → b ≡ false
    by_test false g = refl
    by_test true g = let h = parallel_through s q r e g in cc

-- the rows before the last one
all_apart : (s r : PRow) (rows : List PRow) → are_parallel s r ≡ true → AllByRecursion (λ q. are_parallel s q ≡ false) rows → AllByRecursion (λ q. are_parallel q r ≡ false) rows
all_apart s r [] e a = tt
all_apart s r (q ∷ rows) e a = (not_parallel s q r e a.0, all_apart s r rows e a.1)

all_with_last : (P : PRow → Type 0) (rows : List PRow) (r : PRow) → AllByRecursion P rows → P r → AllByRecursion P (rows ++ r ∷ [])
all_with_last P [] r a h = (h, tt)
all_with_last P (q ∷ rows) r a h = (a.0, all_with_last P rows r a.1 h)

apart_last : (rows : List PRow) (r : PRow) → AreApart rows → AllByRecursion (λ q. are_parallel q r ≡ false) rows → AreApart (rows ++ r ∷ [])
apart_last [] r a b = (tt, tt)
apart_last (q ∷ rows) r a b = (all_with_last (λ s. are_parallel q s ≡ false) rows r a.0 b.0, apart_last rows r a.1 b.1)

apart_put : (r : PRow) (rows : List PRow) → AreApart rows → AreApart (put r rows)
apart_put r [] a = (tt, tt)
apart_put r (s ∷ rows) a = by_if (are_parallel s r) (tighter s r rows) (s ∷ put r rows) AreApart
    (λ e. by_if (is_tighter r s) (rows ++ r ∷ []) (s ∷ rows) AreApart (λ f. apart_last rows r a.1 (all_apart s r rows e a.0)) (λ f. a))
    (λ e. (all_put (λ q. are_parallel s q ≡ false) r rows e a.0, apart_put r rows a.1))

apart_kept : (rows kept : List PRow) → AreApart kept → AreApart (kept_after rows kept)
apart_kept [] kept a = a
apart_kept (r ∷ rows) kept a = apart_kept rows _ (by_if (is_constant_row r) kept (put r kept) AreApart (λ e. a) (λ e. apart_put r kept a))

ok_is : (x y : List PRow) → Rattle.std.proofs.Common.◌≡◌ {A = Result (List PRow) End} (Ok x) (Ok y) → x ≡ y
ok_is x y e = cc

few_tidied : (before rows : List PRow) → tidied before ≡ Ok rows → length rows ≤ 512
few_tidied before rows =
    let kept = kept_after (cuts before) [] in
    by_if (has_false (cuts before)) (Err Contra) (within_512 kept) (λ res. res ≡ Ok rows → length rows ≤ 512) (λ e f. absurd cc)
    (λ e. by_if (nat_le (length kept) 512) (Ok kept) (Err Over) (λ res. res ≡ Ok rows → length rows ≤ 512)
    (λ t f. subst (λ (q : List PRow). length q ≤ 512) (ok_is kept rows f) (grind arith)) (λ t f. absurd cc))

pub standing_tidied : (before rows : List PRow) → tidied before ≡ Ok rows → AreStanding rows
standing_tidied before rows e = by_tidied before (λ res. res ≡ Ok rows → AreStanding rows) (λ t f. absurd cc) (λ f. absurd cc)
    (λ t f.
    let same = ok_is (kept_after (cuts before) []) rows f in
    record {
      few = few_tidied before rows e;
      unknown = subst (AllByRecursion HasUnknowns) same (kept_unknowns (cuts before) [] tt);
      apart = subst AreApart same (apart_kept (cuts before) [] tt);
    }) e

-- the rows after a step

pub step_standing : (s : Stepped) (rows : List PRow) → StepsTo s (tidied rows) → StandsTidy s
step_standing (stepped.Rows lives) rows e = standing_tidied rows (rows_of lives.items) e
step_standing stepped.Contra rows e = tt
step_standing stepped.Over rows e = tt

pub then_standing : (s : Stepped) (answer : Result (List PRow) End) → StepsTo s (then_tidied answer) → StandsTidy s
then_standing s (Ok rows) e = step_standing s rows e
then_standing (stepped.Rows lives) (Err x) e = absurd cc
then_standing stepped.Contra (Err x) e = tt
then_standing stepped.Over (Err x) e = tt

-- some of them

length_filter : (test : PRow → Bool) (rows : List PRow) → length (filter test rows) ≤ length rows
length_filter test [] = omega arith
length_filter test (r ∷ rows) = by_test (test r) (length_filter test rows)
  where
    by_test : (b : Bool) → length (filter test rows) ≤ length rows → length (cond b (r ∷ filter test rows) (filter test rows)) ≤ length (r ∷ rows)
    by_test true h = omega (arith, h)
    by_test false h = omega (arith, h)

apart_filter : (test : PRow → Bool) (rows : List PRow) → AreApart rows → AreApart (filter test rows)
apart_filter test [] a = tt
apart_filter test (r ∷ rows) a = by_test (test r) (apart_filter test rows a.1)
  where
    by_test : (b : Bool) → AreApart (filter test rows) → AreApart (cond b (r ∷ filter test rows) (filter test rows))
    by_test true h = (all_filter test (λ s. are_parallel r s ≡ false) (λ s. are_parallel r s ≡ false) rows (λ s t k. k) a.0, h)
    by_test false h = h

pub standing_filter : (test : PRow → Bool) (rows : List PRow) → AreStanding rows → AreStanding (filter test rows)
standing_filter test rows s = record {
  few = (let f = s.few in let h = length_filter test rows in omega (arith, f, h));
  unknown = all_filter test HasUnknowns HasUnknowns rows (λ r t h. h) s.unknown;
  apart = apart_filter test rows s.apart;
}

-- tidying keeps them as they are

pub not_false : (r : PRow) → HasUnknowns r → is_false r ≡ false
not_false r h = ap (λ b. b && is_false_constant r.op (constant_part r.poly)) h

none_false : (rows more : List PRow) → AllByRecursion HasUnknowns rows → has_false (rows ++ more) ≡ has_false more
none_false [] more a = refl
none_false (r ∷ rows) more a = ap (λ b. b || has_false (rows ++ more)) (not_false r a.0) ∙ none_false rows more a.1

put_last : (r : PRow) (kept : List PRow) → AllByRecursion (λ s. are_parallel s r ≡ false) kept → put r kept ≡ kept ++ r ∷ []
put_last r [] a = refl
put_last r (s ∷ kept) a = ap (λ b. if b then tighter s r kept else s ∷ put r kept) a.0 ∙ ap (λ (q : List PRow). s ∷ q) (put_last r kept a.1)

before_next : (kept rows : List PRow) (r : PRow) → AreApart (kept ++ r ∷ rows) → AllByRecursion (λ s. are_parallel s r ≡ false) kept
before_next [] rows r a = tt
before_next (s ∷ kept) rows r a = (next_of s kept rows r a.0, before_next kept rows r a.1)
  where
    next_of : (s : PRow) (kept rows : List PRow) (r : PRow) → AllByRecursion (λ q. are_parallel s q ≡ false) (kept ++ r ∷ rows) → are_parallel s r ≡ false
    next_of s [] rows r a = a.0
    next_of s (q ∷ kept) rows r a = next_of s kept rows r a.1

kept_standing : (rows kept more : List PRow) → AllByRecursion HasUnknowns rows → AreApart (kept ++ rows) → kept_after (rows ++ more) kept ≡ kept_after more (kept ++ rows)
kept_standing [] kept more u a = ap (λ (q : List PRow). kept_after more q) (sym (append-nil kept))
kept_standing (r ∷ rows) kept more u a =
    let same : (kept ++ r ∷ []) ++ rows ≡ kept ++ r ∷ rows = append_assoc kept (r ∷ []) rows in
    ap (λ b. kept_after (rows ++ more) (if b then kept else put r kept)) u.0
    ∙ ap (λ (q : List PRow). kept_after (rows ++ more) q) (put_last r kept (before_next kept rows r a))
    ∙ kept_standing rows (kept ++ r ∷ []) more u.1 (subst AreApart (sym same) a)
    ∙ ap (λ (q : List PRow). kept_after more q) same

standing_more : (rows more : List PRow) → cuts rows ≡ rows → AreStanding rows → tidied (rows ++ more) ≡ tidied_from more rows
standing_more rows more c s =
    let cut : cuts (rows ++ more) ≡ rows ++ cuts more = map-append cut_of rows more ∙ ap (λ (q : List PRow). q ++ cuts more) c in
    ap (λ (q : List PRow). if has_false q then Err Contra else within_512 (kept_after q [])) cut
    ∙ ap (λ b. if b then Err Contra else within_512 (kept_after (rows ++ cuts more) [])) (none_false rows (cuts more) s.unknown)
    ∙ ap (λ (q : List PRow). if has_false (cuts more) then Err Contra else within_512 q) (kept_standing rows [] (cuts more) s.unknown s.apart)

pub live_cuts : (log : Log) (lives : List Live) → AllByRecursion (IsLive log) lives → cuts (rows_of lives) ≡ rows_of lives
live_cuts log [] a = refl
live_cuts log (l ∷ lives) a = ap (λ (r : PRow). r ∷ cuts (rows_of lives)) a.0.cut ∙ ap (λ (q : List PRow). l.row ∷ q) (live_cuts log lives a.1)

-- the rows after a step by pairs, where those without the unknown stand
pub sums_standing : (u : List (ℕ × ℕ)) (lives : List Live) (ls hs : List PRow) (kept : Kept) → pairs_have_room u ls hs ≡ true → kept.is_over ≡ false → kept.rows.items ≡ lives
    → cuts (rows_of lives) ≡ rows_of lives → AreStanding (rows_of lives) → IsTidying (then_tidied (sums_of u (rows_of lives) ls hs)) kept (combined_all u ls hs)
sums_standing u lives ls hs kept e o k c s = record {
  rows = rows_of lives;
  stands = standing kept.is_over kept.rows.items o k;
  is = rw e (standing_more (rows_of lives) (combined_all u ls hs) c s);
}
  where
    standing : (b : Bool) (now : List Live) → b ≡ false → now ≡ lives → Stands b now (rows_of lives)
    standing true now e f = absurd cc
    standing false now e f = ap (λ (q : List Live). rows_of q) f

-- one row that stands

pub fed_standing : (a b : Kept) (r : PRow) → HasUnknowns r → cut_of r ≡ r → a.is_over ≡ false → Stands b.is_over b.rows.items (put r (rows_of a.rows.items)) → Feeds false a b (r ∷ [])
fed_standing a b r h c o s =
    fed_put a b r (ap (λ (q : PRow). is_false q) c ∙ not_false r h) (ap (λ (q : PRow). is_constant_row q) c ∙ h) o
    (subst (λ (q : PRow). Stands b.is_over b.rows.items (put q (rows_of a.rows.items))) (sym c) s)

pub fed_past : (a : Kept) (r : PRow) → HasUnknowns r → cut_of r ≡ r → a.is_over ≡ true → Feeds false a a (r ∷ [])
fed_past a r h c o = fed_over a r (ap (λ (q : PRow). is_false q) c ∙ not_false r h) o
