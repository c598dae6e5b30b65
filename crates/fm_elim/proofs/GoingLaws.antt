-- Tidying goes on row by row.
use Rattle.std.specs.Prelude.{◌≡◌, ◌<◌, ◌≤◌, List, [], ◌∷◌, length, Bool, true, false, ◌||◌, nat_le, Result, Ok, Err, refl, if◌then◌else◌}
use Rattle.std.proofs.Common.{ap, sym, ◌∙◌, arith}
use Rattle.std.proofs.lemmas.List.{length-map}
use Rattle.mm_poly.proofs.CaseLaws.{by_if}
use Rattle.cert_kit.specs.declared.row.PRow.{PRow}
use Rattle.cert_kit.specs.Row.{is_false}
use Rattle.cert_kit.specs.Cut.{cut_of}
use Rattle.fm_elim.specs.declared.live.Live.{Live}
use Rattle.fm_elim.specs.declared.kept.Kept.{Kept}
use Rattle.fm_elim.specs.Tidy.{End, Contra, Over, kept_after, cuts, has_false, within_512, tidied}
use Rattle.fm_elim.specs.machine.Tidying.{rows_of, Stands, Feeds, IsTidying, Goes}

pub begin : (kept : Kept) (rows : List PRow) → Stands kept.is_over kept.rows.items [] → IsTidying (tidied rows) kept rows
begin kept rows s = record { rows = []; stands = s; is = refl }

no_false : (b c : Bool) → (b || false) ≡ false → (b || c) ≡ c
no_false true c e = absurd cc
no_false false c e = refl

a_false : (b c : Bool) → (b || false) ≡ true → (b || c) ≡ true
a_false true c e = refl
a_false false c e = absurd cc

pub found : (answer : Result (List PRow) End) (a b : Kept) (r : PRow) (rest : List PRow) → Feeds true a b (r ∷ []) → IsTidying answer a (r ∷ rest) → answer ≡ Err Contra
found answer a b r rest f t = t.is ∙ ap (λ b. if b then Err Contra else within_512 (kept_after (cuts (r ∷ rest)) t.rows)) (a_false (is_false (cut_of r)) (has_false (cuts rest)) f)

pub taken : (answer : Result (List PRow) End) (a b : Kept) (r : PRow) (rest : List PRow) → Feeds false a b (r ∷ []) → IsTidying answer a (r ∷ rest) → IsTidying answer b rest
taken answer a b r rest f t = record {
  rows = kept_after (cuts (r ∷ [])) t.rows;
  stands = f.1 t.rows t.stands;
  is = t.is ∙ ap (λ b. if b then Err Contra else within_512 (kept_after (cuts (r ∷ rest)) t.rows)) (no_false (is_false (cut_of r)) (has_false (cuts rest)) f.0);
}

-- one row that was taken
pub goes_one : (f : Bool) (a b : Kept) (r : PRow) → Feeds f a b (r ∷ []) → Goes f a b (r ∷ [])
goes_one true a b r f = λ answer rest t. found answer a b r rest f t
goes_one false a b r f = λ answer rest t. taken answer a b r rest f t

too_many : (rows : List PRow) → 512 < length rows → within_512 rows ≡ Err Over
too_many rows h = by_if (nat_le (length rows) 512) (Ok rows) (Err Over) (λ r. r ≡ Err Over) (λ e. absurd (grind arith)) (λ e. refl)

few_enough : (rows : List PRow) → length rows ≤ 512 → within_512 rows ≡ Ok rows
few_enough rows h = by_if (nat_le (length rows) 512) (Ok rows) (Err Over) (λ r. r ≡ Ok rows) (λ e. refl) (λ e. absurd (grind arith))

over_end : (over : Bool) (lives : List Live) (rows : List PRow) → over ≡ true → Stands over lives rows → within_512 rows ≡ Err Over
over_end true lives rows e s = too_many rows s
over_end false lives rows e s = absurd cc

rows_end : (over : Bool) (lives : List Live) (rows : List PRow) → over ≡ false → length lives ≤ 512 → Stands over lives rows → within_512 rows ≡ Ok (rows_of lives)
rows_end true lives rows e h s = absurd cc
rows_end false lives rows e h s =
    let n : length rows ≤ 512 = (let m = length-map lives (λ (l : Live). l.row) in let k = ap length s in omega (arith, m, k)) in
    few_enough rows n ∙ ap (λ (q : List PRow). Ok q) (sym s)

pub ends_over : (answer : Result (List PRow) End) (kept : Kept) → kept.is_over ≡ true → IsTidying answer kept [] → answer ≡ Err Over
ends_over answer kept e t = t.is ∙ over_end kept.is_over kept.rows.items t.rows e t.stands

pub ends_rows : (answer : Result (List PRow) End) (kept : Kept) → kept.is_over ≡ false → length kept.rows.items ≤ 512 → IsTidying answer kept [] → answer ≡ Ok (rows_of kept.rows.items)
ends_rows answer kept e h t = t.is ∙ rows_end kept.is_over kept.rows.items t.rows e h t.stands
