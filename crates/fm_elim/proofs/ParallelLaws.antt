-- The place of a parallel row, and what putting a row there comes to.
use Rattle.std.specs.Prelude.{◌≡◌, ◌↔◌, ℕ, suc, ◌+◌, ◌<◌, length, List, [], ◌∷◌, ◌++◌, Bool, true, false, ◌||◌, ◌≤◌, IsTrue, Some, None, slice_get, refl, if◌then◌else◌}
use Rattle.std.proofs.Common.{get_or, ap, sym, ◌∙◌, subst, arith}
use Rattle.std.specs.List.{remove}
use Rattle.std.specs.Cmp.{IsTotalOrder, on_total, then_total, tied_itself}
use Rattle.std.specs.Cmp.Lexicographic.{lists_total}
use Rattle.std.proofs.lemmas.Cmp.{int_cmp_total}
use Rattle.std.specs.declared.cmp.Ordering.TheVariants.{Equal}
use Rattle.mm_poly.proofs.OrderLaws.{mono_total}
use Rattle.std.specs.Ordering.{is_eq}
use Rattle.std.proofs.lemmas.Option.{same_Some, slice_get_read, slice_get_within}
use Rattle.mm_poly.specs.declared.term.Term.{Term}
use Rattle.mm_poly.specs.Poly.{poly_cmp, without_constant}
use Rattle.mm_poly.proofs.CaseLaws.{by_if}
use Rattle.cert_kit.specs.declared.row.PRow.{PRow}
use Rattle.cert_kit.specs.Row.{has_no_terms, is_false}
use Rattle.cert_kit.specs.Cut.{cut_of}
use Rattle.fm_elim.specs.declared.live.Live.{Live}
use Rattle.fm_elim.specs.declared.kept.Kept.{Kept}
use Rattle.fm_elim.specs.Tidy.{is_inequality, are_parallel, is_tighter, tighter, put, is_constant_row, cuts, has_false}
use Rattle.fm_elim.specs.machine.Tidying.{rows_of, parallel_from, Stands, Feeds}
use Rattle.fm_elim.proofs.TidyLaws.{same_terms, length_kept}
use Rattle.mm_num.proofs.BoolLaws.{same_tests}

poly_total : IsTotalOrder poly_cmp
poly_total = lists_total (then_total (on_total (λ (t : Term). t.mono) mono_total) (on_total (λ (t : Term). t.coeff) int_cmp_total))

pub same_is : (p q : List Term) → p ≡ q → is_eq (poly_cmp p q) ≡ true
same_is p q e = ap is_eq (subst (λ r. poly_cmp p r ≡ Equal) e (tied_itself poly_total p))

-- a test of equality is the order's
pub same_test : (p q : List Term) (b : Bool) → IsTrue b ↔ (p ≡ q) → b ≡ is_eq (poly_cmp p q)
same_test p q b h = same_tests b (is_eq (poly_cmp p q)) (λ e. same_is p q (h.0 e)) (λ e. h.1 (same_terms p q e))

pub put_none : (lives : List Live) (r : PRow) (n : ℕ) → parallel_from lives r n ≡ None → put r (rows_of lives) ≡ rows_of lives ++ r ∷ []
put_none [] r n e = refl
put_none (l ∷ lives) r n e = by_if (are_parallel l.row r) (Some n) (parallel_from lives r (n + 1))
    (λ o. o ≡ None → (if are_parallel l.row r then tighter l.row r (rows_of lives) else l.row ∷ put r (rows_of lives)) ≡ l.row ∷ rows_of lives ++ r ∷ [])
    (λ b h. absurd cc) (λ b h. rw b (ap (λ (q : List PRow). l.row ∷ q) (put_none lives r (n + 1) h))) e

-- the parallel row at its place, and what becomes of the rows
pub record IsParallelAt (lives : List Live) (r : PRow) (k : ℕ) : Type 0 where
  pub live : Live
  pub here : slice_get lives k ≡ Some live
  pub kept : is_tighter r live.row ≡ false → put r (rows_of lives) ≡ rows_of lives
  pub moved : is_tighter r live.row ≡ true → put r (rows_of lives) ≡ rows_of (remove lives k) ++ r ∷ []

one_more : (m n k : ℕ) → m ≡ n + 1 + k → m ≡ n + suc k
one_more m n k e = omega arith

pub put_some : (lives : List Live) (r : PRow) (n m : ℕ) → parallel_from lives r n ≡ Some m → (k : ℕ) × (m ≡ n + k) × IsParallelAt lives r k
put_some [] r n m e = absurd cc
put_some (l ∷ lives) r n m e = by_if (are_parallel l.row r) (Some n) (parallel_from lives r (n + 1)) (λ o. o ≡ Some m → (k : ℕ) × (m ≡ n + k) × IsParallelAt (l ∷ lives) r k)
    (λ b h. (0, (let s = same_Some n m h in omega arith), record { live = l; here = refl; kept = λ t. rw (b, t) refl; moved = λ t. rw (b, t) refl }))
    (λ b h.
    let rest = put_some lives r (n + 1) m h in
    let p = rest.2 in (
      suc rest.0,
      one_more m n rest.0 rest.1,
      record {
        live = p.live;
        here = p.here;
        kept = λ t. rw b (ap (λ (q : List PRow). l.row ∷ q) (p.kept t));
        moved = λ t. rw b (ap (λ (q : List PRow). l.row ∷ q) (p.moved t));
      },
    )) e

pub parallel_at : (lives : List Live) (r : PRow) (k : ℕ) → parallel_from lives r 0 ≡ Some k → IsParallelAt lives r k
parallel_at lives r k e = let f = put_some lives r 0 k e in let q : f.0 ≡ k = omega (arith, f.1) in subst (IsParallelAt lives r) q f.2

pub parallel_inside : (lives : List Live) (r : PRow) (k : ℕ) → parallel_from lives r 0 ≡ Some k → k < length lives
parallel_inside lives r k e = let p = parallel_at lives r k e in slice_get_within lives k p.live p.here

-- the element that was read is the one there
pub same_item : {X : Type 0} (xs : List X) (k : ℕ) (x y : X) → slice_get xs k ≡ Some y → x ≡ get_or xs k x → y ≡ x
same_item xs k x y e h = same_Some y x (sym e ∙ slice_get_read xs (length xs) k x refl (slice_get_within xs k y e) h)

-- the test of parallel rows, part by part

pub both_are : (r s : PRow) (b : Bool) → is_inequality r.op ≡ true → is_inequality s.op ≡ true
    → IsTrue b ↔ (without_constant r.poly ≡ without_constant s.poly) → b ≡ are_parallel r s
both_are r s b e f h = rw (e, f) (same_test (without_constant r.poly) (without_constant s.poly) b h)

-- one row taken

pub stands_kept : (over : Bool) (lives : List Live) (q : List PRow) → over ≡ false → q ≡ rows_of lives → Stands over lives q
stands_kept true lives q e h = absurd cc
stands_kept false lives q e h = sym h

over_stays : (over : Bool) (lives : List Live) (kept more : List PRow) → over ≡ true → length kept ≤ length more → Stands over lives kept → Stands over lives more
over_stays true lives kept more e h s = omega arith
over_stays false lives kept more e h s = absurd cc

not_false : (r : PRow) → is_false (cut_of r) ≡ false → has_false (cuts (r ∷ [])) ≡ false
not_false r e = ap (λ b. b || false) e

-- where there are too many rows already
pub fed_over : (a : Kept) (r : PRow) → is_false (cut_of r) ≡ false → a.is_over ≡ true → Feeds false a a (r ∷ [])
fed_over a r e o = (not_false r e, λ kept s. over_stays a.is_over a.rows.items kept _ o (length_kept (cuts (r ∷ [])) kept) s)

-- a constant row is left out
pub fed_constant : (a : Kept) (r : PRow) → is_false (cut_of r) ≡ false → is_constant_row (cut_of r) ≡ true → Feeds false a a (r ∷ [])
fed_constant a r e k = (not_false r e, λ kept s. rw k s)

stands_both : (over : Bool) (lives : List Live) (kept : List PRow) → over ≡ false → Stands over lives kept → rows_of lives ≡ kept
stands_both true lives kept e s = absurd cc
stands_both false lives kept e s = s

-- another row is put in
pub fed_put : (a b : Kept) (r : PRow) → is_false (cut_of r) ≡ false → is_constant_row (cut_of r) ≡ false → a.is_over ≡ false
    → Stands b.is_over b.rows.items (put (cut_of r) (rows_of a.rows.items)) → Feeds false a b (r ∷ [])
fed_put a b r e k o h = (not_false r e, λ kept s. rw k (subst (λ q. Stands b.is_over b.rows.items (put (cut_of r) q)) (stands_both a.is_over a.rows.items kept o s) h))

pub fed_false : (a b : Kept) (r : PRow) → is_false (cut_of r) ≡ true → Feeds true a b (r ∷ [])
fed_false a b r e = ap (λ b. b || false) e

-- whether a row is constant
pub constant_is : (r : PRow) → without_constant r.poly ≡ [] → is_constant_row r ≡ true
constant_is r e = ap has_no_terms e

pub constant_not : (r : PRow) → (without_constant r.poly ≡ [] → ⊥) → is_constant_row r ≡ false
constant_not r h = by_terms (without_constant r.poly) h
  where
    by_terms : (ts : List Term) → (ts ≡ [] → ⊥) → has_no_terms ts ≡ false
    by_terms [] n = absurd (n refl)
    by_terms (t ∷ ts) n = refl

pub differ : (b : Bool) → b ≡ true → b ≡ false → ⊥
differ b e f = cc
