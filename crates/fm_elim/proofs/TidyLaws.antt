-- Tidy rows have the integer solutions of the rows.
use Rattle.std.specs.Prelude.{◌≡◌, ℕ, ℤ, pos, negsuc, ◌+ℤ◌, ◌≤ℤ◌, List, [], ◌∷◌, ◌++◌, length, Bool, true, false, ◌&&◌, ◌||◌, int_lt, nat_le, Result, Ok, Err, refl}
use Rattle.std.proofs.Common.{◌≤◌, if◌then◌else◌, length-append, ap, sym, ◌∙◌, subst, arith}
use Rattle.std.specs.Ordering.{is_eq}
use Rattle.std.specs.List.{AllByRecursion}
use Rattle.std.specs.FinMap.{slice_cmp-IsAntisymmetric, IsAntisymmetric, int_cmp-IsAntisymmetric}
use Rattle.std.specs.declared.cmp.Ordering.{Ordering}
use Rattle.std.specs.declared.cmp.Ordering.TheVariants.{Less, Equal, Greater}
use Rattle.std.proofs.lemmas.Bool.{and_parts, or_parts}
use Rattle.std.proofs.lemmas.Int.{ints}
use Rattle.mm_num.specs.Quotient.{floor_by}
use Rattle.mm_poly.specs.declared.term.Term.{Term}
use Rattle.mm_poly.specs.Poly.{IsPoly, linear_value, constant_part, without_constant, content, poly_cmp, term_cmp}
use Rattle.mm_poly.proofs.CaseLaws.{by_if}
use Rattle.mm_poly.proofs.OrderLaws.{mono_exact, then_first, then_second}
use Rattle.mm_poly.proofs.CoeffLaws.{term_same}
use Rattle.mm_poly.proofs.PolyLaws.{poly_plus}
use Rattle.mm_poly.proofs.CutBoundLaws.{poly_without, poly_divided, poly_constant}
use Rattle.cert_kit.specs.declared.row.Op.{Op}
use Rattle.cert_kit.specs.declared.row.Op.TheVariants.{Ge, Eq}
use Rattle.cert_kit.specs.declared.row.PRow.{PRow}
use Rattle.cert_kit.specs.Row.{Compares, Holds, Solves, is_false_constant, has_no_terms, is_false}
use Rattle.cert_kit.specs.Cut.{contradiction, divided, cut_by, cut_of}
use Rattle.cert_kit.proofs.CutLaws.{cut_holds}
use Rattle.cert_kit.proofs.SoundLaws.{false_holds}
use Rattle.fm_elim.specs.Tidy.{End, Contra, Point, Grey, Over, is_inequality, are_parallel, is_tighter, tighter, put, is_constant_row, kept_after, cuts, has_false, within_512, tidied}
use Rattle.fm_elim.specs.machine.Tidying.{HasUnknowns}
use Rattle.fm_elim.specs.Points.{Values, HoldsBy}
use Rattle.fm_elim.proofs.ListLaws.{all_first, all_second, all_map, all_unmap, all_with}
use Rattle.fm_elim.proofs.LinearCutLaws.{linear_parts, cut_back}
use Rattle.mm_num.proofs.ListLaws.{all_join}
use Rattle.mm_poly.proofs.ValueLaws.{zero_sum}

-- what holds of the rows that are put in holds of those that stand
pub all_put : (P : PRow → Type 0) (r : PRow) (rows : List PRow) → P r → AllByRecursion P rows → AllByRecursion P (put r rows)
all_put P r [] h a = (h, tt)
all_put P r (s ∷ rows) h a = by_if (are_parallel s r) (tighter s r rows) (s ∷ put r rows) (AllByRecursion P)
    (λ e. by_if (is_tighter r s) (rows ++ r ∷ []) (s ∷ rows) (AllByRecursion P) (λ f. all_join P rows (r ∷ []) a.1 (h, tt)) (λ f. a))
    (λ e. (a.0, all_put P r rows h a.1))

pub all_kept : (P : PRow → Type 0) (rows kept : List PRow) → AllByRecursion P rows → AllByRecursion P kept → AllByRecursion P (kept_after rows kept)
all_kept P [] kept a b = b
all_kept P (r ∷ rows) kept a b =
    all_kept P rows _ a.1 (by_if (is_constant_row r) kept (put r kept) (AllByRecursion P) (λ e. b) (λ e. all_put P r kept a.0 b))

pub kept_unknowns : (rows kept : List PRow) → AllByRecursion HasUnknowns kept → AllByRecursion HasUnknowns (kept_after rows kept)
kept_unknowns [] kept b = b
kept_unknowns (r ∷ rows) kept b =
    kept_unknowns rows _ (by_if (is_constant_row r) kept (put r kept) (AllByRecursion HasUnknowns) (λ e. b) (λ e. all_put HasUnknowns r kept e b))

-- the three ways that tidying can go
pub by_tidied : (rows : List PRow) (P : Result (List PRow) End → Type 0) → (has_false (cuts rows) ≡ true → P (Err Contra)) → P (Err Over)
    → (has_false (cuts rows) ≡ false → P (Ok (kept_after (cuts rows) []))) → P (tidied rows)
by_tidied rows P c o k = by_if (has_false (cuts rows)) (Err Contra) (within_512 (kept_after (cuts rows) [])) P c
    (λ e. by_if (nat_le (length (kept_after (cuts rows) [])) 512) (Ok (kept_after (cuts rows) [])) (Err Over) P (λ f. k e) (λ f. o))

-- forwards: a point that solves the rows solves the tidy rows

pub false_nowhere : (x : ℕ → ℤ) (rows : List PRow) → has_false rows ≡ true → Solves x rows → ⊥
false_nowhere x [] e s = cc
false_nowhere x (r ∷ rows) e s = by_test (is_false r) refl (λ f. false_nowhere x rows f s.1)
  where
    by_test : (b : Bool) → is_false r ≡ b → (has_false rows ≡ true → ⊥) → ⊥
    by_test true f rest = false_holds x r f s.0
    by_test false f rest = rest (sym (ap (λ c. c || has_false rows) f) ∙ e)

pub cuts_hold : (x : ℕ → ℤ) (rows : List PRow) → Solves x rows → Solves x (cuts rows)
cuts_hold x rows s = all_map (Holds x) cut_of rows (all_with (Holds x) (λ r. Holds x (cut_of r)) rows (cut_holds x) s)

-- no contradiction, and each row that is left holds
abbrev pub MayEnd : End → Type 0
MayEnd Contra = ⊥
MayEnd Point = Unit {0}
MayEnd Grey = Unit {0}
MayEnd Over = Unit {0}

abbrev pub Allows : (ℕ → ℤ) → Result (List PRow) End → Type 0
Allows x (Ok rows) = Solves x rows
Allows x (Err e) = MayEnd e

pub tidied_allows : (x : ℕ → ℤ) (rows : List PRow) → Solves x rows → Allows x (tidied rows)
tidied_allows x rows s = by_tidied rows (Allows x) (λ e. false_nowhere x (cuts rows) e (cuts_hold x rows s)) tt
    (λ e. all_kept (Holds x) (cuts rows) [] (cuts_hold x rows s) tt)

-- backwards: values of which the tidy rows hold

equal_of : (o : Ordering) → is_eq o ≡ true → o ≡ Equal
equal_of Less e = absurd cc
equal_of Equal e = refl
equal_of Greater e = absurd cc

term_exact : IsAntisymmetric term_cmp
term_exact t u e = term_same t u (int_cmp-IsAntisymmetric t.coeff u.coeff (then_second _ _ e)) (mono_exact t.mono u.mono (then_first _ _ e))

pub same_terms : (p q : List Term) → is_eq (poly_cmp p q) ≡ true → p ≡ q
same_terms p q e = slice_cmp-IsAntisymmetric term_exact p q (equal_of (poly_cmp p q) e)

inequality_is : (o : Op) → is_inequality o ≡ true → o ≡ Ge
inequality_is Ge e = refl
inequality_is Eq e = absurd cc

not_less : (a b : ℤ) → int_lt a b ≡ false → b ≤ℤ a
not_less a b e = grind (arith, ints)

is_less : (a b : ℤ) → int_lt a b ≡ true → a ≤ℤ b
is_less a b e = grind (arith, ints)

more_constant : (v k l a b : ℤ) → pos 0 ≤ℤ a → a ≡ v +ℤ k → b ≡ v +ℤ l → k ≤ℤ l → pos 0 ≤ℤ b
more_constant v k l a b h e f g = omega (arith, ints)

looser_op : (o p : Op) (a b : ℤ) → o ≡ Ge → p ≡ Ge → Compares o a → (pos 0 ≤ℤ a → pos 0 ≤ℤ b) → Compares p b
looser_op Ge Ge a b e f h g = g h
looser_op Ge Eq a b e f h g = absurd cc
looser_op Eq p a b e f h g = absurd cc

-- a parallel row with a constant that isn't less holds too
looser : (w : Values) (r s : PRow) → w [] ≡ pos 1 → are_parallel s r ≡ true → constant_part r.poly ≤ℤ constant_part s.poly → HoldsBy w r → HoldsBy w s
looser w r s o e c h =
    let b = and_parts (is_inequality s.op && is_inequality r.op) (is_eq (poly_cmp (without_constant s.poly) (without_constant r.poly))) e in
    let ops = and_parts (is_inequality s.op) (is_inequality r.op) b.0 in
    let same = same_terms (without_constant s.poly) (without_constant r.poly) b.1 in
    looser_op r.op s.op (linear_value w r.poly) (linear_value w s.poly) (inequality_is r.op ops.1) (inequality_is s.op ops.0) h
    (λ g. more_constant (linear_value w (without_constant r.poly)) (constant_part r.poly) (constant_part s.poly) (linear_value w r.poly) (linear_value w s.poly) g
    (linear_parts w r.poly o) (linear_parts w s.poly o ∙ ap (λ ts. linear_value w ts +ℤ constant_part s.poly) same) c)

looser_back : (w : Values) (r s : PRow) → w [] ≡ pos 1 → are_parallel s r ≡ true → constant_part s.poly ≤ℤ constant_part r.poly → HoldsBy w s → HoldsBy w r
looser_back w r s o e c h =
    let b = and_parts (is_inequality s.op && is_inequality r.op) (is_eq (poly_cmp (without_constant s.poly) (without_constant r.poly))) e in
    let ops = and_parts (is_inequality s.op) (is_inequality r.op) b.0 in
    let same = same_terms (without_constant s.poly) (without_constant r.poly) b.1 in
    looser_op s.op r.op (linear_value w s.poly) (linear_value w r.poly) (inequality_is s.op ops.0) (inequality_is r.op ops.1) h
    (λ g. more_constant (linear_value w (without_constant s.poly)) (constant_part s.poly) (constant_part r.poly) (linear_value w s.poly) (linear_value w r.poly) g
    (linear_parts w s.poly o) (linear_parts w r.poly o ∙ ap (λ ts. linear_value w ts +ℤ constant_part r.poly) (sym same)) c)

back_put : (w : Values) (r : PRow) (rows : List PRow) → w [] ≡ pos 1 → AllByRecursion (HoldsBy w) (put r rows) → HoldsBy w r × AllByRecursion (HoldsBy w) rows
back_put w r [] o a = (a.0, tt)
back_put w r (s ∷ rows) o a = by_if (are_parallel s r) (tighter s r rows) (s ∷ put r rows) (λ q. AllByRecursion (HoldsBy w) q → HoldsBy w r × AllByRecursion (HoldsBy w) (s ∷ rows))
    (λ e. by_if (is_tighter r s) (rows ++ r ∷ []) (s ∷ rows) (λ q. AllByRecursion (HoldsBy w) q → HoldsBy w r × AllByRecursion (HoldsBy w) (s ∷ rows))
    (λ f a. let h = (all_second (HoldsBy w) rows (r ∷ []) a).0 in (h, (looser w r s o e (is_less _ _ f) h, all_first (HoldsBy w) rows (r ∷ []) a)))
    (λ f a. (looser_back w r s o e (not_less _ _ f) a.0, a)))
    (λ e a. let b = back_put w r rows o a.1 in (b.0, (a.0, b.1))) a

no_terms : (w : Values) (ts : List Term) → has_no_terms ts ≡ true → linear_value w ts ≡ pos 0
no_terms w [] h = refl
no_terms w (t ∷ ts) h = absurd cc

true_constant : (o : Op) (k : ℤ) → is_false_constant o k ≡ false → Compares o k
true_constant Ge k e = grind (arith, ints)
true_constant Eq k e = grind (arith, ints)

-- a constant row that isn't false holds
constant_holds : (w : Values) (r : PRow) → w [] ≡ pos 1 → is_constant_row r ≡ true → is_false r ≡ false → HoldsBy w r
constant_holds w r o c f =
    let e : linear_value w r.poly ≡ constant_part r.poly =
    linear_parts w r.poly o ∙ ap (λ n. n +ℤ constant_part r.poly) (no_terms w (without_constant r.poly) c) ∙ zero_sum _ in
    subst (Compares r.op) (sym e) (true_constant r.op (constant_part r.poly) (sym (ap (λ b. b && is_false_constant r.op (constant_part r.poly)) c) ∙ f))

back_kept : (w : Values) (rows kept : List PRow) → w [] ≡ pos 1 → has_false rows ≡ false → AllByRecursion (HoldsBy w) (kept_after rows kept)
    → AllByRecursion (HoldsBy w) rows × AllByRecursion (HoldsBy w) kept
back_kept w [] kept o f a = (tt, a)
back_kept w (r ∷ rows) kept o f a =
    let b = or_parts (is_false r) (has_false rows) f in
    by_if (is_constant_row r) kept (put r kept) (λ q. AllByRecursion (HoldsBy w) (kept_after rows q) → AllByRecursion (HoldsBy w) (r ∷ rows) × AllByRecursion (HoldsBy w) kept)
    (λ e a. let p = back_kept w rows kept o b.1 a in ((constant_holds w r o e b.0, p.0), p.1))
    (λ e a. let p = back_kept w rows (put r kept) o b.1 a in let q = back_put w r kept o p.1 in ((q.0, p.0), q.1)) a

-- what the tidy rows allow, the rows allow
pub tidy_back : (w : Values) (rows : List PRow) → w [] ≡ pos 1 → has_false (cuts rows) ≡ false → AllByRecursion (HoldsBy w) (kept_after (cuts rows) [])
    → AllByRecursion (HoldsBy w) rows
tidy_back w rows o f a =
    all_with (λ r. HoldsBy w (cut_of r)) (HoldsBy w) rows (λ r h. cut_back w r o h)
    (all_unmap (HoldsBy w) cut_of rows (back_kept w (cuts rows) [] o f a).0)

-- tidy rows are polynomials and have unknowns

abbrev pub IsPolyRow : PRow → Type 0
IsPolyRow r = IsPoly r.poly

poly_divided_row : (g : ℕ) (p : List Term) → IsPoly p → IsPoly (divided g p)
poly_divided_row g p h = poly_plus _ _ (poly_divided g (without_constant p) (poly_without p h)) (poly_constant (floor_by (constant_part p) g))

poly_cut_by : (g : ℕ) (o : Op) (p : List Term) → IsPoly p → IsPolyRow (cut_by g o p)
poly_cut_by g Ge p h = poly_divided_row g p h
poly_cut_by g Eq p h = by_if _ (record { poly = divided g p; op = Eq }) contradiction IsPolyRow (λ e. poly_divided_row g p h) (λ e. poly_constant (negsuc 0))

pub poly_cut : (r : PRow) → IsPolyRow r → IsPolyRow (cut_of r)
poly_cut r h = by_if _ r (cut_by (content r.poly) r.op r.poly) IsPolyRow (λ e. h) (λ e. poly_cut_by (content r.poly) r.op r.poly h)

-- polynomials, none of which is constant
pub record AreTidy (rows : List PRow) : Type 0 where
  pub polys : AllByRecursion IsPolyRow rows
  pub unknown : AllByRecursion HasUnknowns rows

pub kept_tidy : (rows : List PRow) → AllByRecursion IsPolyRow rows → AreTidy (kept_after (cuts rows) [])
kept_tidy rows a = record {
  polys = all_kept IsPolyRow (cuts rows) [] (all_map IsPolyRow cut_of rows (all_with IsPolyRow (λ r. IsPolyRow (cut_of r)) rows poly_cut a)) tt;
  unknown = kept_unknowns (cuts rows) [] tt;
}

-- keeping never leaves fewer rows

length_put : (r : PRow) (rows : List PRow) → length rows ≤ length (put r rows)
length_put r [] = omega arith
length_put r (s ∷ rows) = by_if (are_parallel s r) (tighter s r rows) (s ∷ put r rows) (λ q. length (s ∷ rows) ≤ length q)
    (λ e. by_if (is_tighter r s) (rows ++ r ∷ []) (s ∷ rows) (λ q. length (s ∷ rows) ≤ length q) (λ f. omega (arith, length-append rows (r ∷ []))) (λ f. omega arith))
    (λ e. let h = length_put r rows in omega arith)

pub length_kept : (rows kept : List PRow) → length kept ≤ length (kept_after rows kept)
length_kept [] kept = omega arith
length_kept (r ∷ rows) kept =
    let k = if is_constant_row r then kept else put r kept in
    let h : length (if is_constant_row r then kept else put r kept) ≤ length (kept_after rows (if is_constant_row r then kept else put r kept)) = length_kept rows k in
    let g : length kept ≤ length (if is_constant_row r then kept else put r kept) =
    by_if (is_constant_row r) kept (put r kept) (λ q. length kept ≤ length q) (λ e. omega arith) (λ e. length_put r kept) in
    omega arith
