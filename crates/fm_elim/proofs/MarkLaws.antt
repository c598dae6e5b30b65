-- The rows that marked sources name are marked, and have new numbers.
use Rattle.std.specs.Prelude.{◌≡◌, ◌⊎◌, ℕ, zero, suc, ◌+◌, ◌-◌, ◌<◌, ◌≤◌, ◌==◌, ℤ, pos, negsuc, List, [], ◌∷◌, ◌++◌, length, set, Bool, true, false, Option, Some, None, slice_get, refl}
use Rattle.std.proofs.Common.{ap, sym, ◌∙◌, subst, inl, inr, arith, length-append}
use Rattle.std.proofs.lemmas.List.{length-set}
use Rattle.std.proofs.lemmas.Option.{same_Some, slice_get_within}
use Rattle.std.specs.List.{AllByRecursion}
use Rattle.std.specs.Ordering.{int_eq}
use Rattle.mm_num.specs.Option.{◌>>=◌}
use Rattle.mm_num.proofs.OptionLaws.{bind_some}
use Rattle.mm_num.proofs.TestLaws.{is_number, number_test}
use Rattle.mm_poly.specs.Poly.{constant_of}
use Rattle.mm_poly.proofs.CaseLaws.{by_if}
use Rattle.cert_kit.specs.declared.row.PRow.{PRow}
use Rattle.cert_kit.specs.declared.cert.Psatz.{Psatz}
use Rattle.cert_kit.specs.declared.cert.Psatz.TheVariants.{Hyp, Square, MulPoly, Mul, Add, Const}
use Rattle.cert_kit.specs.Meaning.{meaning, multiple_row, product_row, sum_row}
use Rattle.cert_kit.specs.Acceptance.{with_row, rows_after, steps_within}
use Rattle.cert_kit.proofs.FormLaws.{hyp_means, mulp_means, mul_means, add_means}
use Rattle.fm_elim.specs.declared.source.Source.{Source}
use Rattle.fm_elim.specs.declared.source.Combination.{Combination}
use Rattle.fm_elim.specs.declared.source.Combination.TheVariants.{Given, Sum, Pair, Half, OtherHalf}
use Rattle.fm_elim.specs.declared.log.Log.{Log}
use Rattle.fm_elim.specs.machine.Logging.{times_row, times_equality, expression, steps_of, made_row, all_rows, IsSound}
use Rattle.fm_elim.specs.machine.Pruning.{renumbered, names_of, AreBelow, IsMarked, AreClosed, Marks, IsPlaced, ArePlaced, IsPlacedNext}
use Rattle.fm_elim.proofs.ListLaws.{all_with}
use Rattle.fm_elim.proofs.LoggingLaws.{get_front, get_last}
use Rattle.fm_elim.proofs.PruningLaws.{step_parts, number_given, number_there}

-- a source names rows that stand before its own

hyp_in : (n : ℕ) (rows : List PRow) (r : PRow) → meaning (Hyp n) rows ≡ Some r → n < length rows
hyp_in n rows r e = slice_get_within rows n r (sym (hyp_means n rows) ∙ e)

times_in : (a : ℤ) (n : ℕ) (rows : List PRow) (r : PRow) → meaning (times_row a n) rows ≡ Some r → n < length rows
times_in a n rows r = by_if (int_eq a (pos 1)) (Hyp n) (Mul (Const a) (Hyp n)) (λ e. meaning e rows ≡ Some r → n < length rows)
    (λ b e. hyp_in n rows r e)
    (λ b e.
    let f = bind_some (meaning (Const a) rows) (λ q. meaning (Hyp n) rows >>= λ s. Some (product_row q s)) r (sym (mul_means (Const a) (Hyp n) rows) ∙ e) in
    let g = bind_some (meaning (Hyp n) rows) (λ s. Some (product_row f.0 s)) r f.2 in
    hyp_in n rows g.0 g.1)

mulp_in : (k : ℤ) (n : ℕ) (rows : List PRow) (r : PRow) → meaning (MulPoly (constant_of k) (Hyp n)) rows ≡ Some r → n < length rows
mulp_in k n rows r e =
    let f = bind_some (meaning (Hyp n) rows) (λ q. multiple_row (constant_of k) q.op q.poly) r (sym (mulp_means (constant_of k) (Hyp n) rows) ∙ e) in
    hyp_in n rows f.0 f.1

equality_in : (k : ℤ) (n : ℕ) (rows : List PRow) (r : PRow) → meaning (times_equality k n) rows ≡ Some r → n < length rows
equality_in k n rows r = by_if (int_eq k (pos 1)) (Hyp n) (MulPoly (constant_of k) (Hyp n)) (λ e. meaning e rows ≡ Some r → n < length rows) (λ b e. hyp_in n rows r e) (λ b e. mulp_in k n rows r e)

pub record HaveMeanings (e f : Psatz) (rows : List PRow) : Type 0 where
  pub first : PRow
  pub second : PRow
  pub first_means : meaning e rows ≡ Some first
  pub second_means : meaning f rows ≡ Some second

sum_parts : (e f : Psatz) (rows : List PRow) (r : PRow) → meaning (Add e f) rows ≡ Some r → HaveMeanings e f rows
sum_parts e f rows r h =
    let a = bind_some (meaning e rows) (λ q. meaning f rows >>= λ s. Some (sum_row q s)) r (sym (add_means e f rows) ∙ h) in
    let b = bind_some (meaning f rows) (λ s. Some (sum_row a.0 s)) r a.2 in
    record { first = a.0; second = b.0; first_means = a.1; second_means = b.1 }

names_in : (s : Combination) (rows : List PRow) (r : PRow) → meaning (expression s) rows ≡ Some r → AreBelow (length rows) (names_of s)
names_in (Given n) rows r e = (hyp_in n rows r e, tt)
names_in (Sum n k m) rows r e = let p = sum_parts (Hyp n) (times_equality k m) rows r e in (hyp_in n rows p.first p.first_means, (equality_in k m rows p.second p.second_means, tt))
names_in (Pair a l b h) rows r e = let p = sum_parts (times_row a l) (times_row b h) rows r e in (times_in a l rows p.first p.first_means, (times_in b h rows p.second p.second_means, tt))
names_in (Half n) rows r e = let p = sum_parts (Hyp n) (Square []) rows r e in (hyp_in n rows p.first p.first_means, tt)
names_in (OtherHalf n) rows r e = let p = sum_parts (MulPoly (constant_of (negsuc 0)) (Hyp n)) (Square []) rows r e in (mulp_in (negsuc 0) n rows p.first p.first_means, tt)

names_at : (sources : List Source) (given rows : List PRow) (k : ℕ) (s : Source) → rows_after (steps_of sources) given ≡ Some rows → steps_within (steps_of sources) given ≡ true → slice_get sources k ≡ Some s
    → AreBelow (length given + k) (names_of s.combination)
names_at [] given rows k s e w h = absurd cc
names_at (t ∷ sources) given rows zero s e w h =
    let p = step_parts t given rows (steps_of sources) e w in
    let none : length given ≡ length given + 0 = omega arith in
    subst (λ q. AreBelow (length given + 0) (names_of q.combination)) (same_Some t s h) (subst (λ n. AreBelow n (names_of t.combination)) none (names_in t.combination given p.0 p.1))
names_at (t ∷ sources) given rows (suc k) s e w h =
    let p = step_parts t given rows (steps_of sources) e w in
    let l = length-append given (made_row t p.0 ∷ []) in
    let count : length (with_row given (made_row t p.0)) + k ≡ length given + suc k = omega (arith, l) in
    subst (λ n. AreBelow n (names_of s.combination)) count (names_at sources (with_row given (made_row t p.0)) rows k s p.3 p.4 h)

pub names_below : (log : Log) (k : ℕ) (s : Source) → IsSound log → slice_get log.sources.items k ≡ Some s → AreBelow (length log.given.now + k) (names_of s.combination)
names_below log k s m h = names_at log.sources.items log.given.now (all_rows log) k s m.makes.made m.makes.within h

-- marking

set_here : {A : Type 0} (xs : List A) (i : ℕ) (y : A) → i < length xs → slice_get (set xs i y) i ≡ Some y
set_here [] i y h = absurd (omega (arith, h))
set_here (x ∷ xs) zero y h = refl
set_here (x ∷ xs) (suc i) y h = set_here xs i y (omega (arith, h))

set_other : {A : Type 0} (xs : List A) (i j : ℕ) (y : A) → (i ≡ j → ⊥) → slice_get (set xs i y) j ≡ slice_get xs j
set_other [] i j y n = refl
set_other (x ∷ xs) zero zero y n = absurd (n refl)
set_other (x ∷ xs) zero (suc j) y n = refl
set_other (x ∷ xs) (suc i) zero y n = refl
set_other (x ∷ xs) (suc i) (suc j) y n = set_other xs i j y (λ e. n (ap (λ k. suc k) e))

same_or : (i j : ℕ) → (i ≡ j) ⊎ (i ≡ j → ⊥)
same_or i j = by_test (i == j) refl
  where
    by_test : (b : Bool) → (i == j) ≡ b → (i ≡ j) ⊎ (i ≡ j → ⊥)
    by_test true e = inl (is_number i j e)
    by_test false e = inr (λ s. differ (i == j) (number_test i j s) e)
      where
        differ : (b : Bool) → b ≡ true → b ≡ false → ⊥
        differ b p q = cc

pub marked_given : (given row : ℕ) (marks : List Bool) → row < given → Marks given (row ∷ []) marks marks
marked_given given row marks h = record {
  count = refl;
  grows = λ j e. e;
  only = λ k b j l e. e;
  marked = λ k l b. ((λ g. absurd (omega (arith, h, g))), tt);
}

pub marked_past : (given row : ℕ) (marks : List Bool) → length marks ≤ row - given → given ≤ row → Marks given (row ∷ []) marks marks
marked_past given row marks h i = record {
  count = refl;
  grows = λ j e. e;
  only = λ k b j l e. e;
  marked = λ k l b. (let n = b.0 in absurd (omega (arith, h, i, l, n)), tt);
}

pub marked_row : (given row : ℕ) (before after : List Bool) → given ≤ row → row - given < length before → after ≡ set before (row - given) true → Marks given (row ∷ []) before after
marked_row given row before after g h e =
    let here : slice_get after (row - given) ≡ Some true = ap (λ (q : List Bool). slice_get q (row - given)) e ∙ set_here before (row - given) true h in
    record {
      count = ap (λ (q : List Bool). length q) e ∙ length-set before (row - given) true;
      grows = λ j k. grown j k (same_or (row - given) j) here;
      only = λ k b j l m.
          let n = b.0 in
          let d : row - given ≡ j → ⊥ = (λ s. absurd (omega (arith, s, l, n, g))) in
          sym (set_other before (row - given) j true d) ∙ ap (λ (q : List Bool). slice_get q j) (sym e) ∙ m;
      marked = λ k l b. ((λ i. here), tt);
    }
  where
    grown : (j : ℕ) → slice_get before j ≡ Some true → (row - given ≡ j) ⊎ (row - given ≡ j → ⊥) → slice_get after (row - given) ≡ Some true → slice_get after j ≡ Some true
    grown j k (inl s) here = subst (λ i. slice_get after i ≡ Some true) s here
    grown j k (inr d) here = ap (λ (q : List Bool). slice_get q j) e ∙ set_other before (row - given) j true d ∙ k

pub marked_both : (given first second : ℕ) (a b c : List Bool) → Marks given (first ∷ []) a b → Marks given (second ∷ []) b c → Marks given (first ∷ second ∷ []) a c
marked_both given first second a b c f s = record {
  count = s.count ∙ f.count;
  grows = λ j e. s.grows j (f.grows j e);
  only = λ k l j i e. f.only k (l.0, tt) j i (s.only k (l.1.0, tt) j i e);
  marked = λ k i l.
      let p = f.marked k i (l.0, tt) in
      let count = f.count in
      let q = s.marked k (omega (arith, i, count)) (l.1.0, tt) in
      ((λ g. s.grows (first - given) (p.0 g)), (q.0, tt));
}

pub closed_marked : (given : ℕ) (sources : List Source) (before after : List Bool) (n : ℕ) (t : Source) → Marks given (names_of t.combination) before after → slice_get sources n ≡ Some t → AreBelow (given + n) (names_of t.combination)
    → n ≤ length before → AreClosed given sources before (n + 1) → AreClosed given sources after n
closed_marked given sources before after n t m here below i c = λ j s l h e. by_place j s l h e (same_or n j)
  where
    by_place : (j : ℕ) (s : Source) → n ≤ j → slice_get after j ≡ Some true → slice_get sources j ≡ Some s → (n ≡ j) ⊎ (n ≡ j → ⊥) → AllByRecursion (IsMarked given after) (names_of s.combination)
    by_place j s l h e (inl q) =
        subst (λ x. AllByRecursion (IsMarked given after) (names_of x.combination)) (same_Some t s (sym here ∙ ap (λ k. slice_get sources k) q ∙ e)) (m.marked n i below)
    by_place j s l h e (inr d) =
        all_with (IsMarked given before) (IsMarked given after) (names_of s.combination) (λ x k g. m.grows (x - given) (k g)) (c j s (further l d) (m.only n below j l h) e)
      where
        further : n ≤ j → (n ≡ j → ⊥) → n + 1 ≤ j
        further l d = grind arith

-- new numbers

none_placed : (marks : List Bool) → ArePlaced marks []
none_placed marks = λ j l h. absurd (omega (arith, l))

pub placed_none : (marks : List Bool) (places : List (Option ℕ)) → places ≡ [] → ArePlaced marks places
placed_none marks places e = subst (ArePlaced marks) (sym e) (none_placed marks)

pub placed_next : (marks : List Bool) (is_needed : Bool) (before after : List (Option ℕ)) → slice_get marks (length before) ≡ Some is_needed → IsPlacedNext is_needed before after → ArePlaced marks before → ArePlaced marks after
placed_next marks is_needed before after here p a = subst (ArePlaced marks) (sym p.places) (λ j l h. by_place j l h (same_or (length before) j))
  where
    by_place : (j : ℕ) → j < length (before ++ p.place ∷ []) → slice_get marks j ≡ Some true → (length before ≡ j) ⊎ (length before ≡ j → ⊥) → (m : ℕ) × (slice_get (before ++ p.place ∷ []) j ≡ Some (Some m))
    by_place j l h (inl e) =
        let needed : is_needed ≡ true = same_Some is_needed true (sym here ∙ ap (λ k. slice_get marks k) e ∙ h) in
        let m = p.needed needed in
        (m.0, subst (λ k. slice_get (before ++ p.place ∷ []) k ≡ Some (Some m.0)) e (get_last before p.place ∙ ap (λ (o : Option ℕ). Some o) m.1))
    by_place j l h (inr d) =
        let c = length-append before (p.place ∷ []) in
        let m = a j (earlier j (length before) (length (before ++ p.place ∷ [])) c l d) h in
        (m.0, get_front before (p.place ∷ []) j (Some m.0) m.1)
      where
        earlier : (j n k : ℕ) → k ≡ n + 1 → j < k → (n ≡ j → ⊥) → j < n
        earlier j n k e l d = grind arith

pub placed_names : (given : ℕ) (sources : List Source) (marks : List Bool) (places : List (Option ℕ)) (n : ℕ) (s : Source) → AreClosed given sources marks 0 → ArePlaced marks places → length places ≡ n
    → slice_get marks n ≡ Some true → slice_get sources n ≡ Some s → AreBelow (given + n) (names_of s.combination) → AllByRecursion (IsPlaced given places) (names_of s.combination)
placed_names given sources marks places n s c a count here e below =
    both (names_of s.combination) (c n s (omega arith) here e) below
  where
    one : (x : ℕ) → IsMarked given marks x → x < given + n → (x < given) ⊎ (given ≤ x) → IsPlaced given places x
    one x m b (inl l) = (x, number_given given places x l)
    one x m b (inr l) =
        let p = a (x - given) (omega (arith, l, b, count)) (m l) in
        (p.0, number_there given places x p.0 l p.1)

    split : (x g : ℕ) → (x < g) ⊎ (g ≤ x)
    split x g = grind arith

    both : (ns : List ℕ) → AllByRecursion (IsMarked given marks) ns → AreBelow (given + n) ns → AllByRecursion (IsPlaced given places) ns
    both [] m b = tt
    both (x ∷ ns) m b = (one x m.0 b.0 (split x given), both ns m.1 b.1)

pub renumbered_some : (f : ℕ → Option ℕ) (s : Combination) → AllByRecursion (λ n. (m : ℕ) × (f n ≡ Some m)) (names_of s) → (t : Combination) × (renumbered f s ≡ Some t)
renumbered_some f (Given n) a = (Given a.0.0, rw a.0.1 refl)
renumbered_some f (Sum n k m) a = (Sum a.0.0 k a.1.0.0, rw a.0.1 (rw a.1.0.1 refl))
renumbered_some f (Pair x l y h) a = (Pair x a.0.0 y a.1.0.0, rw a.0.1 (rw a.1.0.1 refl))
renumbered_some f (Half n) a = (Half a.0.0, rw a.0.1 refl)
renumbered_some f (OtherHalf n) a = (OtherHalf a.0.0, rw a.0.1 refl)

pub not_none : (f : ℕ → Option ℕ) (s : Combination) → AllByRecursion (λ n. (m : ℕ) × (f n ≡ Some m)) (names_of s) → renumbered f s ≡ None → ⊥
not_none f s a e = let t = renumbered_some f s a in differ (renumbered f s) t.0 e t.1
  where
    differ : (o : Option Combination) (t : Combination) → o ≡ None → o ≡ Some t → ⊥
    differ o t p q = cc
