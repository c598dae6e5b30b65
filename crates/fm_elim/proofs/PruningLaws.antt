-- A source over other numbers for the same rows makes the same row.
use Rattle.std.specs.Prelude.{◌≡◌, ◌⊎◌, ℕ, zero, suc, ◌+◌, ◌-◌, ◌<◌, ◌≤◌, ℤ, pos, negsuc, List, [], ◌∷◌, ◌++◌, length, Bool, true, false, ◌&&◌, nat_lt, Option, Some, None, slice_get, if◌then◌else◌, refl}
use Rattle.std.proofs.Common.{ap, sym, ◌∙◌, subst, inl, inr, arith, length-append, append_assoc, append-nil}
use Rattle.std.proofs.lemmas.List.{length-map}
use Rattle.std.proofs.lemmas.Option.{same_Some}
use Rattle.std.specs.List.{AllByRecursion}
use Rattle.std.specs.Option.{option_map_or}
use Rattle.std.specs.Ordering.{int_eq}
use Rattle.mm_num.specs.Option.{◌>>=◌}
use Rattle.mm_num.proofs.OptionLaws.{bind_some}
use Rattle.mm_num.proofs.TestLaws.{is_below, below_test}
use Rattle.std.proofs.lemmas.Bool.{and_parts}
use Rattle.mm_poly.specs.declared.term.Term.{Term}
use Rattle.mm_poly.specs.Poly.{constant_of}
use Rattle.mm_poly.proofs.CaseLaws.{by_if}
use Rattle.cert_kit.specs.declared.row.PRow.{PRow}
use Rattle.cert_kit.specs.declared.cert.Psatz.{Psatz}
use Rattle.cert_kit.specs.declared.cert.Psatz.TheVariants.{Hyp, Square, MulPoly, Mul, Add, Const}
use Rattle.cert_kit.specs.declared.cert.Step.{Step}
use Rattle.cert_kit.specs.declared.cert.Step.TheVariants.{Rat, Cut}
use Rattle.cert_kit.specs.Row.{is_false}
use Rattle.cert_kit.specs.Cut.{cut_of}
use Rattle.cert_kit.specs.Meaning.{meaning, measure, Measure, measure_of, own_bounds, no_bounds, product_bounds, sum_bounds, multiple_row, product_row, sum_row}
use Rattle.cert_kit.specs.Acceptance.{with_row, step_row, step_within, rows_after, steps_within, ends_false}
use Rattle.cert_kit.proofs.FormLaws.{hyp_means, square_means, mulp_means, mul_means, add_means, const_means, hyp_measures, square_measures, mulp_measures, mul_measures, add_measures, const_measures}
use Rattle.cert_kit.proofs.NumberingLaws.{appended}
use Rattle.cert_kit.proofs.MakerLaws.{ends_with}
use Rattle.fm_elim.specs.declared.source.Source.{Source}
use Rattle.fm_elim.specs.declared.source.Combination.{Combination}
use Rattle.fm_elim.specs.declared.source.Combination.TheVariants.{Given, Sum, Pair, Half, OtherHalf}
use Rattle.fm_elim.specs.declared.log.Log.{Log}
use Rattle.fm_elim.specs.declared.pruned.Pruned.{Pruned}
use Rattle.fm_elim.specs.machine.Logging.{times_row, times_equality, expression, step_of, steps_of, made_row, rows_made, all_rows, IsSized, HasSizes, AreSound, IsSound, Derives, Contradict}
use Rattle.fm_elim.specs.machine.Pruning.{new_number, renumbered, IsBoth, IsPruning, IsMade}
use Rattle.fm_elim.proofs.LoggingLaws.{get_front, get_last, longer, made_none, count_rows}

-- the same row and the same bounds
pub record IsSame (d e : Psatz) (out all : List PRow) : Type 0 where
  pub means : meaning d out ≡ meaning e all
  pub measures : measure d out ≡ measure e all

same_hyp : (out all : List PRow) (m n : ℕ) → slice_get out m ≡ slice_get all n → IsSame (Hyp m) (Hyp n) out all
same_hyp out all m n h = record {
  means = hyp_means m out ∙ h ∙ sym (hyp_means n all);
  measures = hyp_measures m out ∙ ap (λ (o : Option PRow). measure_of (option_map_or (λ (r : PRow). own_bounds r.poly) o no_bounds) true) h ∙ sym (hyp_measures n all);
}

same_square : (out all : List PRow) (p : List Term) → IsSame (Square p) (Square p) out all
same_square out all p = record { means = square_means p out ∙ sym (square_means p all); measures = square_measures p out ∙ sym (square_measures p all) }

same_const : (out all : List PRow) (a : ℤ) → IsSame (Const a) (Const a) out all
same_const out all a = record { means = const_means a out ∙ sym (const_means a all); measures = const_measures a out ∙ sym (const_measures a all) }

same_mulp : (out all : List PRow) (p : List Term) (d e : Psatz) → IsSame d e out all → IsSame (MulPoly p d) (MulPoly p e) out all
same_mulp out all p d e h = record {
  means = mulp_means p d out ∙ ap (λ (o : Option PRow). o >>= λ r. multiple_row p r.op r.poly) h.means ∙ sym (mulp_means p e all);
  measures = mulp_measures p d out ∙ ap (λ (m : Measure). measure_of (product_bounds (own_bounds p) m.bounds) m.within) h.measures ∙ sym (mulp_measures p e all);
}

same_mul : (out all : List PRow) (d e f g : Psatz) → IsSame d e out all → IsSame f g out all → IsSame (Mul d f) (Mul e g) out all
same_mul out all d e f g h k = record {
  means = mul_means d f out ∙ ap (λ (o : Option PRow). o >>= λ r. meaning f out >>= λ s. Some (product_row r s)) h.means
      ∙ ap (λ (q : Option PRow). meaning e all >>= λ r. q >>= λ s. Some (product_row r s)) k.means ∙ sym (mul_means e g all);
  measures = mul_measures d f out ∙ ap (λ (m : Measure). measure_of (product_bounds m.bounds (measure f out).bounds) (m.within && (measure f out).within)) h.measures
      ∙ ap (λ (m : Measure). measure_of (product_bounds (measure e all).bounds m.bounds) ((measure e all).within && m.within)) k.measures ∙ sym (mul_measures e g all);
}

same_add : (out all : List PRow) (d e f g : Psatz) → IsSame d e out all → IsSame f g out all → IsSame (Add d f) (Add e g) out all
same_add out all d e f g h k = record {
  means = add_means d f out ∙ ap (λ (o : Option PRow). o >>= λ r. meaning f out >>= λ s. Some (sum_row r s)) h.means
      ∙ ap (λ (q : Option PRow). meaning e all >>= λ r. q >>= λ s. Some (sum_row r s)) k.means ∙ sym (add_means e g all);
  measures = add_measures d f out ∙ ap (λ (m : Measure). measure_of (sum_bounds m.bounds (measure f out).bounds) (m.within && (measure f out).within)) h.measures
      ∙ ap (λ (m : Measure). measure_of (sum_bounds (measure e all).bounds m.bounds) ((measure e all).within && m.within)) k.measures ∙ sym (add_measures e g all);
}

by_test : (b : Bool) (P : Psatz → Psatz → Type 0) (w x y z : Psatz) → P w y → P x z → P (if b then w else x) (if b then y else z)
by_test true P w x y z h k = h
by_test false P w x y z h k = k

same_times : (out all : List PRow) (a : ℤ) (m n : ℕ) → slice_get out m ≡ slice_get all n → IsSame (times_row a m) (times_row a n) out all
same_times out all a m n h =
    by_test (int_eq a (pos 1)) (λ d e. IsSame d e out all) (Hyp m) (Mul (Const a) (Hyp m)) (Hyp n) (Mul (Const a) (Hyp n)) (same_hyp out all m n h)
    (same_mul out all (Const a) (Const a) (Hyp m) (Hyp n) (same_const out all a) (same_hyp out all m n h))

same_equality : (out all : List PRow) (k : ℤ) (m n : ℕ) → slice_get out m ≡ slice_get all n → IsSame (times_equality k m) (times_equality k n) out all
same_equality out all k m n h =
    by_test (int_eq k (pos 1)) (λ d e. IsSame d e out all) (Hyp m) (MulPoly (constant_of k) (Hyp m)) (Hyp n) (MulPoly (constant_of k) (Hyp n)) (same_hyp out all m n h)
    (same_mulp out all (constant_of k) (Hyp m) (Hyp n) (same_hyp out all m n h))

-- each row that has a new number stands there
abbrev Stand : List PRow → List PRow → (ℕ → Option ℕ) → Type 0
Stand all out f = (n m : ℕ) → f n ≡ Some m → IsBoth all out n m

moved : (all out : List PRow) (n m : ℕ) → IsBoth all out n m → slice_get out m ≡ slice_get all n
moved all out n m b = b.after ∙ sym b.before

pub record IsRenumbered (s t : Combination) (out all : List PRow) : Type 0 where
  pub same : IsSame (expression t) (expression s) out all
  pub sized : IsSized s → IsSized t

renumbers : (all out : List PRow) (f : ℕ → Option ℕ) (s t : Combination) → Stand all out f → renumbered f s ≡ Some t → IsRenumbered s t out all
renumbers all out f (Given n) t w e =
    let a = bind_some (f n) (λ m. Some (Given m)) t e in
    subst (λ q. IsRenumbered (Given n) q out all) (same_Some (Given a.0) t a.2)
    (record { same = same_hyp out all a.0 n (moved all out n a.0 (w n a.0 a.1)); sized = λ z. z })
renumbers all out f (Sum n k p) t w e =
    let a = bind_some (f n) (λ m. f p >>= λ q. Some (Sum m k q)) t e in
    let b = bind_some (f p) (λ q. Some (Sum a.0 k q)) t a.2 in
    subst (λ q. IsRenumbered (Sum n k p) q out all) (same_Some (Sum a.0 k b.0) t b.2) (record {
      same = same_add out all (Hyp a.0) (Hyp n) (times_equality k b.0) (times_equality k p) (same_hyp out all a.0 n (moved all out n a.0 (w n a.0 a.1)))
          (same_equality out all k b.0 p (moved all out p b.0 (w p b.0 b.1)));
      sized = λ z. z;
    })
renumbers all out f (Pair x l y h) t w e =
    let a = bind_some (f l) (λ m. f h >>= λ q. Some (Pair x m y q)) t e in
    let b = bind_some (f h) (λ q. Some (Pair x a.0 y q)) t a.2 in
    subst (λ q. IsRenumbered (Pair x l y h) q out all) (same_Some (Pair x a.0 y b.0) t b.2) (record {
      same = same_add out all (times_row x a.0) (times_row x l) (times_row y b.0) (times_row y h) (same_times out all x a.0 l (moved all out l a.0 (w l a.0 a.1)))
          (same_times out all y b.0 h (moved all out h b.0 (w h b.0 b.1)));
      sized = λ z. z;
    })
renumbers all out f (Half n) t w e =
    let a = bind_some (f n) (λ m. Some (Half m)) t e in
    subst (λ q. IsRenumbered (Half n) q out all) (same_Some (Half a.0) t a.2) (record {
      same = same_add out all (Hyp a.0) (Hyp n) (Square []) (Square []) (same_hyp out all a.0 n (moved all out n a.0 (w n a.0 a.1))) (same_square out all []);
      sized = λ z. z;
    })
renumbers all out f (OtherHalf n) t w e =
    let a = bind_some (f n) (λ m. Some (OtherHalf m)) t e in
    subst (λ q. IsRenumbered (OtherHalf n) q out all) (same_Some (OtherHalf a.0) t a.2) (record {
      same = same_add out all (MulPoly (constant_of (negsuc 0)) (Hyp a.0)) (MulPoly (constant_of (negsuc 0)) (Hyp n)) (Square []) (Square [])
          (same_mulp out all (constant_of (negsuc 0)) (Hyp a.0) (Hyp n) (same_hyp out all a.0 n (moved all out n a.0 (w n a.0 a.1)))) (same_square out all []);
      sized = λ z. z;
    })

pub renumbered_derives : (all out : List PRow) (f : ℕ → Option ℕ) (s t : Combination) (r : PRow) → Stand all out f → renumbered f s ≡ Some t → Derives all s r → Derives out t r
renumbered_derives all out f s t r w e d =
    let n = renumbers all out f s t w e in
    record { means = n.same.means ∙ d.means; within = ap (λ (m : Measure). m.within) n.same.measures ∙ d.within; sized = n.sized d.sized }

-- each source of a sound log makes its row

row_is : (o : Option PRow) → (o >>= λ r. Some r) ≡ o
row_is None = refl
row_is (Some r) = refl

step_makes : (s : Source) (given : List PRow) → step_row (step_of s) given ≡ (meaning (expression s.combination) given >>= λ r. Some (made_row s r))
step_makes s given = by_kind s.is_cut
  where
    by_kind : (b : Bool) → step_row (if b then Cut (expression s.combination) else Rat (expression s.combination)) given ≡ (meaning (expression s.combination) given >>= λ r. Some (if b then cut_of r else r))
    by_kind true = refl
    by_kind false = sym (row_is (meaning (expression s.combination) given))

step_bounds : (s : Source) (given : List PRow) → step_within (step_of s) given ≡ (measure (expression s.combination) given).within
step_bounds s given = by_if s.is_cut (Cut (expression s.combination)) (Rat (expression s.combination)) (λ t. step_within t given ≡ (measure (expression s.combination) given).within) (λ e. refl) (λ e. refl)

pub step_parts : (s : Source) (given rows : List PRow) (steps : List Step) → rows_after (step_of s ∷ steps) given ≡ Some rows → steps_within (step_of s ∷ steps) given ≡ true
    → (r : PRow) × (meaning (expression s.combination) given ≡ Some r) × ((measure (expression s.combination) given).within ≡ true) × (rows_after steps (with_row given (made_row s r)) ≡ Some rows)
    × (steps_within steps (with_row given (made_row s r)) ≡ true)
step_parts s given rows steps e w =
    let b = bind_some (step_row (step_of s) given) (λ q. rows_after steps (with_row given q)) rows e in
    let c = bind_some (meaning (expression s.combination) given) (λ q. Some (made_row s q)) b.0 (sym (step_makes s given) ∙ b.1) in
    let same : made_row s c.0 ≡ b.0 = same_Some (made_row s c.0) b.0 c.2 in
    let p = and_parts (step_within (step_of s) given) (option_map_or (λ (q : PRow). steps_within steps (with_row given q)) (step_row (step_of s) given) true) w in
    let later = subst (λ (o : Option PRow). option_map_or (λ (q : PRow). steps_within steps (with_row given q)) o true ≡ true) b.1 p.1 in (
      c.0,
      c.1,
      sym (step_bounds s given) ∙ p.0,
      subst (λ (q : PRow). rows_after steps (with_row given q) ≡ Some rows) (sym same) b.2,
      subst (λ (q : PRow). steps_within steps (with_row given q) ≡ true) (sym same) later,
    )

-- the given rows stand first
front_of : (steps : List Step) (given rows : List PRow) → rows_after steps given ≡ Some rows → (more : List PRow) × (rows ≡ given ++ more)
front_of [] given rows e = ([], sym (same_Some given rows e) ∙ sym (append-nil given))
front_of (s ∷ steps) given rows e =
    let b = bind_some (step_row s given) (λ q. rows_after steps (with_row given q)) rows e in
    let f = front_of steps (with_row given b.0) rows b.2 in
    (b.0 ∷ f.0, f.1 ∙ append_assoc given (b.0 ∷ []) f.0)

pub record IsMadeOf (all : List PRow) (s : Source) (n : ℕ) : Type 0 where
  pub row : PRow
  pub derives : Derives all s.combination row
  pub here : slice_get all n ≡ Some (made_row s row)

made_at : (sources : List Source) (given rows : List PRow) (k : ℕ) (s : Source) → rows_after (steps_of sources) given ≡ Some rows → steps_within (steps_of sources) given ≡ true
    → AllByRecursion HasSizes sources → slice_get sources k ≡ Some s → IsMadeOf rows s (length given + k)
made_at [] given rows k s e w a h = absurd cc
made_at (t ∷ sources) given rows zero s e w a h =
    let p = step_parts t given rows (steps_of sources) e w in
    let f = front_of (steps_of sources) (with_row given (made_row t p.0)) rows p.3 in
    let g = front_of (step_of t ∷ steps_of sources) given rows e in
    let m = appended (expression t.combination) given g.0 p.0 p.1 in
    let more : slice_get (with_row given (made_row t p.0) ++ f.0) (length given) ≡ Some (made_row t p.0) = get_front (with_row given (made_row t p.0)) f.0 (length given) (made_row t p.0) (get_last given (made_row t p.0)) in
    let none : length given ≡ length given + 0 = omega arith in
    subst (λ q. IsMadeOf rows q (length given + 0)) (same_Some t s h) (record {
      row = p.0;
      derives = record {
        means = subst (λ (q : List PRow). meaning (expression t.combination) q ≡ Some p.0) (sym g.1) m.0;
        within = subst (λ (q : List PRow). (measure (expression t.combination) q).within ≡ true) (sym g.1) (ap (λ (x : Measure). x.within) m.1 ∙ p.2);
        sized = a.0;
      };
      here = subst (λ n. slice_get rows n ≡ Some (made_row t p.0)) none (subst (λ (q : List PRow). slice_get q (length given) ≡ Some (made_row t p.0)) (sym f.1) more);
    })
made_at (t ∷ sources) given rows (suc k) s e w a h =
    let p = step_parts t given rows (steps_of sources) e w in
    let m = made_at sources (with_row given (made_row t p.0)) rows k s p.3 p.4 a.1 h in
    let l = length-append given (made_row t p.0 ∷ []) in
    let count : length (with_row given (made_row t p.0)) + k ≡ length given + suc k = omega (arith, l) in
    subst (λ n. IsMadeOf rows s n) count m

pub log_made : (log : Log) (k : ℕ) (s : Source) → IsSound log → slice_get log.sources.items k ≡ Some s → IsMade log s k
log_made log k s m h =
    let r = made_at log.sources.items log.given.now (all_rows log) k s m.makes.made m.makes.within m.sized h in
    record { row = r.row; derives = r.derives; here = r.here }

-- numbers

pub there_or_last : {A : Type 0} (xs : List A) (x y : A) (n : ℕ) → slice_get (xs ++ x ∷ []) n ≡ Some y → (slice_get xs n ≡ Some y) ⊎ ((n ≡ length xs) × (x ≡ y))
there_or_last [] x y zero e = inr (refl, same_Some x y e)
there_or_last [] x y (suc n) e = absurd cc
there_or_last (a ∷ xs) x y zero e = inl e
there_or_last (a ∷ xs) x y (suc n) e = elim (there_or_last xs x y n e) as (λ _. (slice_get xs n ≡ Some y) ⊎ ((suc n ≡ length (a ∷ xs)) × (x ≡ y))) [
  | inl h ↦ inl h
  | inr h ↦ inr (ap (λ k. suc k) h.0, h.1)
]

place_is : (o : Option (Option ℕ)) (m : ℕ) → option_map_or (λ (p : Option ℕ). p) o None ≡ Some m → o ≡ Some (Some m)
place_is None m e = absurd cc
place_is (Some p) m e = ap (λ (q : Option ℕ). Some q) e

-- a new number is a given row's own, or the one at its place
number_cases : (g : ℕ) (places : List (Option ℕ)) (n m : ℕ) → new_number g places n ≡ Some m → ((n < g) × (n ≡ m)) ⊎ ((g ≤ n) × (slice_get places (n - g) ≡ Some (Some m)))
number_cases g places n m = by_if (nat_lt n g) (Some n) (option_map_or (λ (o : Option ℕ). o) (slice_get places (n - g)) None)
    (λ o. o ≡ Some m → ((n < g) × (n ≡ m)) ⊎ ((g ≤ n) × (slice_get places (n - g) ≡ Some (Some m))))
    (λ b e. inl (is_below n g b, same_Some n m e)) (λ b e. inr (past n g b, place_is (slice_get places (n - g)) m e))
  where
    past : (n g : ℕ) → nat_lt n g ≡ false → g ≤ n
    past n g e = grind arith

pub number_there : (g : ℕ) (places : List (Option ℕ)) (n m : ℕ) → g ≤ n → slice_get places (n - g) ≡ Some (Some m) → new_number g places n ≡ Some m
number_there g places n m h e = by_if (nat_lt n g) (Some n) (option_map_or (λ (o : Option ℕ). o) (slice_get places (n - g)) None) (λ o. o ≡ Some m)
    (λ b. absurd (let k = is_below n g b in omega arith)) (λ b. ap (λ (o : Option (Option ℕ)). option_map_or (λ (p : Option ℕ). p) o None) e)

pub number_given : (g : ℕ) (places : List (Option ℕ)) (n : ℕ) → n < g → new_number g places n ≡ Some n
number_given g places n h = by_if (nat_lt n g) (Some n) (option_map_or (λ (o : Option ℕ). o) (slice_get places (n - g)) None) (λ o. o ≡ Some n)
    (λ b. refl) (λ b. absurd (let k = below_test n g h in cc))

-- pruning

both_longer : (all out : List PRow) (r : PRow) (n m : ℕ) → IsBoth all out n m → IsBoth all (with_row out r) n m
both_longer all out r n m b = record { row = b.row; before = b.before; after = get_front out (r ∷ []) m b.row b.after }

pub begun : (log : Log) (p : Pruned) → IsSound log → p.sources.items ≡ [] → p.places.items ≡ [] → IsPruning log p
begun log p m e f =
    let given = log.given.now in
    let g = front_of (steps_of log.sources.items) given (all_rows log) m.makes.made in
    record {
      sound = subst (AreSound given) (sym e) (made_none given);
      kept = λ n k h. subst (λ (q : List Source). IsBoth (all_rows log) (rows_made given q) n k) (sym e)
          (first given (all_rows log) g.0 g.1 n k (number_cases (length given) p.places.items n k h) f);
    }
  where
    there : (given : List PRow) (n : ℕ) → n < length given → (r : PRow) × (slice_get given n ≡ Some r)
    there [] n h = absurd (omega arith)
    there (r ∷ given) zero h = (r, refl)
    there (r ∷ given) (suc n) h = there given n (omega arith)

    first : (given all more : List PRow) → all ≡ given ++ more → (n k : ℕ) → ((n < length given) × (n ≡ k)) ⊎ ((length given ≤ n) × (slice_get p.places.items (n - length given) ≡ Some (Some k)))
        → p.places.items ≡ [] → IsBoth all given n k
    first given all more e n k (inl h) f =
        let t = there given n h.0 in
        record {
          row = t.0;
          before = subst (λ (q : List PRow). slice_get q n ≡ Some t.0) (sym e) (get_front given more n t.0 t.1);
          after = subst (λ j. slice_get given j ≡ Some t.0) h.1 t.1;
        }
    first given all more e n k (inr h) f = absurd (let q = subst (λ (ps : List (Option ℕ)). slice_get ps (n - length given) ≡ Some (Some k)) f h.1 in cc)

-- a row that is kept
pub kept_one : (log : Log) (p q : Pruned) (s : Source) (t : Combination) (number : ℕ) → IsPruning log p → IsMade log s (length p.places.items)
    → renumbered (new_number (length log.given.now) p.places.items) s.combination ≡ Some t → number ≡ length log.given.now + length p.sources.items
    → q.sources.items ≡ p.sources.items ++ record { combination = t; is_cut = s.is_cut } ∷ [] → q.places.items ≡ p.places.items ++ Some number ∷ [] → IsPruning log q
kept_one log p q s t number h w r c e f =
    let u : Source = record { combination = t; is_cut = s.is_cut } in
    let given = log.given.now in
    let out = rows_made given p.sources.items in
    let d = renumbered_derives (all_rows log) out (new_number (length given) p.places.items) s.combination t w.row h.kept r w.derives in
    let l = longer given p.sources.items q.sources.items u w.row h.sound d e in
    let count : length out ≡ length given + length p.sources.items =
    count_rows (steps_of p.sources.items) given out h.sound.makes.made ∙ ap (λ k. length given + k) (length-map p.sources.items step_of) in
    record {
      sound = l.sound;
      kept = λ n m k. subst (λ (rows : List PRow). IsBoth (all_rows log) rows n m) (sym l.rows)
          (now (all_rows log) out (length given) n m (count ∙ sym c) w.here (number_cases (length given) q.places.items n m k) (λ j i. h.kept n j i));
    }
  where
    now : (all out : List PRow) (g n m : ℕ) → length out ≡ number → slice_get all (g + length p.places.items) ≡ Some (made_row s w.row)
        → ((n < g) × (n ≡ m)) ⊎ ((g ≤ n) × (slice_get q.places.items (n - g) ≡ Some (Some m))) → ((j : ℕ) → new_number g p.places.items n ≡ Some j → IsBoth all out n j)
        → IsBoth all (with_row out (made_row s w.row)) n m
    now all out g n m count here (inl c) k =
        both_longer all out (made_row s w.row) n m (k m (subst (λ j. new_number g p.places.items n ≡ Some j) c.1 (number_given g p.places.items n c.0)))
    now all out g n m count here (inr c) k =
        elim (there_or_last p.places.items (Some number) (Some m) (n - g) (subst (λ (ps : List (Option ℕ)). slice_get ps (n - g) ≡ Some (Some m)) f c.1))
        as (λ _. IsBoth all (with_row out (made_row s w.row)) n m) [
          | inl t ↦ both_longer all out (made_row s w.row) n m (k m (number_there g p.places.items n m c.0 t))
          | inr t ↦
              let same : number ≡ m = same_Some number m t.1 in
              let at : g + length p.places.items ≡ n = (let i = t.0 in let j = c.0 in omega arith) in
              record {
                row = made_row s w.row;
                before = subst (λ j. slice_get all j ≡ Some (made_row s w.row)) at here;
                after = subst (λ j. slice_get (with_row out (made_row s w.row)) j ≡ Some (made_row s w.row)) (count ∙ same) (get_last out (made_row s w.row));
              }
        ]

-- the last row

last_false : (all : List PRow) (n : ℕ) (r : PRow) → length all ≡ n + 1 → slice_get all n ≡ Some r → ends_false all ≡ true → is_false r ≡ true
last_false all n r c h e =
    let at : length all - 1 ≡ n = omega (arith, c) in
    sym (ap (λ (o : Option PRow). option_map_or is_false o false) (ap (λ k. slice_get all k) at ∙ h)) ∙ e

pub ended_so : (log : Log) (p : Pruned) (s : Source) (t : Combination) (sources : List Source) (k : ℕ) → IsSound log → ends_false (all_rows log) ≡ true → IsPruning log p → IsMade log s k
    → length log.sources.items ≡ k + 1 → renumbered (new_number (length log.given.now) p.places.items) s.combination ≡ Some t → sources ≡ p.sources.items ++ record { combination = t; is_cut = s.is_cut } ∷ [] → Contradict log.given.now sources
ended_so log p s t sources k m f h w c r e =
    let u : Source = record { combination = t; is_cut = s.is_cut } in
    let given = log.given.now in
    let out = rows_made given p.sources.items in
    let d = renumbered_derives (all_rows log) out (new_number (length given) p.places.items) s.combination t w.row h.kept r w.derives in
    let l = longer given p.sources.items sources u w.row h.sound d e in
    let n = count_rows (steps_of log.sources.items) given (all_rows log) m.makes.made ∙ ap (λ j. length given + j) (length-map log.sources.items step_of ∙ c) in
    let count : length (all_rows log) ≡ (length given + k) + 1 = omega (arith, n) in
    record {
      sound = l.sound;
      ends = ap (λ (q : List PRow). ends_false q) l.rows ∙ ends_with out (made_row s w.row) ∙ last_false (all_rows log) (length given + k) (made_row s w.row) count w.here f;
    }
