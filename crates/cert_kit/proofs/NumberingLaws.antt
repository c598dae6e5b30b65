-- Expressions over rows with other numbers, and over more rows.
use Rattle.std.specs.Prelude.{◌≡◌, ℕ, zero, suc, ℤ, List, [], ◌∷◌, ◌++◌, true, ◌&&◌, refl, Some, slice_get}
use Rattle.std.proofs.Common.{ap, sym, ◌∙◌, subst}
use Rattle.std.specs.List.{AllByRecursion}
use Rattle.std.specs.Option.{option_map_or}
use Rattle.mm_num.specs.Option.{◌>>=◌}
use Rattle.mm_num.proofs.OptionLaws.{bind_some}
use Rattle.mm_poly.specs.declared.term.Term.{Term}
use Rattle.cert_kit.specs.declared.row.PRow.{PRow}
use Rattle.cert_kit.specs.declared.cert.Psatz.{Psatz}
use Rattle.cert_kit.specs.declared.cert.Psatz.TheOpen.{Psatz-F}
use Rattle.cert_kit.specs.declared.cert.Psatz.TheViews.{roll-Psatz}
use Rattle.cert_kit.specs.declared.cert.Psatz.TheVariants.{Hyp, Square, MulPoly, Mul, Add, Const, Zero, rolls-Hyp, rolls-Square, rolls-MulPoly, rolls-Mul, rolls-Add, rolls-Const, rolls-Zero}
use Rattle.cert_kit.specs.declared.cert.Psatz.TheFolds.{map-Psatz, ind-Psatz}
use Rattle.cert_kit.specs.Meaning.{meaning, measure, measure_of, own_bounds, no_bounds, product_bounds, sum_bounds, multiple_row, product_row, sum_row}
use Rattle.cert_kit.specs.Making.{numbers_step, numbers_of, renumbered_step, renumbered}
use Rattle.cert_kit.proofs.FormLaws.{folds, hyp_means, square_means, mulp_means, mul_means, add_means, const_means, zero_means, hyp_measures, square_measures, mulp_measures, mul_measures, add_measures, const_measures, zero_measures}

-- the same row and the same bounds under the numbers of f
abbrev pub IsSameUnder : (List PRow) → (List PRow) → (ℕ → ℕ) → Psatz → Type 0
IsSameUnder rows out f e = (meaning (renumbered f e) out ≡ meaning e rows) × (measure (renumbered f e) out ≡ measure e rows)

-- each row that the expression names has the number that f gives it
abbrev pub Renumbers : (List PRow) → (List PRow) → (ℕ → ℕ) → Psatz → Type 0
Renumbers rows out f e = AllByRecursion (λ n. slice_get out (f n) ≡ slice_get rows n) (numbers_of e)

abbrev Keeps : Psatz → Type 0
Keeps e = (rows out : List PRow) (f : ℕ → ℕ) → Renumbers rows out f e → IsSameUnder rows out f e

pub both_parts : (P : ℕ → Type 0) (ms ns : List ℕ) → AllByRecursion P (ms ++ ns) → AllByRecursion P ms × AllByRecursion P ns
both_parts P [] ns h = (tt, h)
both_parts P (m ∷ ms) ns h = let p = both_parts P ms ns h.1 in ((h.0, p.0), p.1)

numbers : (d : Psatz-F Psatz) (e : Psatz) → roll-Psatz d ≡ e → numbers_of e ≡ numbers_step (map-Psatz Psatz (List ℕ) numbers_of d)
numbers d e p = folds (List ℕ) numbers_step d e p

renames : (f : ℕ → ℕ) (d : Psatz-F Psatz) (e : Psatz) → roll-Psatz d ≡ e → renumbered f e ≡ renumbered_step f (map-Psatz Psatz Psatz (renumbered f) d)
renames f d e p = folds Psatz (renumbered_step f) d e p

hyp_keeps : (n : ℕ) → Keeps (Hyp n)
hyp_keeps n rows out f h =
    let named = subst (AllByRecursion (λ k. slice_get out (f k) ≡ slice_get rows k)) (numbers (Psatz-F.Hyp n) (Hyp n) (rolls-Hyp n)) h in
    let r = renames f (Psatz-F.Hyp n) (Hyp n) (rolls-Hyp n) in (
      ap (λ e. meaning e out) r ∙ hyp_means (f n) out ∙ named.0 ∙ sym (hyp_means n rows),
      ap (λ e. measure e out) r ∙ hyp_measures (f n) out ∙ ap (λ o. measure_of (option_map_or (λ (q : PRow). own_bounds q.poly) o no_bounds) true) named.0 ∙ sym (hyp_measures n rows),
    )

square_keeps : (p : List Term) → Keeps (Square p)
square_keeps p rows out f h =
    let r = renames f (Psatz-F.Square p) (Square p) (rolls-Square p) in
    (ap (λ e. meaning e out) r ∙ square_means p out ∙ sym (square_means p rows), ap (λ e. measure e out) r ∙ square_measures p out ∙ sym (square_measures p rows))

const_keeps : (c : ℤ) → Keeps (Const c)
const_keeps c rows out f h =
    let r = renames f (Psatz-F.Const c) (Const c) (rolls-Const c) in
    (ap (λ e. meaning e out) r ∙ const_means c out ∙ sym (const_means c rows), ap (λ e. measure e out) r ∙ const_measures c out ∙ sym (const_measures c rows))

zero_keeps : Keeps Zero
zero_keeps rows out f h =
    let r = renames f Psatz-F.Zero Zero rolls-Zero in
    (ap (λ e. meaning e out) r ∙ zero_means out ∙ sym (zero_means rows), ap (λ e. measure e out) r ∙ zero_measures out ∙ sym (zero_measures rows))

mulp_keeps : (p : List Term) (e : Psatz) → Keeps e → Keeps (MulPoly p e)
mulp_keeps p e k rows out f h =
    let a = k rows out f (subst (AllByRecursion (λ n. slice_get out (f n) ≡ slice_get rows n)) (numbers (Psatz-F.MulPoly p e) (MulPoly p e) (rolls-MulPoly p e)) h) in
    let r = renames f (Psatz-F.MulPoly p e) (MulPoly p e) (rolls-MulPoly p e) in (
      ap (λ d. meaning d out) r ∙ mulp_means p (renumbered f e) out ∙ ap (λ o. o >>= λ q. multiple_row p q.op q.poly) a.0 ∙ sym (mulp_means p e rows),
      ap (λ d. measure d out) r ∙ mulp_measures p (renumbered f e) out ∙ ap (λ m. measure_of (product_bounds (own_bounds p) m.bounds) m.within) a.1 ∙ sym (mulp_measures p e rows),
    )

mul_keeps : (d e : Psatz) → Keeps d → Keeps e → Keeps (Mul d e)
mul_keeps d e j k rows out f h =
    let s = both_parts (λ n. slice_get out (f n) ≡ slice_get rows n) (numbers_of d) (numbers_of e)
    (subst (AllByRecursion (λ n. slice_get out (f n) ≡ slice_get rows n)) (numbers (Psatz-F.Mul d e) (Mul d e) (rolls-Mul d e)) h) in
    let a = j rows out f s.0 in
    let b = k rows out f s.1 in
    let r = renames f (Psatz-F.Mul d e) (Mul d e) (rolls-Mul d e) in (
      ap (λ c. meaning c out) r ∙ mul_means (renumbered f d) (renumbered f e) out ∙ ap (λ o. o >>= λ q. meaning (renumbered f e) out >>= λ t. Some (product_row q t)) a.0
          ∙ ap (λ o. meaning d rows >>= λ q. o >>= λ t. Some (product_row q t)) b.0 ∙ sym (mul_means d e rows),
      ap (λ c. measure c out) r ∙ mul_measures (renumbered f d) (renumbered f e) out
          ∙ ap (λ m. measure_of (product_bounds m.bounds (measure (renumbered f e) out).bounds) (m.within && (measure (renumbered f e) out).within)) a.1
          ∙ ap (λ m. measure_of (product_bounds (measure d rows).bounds m.bounds) ((measure d rows).within && m.within)) b.1 ∙ sym (mul_measures d e rows),
    )

add_keeps : (d e : Psatz) → Keeps d → Keeps e → Keeps (Add d e)
add_keeps d e j k rows out f h =
    let s = both_parts (λ n. slice_get out (f n) ≡ slice_get rows n) (numbers_of d) (numbers_of e)
    (subst (AllByRecursion (λ n. slice_get out (f n) ≡ slice_get rows n)) (numbers (Psatz-F.Add d e) (Add d e) (rolls-Add d e)) h) in
    let a = j rows out f s.0 in
    let b = k rows out f s.1 in
    let r = renames f (Psatz-F.Add d e) (Add d e) (rolls-Add d e) in (
      ap (λ c. meaning c out) r ∙ add_means (renumbered f d) (renumbered f e) out ∙ ap (λ o. o >>= λ q. meaning (renumbered f e) out >>= λ t. Some (sum_row q t)) a.0
          ∙ ap (λ o. meaning d rows >>= λ q. o >>= λ t. Some (sum_row q t)) b.0 ∙ sym (add_means d e rows),
      ap (λ c. measure c out) r ∙ add_measures (renumbered f d) (renumbered f e) out
          ∙ ap (λ m. measure_of (sum_bounds m.bounds (measure (renumbered f e) out).bounds) (m.within && (measure (renumbered f e) out).within)) a.1
          ∙ ap (λ m. measure_of (sum_bounds (measure d rows).bounds m.bounds) ((measure d rows).within && m.within)) b.1 ∙ sym (add_measures d e rows),
    )

keeps_level : (y : Psatz-F ((e : Psatz) × Keeps e)) → Keeps (roll-Psatz (map-Psatz ((e : Psatz) × Keeps e) Psatz (λ p. p.0) y))
keeps_level (Psatz-F.Hyp n) = subst Keeps (sym (rolls-Hyp n)) (hyp_keeps n)
keeps_level (Psatz-F.Square p) = subst Keeps (sym (rolls-Square p)) (square_keeps p)
keeps_level (Psatz-F.MulPoly p a) = subst Keeps (sym (rolls-MulPoly p a.0)) (mulp_keeps p a.0 a.1)
keeps_level (Psatz-F.Mul a b) = subst Keeps (sym (rolls-Mul a.0 b.0)) (mul_keeps a.0 b.0 a.1 b.1)
keeps_level (Psatz-F.Add a b) = subst Keeps (sym (rolls-Add a.0 b.0)) (add_keeps a.0 b.0 a.1 b.1)
keeps_level (Psatz-F.Const c) = subst Keeps (sym (rolls-Const c)) (const_keeps c)
keeps_level Psatz-F.Zero = subst Keeps (sym rolls-Zero) zero_keeps

-- an expression with other numbers for the same rows is the same row, within the same bounds
pub renumbered_same : (e : Psatz) → Keeps e
renumbered_same = ind-Psatz Keeps (λ d y q. subst (λ (z : Psatz-F Psatz). Keeps (roll-Psatz z)) q (keeps_level y))

-- the numbers as they are

abbrev IsItself : Psatz → Type 0
IsItself e = renumbered (λ n. n) e ≡ e

itself_level : (y : Psatz-F ((e : Psatz) × IsItself e)) → IsItself (roll-Psatz (map-Psatz ((e : Psatz) × IsItself e) Psatz (λ p. p.0) y))
itself_level (Psatz-F.Hyp n) = renames (λ k. k) (Psatz-F.Hyp n) (roll-Psatz (Psatz-F.Hyp n)) refl ∙ sym (rolls-Hyp n)
itself_level (Psatz-F.Square p) = renames (λ k. k) (Psatz-F.Square p) (roll-Psatz (Psatz-F.Square p)) refl ∙ sym (rolls-Square p)
itself_level (Psatz-F.MulPoly p a) = renames (λ k. k) (Psatz-F.MulPoly p a.0) (roll-Psatz (Psatz-F.MulPoly p a.0)) refl ∙ ap (MulPoly p) a.1 ∙ sym (rolls-MulPoly p a.0)
itself_level (Psatz-F.Mul a b) = renames (λ k. k) (Psatz-F.Mul a.0 b.0) (roll-Psatz (Psatz-F.Mul a.0 b.0)) refl
    ∙ ap (λ e. Mul e (renumbered (λ k. k) b.0)) a.1 ∙ ap (Mul a.0) b.1 ∙ sym (rolls-Mul a.0 b.0)
itself_level (Psatz-F.Add a b) = renames (λ k. k) (Psatz-F.Add a.0 b.0) (roll-Psatz (Psatz-F.Add a.0 b.0)) refl
    ∙ ap (λ e. Add e (renumbered (λ k. k) b.0)) a.1 ∙ ap (Add a.0) b.1 ∙ sym (rolls-Add a.0 b.0)
itself_level (Psatz-F.Const c) = renames (λ k. k) (Psatz-F.Const c) (roll-Psatz (Psatz-F.Const c)) refl ∙ sym (rolls-Const c)
itself_level Psatz-F.Zero = renames (λ k. k) Psatz-F.Zero (roll-Psatz Psatz-F.Zero) refl ∙ sym rolls-Zero

same_numbers : (e : Psatz) → IsItself e
same_numbers = ind-Psatz IsItself (λ d y q. subst (λ (z : Psatz-F Psatz). IsItself (roll-Psatz z)) q (itself_level y))

-- each row that an expression with a meaning names is there

abbrev AreThere : List PRow → List ℕ → Type 0
AreThere rows ns = AllByRecursion (λ n. (r : PRow) × (slice_get rows n ≡ Some r)) ns

abbrev IsKnown : Psatz → Type 0
IsKnown e = (rows : List PRow) (r : PRow) → meaning e rows ≡ Some r → AreThere rows (numbers_of e)

both_there : (rows : List PRow) (ms ns : List ℕ) → AreThere rows ms → AreThere rows ns → AreThere rows (ms ++ ns)
both_there rows [] ns h k = k
both_there rows (m ∷ ms) ns h k = (h.0, both_there rows ms ns h.1 k)

known_level : (y : Psatz-F ((e : Psatz) × IsKnown e)) → IsKnown (roll-Psatz (map-Psatz ((e : Psatz) × IsKnown e) Psatz (λ p. p.0) y))
known_level (Psatz-F.Hyp n) = subst IsKnown (sym (rolls-Hyp n)) (λ rows r h. rw (numbers (Psatz-F.Hyp n) (Hyp n) (rolls-Hyp n)) ((r, sym (hyp_means n rows) ∙ h), tt))
known_level (Psatz-F.Square p) = subst IsKnown (sym (rolls-Square p)) (λ rows r h. rw (numbers (Psatz-F.Square p) (Square p) (rolls-Square p)) tt)
known_level (Psatz-F.MulPoly p a) = subst IsKnown (sym (rolls-MulPoly p a.0)) (λ rows r h.
    let b = bind_some (meaning a.0 rows) (λ q. multiple_row p q.op q.poly) r (sym (mulp_means p a.0 rows) ∙ h) in
    rw (numbers (Psatz-F.MulPoly p a.0) (MulPoly p a.0) (rolls-MulPoly p a.0)) (a.1 rows b.0 b.1))
known_level (Psatz-F.Mul a b) = subst IsKnown (sym (rolls-Mul a.0 b.0)) (λ rows r h.
    let m = bind_some (meaning a.0 rows) (λ q. meaning b.0 rows >>= λ t. Some (product_row q t)) r (sym (mul_means a.0 b.0 rows) ∙ h) in
    let n = bind_some (meaning b.0 rows) (λ t. Some (product_row m.0 t)) r m.2 in
    rw (numbers (Psatz-F.Mul a.0 b.0) (Mul a.0 b.0) (rolls-Mul a.0 b.0)) (both_there rows (numbers_of a.0) (numbers_of b.0) (a.1 rows m.0 m.1) (b.1 rows n.0 n.1)))
known_level (Psatz-F.Add a b) = subst IsKnown (sym (rolls-Add a.0 b.0)) (λ rows r h.
    let m = bind_some (meaning a.0 rows) (λ q. meaning b.0 rows >>= λ t. Some (sum_row q t)) r (sym (add_means a.0 b.0 rows) ∙ h) in
    let n = bind_some (meaning b.0 rows) (λ t. Some (sum_row m.0 t)) r m.2 in
    rw (numbers (Psatz-F.Add a.0 b.0) (Add a.0 b.0) (rolls-Add a.0 b.0)) (both_there rows (numbers_of a.0) (numbers_of b.0) (a.1 rows m.0 m.1) (b.1 rows n.0 n.1)))
known_level (Psatz-F.Const c) = subst IsKnown (sym (rolls-Const c)) (λ rows r h. rw (numbers (Psatz-F.Const c) (Const c) (rolls-Const c)) tt)
known_level Psatz-F.Zero = subst IsKnown (sym rolls-Zero) (λ rows r h. rw (numbers Psatz-F.Zero Zero rolls-Zero) tt)

names_known : (e : Psatz) → IsKnown e
names_known = ind-Psatz IsKnown (λ d y q. subst (λ (z : Psatz-F Psatz). IsKnown (roll-Psatz z)) q (known_level y))

-- more rows behind change no row that is there
still_there : (rows more : List PRow) (n : ℕ) (r : PRow) → slice_get rows n ≡ Some r → slice_get (rows ++ more) n ≡ slice_get rows n
still_there [] more n r e = absurd cc
still_there (q ∷ rows) more zero r e = refl
still_there (q ∷ rows) more (suc n) r e = still_there rows more n r e

all_still : (rows more : List PRow) (ns : List ℕ) → AreThere rows ns → AllByRecursion (λ n. slice_get (rows ++ more) n ≡ slice_get rows n) ns
all_still rows more [] h = tt
all_still rows more (n ∷ ns) h = (still_there rows more n h.0.0 h.0.1, all_still rows more ns h.1)

-- more rows behind keep the meaning of an expression, and its bounds
pub appended : (e : Psatz) (rows more : List PRow) (r : PRow) → meaning e rows ≡ Some r
    → (meaning e (rows ++ more) ≡ Some r) × (measure e (rows ++ more) ≡ measure e rows)
appended e rows more r h =
    let k = renumbered_same e rows (rows ++ more) (λ n. n) (all_still rows more (numbers_of e) (names_known e rows r h)) in
    let s = sym (same_numbers e) in
    (ap (λ d. meaning d (rows ++ more)) s ∙ k.0 ∙ h, ap (λ d. measure d (rows ++ more)) s ∙ k.1)
