-- Where the forms of all bases are narrow, multipliers below 2^30 leave room for a certificate.
use Rattle.std.specs.Prelude.{◌≡◌, ◌⊎◌, ℕ, suc, ◌+◌, ◌*◌, ◌^◌, ◌<◌, ◌≤◌, ℤ, pos, neg_ℤ, unsigned_abs, List, [], ◌∷◌, ◌++◌, length, map, refl}
use Rattle.std.proofs.Common.{ap, sym, ◌∙◌, subst, inl, inr, arith}
use Rattle.std.proofs.lemmas.Int.{ints}
use Rattle.std.proofs.lemmas.List.Elements.{All-nil, All-cons, All-head, All-tail}
use Rattle.std.specs.List.{All, AllByRecursion}
use Rattle.std.specs.declared.cmp.Ordering.TheVariants.{Less, Equal, Greater}
use Rattle.mm_poly.specs.declared.term.Term.{Term}
use Rattle.mm_poly.specs.Mono.{mono_cmp}
use Rattle.mm_poly.specs.Poly.{coeff_of, norm, spread, IsPoly}
use Rattle.mm_poly.proofs.OrderLaws.{mono_exact}
use Rattle.mm_poly.proofs.CaseLaws.{by_cases}
use Rattle.mm_poly.proofs.CoeffLaws.{coeff_after}
use Rattle.mm_poly.proofs.PartLaws.{coeff_found}
use Rattle.cert_kit.specs.declared.row.PRow.{PRow}
use Rattle.fm_elim.specs.Unknowns.{unknowns}
use Rattle.fm_elim.proofs.SolveLaws.{Has, Knows, known_rows}
use Rattle.farkas_rows.specs.Combining.{norms, spreads, HasRoom}
use Rattle.farkas_rows.proofs.CombinedLaws.{AreFit}
use Rattle.simplex_core.specs.declared.row.LinRow.{LinRow}
use Rattle.simplex_core.specs.Rows.{AreWide, unknowns as form_unknowns}
use Rattle.simplex_core.specs.Walk.{AreNarrow, IsNarrow}
use Rattle.simplex_core.specs.machine.Tableau.{negated, mark, first_line, first_lines}
use Rattle.simplex_core.proofs.StartLaws.{first_form}
use Rattle.relaxation.specs.Relaxing.{Mono, IsFormOf, AreFormsOf, AreBasesNarrow}
use Rattle.relaxation.specs.machine.Ending.{IsNarrowForm}

abbrev IsBelow : ℤ → Type 0
IsBelow c = unsigned_abs c < 2 ^ 30

other_sign : (c : ℤ) → IsBelow (neg_ℤ c) → IsBelow c
other_sign c h = grind (arith, ints)

narrow_front : (cs ds : List ℤ) → AreNarrow (negated cs ++ ds) → AreNarrow cs × AreNarrow ds
narrow_front [] ds h = (All-nil IsBelow, h)
narrow_front (c ∷ cs) ds h =
    let r = narrow_front cs ds (All-tail IsBelow (neg_ℤ c) (negated cs ++ ds) h) in
    (All-cons IsBelow c cs (other_sign c (All-head IsBelow (neg_ℤ c) (negated cs ++ ds) h)) r.0, r.1)

narrow_back : (bs : List ℤ) (k : ℤ) → AreNarrow (bs ++ (k ∷ [])) → IsBelow k
narrow_back [] k h = All-head IsBelow k [] h
narrow_back (b ∷ bs) k h = narrow_back bs k (All-tail IsBelow b (bs ++ (k ∷ [])) h)

narrow_form : (n m i : ℕ) (l : LinRow) → AreNarrow (first_line n m i l).1 → IsNarrowForm l
narrow_form n m i l h =
    let r = narrow_front l.coeffs.items (mark m i ++ (neg_ℤ l.constant ∷ [])) h in
    (r.0, other_sign l.constant (narrow_back (mark m i) (neg_ℤ l.constant) r.1))

narrow_forms : (n m i : ℕ) (ls : List LinRow) → IsNarrow (first_lines n m i ls) → All IsNarrowForm ls
narrow_forms n m i [] h = All-nil IsNarrowForm
narrow_forms n m i (l ∷ ls) h = All-cons IsNarrowForm l ls
    (narrow_form n m i l (All-head (λ (k : ℕ × List ℤ). AreNarrow k.1) (first_line n m i l) (first_lines n m (suc i) ls) h))
    (narrow_forms n m (suc i) ls (All-tail (λ (k : ℕ × List ℤ). AreNarrow k.1) (first_line n m i l) (first_lines n m (suc i) ls) h))

at_unknown : (f : Mono → ℤ) (us : List Mono) (m : Mono) → AreNarrow (map f us) → Has m us → IsBelow (f m)
at_unknown f [] m a h = absurd h
at_unknown f (u ∷ us) m a (inl e) = subst (λ (x : Mono). IsBelow (f x)) (sym e) (All-head IsBelow (f u) (map f us) a)
at_unknown f (u ∷ us) m a (inr h) = at_unknown f us m (All-tail IsBelow (f u) (map f us) a) h

below_by : (us : List Mono) (l : LinRow) (r : PRow) → IsFormOf us r l → IsNarrowForm l → (m : Mono) → (m ≡ []) ⊎ Has m us → IsBelow (coeff_of r.poly m)
below_by us l r f n m (inl e) = subst (λ (x : Mono). IsBelow (coeff_of r.poly x)) (sym e) (subst IsBelow f.constant n.1)
below_by us l r f n m (inr h) = at_unknown (coeff_of r.poly) us m (subst AreNarrow f.coeffs n.0) h

none_below : (c : ℤ) → c ≡ pos 0 → IsBelow c
none_below c e = grind (arith, ints)

norm_below : (us : List Mono) (p : List Term) → IsPoly p → Knows us p → ((m : Mono) → (m ≡ []) ⊎ Has m us → IsBelow (coeff_of p m)) → norm p ≤ spread p * 2 ^ 30
norm_below us [] i k h = omega arith
norm_below us (t ∷ ts) i k h =
    let first : unsigned_abs t.coeff < 2 ^ 30 = subst IsBelow (coeff_found t ts t.mono refl) (h t.mono k.0) in
    let rest : norm ts ≤ spread ts * 2 ^ 30 = norm_below us ts i.2 k.1 later in
    omega (arith, first, rest)
  where
    later : (m : Mono) → (m ≡ []) ⊎ Has m us → IsBelow (coeff_of ts m)
    later m q = by_cases (mono_cmp t.mono m)
        (λ e. subst IsBelow (other e) (h m q))
        (λ e. none_below (coeff_of ts m) (subst (λ (x : Mono). coeff_of ts x ≡ pos 0) (mono_exact t.mono m e) (coeff_after t.mono ts i.1)))
        (λ e. subst IsBelow (above e) (h m q))
      where
        other : mono_cmp t.mono m ≡ Less → coeff_of (t ∷ ts) m ≡ coeff_of ts m
        other e = rw e refl

        above : mono_cmp t.mono m ≡ Greater → coeff_of (t ∷ ts) m ≡ coeff_of ts m
        above e = rw e refl

product_below : (a b s : ℕ) → a < 2 ^ 30 → b ≤ s * 2 ^ 30 → a * b ≤ s * 2 ^ 60
product_below a b s h k = grind arith

norms_below : (us : List Mono) (rows : List PRow) (ls : List LinRow) (cs : List ℤ) → AreFit rows → AllByRecursion (λ (r : PRow). Knows us r.poly) rows → AreFormsOf us rows ls
    → All IsNarrowForm ls → AllByRecursion IsBelow cs → norms cs rows ≤ spreads rows * 2 ^ 60
norms_below us [] ls [] a k f n s = omega arith
norms_below us [] ls (c ∷ cs) a k f n s = omega arith
norms_below us (r ∷ rows) ls [] a k f n s = omega arith
norms_below us (r ∷ rows) [] (c ∷ cs) a k f n s = absurd f
norms_below us (r ∷ rows) (l ∷ ls) (c ∷ cs) a k f n s =
    let row : norm r.poly ≤ spread r.poly * 2 ^ 30 = norm_below us r.poly a.0.order k.0 (below_by us l r f.0 (All-head IsNarrowForm l ls n)) in
    let first : unsigned_abs c * norm r.poly ≤ spread r.poly * 2 ^ 60 = product_below (unsigned_abs c) (norm r.poly) (spread r.poly) s.0 row in
    let rest : norms cs rows ≤ spreads rows * 2 ^ 60 = norms_below us rows ls cs a.1 k.1 f.1 (All-tail IsNarrowForm l ls n) s.1 in
    omega (arith, first, rest)

below_all : (cs : List ℤ) → AreNarrow cs → AllByRecursion IsBelow cs
below_all [] h = tt
below_all (c ∷ cs) h = (All-head IsBelow c cs h, below_all cs (All-tail IsBelow c cs h))

norm_room : (n s : ℕ) → s ≤ 65536 → n ≤ s * 2 ^ 60 → n < 2 ^ 126
norm_room n s h k = omega (arith, h, k)

-- the rows' own forms are those of the first basis
pub narrow_first : (rows : List PRow) (ls : List LinRow) → AreFormsOf (unknowns rows) rows ls → AreWide (form_unknowns ls) ls → AreBasesNarrow rows → All IsNarrowForm ls
narrow_first rows ls f w narrow =
    narrow_forms (form_unknowns ls) (length ls) 0 ls (narrow ls f (first_lines (form_unknowns ls) (length ls) 0 ls) (first_form (form_unknowns ls) ls w))

pub has_room : (rows : List PRow) (ls : List LinRow) (cs : List ℤ) → AreFit rows → AreFormsOf (unknowns rows) rows ls → AreWide (form_unknowns ls) ls → AreBasesNarrow rows → spreads rows ≤ 65536
    → AreNarrow cs → HasRoom rows cs
has_room rows ls cs a f w narrow terms s = record {
  norm = norm_room (norms cs rows) (spreads rows) terms (norms_below (unknowns rows) rows ls cs a (known_rows rows) f (narrow_first rows ls f w narrow) (below_all cs s));
  spread = terms;
}
