-- The first fault of a certificate goes by the rows that it names, and by the last one.
use Rattle.std.specs.Prelude.{◌≡◌, ℕ, zero, suc, ◌+◌, ◌-◌, ℤ, pos, ◌+ℤ◌, List, [], ◌∷◌, ◌++◌, length, map, false, ◌&&◌, ◌==◌, refl, Option, Some, None, Result, Ok, Err, slice_get}
use Rattle.std.proofs.Common.{ap, sym, ◌∙◌, subst, append_assoc, length-append, arith}
use Rattle.std.specs.List.{AllByRecursion}
use Rattle.std.specs.Option.{option_map_or}
use Rattle.mm_num.specs.Result.{◌>>=◌}
use Rattle.mm_poly.specs.declared.term.Term.{Term}
use Rattle.cert_kit.specs.declared.node.Fault.{Fault}
use Rattle.cert_kit.specs.declared.node.Fault.TheVariants.{Rule, Bound}
use Rattle.cert_kit.specs.declared.node.Node.{Node}
use Rattle.cert_kit.specs.declared.row.PRow.{PRow}
use Rattle.cert_kit.specs.declared.cert.Psatz.{Psatz}
use Rattle.cert_kit.specs.declared.cert.Psatz.TheOpen.{Psatz-F}
use Rattle.cert_kit.specs.declared.cert.Psatz.TheViews.{roll-Psatz}
use Rattle.cert_kit.specs.declared.cert.Psatz.TheFolds.{map-Psatz, fold-roll-Psatz, ind-Psatz}
use Rattle.cert_kit.specs.declared.cert.Step.{Step}
use Rattle.cert_kit.specs.declared.cert.Step.TheVariants.{Rat, Cut}
use Rattle.cert_kit.specs.declared.cert.Cert.{Cert}
use Rattle.cert_kit.specs.declared.cert.Close.{Close}
use Rattle.cert_kit.specs.declared.cert.Close.TheOpen.{Close-F, Cert-F}
use Rattle.cert_kit.specs.declared.cert.Close.TheViews.{roll-Close, roll-Cert}
use Rattle.cert_kit.specs.declared.cert.Close.TheFolds.{map-Close, map-Cert, fold-roll-Cert, fold-roll-Close, ind-Close}
use Rattle.cert_kit.specs.Row.{is_false}
use Rattle.cert_kit.specs.Cut.{cut_of}
use Rattle.cert_kit.specs.Meaning.{own_bounds, product_bounds, sum_bounds, are_within, product_row, sum_row, multiple_row, at_least_0}
use Rattle.cert_kit.specs.Making.{numbers_step, numbers_of}
use Rattle.cert_kit.specs.Acceptance.{with_row, below_0, below_bounds, Range, range_of, values_of, value_row}
use Rattle.cert_kit.specs.FirstFault.{Walk, walk, walk_step, row_at, tested, tested_rule, bounds_of, step_walk, steps_walk, Faulting, or_else, unless, first_of_all, after_walk, range_fault, fault_close, fault_cert, first_fault}
use Rattle.cert_kit.proofs.NumberingLaws.{both_parts}
use Rattle.cert_check.specs.Checking.{close_fault}
use Rattle.cert_check.specs.Uses.{step_numbers, steps_numbers, all_numbers, close_numbers_level, cert_numbers_level, close_numbers, cert_numbers}

-- ---- rows that are alike

abbrev pub SameAt : List PRow → List PRow → List ℕ → Type 0
SameAt old new ns = AllByRecursion (λ n. slice_get new n ≡ slice_get old n) ns

-- the same rows at these numbers, and the same last row
pub record Alike (ns : List ℕ) (old new : List PRow) : Type 0 where
  pub len : length new ≡ length old
  pub named : SameAt old new ns
  pub last : slice_get new (length new - 1) ≡ slice_get old (length old - 1)

same_get : (old new : List PRow) (r : PRow) (n : ℕ) → length new ≡ length old → slice_get new n ≡ slice_get old n → slice_get (new ++ r ∷ []) n ≡ slice_get (old ++ r ∷ []) n
same_get [] [] r n l e = refl
same_get [] (y ∷ new) r n l e = absurd (omega arith)
same_get (x ∷ old) [] r n l e = absurd (omega arith)
same_get (x ∷ old) (y ∷ new) r zero l e = e
same_get (x ∷ old) (y ∷ new) r (suc n) l e = same_get old new r n (omega arith) e

same_gets : (old new : List PRow) (r : PRow) (ns : List ℕ) → length new ≡ length old → SameAt old new ns → SameAt (with_row old r) (with_row new r) ns
same_gets old new r [] l h = tt
same_gets old new r (n ∷ ns) l h = (same_get old new r n l h.0, same_gets old new r ns l h.1)

last_get : (rows : List PRow) (r : PRow) → slice_get (rows ++ r ∷ []) (length (rows ++ r ∷ []) - 1) ≡ Some r
last_get rows r = ap (λ n. slice_get (rows ++ r ∷ []) n) (place rows) ∙ at_end rows
  where
    place : (xs : List PRow) → length (xs ++ r ∷ []) - 1 ≡ length xs
    place xs = omega (arith, length-append xs (r ∷ []))

    at_end : (xs : List PRow) → slice_get (xs ++ r ∷ []) (length xs) ≡ Some r
    at_end [] = refl
    at_end (x ∷ xs) = at_end xs

extended : (ns : List ℕ) (old new : List PRow) (r : PRow) → length new ≡ length old → SameAt old new ns → Alike ns (with_row old r) (with_row new r)
extended ns old new r l h = record {
  len = length-append new (r ∷ []) ∙ ap (λ n. n + length (r ∷ [])) l ∙ sym (length-append old (r ∷ []));
  named = same_gets old new r ns l h;
  last = last_get new r ∙ sym (last_get old r);
}

-- ---- expressions and steps

abbrev WalksAlike : Psatz → Type 0
WalksAlike e = (old new : List PRow) → SameAt old new (numbers_of e) → walk e new ≡ walk e old

abbrev Known : Type 0
Known = (e : Psatz) × WalksAlike e

abbrev parts_of : Psatz-F Known → Psatz-F Psatz
parts_of y = map-Psatz Known Psatz (λ p. p.0) y

level : (y : Psatz-F Known) (old new : List PRow) → SameAt old new (numbers_step (map-Psatz Psatz (List ℕ) numbers_of (parts_of y)))
    → walk_step (map-Psatz Psatz Walk walk (parts_of y)) new ≡ walk_step (map-Psatz Psatz Walk walk (parts_of y)) old
level (Psatz-F.Hyp n) old new h = ap row_at h.0
level (Psatz-F.Square p) old new h = refl
level (Psatz-F.MulPoly p a) old new h = ap (λ v. v >>= λ x. tested_rule (multiple_row p x.row.op x.row.poly) (product_bounds (own_bounds p) (bounds_of x))) (a.1 old new h)
level (Psatz-F.Mul a b) old new h =
    let s = both_parts (λ n. slice_get new n ≡ slice_get old n) (numbers_of a.0) (numbers_of b.0) h in
    ap (λ v. v >>= λ x. walk b.0 new >>= λ y. tested (product_row x.row y.row) (product_bounds (bounds_of x) (bounds_of y))) (a.1 old new s.0)
    ∙ ap (λ w. walk a.0 old >>= λ x. w >>= λ y. tested (product_row x.row y.row) (product_bounds (bounds_of x) (bounds_of y))) (b.1 old new s.1)
level (Psatz-F.Add a b) old new h =
    let s = both_parts (λ n. slice_get new n ≡ slice_get old n) (numbers_of a.0) (numbers_of b.0) h in
    ap (λ v. v >>= λ x. walk b.0 new >>= λ y. tested (sum_row x.row y.row) (sum_bounds (bounds_of x) (bounds_of y))) (a.1 old new s.0)
    ∙ ap (λ w. walk a.0 old >>= λ x. w >>= λ y. tested (sum_row x.row y.row) (sum_bounds (bounds_of x) (bounds_of y))) (b.1 old new s.1)
level (Psatz-F.Const c) old new h = refl
level Psatz-F.Zero old new h = refl

walk_alike : (e : Psatz) → WalksAlike e
walk_alike = ind-Psatz WalksAlike (λ d y q. subst (λ (z : Psatz-F Psatz). WalksAlike (roll-Psatz z)) q (step y))
  where
    step : (y : Psatz-F Known) → WalksAlike (roll-Psatz (parts_of y))
    step y old new h =
        let a = ap (λ f. f old) (fold-roll-Psatz Walk walk_step (parts_of y)) in
        let b = ap (λ f. f new) (fold-roll-Psatz Walk walk_step (parts_of y)) in
        b ∙ level y old new (subst (SameAt old new) (fold-roll-Psatz (List ℕ) numbers_step (parts_of y)) h) ∙ sym a

step_alike : (s : Step) (old new : List PRow) → SameAt old new (step_numbers s) → step_walk s new ≡ step_walk s old
step_alike (Rat e) old new h = ap (λ v. v >>= λ a. Ok a.row) (walk_alike e old new h)
step_alike (Cut e) old new h = ap (λ v. v >>= λ a. Ok (cut_of a.row)) (walk_alike e old new h)

-- ---- steps, and what comes after them

abbrev pub FaultsAlike : Faulting → List ℕ → Type 0
FaultsAlike fault ns = (old new : List PRow) → Alike ns old new → fault new ≡ fault old

next_alike : (v : Result PRow Fault) (g h : PRow → Result (List PRow) Fault) (fault : Faulting) → ((r : PRow) → after_walk (g r) fault ≡ after_walk (h r) fault)
    → after_walk (v >>= g) fault ≡ after_walk (v >>= h) fault
next_alike (Ok r) g h fault k = k r
next_alike (Err e) g h fault k = refl

pub rest_alike : (steps : List Step) (fault : Faulting) (ns : List ℕ) → FaultsAlike fault ns → FaultsAlike (λ rows. after_walk (steps_walk steps rows) fault) (steps_numbers steps ++ ns)
rest_alike [] fault ns h old new a = h old new a
rest_alike (s ∷ steps) fault ns h old new a =
    let split = both_parts (λ n. slice_get new n ≡ slice_get old n) (step_numbers s) (steps_numbers steps ++ ns)
    (subst (SameAt old new) (append_assoc (step_numbers s) (steps_numbers steps) ns) a.named) in
    ap (λ v. after_walk (v >>= λ r. steps_walk steps (with_row new r)) fault) (step_alike s old new split.0)
    ∙ next_alike (step_walk s old) (λ r. steps_walk steps (with_row new r)) (λ r. steps_walk steps (with_row old r)) fault
    (λ r. rest_alike steps fault ns h (with_row old r) (with_row new r) (extended (steps_numbers steps ++ ns) old new r a.len split.1))

-- ---- certificates

abbrev KnownCert : Type 0
KnownCert = (c : Cert) × FaultsAlike (first_fault c) (cert_numbers c)

abbrev KnownClose : Type 0
KnownClose = (c : Close) × FaultsAlike (close_fault c) (close_numbers c)

abbrev certs_of : List KnownCert → List Cert
certs_of cs = map (λ c. c.0) cs

all_alike : (cs : List KnownCert) (q : List Term) (v : ℤ) (old new : List PRow) → length new ≡ length old → SameAt old new (all_numbers (map cert_numbers (certs_of cs)))
    → first_of_all q v (map first_fault (certs_of cs)) new ≡ first_of_all q v (map first_fault (certs_of cs)) old
all_alike [] q v old new l h = refl
all_alike (c ∷ cs) q v old new l h =
    let split = both_parts (λ n. slice_get new n ≡ slice_get old n) (cert_numbers c.0) (all_numbers (map cert_numbers (certs_of cs))) h in
    ap (λ o. or_else o (first_of_all q (v +ℤ pos 1) (map first_fault (certs_of cs)) new)) (c.1 (with_row old (value_row q v)) (with_row new (value_row q v)) (extended (cert_numbers c.0) old new (value_row q v) l split.0))
    ∙ ap (λ o. or_else (first_fault c.0 (with_row old (value_row q v))) o) (all_alike cs q (v +ℤ pos 1) old new l split.1)

range_alike : (cs : List KnownCert) (old new : List PRow) → length new ≡ length old → SameAt old new (all_numbers (map cert_numbers (certs_of cs))) → (o : Option Range)
    → range_fault (map first_fault (certs_of cs)) new o ≡ range_fault (map first_fault (certs_of cs)) old o
range_alike cs old new l h None = refl
range_alike cs old new l h (Some r) = ap (λ o. or_else (unless (length (map first_fault (certs_of cs)) == values_of r) Rule) o) (all_alike cs r.poly r.low old new l h)

walks_alike : (v w : Result Node Fault) (f g : Option Range → Option Fault) → ((o : Option Range) → f o ≡ g o)
    → after_walk v (λ l. after_walk w (λ u. f (range_of l.row u.row))) ≡ after_walk v (λ l. after_walk w (λ u. g (range_of l.row u.row)))
walks_alike (Ok a) (Ok b) f g h = h (range_of a.row b.row)
walks_alike (Ok a) (Err e) f g h = refl
walks_alike (Err e) w f g h = refl

abbrev close_parts : Close-F KnownClose KnownCert → Close-F Close Cert
close_parts y = map-Close KnownClose KnownCert Close Cert (λ c. c.0) (λ c. c.0) y

abbrev cert_parts : Cert-F KnownClose KnownCert → Cert-F Close Cert
cert_parts y = map-Cert KnownClose KnownCert Close Cert (λ c. c.0) (λ c. c.0) y

level_close : (y : Close-F KnownClose KnownCert) (old new : List PRow) → Alike (close_numbers_level (map-Close Close Cert (List ℕ) (List ℕ) close_numbers cert_numbers (close_parts y))) old new
    → fault_close (map-Close Close Cert Faulting Faulting close_fault first_fault (close_parts y)) new ≡ fault_close (map-Close Close Cert Faulting Faulting close_fault first_fault (close_parts y)) old
level_close Close-F.Done old new a = ap (λ o. unless (option_map_or is_false o false) Rule) a.last
level_close (Close-F.Split p c d) old new a =
    let split = both_parts (λ n. slice_get new n ≡ slice_get old n) (cert_numbers c.0) (cert_numbers d.0) a.named in
    let first = c.1 (with_row old (at_least_0 p)) (with_row new (at_least_0 p)) (extended (cert_numbers c.0) old new (at_least_0 p) a.len split.0) in
    let second = d.1 (with_row old (at_least_0 (below_0 p))) (with_row new (at_least_0 (below_0 p))) (extended (cert_numbers d.0) old new (at_least_0 (below_0 p)) a.len split.1) in
    ap (λ o. or_else (unless (are_within (own_bounds p) && are_within (below_bounds p)) Bound) (or_else o (first_fault d.0 (with_row new (at_least_0 (below_0 p)))))) first
    ∙ ap (λ o. or_else (unless (are_within (own_bounds p) && are_within (below_bounds p)) Bound) (or_else (first_fault c.0 (with_row old (at_least_0 p))) o)) second
level_close (Close-F.Enum b cs) old new a =
    let split = both_parts (λ n. slice_get new n ≡ slice_get old n) (numbers_of b.lower ++ numbers_of b.upper) (all_numbers (map cert_numbers (certs_of cs))) a.named in
    let ends = both_parts (λ n. slice_get new n ≡ slice_get old n) (numbers_of b.lower) (numbers_of b.upper) split.0 in
    ap (λ v. after_walk v (λ l. after_walk (walk b.upper new) (λ u. range_fault (map first_fault (certs_of cs)) new (range_of l.row u.row)))) (walk_alike b.lower old new ends.0)
    ∙ ap (λ w. after_walk (walk b.lower old) (λ l. after_walk w (λ u. range_fault (map first_fault (certs_of cs)) new (range_of l.row u.row)))) (walk_alike b.upper old new ends.1)
    ∙ walks_alike (walk b.lower old) (walk b.upper old) (range_fault (map first_fault (certs_of cs)) new) (range_fault (map first_fault (certs_of cs)) old) (range_alike cs old new a.len split.1)

level_cert : (y : Cert-F KnownClose KnownCert) → FaultsAlike (fault_cert (map-Cert Close Cert Faulting Faulting close_fault first_fault (cert_parts y))) (cert_numbers_level (map-Cert Close Cert (List ℕ) (List ℕ) close_numbers cert_numbers (cert_parts y)))
level_cert y = rest_alike y.steps (close_fault y.close.0) (close_numbers y.close.0) y.close.1

abbrev CertAlike : Cert → Type 0
CertAlike c = FaultsAlike (first_fault c) (cert_numbers c)

abbrev CloseAlike : Close → Type 0
CloseAlike c = FaultsAlike (close_fault c) (close_numbers c)

close_level_alike : (y : Close-F KnownClose KnownCert) → CloseAlike (roll-Close (close_parts y))
close_level_alike y old new a =
    let f = ap (λ g. g old) (fold-roll-Close Faulting Faulting fault_close fault_cert (close_parts y)) in
    let g = ap (λ g. g new) (fold-roll-Close Faulting Faulting fault_close fault_cert (close_parts y)) in
    g ∙ level_close y old new (subst (λ ns. Alike ns old new) (fold-roll-Close (List ℕ) (List ℕ) close_numbers_level cert_numbers_level (close_parts y)) a) ∙ sym f

cert_level_alike : (y : Cert-F KnownClose KnownCert) → CertAlike (roll-Cert (cert_parts y))
cert_level_alike y old new a =
    let f = ap (λ g. g old) (fold-roll-Cert Faulting Faulting fault_close fault_cert (cert_parts y)) in
    let g = ap (λ g. g new) (fold-roll-Cert Faulting Faulting fault_close fault_cert (cert_parts y)) in
    g ∙ level_cert y old new (subst (λ ns. Alike ns old new) (fold-roll-Cert (List ℕ) (List ℕ) close_numbers_level cert_numbers_level (cert_parts y)) a) ∙ sym f

pub close_alike : (c : Close) → CloseAlike c
close_alike = ind-Close CloseAlike CertAlike
    (λ d y q. subst (λ (z : Close-F Close Cert). CloseAlike (roll-Close z)) q (close_level_alike y))
    (λ d y q. subst (λ (z : Cert-F Close Cert). CertAlike (roll-Cert z)) q (cert_level_alike y))
