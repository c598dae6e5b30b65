-- The certificate of a log is shallow, and its constants are at least 1 and small.
use Rattle.std.specs.Prelude.{◌≡◌, ℕ, ◌+◌, ◌≤◌, max, ℤ, pos, negsuc, List, [], ◌∷◌, Bool, true, refl}
use Rattle.std.proofs.Common.{ap, sym, ◌∙◌, arith}
use Rattle.std.proofs.lemmas.Bool.{and_from}
use Rattle.std.specs.List.{AllByRecursion}
use Rattle.std.specs.Ordering.{int_eq}
use Rattle.mm_poly.specs.declared.term.Term.{Term}
use Rattle.mm_poly.specs.Poly.{constant_of}
use Rattle.mm_poly.proofs.CaseLaws.{by_if}
use Rattle.cert_kit.specs.declared.cert.Psatz.{Psatz}
use Rattle.cert_kit.specs.declared.cert.Psatz.TheOpen.{Psatz-F}
use Rattle.cert_kit.specs.declared.cert.Psatz.TheViews.{roll-Psatz}
use Rattle.cert_kit.specs.declared.cert.Psatz.TheVariants.{Hyp, Square, MulPoly, Mul, Add, Const, rolls-Hyp, rolls-Square, rolls-MulPoly, rolls-Mul, rolls-Add, rolls-Const}
use Rattle.cert_kit.specs.declared.cert.Psatz.TheFolds.{map-Psatz}
use Rattle.cert_kit.specs.declared.cert.Step.TheVariants.{Rat, Cut}
use Rattle.cert_kit.specs.declared.cert.Cert.{Cert}
use Rattle.cert_kit.specs.declared.cert.Close.TheOpen.{Close-F}
use Rattle.cert_kit.specs.declared.cert.Close.TheVariants.{Done, rolls-Done}
use Rattle.cert_kit.specs.declared.cert.Close.TheFolds.{fold-Close, fold-roll-Close, fold_out-Cert}
use Rattle.cert_kit.specs.Depth.{psatz_level, psatz_depth, step_depth, steps_depth, close_level, cert_level, cert_depth, close_depth, psatz_in_range, has_constants_in_range, step_in_range, steps_in_range, close_in_range, cert_in_range, close_has_constants_in_range, MakesCert}
use Rattle.cert_kit.proofs.FlatLaws.{IsFlat, flat_hyp, flat_square, flat_const, flat_mulp, flat_mul, flat_add, flat_more, done_depth, done_range}
use Rattle.fm_elim.specs.declared.source.Source.{Source}
use Rattle.fm_elim.specs.declared.source.Combination.{Combination}
use Rattle.fm_elim.specs.declared.source.Combination.TheVariants.{Given, Sum, Pair, Half, OtherHalf}
use Rattle.fm_elim.specs.machine.Logging.{times_row, times_equality, expression, step_of, steps_of, IsFactor, IsSized, HasSizes}

flat_row : (a : ℤ) (n : ℕ) → IsFactor a → IsFlat 1 (times_row a n)
flat_row a n h = by_if (int_eq a (pos 1)) (Hyp n) (Mul (Const a) (Hyp n)) (IsFlat 1) (λ e. flat_more 0 (Hyp n) (flat_hyp n 0)) (λ e. flat_mul (Const a) (Hyp n) 0 (flat_const a h) (flat_hyp n 0))

flat_equality : (k : ℤ) (n : ℕ) → IsFlat 1 (times_equality k n)
flat_equality k n = by_if (int_eq k (pos 1)) (Hyp n) (MulPoly (constant_of k) (Hyp n)) (IsFlat 1) (λ e. flat_more 0 (Hyp n) (flat_hyp n 0)) (λ e. flat_mulp (constant_of k) (Hyp n) 0 (flat_hyp n 0))

flat_source : (s : Combination) → IsSized s → IsFlat 2 (expression s)
flat_source (Given n) h = flat_more 1 (Hyp n) (flat_more 0 (Hyp n) (flat_hyp n 0))
flat_source (Sum n k m) h = flat_add (Hyp n) (times_equality k m) 1 (flat_more 0 (Hyp n) (flat_hyp n 0)) (flat_equality k m)
flat_source (Pair a l b m) h = flat_add (times_row a l) (times_row b m) 1 (flat_row a l h.0) (flat_row b m h.1)
flat_source (Half n) h = flat_add (Hyp n) (Square []) 1 (flat_more 0 (Hyp n) (flat_hyp n 0)) (flat_square [])
flat_source (OtherHalf n) h = flat_add (MulPoly (constant_of (negsuc 0)) (Hyp n)) (Square []) 1 (flat_mulp (constant_of (negsuc 0)) (Hyp n) 0 (flat_hyp n 0)) (flat_square [])

greatest : (a b : ℕ) → a ≤ 2 → b ≤ 2 → max a b ≤ 2
greatest a b h k = omega arith

-- a step is as its expression, whether it cuts or not
depth_of : (s : Source) → step_depth (step_of s) ≡ psatz_depth (expression s.combination)
depth_of s = by_if s.is_cut (Cut (expression s.combination)) (Rat (expression s.combination)) (λ t. step_depth t ≡ psatz_depth (expression s.combination)) (λ e. refl) (λ e. refl)

range_of : (s : Source) → step_in_range (step_of s) ≡ has_constants_in_range (expression s.combination)
range_of s = by_if s.is_cut (Cut (expression s.combination)) (Rat (expression s.combination)) (λ t. step_in_range t ≡ has_constants_in_range (expression s.combination)) (λ e. refl) (λ e. refl)

steps_flat : (sources : List Source) → AllByRecursion HasSizes sources → steps_depth (steps_of sources) ≤ 2
steps_flat [] a = omega arith
steps_flat (s ∷ sources) a =
    let d = depth_of s in
    let f = (flat_source s.combination a.0).depth in
    greatest (step_depth (step_of s)) (steps_depth (steps_of sources)) (omega (arith, d, f)) (steps_flat sources a.1)

steps_sized : (sources : List Source) → AllByRecursion HasSizes sources → steps_in_range (steps_of sources) ≡ true
steps_sized [] a = refl
steps_sized (s ∷ sources) a =
    and_from (step_in_range (step_of s)) (steps_in_range (steps_of sources)) (range_of s ∙ (flat_source s.combination a.0).constants) (steps_sized sources a.1)

pub makes_cert : (sources : List Source) → AllByRecursion HasSizes sources → MakesCert (steps_of sources) Done
makes_cert sources a = record {
  flat_steps = (let h = steps_flat sources a in omega (arith, h));
  flat_close = (let h = done_depth in omega (arith, h));
  step_constants = steps_sized sources a;
  close_constants = done_range;
}

pub cert_flat : (c : Cert) (sources : List Source) → AllByRecursion HasSizes sources → c ≡ record { steps = steps_of sources; close = Done } → cert_depth c ≤ 4000
cert_flat c sources a e =
    let h = steps_flat sources a in
    let q = ap (λ (x : Cert). cert_depth x) e ∙ fold_out-Cert ℕ ℕ close_level cert_level (record { steps = steps_of sources; close = Done })
    ∙ ap (λ k. max (steps_depth (steps_of sources)) k) done_depth in
    let m : max (steps_depth (steps_of sources)) 0 ≤ 2 = greatest (steps_depth (steps_of sources)) 0 h (omega arith) in
    omega (arith, q, m)
