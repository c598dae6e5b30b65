-- The steps of a list's negation in its own place.
use Rattle.std.specs.Prelude.{◌≡◌, ◌≢◌, ℕ, ◌+◌, ◌^◌, ◌<◌, ◌≤◌, ℤ, pos, negsuc, neg_ℤ, unsigned_abs, List, [], ◌∷◌, ◌++◌, length, take, drop, slice_set, refl}
use Rattle.std.proofs.Common.{get_or, ap, sym, ◌∙◌, subst, append_assoc, append-nil, arith}
use Rattle.std.proofs.lemmas.Int.{ints}
use Rattle.std.proofs.lemmas.Grind.{common_steps}
use Rattle.std.proofs.lemmas.List.{drop-set-lt, take_more_set}
use Rattle.mm_poly.specs.declared.term.Term.{Term}
use Rattle.mm_poly.specs.Poly.{norm, IsPoly, with_coeff, scaled}
use Rattle.mm_poly.specs.Product.{AllNonZero}
use Rattle.mm_poly.proofs.SumLaws.{with_nonzero}
use Rattle.mm_poly.proofs.MergeSteps.{front, no_more}
use Rattle.mm_poly.proofs.ProductLaws.{nonzero_of}
use Rattle.mm_num.proofs.Ring.{minus_one}

abbrev pub opposite : Term → Term
opposite t = record { coeff = neg_ℤ t.coeff; mono = t.mono }

still_nonzero : (c : ℤ) → c ≢ pos 0 → neg_ℤ c ≢ pos 0
still_nonzero c n e = n (omega (arith, ints))

scaled_first : (t : Term) (ts : List Term) → t.coeff ≢ pos 0 → scaled (negsuc 0) (t ∷ ts) ≡ opposite t ∷ scaled (negsuc 0) ts
scaled_first t ts n =
    ap (λ c. with_coeff c t.mono (scaled (negsuc 0) ts)) (minus_one t.coeff)
    ∙ with_nonzero (neg_ℤ t.coeff) t.mono (scaled (negsuc 0) ts) (still_nonzero t.coeff n)

-- what is negated, and the opposites of what is left, are the opposites
pub record Negating (now before : List Term) (i : ℕ) : Type 0 where
  pub nonzero : AllNonZero (drop i now)
  pub small : norm (drop i now) < 2 ^ 126
  pub joined : take i now ++ scaled (negsuc 0) (drop i now) ≡ scaled (negsuc 0) before

pub negating : (ts : List Term) → IsPoly ts → norm ts < 2 ^ 126 → Negating ts ts 0
negating ts a s = record { nonzero = nonzero_of ts a; small = s; joined = refl }

pub negating_small : (now before : List Term) (i : ℕ) (t : Term) → Negating now before i → i < length now → t ≡ get_or now i t → unsigned_abs t.coeff < 2 ^ 126
negating_small now before i t s h is =
    let k : norm (t ∷ drop (i + 1) now) < 2 ^ 126 = subst (λ xs. norm xs < 2 ^ 126) (front now i t h is) s.small in
    omega arith

pub negates : (now before : List Term) (i : ℕ) (t : Term) → Negating now before i → i < length now → t ≡ get_or now i t → (new : List Term)
    → new ≡ slice_set now i (opposite t) → Negating new before (i + 1)
negates now before i t s h is new e =
    let f = front now i t h is in
    let rest : drop (i + 1) new ≡ drop (i + 1) now = ap (λ (xs : List Term). drop (i + 1) xs) e ∙ drop-set-lt (i + 1) now i (opposite t) (omega arith) in
    let done : take (i + 1) new ≡ take i now ++ opposite t ∷ [] = ap (λ (xs : List Term). take (i + 1) xs) e ∙ take_more_set now i (opposite t) h in
    let n : AllNonZero (t ∷ drop (i + 1) now) = subst (λ xs. AllNonZero xs) f s.nonzero in
    let k : norm (t ∷ drop (i + 1) now) < 2 ^ 126 = subst (λ xs. norm xs < 2 ^ 126) f s.small in
    let low : norm (drop (i + 1) now) < 2 ^ 126 = omega arith in
    record {
      nonzero = subst (λ xs. AllNonZero xs) (sym rest) n.1;
      small = subst (λ xs. norm xs < 2 ^ 126) (sym rest) low;
      joined = ap (λ (xs : List Term). take (i + 1) new ++ scaled (negsuc 0) xs) rest
          ∙ ap (λ (xs : List Term). xs ++ scaled (negsuc 0) (drop (i + 1) now)) done
          ∙ append_assoc (take i now) (opposite t ∷ []) (scaled (negsuc 0) (drop (i + 1) now))
          ∙ ap (λ (xs : List Term). take i now ++ xs) (sym (scaled_first t (drop (i + 1) now) n.0))
          ∙ ap (λ (xs : List Term). take i now ++ scaled (negsuc 0) xs) (sym f)
          ∙ s.joined;
    }

all_taken : (xs : List Term) (i : ℕ) → length xs ≤ i → take i xs ≡ xs
all_taken xs i h = grind (arith, common_steps)

pub negated_all : (now before : List Term) (i : ℕ) → Negating now before i → length now ≤ i → now ≡ scaled (negsuc 0) before
negated_all now before i s h =
    sym (all_taken now i h) ∙ sym (append-nil (take i now)) ∙ ap (λ (xs : List Term). take i now ++ scaled (negsuc 0) xs) (sym (no_more now i h)) ∙ s.joined
