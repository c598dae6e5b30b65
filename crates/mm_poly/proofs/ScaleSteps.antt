-- The steps of a multiple.
use Rattle.std.specs.Prelude.{◌≡◌, ℕ, ◌+◌, ◌*◌, ◌^◌, ◌<◌, ◌≤◌, ℤ, ◌*ℤ◌, unsigned_abs, List, [], ◌∷◌, ◌++◌, length, drop, FitsSigned, refl}
use Rattle.std.proofs.Common.{get_or, ap, sym, ◌∙◌, subst, append-nil, arith}
use Rattle.std.specs.Int.{w128}
use Rattle.std.proofs.lemmas.Int.{ints, unsigned_abs-mul}
use Rattle.mm_poly.specs.declared.term.Term.{Term}
use Rattle.mm_poly.specs.Poly.{norm, with_coeff, scaled}
use Rattle.mm_poly.proofs.SumLaws.{with_after}
use Rattle.mm_poly.proofs.MergeSteps.{front, no_more}

-- what is out, and the multiples of what is left, are what stood there and the multiples
pub record Scaling (out before terms : List Term) (c : ℤ) (i : ℕ) : Type 0 where
  pub small : unsigned_abs c * norm (drop i terms) < 2 ^ 126
  pub joined : out ++ scaled c (drop i terms) ≡ before ++ scaled c terms

pub scaling_begin : (out terms : List Term) (a c : ℤ) → a ≡ c → norm terms * unsigned_abs c < 2 ^ 126 → Scaling out out terms a 0
scaling_begin out terms a c s h = subst (λ b. Scaling out out terms b 0) (sym s) (record { small = omega arith; joined = refl })

pub product_fits : (a b : ℤ) → unsigned_abs a * unsigned_abs b < 2 ^ 126 → FitsSigned w128 (a *ℤ b)
product_fits a b h = let e = unsigned_abs-mul a b in omega (arith, ints)

part_small : (c t n : ℕ) → c * (t + n) < 2 ^ 126 → (c * t < 2 ^ 126) × (c * n < 2 ^ 126)
part_small c t n h = (omega arith, omega arith)

pub scaling_small : (out before terms : List Term) (c : ℤ) (i : ℕ) (t : Term) → Scaling out before terms c i → i < length terms → t ≡ get_or terms i t
    → unsigned_abs c * unsigned_abs t.coeff < 2 ^ 126
scaling_small out before terms c i t s h is =
    let k : unsigned_abs c * norm (t ∷ drop (i + 1) terms) < 2 ^ 126 = subst (λ xs. unsigned_abs c * norm xs < 2 ^ 126) (front terms i t h is) s.small in
    (part_small (unsigned_abs c) (unsigned_abs t.coeff) (norm (drop (i + 1) terms)) k).0

pub scaling : (out before terms : List Term) (c : ℤ) (i : ℕ) (t : Term) → Scaling out before terms c i → i < length terms → t ≡ get_or terms i t
    → (new : List Term) → new ≡ out ++ with_coeff (c *ℤ t.coeff) t.mono [] → Scaling new before terms c (i + 1)
scaling out before terms c i t s h is new n =
    let f = front terms i t h is in
    let k : unsigned_abs c * norm (t ∷ drop (i + 1) terms) < 2 ^ 126 = subst (λ xs. unsigned_abs c * norm xs < 2 ^ 126) f s.small in
    record {
      small = (part_small (unsigned_abs c) (unsigned_abs t.coeff) (norm (drop (i + 1) terms)) k).1;
      joined = ap (λ (xs : List Term). xs ++ scaled c (drop (i + 1) terms)) n
          ∙ with_after out (c *ℤ t.coeff) t.mono (scaled c (drop (i + 1) terms))
          ∙ ap (λ (xs : List Term). out ++ scaled c xs) (sym f)
          ∙ s.joined;
    }

pub scaled_all : (out before terms : List Term) (a c : ℤ) (i : ℕ) → a ≡ c → Scaling out before terms a i → length terms ≤ i → out ≡ before ++ scaled c terms
scaled_all out before terms a c i e s h =
    sym (append-nil out) ∙ ap (λ (xs : List Term). out ++ scaled a xs) (sym (no_more terms i h)) ∙ s.joined ∙ ap (λ b. before ++ scaled b terms) e
