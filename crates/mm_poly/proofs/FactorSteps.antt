-- The steps of a product of monomials.
use Rattle.std.specs.Prelude.{◌≡◌, ℕ, suc, ◌+◌, ◌-◌, ◌<◌, ◌≤◌, ◌⊎◌, List, [], ◌∷◌, ◌++◌, length, take, drop, refl}
use Rattle.std.proofs.Common.{inl, inr, get_or, ap, sym, ◌∙◌, subst, append_assoc, append-nil, add-one, drop-cons, arith}
use Rattle.std.proofs.lemmas.Grind.{common_steps}
use Rattle.std.specs.declared.cmp.Ordering.TheVariants.{Less, Equal, Greater}
use Rattle.std.specs.Ordering.{nat_cmp}
use Rattle.mm_poly.specs.Mono.{mono_degree, mono_times, IsMono}
use Rattle.mm_poly.proofs.FactorLaws.{times_nil, times_less, times_greater, times_equal}

-- what is out, and the product of what is left, are the product
pub record Factoring (out left right : List (ℕ × ℕ)) (i j : ℕ) : Type 0 where
  pub left_place : i ≤ length left
  pub right_place : j ≤ length right
  pub left_order : IsMono (drop i left)
  pub right_order : IsMono (drop j right)
  pub small : mono_degree (drop i left) + mono_degree (drop j right) ≤ 255
  pub joined : out ++ mono_times (drop i left) (drop j right) ≡ mono_times left right

pub factoring : (left right : List (ℕ × ℕ)) → IsMono left → IsMono right → mono_degree left + mono_degree right ≤ 255 → Factoring [] left right 0 0
factoring left right a b s = record { left_place = omega arith; right_place = omega arith; left_order = a; right_order = b; small = s; joined = refl }

front : (xs : List (ℕ × ℕ)) (i : ℕ) (f : ℕ × ℕ) → i < length xs → f ≡ get_or xs i (0, 0) → drop i xs ≡ f ∷ drop (i + 1) xs
front xs i f h is = rw add-one (drop-cons xs i (0, 0) h ∙ ap (λ (r : ℕ × ℕ). r ∷ drop (suc i) xs) (sym is))

-- what is known where both sides have a factor
record Both (out left right : List (ℕ × ℕ)) (i j : ℕ) (f g : ℕ × ℕ) : Type 0 where
  left_split : drop i left ≡ f ∷ drop (i + 1) left
  right_split : drop j right ≡ g ∷ drop (j + 1) right
  left_order : IsMono (f ∷ drop (i + 1) left)
  right_order : IsMono (g ∷ drop (j + 1) right)
  small : (f.1 + mono_degree (drop (i + 1) left)) + (g.1 + mono_degree (drop (j + 1) right)) ≤ 255
  joined : out ++ mono_times (f ∷ drop (i + 1) left) (g ∷ drop (j + 1) right) ≡ mono_times left right

both : (out left right : List (ℕ × ℕ)) (i j : ℕ) (f g : ℕ × ℕ) → Factoring out left right i j → i < length left → j < length right
    → f ≡ get_or left i (0, 0) → g ≡ get_or right j (0, 0) → Both out left right i j f g
both out left right i j f g at h k fis gis =
    let l = front left i f h fis in
    let r = front right j g k gis in
    record {
      left_split = l;
      right_split = r;
      left_order = subst (λ xs. IsMono xs) l at.left_order;
      right_order = subst (λ xs. IsMono xs) r at.right_order;
      small = subst (λ xs. mono_degree (f ∷ drop (i + 1) left) + mono_degree xs ≤ 255) r (subst (λ xs. mono_degree xs + mono_degree (drop j right) ≤ 255) l at.small);
      joined = subst (λ xs. out ++ mono_times (f ∷ drop (i + 1) left) xs ≡ mono_times left right) r
          (subst (λ xs. out ++ mono_times xs (drop j right) ≡ mono_times left right) l at.joined);
    }

one_out : (out new : List (ℕ × ℕ)) (f : ℕ × ℕ) (rest all whole : List (ℕ × ℕ)) → new ≡ out ++ f ∷ [] → all ≡ f ∷ rest → out ++ all ≡ whole → new ++ rest ≡ whole
one_out out new f rest all whole n e w =
    ap (λ (xs : List (ℕ × ℕ)). xs ++ rest) n ∙ append_assoc out (f ∷ []) rest ∙ ap (λ (xs : List (ℕ × ℕ)). out ++ xs) (sym e) ∙ w

pub factor_less : (out left right : List (ℕ × ℕ)) (i j : ℕ) (f g : ℕ × ℕ) → Factoring out left right i j → i < length left → j < length right
    → f ≡ get_or left i (0, 0) → g ≡ get_or right j (0, 0) → (new : List (ℕ × ℕ)) → Less ≡ nat_cmp f.0 g.0 → new ≡ out ++ f ∷ []
    → Factoring new left right (i + 1) j
factor_less out left right i j f g at h k fis gis new o n =
    let b = both out left right i j f g at h k fis gis in
    record {
      left_place = omega (arith, at.left_place);
      right_place = omega (arith, at.right_place);
      left_order = b.left_order.2;
      right_order = at.right_order;
      small = subst (λ xs. mono_degree (drop (i + 1) left) + mono_degree xs ≤ 255) (sym b.right_split) (omega (arith, b.small));
      joined = subst (λ xs. new ++ mono_times (drop (i + 1) left) xs ≡ mono_times left right) (sym b.right_split)
          (one_out out new f (mono_times (drop (i + 1) left) (g ∷ drop (j + 1) right)) (mono_times (f ∷ drop (i + 1) left) (g ∷ drop (j + 1) right)) (mono_times left right) n
          (times_less f (drop (i + 1) left) g (drop (j + 1) right) b.left_order b.right_order (sym o)) b.joined);
    }

pub factor_greater : (out left right : List (ℕ × ℕ)) (i j : ℕ) (f g : ℕ × ℕ) → Factoring out left right i j → i < length left → j < length right
    → f ≡ get_or left i (0, 0) → g ≡ get_or right j (0, 0) → (new : List (ℕ × ℕ)) → Greater ≡ nat_cmp f.0 g.0 → new ≡ out ++ g ∷ []
    → Factoring new left right i (j + 1)
factor_greater out left right i j f g at h k fis gis new o n =
    let b = both out left right i j f g at h k fis gis in
    record {
      left_place = omega (arith, at.left_place);
      right_place = omega (arith, at.right_place);
      left_order = at.left_order;
      right_order = b.right_order.2;
      small = subst (λ xs. mono_degree xs + mono_degree (drop (j + 1) right) ≤ 255) (sym b.left_split) (omega (arith, b.small));
      joined = subst (λ xs. new ++ mono_times xs (drop (j + 1) right) ≡ mono_times left right) (sym b.left_split)
          (one_out out new g (mono_times (f ∷ drop (i + 1) left) (drop (j + 1) right)) (mono_times (f ∷ drop (i + 1) left) (g ∷ drop (j + 1) right)) (mono_times left right) n
          (times_greater f (drop (i + 1) left) g (drop (j + 1) right) b.left_order b.right_order (sym o)) b.joined);
    }

pub factor_equal : (out left right : List (ℕ × ℕ)) (i j : ℕ) (f g : ℕ × ℕ) → Factoring out left right i j → i < length left → j < length right
    → f ≡ get_or left i (0, 0) → g ≡ get_or right j (0, 0) → (new : List (ℕ × ℕ)) → Equal ≡ nat_cmp f.0 g.0 → new ≡ out ++ (f.0, f.1 + g.1) ∷ []
    → Factoring new left right (i + 1) (j + 1)
factor_equal out left right i j f g at h k fis gis new o n =
    let b = both out left right i j f g at h k fis gis in
    record {
      left_place = omega (arith, at.left_place);
      right_place = omega (arith, at.right_place);
      left_order = b.left_order.2;
      right_order = b.right_order.2;
      small = omega (arith, b.small);
      joined = one_out out new (f.0, f.1 + g.1) (mono_times (drop (i + 1) left) (drop (j + 1) right)) (mono_times (f ∷ drop (i + 1) left) (g ∷ drop (j + 1) right)) (mono_times left right) n
          (times_equal f (drop (i + 1) left) g (drop (j + 1) right) b.left_order b.right_order (sym o)) b.joined;
    }

pub exponents_fit : (out left right : List (ℕ × ℕ)) (i j : ℕ) (f g : ℕ × ℕ) → Factoring out left right i j → i < length left → j < length right
    → f ≡ get_or left i (0, 0) → g ≡ get_or right j (0, 0) → f.1 + g.1 ≤ 255
exponents_fit out left right i j f g at h k fis gis = let b = both out left right i j f g at h k fis gis in omega (arith, b.small)

pub no_factors : (xs : List (ℕ × ℕ)) (i : ℕ) → length xs ≤ i → drop i xs ≡ []
no_factors xs i h = grind (arith, common_steps)

at_end : (out left right : List (ℕ × ℕ)) (i j : ℕ) → Factoring out left right i j → (length left ≤ i) ⊎ (length right ≤ j)
    → (out ++ drop i left) ++ drop j right ≡ mono_times left right
at_end out left right i j at used = elim used [
  | inl h ↦
      let l = no_factors left i h in
      ap (λ (xs : List (ℕ × ℕ)). (out ++ xs) ++ drop j right) l
      ∙ ap (λ (xs : List (ℕ × ℕ)). xs ++ drop j right) (append-nil out)
      ∙ ap (λ (xs : List (ℕ × ℕ)). out ++ mono_times xs (drop j right)) (sym l)
      ∙ at.joined
  | inr h ↦
      let r = no_factors right j h in
      ap (λ (xs : List (ℕ × ℕ)). (out ++ drop i left) ++ xs) r
      ∙ append-nil (out ++ drop i left)
      ∙ ap (λ (xs : List (ℕ × ℕ)). out ++ xs) (sym (times_nil (drop i left) at.left_order))
      ∙ ap (λ (xs : List (ℕ × ℕ)). out ++ mono_times (drop i left) xs) (sym r)
      ∙ at.joined
]

to_end : (xs : List (ℕ × ℕ)) (i : ℕ) → take (length xs - i) (drop i xs) ≡ drop i xs
to_end xs i = grind (arith, common_steps)

-- what is out after the rest of both sides
pub factored : (out left right : List (ℕ × ℕ)) (i j : ℕ) → Factoring out left right i j → (length left ≤ i) ⊎ (length right ≤ j)
    → (most new : List (ℕ × ℕ)) → most ≡ out ++ take (length left - i) (drop i left) → new ≡ most ++ take (length right - j) (drop j right)
    → new ≡ mono_times left right
factored out left right i j at used most new m n =
    n ∙ ap (λ (xs : List (ℕ × ℕ)). most ++ xs) (to_end right j)
    ∙ ap (λ (xs : List (ℕ × ℕ)). xs ++ drop j right) (m ∙ ap (λ (xs : List (ℕ × ℕ)). out ++ xs) (to_end left i))
    ∙ at_end out left right i j at used
