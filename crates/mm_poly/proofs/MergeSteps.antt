-- The steps of the merge.
use Rattle.std.specs.Prelude.{◌≡◌, ℕ, suc, ◌+◌, ◌^◌, ◌<◌, ◌≤◌, ◌+ℤ◌, List, [], ◌∷◌, ◌++◌, length, take, drop, ◌-◌, ◌⊎◌, refl}
use Rattle.std.proofs.Common.{inl, inr, get_or, ap, sym, ◌∙◌, subst, append_assoc, append-nil, add-one, drop-cons, arith}
use Rattle.std.proofs.lemmas.Grind.{common_steps}
use Rattle.std.specs.declared.cmp.Ordering.TheVariants.{Less, Equal, Greater}
use Rattle.mm_poly.specs.declared.term.Term.{Term}
use Rattle.mm_poly.specs.Mono.{mono_cmp}
use Rattle.mm_poly.specs.Poly.{norm, IsPoly, with_coeff, plus}
use Rattle.mm_poly.proofs.SumLaws.{with_after, plus_nil, plus_less, plus_greater, plus_equal}

-- what is out, and the sum of what is left, are the sum
pub record At (out left right : List Term) (i j : ℕ) : Type 0 where
  pub left_place : i ≤ length left
  pub right_place : j ≤ length right
  pub left_order : IsPoly (drop i left)
  pub right_order : IsPoly (drop j right)
  pub small : norm (drop i left) + norm (drop j right) < 2 ^ 126
  pub joined : out ++ plus (drop i left) (drop j right) ≡ plus left right

pub front : (xs : List Term) (i : ℕ) (t : Term) → i < length xs → t ≡ get_or xs i t → drop i xs ≡ t ∷ drop (i + 1) xs
front xs i t h is = rw add-one (drop-cons xs i t h ∙ ap (λ (r : Term). r ∷ drop (suc i) xs) (sym is))

pub begin : (left right : List Term) → IsPoly left → IsPoly right → norm left + norm right < 2 ^ 126 → At [] left right 0 0
begin left right a b s = record { left_place = omega arith; right_place = omega arith; left_order = a; right_order = b; small = s; joined = refl }

pub less : (out left right : List Term) (i j : ℕ) (t u : Term) → At out left right i j → i < length left → j < length right
    → t ≡ get_or left i t → u ≡ get_or right j u → (new : List Term) → Less ≡ mono_cmp t.mono u.mono → new ≡ out ++ t ∷ []
    → At new left right (i + 1) j
less out left right i j t u at h k tis uis new o n =
    let l = front left i t h tis in
    let r = front right j u k uis in
    let a : IsPoly (t ∷ drop (i + 1) left) = subst (λ xs. IsPoly xs) l at.left_order in
    let b : IsPoly (u ∷ drop (j + 1) right) = subst (λ xs. IsPoly xs) r at.right_order in
    record {
      left_place = omega (arith, at.left_place);
      right_place = omega (arith, at.right_place);
      left_order = a.2;
      right_order = at.right_order;
      small = let s : norm (t ∷ drop (i + 1) left) + norm (drop j right) < 2 ^ 126 = subst (λ xs. norm xs + norm (drop j right) < 2 ^ 126) l at.small in omega arith;
      joined = ap (λ (xs : List Term). xs ++ plus (drop (i + 1) left) (drop j right)) n
          ∙ append_assoc out (t ∷ []) (plus (drop (i + 1) left) (drop j right))
          ∙ ap (λ (xs : List Term). out ++ t ∷ plus (drop (i + 1) left) xs) r
          ∙ ap (λ (xs : List Term). out ++ xs) (sym (plus_less t (drop (i + 1) left) u (drop (j + 1) right) a b (sym o)))
          ∙ ap (λ (xs : List Term). out ++ plus xs (u ∷ drop (j + 1) right)) (sym l)
          ∙ ap (λ (xs : List Term). out ++ plus (drop i left) xs) (sym r)
          ∙ at.joined;
    }

pub greater : (out left right : List Term) (i j : ℕ) (t u : Term) → At out left right i j → i < length left → j < length right
    → t ≡ get_or left i t → u ≡ get_or right j u → (new : List Term) → Greater ≡ mono_cmp t.mono u.mono → new ≡ out ++ u ∷ []
    → At new left right i (j + 1)
greater out left right i j t u at h k tis uis new o n =
    let l = front left i t h tis in
    let r = front right j u k uis in
    let a : IsPoly (t ∷ drop (i + 1) left) = subst (λ xs. IsPoly xs) l at.left_order in
    let b : IsPoly (u ∷ drop (j + 1) right) = subst (λ xs. IsPoly xs) r at.right_order in
    record {
      left_place = omega (arith, at.left_place);
      right_place = omega (arith, at.right_place);
      left_order = at.left_order;
      right_order = b.2;
      small = let s : norm (drop i left) + norm (u ∷ drop (j + 1) right) < 2 ^ 126 = subst (λ xs. norm (drop i left) + norm xs < 2 ^ 126) r at.small in omega arith;
      joined = ap (λ (xs : List Term). xs ++ plus (drop i left) (drop (j + 1) right)) n
          ∙ append_assoc out (u ∷ []) (plus (drop i left) (drop (j + 1) right))
          ∙ ap (λ (xs : List Term). out ++ u ∷ plus xs (drop (j + 1) right)) l
          ∙ ap (λ (xs : List Term). out ++ xs) (sym (plus_greater t (drop (i + 1) left) u (drop (j + 1) right) a b (sym o)))
          ∙ ap (λ (xs : List Term). out ++ plus xs (u ∷ drop (j + 1) right)) (sym l)
          ∙ ap (λ (xs : List Term). out ++ plus (drop i left) xs) (sym r)
          ∙ at.joined;
    }

pub equal : (out left right : List Term) (i j : ℕ) (t u : Term) → At out left right i j → i < length left → j < length right
    → t ≡ get_or left i t → u ≡ get_or right j u → (new : List Term) → Equal ≡ mono_cmp t.mono u.mono → new ≡ out ++ with_coeff (t.coeff +ℤ u.coeff) u.mono []
    → At new left right (i + 1) (j + 1)
equal out left right i j t u at h k tis uis new o n =
    let l = front left i t h tis in
    let r = front right j u k uis in
    let a : IsPoly (t ∷ drop (i + 1) left) = subst (λ xs. IsPoly xs) l at.left_order in
    let b : IsPoly (u ∷ drop (j + 1) right) = subst (λ xs. IsPoly xs) r at.right_order in
    record {
      left_place = omega (arith, at.left_place);
      right_place = omega (arith, at.right_place);
      left_order = a.2;
      right_order = b.2;
      small =
          let s : norm (t ∷ drop (i + 1) left) + norm (drop j right) < 2 ^ 126 = subst (λ xs. norm xs + norm (drop j right) < 2 ^ 126) l at.small in
          let s2 : norm (t ∷ drop (i + 1) left) + norm (u ∷ drop (j + 1) right) < 2 ^ 126 = subst (λ xs. norm (t ∷ drop (i + 1) left) + norm xs < 2 ^ 126) r s in
          omega arith;
      joined = ap (λ (xs : List Term). xs ++ plus (drop (i + 1) left) (drop (j + 1) right)) n
          ∙ with_after out (t.coeff +ℤ u.coeff) u.mono (plus (drop (i + 1) left) (drop (j + 1) right))
          ∙ ap (λ (xs : List Term). out ++ xs) (sym (plus_equal t (drop (i + 1) left) u (drop (j + 1) right) a b (sym o)))
          ∙ ap (λ (xs : List Term). out ++ plus xs (u ∷ drop (j + 1) right)) (sym l)
          ∙ ap (λ (xs : List Term). out ++ plus (drop i left) xs) (sym r)
          ∙ at.joined;
    }

pub no_more : (xs : List Term) (i : ℕ) → length xs ≤ i → drop i xs ≡ []
no_more xs i h = grind (arith, common_steps)

-- where one side is used up, the other side is the rest
at_end : (out left right : List Term) (i j : ℕ) → At out left right i j → (length left ≤ i) ⊎ (length right ≤ j) → (out ++ drop i left) ++ drop j right ≡ plus left right
at_end out left right i j at used = elim used [
  | inl h ↦
      let l = no_more left i h in
      ap (λ (xs : List Term). (out ++ xs) ++ drop j right) l
      ∙ ap (λ (xs : List Term). xs ++ drop j right) (append-nil out)
      ∙ ap (λ (xs : List Term). out ++ plus xs (drop j right)) (sym l)
      ∙ at.joined
  | inr h ↦
      let r = no_more right j h in
      ap (λ (xs : List Term). (out ++ drop i left) ++ xs) r
      ∙ append-nil (out ++ drop i left)
      ∙ ap (λ (xs : List Term). out ++ xs) (sym (plus_nil (drop i left) at.left_order))
      ∙ ap (λ (xs : List Term). out ++ plus (drop i left) xs) (sym r)
      ∙ at.joined
]

pub to_end : (xs : List Term) (i : ℕ) → take (length xs - i) (drop i xs) ≡ drop i xs
to_end xs i = grind (arith, common_steps)

-- what is out after the rest of both sides
pub finished : (out left right : List Term) (i j : ℕ) → At out left right i j → (length left ≤ i) ⊎ (length right ≤ j)
    → (most new : List Term) → most ≡ out ++ take (length left - i) (drop i left) → new ≡ most ++ take (length right - j) (drop j right) → new ≡ plus left right
finished out left right i j at used most new m n =
    n ∙ ap (λ (xs : List Term). most ++ xs) (to_end right j)
    ∙ ap (λ (xs : List Term). xs ++ drop j right) (m ∙ ap (λ (xs : List Term). out ++ xs) (to_end left i))
    ∙ at_end out left right i j at used
