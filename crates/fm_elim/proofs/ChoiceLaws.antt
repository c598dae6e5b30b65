-- An unknown is put at its place.
use Rattle.std.specs.Prelude.{◌≡◌, ℕ, suc, ◌+◌, ◌≤◌, List, [], ◌∷◌, length, Option, Some, None, refl}
use Rattle.std.proofs.Common.{ap, ◌∙◌, subst, arith}
use Rattle.std.specs.List.{insert}
use Rattle.std.specs.declared.cmp.Ordering.TheVariants.{Less, Equal, Greater}
use Rattle.std.proofs.lemmas.Option.{same_Some}
use Rattle.mm_poly.specs.Mono.{mono_cmp}
use Rattle.mm_poly.proofs.CaseLaws.{by_cases}
use Rattle.fm_elim.specs.Unknowns.{with_unknown}
use Rattle.fm_elim.specs.machine.Choice.{place_from}

pub record IsPlace (us : List (List (ℕ × ℕ))) (m : List (ℕ × ℕ)) (k : ℕ) : Type 0 where
  pub inside : k ≤ length us
  pub put : with_unknown m us ≡ insert us k m

one_more : (m n k : ℕ) → m ≡ n + 1 + k → m ≡ n + suc k
one_more m n k e = omega arith

by_place : (m u : List (ℕ × ℕ)) (us : List (List (ℕ × ℕ))) (n : ℕ) (P : Option ℕ → Type 0) → (mono_cmp m u ≡ Less → P (Some n)) → (mono_cmp m u ≡ Equal → P None)
    → (mono_cmp m u ≡ Greater → P (place_from us m (n + 1))) → P (place_from (u ∷ us) m n)
by_place m u us n P l e g = by_cases (mono_cmp m u) (λ h. rw (h, place_from) (l h)) (λ h. rw (h, place_from) (e h)) (λ h. rw (h, place_from) (g h))

pub put_less : (m u : List (ℕ × ℕ)) (us : List (List (ℕ × ℕ))) → mono_cmp m u ≡ Less → with_unknown m (u ∷ us) ≡ m ∷ u ∷ us
put_less m u us h = rw (h, with_unknown) refl

pub put_equal : (m u : List (ℕ × ℕ)) (us : List (List (ℕ × ℕ))) → mono_cmp m u ≡ Equal → with_unknown m (u ∷ us) ≡ u ∷ us
put_equal m u us h = rw (h, with_unknown) refl

pub put_greater : (m u : List (ℕ × ℕ)) (us : List (List (ℕ × ℕ))) → mono_cmp m u ≡ Greater → with_unknown m (u ∷ us) ≡ u ∷ with_unknown m us
put_greater m u us h = rw (h, with_unknown) refl

pub none_there : (us : List (List (ℕ × ℕ))) (m : List (ℕ × ℕ)) (n : ℕ) → place_from us m n ≡ None → with_unknown m us ≡ us
none_there [] m n e = absurd cc
none_there (u ∷ us) m n e = by_place m u us n (λ o. o ≡ None → with_unknown m (u ∷ us) ≡ u ∷ us)
    (λ h f. absurd cc) (λ h f. put_equal m u us h)
    (λ h f. put_greater m u us h ∙ ap (λ (q : List (List (ℕ × ℕ))). u ∷ q) (none_there us m (n + 1) f)) e

some_there : (us : List (List (ℕ × ℕ))) (m : List (ℕ × ℕ)) (n k : ℕ) → place_from us m n ≡ Some k → (i : ℕ) × (k ≡ n + i) × IsPlace us m i
some_there [] m n k e = (0, (let s = same_Some n k e in omega arith), record { inside = omega arith; put = refl })
some_there (u ∷ us) m n k e = by_place m u us n (λ o. o ≡ Some k → (i : ℕ) × (k ≡ n + i) × IsPlace (u ∷ us) m i)
    (λ h f. (0, (let s = same_Some n k f in omega arith), record { inside = omega arith; put = put_less m u us h }))
    (λ h f. absurd cc)
    (λ h f.
    let rest = some_there us m (n + 1) k f in
    let p = rest.2 in (
      suc rest.0,
      one_more k n rest.0 rest.1,
      record {
        inside = (let q = p.inside in omega arith);
        put = put_greater m u us h ∙ ap (λ (q : List (List (ℕ × ℕ))). u ∷ q) p.put;
      },
    )) e

pub put_there : (us : List (List (ℕ × ℕ))) (m : List (ℕ × ℕ)) (k : ℕ) → place_from us m 0 ≡ Some k → IsPlace us m k
put_there us m k e = let f = some_there us m 0 k e in let q : f.0 ≡ k = omega (arith, f.1) in subst (IsPlace us m) q f.2
