-- The unknowns of rows are distinct, and none is the constant monomial.
use Rattle.std.specs.Prelude.{◌≡◌, ◌⊎◌, ℕ, ℤ, pos, List, [], ◌∷◌, get_or, map, Bool, true, false, cond, zero, suc, refl}
use Rattle.std.proofs.Common.{ap, sym, ◌∙◌, subst, inl, inr}
use Rattle.std.specs.List.{AllByRecursion}
use Rattle.std.specs.declared.cmp.Ordering.TheVariants.{Less, Equal, Greater}
use Rattle.mm_poly.specs.declared.term.Term.{Term}
use Rattle.mm_poly.specs.Mono.{mono_cmp, is_constant}
use Rattle.mm_poly.proofs.OrderLaws.{mono_not_self, mono_exact, mono_back}
use Rattle.mm_poly.proofs.CaseLaws.{by_cases}
use Rattle.cert_kit.specs.declared.row.PRow.{PRow}
use Rattle.fm_elim.specs.Unknowns.{with_unknown, with_unknowns, unknowns}
use Rattle.fm_elim.proofs.SolveLaws.{Has}
use Rattle.fm_elim.proofs.NumberLaws.{Rise}
use Rattle.relaxation.specs.Relaxing.{Mono}

-- what comes before all of a list isn't in it
pub not_later : (u : Mono) (us : List Mono) → AllByRecursion (λ w. mono_cmp u w ≡ Less) us → Has u us → ⊥
not_later u [] a h = h
not_later u (w ∷ us) a (inl e) = mono_not_self u (subst (λ (m : Mono). mono_cmp u m ≡ Less) (sym e) a.0)
not_later u (w ∷ us) a (inr h) = not_later u us a.1 h

abbrev pub IsUnknown : Mono → Type 0
IsUnknown u = is_constant u ≡ false

unknown_with : (m : Mono) (us : List Mono) → IsUnknown m → AllByRecursion IsUnknown us → AllByRecursion IsUnknown (with_unknown m us)
unknown_with m [] h a = (h, tt)
unknown_with m (u ∷ us) h a = by_cases (mono_cmp m u)
    (λ e. rw (e, with_unknown) (h, a)) (λ e. rw (e, with_unknown) a) (λ e. rw (e, with_unknown) (a.0, unknown_with m us h a.1))

unknown_terms : (ts : List Term) (us : List Mono) → AllByRecursion IsUnknown us → AllByRecursion IsUnknown (with_unknowns ts us)
unknown_terms [] us a = a
unknown_terms (t ∷ ts) us a = by_test (is_constant t.mono) refl (unknown_terms ts us a)
  where
    by_test : (b : Bool) → is_constant t.mono ≡ b → AllByRecursion IsUnknown (with_unknowns ts us)
        → AllByRecursion IsUnknown (cond b (with_unknowns ts us) (with_unknown t.mono (with_unknowns ts us)))
    by_test true e k = k
    by_test false e k = unknown_with t.mono (with_unknowns ts us) e k

-- no unknown is the constant monomial
pub are_unknowns : (rows : List PRow) → AllByRecursion IsUnknown (unknowns rows)
are_unknowns [] = tt
are_unknowns (r ∷ rows) = unknown_terms r.poly (unknowns rows) (are_unknowns rows)

pub no_constant : (us : List Mono) → AllByRecursion IsUnknown us → Has [] us → ⊥
no_constant [] a h = h
no_constant (u ∷ us) a (inl e) = true_not_false (ap is_constant e ∙ a.0)
  where
    true_not_false : true ≡ false → ⊥
    true_not_false k = absurd cc
no_constant (u ∷ us) a (inr h) = no_constant us a.1 h

-- whether a monomial is in a list
pub has_or_not : (m : Mono) (us : List Mono) → Has m us ⊎ (Has m us → ⊥)
has_or_not m [] = inr (λ h. h)
has_or_not m (u ∷ us) = elim (has_or_not m us) as (λ _. Has m (u ∷ us) ⊎ (Has m (u ∷ us) → ⊥)) [
  | inl h ↦ inl (inr h)
  | inr n ↦ by_cases (mono_cmp m u)
      (λ e. inr (λ h. elim h as (λ _. ⊥) [ inl s ↦ mono_not_self m (subst (λ (k : Mono). mono_cmp m k ≡ Less) (sym s) e) | inr k ↦ n k ]))
      (λ e. inl (inl (mono_exact m u e)))
      (λ e. inr (λ h. elim h as (λ _. ⊥) [ inl s ↦ not_above m u s e | inr k ↦ n k ]))
]
  where
    not_above : (a b : Mono) → a ≡ b → mono_cmp a b ≡ Greater → ⊥
    not_above a b s e = mono_not_self a (subst (λ (k : Mono). mono_cmp k a ≡ Less) (sym s) (mono_back a b e))

-- the place of an element, at which each image of the list has the element's image
pub has_place : (m : Mono) (us : List Mono) → Has m us → (i : ℕ) × ((f : Mono → ℤ) → get_or (map f us) i (pos 0) ≡ f m)
has_place m [] h = absurd h
has_place m (u ∷ us) (inl e) = (0, λ f. ap f (sym e))
has_place m (u ∷ us) (inr h) = let r = has_place m us h in (suc r.0, r.1)
