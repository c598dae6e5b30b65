-- The turns of a power.
use Rattle.std.specs.Prelude.{◌≡◌, ℕ, zero, suc, ◌+◌, ◌≤◌, List, Option, Some, None}
use Rattle.std.proofs.Common.{ap, ◌∙◌, sym, subst, arith, inl, inr}
use Rattle.std.proofs.lemmas.Bool.{cases_lt}
use Rattle.mm_num.specs.Option.{◌>>=◌}
use Rattle.mm_poly.specs.declared.term.Term.{Term}
use Rattle.clause_form.specs.machine.Fitting.{fitted_product, turns_product}

-- one more turn
pub turn_more : (p r : List Term) (n m : ℕ) (o : Option (List Term)) → turns_product p n ≡ Some r → o ≡ fitted_product p r → m ≡ n + 1 → turns_product p m ≡ o
turn_more p r n m o e f k =
    let s : suc n ≡ m = omega arith in
    subst (λ j. turns_product p j ≡ o) s (ap (λ (q : Option (List Term)). q >>= λ r. fitted_product p r) e ∙ sym f)

stops_next : (p : List Term) (k : ℕ) → turns_product p k ≡ None → turns_product p (suc k) ≡ None
stops_next p k q = ap (λ (o : Option (List Term)). o >>= λ r. fitted_product p r) q

-- where some turn has no room, later ones haven't
pub turns_stop : (p : List Term) (m n : ℕ) → m ≤ n → turns_product p m ≡ None → turns_product p n ≡ None
turns_stop p m zero h e = let z : m ≡ zero = omega arith in subst (λ k. turns_product p k ≡ None) z e
turns_stop p m (suc n) h e = elim (cases_lt m (suc n)) [
  | inl l ↦ stops_next p n (turns_stop p m n (omega arith) e)
  | inr l ↦ let z : m ≡ suc n = omega arith in subst (λ k. turns_product p k ≡ None) z e
]
