-- Items that are appended one by one.
use Rattle.std.proofs.Common.{◌≡◌, ℕ, zero, suc, ◌+◌, ◌≤◌, List, [], ◌∷◌, ◌++◌, length, drop, Some, refl, sym, ap, ◌∙◌, append_assoc, arith}
use Rattle.std.specs.Prelude.{codes, slice_get, unsigned_abs}
use Rattle.std.proofs.lemmas.Option.{same_Some}
use Rattle.mm_poly.specs.declared.term.Term.{Term}
use Rattle.cert_text.specs.Text.{factor_text, more_factors, next_sign, term_text, more_terms}

-- the item at a place begins what is left there
drop_at : {A : Type 0} (n : ℕ) (xs : List A) (x : A) → slice_get xs n ≡ Some x → drop n xs ≡ x ∷ drop (n + 1) xs
drop_at n [] x e = absurd cc
drop_at zero (y ∷ xs) x e = ap (λ z. z ∷ xs) (same_Some y x e)
drop_at (suc n) (y ∷ xs) x e = let k : suc (n + 1) ≡ suc n + 1 = omega arith in drop_at n xs x e ∙ ap (λ m. x ∷ drop m (y ∷ xs)) k

pub nothing_left : {A : Type 0} (n : ℕ) (xs : List A) → length xs ≤ n → drop n xs ≡ []
nothing_left zero [] le = refl
nothing_left (suc n) [] le = refl
nothing_left zero (x ∷ xs) le = absurd (omega arith)
nothing_left (suc n) (x ∷ xs) le = nothing_left n xs (omega arith)

pub factor_step : (out : List ℕ) (fs : List (ℕ × ℕ)) (n : ℕ) (f : ℕ × ℕ) → slice_get fs n ≡ Some f → (out ++ more_factors (f ∷ [])) ++ more_factors (drop (n + 1) fs) ≡ out ++ more_factors (drop n fs)
factor_step out fs n f e =
    let left = more_factors (drop (n + 1) fs) in
    append_assoc out (codes "*" ++ (factor_text f ++ [])) left ∙ ap (λ t. out ++ (codes "*" ++ t)) (append_assoc (factor_text f) [] left) ∙ ap (λ t. out ++ more_factors t) (sym (drop_at n fs f e))

pub term_step : (out : List ℕ) (ts : List Term) (n : ℕ) (t : Term) → slice_get ts n ≡ Some t → (out ++ more_terms (t ∷ [])) ++ more_terms (drop (n + 1) ts) ≡ out ++ more_terms (drop n ts)
term_step out ts n t e =
    let left = more_terms (drop (n + 1) ts) in
    let sign = next_sign t.coeff in
    let term = term_text (unsigned_abs t.coeff) t.mono in
    append_assoc out (sign ++ (term ++ [])) left ∙ ap (λ b. out ++ b) (append_assoc sign (term ++ []) left ∙ ap (λ b. sign ++ b) (append_assoc term [] left)) ∙ ap (λ t. out ++ more_terms t) (sym (drop_at n ts t e))
