-- A text is looked up among the texts of its length alone.
use Rattle.std.proofs.Common.{◌≡◌, ◌≢◌, ℕ, zero, suc, ◌<◌, ◌≤◌, Bool, true, false, cond, eqb, leb, List, [], ◌∷◌, length, Some, None, refl, sym, ap, subst, ◌∙◌, arith}
use Rattle.std.specs.List.{list_all}
use Rattle.std.specs.Cmp.Lexicographic.{pointwise}
use Rattle.std.proofs.lemmas.Bool.{eq-eqb, ne_eqb, leb-true, and_parts}
use Rattle.goal_token.specs.Words.{Table, lookup, of_length, words}

-- equal texts have one length
same_length : (xs ys : List ℕ) → pointwise eqb xs ys ≡ true → length xs ≡ length ys
same_length [] [] e = refl
same_length [] (y ∷ ys) e = absurd cc
same_length (x ∷ xs) [] e = absurd cc
same_length (x ∷ xs) (y ∷ ys) e = ap suc (same_length xs ys (and_parts (eqb x y) (pointwise eqb xs ys) e).1)

pick : {A : Type 0} (same fits : Bool) (text : List ℕ) (entry : List ℕ × A) (rest table : Table A) → pointwise eqb text entry.0 ≡ same → (same ≡ true → fits ≡ true)
    → lookup text rest ≡ lookup text table → lookup text (cond fits (entry ∷ rest) rest) ≡ cond same (Some entry.1) (lookup text table)
pick true true text entry rest table p h others = rw p refl
pick true false text entry rest table p h others = let e : false ≡ true = h refl in absurd cc
pick false true text entry rest table p h others = rw p others
pick false false text entry rest table p h others = others

among : {A : Type 0} (text : List ℕ) (table : Table A) → lookup text (of_length (length text) table) ≡ lookup text table
among text [] = refl
among text (entry ∷ table) =
    pick (pointwise eqb text entry.0) (eqb (length entry.0) (length text)) text entry (of_length (length text) table) table refl
    (λ e. eq-eqb (length entry.0) (length text) (sym (same_length text entry.0 e))) (among text table)

pub by_length : {A : Type 0} (n : ℕ) (text : List ℕ) (table : Table A) → length text ≡ n → lookup text (of_length n table) ≡ lookup text table
by_length n text table e = subst (λ k. lookup text (of_length k table) ≡ lookup text table) e (among text table)

drops : {A : Type 0} (fits : Bool) (entry : List ℕ × A) (rest : Table A) → fits ≡ false → rest ≡ [] → cond fits (entry ∷ rest) rest ≡ []
drops true entry rest e f = absurd cc
drops false entry rest e f = f

none_longer : {A : Type 0} (most n : ℕ) (table : Table A) → list_all (λ entry. leb (length entry.0) most) table ≡ true → most < n → of_length n table ≡ []
none_longer most n [] all lt = refl
none_longer {A} most n (entry ∷ table) all lt =
    let p = and_parts (leb (length entry.0) most) (list_all (λ (x : List ℕ × A). leb (length x.0) most) table) all in
    let le : length entry.0 ≤ most = leb-true (length entry.0) most p.0 in
    drops (eqb (length entry.0) n) entry (of_length n table) (ne_eqb (length entry.0) n (λ e. omega arith)) (none_longer most n table p.1 lt)

none_of : (n : ℕ) → n ≢ 1 → n ≢ 3 → n ≢ 4 → n ≢ 5 → n ≢ 6 → n ≢ 7 → n ≢ 8 → of_length n words ≡ []
unfolding words
none_of zero a b c d e f g = refl
none_of (suc zero) a b c d e f g = absurd (a refl)
none_of (suc (suc zero)) a b c d e f g = refl
none_of (suc (suc (suc n))) a b c d e f g = none_longer 8 (suc (suc (suc n))) words refl (omega arith)

pub no_word : (text : List ℕ) → length text ≢ 1 → length text ≢ 3 → length text ≢ 4 → length text ≢ 5 → length text ≢ 6 → length text ≢ 7 → length text ≢ 8 → lookup text words ≡ None
no_word text a b c d e f g = sym (among text words) ∙ ap (lookup text) (none_of (length text) a b c d e f g)
