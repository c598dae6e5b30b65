-- A sink that is handed one thing after another.
use Rattle.std.proofs.Common.{◌≡◌, ℕ, ◌<◌, List, [], ◌∷◌, ◌++◌, length, get_or, take, drop, refl, sym, ap, subst, ◌∙◌, append_assoc, arith, zero, suc}
use Rattle.std.specs.List.{flat_map}

flat_parts : {X : Type 0} (spell : X → List ℕ) (xs : List X) (i : ℕ) (d : X) → i < length xs → flat_map spell xs ≡ (flat_map spell (take i xs) ++ spell (get_or xs i d)) ++ flat_map spell (drop (suc i) xs)
flat_parts spell [] i d h = absurd (omega arith)
flat_parts spell (x ∷ xs) zero d h = refl
flat_parts spell (x ∷ xs) (suc i) d h =
    ap (λ t. spell x ++ t) (flat_parts spell xs i d (omega arith))
    ∙ sym (append_assoc (spell x) (flat_map spell (take i xs) ++ spell (get_or xs i d)) (flat_map spell (drop (suc i) xs)))
    ∙ ap (λ t. t ++ flat_map spell (drop (suc i) xs)) (sym (append_assoc (spell x) (flat_map spell (take i xs)) (spell (get_or xs i d))))

-- one is refused
pub one_refused : {S X : Type 0} (took : S → List ℕ → S → Type 0) (refuses : S → List ℕ → Type 0)
    → ((a : S) (x y : List ℕ) → refuses a x → refuses a (x ++ y))
    → ((a b : S) (x y : List ℕ) → took a x b → refuses b y → refuses a (x ++ y))
    → (spell : X → List ℕ) (xs : List X) (i : ℕ) (d : X) (a b : S) → i < length xs
    → took a (flat_map spell (take i xs)) b → refuses b (spell (get_or xs i d)) → refuses a (flat_map spell xs)
one_refused took refuses at_once later spell xs i d a b h t r =
    subst (refuses a) (sym (flat_parts spell xs i d h)) (at_once a (flat_map spell (take i xs) ++ spell (get_or xs i d)) (flat_map spell (drop (suc i) xs)) (later a b (flat_map spell (take i xs)) (spell (get_or xs i d)) t r))

-- the same, where the element is at hand
pub item_refused : {S X : Type 0} (took : S → List ℕ → S → Type 0) (refuses : S → List ℕ → Type 0)
    → ((a : S) (x y : List ℕ) → refuses a x → refuses a (x ++ y))
    → ((a b : S) (x y : List ℕ) → took a x b → refuses b y → refuses a (x ++ y))
    → (spell : X → List ℕ) (xs : List X) (i : ℕ) (x : X) (a b : S) → i < length xs → x ≡ get_or xs i x
    → took a (flat_map spell (take i xs)) b → refuses b (spell x) → refuses a (flat_map spell xs)
item_refused took refuses at_once later spell xs i x a b h is t r =
    one_refused took refuses at_once later spell xs i x a b h t (subst (λ y. refuses b (spell y)) is r)
