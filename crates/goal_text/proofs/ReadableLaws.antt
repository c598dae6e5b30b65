-- What an expression and prefixes have from their tokens: small literals, no more nodes than tokens, and names.
use Rattle.std.proofs.Common.{◌≡◌, ℕ, ◌≤◌, Bool, true, List, [], ◌∷◌, ◌++◌, length, map, Some, refl, sym, ap, ◌∙◌, length-append, arith}
use Rattle.std.specs.Prelude.{pos, int_le, ◌&&◌}
use Rattle.std.specs.List.{AllByRecursion}
use Rattle.std.proofs.lemmas.Int.{ints}
use Rattle.std.proofs.lemmas.Option.{same_Some}
use Rattle.goal_ast.specs.declared.term.Sort.{Sort}
use Rattle.goal_ast.specs.Sorted.{is_small}
use Rattle.goal_token.specs.declared.token.Keyword.TheVariants as keywords
use Rattle.goal_token.specs.declared.token.Sign.TheVariants as signs
use Rattle.goal_token.specs.declared.token.Token.{Token}
use Rattle.goal_token.specs.declared.token.Token.TheVariants as tokens
use Rattle.goal_token.specs.declared.token.Placed.{Placed}
use Rattle.goal_token.specs.Numbers.{sign_number, function_number}
use Rattle.goal_token.specs.Tokens.{IsSmallToken, AreSmall}
use Rattle.goal_token.specs.Spacing.{IsName}
use Rattle.goal_token.proofs.SpacingLaws.{IsNamed}
use Rattle.goal_sort.specs.declared.raw.Head.{Head}
use Rattle.goal_sort.specs.declared.raw.Head.TheVariants as heads
use Rattle.goal_sort.specs.declared.raw.RawBound.{RawBound}
use Rattle.goal_sort.specs.declared.raw.RawExpr.{RawExpr}
use Rattle.goal_sort.specs.declared.raw.RawExpr.TheFolds.{fold-roll-RawExpr}
use Rattle.goal_sort.specs.Sorting.{head_fits, all_true, literals_level, literals_fit, raw_nodes, IsReadable}
use Rattle.goal_text.specs.declared.state.Named.{Named}
use Rattle.goal_text.specs.Grammar.{sign, leaf_of, constant_text, Expr, leaf, grouped, applied, applied_to_two, prefixed, joined, chained}
use Rattle.goal_text.specs.Files.{word, sort, name, group, bounds, Groups, first_group, next_group, Prefixes, no_prefix, bare_prefix, grouped_prefix}
use Rattle.goal_sort.specs.declared.raw.RawSession.{RawSession}
use Rattle.goal_text.specs.GoalsRead.{IsGoalOfFile, AreGoalsOfFile, AreReadable}
use Rattle.goal_sort.proofs.NumberLaws.{raw_size}
use Rattle.mm_num.proofs.ListLaws.{all_join}
use Rattle.goal_sort.specs.IsSorted.{node}

-- ---- what holds of each element of two lists

pub all_of_first : {A : Type 0} (P : A → Type 0) (xs ys : List A) → AllByRecursion P (xs ++ ys) → AllByRecursion P xs
all_of_first P [] ys a = tt
all_of_first P (x ∷ xs) ys a = (a.0, all_of_first P xs ys a.1)

pub all_of_second : {A : Type 0} (P : A → Type 0) (xs ys : List A) → AllByRecursion P (xs ++ ys) → AllByRecursion P ys
all_of_second P [] ys a = a
all_of_second P (x ∷ xs) ys a = all_of_second P xs ys a.1

pub all_more : {A : Type 0} (P Q : A → Type 0) (xs : List A) → ((x : A) → P x → Q x) → AllByRecursion P xs → AllByRecursion Q xs
all_more P Q [] f a = tt
all_more P Q (x ∷ xs) f a = (f x a.0, all_more P Q xs f a.1)

-- ---- nodes: each has a token of its own

pub few_nodes : {m : ℕ} {e : RawExpr} {ts : List Placed} → Expr m e ts → raw_nodes e ≤ length ts
few_nodes (leaf h t is) = omega (arith, raw_size h t.at [])
few_nodes (grouped {e = e} {ts = ts} p q d) = omega (arith, few_nodes d, length-append ts (sign signs.Close q ∷ []))
few_nodes (applied {a = a} {ts = ts} f p low is d) = omega (arith, few_nodes d, raw_size (heads.Apply (function_number f)) p (a ∷ []))
few_nodes (applied_to_two {a = a} {b = b} {ts = ts} {us = us} f p low is d c) =
    omega (arith, few_nodes d, few_nodes c, raw_size (heads.Apply (function_number f)) p (a ∷ b ∷ []), length-append ts us)
few_nodes (prefixed {a = a} {ts = ts} s p l is low d) = omega (arith, few_nodes d, raw_size (heads.Prefix (sign_number s)) p (a ∷ []))
few_nodes (joined {a = a} {b = b} {ts = ts} {us = us} s p l is low d c) =
    omega (arith, few_nodes d, few_nodes c, raw_size (heads.Infix (sign_number s)) p (a ∷ b ∷ []), length-append ts (sign s p ∷ us))
few_nodes (chained {a = a} {b = b} {c = c} {ts = ts} {us = us} {vs = vs} s t p q first second low x y z) =
    omega (arith, few_nodes x, few_nodes y, few_nodes z, raw_size (heads.Chain (sign_number s) (sign_number t)) p (a ∷ b ∷ c ∷ []), length-append ts (sign s p ∷ (us ++ sign t q ∷ vs)), length-append us (sign t q ∷ vs))

-- ---- literals: each is that of a token

literals_are : (h : Head) (p : ℕ) (parts : List RawExpr) → literals_fit (node h p parts) ≡ head_fits h && all_true (map literals_fit parts)
literals_are h p parts = fold-roll-RawExpr Bool literals_level (record { head = h; at = p; parts = parts })

both_true : (a b : Bool) → a ≡ true → b ≡ true → a && b ≡ true
both_true a b p q = rw p q

leaf_fits : (t : Token) (h : Head) → leaf_of t ≡ Some h → IsSmallToken t → head_fits h ≡ true
leaf_fits (tokens.Literal n) h is small = ap head_fits (same_Some h (heads.Lit n) (sym is)) ∙ both_true (int_le (pos 0) n) (is_small n) (grind (arith, ints, small)) (grind (arith, small))
leaf_fits (tokens.Name x) h is small = ap head_fits (same_Some h (heads.Name x) (sym is))
leaf_fits (tokens.Constant c) h is small = ap head_fits (same_Some h (heads.Name (record { bytes = constant_text c })) (sym is))
leaf_fits (tokens.Keyword k) h is small = absurd cc
leaf_fits (tokens.Sort s) h is small = absurd cc
leaf_fits (tokens.Function f) h is small = absurd cc
leaf_fits (tokens.Sign s) h is small = absurd cc
leaf_fits tokens.Wrong h is small = absurd cc

one_fits : (h : Head) (p : ℕ) (a : RawExpr) → head_fits h ≡ true → literals_fit a ≡ true → literals_fit (node h p (a ∷ [])) ≡ true
one_fits h p a k x = literals_are h p (a ∷ []) ∙ both_true (head_fits h) _ k (both_true (literals_fit a) true x refl)

two_fit : (h : Head) (p : ℕ) (a b : RawExpr) → head_fits h ≡ true → literals_fit a ≡ true → literals_fit b ≡ true → literals_fit (node h p (a ∷ b ∷ [])) ≡ true
two_fit h p a b k x y = literals_are h p (a ∷ b ∷ []) ∙ both_true (head_fits h) _ k (both_true (literals_fit a) _ x (both_true (literals_fit b) true y refl))

three_fit : (h : Head) (p : ℕ) (a b c : RawExpr) → head_fits h ≡ true → literals_fit a ≡ true → literals_fit b ≡ true → literals_fit c ≡ true → literals_fit (node h p (a ∷ b ∷ c ∷ [])) ≡ true
three_fit h p a b c k x y z =
    literals_are h p (a ∷ b ∷ c ∷ []) ∙ both_true (head_fits h) _ k (both_true (literals_fit a) _ x (both_true (literals_fit b) _ y (both_true (literals_fit c) true z refl)))

-- small tokens on the left and on the right of others
first_small : (ts us : List Placed) → AreSmall (ts ++ us) → AreSmall ts
first_small ts us all = all_of_first (λ (t : Placed). IsSmallToken t.token) ts us all

second_small : (ts us : List Placed) → AreSmall (ts ++ us) → AreSmall us
second_small ts us all = all_of_second (λ (t : Placed). IsSmallToken t.token) ts us all

pub fitting_literals : {m : ℕ} {e : RawExpr} {ts : List Placed} → Expr m e ts → AreSmall ts → literals_fit e ≡ true
fitting_literals (leaf h t is) all = literals_are h t.at [] ∙ both_true (head_fits h) true (leaf_fits t.token h is all.0) refl
fitting_literals (grouped {ts = ts} p q d) all = fitting_literals d (first_small ts (sign signs.Close q ∷ []) all.1)
fitting_literals (applied {a = a} f p low is d) all = one_fits (heads.Apply (function_number f)) p a refl (fitting_literals d all.1)
fitting_literals (applied_to_two {a = a} {b = b} {ts = ts} {us = us} f p low is d c) all =
    two_fit (heads.Apply (function_number f)) p a b refl (fitting_literals d (first_small ts us all.1)) (fitting_literals c (second_small ts us all.1))
fitting_literals (prefixed {a = a} s p l is low d) all = one_fits (heads.Prefix (sign_number s)) p a refl (fitting_literals d all.1)
fitting_literals (joined {a = a} {b = b} {ts = ts} {us = us} s p l is low d c) all =
    let right = second_small ts (sign s p ∷ us) all in
    two_fit (heads.Infix (sign_number s)) p a b refl (fitting_literals d (first_small ts (sign s p ∷ us) all)) (fitting_literals c right.1)
fitting_literals (chained {a = a} {b = b} {c = c} {ts = ts} {us = us} {vs = vs} s t p q first second low x y z) all =
    let more = (second_small ts (sign s p ∷ (us ++ sign t q ∷ vs)) all).1 in
    let right = second_small us (sign t q ∷ vs) more in
    three_fit (heads.Chain (sign_number s) (sign_number t)) p a b c refl (fitting_literals x (first_small ts (sign s p ∷ (us ++ sign t q ∷ vs)) all)) (fitting_literals y (first_small us (sign t q ∷ vs) more)) (fitting_literals z right.1)

-- ---- names: each that is bound is that of a token

abbrev AreNamed : List Placed → Type 0
AreNamed ts = AllByRecursion (λ (t : Placed). IsNamed t.token) ts

abbrev BindNames : List RawBound → Type 0
BindNames bs = AllByRecursion (λ (b : RawBound). IsName b.name.bytes) bs

first_named : (ts us : List Placed) → AreNamed (ts ++ us) → AreNamed ts
first_named ts us all = all_of_first (λ (t : Placed). IsNamed t.token) ts us all

second_named : (ts us : List Placed) → AreNamed (ts ++ us) → AreNamed us
second_named ts us all = all_of_second (λ (t : Placed). IsNamed t.token) ts us all

both_bind : (bs cs : List RawBound) → BindNames bs → BindNames cs → BindNames (bs ++ cs)
both_bind bs cs a b = all_join (λ (b : RawBound). IsName b.name.bytes) bs cs a b

names_bind : (s : Sort) (names : List Named) → AreNamed (map name names) → BindNames (bounds s names)
names_bind s [] all = tt
names_bind s (n ∷ names) all = (all.0, names_bind s names all.1)

group_binds : (names : List Named) (p : ℕ) (s : Sort) (q : ℕ) (more : List Placed) → AreNamed (group names p s q ++ more) → BindNames (bounds s names)
group_binds names p s q more all = names_bind s names (first_named (map name names) (sign signs.Colon p ∷ sort s q ∷ []) (first_named (group names p s q) more all))

groups_bind : {bs : List RawBound} {ts : List Placed} → Groups bs ts → AreNamed ts → BindNames bs
groups_bind (first_group p q r t names s some) all = group_binds names q s r (sign signs.Close t ∷ []) all.1
groups_bind (next_group {bs = bs} {ts = ts} p q r t names s before some) all =
    let more : List Placed = group names q s r ++ sign signs.Close t ∷ [] in
    let last = second_named ts (sign signs.Open p ∷ more) all in
    both_bind bs (bounds s names) (groups_bind before (first_named ts (sign signs.Open p ∷ more) all)) (group_binds names q s r (sign signs.Close t ∷ []) last.1)

pub prefixes_bind : {bs : List RawBound} {ts : List Placed} → Prefixes bs ts → AllByRecursion (λ (t : Placed). IsNamed t.token) ts → AllByRecursion (λ (b : RawBound). IsName b.name.bytes) bs
prefixes_bind no_prefix all = tt
prefixes_bind (bare_prefix {bs = bs} {ts = ts} p q r t names s before some) all =
    let more : List Placed = group names q s r ++ sign signs.Comma t ∷ [] in
    let last = second_named ts (word keywords.Forall p ∷ more) all in
    both_bind bs (bounds s names) (prefixes_bind before (first_named ts (word keywords.Forall p ∷ more) all)) (group_binds names q s r (sign signs.Comma t ∷ []) last.1)
prefixes_bind (grouped_prefix {bs = bs} {cs = cs} {ts = ts} {us = us} p t before groups) all =
    let last = second_named ts (word keywords.Forall p ∷ (us ++ sign signs.Comma t ∷ [])) all in
    both_bind bs cs (prefixes_bind before (first_named ts (word keywords.Forall p ∷ (us ++ sign signs.Comma t ∷ [])) all)) (groups_bind groups (first_named us (sign signs.Comma t ∷ []) last.1))

-- ---- goals of a file

pub readable_of_file : (ss : List RawSession) → AreGoalsOfFile ss → AreReadable ss
readable_of_file ss =
    all_more (λ (s : RawSession). AllByRecursion IsGoalOfFile s.goals) (λ (s : RawSession). AllByRecursion IsReadable s.goals) ss (λ s. all_more IsGoalOfFile IsReadable s.goals (λ raw (g : IsGoalOfFile raw). g.readable))
