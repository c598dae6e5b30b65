-- A file with one goal whose body has at most 2,048 tokens and that binds at most 256 names is within the limits.
use Rattle.std.proofs.Common.{◌≡◌, ◌≢◌, ℕ, ◌+◌, ◌≤◌, List, [], ◌∷◌, ◌++◌, length, map, ◌⊎◌, inl, inr, Some, None, refl, sym, ap, subst, ◌∙◌, length-append, append_assoc, arith}
use Rattle.std.proofs.lemmas.List.{length-map}
use Rattle.std.proofs.lemmas.Option.{same_Some}
use Rattle.mm_num.proofs.OptionLaws.{bind_some}
use Rattle.goal_ast.specs.declared.goal.Mode.{Mode}
use Rattle.goal_ast.specs.declared.goal.Mode.TheVariants.{Lia, Nia}
use Rattle.goal_ast.specs.declared.goal.Name.{Name}
use Rattle.goal_ast.specs.declared.term.Sort.{Sort}
use Rattle.goal_token.specs.declared.token.Keyword.{Keyword}
use Rattle.goal_token.specs.declared.token.Keyword.TheVariants as keywords
use Rattle.goal_token.specs.declared.token.Sign.TheVariants as signs
use Rattle.goal_token.specs.declared.token.Token.{Token}
use Rattle.goal_token.specs.declared.token.Token.TheVariants as tokens
use Rattle.goal_token.specs.declared.token.Placed.{Placed}
use Rattle.goal_sort.specs.declared.raw.RawBound.{RawBound}
use Rattle.goal_sort.specs.declared.raw.RawExpr.{RawExpr}
use Rattle.goal_sort.specs.declared.raw.RawSession.{RawSession}
use Rattle.goal_sort.specs.declared.raw.Head.{Head}
use Rattle.goal_text.specs.declared.state.Named.{Named}
use Rattle.goal_text.specs.Grammar.{sign, leaf_of, Expr, leaf, grouped, applied, applied_to_two, prefixed, joined, chained}
use Rattle.goal_text.specs.Files.{word, sort, name, group, bounds, Groups, first_group, next_group, Prefixes, no_prefix, bare_prefix, grouped_prefix, mode_word, Sessions}
use Rattle.goal_text.specs.Steps.{FileRead, file_with_all, nothing_read}
use Rattle.goal_text.specs.declared.state.Part.TheVariants as parts
use Rattle.goal_text.specs.Operands.{Reading, with_tokens}
use Rattle.goal_text.specs.Counts.{body_count}
use Rattle.goal_text.specs.Refusals.{HasNo, names_in, count_one, count, BodySoFar, BoundSoFar, IsLong, IsMany, IsWithin}
use Rattle.goal_text.proofs.CleanLaws.{has_no_append, names_append, names_count, groups_count, body_has_no_dot}
use Rattle.goal_text.proofs.CountLaws.{body_counted}
use Rattle.goal_text.proofs.FileLaws.{all_append, after_all, in_the_goal, prefixes_read, head_reads, sessions_read}
use Rattle.goal_text.proofs.LandingLaws.{lands, has_token}
use Rattle.goal_text.proofs.OutcomeLaws.{count_append}
use Rattle.goal_text.proofs.ShortLaws.{first_has_no, second_has_no}

-- ---- lists cut at two places

-- the one cut lies before the other
pub record IsBefore (a b c d : List Placed) (t : Placed) : Type 0 where
  pub between : List Placed
  pub longer : c ≡ a ++ t ∷ between
  pub rest : b ≡ between ++ d

pub record IsAfter (a b c d : List Placed) (t : Placed) : Type 0 where
  pub between : List Placed
  pub longer : a ≡ c ++ between
  pub rest : d ≡ between ++ t ∷ b

pub first_is : {A : Type 0} {x y : A} {xs ys : List A} → x ∷ xs ≡ y ∷ ys → x ≡ y
first_is e = cc

pub others_are : {A : Type 0} {x y : A} {xs ys : List A} → x ∷ xs ≡ y ∷ ys → xs ≡ ys
others_are e = cc

with_before : (x : Placed) (a b c d : List Placed) (t : Placed) → IsBefore a b c d t → IsBefore (x ∷ a) b (x ∷ c) d t
with_before x a b c d t i = record { between = i.between; longer = ap (λ (ts : List Placed). x ∷ ts) i.longer; rest = i.rest }

with_after : (x : Placed) (a b c d : List Placed) (t : Placed) → IsAfter a b c d t → IsAfter (x ∷ a) b (x ∷ c) d t
with_after x a b c d t i = record { between = i.between; longer = ap (λ (ts : List Placed). x ∷ ts) i.longer; rest = i.rest }

pub two_cuts : (a b c d : List Placed) (t : Placed) → a ++ t ∷ b ≡ c ++ d → IsBefore a b c d t ⊎ IsAfter a b c d t
two_cuts a b [] d t e = inr (record { between = a; longer = refl; rest = sym e })
two_cuts [] b (y ∷ c) d t e = inl (record { between = c; longer = ap (λ (x : Placed). x ∷ c) (sym (first_is e)); rest = others_are e })
two_cuts (x ∷ a) b (y ∷ c) d t e = elim (two_cuts a b c d t (others_are e)) [
  | inl i ↦ inl (subst (λ (z : Placed). IsBefore (x ∷ a) b (z ∷ c) d t) (first_is e) (with_before x a b c d t i))
  | inr i ↦ inr (subst (λ (z : Placed). IsAfter (x ∷ a) b (z ∷ c) d t) (first_is e) (with_after x a b c d t i))
]

pub has_no_there : (k : Token) (ts us : List Placed) (t : Placed) → HasNo k (ts ++ t ∷ us) → t.token ≢ k
has_no_there k ts us t h = (second_has_no k ts (t ∷ us) h).0

-- ---- no keyword stands in an expression, and but `forall` none in prefixes

leaf_no_keyword : (k : Keyword) (t : Token) (h : Head) → leaf_of t ≡ Some h → t ≢ tokens.Keyword k
leaf_no_keyword k (tokens.Literal n) h e = λ f. absurd (cc)
leaf_no_keyword k (tokens.Name x) h e = λ f. absurd (cc)
leaf_no_keyword k (tokens.Constant c) h e = λ f. absurd (cc)
leaf_no_keyword k (tokens.Keyword l) h e = absurd (cc)
leaf_no_keyword k (tokens.Sort s) h e = absurd (cc)
leaf_no_keyword k (tokens.Function f) h e = absurd (cc)
leaf_no_keyword k (tokens.Sign s) h e = absurd (cc)
leaf_no_keyword k tokens.Wrong h e = absurd (cc)

pub expression_no_keyword : {m : ℕ} {e : RawExpr} {ts : List Placed} (k : Keyword) → Expr m e ts → HasNo (tokens.Keyword k) ts
expression_no_keyword k (leaf h t e) = (leaf_no_keyword k t.token h e, tt)
expression_no_keyword k (grouped {ts = ts} p q d) = ((λ f. absurd (cc)), has_no_append (tokens.Keyword k) ts (sign signs.Close q ∷ []) (expression_no_keyword k d) ((λ f. absurd (cc)), tt))
expression_no_keyword k (applied f p l n d) = ((λ e. absurd (cc)), expression_no_keyword k d)
expression_no_keyword k (applied_to_two {ts = ts} {us = us} f p l n d e) = ((λ f. absurd (cc)), has_no_append (tokens.Keyword k) ts us (expression_no_keyword k d) (expression_no_keyword k e))
expression_no_keyword k (prefixed s p l n i d) = ((λ e. absurd (cc)), expression_no_keyword k d)
expression_no_keyword k (joined {ts = ts} {us = us} s p l n i d e) = has_no_append (tokens.Keyword k) ts (sign s p ∷ us) (expression_no_keyword k d) ((λ f. absurd (cc)), expression_no_keyword k e)
expression_no_keyword k (chained {ts = ts} {us = us} {vs = vs} s t p q c d i x y z) =
    has_no_append (tokens.Keyword k) ts (sign s p ∷ (us ++ sign t q ∷ vs)) (expression_no_keyword k x)
    ((λ f. absurd (cc)), has_no_append (tokens.Keyword k) us (sign t q ∷ vs) (expression_no_keyword k y) ((λ f. absurd (cc)), expression_no_keyword k z))

names_no_keyword : (k : Keyword) (names : List Named) → HasNo (tokens.Keyword k) (map name names)
names_no_keyword k [] = tt
names_no_keyword k (n ∷ names) = ((λ e. absurd (cc)), names_no_keyword k names)

group_no_keyword : (k : Keyword) (names : List Named) (p q : ℕ) (s : Sort) (u : Placed) → u.token ≢ tokens.Keyword k → HasNo (tokens.Keyword k) (group names p s q ++ u ∷ [])
group_no_keyword k names p q s u h =
    has_no_append (tokens.Keyword k) (group names p s q) (u ∷ []) (has_no_append (tokens.Keyword k) (map name names) (sign signs.Colon p ∷ sort s q ∷ []) (names_no_keyword k names) ((λ e. absurd (cc)), ((λ e. absurd (cc)), tt))) (h, tt)

groups_no_keyword : {bs : List RawBound} {ts : List Placed} (k : Keyword) → Groups bs ts → HasNo (tokens.Keyword k) ts
groups_no_keyword k (first_group p q r t names s some) = ((λ e. absurd (cc)), group_no_keyword k names q r s (sign signs.Close t) (λ e. absurd (cc)))
groups_no_keyword k (next_group {ts = ts} p q r t names s before some) =
    has_no_append (tokens.Keyword k) ts (sign signs.Open p ∷ (group names q s r ++ sign signs.Close t ∷ [])) (groups_no_keyword k before) ((λ e. absurd (cc)), group_no_keyword k names q r s (sign signs.Close t) (λ e. absurd (cc)))

pub prefixes_no_keyword : {bs : List RawBound} {ts : List Placed} (k : Keyword) → k ≢ keywords.Forall → Prefixes bs ts → HasNo (tokens.Keyword k) ts
prefixes_no_keyword k other no_prefix = tt
prefixes_no_keyword k other (bare_prefix {ts = ts} p q r t names s before some) =
    has_no_append (tokens.Keyword k) ts (word keywords.Forall p ∷ (group names q s r ++ sign signs.Comma t ∷ [])) (prefixes_no_keyword k other before)
    ((λ e. other (word_is k e)), group_no_keyword k names q r s (sign signs.Comma t) (λ e. absurd (cc)))
  where
    word_is : (k : Keyword) → tokens.Keyword keywords.Forall ≡ tokens.Keyword k → k ≡ keywords.Forall
    word_is k e = cc
prefixes_no_keyword k other (grouped_prefix {ts = ts} {us = us} p t before groups) =
    has_no_append (tokens.Keyword k) ts (word keywords.Forall p ∷ (us ++ sign signs.Comma t ∷ [])) (prefixes_no_keyword k other before)
    ((λ e. other (word_is k e)), has_no_append (tokens.Keyword k) us (sign signs.Comma t ∷ []) (groups_no_keyword k groups) ((λ e. absurd (cc)), tt))
  where
    word_is : (k : Keyword) → tokens.Keyword keywords.Forall ≡ tokens.Keyword k → k ≡ keywords.Forall
    word_is k e = cc

-- ---- no dot stands in either

leaf_no_dot : (t : Token) (h : Head) → leaf_of t ≡ Some h → t ≢ tokens.Sign signs.Dot
leaf_no_dot (tokens.Literal n) h e = λ f. absurd (cc)
leaf_no_dot (tokens.Name x) h e = λ f. absurd (cc)
leaf_no_dot (tokens.Constant c) h e = λ f. absurd (cc)
leaf_no_dot (tokens.Keyword l) h e = absurd (cc)
leaf_no_dot (tokens.Sort s) h e = absurd (cc)
leaf_no_dot (tokens.Function f) h e = absurd (cc)
leaf_no_dot (tokens.Sign s) h e = absurd (cc)
leaf_no_dot tokens.Wrong h e = absurd (cc)

names_no_dot : (names : List Named) → HasNo (tokens.Sign signs.Dot) (map name names)
names_no_dot [] = tt
names_no_dot (n ∷ names) = ((λ e. absurd (cc)), names_no_dot names)

group_no_dot : (names : List Named) (p q : ℕ) (s : Sort) (u : Placed) → u.token ≢ tokens.Sign signs.Dot → HasNo (tokens.Sign signs.Dot) (group names p s q ++ u ∷ [])
group_no_dot names p q s u h =
    has_no_append (tokens.Sign signs.Dot) (group names p s q) (u ∷ []) (has_no_append (tokens.Sign signs.Dot) (map name names) (sign signs.Colon p ∷ sort s q ∷ []) (names_no_dot names) ((λ e. absurd (cc)), ((λ e. absurd (cc)), tt))) (h, tt)

groups_no_dot : {bs : List RawBound} {ts : List Placed} → Groups bs ts → HasNo (tokens.Sign signs.Dot) ts
groups_no_dot (first_group p q r t names s some) = ((λ e. absurd (cc)), group_no_dot names q r s (sign signs.Close t) (λ e. absurd (cc)))
groups_no_dot (next_group {ts = ts} p q r t names s before some) =
    has_no_append (tokens.Sign signs.Dot) ts (sign signs.Open p ∷ (group names q s r ++ sign signs.Close t ∷ [])) (groups_no_dot before) ((λ e. absurd (cc)), group_no_dot names q r s (sign signs.Close t) (λ e. absurd (cc)))

pub prefixes_no_dot : {bs : List RawBound} {ts : List Placed} → Prefixes bs ts → HasNo (tokens.Sign signs.Dot) ts
prefixes_no_dot no_prefix = tt
prefixes_no_dot (bare_prefix {ts = ts} p q r t names s before some) =
    has_no_append (tokens.Sign signs.Dot) ts (word keywords.Forall p ∷ (group names q s r ++ sign signs.Comma t ∷ [])) (prefixes_no_dot before) ((λ e. absurd (cc)), group_no_dot names q r s (sign signs.Comma t) (λ e. absurd (cc)))
prefixes_no_dot (grouped_prefix {ts = ts} {us = us} p t before groups) =
    has_no_append (tokens.Sign signs.Dot) ts (word keywords.Forall p ∷ (us ++ sign signs.Comma t ∷ [])) (prefixes_no_dot before) ((λ e. absurd (cc)), has_no_append (tokens.Sign signs.Dot) us (sign signs.Comma t ∷ []) (groups_no_dot groups) ((λ e. absurd (cc)), tt))

-- ---- names in prefixes, and their last comma

bare_count : (names : List Named) (p q r t : ℕ) (s : Sort) → names_in (word keywords.Forall p ∷ (group names q s r ++ sign signs.Comma t ∷ [])) ≡ length names
bare_count names p q r t s =
    let first = names_append (group names q s r) (sign signs.Comma t ∷ []) in
    let second = names_append (map name names) (sign signs.Colon q ∷ sort s r ∷ []) in
    omega (arith, first, second, names_count names)

pub prefixes_count : {bs : List RawBound} {ts : List Placed} → Prefixes bs ts → names_in ts ≡ length bs
prefixes_count no_prefix = refl
prefixes_count (bare_prefix {bs = bs} {ts = ts} p q r t names s before some) =
    let first = names_append ts (word keywords.Forall p ∷ (group names q s r ++ sign signs.Comma t ∷ [])) in
    let two = bare_count names p q r t s in
    let sum = length-append bs (bounds s names) in
    let all : length (bounds s names) ≡ length names = length-map names (λ (n : Named). record { name = n.name; sort = s; at = n.at }) in
    omega (arith, first, prefixes_count before, two, sum, all)
prefixes_count (grouped_prefix {bs = bs} {cs = cs} {ts = ts} {us = us} p t before groups) =
    let first = names_append ts (word keywords.Forall p ∷ (us ++ sign signs.Comma t ∷ [])) in
    let second = names_append us (sign signs.Comma t ∷ []) in
    let two = groups_count groups in
    let sum = length-append bs cs in
    omega (arith, first, second, prefixes_count before, two, sum)

-- prefixes end with a comma, where there are any
pub record EndsWithComma (ts : List Placed) : Type 0 where
  pub front : List Placed
  pub place : ℕ
  pub whole : ts ≡ front ++ sign signs.Comma place ∷ []

prefixes_end : {bs : List RawBound} {ts : List Placed} → Prefixes bs ts → (ts ≡ []) ⊎ EndsWithComma ts
prefixes_end no_prefix = inl refl
prefixes_end (bare_prefix {ts = ts} p q r t names s before some) =
    inr (record { front = ts ++ word keywords.Forall p ∷ group names q s r; place = t; whole = sym (append_assoc ts (word keywords.Forall p ∷ group names q s r) (sign signs.Comma t ∷ [])) })
prefixes_end (grouped_prefix {ts = ts} {us = us} p t before groups) =
    inr (record { front = ts ++ word keywords.Forall p ∷ us; place = t; whole = sym (append_assoc ts (word keywords.Forall p ∷ us) (sign signs.Comma t ∷ [])) })

-- a list that ends with a comma has it after each other of its tokens
comma_follows : (w x o : List Placed) (c d : Placed) → d.token ≢ c.token → w ++ c ∷ [] ≡ x ++ d ∷ o → HasNo c.token o → ⊥
comma_follows [] [] o c d other e none = other (ap (λ (t : Placed). t.token) (sym (first_is e)))
comma_follows [] (y ∷ x) o c d other e none = absurd (let f = others_are e in nothing x o d f)
  where
    nothing : (x o : List Placed) (d : Placed) → [] ≡ x ++ d ∷ o → ⊥
    nothing [] o d e = absurd (cc)
    nothing (y ∷ x) o d e = absurd (cc)
comma_follows (y ∷ w) [] o c d other e none = has_no_there c.token w [] c (subst (HasNo c.token) (sym (others_are e)) none) refl
comma_follows (y ∷ w) (z ∷ x) o c d other e none = comma_follows w x o c d other (others_are e) none

-- ---- counts

other_word : (k l : Keyword) → tokens.Keyword l ≢ tokens.Keyword k → count_one k (tokens.Keyword l) ≡ 0
other_word keywords.Session keywords.Session none = absurd (none refl)
other_word keywords.Goal keywords.Goal none = absurd (none refl)
other_word k l none = refl

no_count_one : (k : Keyword) (t : Token) → t ≢ tokens.Keyword k → count_one k t ≡ 0
no_count_one keywords.Proof t none = refl
no_count_one keywords.Qed t none = refl
no_count_one keywords.Lia t none = refl
no_count_one keywords.Nia t none = refl
no_count_one keywords.Forall t none = refl
no_count_one k (tokens.Constant c) none = refl
no_count_one k (tokens.Sort s) none = refl
no_count_one k (tokens.Function f) none = refl
no_count_one k (tokens.Sign s) none = refl
no_count_one k (tokens.Name x) none = refl
no_count_one k (tokens.Literal n) none = refl
no_count_one k tokens.Wrong none = refl
no_count_one keywords.Session (tokens.Keyword l) none = other_word keywords.Session l none
no_count_one keywords.Goal (tokens.Keyword l) none = other_word keywords.Goal l none

pub no_count : (k : Keyword) (ts : List Placed) → HasNo (tokens.Keyword k) ts → count k ts ≡ 0
no_count k [] none = refl
no_count k (t ∷ ts) none = omega (arith, no_count_one k t.token none.0, no_count k ts none.1)

-- ---- one goal

-- these tokens are a session with one goal, which binds these names and has this body
pub record HasOneGoal (ts : List Placed) (bs : List RawBound) (e : RawExpr) : Type 0 where
  pub session : ℕ
  pub named : Named
  pub opened : ℕ
  pub place : ℕ
  pub head : List Placed
  pub body : List Placed
  pub dot : ℕ
  pub mode : Mode
  pub command : ℕ
  pub end : ℕ
  pub prefixes : Prefixes bs head
  pub expression : Expr 100 e body
  pub whole : ts ≡ word keywords.Session session ∷ name named ∷ sign signs.Dot opened ∷ word keywords.Goal place ∷ (head ++ (body ++ sign signs.Dot dot ∷ word (mode_word mode) command ∷ sign signs.Dot end ∷ []))

mode_is_other : (k : Keyword) (m : Mode) → mode_word m ≡ k → (k ≡ keywords.Lia) ⊎ (k ≡ keywords.Nia)
mode_is_other k Lia e = inl (sym e)
mode_is_other k Nia e = inr (sym e)

-- what stands after a body
abbrev ending : ℕ → Mode → ℕ → ℕ → List Placed
ending p m q r = sign signs.Dot p ∷ word (mode_word m) q ∷ sign signs.Dot r ∷ []

word_is : (k l : Keyword) → tokens.Keyword k ≡ tokens.Keyword l → k ≡ l
word_is k l e = cc

ending_no_keyword : (k : Keyword) (p q r : ℕ) (m : Mode) → k ≢ keywords.Lia → k ≢ keywords.Nia → HasNo (tokens.Keyword k) (ending p m q r)
ending_no_keyword k p q r m l n =
    ((λ e. absurd (cc)), ((λ e. elim (mode_is_other k m (word_is (mode_word m) k e)) [ inl i ↦ l i | inr i ↦ n i ]), ((λ e. absurd (cc)), tt)))

-- the three keywords that stand once, or in no body and no command
rest_no_keyword : (k : Keyword) (bs : List RawBound) (e : RawExpr) (us vs : List Placed) (p q r : ℕ) (m : Mode) → k ≢ keywords.Lia → k ≢ keywords.Nia → HasNo (tokens.Keyword k) us → Expr 100 e vs → HasNo (tokens.Keyword k) (us ++ (vs ++ ending p m q r))
rest_no_keyword k bs e us vs p q r m l n h d =
    has_no_append (tokens.Keyword k) us (vs ++ ending p m q r) h (has_no_append (tokens.Keyword k) vs (ending p m q r) (expression_no_keyword k d) (ending_no_keyword k p q r m l n))

-- the only word `Goal`
after_goal : (outer rest more : List Placed) (p q r s : ℕ) (n : Named) → HasNo (tokens.Keyword keywords.Goal) rest
    → outer ++ word keywords.Goal s ∷ more ≡ word keywords.Session p ∷ name n ∷ sign signs.Dot q ∷ word keywords.Goal r ∷ rest → more ≡ rest
after_goal [] rest more p q r s n h e = let t : tokens.Keyword keywords.Goal ≡ tokens.Keyword keywords.Session = ap (λ (t : Placed). t.token) (first_is e) in absurd (cc)
after_goal (a ∷ []) rest more p q r s n h e = let t : tokens.Keyword keywords.Goal ≡ tokens.Name n.name = ap (λ (t : Placed). t.token) (first_is (others_are e)) in absurd (cc)
after_goal (a ∷ b ∷ []) rest more p q r s n h e = let t : tokens.Keyword keywords.Goal ≡ tokens.Sign signs.Dot = ap (λ (t : Placed). t.token) (first_is (others_are (others_are e))) in absurd (cc)
after_goal (a ∷ b ∷ c ∷ []) rest more p q r s n h e = cc
after_goal (a ∷ b ∷ c ∷ d ∷ outer) rest more p q r s n h e =
    let f : outer ++ word keywords.Goal s ∷ more ≡ rest = cc in
    absurd (has_no_there (tokens.Keyword keywords.Goal) outer more (word keywords.Goal s) (subst (HasNo (tokens.Keyword keywords.Goal)) (sym f) h) refl)

-- ---- the count of a body that was read

body_is : (w : RawSession) (p : ℕ) (bs : List RawBound) (e : RawExpr) (us vs : List Placed) (f : FileRead) → Prefixes bs us → Expr 100 e vs → file_with_all (in_the_goal [] w p [] parts.Head) (us ++ vs) ≡ Some f → body_count f ≡ Some (length vs)
body_is w p bs e us vs f prefixes d read =
    let k = lands d [] (omega arith) in
    let has = has_token d in
    let s : Reading = (k.over ++ [], Some k.last) in
    let on : with_tokens ([], None) (has.0 ∷ has.1) ≡ Some s = subst (λ ts. with_tokens ([], None) ts ≡ Some s) has.2 k.read in
    let all : file_with_all (in_the_goal [] w p bs parts.Head) vs ≡ Some (in_the_goal [] w p bs (parts.Body s (1 + length has.1))) = ap (file_with_all (in_the_goal [] w p bs parts.Head)) has.2 ∙ head_reads [] w p bs s has.0 has.1 on in
    let there : file_with_all (in_the_goal [] w p [] parts.Head) (us ++ vs) ≡ Some (in_the_goal [] w p bs (parts.Body s (1 + length has.1))) = after_all (in_the_goal [] w p [] parts.Head) (in_the_goal [] w p bs parts.Head) us vs (prefixes_read [] w p prefixes) ∙ all in
    let size : 1 + length has.1 ≡ length vs = omega (arith, ap length has.2) in
    let same : f ≡ in_the_goal [] w p bs (parts.Body s (1 + length has.1)) = same_Some f (in_the_goal [] w p bs (parts.Body s (1 + length has.1))) (sym read ∙ there) in
    ap body_count same ∙ ap Some size

-- ---- the limits

not_dot : (p m q r : _) (z after : List Placed) (t : Placed) → t.token ≢ tokens.Sign signs.Dot → ending p m q r ≡ z ++ t ∷ after → HasNo (tokens.Sign signs.Dot) z → ⊥
not_dot p m q r [] after t other e h = other (ap (λ (t : Placed). t.token) (sym (first_is e)))
not_dot p m q r (x ∷ z) after t other e h = h.0 (ap (λ (t : Placed). t.token) (sym (first_is e)))

regroup : (a : List Placed) (x : Placed) (b c : List Placed) → a ++ x ∷ (b ++ c) ≡ (a ++ x ∷ b) ++ c
regroup a x b c = sym (append_assoc a (x ∷ b) c)

expression_no_dot : {e : RawExpr} {ts : List Placed} → Expr 100 e ts → HasNo (tokens.Sign signs.Dot) ts
expression_no_dot {e} {ts} d = body_has_no_dot ([], Some (e, 100)) ts ([], ts, refl, refl, d, omega arith)

-- the tokens up to the end of the body
abbrev up_to : ℕ → Named → ℕ → ℕ → List Placed → List Placed
up_to p n q r ts = word keywords.Session p ∷ name n ∷ sign signs.Dot q ∷ word keywords.Goal r ∷ ts

counted : (f : FileRead) (n k m : ℕ) → body_count f ≡ Some k → body_count f ≡ Some m → n + 1 ≤ k → m ≤ n → ⊥
counted f n k m a b more few = let e : k ≡ m = same_Some k m (sym a ∙ b) in absurd (omega arith)

-- a body that goes on after so many tokens has more
body_long : (ts : List Placed) (bs : List RawBound) (e : RawExpr) (g : HasOneGoal ts bs e) (ss : List RawSession) → Sessions ss ts → (n : ℕ) → length g.body ≤ n → (before after : List Placed) (t : Placed) (b : BodySoFar before n) → IsBefore (b.head ++ b.first ∷ b.others) after (g.head ++ g.body) (ending g.dot g.mode g.command g.end) t → ⊥
body_long ts bs e g ss file n few before after t b i =
    let others = b.others ++ t ∷ i.between in
    let inner : g.head ++ g.body ≡ b.head ++ b.first ∷ others = i.longer ∙ append_assoc b.head (b.first ∷ b.others) (t ∷ i.between) in
    let whole = up_to g.session g.named g.opened g.place (g.head ++ g.body) in
    let no_dots : HasNo (tokens.Sign signs.Dot) (b.first ∷ others) = second_has_no (tokens.Sign signs.Dot) b.head (b.first ∷ others) (subst (HasNo (tokens.Sign signs.Dot)) inner (has_no_append (tokens.Sign signs.Dot) g.head g.body (prefixes_no_dot g.prefixes) (expression_no_dot g.expression))) in
    let size : n + 1 ≤ length (b.first ∷ others) = (let s = b.size in let l = length-append b.others (t ∷ i.between) in omega (arith, s, l)) in
    let longer : BodySoFar whole (n + 1) = record {
      outer = word keywords.Session g.session ∷ name g.named ∷ sign signs.Dot g.opened ∷ [];
      place = g.place;
      bound = b.bound;
      head = b.head;
      prefixes = b.prefixes;
      first = b.first;
      others = others;
      spelled = ap (up_to g.session g.named g.opened g.place) inner;
      no_prefix = b.no_prefix;
      no_dot = no_dots;
      size = size;
    } in
    let all = sessions_read file in
    let split : ts ≡ whole ++ ending g.dot g.mode g.command g.end = g.whole ∙ ap (up_to g.session g.named g.opened g.place) (sym (append_assoc g.head g.body (ending g.dot g.mode g.command g.end))) in
    let there = bind_some (file_with_all nothing_read whole) (λ f. file_with_all f (ending g.dot g.mode g.command g.end)) all.left (sym (all_append nothing_read whole (ending g.dot g.mode g.command g.end)) ∙ ap (file_with_all nothing_read) (sym split) ∙ all.read) in
    let long = body_counted whole (n + 1) there.0 longer there.1 in
    let exact = body_is (record { name = g.named.name; goals = [] }) g.place bs e g.head g.body there.0 g.prefixes g.expression there.1 in
    counted there.0 n long.0 (length g.body) long.2 exact long.1 few

-- no token of the body comes after 2,048 others
body_within : (ts : List Placed) (bs : List RawBound) (e : RawExpr) (g : HasOneGoal ts bs e) (ss : List RawSession) → Sessions ss ts → (n : ℕ) → length g.body ≤ n → (before after : List Placed) (t : Placed) → ts ≡ before ++ t ∷ after → BodySoFar before n → t.token ≢ tokens.Sign signs.Dot → ⊥
body_within ts bs e g ss file n few before after t is b other =
    let tail = ending g.dot g.mode g.command g.end in
    let free = rest_no_keyword keywords.Goal bs e g.head g.body g.dot g.command g.end g.mode (λ i. absurd (cc)) (λ i. absurd (cc)) (prefixes_no_keyword keywords.Goal (λ i. absurd (cc)) g.prefixes) g.expression in
    let inner = b.head ++ b.first ∷ b.others in
    let spelled : b.outer ++ word keywords.Goal b.place ∷ (inner ++ t ∷ after) ≡ ts = regroup b.outer (word keywords.Goal b.place) inner (t ∷ after) ∙ ap (λ (x : List Placed). x ++ t ∷ after) (sym b.spelled) ∙ sym is in
    let more : inner ++ t ∷ after ≡ (g.head ++ g.body) ++ tail = after_goal b.outer (g.head ++ (g.body ++ tail)) (inner ++ t ∷ after) g.session g.opened g.place b.place g.named free (spelled ∙ g.whole) ∙ sym (append_assoc g.head g.body tail) in
    elim (two_cuts inner after (g.head ++ g.body) tail t more) [
      | inl i ↦ body_long ts bs e g ss file n few before after t b i
      | inr i ↦ not_dot g.dot g.mode g.command g.end i.between after t other i.rest
          (second_has_no (tokens.Sign signs.Dot) (g.head ++ g.body) i.between (subst (HasNo (tokens.Sign signs.Dot)) i.longer (has_no_append (tokens.Sign signs.Dot) b.head (b.first ∷ b.others) (prefixes_no_dot b.prefixes) b.no_dot)))
    ]

-- the prefix that a name stands in ends after it
comma_there : (bs : List RawBound) (us z head others : List Placed) (p : ℕ) → Prefixes bs us → us ++ z ≡ head ++ word keywords.Forall p ∷ others → HasNo (tokens.Keyword keywords.Forall) z → HasNo (tokens.Sign signs.Comma) others → ⊥
comma_there bs us z head others p prefixes e free no_comma =
    elim (two_cuts head others us z (word keywords.Forall p) (sym e)) [
      | inl i ↦ elim (prefixes_end prefixes) [
        | inl nothing ↦ empty us head i.between (word keywords.Forall p) nothing i.longer
        | inr c ↦ comma_follows c.front head i.between (sign signs.Comma c.place) (word keywords.Forall p) (λ f. absurd (cc)) (sym c.whole ∙ i.longer)
            (first_has_no (tokens.Sign signs.Comma) i.between z (subst (HasNo (tokens.Sign signs.Comma)) i.rest no_comma))
      ]
      | inr i ↦ has_no_there (tokens.Keyword keywords.Forall) i.between others (word keywords.Forall p) (subst (HasNo (tokens.Keyword keywords.Forall)) i.rest free) refl
    ]
  where
    empty : (us head rest : List Placed) (t : Placed) → us ≡ [] → us ≡ head ++ t ∷ rest → ⊥
    empty us [] rest t e f = absurd (cc)
    empty us (x ∷ head) rest t e f = absurd (cc)

-- no name is bound after 256 others
bound_within : (ts : List Placed) (bs : List RawBound) (e : RawExpr) (g : HasOneGoal ts bs e) (n : ℕ) → length bs ≤ n → (before after : List Placed) (t : Placed) → ts ≡ before ++ t ∷ after → BoundSoFar before n → (x : Name) → t.token ≡ tokens.Name x → ⊥
bound_within ts bs e g n few before after t is b x named =
    let tail = ending g.dot g.mode g.command g.end in
    let free = rest_no_keyword keywords.Goal bs e g.head g.body g.dot g.command g.end g.mode (λ i. absurd (cc)) (λ i. absurd (cc)) (prefixes_no_keyword keywords.Goal (λ i. absurd (cc)) g.prefixes) g.expression in
    let inner = b.head ++ word keywords.Forall b.opening ∷ b.others in
    let spelled : b.outer ++ word keywords.Goal b.place ∷ (inner ++ t ∷ after) ≡ ts = regroup b.outer (word keywords.Goal b.place) inner (t ∷ after) ∙ ap (λ (x : List Placed). x ++ t ∷ after) (sym b.spelled) ∙ sym is in
    let more : inner ++ t ∷ after ≡ g.head ++ (g.body ++ tail) = after_goal b.outer (g.head ++ (g.body ++ tail)) (inner ++ t ∷ after) g.session g.opened g.place b.place g.named free (spelled ∙ g.whole) in
    let behind : HasNo (tokens.Keyword keywords.Forall) (g.body ++ tail) = has_no_append (tokens.Keyword keywords.Forall) g.body tail (expression_no_keyword keywords.Forall g.expression) (ending_no_keyword keywords.Forall g.dot g.command g.end g.mode (λ i. absurd (cc)) (λ i. absurd (cc))) in
    elim (two_cuts inner after g.head (g.body ++ tail) t more) [
      | inl i ↦ too_many b.head b.others i.between b.opening t x named g.head n (length b.bound) (length bs) i.longer (prefixes_count b.prefixes) (prefixes_count g.prefixes) b.size few
      | inr i ↦ comma_there bs g.head i.between b.head b.others b.opening g.prefixes (sym i.longer) (first_has_no (tokens.Keyword keywords.Forall) i.between (t ∷ after) (subst (HasNo (tokens.Keyword keywords.Forall)) i.rest behind)) b.no_comma
    ]
  where
    one_name : (t : Placed) (x : Name) (ts : List Placed) → t.token ≡ tokens.Name x → names_in (t ∷ ts) ≡ 1 + names_in ts
    one_name t x ts e = rw e refl

    too_many : (head others between : List Placed) (p : ℕ) (t : Placed) (x : Name) → t.token ≡ tokens.Name x → (us : List Placed) (n k m : ℕ) → us ≡ (head ++ word keywords.Forall p ∷ others) ++ t ∷ between → names_in head ≡ k → names_in us ≡ m → n ≤ k + names_in others → m ≤ n → ⊥
    too_many head others between p t x e us n k m w a c size few =
        let first = names_append (head ++ word keywords.Forall p ∷ others) (t ∷ between) in
        let second = names_append head (word keywords.Forall p ∷ others) in
        let one = one_name t x between e in
        let all = ap names_in w in
        absurd (omega (arith, first, second, one, all, a, c))

no_more_than : (k : Keyword) (ts before after : List Placed) (t : Placed) → ts ≡ before ++ t ∷ after → count k before ≤ count k ts
no_more_than k ts before after t e = let c = count_append k before (t ∷ after) in let s = ap (count k) e in omega (arith, c, s)

once : (k : Keyword) (ts : List Placed) (bs : List RawBound) (e : RawExpr) → HasOneGoal ts bs e → k ≢ keywords.Lia → k ≢ keywords.Nia → k ≢ keywords.Forall → count k ts ≤ 2
once k ts bs e g l m f =
    let rest = g.head ++ (g.body ++ ending g.dot g.mode g.command g.end) in
    let zero = no_count k rest (rest_no_keyword k bs e g.head g.body g.dot g.command g.end g.mode l m (prefixes_no_keyword k f g.prefixes) g.expression) in
    let all = ap (count k) g.whole in
    few_first k g.session g.named g.opened g.place rest (count k ts) all zero
  where
    at_most_one : (k : Keyword) (t : Token) → count_one k t ≤ 1
    at_most_one keywords.Session (tokens.Keyword keywords.Session) = omega arith
    at_most_one keywords.Goal (tokens.Keyword keywords.Goal) = omega arith
    at_most_one k t = omega arith

    few_first : (k : Keyword) (p : ℕ) (n : Named) (q r : ℕ) (rest : List Placed) (c : ℕ) → c ≡ count k (word keywords.Session p ∷ name n ∷ sign signs.Dot q ∷ word keywords.Goal r ∷ rest) → count k rest ≡ 0 → c ≤ 2
    few_first keywords.Session p n q r rest c e z = omega (arith, e, z)
    few_first keywords.Goal p n q r rest c e z = omega (arith, e, z)
    few_first keywords.Proof p n q r rest c e z = omega (arith, e, z)
    few_first keywords.Qed p n q r rest c e z = omega (arith, e, z)
    few_first keywords.Lia p n q r rest c e z = omega (arith, e, z)
    few_first keywords.Nia p n q r rest c e z = omega (arith, e, z)
    few_first keywords.Forall p n q r rest c e z = omega (arith, e, z)

many_within : (ts : List Placed) (bs : List RawBound) (e : RawExpr) → HasOneGoal ts bs e → (before after : List Placed) (t : Placed) → ts ≡ before ++ t ∷ after → IsMany before t → ⊥
many_within ts bs e g before after t is many =
    elim many.1 [
      | inl i ↦ absurd (let a = once keywords.Session ts bs e g (λ i. absurd (cc)) (λ i. absurd (cc)) (λ i. absurd (cc)) in let b = no_more_than keywords.Session ts before after t is in let c = i.1 in omega (arith, a, b, c))
      | inr i ↦ absurd (let a = once keywords.Goal ts bs e g (λ i. absurd (cc)) (λ i. absurd (cc)) (λ i. absurd (cc)) in let b = no_more_than keywords.Goal ts before after t is in let c = i.1 in omega (arith, a, b, c))
    ]

long_within : (ts : List Placed) (bs : List RawBound) (e : RawExpr) (g : HasOneGoal ts bs e) (ss : List RawSession) → Sessions ss ts → length bs ≤ 256 → length g.body ≤ 2048 → (before after : List Placed) (t : Placed) → ts ≡ before ++ t ∷ after → IsLong before t → ⊥
long_within ts bs e g ss file names short before after t is long =
    elim long.1 [
      | inl i ↦ body_within ts bs e g ss file 2048 short before after t is i.0 i.1
      | inr i ↦ bound_within ts bs e g 256 names before after t is i.0 i.1 i.2
    ]

-- a file with one goal is within the limits, where that is
pub one_goal_within : (ts : List Placed) (bs : List RawBound) (e : RawExpr) (g : HasOneGoal ts bs e) (ss : List RawSession) → Sessions ss ts → length bs ≤ 256 → length g.body ≤ 2048 → IsWithin ts
one_goal_within ts bs e g ss file names short = λ before after t is. (long_within ts bs e g ss file names short before after t is, many_within ts bs e g before after t is)
