-- What was read of a file is the front of one, and what was read to the end is one.
use Rattle.std.proofs.Common.{◌≡◌, ◌≢◌, ℕ, ◌+◌, true, ◌⊎◌, inl, inr, List, [], ◌∷◌, ◌++◌, length, map, Some, None, refl, sym, ap, subst, ◌∙◌, append_assoc, length-append, arith}
use Rattle.std.proofs.lemmas.List.{append-nil, map-append}
use Rattle.std.proofs.lemmas.Option.{same_Some}
use Rattle.mm_num.specs.Option.{◌>>=◌}
use Rattle.mm_num.proofs.OptionLaws.{bind_some, test_some}
use Rattle.goal_ast.specs.declared.goal.Name.{Name}
use Rattle.goal_ast.specs.declared.term.Sort.{Sort}
use Rattle.goal_token.specs.declared.token.Keyword.{Keyword}
use Rattle.goal_token.specs.declared.token.Keyword.TheVariants as keywords
use Rattle.goal_token.specs.declared.token.Sign.{Sign}
use Rattle.goal_token.specs.declared.token.Sign.TheVariants as signs
use Rattle.goal_token.specs.declared.token.Token.{Token}
use Rattle.goal_token.specs.declared.token.Token.TheVariants as tokens
use Rattle.goal_token.specs.declared.token.Placed.{Placed}
use Rattle.goal_text.specs.declared.kind.Kind.{Kind}
use Rattle.goal_text.specs.declared.kind.Kind.TheVariants as kinds
use Rattle.goal_sort.specs.declared.raw.RawBound.{RawBound}
use Rattle.goal_sort.specs.declared.raw.RawExpr.{RawExpr}
use Rattle.goal_text.specs.declared.state.Named.{Named}
use Rattle.goal_text.specs.declared.state.Part.{Part}
use Rattle.goal_text.specs.declared.state.Part.TheVariants as parts
use Rattle.goal_text.specs.Grammar.{sign, Expr}
use Rattle.goal_text.specs.Operands.{Reading, with_token, read_of}
use Rattle.goal_text.specs.Files.{word, sort, name, group, bounds, Groups, first_group, next_group, Prefixes, bare_prefix, grouped_prefix, mode_word, MayProve, at_once, proof}
use Rattle.goal_text.specs.Steps.{kind_of, sign_kind, named, GoalRead, is_dot, is_forall, after_forall, in_bare, in_group, sort_next, comma_next, close_next, after_group, mode_next, command_next, dot_next, body_next, in_goal}
use Rattle.goal_text.proofs.StandingLaws.{HasRead, token_reads, reading_ends}

-- ---- what a token is

-- the token of a kind
abbrev pub Is : Kind → Placed → Type 0
Is (kinds.Keyword k) t = t ≡ word k t.at
Is (kinds.Sort s) t = t ≡ sort s t.at
Is (kinds.Name x) t = t ≡ name (named x t.at)
Is kinds.Dot t = t ≡ sign signs.Dot t.at
Is kinds.Comma t = t ≡ sign signs.Comma t.at
Is kinds.Colon t = t ≡ sign signs.Colon t.at
Is kinds.Open t = t ≡ sign signs.Open t.at
Is kinds.Close t = t ≡ sign signs.Close t.at
Is kinds.Other t = Unit {0}

pub kind_is : (t : Placed) → Is (kind_of t.token) t
kind_is t = by_token t.token refl
  where
    by_sign : (s : Sign) → t.token ≡ tokens.Sign s → Is (sign_kind s) t
    by_sign signs.Dot e = ap (λ k. record { token = k; at = t.at }) e
    by_sign signs.Comma e = ap (λ k. record { token = k; at = t.at }) e
    by_sign signs.Colon e = ap (λ k. record { token = k; at = t.at }) e
    by_sign signs.Open e = ap (λ k. record { token = k; at = t.at }) e
    by_sign signs.Close e = ap (λ k. record { token = k; at = t.at }) e
    by_sign s e = tt

    by_token : (k : Token) → t.token ≡ k → Is (kind_of k) t
    by_token (tokens.Keyword k) e = ap (λ k. record { token = k; at = t.at }) e
    by_token (tokens.Sort s) e = ap (λ k. record { token = k; at = t.at }) e
    by_token (tokens.Name x) e = ap (λ k. record { token = k; at = t.at }) e
    by_token (tokens.Sign s) e = by_sign s e
    by_token (tokens.Constant c) e = tt
    by_token (tokens.Function f) e = tt
    by_token (tokens.Literal n) e = tt
    by_token tokens.Wrong e = tt

-- ---- what was read of a goal

-- its prefixes, and a body up to here
abbrev pub WithBody : List RawBound → List Placed → (List Placed → Type 0) → Type 0
WithBody bs ts body = (us : List Placed) × (vs : List Placed) × Prefixes bs us × body vs × (ts ≡ us ++ vs)

-- the last prefix's groups in parentheses
abbrev pub GroupsSoFar : List RawBound → List Placed → Type 0
GroupsSoFar bs ts = (cs : List RawBound) × (ds : List RawBound) × (us : List Placed) × (vs : List Placed) × (p : ℕ) × Prefixes cs us × Groups ds vs × (bs ≡ cs ++ ds) × (ts ≡ us ++ word keywords.Forall p ∷ vs)

abbrev pub PrefixBegun : List RawBound → List Placed → Type 0
PrefixBegun bs ts = (us : List Placed) × (p : ℕ) × Prefixes bs us × (ts ≡ us ++ word keywords.Forall p ∷ [])

abbrev pub InGroups : List RawBound → List Placed → Type 0
InGroups bs ts = PrefixBegun bs ts ⊎ GroupsSoFar bs ts

abbrev pub KnownPart : List RawBound → Part → List Placed → Type 0
KnownPart bs parts.Head ts = Prefixes bs ts
KnownPart bs parts.Binders ts = PrefixBegun bs ts
KnownPart bs (parts.Bare names) ts = (us : List Placed) × PrefixBegun bs us × (names ≢ []) × (ts ≡ us ++ map name names)
KnownPart bs (parts.BareSort names) ts = (us : List Placed) × (q : ℕ) × PrefixBegun bs us × (names ≢ []) × (ts ≡ us ++ (map name names ++ sign signs.Colon q ∷ []))
KnownPart bs parts.BareEnd ts = (cs : List RawBound) × (us : List Placed) × (names : List Named) × (s : Sort) × (q : ℕ) × (r : ℕ) × PrefixBegun cs us × (names ≢ []) × (bs ≡ cs ++ bounds s names) × (ts ≡ us ++ group names q s r)
KnownPart bs (parts.Grouped names) ts = (us : List Placed) × (p : ℕ) × InGroups bs us × (ts ≡ us ++ sign signs.Open p ∷ map name names)
KnownPart bs (parts.GroupedSort names) ts = (us : List Placed) × (p : ℕ) × (q : ℕ) × InGroups bs us × (names ≢ []) × (ts ≡ us ++ sign signs.Open p ∷ (map name names ++ sign signs.Colon q ∷ []))
KnownPart bs parts.GroupedEnd ts = (cs : List RawBound) × (us : List Placed) × (names : List Named) × (s : Sort) × (p : ℕ) × (q : ℕ) × (r : ℕ) × InGroups cs us × (names ≢ []) × (bs ≡ cs ++ bounds s names) × (ts ≡ us ++ sign signs.Open p ∷ group names q s r)
KnownPart bs parts.NextGroup ts = GroupsSoFar bs ts
KnownPart bs (parts.Body r n) ts = WithBody bs ts (λ vs. HasRead r vs × (n ≡ length vs))
KnownPart bs (parts.Command e) ts = WithBody bs ts (λ vs. (xs : List Placed) × (q : ℕ) × Expr 100 e xs × (vs ≡ xs ++ sign signs.Dot q ∷ []))
KnownPart bs (parts.ProofEnd e) ts = WithBody bs ts (λ vs. (xs : List Placed) × (q : ℕ) × (o : ℕ) × Expr 100 e xs × (vs ≡ xs ++ sign signs.Dot q ∷ word keywords.Proof o ∷ []))
KnownPart bs (parts.ModeAfterProof e) ts = WithBody bs ts (λ vs. (xs : List Placed) × (q : ℕ) × (o : ℕ) × (p : ℕ) × Expr 100 e xs × (vs ≡ xs ++ sign signs.Dot q ∷ word keywords.Proof o ∷ sign signs.Dot p ∷ []))
KnownPart bs (parts.ModeEnd e m) ts = WithBody bs ts (λ vs. (xs : List Placed) × (ws : List Placed) × (q : ℕ) × (r : ℕ) × Expr 100 e xs × MayProve ws × (vs ≡ xs ++ sign signs.Dot q ∷ (ws ++ word (mode_word m) r ∷ [])))

-- one more token at the end
pub snoc : (ts us vs : List Placed) (t : Placed) → ts ≡ us ++ vs → ts ++ t ∷ [] ≡ us ++ (vs ++ t ∷ [])
snoc ts us vs t e = ap (λ ts. ts ++ t ∷ []) e ∙ append_assoc us vs (t ∷ [])

more_names : (names : List Named) (x : Name) (t : Placed) → t ≡ name (named x t.at) → map name names ++ t ∷ [] ≡ map name (names ++ named x t.at ∷ [])
more_names names x t is = ap (λ t. map name names ++ t ∷ []) is ∙ sym (map-append name names (named x t.at ∷ []))

not_empty : {A : Type 0} (xs : List A) (x : A) → xs ++ x ∷ [] ≢ []
not_empty [] x e = cc
not_empty (y ∷ ys) x e = cc

-- ---- one more token of a goal

-- what is known of where a token leads
abbrev pub Leads : GoalRead → List Placed → Placed → Type 0
Leads g ts t = KnownPart g.0 g.1 (ts ++ t ∷ [])

led : (f g : GoalRead) (ts : List Placed) (t : Placed) → Some f ≡ Some g → Leads f ts t → Leads g ts t
led f g ts t is k = subst (λ (g : GoalRead). Leads g ts t) (same_Some f g is) k

forall_known : (bs : List RawBound) (t : Placed) (k : Kind) → Is k t → (ts : List Placed) (g : GoalRead) → PrefixBegun bs ts → after_forall bs k t.at ≡ Some g → Leads g ts t
forall_known bs t (kinds.Name x) is ts g h read = led _ g ts t read (ts, h, (λ e. cc), ap (λ t. ts ++ t ∷ []) is)
forall_known bs t kinds.Open is ts g h read = led _ g ts t read (ts, t.at, inl h, ap (λ t. ts ++ t ∷ []) is)
forall_known bs t (kinds.Keyword k) is ts g h read = absurd cc
forall_known bs t (kinds.Sort s) is ts g h read = absurd cc
forall_known bs t kinds.Dot is ts g h read = absurd cc
forall_known bs t kinds.Comma is ts g h read = absurd cc
forall_known bs t kinds.Colon is ts g h read = absurd cc
forall_known bs t kinds.Close is ts g h read = absurd cc
forall_known bs t kinds.Other is ts g h read = absurd cc

bare_known : (bs : List RawBound) (names : List Named) (t : Placed) (k : Kind) → Is k t → (ts : List Placed) (g : GoalRead) → KnownPart bs (parts.Bare names) ts → in_bare bs names k t.at ≡ Some g → Leads g ts t
bare_known bs names t (kinds.Name x) is ts g h read =
    led _ g ts t read (h.0, h.1, not_empty names (named x t.at), snoc ts h.0 (map name names) t h.3 ∙ ap (λ vs. h.0 ++ vs) (more_names names x t is))
bare_known bs names t kinds.Colon is ts g h read =
    led _ g ts t read (h.0, t.at, h.1, h.2, snoc ts h.0 (map name names) t h.3 ∙ ap (λ t. h.0 ++ (map name names ++ t ∷ [])) is)
bare_known bs names t (kinds.Keyword k) is ts g h read = absurd cc
bare_known bs names t (kinds.Sort s) is ts g h read = absurd cc
bare_known bs names t kinds.Dot is ts g h read = absurd cc
bare_known bs names t kinds.Comma is ts g h read = absurd cc
bare_known bs names t kinds.Open is ts g h read = absurd cc
bare_known bs names t kinds.Close is ts g h read = absurd cc
bare_known bs names t kinds.Other is ts g h read = absurd cc

bare_sort_known : (bs : List RawBound) (names : List Named) (t : Placed) (k : Kind) → Is k t → (ts : List Placed) (g : GoalRead) → KnownPart bs (parts.BareSort names) ts → sort_next bs names parts.BareEnd k ≡ Some g → Leads g ts t
bare_sort_known bs names t (kinds.Sort s) is ts g h read =
    led _ g ts t read (bs, h.0, names, s, h.1, t.at, h.2, h.3, refl, snoc ts h.0 (map name names ++ sign signs.Colon h.1 ∷ []) t h.4 ∙ ap (λ vs. h.0 ++ vs) (append_assoc (map name names) (sign signs.Colon h.1 ∷ []) (t ∷ []) ∙ ap (λ t. map name names ++ sign signs.Colon h.1 ∷ t ∷ []) is))
bare_sort_known bs names t (kinds.Keyword k) is ts g h read = absurd cc
bare_sort_known bs names t (kinds.Name x) is ts g h read = absurd cc
bare_sort_known bs names t kinds.Dot is ts g h read = absurd cc
bare_sort_known bs names t kinds.Comma is ts g h read = absurd cc
bare_sort_known bs names t kinds.Colon is ts g h read = absurd cc
bare_sort_known bs names t kinds.Open is ts g h read = absurd cc
bare_sort_known bs names t kinds.Close is ts g h read = absurd cc
bare_sort_known bs names t kinds.Other is ts g h read = absurd cc

bare_end_known : (bs : List RawBound) (t : Placed) (k : Kind) → Is k t → (ts : List Placed) (g : GoalRead) → KnownPart bs parts.BareEnd ts → comma_next bs k ≡ Some g → Leads g ts t
bare_end_known bs t kinds.Comma is ts g h read =
    let b = h.6 in
    let made : Prefixes (h.0 ++ bounds h.3 h.2) (b.0 ++ word keywords.Forall b.1 ∷ (group h.2 h.4 h.3 h.5 ++ sign signs.Comma t.at ∷ [])) = bare_prefix b.1 h.4 h.5 t.at h.2 h.3 b.2 h.7 in
    let tokens : ts ++ t ∷ [] ≡ b.0 ++ word keywords.Forall b.1 ∷ (group h.2 h.4 h.3 h.5 ++ sign signs.Comma t.at ∷ []) =
    snoc ts h.1 (group h.2 h.4 h.3 h.5) t h.9 ∙ ap (λ us. us ++ (group h.2 h.4 h.3 h.5 ++ t ∷ [])) b.3 ∙ append_assoc b.0 (word keywords.Forall b.1 ∷ []) (group h.2 h.4 h.3 h.5 ++ t ∷ [])
    ∙ ap (λ t. b.0 ++ word keywords.Forall b.1 ∷ (group h.2 h.4 h.3 h.5 ++ t ∷ [])) is in
    led _ g ts t read (subst (λ ts. Prefixes bs ts) (sym tokens) (subst (λ bs. Prefixes bs (b.0 ++ word keywords.Forall b.1 ∷ (group h.2 h.4 h.3 h.5 ++ sign signs.Comma t.at ∷ []))) (sym h.8) made))
bare_end_known bs t (kinds.Keyword k) is ts g h read = absurd cc
bare_end_known bs t (kinds.Sort s) is ts g h read = absurd cc
bare_end_known bs t (kinds.Name x) is ts g h read = absurd cc
bare_end_known bs t kinds.Dot is ts g h read = absurd cc
bare_end_known bs t kinds.Colon is ts g h read = absurd cc
bare_end_known bs t kinds.Open is ts g h read = absurd cc
bare_end_known bs t kinds.Close is ts g h read = absurd cc
bare_end_known bs t kinds.Other is ts g h read = absurd cc

group_known : (bs : List RawBound) (names : List Named) (t : Placed) (k : Kind) → Is k t → (ts : List Placed) (g : GoalRead) → KnownPart bs (parts.Grouped names) ts → in_group bs names k t.at ≡ Some g → Leads g ts t
group_known bs names t (kinds.Name x) is ts g h read = led _ g ts t (name_read names read) (h.0, h.1, h.2, snoc ts h.0 (sign signs.Open h.1 ∷ map name names) t h.3 ∙ ap (λ vs. h.0 ++ sign signs.Open h.1 ∷ vs) (more_names names x t is))
  where
    name_read : (names : List Named) → in_group bs names (kinds.Name x) t.at ≡ Some g → Some (bs, parts.Grouped (names ++ named x t.at ∷ [])) ≡ Some g
    name_read [] e = e
    name_read (n ∷ names) e = e
group_known bs [] t kinds.Colon is ts g h read = absurd cc
group_known bs (n ∷ names) t kinds.Colon is ts g h read =
    led _ g ts t read (h.0, h.1, t.at, h.2, (λ e. cc), snoc ts h.0 (sign signs.Open h.1 ∷ map name (n ∷ names)) t h.3 ∙ ap (λ t. h.0 ++ sign signs.Open h.1 ∷ (map name (n ∷ names) ++ t ∷ [])) is)
group_known bs [] t (kinds.Keyword k) is ts g h read = absurd cc
group_known bs (n ∷ names) t (kinds.Keyword k) is ts g h read = absurd cc
group_known bs [] t (kinds.Sort s) is ts g h read = absurd cc
group_known bs (n ∷ names) t (kinds.Sort s) is ts g h read = absurd cc
group_known bs [] t kinds.Dot is ts g h read = absurd cc
group_known bs (n ∷ names) t kinds.Dot is ts g h read = absurd cc
group_known bs [] t kinds.Comma is ts g h read = absurd cc
group_known bs (n ∷ names) t kinds.Comma is ts g h read = absurd cc
group_known bs [] t kinds.Open is ts g h read = absurd cc
group_known bs (n ∷ names) t kinds.Open is ts g h read = absurd cc
group_known bs [] t kinds.Close is ts g h read = absurd cc
group_known bs (n ∷ names) t kinds.Close is ts g h read = absurd cc
group_known bs [] t kinds.Other is ts g h read = absurd cc
group_known bs (n ∷ names) t kinds.Other is ts g h read = absurd cc

group_sort_known : (bs : List RawBound) (names : List Named) (t : Placed) (k : Kind) → Is k t → (ts : List Placed) (g : GoalRead) → KnownPart bs (parts.GroupedSort names) ts → sort_next bs names parts.GroupedEnd k ≡ Some g → Leads g ts t
group_sort_known bs names t (kinds.Sort s) is ts g h read =
    led _ g ts t read (
      bs,
      h.0,
      names,
      s,
      h.1,
      h.2,
      t.at,
      h.3,
      h.4,
      refl,
      snoc ts h.0 (sign signs.Open h.1 ∷ (map name names ++ sign signs.Colon h.2 ∷ [])) t h.5
          ∙ ap (λ vs. h.0 ++ sign signs.Open h.1 ∷ vs) (append_assoc (map name names) (sign signs.Colon h.2 ∷ []) (t ∷ []) ∙ ap (λ t. map name names ++ sign signs.Colon h.2 ∷ t ∷ []) is),
    )
group_sort_known bs names t (kinds.Keyword k) is ts g h read = absurd cc
group_sort_known bs names t (kinds.Name x) is ts g h read = absurd cc
group_sort_known bs names t kinds.Dot is ts g h read = absurd cc
group_sort_known bs names t kinds.Comma is ts g h read = absurd cc
group_sort_known bs names t kinds.Colon is ts g h read = absurd cc
group_sort_known bs names t kinds.Open is ts g h read = absurd cc
group_sort_known bs names t kinds.Close is ts g h read = absurd cc
group_sort_known bs names t kinds.Other is ts g h read = absurd cc

-- a group in parentheses is whole
group_made : (cs : List RawBound) (us : List Placed) (names : List Named) (s : Sort) (p q r t : ℕ) → InGroups cs us → names ≢ [] → GroupsSoFar (cs ++ bounds s names) (us ++ sign signs.Open p ∷ (group names q s r ++ sign signs.Close t ∷ []))
group_made cs us names s p q r t (inl b) some = (
  cs,
  bounds s names,
  b.0,
  sign signs.Open p ∷ (group names q s r ++ sign signs.Close t ∷ []),
  b.1,
  b.2,
  first_group p q r t names s some,
  refl,
  ap (λ us. us ++ sign signs.Open p ∷ (group names q s r ++ sign signs.Close t ∷ [])) b.3 ∙ append_assoc b.0 (word keywords.Forall b.1 ∷ []) (sign signs.Open p ∷ (group names q s r ++ sign signs.Close t ∷ [])),
)
group_made cs us names s p q r t (inr b) some = (
  b.0,
  b.1 ++ bounds s names,
  b.2,
  b.3 ++ sign signs.Open p ∷ (group names q s r ++ sign signs.Close t ∷ []),
  b.4,
  b.5,
  next_group p q r t names s b.6 some,
  ap (λ bs. bs ++ bounds s names) b.7 ∙ append_assoc b.0 b.1 (bounds s names),
  ap (λ us. us ++ sign signs.Open p ∷ (group names q s r ++ sign signs.Close t ∷ [])) b.8 ∙ append_assoc b.2 (word keywords.Forall b.4 ∷ b.3) (sign signs.Open p ∷ (group names q s r ++ sign signs.Close t ∷ [])),
)

group_end_known : (bs : List RawBound) (t : Placed) (k : Kind) → Is k t → (ts : List Placed) (g : GoalRead) → KnownPart bs parts.GroupedEnd ts → close_next bs k ≡ Some g → Leads g ts t
group_end_known bs t kinds.Close is ts g h read =
    let tokens : ts ++ t ∷ [] ≡ h.1 ++ sign signs.Open h.4 ∷ (group h.2 h.5 h.3 h.6 ++ sign signs.Close t.at ∷ []) =
    snoc ts h.1 (sign signs.Open h.4 ∷ group h.2 h.5 h.3 h.6) t h.10 ∙ ap (λ t. h.1 ++ sign signs.Open h.4 ∷ (group h.2 h.5 h.3 h.6 ++ t ∷ [])) is in
    led _ g ts t read (subst (λ bs. GroupsSoFar bs (ts ++ t ∷ [])) (sym h.9) (subst (λ ts. GroupsSoFar (h.0 ++ bounds h.3 h.2) ts) (sym tokens) (group_made h.0 h.1 h.2 h.3 h.4 h.5 h.6 t.at h.7 h.8)))
group_end_known bs t (kinds.Keyword k) is ts g h read = absurd cc
group_end_known bs t (kinds.Sort s) is ts g h read = absurd cc
group_end_known bs t (kinds.Name x) is ts g h read = absurd cc
group_end_known bs t kinds.Dot is ts g h read = absurd cc
group_end_known bs t kinds.Comma is ts g h read = absurd cc
group_end_known bs t kinds.Colon is ts g h read = absurd cc
group_end_known bs t kinds.Open is ts g h read = absurd cc
group_end_known bs t kinds.Other is ts g h read = absurd cc

next_group_known : (bs : List RawBound) (t : Placed) (k : Kind) → Is k t → (ts : List Placed) (g : GoalRead) → GroupsSoFar bs ts → after_group bs k ≡ Some g → Leads g ts t
next_group_known bs t kinds.Open is ts g h read = led _ g ts t read (ts, t.at, inr h, ap (λ t. ts ++ t ∷ []) is)
next_group_known bs t kinds.Comma is ts g h read =
    let made : Prefixes (h.0 ++ h.1) (h.2 ++ word keywords.Forall h.4 ∷ (h.3 ++ sign signs.Comma t.at ∷ [])) = grouped_prefix h.4 t.at h.5 h.6 in
    let tokens : ts ++ t ∷ [] ≡ h.2 ++ word keywords.Forall h.4 ∷ (h.3 ++ sign signs.Comma t.at ∷ []) =
    snoc ts h.2 (word keywords.Forall h.4 ∷ h.3) t h.8 ∙ ap (λ t. h.2 ++ word keywords.Forall h.4 ∷ (h.3 ++ t ∷ [])) is in
    led _ g ts t read (subst (λ ts. Prefixes bs ts) (sym tokens) (subst (λ bs. Prefixes bs (h.2 ++ word keywords.Forall h.4 ∷ (h.3 ++ sign signs.Comma t.at ∷ []))) (sym h.7) made))
next_group_known bs t (kinds.Keyword k) is ts g h read = absurd cc
next_group_known bs t (kinds.Sort s) is ts g h read = absurd cc
next_group_known bs t (kinds.Name x) is ts g h read = absurd cc
next_group_known bs t kinds.Dot is ts g h read = absurd cc
next_group_known bs t kinds.Colon is ts g h read = absurd cc
next_group_known bs t kinds.Close is ts g h read = absurd cc
next_group_known bs t kinds.Other is ts g h read = absurd cc

-- ---- the body and the command

-- more of the body
with_more : {B C : List Placed → Type 0} (bs : List RawBound) (ts : List Placed) (t : Placed) → WithBody bs ts B → ((vs : List Placed) → B vs → C (vs ++ t ∷ [])) → WithBody bs (ts ++ t ∷ []) C
with_more bs ts t h step = (h.0, h.1 ++ t ∷ [], h.2, step h.1 h.3, snoc ts h.0 h.1 t h.4)

count_more : (n : ℕ) (vs : List Placed) (t : Placed) → n ≡ length vs → n + 1 ≡ length (vs ++ t ∷ [])
count_more n vs t e = omega (arith, e, length-append vs (t ∷ []))

body_known : (bs : List RawBound) (r : Reading) (n : ℕ) (t : Placed) (ts : List Placed) (g : GoalRead) → KnownPart bs (parts.Body r n) ts → body_next bs r n t ≡ Some g → Leads g ts t
body_known bs r n t ts g h read =
    let s = bind_some (with_token r t) (λ s. Some (bs, parts.Body s (n + 1))) g read in
    led _ g ts t s.2 (with_more bs ts t h (λ vs b. (token_reads r s.0 vs t b.0 s.1, count_more n vs t b.1)))

pub dot_is : (t : Placed) → is_dot (kind_of t.token) ≡ true → t ≡ sign signs.Dot t.at
dot_is t e = by_kind (kind_of t.token) (kind_is t) e
  where
    by_kind : (k : Kind) → Is k t → is_dot k ≡ true → t ≡ sign signs.Dot t.at
    by_kind kinds.Dot is e = is
    by_kind (kinds.Keyword k) is e = absurd cc
    by_kind (kinds.Sort s) is e = absurd cc
    by_kind (kinds.Name x) is e = absurd cc
    by_kind kinds.Comma is e = absurd cc
    by_kind kinds.Colon is e = absurd cc
    by_kind kinds.Open is e = absurd cc
    by_kind kinds.Close is e = absurd cc
    by_kind kinds.Other is e = absurd cc

pub forall_is : (t : Placed) → is_forall (kind_of t.token) ≡ true → t ≡ word keywords.Forall t.at
forall_is t e = by_kind (kind_of t.token) (kind_is t) e
  where
    by_word : (k : Keyword) → t ≡ word k t.at → is_forall (kinds.Keyword k) ≡ true → t ≡ word keywords.Forall t.at
    by_word keywords.Forall is e = is
    by_word keywords.Session is e = absurd cc
    by_word keywords.Goal is e = absurd cc
    by_word keywords.Proof is e = absurd cc
    by_word keywords.Qed is e = absurd cc
    by_word keywords.Lia is e = absurd cc
    by_word keywords.Nia is e = absurd cc

    by_kind : (k : Kind) → Is k t → is_forall k ≡ true → t ≡ word keywords.Forall t.at
    by_kind (kinds.Keyword k) is e = by_word k is e
    by_kind kinds.Dot is e = absurd cc
    by_kind (kinds.Sort s) is e = absurd cc
    by_kind (kinds.Name x) is e = absurd cc
    by_kind kinds.Comma is e = absurd cc
    by_kind kinds.Colon is e = absurd cc
    by_kind kinds.Open is e = absurd cc
    by_kind kinds.Close is e = absurd cc
    by_kind kinds.Other is e = absurd cc

in_body_known : (bs : List RawBound) (r : Reading) (n : ℕ) (t : Placed) (ts : List Placed) (g : GoalRead) → KnownPart bs (parts.Body r n) ts → in_goal bs (parts.Body r n) t ≡ Some g → Leads g ts t
in_body_known bs r n t ts g h read = elim (test_some (is_dot (kind_of t.token)) (read_of r >>= λ e. Some (bs, parts.Command e)) (body_next bs r n t) g read) [
  | inl k ↦
      let e = bind_some (read_of r) (λ e. Some (bs, parts.Command e)) g k.1 in
      led _ g ts t e.2 (with_more bs ts t h (λ vs b. (vs, t.at, reading_ends r vs e.0 b.0 e.1, ap (λ t. vs ++ t ∷ []) (dot_is t k.0))))
  | inr k ↦ body_known bs r n t ts g h k.1
]

head_known : (bs : List RawBound) (t : Placed) (ts : List Placed) (g : GoalRead) → Prefixes bs ts → in_goal bs parts.Head t ≡ Some g → Leads g ts t
head_known bs t ts g h read = elim (test_some (is_forall (kind_of t.token)) (Some (bs, parts.Binders)) (body_next bs ([], None) 0 t) g read) [
  | inl k ↦ led _ g ts t k.1 (ts, t.at, h, ap (λ t. ts ++ t ∷ []) (forall_is t k.0))
  | inr k ↦ body_known bs ([], None) 0 t ts g (ts, [], h, (refl, refl), sym (append-nil ts)) k.1
]

-- the mode after a body and what may stand before it
mode_known : (bs : List RawBound) (e : RawExpr) (t : Placed) (k : Kind) → Is k t → (ts : List Placed) (g : GoalRead)
    → WithBody bs ts (λ vs. (xs : List Placed) × (ws : List Placed) × (q : ℕ) × Expr 100 e xs × MayProve ws × (vs ≡ xs ++ sign signs.Dot q ∷ ws)) → mode_next bs e k ≡ Some g → Leads g ts t
mode_known bs e t (kinds.Keyword keywords.Lia) is ts g h read =
    led _ g ts t read (with_more bs ts t h (λ vs b. (b.0, b.1, b.2, t.at, b.3, b.4, snoc vs b.0 (sign signs.Dot b.2 ∷ b.1) t b.5 ∙ ap (λ t. b.0 ++ sign signs.Dot b.2 ∷ (b.1 ++ t ∷ [])) is)))
mode_known bs e t (kinds.Keyword keywords.Nia) is ts g h read =
    led _ g ts t read (with_more bs ts t h (λ vs b. (b.0, b.1, b.2, t.at, b.3, b.4, snoc vs b.0 (sign signs.Dot b.2 ∷ b.1) t b.5 ∙ ap (λ t. b.0 ++ sign signs.Dot b.2 ∷ (b.1 ++ t ∷ [])) is)))
mode_known bs e t (kinds.Keyword keywords.Session) is ts g h read = absurd cc
mode_known bs e t (kinds.Keyword keywords.Goal) is ts g h read = absurd cc
mode_known bs e t (kinds.Keyword keywords.Proof) is ts g h read = absurd cc
mode_known bs e t (kinds.Keyword keywords.Qed) is ts g h read = absurd cc
mode_known bs e t (kinds.Keyword keywords.Forall) is ts g h read = absurd cc
mode_known bs e t (kinds.Sort s) is ts g h read = absurd cc
mode_known bs e t (kinds.Name x) is ts g h read = absurd cc
mode_known bs e t kinds.Dot is ts g h read = absurd cc
mode_known bs e t kinds.Comma is ts g h read = absurd cc
mode_known bs e t kinds.Colon is ts g h read = absurd cc
mode_known bs e t kinds.Open is ts g h read = absurd cc
mode_known bs e t kinds.Close is ts g h read = absurd cc
mode_known bs e t kinds.Other is ts g h read = absurd cc

-- nothing stands before it
at_once_body : (bs : List RawBound) (e : RawExpr) (ts : List Placed) → KnownPart bs (parts.Command e) ts
    → WithBody bs ts (λ vs. (xs : List Placed) × (ws : List Placed) × (q : ℕ) × Expr 100 e xs × MayProve ws × (vs ≡ xs ++ sign signs.Dot q ∷ ws))
at_once_body bs e ts h = (h.0, h.1, h.2, (h.3.0, [], h.3.1, h.3.2, at_once, h.3.3), h.4)

proof_body : (bs : List RawBound) (e : RawExpr) (ts : List Placed) → KnownPart bs (parts.ModeAfterProof e) ts
    → WithBody bs ts (λ vs. (xs : List Placed) × (ws : List Placed) × (q : ℕ) × Expr 100 e xs × MayProve ws × (vs ≡ xs ++ sign signs.Dot q ∷ ws))
proof_body bs e ts h = let b = h.3 in (h.0, h.1, h.2, (b.0, word keywords.Proof b.2 ∷ sign signs.Dot b.3 ∷ [], b.1, b.4, proof b.2 b.3, b.5), h.4)

command_known : (bs : List RawBound) (e : RawExpr) (t : Placed) (k : Kind) → Is k t → (ts : List Placed) (g : GoalRead) → KnownPart bs (parts.Command e) ts → command_next bs e k ≡ Some g → Leads g ts t
command_known bs e t (kinds.Keyword keywords.Proof) is ts g h read =
    led _ g ts t read (with_more bs ts t h (λ vs b. (b.0, b.1, t.at, b.2, snoc vs b.0 (sign signs.Dot b.1 ∷ []) t b.3 ∙ ap (λ t. b.0 ++ sign signs.Dot b.1 ∷ t ∷ []) is)))
command_known bs e t (kinds.Keyword keywords.Lia) is ts g h read = mode_known bs e t (kinds.Keyword keywords.Lia) is ts g (at_once_body bs e ts h) read
command_known bs e t (kinds.Keyword keywords.Nia) is ts g h read = mode_known bs e t (kinds.Keyword keywords.Nia) is ts g (at_once_body bs e ts h) read
command_known bs e t (kinds.Keyword keywords.Session) is ts g h read = absurd cc
command_known bs e t (kinds.Keyword keywords.Goal) is ts g h read = absurd cc
command_known bs e t (kinds.Keyword keywords.Qed) is ts g h read = absurd cc
command_known bs e t (kinds.Keyword keywords.Forall) is ts g h read = absurd cc
command_known bs e t (kinds.Sort s) is ts g h read = absurd cc
command_known bs e t (kinds.Name x) is ts g h read = absurd cc
command_known bs e t kinds.Dot is ts g h read = absurd cc
command_known bs e t kinds.Comma is ts g h read = absurd cc
command_known bs e t kinds.Colon is ts g h read = absurd cc
command_known bs e t kinds.Open is ts g h read = absurd cc
command_known bs e t kinds.Close is ts g h read = absurd cc
command_known bs e t kinds.Other is ts g h read = absurd cc

proof_known : (bs : List RawBound) (e : RawExpr) (t : Placed) (k : Kind) → Is k t → (ts : List Placed) (g : GoalRead) → KnownPart bs (parts.ProofEnd e) ts → dot_next bs (parts.ModeAfterProof e) k ≡ Some g → Leads g ts t
proof_known bs e t kinds.Dot is ts g h read =
    led _ g ts t read (with_more bs ts t h (λ vs b. (b.0, b.1, b.2, t.at, b.3, snoc vs b.0 (sign signs.Dot b.1 ∷ word keywords.Proof b.2 ∷ []) t b.4 ∙ ap (λ t. b.0 ++ sign signs.Dot b.1 ∷ word keywords.Proof b.2 ∷ t ∷ []) is)))
proof_known bs e t (kinds.Keyword k) is ts g h read = absurd cc
proof_known bs e t (kinds.Sort s) is ts g h read = absurd cc
proof_known bs e t (kinds.Name x) is ts g h read = absurd cc
proof_known bs e t kinds.Comma is ts g h read = absurd cc
proof_known bs e t kinds.Colon is ts g h read = absurd cc
proof_known bs e t kinds.Open is ts g h read = absurd cc
proof_known bs e t kinds.Close is ts g h read = absurd cc
proof_known bs e t kinds.Other is ts g h read = absurd cc

-- what a token of a goal leads to is known
pub part_known : (bs : List RawBound) (part : Part) (t : Placed) (ts : List Placed) (g : GoalRead) → KnownPart bs part ts → in_goal bs part t ≡ Some g → Leads g ts t
part_known bs parts.Head t ts g h read = head_known bs t ts g h read
part_known bs parts.Binders t ts g h read = forall_known bs t (kind_of t.token) (kind_is t) ts g h read
part_known bs (parts.Bare names) t ts g h read = bare_known bs names t (kind_of t.token) (kind_is t) ts g h read
part_known bs (parts.BareSort names) t ts g h read = bare_sort_known bs names t (kind_of t.token) (kind_is t) ts g h read
part_known bs parts.BareEnd t ts g h read = bare_end_known bs t (kind_of t.token) (kind_is t) ts g h read
part_known bs (parts.Grouped names) t ts g h read = group_known bs names t (kind_of t.token) (kind_is t) ts g h read
part_known bs (parts.GroupedSort names) t ts g h read = group_sort_known bs names t (kind_of t.token) (kind_is t) ts g h read
part_known bs parts.GroupedEnd t ts g h read = group_end_known bs t (kind_of t.token) (kind_is t) ts g h read
part_known bs parts.NextGroup t ts g h read = next_group_known bs t (kind_of t.token) (kind_is t) ts g h read
part_known bs (parts.Body r n) t ts g h read = in_body_known bs r n t ts g h read
part_known bs (parts.Command e) t ts g h read = command_known bs e t (kind_of t.token) (kind_is t) ts g h read
part_known bs (parts.ProofEnd e) t ts g h read = proof_known bs e t (kind_of t.token) (kind_is t) ts g h read
part_known bs (parts.ModeAfterProof e) t ts g h read = mode_known bs e t (kind_of t.token) (kind_is t) ts g (proof_body bs e ts h) read
part_known bs (parts.ModeEnd e m) t ts g h read = absurd cc
