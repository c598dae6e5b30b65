-- The tokens of printed variables are prefixes of a goal that binds them.
use Rattle.std.specs.Prelude.{◌≡◌, ◌≢◌, ℕ, List, [], ◌∷◌, ◌++◌, map, refl}
use Rattle.std.proofs.Common.{sym, ◌∙◌, ap, subst, append_assoc}
use Rattle.std.proofs.lemmas.List.{append-nil, map-append}
use Rattle.goal_ast.specs.declared.term.Sort.{Sort}
use Rattle.goal_ast.specs.declared.goal.Bound.{Bound}
use Rattle.goal_token.specs.declared.token.Keyword.TheVariants as keywords
use Rattle.goal_token.specs.declared.token.Sign.TheVariants as signs
use Rattle.goal_token.specs.declared.token.Token.{Token}
use Rattle.goal_token.specs.declared.token.Token.TheVariants as tokens
use Rattle.goal_token.specs.declared.token.Placed.{Placed}
use Rattle.goal_token.specs.Spacing.{kinds_of}
use Rattle.goal_sort.specs.declared.raw.RawBound.{RawBound}
use Rattle.goal_sort.specs.Sorting.{variable_of}
use Rattle.goal_text.specs.declared.state.Named.{Named}
use Rattle.goal_text.specs.Grammar.{sign}
use Rattle.goal_text.specs.Files.{word, sort, name, group, bounds, Groups, first_group, next_group, Prefixes, no_prefix, bare_prefix, grouped_prefix}
use Rattle.goal_print.specs.Text.{Group}
use Rattle.goal_print.proofs.PieceLaws.{headed, split, no_tokens}
use Rattle.goal_print.proofs.PrefixLaws.{name_token, group_kinds, closed_kinds, several_kinds, groups_kinds, bound_of, variables_of}
use Rattle.goal_text.proofs.WithinLaws.{first_is, others_are}

-- ---- names

pub record AreNamed (ts : List Placed) (names : List (List ℕ)) : Type 0 where
  pub named : List Named
  pub whole : ts ≡ map name named
  pub texts : (s : Sort) → map variable_of (bounds s named) ≡ map (bound_of s) names

named_more : (t : Placed) (ts : List Placed) (x : List ℕ) (xs : List (List ℕ)) → t.token ≡ name_token x → AreNamed ts xs → AreNamed (t ∷ ts) (x ∷ xs)
named_more t ts x xs e n = record {
  named = record { name = record { bytes = x }; at = t.at } ∷ n.named;
  whole = rw (sym n.whole) (ap (λ (k : Token). record { token = k; at = t.at } ∷ ts) e);
  texts = λ s. ap (λ (bs : List Bound). bound_of s x ∷ bs) (n.texts s);
}

names_read : (ts : List Placed) (names : List (List ℕ)) → kinds_of ts ≡ map name_token names → AreNamed ts names
names_read [] [] e = record { named = []; whole = refl; texts = λ s. refl }
names_read [] (x ∷ xs) e = absurd (cc)
names_read (t ∷ ts) [] e = absurd (cc)
names_read (t ∷ ts) (x ∷ xs) e = named_more t ts x xs (first_is e) (names_read ts xs (others_are e))

some_named : (ts : List Placed) (names : List (List ℕ)) (n : AreNamed ts names) → names ≢ [] → kinds_of ts ≡ map name_token names → n.named ≢ []
some_named ts [] n some e = absurd (some refl)
some_named [] (x ∷ xs) n some e = absurd (cc)
some_named (t ∷ ts) (x ∷ xs) n some e = λ h. let w : t ∷ ts ≡ map name [] = n.whole ∙ ap (map name) h in absurd (cc)

-- ---- groups

-- tokens are a group of these variables
pub record IsGroupRead (ts : List Placed) (g : Group) : Type 0 where
  pub names : List Named
  pub colon : ℕ
  pub place : ℕ
  pub whole : ts ≡ group names colon g.sort place
  pub some : names ≢ []
  pub bound : map variable_of (bounds g.sort names) ≡ map (bound_of g.sort) g.names

two_after : (ts front back left rest more : List Placed) (x y : Placed) → ts ≡ front ++ back → front ≡ left → back ≡ x ∷ rest → rest ≡ y ∷ more → more ≡ [] → ts ≡ left ++ x ∷ y ∷ []
two_after ts front back left rest more x y e f g h i = cc

one_after : (ts front back left rest : List Placed) (x : Placed) → ts ≡ front ++ back → front ≡ left → back ≡ x ∷ rest → rest ≡ [] → ts ≡ left ++ x ∷ []
one_after ts front back left rest x e f g h = cc

pub group_read : (ts : List Placed) (g : Group) → g.names ≢ [] → kinds_of ts ≡ group_kinds g → IsGroupRead ts g
group_read ts g some e =
    let p = split (map name_token g.names) (tokens.Sign signs.Colon ∷ tokens.Sort g.sort ∷ []) ts e in
    let c = headed (tokens.Sign signs.Colon) (tokens.Sort g.sort ∷ []) p.right p.right_kinds in
    let d = headed (tokens.Sort g.sort) [] c.rest c.rest_kinds in
    let n = names_read p.left g.names p.left_kinds in
    let l = no_tokens d.rest d.rest_kinds in
    record {
      names = n.named;
      colon = c.place;
      place = d.place;
      whole = two_after ts p.left p.right (map name n.named) c.rest d.rest (sign signs.Colon c.place) (sort g.sort d.place) p.whole n.whole c.whole d.whole l;
      some = some_named p.left g.names n some p.left_kinds;
      bound = n.texts g.sort;
    }

-- tokens are a group in parentheses
pub record IsClosedRead (ts : List Placed) (g : Group) : Type 0 where
  pub names : List Named
  pub opened : ℕ
  pub colon : ℕ
  pub place : ℕ
  pub closed : ℕ
  pub whole : ts ≡ sign signs.Open opened ∷ (group names colon g.sort place ++ sign signs.Close closed ∷ [])
  pub some : names ≢ []
  pub bound : map variable_of (bounds g.sort names) ≡ map (bound_of g.sort) g.names

closed_read : (ts : List Placed) (g : Group) → g.names ≢ [] → kinds_of ts ≡ closed_kinds g → IsClosedRead ts g
closed_read ts g some e =
    let o = headed (tokens.Sign signs.Open) (group_kinds g ++ tokens.Sign signs.Close ∷ []) ts e in
    let p = split (group_kinds g) (tokens.Sign signs.Close ∷ []) o.rest o.rest_kinds in
    let r = group_read p.left g some p.left_kinds in
    let c = headed (tokens.Sign signs.Close) [] p.right p.right_kinds in
    let l = no_tokens c.rest c.rest_kinds in
    record {
      names = r.names;
      opened = o.place;
      colon = r.colon;
      place = r.place;
      closed = c.place;
      whole = o.whole ∙ ap (λ (x : List Placed). sign signs.Open o.place ∷ x) (one_after o.rest p.left p.right (group r.names r.colon g.sort r.place) c.rest (sign signs.Close c.place) p.whole r.whole c.whole l);
      some = r.some;
      bound = r.bound;
    }

-- groups have names
abbrev pub HaveNames : List Group → Type 0
HaveNames [] = Unit {0}
HaveNames (g ∷ gs) = (g.names ≢ []) × HaveNames gs

-- after groups of the variables so far, tokens are groups of these
pub record AreGroupsRead (so_far : List Bound) (before ts : List Placed) (gs : List Group) : Type 0 where
  pub bound : List RawBound
  pub groups : Groups bound (before ++ ts)
  pub variables : map variable_of bound ≡ so_far ++ variables_of gs

rest_read : (cs : List RawBound) (before ts : List Placed) (gs : List Group) → Groups cs before → HaveNames gs → kinds_of ts ≡ several_kinds gs → AreGroupsRead (map variable_of cs) before ts gs
rest_read cs before ts [] is have e = record {
  bound = cs;
  groups = subst (λ (x : List Placed). Groups cs (before ++ x)) (sym (no_tokens ts e)) (subst (Groups cs) (sym (append-nil before)) is);
  variables = sym (append-nil (map variable_of cs));
}
rest_read cs before ts (g ∷ gs) is have e =
    let p = split (closed_kinds g) (several_kinds gs) ts e in
    let r = closed_read p.left g have.0 p.left_kinds in
    let one = sign signs.Open r.opened ∷ (group r.names r.colon g.sort r.place ++ sign signs.Close r.closed ∷ []) in
    let more : Groups (cs ++ bounds g.sort r.names) (before ++ one) = next_group r.opened r.colon r.place r.closed r.names g.sort is r.some in
    let others = rest_read (cs ++ bounds g.sort r.names) (before ++ one) p.right gs more have.1 p.right_kinds in
    record {
      bound = others.bound;
      groups = subst (Groups others.bound) (regroup before one p.left p.right ts r.whole p.whole) others.groups;
      variables = others.variables ∙ ap (λ (x : List Bound). x ++ variables_of gs) (map-append variable_of cs (bounds g.sort r.names)) ∙ with_bound (map variable_of cs) (map variable_of (bounds g.sort r.names)) (map (bound_of g.sort) g.names) (variables_of gs) r.bound;
    }
  where
    regroup : (before one front back ts : List Placed) → front ≡ one → ts ≡ front ++ back → (before ++ one) ++ back ≡ before ++ ts
    regroup before one front back ts f w = append_assoc before one back ∙ ap (λ (x : List Placed). before ++ x) (ap (λ (x : List Placed). x ++ back) (sym f) ∙ sym w)

    with_bound : (a b c d : List Bound) → b ≡ c → (a ++ b) ++ d ≡ a ++ (c ++ d)
    with_bound a b c d e = append_assoc a b d ∙ ap (λ (x : List Bound). a ++ (x ++ d)) e

-- ---- prefixes

-- tokens are prefixes of these variables
pub record ArePrefixesRead (ts : List Placed) (vars : List Bound) : Type 0 where
  pub bound : List RawBound
  pub prefixes : Prefixes bound ts
  pub variables : map variable_of bound ≡ vars

abbrev pub prefix_kinds : List Group → List Token
prefix_kinds gs = tokens.Keyword keywords.Forall ∷ (groups_kinds gs ++ tokens.Sign signs.Comma ∷ [])

comma_after : (ts inner left rest after : List Placed) (f c : Placed) → ts ≡ f ∷ rest → rest ≡ inner ++ after → inner ≡ left → after ≡ c ∷ [] → ts ≡ f ∷ (left ++ c ∷ [])
comma_after ts inner left rest after f c d e g h = cc

bare_read : (ts : List Placed) (g : Group) → g.names ≢ [] → kinds_of ts ≡ prefix_kinds (g ∷ []) → ArePrefixesRead ts (variables_of (g ∷ []))
bare_read ts g some e =
    let f = headed (tokens.Keyword keywords.Forall) (group_kinds g ++ tokens.Sign signs.Comma ∷ []) ts e in
    let p = split (group_kinds g) (tokens.Sign signs.Comma ∷ []) f.rest f.rest_kinds in
    let r = group_read p.left g some p.left_kinds in
    let c = headed (tokens.Sign signs.Comma) [] p.right p.right_kinds in
    let l = no_tokens c.rest c.rest_kinds in
    let w = comma_after ts p.left (group r.names r.colon g.sort r.place) f.rest p.right (word keywords.Forall f.place) (sign signs.Comma c.place) f.whole p.whole r.whole (c.whole ∙ ap (λ (x : List Placed). sign signs.Comma c.place ∷ x) l) in
    record {
      bound = bounds g.sort r.names;
      prefixes = subst (Prefixes (bounds g.sort r.names)) (sym w) (bare_prefix f.place r.colon r.place c.place r.names g.sort no_prefix r.some);
      variables = r.bound ∙ sym (append-nil (map (bound_of g.sort) g.names));
    }

several_read : (ts : List Placed) (g h : Group) (gs : List Group) → HaveNames (g ∷ h ∷ gs) → kinds_of ts ≡ prefix_kinds (g ∷ h ∷ gs) → ArePrefixesRead ts (variables_of (g ∷ h ∷ gs))
several_read ts g h gs have e =
    let f = headed (tokens.Keyword keywords.Forall) (several_kinds (g ∷ h ∷ gs) ++ tokens.Sign signs.Comma ∷ []) ts e in
    let p = split (several_kinds (g ∷ h ∷ gs)) (tokens.Sign signs.Comma ∷ []) f.rest f.rest_kinds in
    let q = split (closed_kinds g) (several_kinds (h ∷ gs)) p.left p.left_kinds in
    let r = closed_read q.left g have.0 q.left_kinds in
    let one = sign signs.Open r.opened ∷ (group r.names r.colon g.sort r.place ++ sign signs.Close r.closed ∷ []) in
    let first : Groups (bounds g.sort r.names) one = first_group r.opened r.colon r.place r.closed r.names g.sort r.some in
    let others = rest_read (bounds g.sort r.names) one q.right (h ∷ gs) first have.1 q.right_kinds in
    let c = headed (tokens.Sign signs.Comma) [] p.right p.right_kinds in
    let l = no_tokens c.rest c.rest_kinds in
    let w = comma_after ts p.left (one ++ q.right) f.rest p.right (word keywords.Forall f.place) (sign signs.Comma c.place) f.whole p.whole (q.whole ∙ ap (λ (x : List Placed). x ++ q.right) r.whole) (c.whole ∙ ap (λ (x : List Placed). sign signs.Comma c.place ∷ x) l) in
    record {
      bound = others.bound;
      prefixes = subst (Prefixes others.bound) (sym w) (grouped_prefix f.place c.place no_prefix others.groups);
      variables = others.variables ∙ ap (λ (x : List Bound). x ++ variables_of (h ∷ gs)) r.bound;
    }

-- the tokens of printed groups are prefixes of their variables
pub prefixes_read : (ts : List Placed) (gs : List Group) → gs ≢ [] → HaveNames gs → kinds_of ts ≡ prefix_kinds gs → ArePrefixesRead ts (variables_of gs)
prefixes_read ts [] some have e = absurd (some refl)
prefixes_read ts (g ∷ []) some have e = bare_read ts g have.0 e
prefixes_read ts (g ∷ h ∷ gs) some have e = several_read ts g h gs have e
