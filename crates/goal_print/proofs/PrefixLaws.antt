-- The variables that a goal binds, as they are printed, are read again.
use Rattle.std.specs.Prelude.{◌≡◌, ◌≢◌, ℕ, List, [], ◌∷◌, ◌++◌, map, Bool, true, false, codes, refl}
use Rattle.std.specs.List.{AllByRecursion, join_with_byte}
use Rattle.std.proofs.Common.{sym, ◌∙◌, ap, subst}
use Rattle.std.proofs.lemmas.List.{append-nil}
use Rattle.goal_ast.specs.declared.term.Sort.{Sort}
use Rattle.goal_ast.specs.declared.goal.Bound.{Bound}
use Rattle.goal_ast.specs.Sorted.{is_sort}
use Rattle.goal_token.specs.declared.token.Sign.TheVariants as signs
use Rattle.goal_token.specs.declared.token.Token.{Token}
use Rattle.goal_token.specs.declared.token.Token.TheVariants as tokens
use Rattle.goal_token.specs.Spelling.{sort_text}
use Rattle.goal_token.specs.Spacing.{IsName, BeginsExpression, Spells}
use Rattle.goal_token.proofs.SpacingLaws.{begins_append, begins_name_text, spells_name, spells_spaced, spells_between, spells_grouped, spells_sort}
use Rattle.goal_sort.proofs.TakingLaws.{one_sort}
use Rattle.goal_print.specs.Parts.{grouped}
use Rattle.goal_print.specs.Text.{Group, with_first, groups, group_text, groups_text}

-- ---- their tokens

abbrev pub name_token : List ℕ → Token
name_token text = tokens.Name (record { bytes = text })

abbrev pub group_kinds : Group → List Token
group_kinds g = map name_token g.names ++ tokens.Sign signs.Colon ∷ tokens.Sort g.sort ∷ []

abbrev pub closed_kinds : Group → List Token
closed_kinds g = tokens.Sign signs.Open ∷ (group_kinds g ++ tokens.Sign signs.Close ∷ [])

abbrev pub several_kinds : List Group → List Token
several_kinds [] = []
several_kinds (g ∷ gs) = closed_kinds g ++ several_kinds gs

-- one group stands bare
abbrev pub groups_kinds : List Group → List Token
groups_kinds [] = []
groups_kinds (g ∷ []) = group_kinds g
groups_kinds (g ∷ h ∷ gs) = several_kinds (g ∷ h ∷ gs)

-- a group has a name, and each of its names is one
pub record IsGroup (g : Group) : Type 0 where
  pub some : g.names ≢ []
  pub names : AllByRecursion IsName g.names

abbrev pub AreGroups : List Group → Type 0
AreGroups gs = AllByRecursion IsGroup gs

names_spell : (names : List (List ℕ)) → names ≢ [] → AllByRecursion IsName names → Spells (join_with_byte 32 names) (map name_token names)
names_spell [] some are = absurd (some refl)
names_spell (x ∷ []) some are = spells_name x are.0
names_spell (x ∷ y ∷ xs) some are = spells_spaced (spells_name x are.0) (names_spell (y ∷ xs) (λ e. absurd (cc)) are.1)

names_begin : (names : List (List ℕ)) (rest : List ℕ) → names ≢ [] → AllByRecursion IsName names → BeginsExpression (join_with_byte 32 names ++ rest)
names_begin [] rest some are = absurd (some refl)
names_begin (x ∷ []) rest some are = begins_append x rest (begins_name_text x are.0.shape)
names_begin (x ∷ y ∷ xs) rest some are = begins_append (x ++ (32 ∷ join_with_byte 32 (y ∷ xs))) rest (begins_append x (32 ∷ join_with_byte 32 (y ∷ xs)) (begins_name_text x are.0.shape))

pub group_spells : (g : Group) → IsGroup g → Spells (group_text g) (group_kinds g)
group_spells g is = spells_between signs.Colon (names_spell g.names is.some is.names) (spells_sort g.sort)

group_begins : (g : Group) → IsGroup g → BeginsExpression (group_text g)
group_begins g is = names_begin g.names (codes " : " ++ sort_text g.sort) is.some is.names

closed_spells : (g : Group) → IsGroup g → Spells (grouped (group_text g)) (closed_kinds g)
closed_spells g is = spells_grouped (group_begins g is) (group_spells g is)

abbrev closed_text : Group → List ℕ
closed_text g = grouped (group_text g)

several_spell : (g : Group) (gs : List Group) → IsGroup g → AreGroups gs → Spells (join_with_byte 32 (map closed_text (g ∷ gs))) (several_kinds (g ∷ gs))
several_spell g [] is are = subst (Spells (closed_text g)) (sym (append-nil (closed_kinds g))) (closed_spells g is)
several_spell g (h ∷ gs) is are = spells_spaced (closed_spells g is) (several_spell h gs are.0 are.1)

pub groups_spell : (gs : List Group) → gs ≢ [] → AreGroups gs → Spells (groups_text gs) (groups_kinds gs)
groups_spell [] some are = absurd (some refl)
groups_spell (g ∷ []) some are = group_spells g are.0
groups_spell (g ∷ h ∷ gs) some are = several_spell g (h ∷ gs) are.0 are.1

-- ---- the groups of variables

abbrev pub bound_of : Sort → List ℕ → Bound
bound_of s x = record { name = record { bytes = x }; sort = s }

-- the variables of groups
abbrev pub variables_of : List Group → List Bound
variables_of [] = []
variables_of (g ∷ gs) = map (bound_of g.sort) g.names ++ variables_of gs

first_joins : (b : Bound) (g : Group) (gs : List Group) (same : Bool) → is_sort b.sort g.sort ≡ same → variables_of (with_first b (g ∷ gs)) ≡ b ∷ variables_of (g ∷ gs)
first_joins b g gs true e = rw e (ap (λ (s : Sort). bound_of s b.name.bytes ∷ (map (bound_of g.sort) g.names ++ variables_of gs)) (sym (one_sort b.sort g.sort e)))
first_joins b g gs false e = rw e refl

first_variable : (b : Bound) (gs : List Group) → variables_of (with_first b gs) ≡ b ∷ variables_of gs
first_variable b [] = refl
first_variable b (g ∷ gs) = first_joins b g gs (is_sort b.sort g.sort) refl

pub all_variables : (vars : List Bound) → variables_of (groups vars) ≡ vars
all_variables [] = refl
all_variables (b ∷ vars) = first_variable b (groups vars) ∙ ap (λ (xs : List Bound). b ∷ xs) (all_variables vars)

-- each variable has a name
abbrev pub NamesAre : List Bound → Type 0
NamesAre vars = AllByRecursion (λ (b : Bound). IsName b.name.bytes) vars

first_is : (b : Bound) (g : Group) (gs : List Group) (same : Bool) → is_sort b.sort g.sort ≡ same → IsName b.name.bytes → AreGroups (g ∷ gs) → AreGroups (with_first b (g ∷ gs))
first_is b g gs true e n are = rw e (record { some = λ h. absurd (cc); names = (n, are.0.names) }, are.1)
first_is b g gs false e n are = rw e (record { some = λ h. absurd (cc); names = (n, tt) }, are)

first_group_is : (b : Bound) (gs : List Group) → IsName b.name.bytes → AreGroups gs → AreGroups (with_first b gs)
first_group_is b [] n are = (record { some = λ h. absurd (cc); names = (n, tt) }, tt)
first_group_is b (g ∷ gs) n are = first_is b g gs (is_sort b.sort g.sort) refl n are

pub are_groups : (vars : List Bound) → NamesAre vars → AreGroups (groups vars)
are_groups [] n = tt
are_groups (b ∷ vars) n = first_group_is b (groups vars) n.0 (are_groups vars n.1)

some_joined : (b : Bound) (g : Group) (gs : List Group) (same : Bool) → is_sort b.sort g.sort ≡ same → with_first b (g ∷ gs) ≢ []
some_joined b g gs true e = rw e (λ h. absurd (cc))
some_joined b g gs false e = rw e (λ h. absurd (cc))

some_first : (b : Bound) (gs : List Group) → with_first b gs ≢ []
some_first b [] = λ h. absurd (cc)
some_first b (g ∷ gs) = some_joined b g gs (is_sort b.sort g.sort) refl

pub some_groups : (b : Bound) (vars : List Bound) → groups (b ∷ vars) ≢ []
some_groups b vars = some_first b (groups vars)
