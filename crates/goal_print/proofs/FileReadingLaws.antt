-- A printed goal, in a file of its own, is read again.
use Rattle.std.specs.Prelude.{◌≡◌, ◌≢◌, ℕ, List, [], ◌∷◌, ◌++◌, length, map, codes, refl}
use Rattle.std.proofs.Common.{sym, ◌∙◌, ap, subst, append_assoc}
use Rattle.std.proofs.lemmas.List.{length-map}
use Rattle.goal_ast.specs.declared.goal.Mode.{Mode}
use Rattle.goal_ast.specs.declared.goal.Mode.TheVariants.{Lia, Nia}
use Rattle.goal_ast.specs.declared.goal.Bound.{Bound}
use Rattle.goal_token.specs.declared.token.Keyword.TheVariants as keywords
use Rattle.goal_token.specs.declared.token.Sign.TheVariants as signs
use Rattle.goal_token.specs.declared.token.Token.{Token}
use Rattle.goal_token.specs.declared.token.Token.TheVariants as tokens
use Rattle.goal_token.specs.declared.token.Placed.{Placed}
use Rattle.goal_token.specs.Words.{words}
use Rattle.goal_token.specs.Spacing.{kinds_of, IsName, Spells}
use Rattle.goal_token.proofs.SpacingLaws.{written_word, name_text_of, spells_name, spells_spaced, spells_comma, spells_dot, spells_last_dot}
use Rattle.goal_sort.specs.declared.raw.RawBound.{RawBound}
use Rattle.goal_sort.specs.declared.raw.RawExpr.{RawExpr}
use Rattle.goal_sort.specs.declared.raw.RawGoal.{RawGoal}
use Rattle.goal_sort.specs.Sorting.{variable_of}
use Rattle.goal_text.specs.Grammar.{sign, Expr}
use Rattle.goal_text.specs.Files.{word, name, Prefixes, no_prefix, mode_word, at_once, no_end, Goals, no_goal, next_goal, Sessions, no_session, next_session}
use Rattle.goal_text.proofs.WithinLaws.{HasOneGoal}
use Rattle.goal_print.specs.Text.{groups, groups_text, binders_text}
use Rattle.goal_print.specs.ReadsBack.{mode_text, alone}
use Rattle.goal_print.proofs.PrefixLaws.{groups_kinds, groups_spell, all_variables, AreGroups, NamesAre, are_groups, some_groups}
use Rattle.goal_print.proofs.PieceLaws.{headed, split, no_tokens}
use Rattle.goal_print.proofs.PrefixReadingLaws.{HaveNames, ArePrefixesRead, prefix_kinds, prefixes_read}

-- ---- what stands before a body

pub record PrefixBack (vars : List Bound) : Type 0 where
  pub kinds : List Token
  pub spells : (body : List ℕ) (l : List Token) → Spells body l → Spells (binders_text vars ++ body) (kinds ++ l)
  pub derives : (ts : List Placed) → kinds_of ts ≡ kinds → ArePrefixesRead ts vars

have_names : (gs : _) → AreGroups gs → HaveNames gs
have_names [] are = tt
have_names (g ∷ gs) are = (are.0.some, have_names gs are.1)

forall_spells : Spells (codes "forall") (tokens.Keyword keywords.Forall ∷ [])
unfolding words
forall_spells = written_word refl refl

groups_before : (gs : _) → gs ≢ [] → AreGroups gs → (body : List ℕ) (l : List Token) → Spells body l
    → Spells ((codes "forall " ++ (groups_text gs ++ codes ", ")) ++ body) (prefix_kinds gs ++ l)
groups_before gs some are body l s =
    let whole = spells_spaced forall_spells (spells_comma (groups_spell gs some are) s) in
    let texts : codes "forall" ++ (32 ∷ (groups_text gs ++ (44 ∷ 32 ∷ body))) ≡ (codes "forall " ++ (groups_text gs ++ codes ", ")) ++ body = ap (λ (x : List ℕ). codes "forall " ++ x) (sym (append_assoc (groups_text gs) (codes ", ") body)) in
    let kinds : (tokens.Keyword keywords.Forall ∷ []) ++ (groups_kinds gs ++ tokens.Sign signs.Comma ∷ l) ≡ prefix_kinds gs ++ l = ap (λ (x : List Token). tokens.Keyword keywords.Forall ∷ x) (sym (append_assoc (groups_kinds gs) (tokens.Sign signs.Comma ∷ []) l)) in
    subst (λ (x : List ℕ). Spells x (prefix_kinds gs ++ l)) texts (subst (Spells (codes "forall" ++ (32 ∷ (groups_text gs ++ (44 ∷ 32 ∷ body))))) kinds whole)

pub prefix_back : (vars : List Bound) → NamesAre vars → PrefixBack vars
prefix_back [] are = record {
  kinds = [];
  spells = λ body l s. s;
  derives = λ ts e. record { bound = []; prefixes = subst (Prefixes []) (sym (no_tokens ts e)) no_prefix; variables = refl };
}
prefix_back (b ∷ vars) are =
    let gs = groups (b ∷ vars) in
    let is = are_groups (b ∷ vars) are in
    record {
      kinds = prefix_kinds gs;
      spells = groups_before gs (some_groups b vars) is;
      derives = λ ts e. subst (ArePrefixesRead ts) (all_variables (b ∷ vars)) (prefixes_read ts gs (some_groups b vars) (have_names gs is) e);
    }

-- ---- the file

abbrev pub file_of : List ℕ → Mode → List ℕ
file_of text m = codes "Session a. Goal " ++ (text ++ (codes ". " ++ (mode_text m ++ codes ".")))

abbrev pub file_kinds : List Token → Mode → List Token
file_kinds k m =
    tokens.Keyword keywords.Session ∷ tokens.Name (record { bytes = codes "a" }) ∷ tokens.Sign signs.Dot ∷ tokens.Keyword keywords.Goal
    ∷ (k ++ tokens.Sign signs.Dot ∷ tokens.Keyword (mode_word m) ∷ tokens.Sign signs.Dot ∷ [])

session_spells : Spells (codes "Session") (tokens.Keyword keywords.Session ∷ [])
unfolding words
session_spells = written_word refl refl

goal_spells : Spells (codes "Goal") (tokens.Keyword keywords.Goal ∷ [])
unfolding words
goal_spells = written_word refl refl

mode_spells : (m : Mode) → Spells (mode_text m) (tokens.Keyword (mode_word m) ∷ [])
unfolding words
mode_spells Lia = written_word refl refl
mode_spells Nia = written_word refl refl

a_is_name : IsName (codes "a")
unfolding words
a_is_name = record { shape = name_text_of (codes "a") refl; free = refl }

pub file_spells : (text : List ℕ) (k : List Token) (m : Mode) → Spells text k → Spells (file_of text m) (file_kinds k m)
file_spells text k m s = spells_spaced session_spells (spells_dot (spells_name (codes "a") a_is_name) (spells_spaced goal_spells (spells_dot s (spells_last_dot (mode_spells m)))))

-- the goal of such a file, from its tokens; those of its body are of these kinds
pub record IsFileRead (ts : List Placed) (m : Mode) (vars : List Bound) (k : List Token) (IsIt : List RawBound → RawExpr → Type 0) : Type 0 where
  pub raw : RawGoal
  pub reads : Sessions (alone raw) ts
  pub mode : raw.mode ≡ m
  pub variables : map variable_of raw.bound ≡ vars
  pub body : IsIt raw.bound raw.body
  pub one : HasOneGoal ts raw.bound raw.body
  pub size : length one.body ≡ length k

last_three : (ts front back b c d : List Placed) (x y z : Placed) → ts ≡ front ++ back → back ≡ x ∷ b → b ≡ y ∷ c → c ≡ z ∷ d → d ≡ [] → ts ≡ front ++ x ∷ y ∷ z ∷ []
last_three ts front back b c d x y z e f g h i = cc

first_four : (ts a b c d rest : List Placed) (x y z w : Placed) → ts ≡ x ∷ a → a ≡ y ∷ b → b ≡ z ∷ c → c ≡ w ∷ d → d ≡ rest → ts ≡ x ∷ y ∷ z ∷ w ∷ rest
first_four ts a b c d rest x y z w e f g h i = cc

in_two : (front us vs rest : List Placed) → front ≡ us ++ vs → front ++ rest ≡ us ++ (vs ++ rest)
in_two front us vs rest e = ap (λ (x : List Placed). x ++ rest) e ∙ append_assoc us vs rest

as_many : (ts : List Placed) (k : List Token) → kinds_of ts ≡ k → length ts ≡ length k
as_many ts k e = sym (length-map ts (λ (t : Placed). t.token)) ∙ ap length e

pub file_derives : (m : Mode) (vars : List Bound) (IsIt : List RawBound → RawExpr → Type 0) (prefix : PrefixBack vars) (k : List Token)
    → ((cs : List RawBound) → map variable_of cs ≡ vars → (us : List Placed) → kinds_of us ≡ k → (d : RawExpr) × Expr 100 d us × IsIt cs d)
    → (ts : List Placed) → kinds_of ts ≡ file_kinds (prefix.kinds ++ k) m → IsFileRead ts m vars k IsIt
file_derives m vars IsIt prefix k body ts e =
    let tail = tokens.Sign signs.Dot ∷ tokens.Keyword (mode_word m) ∷ tokens.Sign signs.Dot ∷ [] in
    let s = headed (tokens.Keyword keywords.Session) (tokens.Name (record { bytes = codes "a" }) ∷ tokens.Sign signs.Dot ∷ tokens.Keyword keywords.Goal ∷ ((prefix.kinds ++ k) ++ tail)) ts e in
    let n = headed (tokens.Name (record { bytes = codes "a" })) (tokens.Sign signs.Dot ∷ tokens.Keyword keywords.Goal ∷ ((prefix.kinds ++ k) ++ tail)) s.rest s.rest_kinds in
    let o = headed (tokens.Sign signs.Dot) (tokens.Keyword keywords.Goal ∷ ((prefix.kinds ++ k) ++ tail)) n.rest n.rest_kinds in
    let g = headed (tokens.Keyword keywords.Goal) ((prefix.kinds ++ k) ++ tail) o.rest o.rest_kinds in
    let p = split (prefix.kinds ++ k) tail g.rest g.rest_kinds in
    let q = split prefix.kinds k p.left p.left_kinds in
    let d = headed (tokens.Sign signs.Dot) (tokens.Keyword (mode_word m) ∷ tokens.Sign signs.Dot ∷ []) p.right p.right_kinds in
    let l = headed (tokens.Keyword (mode_word m)) (tokens.Sign signs.Dot ∷ []) d.rest d.rest_kinds in
    let z = headed (tokens.Sign signs.Dot) [] l.rest l.rest_kinds in
    let b = prefix.derives q.left q.left_kinds in
    let f = body b.bound b.variables q.right q.right_kinds in
    let made : RawGoal = record { mode = m; bound = b.bound; body = f.0; at = g.place } in
    let rest = sign signs.Dot d.place ∷ word (mode_word m) l.place ∷ sign signs.Dot z.place ∷ [] in
    let after : g.rest ≡ q.left ++ (q.right ++ rest) = last_three g.rest p.left p.right d.rest l.rest z.rest (sign signs.Dot d.place) (word (mode_word m) l.place) (sign signs.Dot z.place) p.whole d.whole l.whole z.whole (no_tokens z.rest z.rest_kinds) ∙ in_two p.left q.left q.right rest q.whole in
    let whole = first_four ts s.rest n.rest o.rest g.rest (q.left ++ (q.right ++ rest)) (word keywords.Session s.place) (name (record { name = record { bytes = codes "a" }; at = n.place })) (sign signs.Dot o.place) (word keywords.Goal g.place) s.whole n.whole o.whole g.whole after in
    let goals : Goals (made ∷ []) (word keywords.Goal g.place ∷ (q.left ++ (q.right ++ rest))) = next_goal m g.place d.place l.place z.place no_goal b.prefixes f.1 at_once no_end in
    let sessions : Sessions (alone made) (word keywords.Session s.place ∷ name (record { name = record { bytes = codes "a" }; at = n.place }) ∷ sign signs.Dot o.place ∷ word keywords.Goal g.place ∷ (q.left ++ (q.right ++ rest))) =
    next_session (record { name = record { bytes = codes "a" }; at = n.place }) s.place o.place no_session goals in
    record {
      raw = made;
      reads = subst (Sessions (alone made)) (sym whole) sessions;
      mode = refl;
      variables = b.variables;
      body = f.2;
      one = record {
        session = s.place;
        named = record { name = record { bytes = codes "a" }; at = n.place };
        opened = o.place;
        place = g.place;
        head = q.left;
        body = q.right;
        dot = d.place;
        mode = m;
        command = l.place;
        end = z.place;
        prefixes = b.prefixes;
        expression = f.1;
        whole = whole;
      };
      size = as_many q.right k q.right_kinds;
    }
