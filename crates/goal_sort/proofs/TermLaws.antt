-- The folds over terms at a term that is made of its parts. The sort of subtractions changes neither the literals nor the
-- number of nodes.
use Rattle.std.specs.Prelude.{◌≡◌, ℕ, ◌+◌, Bool, ◌&&◌, List, refl}
use Rattle.std.proofs.Common.{ap, sym, ◌∙◌, subst}
use Rattle.goal_ast.specs.declared.term.Sort.{Sort}
use Rattle.goal_ast.specs.declared.term.Term.{Term}
use Rattle.goal_ast.specs.declared.term.Term.TheOpen.{Term-F}
use Rattle.goal_ast.specs.declared.term.Term.TheViews.{roll-Term}
use Rattle.goal_ast.specs.declared.term.Term.TheVariants.{rolls-Lit, rolls-Var, rolls-Neg, rolls-Add, rolls-Sub, rolls-Mul, rolls-Pow, rolls-Div, rolls-Rem, rolls-Call1, rolls-Call2}
use Rattle.goal_ast.specs.declared.term.Term.TheFolds.{map-Term, fold-roll-Term, ind-Term}
use Rattle.goal_ast.specs.Sorted.{is_small, Sorting, sort_level, has_sort, literal_level, literals_small, term_node, term_nodes}
use Rattle.goal_sort.specs.SortedNumbers.{with_sort_level, with_sort}

-- ---- a term that is made of its parts

pub term_sort : (y : Term-F Term) {t : Term} → roll-Term y ≡ t → (vars : List Sort) (s : Sort) → has_sort t vars s ≡ sort_level (map-Term Term Sorting has_sort y) vars s
term_sort y e vars s = ap (λ t. has_sort t vars s) (sym e) ∙ ap (λ f. f vars s) (fold-roll-Term Sorting sort_level y)

pub term_small : (y : Term-F Term) {t : Term} → roll-Term y ≡ t → literals_small t ≡ literal_level (map-Term Term Bool literals_small y)
term_small y e = ap literals_small (sym e) ∙ fold-roll-Term Bool literal_level y

pub term_size : (y : Term-F Term) {t : Term} → roll-Term y ≡ t → term_nodes t ≡ term_node (map-Term Term ℕ term_nodes y)
term_size y e = ap term_nodes (sym e) ∙ fold-roll-Term ℕ term_node y

pub term_with : (s : Sort) (y : Term-F Term) {t : Term} → roll-Term y ≡ t → with_sort s t ≡ with_sort_level s (map-Term Term Term (with_sort s) y)
term_with s y e = ap (with_sort s) (sym e) ∙ fold-roll-Term Term (with_sort_level s) y

-- ---- what the sort of subtractions doesn't change

pub record Keeps (t : Term) : Type 0 where
  pub small : (s : Sort) → literals_small (with_sort s t) ≡ literals_small t
  pub nodes : (s : Sort) → term_nodes (with_sort s t) ≡ term_nodes t

abbrev Known : Type 0
Known = (t : Term) × Keeps t

abbrev terms_of : Term-F Known → Term-F Term
terms_of y = map-Term Known Term (λ p. p.0) y

-- the same node over the parts with their subtractions on the sort
abbrev with_parts : Sort → Term-F Known → Term-F Term
with_parts s (Term-F.Sub r a b) = Term-F.Sub s (with_sort s a.0) (with_sort s b.0)
with_parts s (Term-F.Lit n) = Term-F.Lit n
with_parts s (Term-F.Var v) = Term-F.Var v
with_parts s (Term-F.Neg a) = Term-F.Neg (with_sort s a.0)
with_parts s (Term-F.Add a b) = Term-F.Add (with_sort s a.0) (with_sort s b.0)
with_parts s (Term-F.Mul a b) = Term-F.Mul (with_sort s a.0) (with_sort s b.0)
with_parts s (Term-F.Pow a k) = Term-F.Pow (with_sort s a.0) k
with_parts s (Term-F.Div a k) = Term-F.Div (with_sort s a.0) k
with_parts s (Term-F.Rem a k) = Term-F.Rem (with_sort s a.0) k
with_parts s (Term-F.Call1 f a) = Term-F.Call1 f (with_sort s a.0)
with_parts s (Term-F.Call2 f a b) = Term-F.Call2 f (with_sort s a.0) (with_sort s b.0)

rolled : (s : Sort) (y : Term-F Known) → roll-Term (with_parts s y) ≡ with_sort_level s (map-Term Term Term (with_sort s) (terms_of y))
rolled s (Term-F.Lit n) = rolls-Lit n
rolled s (Term-F.Var v) = rolls-Var v
rolled s (Term-F.Neg a) = rolls-Neg (with_sort s a.0)
rolled s (Term-F.Add a b) = rolls-Add (with_sort s a.0) (with_sort s b.0)
rolled s (Term-F.Sub r a b) = rolls-Sub s (with_sort s a.0) (with_sort s b.0)
rolled s (Term-F.Mul a b) = rolls-Mul (with_sort s a.0) (with_sort s b.0)
rolled s (Term-F.Pow a k) = rolls-Pow (with_sort s a.0) k
rolled s (Term-F.Div a k) = rolls-Div (with_sort s a.0) k
rolled s (Term-F.Rem a k) = rolls-Rem (with_sort s a.0) k
rolled s (Term-F.Call1 f a) = rolls-Call1 f (with_sort s a.0)
rolled s (Term-F.Call2 f a b) = rolls-Call2 f (with_sort s a.0) (with_sort s b.0)

small_step : (s : Sort) (y : Term-F Known) → literal_level (map-Term Term Bool literals_small (with_parts s y)) ≡ literal_level (map-Term Term Bool literals_small (terms_of y))
small_step s (Term-F.Lit n) = refl
small_step s (Term-F.Var v) = refl
small_step s (Term-F.Neg a) = a.1.small s
small_step s (Term-F.Add a b) = rw (a.1.small s, b.1.small s) refl
small_step s (Term-F.Sub r a b) = rw (a.1.small s, b.1.small s) refl
small_step s (Term-F.Mul a b) = rw (a.1.small s, b.1.small s) refl
small_step s (Term-F.Pow a k) = ap (λ (x : Bool). x && is_small k) (a.1.small s)
small_step s (Term-F.Div a k) = ap (λ (x : Bool). x && is_small k) (a.1.small s)
small_step s (Term-F.Rem a k) = ap (λ (x : Bool). x && is_small k) (a.1.small s)
small_step s (Term-F.Call1 f a) = a.1.small s
small_step s (Term-F.Call2 f a b) = rw (a.1.small s, b.1.small s) refl

nodes_step : (s : Sort) (y : Term-F Known) → term_node (map-Term Term ℕ term_nodes (with_parts s y)) ≡ term_node (map-Term Term ℕ term_nodes (terms_of y))
nodes_step s (Term-F.Lit n) = refl
nodes_step s (Term-F.Var v) = refl
nodes_step s (Term-F.Neg a) = ap (λ n. n + 1) (a.1.nodes s)
nodes_step s (Term-F.Add a b) = rw (a.1.nodes s, b.1.nodes s) refl
nodes_step s (Term-F.Sub r a b) = rw (a.1.nodes s, b.1.nodes s) refl
nodes_step s (Term-F.Mul a b) = rw (a.1.nodes s, b.1.nodes s) refl
nodes_step s (Term-F.Pow a k) = ap (λ n. n + 1) (a.1.nodes s)
nodes_step s (Term-F.Div a k) = ap (λ n. n + 1) (a.1.nodes s)
nodes_step s (Term-F.Rem a k) = ap (λ n. n + 1) (a.1.nodes s)
nodes_step s (Term-F.Call1 f a) = ap (λ n. n + 1) (a.1.nodes s)
nodes_step s (Term-F.Call2 f a b) = rw (a.1.nodes s, b.1.nodes s) refl

pub keeps : (t : Term) → Keeps t
keeps = ind-Term Keeps (λ d y q. subst (λ (z : Term-F Term). Keeps (roll-Term z)) q (step y))
  where
    step : (y : Term-F Known) → Keeps (roll-Term (terms_of y))
    step y = record {
      small = λ s. ap literals_small (fold-roll-Term Term (with_sort_level s) (terms_of y)) ∙ term_small (with_parts s y) (rolled s y) ∙ small_step s y ∙ sym (term_small (terms_of y) refl);
      nodes = λ s. ap term_nodes (fold-roll-Term Term (with_sort_level s) (terms_of y)) ∙ term_size (with_parts s y) (rolled s y) ∙ nodes_step s y ∙ sym (term_size (terms_of y) refl);
    }
