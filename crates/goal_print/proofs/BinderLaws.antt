-- The groups of the variables, read one variable after the other.
use Rattle.std.proofs.Common.{◌≡◌, ℕ, suc, Bool, true, false, not, ◌||◌, List, [], ◌∷◌, ◌++◌, length, map, if◌then◌else◌, nat_lt, codes, refl, sym, ◌∙◌, ap, arith}
use Rattle.std.specs.List.{join_with_byte, list_any}
use Rattle.std.proofs.lemmas.List.{append_assoc, append-nil}
use Rattle.std.proofs.lemmas.Bool.{le-leb}
use Rattle.goal_ast.specs.declared.term.Sort.{Sort}
use Rattle.goal_ast.specs.declared.goal.Bound.{Bound}
use Rattle.goal_ast.specs.Sorted.{is_sort}
use Rattle.goal_token.specs.Spelling.{sort_text}
use Rattle.goal_print.specs.Parts.{grouped}
use Rattle.goal_print.specs.Text.{Group, with_first, groups, group_text, groups_text}
use Rattle.goal_print.specs.Binders.{opening, closing, ending, following}
use Rattle.goal_sort.proofs.TakingLaws.{one_sort}

-- further groups, each after a space and between these parentheses
abbrev pub after_group : Bool → List Group → List ℕ
after_group several [] = []
after_group several (g ∷ gs) = 32 ∷ (opening several ++ (group_text g ++ (closing several ++ after_group several gs)))

-- groups, from the first name of the first on
abbrev pub from_name : Bool → Group → List Group → List ℕ
from_name several g gs = group_text g ++ (closing several ++ after_group several gs)

abbrev pub with_sort : Sort → List (List ℕ) → Group
with_sort s names = record { sort = s; names = names }

-- the group of a variable and these names
abbrev pub named : Bound → List (List ℕ) → Group
named b names = with_sort b.sort (b.name.bytes ∷ names)

-- the groups of some variables of which this is the first
pub record Grouping (several : Bool) (b : Bound) (vars : List Bound) : Type 0 where
  pub others : List (List ℕ)
  pub more : List Group
  pub is : groups (b ∷ vars) ≡ named b others ∷ more
  pub reads : from_name several (named b others) more ≡ b.name.bytes ++ following several b.sort vars
  pub count : nat_lt 1 (length (named b others ∷ more)) ≡ list_any (λ (c : Bound). not (is_sort b.sort c.sort)) vars

one_more : (n j s t : List ℕ) (k : ℕ) → ((n ++ (k ∷ j)) ++ s) ++ t ≡ n ++ (k ∷ ((j ++ s) ++ t))
one_more n j s t k = ap (λ x. x ++ t) (append_assoc n (k ∷ j) s) ∙ append_assoc n ((k ∷ j) ++ s) t

one_apart : (n p s c o m f : List ℕ) (k : ℕ) → (n ++ (p ++ s)) ++ (c ++ (k ∷ (o ++ (m ++ f)))) ≡ n ++ (((p ++ (s ++ c)) ++ (k ∷ (o ++ m))) ++ f)
one_apart n p s c o m f k = simp append_assoc

first_group : (several : Bool) (b : Bound) → from_name several (named b []) [] ≡ b.name.bytes ++ following several b.sort []
first_group several b = simp (append_assoc, append-nil)

grouping_by : (several : Bool) (b c : Bound) (vars : List Bound) (t : Bool) → is_sort b.sort c.sort ≡ t → Grouping several c vars → Grouping several b (c ∷ vars)
grouping_by several b c vars true e g =
    let same : b.sort ≡ c.sort = one_sort b.sort c.sort e in
    record {
      others = c.name.bytes ∷ g.others;
      more = g.more;
      is = ap (λ gs. with_first b gs) g.is
          ∙ ap (λ (t : Bool). if t then with_sort c.sort (b.name.bytes ∷ c.name.bytes ∷ g.others) ∷ g.more else named b [] ∷ named c g.others ∷ g.more) e
          ∙ ap (λ (s : Sort). with_sort s (b.name.bytes ∷ c.name.bytes ∷ g.others) ∷ g.more) (sym same);
      reads = ap (λ (s : Sort). from_name several (with_sort s (b.name.bytes ∷ c.name.bytes ∷ g.others)) g.more) same
          ∙ one_more b.name.bytes (join_with_byte 32 (c.name.bytes ∷ g.others)) (codes " : " ++ sort_text c.sort) (closing several ++ after_group several g.more) 32
          ∙ ap (λ x. b.name.bytes ++ (32 ∷ x)) g.reads
          ∙ sym (ap (λ (t : Bool). b.name.bytes ++ ((if t then codes " " ++ c.name.bytes else ending several b.sort ++ (codes " " ++ (opening several ++ c.name.bytes))) ++ following several c.sort vars)) e);
      count = g.count ∙ ap (λ (s : Sort). list_any (λ (d : Bound). not (is_sort s d.sort)) vars) (sym same)
          ∙ sym (ap (λ (t : Bool). not t || list_any (λ (d : Bound). not (is_sort b.sort d.sort)) vars) e);
    }
grouping_by several b c vars false e g =
    record {
      others = [];
      more = named c g.others ∷ g.more;
      is = ap (λ gs. with_first b gs) g.is
          ∙ ap (λ (t : Bool). if t then with_sort c.sort (b.name.bytes ∷ c.name.bytes ∷ g.others) ∷ g.more else named b [] ∷ named c g.others ∷ g.more) e;
      reads = ap (λ x. (b.name.bytes ++ (codes " : " ++ sort_text b.sort)) ++ (closing several ++ (32 ∷ (opening several ++ x)))) g.reads
          ∙ one_apart b.name.bytes (codes " : ") (sort_text b.sort) (closing several) (opening several) c.name.bytes (following several c.sort vars) 32
          ∙ sym (ap (λ (t : Bool). b.name.bytes ++ ((if t then codes " " ++ c.name.bytes else ending several b.sort ++ (codes " " ++ (opening several ++ c.name.bytes))) ++ following several c.sort vars)) e);
      count = le-leb 2 (suc (suc (length g.more))) (omega arith) ∙ sym (ap (λ (t : Bool). not t || list_any (λ (d : Bound). not (is_sort b.sort d.sort)) vars) e);
    }

grouping : (several : Bool) (b : Bound) (vars : List Bound) → Grouping several b vars
grouping several b [] = record { others = []; more = []; is = refl; reads = first_group several b; count = refl }
grouping several b (c ∷ vars) = grouping_by several b c vars (is_sort b.sort c.sort) refl (grouping several c vars)

listed : (g : Group) (gs : List Group) → join_with_byte 32 (map (λ k. grouped (group_text k)) (g ∷ gs)) ≡ opening true ++ from_name true g gs
listed g [] = refl
listed g (h ∷ gs) = ap (λ x. grouped (group_text g) ++ (32 ∷ x)) (listed h gs)
    ∙ ap (λ x. 40 ∷ x) (append_assoc (group_text g) (codes ")") (32 ∷ (opening true ++ from_name true h gs)))

whole : (several : Bool) (g : Group) (gs : List Group) → several ≡ nat_lt 1 (length (g ∷ gs)) → groups_text (g ∷ gs) ≡ opening several ++ from_name several g gs
whole false g [] e = sym (append-nil (group_text g))
whole true g [] e = cc
whole false g (h ∷ gs) e = cc (le-leb 2 (suc (suc (length gs))) (omega arith))
whole true g (h ∷ gs) e = listed g (h ∷ gs)

-- the text of the groups, one variable after the other
pub groups_read : (several : Bool) (b : Bound) (vars : List Bound) → several ≡ list_any (λ (c : Bound). not (is_sort b.sort c.sort)) vars
    → groups_text (groups (b ∷ vars)) ≡ opening several ++ (b.name.bytes ++ following several b.sort vars)
groups_read several b vars e =
    let g = grouping several b vars in
    ap (λ gs. groups_text gs) g.is ∙ whole several (named b g.others) g.more (e ∙ sym g.count) ∙ ap (λ x. opening several ++ x) g.reads
