-- A variable's text is the name that was read, and names find the same variables wherever they are bound.
use Rattle.std.proofs.Common.{◌≡◌, ℕ, suc, ◌+◌, Bool, true, false, cond, List, [], ◌∷◌, Option, Some, None, refl, sym, ap, subst, ◌∙◌, arith}
use Rattle.std.specs.Prelude.{map}
use Rattle.std.specs.List.{AllByRecursion}
use Rattle.std.specs.Cmp.Lexicographic.{same_text}
use Rattle.goal_ast.specs.declared.term.Sort.{Sort}
use Rattle.goal_ast.specs.declared.goal.Name.{Name}
use Rattle.goal_ast.specs.declared.goal.Bound.{Bound}
use Rattle.goal_token.specs.Spacing.{IsName}
use Rattle.goal_sort.specs.declared.raw.RawBound.{RawBound}
use Rattle.goal_sort.specs.Sorting.{same_name, bound_from, variable_of}
use Rattle.goal_print.specs.Text.{name_of}

-- the same variables, and their names are names
pub record SameNames (bs cs : List RawBound) : Type 0 where
  pub same : map variable_of cs ≡ map variable_of bs
  pub named : AllByRecursion (λ (b : RawBound). IsName b.name.bytes) bs

-- ---- the same variables

-- the variable of a name, by names and sorts alone
abbrev found_from : ℕ → Name → List Bound → Option (ℕ × Sort)
found_from v x [] = None
found_from v x (b ∷ vars) = cond (same_name x b.name) (Some (v, b.sort)) (found_from (v + 1) x vars)

of_variables : (v : ℕ) (x : Name) (bs : List RawBound) → bound_from v x bs ≡ found_from v x (map variable_of bs)
of_variables v x [] = refl
of_variables v x (b ∷ bs) = ap (λ (o : Option (ℕ × Sort)). cond (same_name x b.name) (Some (v, b.sort)) o) (of_variables (v + 1) x bs)

pub bound_same : (x : Name) (bs cs : List RawBound) → SameNames bs cs → bound_from 0 x cs ≡ bound_from 0 x bs
bound_same x bs cs names = of_variables 0 x cs ∙ ap (found_from 0 x) names.same ∙ sym (of_variables 0 x bs)

-- ---- the text of a variable

-- so many variables after these, this name stands
record Found (vars : List Bound) (before : ℕ) (x : Name) (v : ℕ) : Type 0 where
  place : ℕ
  counted : v ≡ before + place
  text : name_of vars place ≡ x.bytes
  name : IsName x.bytes

number_is : (p q : ℕ × Sort) → Some p ≡ Some q → p.0 ≡ q.0
number_is p q e = let same : p ≡ q = cc in ap (λ (r : ℕ × Sort). r.0) same

found : (n v : ℕ) (s : Sort) (x : Name) (bs : List RawBound) → AllByRecursion (λ (b : RawBound). IsName b.name.bytes) bs → bound_from n x bs ≡ Some (v, s) → Found (map variable_of bs) n x v
found n v s x [] named is = absurd cc
found n v s x (b ∷ bs) named is = by_name (same_name x b.name) refl is (λ e. found (n + 1) v s x bs named.1 e)
  where
    here : n ≡ v → x.bytes ≡ b.name.bytes → Found (map variable_of (b ∷ bs)) n x v
    here e same = record { place = 0; counted = omega arith; text = sym same; name = subst IsName (sym same) named.0 }

    later : Found (map variable_of bs) (n + 1) x v → Found (map variable_of (b ∷ bs)) n x v
    later f = record { place = suc f.place; counted = (let e = f.counted in omega arith); text = f.text; name = f.name }

    by_name : (c : Bool) → same_name x b.name ≡ c → cond c (Some (n, b.sort)) (bound_from (n + 1) x bs) ≡ Some (v, s) → (bound_from (n + 1) x bs ≡ Some (v, s) → Found (map variable_of bs) (n + 1) x v)
        → Found (map variable_of (b ∷ bs)) n x v
    by_name true e is more = here (number_is (n, b.sort) (v, s) is) (same_text x.bytes b.name.bytes (sym e))
    by_name false e is more = later (more is)

pub bound_text : (v : ℕ) (s : Sort) (x : Name) (bs cs : List RawBound) → SameNames bs cs → bound_from 0 x bs ≡ Some (v, s) → (name_of (map variable_of bs) v ≡ x.bytes) × IsName x.bytes
bound_text v s x bs cs names is =
    let f = found 0 v s x bs names.named is in
    let e : v ≡ f.place = (let k = f.counted in omega arith) in
    (ap (name_of (map variable_of bs)) e ∙ f.text, f.name)
