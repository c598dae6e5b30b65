-- Names that are bound twice.
use Rattle.std.proofs.Common.{◌≡◌, ℕ, ◌+◌, List, [], ◌∷◌, ◌++◌, map, Bool, true, false, Option, Some, None, refl, sym, ◌∙◌, subst, append_assoc}
use Rattle.std.specs.Prelude.{◌≢◌, nat_eq, if◌then◌else◌}
use Rattle.std.proofs.lemmas.List.{append-nil}
use Rattle.std.specs.List.{AllByRecursion}
use Rattle.std.specs.Cmp.Lexicographic.{pointwise, same_text, other_text}
use Rattle.goal_ast.specs.declared.term.Sort.{Sort}
use Rattle.goal_ast.specs.Sorted.{names_of, AllDiffer}
use Rattle.goal_sort.specs.declared.raw.RawBound.{RawBound}
use Rattle.goal_sort.specs.Sorting.{same_name, bound_from, second_binding, variable_of}

-- the names of what is bound
abbrev pub raw_names : List RawBound → List (List ℕ)
raw_names bs = names_of (map variable_of bs)

same_bytes : (xs ys : List ℕ) → pointwise nat_eq xs ys ≡ true → xs ≡ ys
same_bytes xs ys h = same_text xs ys (sym h)

-- a fact of all names is one of the next
of_next : (P : List ℕ → Type 0) (before bs : List RawBound) (b : RawBound) → AllByRecursion P (raw_names (before ++ b ∷ bs)) → P b.name.bytes
of_next P [] bs b h = h.0
of_next P (c ∷ before) bs b h = of_next P before bs b h.1

test_false : {A : Type 0} (b : Bool) (x y : A) → (b ≡ true → ⊥) → (if b then x else y) ≡ y
test_false true x y h = absurd (h refl)
test_false false x y h = refl

-- a name that differs from those before it is not among them
not_bound : (v : ℕ) (before bs : List RawBound) (b : RawBound) → AllDiffer (raw_names (before ++ b ∷ bs)) → bound_from v b.name before ≡ None
not_bound v [] bs b h = refl
not_bound v (c ∷ before) bs b h =
    test_false (same_name b.name c.name) (Some (v, c.sort)) (bound_from (v + 1) b.name before)
    (λ e. of_next (λ m. c.name.bytes ≢ m) before bs b h.0 (sym (same_bytes b.name.bytes c.name.bytes e)))
    ∙ not_bound (v + 1) before bs b h.1

unfound : (o : Option (ℕ × Sort)) (p : ℕ) (d : Option ℕ) → o ≡ None → elim o as (λ _. Option ℕ) [ Some v ↦ Some p | None ↦ d ] ≡ d
unfound None p d e = refl
unfound (Some v) p d e = absurd cc

pub none_twice : (before bs : List RawBound) → AllDiffer (raw_names (before ++ bs)) → second_binding before bs ≡ None
none_twice before [] h = refl
none_twice before (b ∷ bs) h =
    unfound (bound_from 0 b.name before) b.at (second_binding (before ++ b ∷ []) bs) (not_bound 0 before bs b h)
    ∙ none_twice (before ++ b ∷ []) bs (subst (λ bs. AllDiffer (raw_names bs)) (sym (append_assoc before (b ∷ []) bs)) h)

-- ---- the other way

test_none : {A : Type 0} (b : Bool) (x : A) (o : Option A) → (if b then Some x else o) ≡ None → (b ≡ false) × (o ≡ None)
test_none true x o h = absurd cc
test_none false x o h = (refl, h)

same_reflects : (xs ys : List ℕ) → pointwise nat_eq xs ys ≡ false → xs ≢ ys
same_reflects xs ys h = other_text xs ys (sym h)

with_next : (P : List ℕ → Type 0) (before : List RawBound) (b : RawBound) → AllByRecursion P (raw_names before) → P b.name.bytes → AllByRecursion P (raw_names (before ++ b ∷ []))
with_next P [] b h k = (k, tt)
with_next P (c ∷ before) b h k = (h.0, with_next P before b h.1 k)

differs_next : (v : ℕ) (before : List RawBound) (b : RawBound) → AllDiffer (raw_names before) → bound_from v b.name before ≡ None → AllDiffer (raw_names (before ++ b ∷ []))
differs_next v [] b h k = (tt, tt)
differs_next v (c ∷ before) b h k =
    let t = test_none (same_name b.name c.name) (v, c.sort) (bound_from (v + 1) b.name before) k in
    (with_next (λ m. c.name.bytes ≢ m) before b h.0 (λ e. same_reflects b.name.bytes c.name.bytes t.0 (sym e)), differs_next (v + 1) before b h.1 t.1)

found_none : (o : Option (ℕ × Sort)) (p : ℕ) (d : Option ℕ) → elim o as (λ _. Option ℕ) [ Some v ↦ Some p | None ↦ d ] ≡ None → (o ≡ None) × (d ≡ None)
found_none None p d e = (refl, e)
found_none (Some v) p d e = absurd cc

pub all_differ : (before bs : List RawBound) → AllDiffer (raw_names before) → second_binding before bs ≡ None → AllDiffer (raw_names (before ++ bs))
all_differ before [] h k = subst (λ bs. AllDiffer (raw_names bs)) (sym (append-nil before)) h
all_differ before (b ∷ bs) h k =
    let f = found_none (bound_from 0 b.name before) b.at (second_binding (before ++ b ∷ []) bs) k in
    subst (λ bs. AllDiffer (raw_names bs)) (append_assoc before (b ∷ []) bs)
    (all_differ (before ++ b ∷ []) bs (differs_next 0 before b h f.0) f.1)
