-- Values put at the places of variables that rise.
use Rattle.std.specs.Prelude.{◌≡◌, ◌≢◌, ℕ, zero, suc, ◌+◌, ◌<◌, ◌≤◌, ℤ, pos, negsuc, List, [], ◌∷◌, length, set, Bool, true, false, cond, not, nat_eq, slice_index_or, if◌then◌else◌, refl}
use Rattle.std.specs.List.{AllByRecursion}
use Rattle.std.specs.List.Sorted.{IsStrictlySortedBy}
use Rattle.std.specs.Ordering.{nat_cmp}
use Rattle.std.specs.declared.cmp.Ordering.TheVariants.{Less}
use Rattle.std.proofs.Common.{ap, sym, ◌∙◌, subst, arith, inl, inr}
use Rattle.std.proofs.lemmas.Bool.{cases_lt}
use Rattle.std.proofs.lemmas.Int.{to_z-of_z}
use Rattle.std.specs.Int.{w128}
use mir.Val.{SFits, of_z, to_z}
use Rattle.mm_num.specs.Small.{IsSmall}
use Rattle.std.proofs.lemmas.List.{get_or-set_same, get_or-set_other, length-set}
use Rattle.std.proofs.lemmas.Map.Keys.{below_from_sorted}
use Rattle.mm_poly.specs.Point.{point_of as point_by}
use Rattle.mm_poly.proofs.FactorLaws.{less_is}
use Rattle.goal_ast.specs.Truth.{Point}
use Rattle.cert_kit.specs.Variables.{place_of}
use Rattle.clause_form.specs.Clauses.{GivesBack}
use Rattle.cert_kit.proofs.VariableLaws.{occurs, any_self, or_second, found, place_within}
use Rattle.goal_serve.specs.Answering.{placed}

-- ---- a variable at its place

at_place : (vars : List ℕ) (i : ℕ) → i < length vars → occurs (slice_index_or vars i 0) vars ≡ true
at_place [] i h = absurd (omega arith)
at_place (u ∷ vars) zero h = any_here u vars
  where
    any_here : (u : ℕ) (vars : List ℕ) → occurs u (u ∷ vars) ≡ true
    any_here u vars = rw (any_self u) refl
at_place (u ∷ vars) (suc i) h = or_second (nat_eq (slice_index_or vars i 0) u) (occurs (slice_index_or vars i 0) vars) (at_place vars i (omega arith))

all_below : (u : ℕ) (vars : List ℕ) (i : ℕ) → AllByRecursion (λ w. nat_cmp u w ≡ Less) vars → i < length vars → u < slice_index_or vars i 0
all_below u [] i a h = absurd (omega arith)
all_below u (w ∷ vars) zero a h = less_is u w a.0
all_below u (w ∷ vars) (suc i) a h = all_below u vars i a.1 (omega arith)

place_back : (vars : List ℕ) (i : ℕ) → IsStrictlySortedBy nat_cmp vars → i < length vars → place_of vars (slice_index_or vars i 0) ≡ i
unfolding IsStrictlySortedBy
place_back [] i s h = absurd (omega arith)
place_back (u ∷ vars) zero s h = ap (λ (c : Bool). cond (not c) (1 + place_of vars u) 0) (any_self u)
place_back (u ∷ vars) (suc i) s h =
    let l : u < slice_index_or vars i 0 = all_below u vars i s.0 (omega arith) in
    let e : nat_eq (slice_index_or vars i 0) u ≡ false = grind arith in
    let k : place_of vars (slice_index_or vars i 0) ≡ i = place_back vars i s.1 (omega arith) in
    ap (λ (c : Bool). cond (not c) (1 + place_of vars (slice_index_or vars i 0)) 0) e ∙ (let m : 1 + place_of vars (slice_index_or vars i 0) ≡ suc i = omega (arith, k) in m)

by_occurs : (b : Bool) (x y z : ℤ) → (b ≡ true → x ≡ z) → (b ≡ false → y ≡ z) → (if b then x else y) ≡ z
by_occurs true x y z f g = f refl
by_occurs false x y z f g = g refl

-- a point gives its values back
pub placed_back : (vars : List ℕ) (y : Point) → IsStrictlySortedBy nat_cmp vars → GivesBack vars y (placed vars y)
placed_back vars y s i h = by_occurs (occurs (slice_index_or vars i 0) vars) (y (place_of vars (slice_index_or vars i 0))) (pos 0) (y i)
    (λ e. ap y (place_back vars i s h))
    (λ e. absurd (let o = at_place vars i h in cc))

-- two points of so many renumbered variables that agree give the variables the same
pub placed_same : (vars : List ℕ) (x y : Point) → ((i : ℕ) → i < length vars → x i ≡ y i) → (v : ℕ) → placed vars x v ≡ placed vars y v
placed_same vars x y f v = by_both (occurs v vars) (λ e. f (place_of vars v) (place_within v vars e))
  where
    by_both : (b : Bool) → (b ≡ true → x (place_of vars v) ≡ y (place_of vars v)) → (if b then x (place_of vars v) else pos 0) ≡ (if b then y (place_of vars v) else pos 0)
    by_both true g = g refl
    by_both false g = refl

-- ---- values put one after another

-- the first n values stand at their variables' places, and 0 at all others
pub record IsPut (out : List ℤ) (vars : List ℕ) (values : List ℤ) (bound n : ℕ) : Type 0 where
  pub long : length out ≡ bound
  pub given : (j : ℕ) → j < n → slice_index_or vars j 0 < bound → point_by out (slice_index_or vars j 0) ≡ point_by values j
  pub others : (v : ℕ) → v < bound → ((j : ℕ) → j < n → slice_index_or vars j 0 ≢ v) → point_by out v ≡ pos 0

pub none_put : (out : List ℤ) (vars : List ℕ) (values : List ℤ) (bound : ℕ) → length out ≡ bound → ((v : ℕ) → v < bound → point_by out v ≡ pos 0) → IsPut out vars values bound 0
none_put out vars values bound l f = record { long = l; given = λ j h. absurd (omega arith); others = λ v h g. f v h }

pub next_put : (out new : List ℤ) (vars : List ℕ) (values : List ℤ) (bound n w : ℕ) (z : ℤ) → IsPut out vars values bound n → n < length vars → IsStrictlySortedBy nat_cmp vars
    → w ≡ slice_index_or vars n 0 → w < bound → z ≡ point_by values n → new ≡ set out w z → IsPut new vars values bound (n + 1)
next_put out new vars values bound n w z p h s e l q m = subst (λ (o : List ℤ). IsPut o vars values bound (n + 1)) (sym m) (record {
  long = length-set out w z ∙ p.long;
  given = λ j k b. elim (cases_lt j n) [
    | inl i ↦
        let d : slice_index_or vars j 0 < slice_index_or vars n 0 = below_from_sorted vars j n 0 s i h in
        let c : slice_index_or vars j 0 ≢ w = omega arith in
        get_or-set_other out w (slice_index_or vars j 0) z (pos 0) c ∙ p.given j i b
    | inr i ↦
        let f : j ≡ n = omega arith in
        let there : w < length out = omega (arith, p.long) in
        subst (λ t. point_by (set out w z) (slice_index_or vars t 0) ≡ point_by values t) (sym f)
        (subst (λ t. point_by (set out w z) t ≡ point_by values n) e (get_or-set_same out w z (pos 0) there ∙ q))
  ];
  others = λ v k f.
      let c : slice_index_or vars n 0 ≢ v = f n (omega arith) in
      let d : v ≢ w = omega arith in
      get_or-set_other out w v z (pos 0) d ∙ p.others v k (λ j i. f j (omega arith));
})

pub next_left : (out : List ℤ) (vars : List ℕ) (values : List ℤ) (bound n w : ℕ) → IsPut out vars values bound n → w ≡ slice_index_or vars n 0 → bound ≤ w → IsPut out vars values bound (n + 1)
next_left out vars values bound n w p e l = record {
  long = p.long;
  given = λ j k b. elim (cases_lt j n) [
    | inl i ↦ p.given j i b
    | inr i ↦
        let f : j ≡ n = omega arith in
        let g : slice_index_or vars j 0 ≡ slice_index_or vars n 0 = ap (λ t. slice_index_or vars t 0) f in
        absurd (omega (arith, g))
  ];
  others = λ v k f. p.others v k (λ j i. f j (omega arith));
}

pub all_put : (out : List ℤ) (vars : List ℕ) (values : List ℤ) (bound : ℕ) → IsPut out vars values bound (length vars) → (v : ℕ) → v < bound → point_by out v ≡ placed vars (point_by values) v
all_put out vars values bound p v h = sym (by_occurs (occurs v vars) (point_by values (place_of vars v)) (pos 0) (point_by out v)
    (λ e.
    let f : slice_index_or vars (place_of vars v) 0 ≡ v = found v vars e in
    sym (p.given (place_of vars v) (place_within v vars e) (omega (arith, f))) ∙ ap (point_by out) f)
    (λ e. sym (p.others v h (λ j k c.
    let o : occurs (slice_index_or vars j 0) vars ≡ true = at_place vars j k in
    let o' : occurs v vars ≡ true = subst (λ u. occurs u vars ≡ true) c o in
    cc))))

-- a small value is itself in 128 bits
pub value_small : (values : List ℤ) → AllByRecursion IsSmall values → (i : ℕ) → IsSmall (point_by values i)
value_small [] a i = omega arith
value_small (z ∷ values) a zero = a.0
value_small (z ∷ values) a (suc i) = value_small values a.1 i

in_bits : (z : ℤ) → IsSmall z → SFits w128 z
in_bits (pos n) small = record { sfits = omega arith }
in_bits (negsuc n) small = record { sfits = omega arith }

pub again : (values : List ℤ) → AllByRecursion IsSmall values → (i : ℕ) → to_z w128 (of_z w128 (point_by values i)) ≡ point_by values i
again values a i = to_z-of_z w128 (point_by values i) (in_bits (point_by values i) (value_small values a i))
