-- Stopping at the limits at each step is stopping at the end.
use Rattle.std.specs.Prelude.{◌≡◌, ℕ, ◌+◌, ◌^◌, min, max}
use Rattle.std.proofs.Common.{ap, ◌∙◌, arith}
use Rattle.goal_measure.specs.declared.measure.Measure.{Measure}
use Rattle.goal_measure.specs.Measure.{of_sum, of_product, of_power, of_atom, nothing, greater}
use Rattle.goal_measure.specs.Bounding.{cap}
use Rattle.goal_measure.proofs.CapLaws.{product_below, power_below_limit, multiple_below}

abbrev pub measure : ℕ → ℕ → ℕ → Measure
measure w s d = record { weight = w; spread = s; degree = d }

pub measure_is : (w s d x t e : ℕ) → w ≡ x → s ≡ t → d ≡ e → measure w s d ≡ measure x t e
measure_is w s d x t e p q r = ap (λ n. measure n s d) p ∙ ap (λ n. measure x n d) q ∙ ap (λ n. measure x t n) r

sum_stops : (a b c : ℕ) → min (min a c + min b c) c ≡ min (a + b) c
sum_stops a b c = omega arith

atom_stops : (a b c : ℕ) → min ((min a c + min b c) + 1) c ≡ min ((a + b) + 1) c
atom_stops a b c = omega arith

greater_stops : (a b c : ℕ) → min (max (min a c) (min b c)) c ≡ min (max a b) c
greater_stops a b c = omega arith

pub cap_sum : (a b : Measure) → cap (of_sum (cap a) (cap b)) ≡ cap (of_sum a b)
cap_sum a b = measure_is _ _ _ _ _ _ (sum_stops a.weight b.weight (2 ^ 100)) (sum_stops a.spread b.spread 257) (greater_stops a.degree b.degree 9)

pub cap_atom : (a b : Measure) → cap (of_atom (cap a) (cap b)) ≡ cap (of_atom a b)
cap_atom a b = measure_is _ _ _ _ _ _ (atom_stops a.weight b.weight (2 ^ 100)) (atom_stops a.spread b.spread 257) (greater_stops a.degree b.degree 9)

pub cap_product : (a b : Measure) → cap (of_product (cap a) (cap b)) ≡ cap (of_product a b)
cap_product a b = measure_is _ _ _ _ _ _ (product_below a.weight b.weight (2 ^ 100) (omega arith)) (product_below a.spread b.spread 257 (omega arith)) (sum_stops a.degree b.degree 9)

pub cap_power : (a : Measure) (k : ℕ) → cap (of_power (cap a) k) ≡ cap (of_power a k)
cap_power a k = measure_is _ _ _ _ _ _ (power_below_limit a.weight k (2 ^ 100) (omega arith)) (power_below_limit a.spread k 257 (omega arith)) (multiple_below k a.degree 9 (omega arith))

greater_spreads : (a b c : ℕ) → max (min a c) (min b c) ≡ min (max a b) c
greater_spreads a b c = omega arith

pub cap_greater : (a b : Measure) → greater (cap a) (cap b) ≡ cap (greater a b)
cap_greater a b = measure_is _ _ _ _ _ _ (greater_spreads a.weight b.weight (2 ^ 100)) (greater_spreads a.spread b.spread 257) (greater_spreads a.degree b.degree 9)

joins : (a b c : ℕ) → max (max a b) c ≡ max a (max b c)
joins a b c = omega arith

pub greater_joins : (a b c : Measure) → greater (greater a b) c ≡ greater a (greater b c)
greater_joins a b c = measure_is _ _ _ _ _ _ (joins a.weight b.weight c.weight) (joins a.spread b.spread c.spread) (joins a.degree b.degree c.degree)

turns : (a b c d : ℕ) → max (max a b) (max c d) ≡ max (max a c) (max b d)
turns a b c d = omega arith

pub greater_turns : (a b c d : Measure) → greater (greater a b) (greater c d) ≡ greater (greater a c) (greater b d)
greater_turns a b c d = measure_is _ _ _ _ _ _ (turns a.weight b.weight c.weight d.weight) (turns a.spread b.spread c.spread d.spread) (turns a.degree b.degree c.degree d.degree)

none_first : (a : ℕ) → max 0 a ≡ a
none_first a = omega arith

pub greater_first : (a : Measure) → greater nothing a ≡ a
greater_first a = measure_is _ _ _ _ _ _ (none_first a.weight) (none_first a.spread) (none_first a.degree)

none_last : (a : ℕ) → max a 0 ≡ a
none_last a = omega arith

pub greater_last : (a : Measure) → greater a nothing ≡ a
greater_last a = measure_is _ _ _ _ _ _ (none_last a.weight) (none_last a.spread) (none_last a.degree)

shares : (a b c : ℕ) → max (max a b) (max b c) ≡ max a (max b c)
shares a b c = omega arith

pub greater_shares : (a b c : Measure) → greater (greater a b) (greater b c) ≡ greater a (greater b c)
greater_shares a b c = measure_is _ _ _ _ _ _ (shares a.weight b.weight c.weight) (shares a.spread b.spread c.spread) (shares a.degree b.degree c.degree)
