-- The bounds of a product and of a sum cover it.
use Rattle.std.specs.Prelude.{◌≡◌, ℕ, ◌*◌, ◌≤◌, List, Ok, Err, Some, None, Bool, true, false, cond}
use Rattle.std.proofs.Common.{arith, sym, subst}
use Rattle.mm_poly.specs.declared.term.Term.{Term}
use Rattle.mm_poly.specs.Poly.{norm, spread, plus, times}
use Rattle.mm_poly.proofs.BoundLaws.{norm_plus, spread_plus, degree_plus, norm_times, spread_times, degree_times}
use Rattle.cert_kit.specs.declared.node.Fault.TheVariants.{Bound}
use Rattle.cert_kit.specs.declared.node.Node.{Node}
use Rattle.cert_kit.specs.declared.row.Op.{Op}
use Rattle.cert_kit.specs.declared.row.PRow.{PRow}
use Rattle.cert_kit.specs.declared.bounds.Bounds.{Bounds}
use Rattle.cert_kit.specs.Meaning.{own_bounds, are_within, where_within, product_bounds, sum_bounds}
use Rattle.cert_kit.specs.FirstFault.{node_of}
use Rattle.cert_check.specs.Room.{Covers}
use Rattle.cert_check.specs.Checking.{bounded, CoversRow}

products : (a b m n : ℕ) → a ≤ m → b ≤ n → a * b ≤ m * n
products a b m n h k = grind arith

pub product_covers : (a b : Bounds) (p q : List Term) → Covers a p → Covers b q → Covers (product_bounds a b) (times p q)
product_covers a b p q h k = record {
  norm = omega (arith, norm_times p q, products (norm p) (norm q) a.norm b.norm h.norm k.norm);
  spread = omega (arith, spread_times p q, products (spread p) (spread q) a.spread b.spread h.spread k.spread);
  degree = omega (arith, degree_times p q, h.degree, k.degree);
}

pub sum_covers : (a b : Bounds) (p q : List Term) → Covers a p → Covers b q → Covers (sum_bounds a b) (plus p q)
sum_covers a b p q h k = record {
  norm = omega (arith, norm_plus p q, h.norm, k.norm);
  spread = omega (arith, spread_plus p q, h.spread, k.spread);
  degree = omega (arith, degree_plus p q, h.degree, k.degree);
}

-- bounds that are within the limits are those that were tested
pub within_is : (b s : Bounds) → bounded (where_within b) ≡ Ok s → s ≡ b
within_is b s h = by_test (are_within b) h
  where
    by_test : (t : Bool) → bounded (cond t (Some b) None) ≡ Ok s → s ≡ b
    by_test true e = cc
    by_test false e = absurd (cc)

-- a node of a row that the bounds cover
pub node_covers : (n : Node) (r : PRow) (s b : Bounds) (p : List Term) → n ≡ node_of r s → bounded (where_within b) ≡ Ok s → r.poly ≡ p → Covers b p → CoversRow n
node_covers n r s b p e w q c =
    let t : Covers s r.poly = subst (λ (z : Bounds). Covers z r.poly) (sym (within_is b s w)) (subst (λ (z : List Term). Covers b z) (sym q) c) in
    subst (λ (z : Node). CoversRow z) (sym e) t

-- a polynomial's own numbers cover it
pub own_covers : (p : List Term) → Covers (own_bounds p) p
own_covers p = record { norm = omega arith; spread = omega arith; degree = omega arith }

pub covers_along : (a b : Bounds) (p : List Term) → a ≡ b → Covers b p → Covers a p
covers_along a b p e c = subst (λ (z : Bounds). Covers z p) (sym e) c

pub node_of_sum : (a b c d s : Bounds) (p q t : List Term) (o : Op) (n : Node) → c ≡ a → d ≡ b → Covers a p → Covers b q
    → bounded (where_within (sum_bounds c d)) ≡ Ok s → t ≡ plus p q → n ≡ node_of (record { poly = t; op = o }) s → CoversRow n
node_of_sum a b c d s p q t o n e f h k w u v =
    node_covers n (record { poly = t; op = o }) s (sum_bounds c d) (plus p q) v w u (sum_covers c d p q (covers_along c a p e h) (covers_along d b q f k))

pub node_of_product : (a b c d s : Bounds) (p q t : List Term) (o : Op) (n : Node) → c ≡ a → d ≡ b → Covers a p → Covers b q
    → bounded (where_within (product_bounds c d)) ≡ Ok s → t ≡ times p q → n ≡ node_of (record { poly = t; op = o }) s → CoversRow n
node_of_product a b c d s p q t o n e f h k w u v =
    node_covers n (record { poly = t; op = o }) s (product_bounds c d) (times p q) v w u (product_covers c d p q (covers_along c a p e h) (covers_along d b q f k))
