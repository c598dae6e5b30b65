-- The sides of a box, how many points it has, and how far it reaches.
use Rattle.std.specs.Prelude.{◌≡◌, ℕ, zero, suc, ◌+◌, ◌-◌, ◌*◌, ◌^◌, ◌<◌, ◌≤◌, min, max, ℤ, pos, unsigned_abs, List, [], ◌∷◌, ◌++◌, map, length, drop, Bool, true, false, nat_lt, Option, Some, None, refl}
use Rattle.std.proofs.Common.{ap, sym, ◌∙◌, subst, arith, get_or, append_assoc, append-nil}
use Rattle.std.proofs.Math.Seq.{drop-cons}
use Rattle.std.proofs.Math.Nat.{mul-le-mul_left, pow-zero, pow-succ', one-le-pow}
use Rattle.std.specs.Option.{option_map}
use Rattle.std.specs.List.{All}
use Rattle.mm_num.proofs.TestLaws.{below_test}
use Rattle.mm_poly.specs.declared.term.Term.{Term}
use Rattle.mm_poly.specs.Mono.{VarsBelow}
use Rattle.mm_poly.specs.Poly.{HasPlaces}
use Rattle.box_enum.specs.declared.edge.Edge.{Edge}
use Rattle.box_enum.specs.declared.bounds.Bounds.{Bounds}
use Rattle.box_enum.specs.Box.{Side, bounds_of, reach_of}
use Rattle.box_enum.specs.machine.Edges.{sides_at, edges_of, IsSmallEdge}

one_more : (n : ℕ) → suc n ≡ n + 1
one_more n = omega arith

pub edges_more : (out new all : List Edge) (lows highs : List ℤ) (n : ℕ) (a b : ℤ) → n < length lows → n < length highs → a ≡ get_or lows n (pos 0) → b ≡ get_or highs n (pos 0)
    → new ≡ out ++ record { low = a; high = b } ∷ [] → out ++ edges_of (drop n lows) (drop n highs) ≡ all → new ++ edges_of (drop (n + 1) lows) (drop (n + 1) highs) ≡ all
edges_more out new all lows highs n a b h k e f g w =
    let rest = edges_of (drop (n + 1) lows) (drop (n + 1) highs) in
    let l : drop n lows ≡ a ∷ drop (n + 1) lows = drop-cons lows n (pos 0) h ∙ ap (λ z. z ∷ drop (suc n) lows) (sym e) ∙ ap (λ m. a ∷ drop m lows) (one_more n) in
    let r : drop n highs ≡ b ∷ drop (n + 1) highs = drop-cons highs n (pos 0) k ∙ ap (λ z. z ∷ drop (suc n) highs) (sym f) ∙ ap (λ m. b ∷ drop m highs) (one_more n) in
    ap (λ (es : List Edge). es ++ rest) g
    ∙ append_assoc out (record { low = a; high = b } ∷ []) rest
    ∙ ap (λ (xs : List ℤ). out ++ edges_of xs (b ∷ drop (n + 1) highs)) (sym l)
    ∙ ap (λ (xs : List ℤ). out ++ edges_of (drop n lows) xs) (sym r)
    ∙ w

pub edges_done : (lows highs : List ℤ) (n : ℕ) → min (length lows) (length highs) ≤ n → edges_of (drop n lows) (drop n highs) ≡ []
edges_done [] highs zero h = refl
edges_done [] highs (suc n) h = refl
edges_done (a ∷ lows) [] zero h = refl
edges_done (a ∷ lows) [] (suc n) h = no_highs (drop n lows)
  where
    no_highs : (xs : List ℤ) → edges_of xs [] ≡ []
    no_highs [] = refl
    no_highs (x ∷ xs) = refl
edges_done (a ∷ lows) (b ∷ highs) zero h = absurd (omega arith)
edges_done (a ∷ lows) (b ∷ highs) (suc n) h = edges_done lows highs n (omega arith)

same_sides : (ss : List Side) → sides_at (edges_of (map (λ (s : Side). s.low) ss) (map (λ (s : Side). s.high) ss)) ≡ ss
same_sides [] = refl
same_sides (s ∷ ss) = ap (λ (r : List Side). s ∷ r) (same_sides ss)

pub boxed_by : (o : Option (List Side)) (b : Bounds) → option_map bounds_of o ≡ Some b → o ≡ Some (sides_at (edges_of b.low b.high))
boxed_by None b e = cc
boxed_by (Some ss) b e =
    let c : bounds_of ss ≡ b = some_is (bounds_of ss) b e in
    ap (λ (r : List Side). Some r) (sym (same_sides ss)) ∙ ap (λ (k : Bounds). Some (sides_at (edges_of k.low k.high))) c
  where
    some_is : (x y : Bounds) → Some x ≡ Some y → x ≡ y
    some_is x y e = cc

-- ---- products and powers

pub saturated : (c s m : ℕ) → 1 ≤ m → min (c * min s m) m ≡ min (c * s) m
saturated zero s m h = omega arith
saturated (suc c) s m h = by_lt (nat_lt m s) refl
  where
    by_lt : (b : Bool) → nat_lt m s ≡ b → min (suc c * min s m) m ≡ min (suc c * s) m
    by_lt true e = let l : m < s = grind arith in let p : min s m ≡ m = omega arith in
        let a : m ≤ suc c * m = omega arith in
        let d : suc c * m ≤ suc c * s = mul-le-mul_left (suc c) (omega arith) in
        ap (λ k. min (suc c * k) m) p ∙ omega arith
    by_lt false e = let l : s ≤ m = grind arith in let p : min s m ≡ s = omega arith in ap (λ k. min (suc c * k) m) p

-- what is reached, times the power that is left, is all of it
pub record Multiplying (number base exponent limit reached counter : ℕ) : Type 0 where
  pub small : reached < limit
  pub joined : reached * base ^ (exponent - counter) ≡ number * base ^ exponent

next_left : (e c : ℕ) → c < e → e - c ≡ suc (e - (c + 1))
next_left e c h = omega arith

regroup : (r b p q : ℕ) → p ≡ b * q → r * p ≡ (r * b) * q
regroup r b p q e = omega (arith, ap (λ n. r * n) e)

multiplied : (n b e l r c : ℕ) → Multiplying n b e l r c → c < e → (r * b) * b ^ (e - (c + 1)) ≡ n * b ^ e
multiplied n b e l r c m h = sym (regroup r b (b ^ (e - c)) (b ^ (e - (c + 1))) (ap (λ k. b ^ k) (next_left e c h) ∙ pow-succ' b (e - (c + 1)))) ∙ m.joined

pub multiply : (n b e l r c new : ℕ) → Multiplying n b e l r c → c < e → r * b ≡ new → new < l → Multiplying n b e l new (c + 1)
multiply n b e l r c new m h is s = record { small = s; joined = ap (λ k. k * b ^ (e - (c + 1))) (sym is) ∙ multiplied n b e l r c m h }

at_least : (n b e : ℕ) → 1 ≤ b → n ≤ n * b ^ e
at_least n b e h =
    let p : 0 < b = omega arith in
    let more : n * 1 ≤ n * b ^ e = mul-le-mul_left n (one-le-pow e b p) in
    omega arith

past_limit : (n l : ℕ) → l ≤ n → nat_lt n l ≡ false
past_limit n l h = grind arith

pub too_big : (n b e l r c : ℕ) → Multiplying n b e l r c → c < e → 1 ≤ b → l ≤ r * b → false ≡ nat_lt (n * b ^ e) l
too_big n b e l r c m h one big = sym (past_limit (n * b ^ e) l (omega (arith, multiplied n b e l r c m h, at_least (r * b) b (e - (c + 1)) one)))

pub big_at_once : (n b e l : ℕ) → 1 ≤ b → l ≤ n → false ≡ nat_lt (n * b ^ e) l
big_at_once n b e l one big = sym (past_limit (n * b ^ e) l (omega (arith, at_least n b e one)))

pub all_multiplied : (n b e l r c : ℕ) → Multiplying n b e l r c → e ≤ c → true ≡ nat_lt (n * b ^ e) l
all_multiplied n b e l r c m h =
    let none : e - c ≡ 0 = omega arith in
    let same : r * b ^ (e - c) ≡ r * 1 = ap (λ k. r * k) (ap (λ j. b ^ j) none ∙ pow-zero b) in
    let small : r < l = m.small in
    sym (below_test (n * b ^ e) l (omega (arith, m.joined)))

pub times_4 : (m r : ℕ) → (m * 4) * (r + 1) ≡ m * (4 * r + 4)
times_4 m r = omega arith

-- ---- places

pub below_more : (n m : ℕ) (fs : List (ℕ × ℕ)) → n ≤ m → VarsBelow n fs → VarsBelow m fs
below_more n m [] h a = tt
below_more n m (f ∷ fs) h a = (omega (arith, a.0), below_more n m fs h a.1)

pub places_more : (n m : ℕ) (ts : List Term) → n ≤ m → HasPlaces n ts → HasPlaces m ts
places_more n m [] h a = tt
places_more n m (t ∷ ts) h a = (below_more n m t.mono h a.0, places_more n m ts h a.1)

front : {A : Type 0} (xs : List A) (n k : ℕ) (d : A) → 0 < n → n ≤ length xs → k ≡ n - 1 → drop k xs ≡ get_or xs k d ∷ drop n xs
front xs zero k d p h e = absurd (omega arith)
front xs (suc n) k d p h e = let s : k ≡ n = omega arith in rw s (drop-cons xs n d h)

pub factor_below : (fs : List (ℕ × ℕ)) (n k past new : ℕ) (d : ℕ × ℕ) → 0 < n → n ≤ length fs → k ≡ n - 1 → VarsBelow past (drop n fs) → past ≤ new → (get_or fs k d).0 < new → VarsBelow new (drop k fs)
factor_below fs n k past new d p h e a l m = subst (λ gs. VarsBelow new gs) (sym (front fs n k d p h e)) (m, below_more past new (drop n fs) l a)

pub term_places : (ts : List Term) (n k due here new : ℕ) (t : Term) → 0 < n → n ≤ length ts → k ≡ n - 1 → t ≡ get_or ts k t → HasPlaces due (drop n ts) → VarsBelow here t.mono → due ≤ new → here ≤ new → HasPlaces new (drop k ts)
term_places ts n k due here new t p h e is a b l m =
    subst (λ (us : List Term). HasPlaces new us) (sym (front ts n k t p h e))
    (subst (λ (u : Term). VarsBelow new u.mono) is (below_more here new t.mono m b), places_more due new (drop n ts) l a)

pub edges_all : (out : List Edge) (lows highs xs ys : List ℤ) (n : ℕ) → xs ≡ lows → ys ≡ highs → min (length xs) (length ys) ≤ n → out ++ edges_of (drop n xs) (drop n ys) ≡ edges_of xs ys → out ≡ edges_of lows highs
edges_all out lows highs xs ys n e f h w =
    sym (append-nil out) ∙ ap (λ (es : List Edge). out ++ es) (sym (edges_done xs ys n h)) ∙ w ∙ ap (λ zs. edges_of zs ys) e ∙ ap (λ zs. edges_of lows zs) f

-- ---- smallness

edge_reach : (n : ℕ) (e : Edge) (reach : ℕ) → IsSmallEdge e → reach < 2 ^ 126 → max (max (unsigned_abs e.low) (unsigned_abs e.high)) reach < 2 ^ 126
edge_reach n e reach s h = let a = s.0 in let b = s.1 in omega arith

pub small_reach : (edges : List Edge) → All IsSmallEdge edges → reach_of (sides_at edges) < 2 ^ 126
small_reach [] a = omega arith
small_reach (e ∷ es) a = edge_reach 0 e (reach_of (sides_at es)) (a 0 e (omega arith)) (small_reach es (λ k d h. a (suc k) d (omega arith)))

pub boxed_as : (o : Option (List Side)) (b : Bounds) (es us : List Edge) → option_map bounds_of o ≡ Some b → us ≡ edges_of b.low b.high → es ≡ us → o ≡ Some (sides_at es)
boxed_as o b es us e f g = boxed_by o b e ∙ ap (λ (xs : List Edge). Some (sides_at xs)) (sym (g ∙ f))
