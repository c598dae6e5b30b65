-- A cut of a polynomial within bounds is within bounds.
use Rattle.std.specs.Prelude.{◌≡◌, ℕ, ◌+◌, ◌/◌, ◌^◌, ◌<◌, ◌≤◌, ℤ, pos, negsuc, ◌+ℤ◌, unsigned_abs, List, [], ◌∷◌, cond}
use Rattle.std.proofs.Common.{ap, sym, ◌∙◌, subst, arith}
use Rattle.mm_num.specs.Quotient.{floor_by}
use Rattle.mm_poly.specs.declared.term.Term.{Term}
use Rattle.mm_poly.specs.Mono.{is_constant, IsMono, VarsBelow}
use Rattle.mm_poly.specs.Poly.{norm, spread, degree, AllAfter, IsPoly, Fits, plus, constant_of, constant_part, without_constant, floor_divided}
use Rattle.mm_poly.proofs.CaseLaws.{by_coeff, by_constant}
use Rattle.mm_poly.proofs.BoundLaws.{abs_sum, norm_with, norm_plus, spread_with, spread_plus, degree_with, degree_plus}
use Rattle.mm_poly.proofs.PolyLaws.{after_with, poly_with, poly_plus}
use Rattle.mm_poly.proofs.EachLaws.{each_with, each_plus, each_without, each_divided}

after_without : (m : List (ℕ × ℕ)) (ts : List Term) → AllAfter m ts → AllAfter m (without_constant ts)
after_without m [] a = tt
after_without m (t ∷ ts) a =
    let rest = after_without m ts a.1 in
    by_constant t.mono (without_constant ts) (t ∷ without_constant ts) (λ r. AllAfter m r) rest (a.0, rest)

pub poly_without : (ts : List Term) → IsPoly ts → IsPoly (without_constant ts)
poly_without [] p = tt
poly_without (t ∷ ts) p =
    let rest = poly_without ts p.2 in
    by_constant t.mono (without_constant ts) (t ∷ without_constant ts) (λ r. IsPoly r) rest (p.0, after_without t.mono ts p.1, rest)

norm_step : (c : ℤ) (m : List (ℕ × ℕ)) (ts : List Term) (k : ℤ) (n : ℕ) → norm ts + unsigned_abs k ≤ n
    → norm (cond (is_constant m) ts (record { coeff = c; mono = m } ∷ ts)) + unsigned_abs (cond (is_constant m) (c +ℤ k) k) ≤ unsigned_abs c + n
norm_step c [] ts k n h = omega (arith, abs_sum c k)
norm_step c (f ∷ fs) ts k n h = omega arith

-- the norm is that of the terms that aren't constant, and at least the constant's magnitude
pub norm_parts : (ts : List Term) → norm (without_constant ts) + unsigned_abs (constant_part ts) ≤ norm ts
norm_parts [] = omega arith
norm_parts (t ∷ ts) = norm_step t.coeff t.mono (without_constant ts) (constant_part ts) (norm ts) (norm_parts ts)

spread_constant : (c : ℤ) → spread (constant_of c) ≤ 1
spread_constant c = omega (arith, spread_with c [] [])

spread_step : (c : ℤ) (m : List (ℕ × ℕ)) (ts : List Term) (k : ℤ) (n : ℕ) → spread ts + spread (constant_of k) ≤ n
    → spread (cond (is_constant m) ts (record { coeff = c; mono = m } ∷ ts)) + spread (constant_of (cond (is_constant m) (c +ℤ k) k)) ≤ 1 + n
spread_step c [] ts k n h = omega (arith, spread_constant (c +ℤ k))
spread_step c (f ∷ fs) ts k n h = omega arith

pub spread_parts : (ts : List Term) → spread (without_constant ts) + spread (constant_of (constant_part ts)) ≤ spread ts
spread_parts [] = omega arith
spread_parts (t ∷ ts) =
    let s = spread_step t.coeff t.mono (without_constant ts) (constant_part ts) (spread ts) (spread_parts ts) in
    omega arith

pub degree_without : (ts : List Term) → degree (without_constant ts) ≤ degree ts
degree_without [] = omega arith
degree_without (t ∷ ts) = by_constant t.mono (without_constant ts) (t ∷ without_constant ts) (λ r. degree r ≤ degree (t ∷ ts))
    (omega (arith, degree_without ts)) (omega (arith, degree_without ts))

pub after_divided : (m : List (ℕ × ℕ)) (g : ℕ) (ts : List Term) → AllAfter m ts → AllAfter m (floor_divided g ts)
after_divided m g [] a = tt
after_divided m g (t ∷ ts) a = after_with m (floor_by t.coeff g) t.mono (floor_divided g ts) a.0 (after_divided m g ts a.1)

pub poly_divided : (g : ℕ) (ts : List Term) → IsPoly ts → IsPoly (floor_divided g ts)
poly_divided g [] p = tt
poly_divided g (t ∷ ts) p = poly_with (floor_by t.coeff g) t.mono (floor_divided g ts) (after_divided t.mono g ts p.1) (poly_divided g ts p.2)

-- a polynomial without its constant is within its bounds
pub fits_without : (p : List Term) → Fits p → Fits (without_constant p)
fits_without p a = record {
  order = poly_without p a.order;
  monos = each_without IsMono p a.monos;
  room = each_without (VarsBelow (2 ^ 32)) p a.room;
  norm = omega (arith, norm_parts p, a.norm);
  spread = omega (arith, spread_parts p, a.spread);
  degree = omega (arith, degree_without p, a.degree);
}

quotient_less : (n g : ℕ) → 0 < g → n / g ≤ n
quotient_less n g h = grind arith

pub floor_less : (c : ℤ) (g : ℕ) → 0 < g → unsigned_abs (floor_by c g) ≤ unsigned_abs c
floor_less (pos n) g h = quotient_less n g h
floor_less (negsuc n) g h = omega (arith, quotient_less n g h)

pub norm_divided : (g : ℕ) (ts : List Term) → 0 < g → norm (floor_divided g ts) ≤ norm ts
norm_divided g [] h = omega arith
norm_divided g (t ∷ ts) h = omega (arith, norm_with (floor_by t.coeff g) t.mono (floor_divided g ts), floor_less t.coeff g h, norm_divided g ts h)

pub spread_divided : (g : ℕ) (ts : List Term) → spread (floor_divided g ts) ≤ spread ts
spread_divided g [] = omega arith
spread_divided g (t ∷ ts) = omega (arith, spread_with (floor_by t.coeff g) t.mono (floor_divided g ts), spread_divided g ts)

pub degree_divided : (g : ℕ) (ts : List Term) → degree (floor_divided g ts) ≤ degree ts
degree_divided g [] = omega arith
degree_divided g (t ∷ ts) = omega (arith, degree_with (floor_by t.coeff g) t.mono (floor_divided g ts), degree_divided g ts)

pub zero_divided : (g : ℕ) → 0 < g → 0 / g ≡ 0
zero_divided g h = omega (arith, quotient_less 0 g h)

no_constant : (c : ℤ) → c ≡ pos 0 → spread (constant_of c) ≤ 0
no_constant c e = subst (λ a. spread (constant_of a) ≤ 0) (sym e) (omega arith)

spread_floor : (k : ℤ) (g : ℕ) → 0 < g → spread (constant_of (floor_by k g)) ≤ spread (constant_of k)
spread_floor k g h = by_coeff k [] [] (λ r. spread (constant_of (floor_by k g)) ≤ spread r)
    (λ e. no_constant (floor_by k g) (ap (λ a. floor_by a g) e ∙ ap pos (zero_divided g h)))
    (λ n. spread_constant (floor_by k g))

pub poly_constant : (c : ℤ) → IsPoly (constant_of c)
poly_constant c = poly_with c [] [] tt tt

pub fits_cut : (g : ℕ) (p : List Term) → 0 < g → Fits p → Fits (plus (floor_divided g (without_constant p)) (constant_of (floor_by (constant_part p) g)))
fits_cut g p h a =
    let w = without_constant p in
    let d = floor_divided g w in
    let k = constant_part p in
    let f = floor_by k g in
    record {
      order = poly_plus d (constant_of f) (poly_divided g w (poly_without p a.order)) (poly_constant f);
      monos = each_plus IsMono d (constant_of f) (each_divided IsMono g w (each_without IsMono p a.monos)) (each_with IsMono f [] [] tt tt);
      room = each_plus (VarsBelow (2 ^ 32)) d (constant_of f) (each_divided (VarsBelow (2 ^ 32)) g w (each_without (VarsBelow (2 ^ 32)) p a.room)) (each_with (VarsBelow (2 ^ 32)) f [] [] tt tt);
      norm = omega (arith, norm_plus d (constant_of f), norm_divided g w h, norm_with f [] [], floor_less k g h, norm_parts p, a.norm);
      spread = omega (arith, spread_plus d (constant_of f), spread_divided g w, spread_floor k g h, spread_parts p, a.spread);
      degree = omega (arith, degree_plus d (constant_of f), degree_divided g w, degree_with f [] [], degree_without p, a.degree);
    }
