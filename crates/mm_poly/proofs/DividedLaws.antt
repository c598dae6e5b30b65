-- A polynomial divided by its content has a content of at most 1.
use Rattle.std.specs.Prelude.{◌≡◌, ℕ, zero, suc, ◌*◌, ◌<◌, ◌≤◌, ℤ, pos, ◌*ℤ◌, unsigned_abs, List, [], ◌∷◌, cond}
use Rattle.std.proofs.Common.{ap, sym, ◌∙◌, subst, arith}
use Rattle.std.specs.Int.{◌∣◌}
use Rattle.std.proofs.lemmas.Int.{unsigned_abs-mul}
use Rattle.std.proofs.lemmas.Nat.Gcd.{dvd-zero, le_of_dvd}
use Rattle.std.proofs.Math.Nat.{mul-dvd-mul_left}
use Rattle.mm_num.specs.Quotient.{floor_by}
use Rattle.mm_num.proofs.FracLaws.{floor_exact}
use Rattle.mm_poly.specs.declared.term.Term.{Term}
use Rattle.mm_poly.specs.Mono.{is_constant}
use Rattle.mm_poly.specs.Poly.{with_coeff, content, without_constant, floor_divided, DividesAll}
use Rattle.mm_poly.proofs.CaseLaws.{by_coeff}
use Rattle.mm_poly.proofs.CutLaws.{content_divides}
use Rattle.mm_poly.proofs.ContentLaws.{is_content}

-- what divides a quotient, times the divisor, divides the number
multiple_divides : (g h : ℕ) (f c : ℤ) → pos g *ℤ f ≡ c → h ∣ unsigned_abs f → g * h ∣ unsigned_abs c
multiple_divides g h f c e d = subst (λ n. g * h ∣ n) (sym (unsigned_abs-mul (pos g) f) ∙ ap unsigned_abs e) (mul-dvd-mul_left h g d)

-- a constant in front says nothing, and another term its own coefficient
constant_out : (f : ℤ) (h : ℕ) (us : List Term) → DividesAll h (without_constant (with_coeff f [] us)) → DividesAll h (without_constant us)
constant_out f h us = by_coeff f [] us (λ r. DividesAll h (without_constant r) → DividesAll h (without_constant us)) (λ e d. d) (λ n d. d)

unknown_out : (f : ℤ) (k : ℕ × ℕ) (ks : List (ℕ × ℕ)) (h : ℕ) (us : List Term) → DividesAll h (without_constant (with_coeff f (k ∷ ks) us))
    → (h ∣ unsigned_abs f) × DividesAll h (without_constant us)
unknown_out f k ks h us = by_coeff f (k ∷ ks) us (λ r. DividesAll h (without_constant r) → (h ∣ unsigned_abs f) × DividesAll h (without_constant us))
    (λ e d. (subst (λ n. h ∣ n) (sym (ap unsigned_abs e)) (dvd-zero h), d)) (λ n d. d)

divided_step : (c : ℤ) (m : List (ℕ × ℕ)) (g h : ℕ) (ts us : List Term) → 0 < g
    → (DividesAll h (without_constant us) → DividesAll g (without_constant ts) → DividesAll (g * h) (without_constant ts))
    → DividesAll h (without_constant (with_coeff (floor_by c g) m us))
    → DividesAll g (cond (is_constant m) (without_constant ts) (record { coeff = c; mono = m } ∷ without_constant ts))
    → DividesAll (g * h) (cond (is_constant m) (without_constant ts) (record { coeff = c; mono = m } ∷ without_constant ts))
divided_step c [] g h ts us p rest d e = rest (constant_out (floor_by c g) h us d) e
divided_step c (k ∷ ks) g h ts us p rest d e =
    let both = unknown_out (floor_by c g) k ks h us d in
    (multiple_divides g h (floor_by c g) c (floor_exact c g p e.0) both.0, rest both.1 e.1)

divided_divides : (g h : ℕ) (ts : List Term) → 0 < g → DividesAll h (without_constant (floor_divided g ts)) → DividesAll g (without_constant ts)
    → DividesAll (g * h) (without_constant ts)
divided_divides g h [] p d e = tt
divided_divides g h (t ∷ ts) p d e = divided_step t.coeff t.mono g h ts (floor_divided g ts) p (divided_divides g h ts p) d e

at_most_1 : (g h : ℕ) → 0 < g → g * h ≤ g → h ≤ 1
at_most_1 g zero p l = omega arith
at_most_1 g (suc zero) p l = omega arith
at_most_1 g (suc (suc h)) p l = absurd (omega arith)

pub content_divided : (p : List Term) → 0 < content p → content (floor_divided (content p) p) ≤ 1
content_divided p l =
    let g = content p in
    let h = content (floor_divided g p) in
    let all : DividesAll (g * h) (without_constant p) = divided_divides g h p l (content_divides (floor_divided g p)) (content_divides p) in
    at_most_1 g h l (le_of_dvd l ((is_content p).greatest (g * h) all))
