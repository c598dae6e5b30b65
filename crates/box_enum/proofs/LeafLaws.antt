-- All values put: what the row that is left says.
use Rattle.std.specs.Prelude.{◌≡◌, ℕ, ◌+◌, ◌*◌, ◌^◌, ◌≤◌, ℤ, pos, ◌+ℤ◌, List, [], ◌∷◌, Bool, true, false, not, nat_lt, nat_le, nat_eq, int_le, int_lt, refl}
use Rattle.std.proofs.Common.{ap, ◌∙◌, subst, arith}
use Rattle.std.proofs.lemmas.Int.{ints}
use Rattle.std.proofs.lemmas.Bool.{and_parts, and_from}
use Rattle.std.proofs.Math.Nat.{mul-le-mul_left, pow-le-pow_left}
use Rattle.std.specs.List.{AllByRecursion}
use Rattle.mm_num.proofs.TestLaws.{is_below}
use Rattle.mm_poly.specs.declared.term.Term.{Term}
use Rattle.mm_poly.specs.Poly.{value, norm, spread, degree, IsPoly, AllMono, Fits, constant_part, without_constant}
use Rattle.mm_poly.proofs.ValueLaws.{zero_sum}
use Rattle.mm_poly.proofs.PointLaws.{part_of_power}
use Rattle.mm_poly.proofs.PartLaws.{constant_first}
use Rattle.mm_poly.proofs.CutLaws.{value_parts}
use Rattle.cert_kit.specs.declared.row.Op.{Op}
use Rattle.cert_kit.specs.declared.row.Op.TheVariants.{Ge, Eq}
use Rattle.cert_kit.specs.declared.row.PRow.{PRow}
use Rattle.cert_kit.specs.Row.{compares_0, is_false, is_false_constant, has_no_terms}
use Rattle.cert_kit.specs.Variables.{mono_variables, poly_variables}
use Rattle.cert_kit.proofs.VariableLaws.{occurs, any_self, or_first, in_first, in_second}
use Rattle.box_enum.specs.Box.{is_modest}
use Rattle.box_enum.specs.declared.numbered.Choice.{Choice}
use Rattle.box_enum.specs.machine.Putting.{put_value, put_all, weight, IsTame, IsWithinReach}
use Rattle.box_enum.proofs.PutBoundLaws.{weight_below}
use Rattle.box_enum.proofs.PutLaws.{put_tame, put_poly, put_monos, put_keeps_value, put_gone, put_absent}
use Rattle.box_enum.proofs.PlainLaws.{at_most}
use Rattle.mm_num.proofs.BoolLaws.{contrary}

-- the value stays at a point that has the chosen values
pub put_all_value : (x : ℕ → ℤ) (cs : List Choice) (p : List Term) → IsPoly p → AllMono p → AllByRecursion (λ (c : Choice). x c.variable ≡ c.value) cs
    → value x (put_all cs p) ≡ value x p
put_all_value x [] p a m h = refl
put_all_value x (c ∷ cs) p a m h =
    put_all_value x cs (put_value c.variable c.value p) (put_poly c.variable c.value p m) (put_monos c.variable c.value p m) h.1
    ∙ put_keeps_value x c.variable c.value p h.0

pub put_all_tame : (b : ℕ) (cs : List Choice) (p : List Term) → IsTame b p → AllByRecursion (IsWithinReach b) cs → IsTame b (put_all cs p)
put_all_tame b [] p t h = t
put_all_tame b (c ∷ cs) p t h = put_all_tame b cs (put_value c.variable c.value p) (put_tame b c.variable c.value p t h.0) h.1

or_absent : (b c : Bool) → b ≡ true → (c ≡ false → b ≡ false) → c ≡ true
or_absent b true e h = refl
or_absent b false e h = contrary b e (h refl)

-- a variable that is left occurred, and none of the choices was its
pub put_all_variables : (v : ℕ) (cs : List Choice) (p : List Term) → IsPoly p → AllMono p → occurs v (poly_variables (put_all cs p)) ≡ true
    → (occurs v (poly_variables p) ≡ true) × AllByRecursion (λ (c : Choice). c.variable ≡ v → ⊥) cs
put_all_variables v [] p a m h = (h, tt)
put_all_variables v (c ∷ cs) p a m h =
    let q = put_value c.variable c.value p in
    let rest = put_all_variables v cs q (put_poly c.variable c.value p m) (put_monos c.variable c.value p m) h in (
      or_absent (occurs v (poly_variables q)) (occurs v (poly_variables p)) rest.0 (λ e. put_absent v c.variable c.value p m e),
      ((λ e. contrary (occurs v (poly_variables q)) rest.0 (subst (λ w. occurs w (poly_variables q) ≡ false) e (put_gone c.variable c.value p m))), rest.1),
    )

-- ---- a constant that is left

has_first : (f : ℕ × ℕ) (fs : List (ℕ × ℕ)) → occurs f.0 (mono_variables (f ∷ fs)) ≡ true
has_first f fs = or_first (nat_eq f.0 f.0) (occurs f.0 (mono_variables fs)) (any_self f.0)

no_factors : (m : List (ℕ × ℕ)) → ((v : ℕ) → occurs v (mono_variables m) ≡ true → ⊥) → m ≡ []
no_factors [] n = refl
no_factors (f ∷ fs) n = absurd (n f.0 (has_first f fs))

none_left : (p : List Term) → ((v : ℕ) → occurs v (poly_variables p) ≡ true → ⊥) → without_constant p ≡ []
none_left [] n = refl
none_left (t ∷ ts) n =
    let first = no_factors t.mono (λ v h. n v (in_first v (mono_variables t.mono) (poly_variables ts) h)) in
    (constant_first t ts first).0 ∙ none_left ts (λ v h. n v (in_second v (mono_variables t.mono) (poly_variables ts) h))

not_at_least : (k : ℤ) → int_le (pos 0) k ≡ false → int_lt k (pos 0) ≡ true
not_at_least k e = grind (arith, ints)

false_constant : (o : Op) (k : ℤ) → compares_0 o k ≡ false → is_false_constant o k ≡ true
false_constant Ge k e = not_at_least k e
false_constant Eq k e = ap not e

pub constant_left : (p : List Term) → IsPoly p → AllMono p → ((v : ℕ) → occurs v (poly_variables p) ≡ true → ⊥) → (x : ℕ → ℤ) (o : Op) → compares_0 o (value x p) ≡ false
    → is_false (record { poly = p; op = o }) ≡ true
constant_left p a m n x o h =
    let none = none_left p n in
    let same : value x p ≡ constant_part p = value_parts x p ∙ ap (λ (q : List Term). value x q +ℤ constant_part p) none ∙ zero_sum (constant_part p) in
    and_from (has_no_terms (without_constant p)) (is_false_constant o (constant_part p)) (ap has_no_terms none)
    (false_constant o (constant_part p) (subst (λ z. compares_0 o z ≡ false) same h))

-- ---- small enough rows

higher : (n b d : ℕ) → n * (1 + b) ^ d ≤ n * (4 * b + 4) ^ (2 * d)
higher n b d =
    let base : (1 + b) ^ d ≤ (4 * b + 4) ^ d = let h : 1 + b ≤ 4 * b + 4 = omega arith in pow-le-pow_left h d in
    let s = mul-le-mul_left n base in
    let t = part_of_power n (4 * b + 4) d (2 * d) (omega arith) (omega arith) in
    omega (arith, s, t)

pub modest_tame : (b : ℕ) (r : PRow) → Fits r.poly → AllMono r.poly → is_modest b r ≡ true → IsTame b r.poly
modest_tame b r f m h =
    let p = and_parts (nat_le (spread r.poly * (2 * degree r.poly + 1)) 65536) (nat_lt (norm r.poly * (4 * b + 4) ^ (2 * degree r.poly)) (2 ^ 100)) h in
    let small = is_below (norm r.poly * (4 * b + 4) ^ (2 * degree r.poly)) (2 ^ 100) p.1 in
    record {
      fits = f;
      monos = m;
      weight = omega (arith, weight_below b (degree r.poly) r.poly (omega arith), higher (norm r.poly) b (degree r.poly), small);
      spread = at_most (spread r.poly * (2 * degree r.poly + 1)) 65536 p.0;
    }
