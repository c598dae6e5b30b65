-- What the cut of a row says of a variable.
use Rattle.std.specs.Prelude.{◌≡◌, ℕ, ◌<◌, ℤ, pos, negsuc, ◌*ℤ◌, List, [], ◌∷◌, length, Bool, true, false, ◌&&◌, cond, nat_eq, Option, Some, None, slice_get, refl}
use Rattle.std.proofs.Common.{ap, sym, ◌∙◌, subst, arith, get_or}
use Rattle.std.specs.Ordering.{int_eq, is_eq}
use Rattle.std.specs.declared.cmp.Ordering.{Ordering}
use Rattle.std.specs.declared.cmp.Ordering.TheVariants.{Less, Equal, Greater}
use Rattle.mm_num.specs.Quotient.{floor_by}
use Rattle.mm_num.proofs.FracLaws.{floor_exact}
use Rattle.mm_poly.specs.declared.term.Term.{Term}
use Rattle.mm_poly.specs.Mono.{mono_cmp, is_constant}
use Rattle.mm_poly.specs.Poly.{IsPoly, Fits, DividesAll, content, with_coeff, constant_part, without_constant, floor_divided}
use Rattle.mm_poly.proofs.CaseLaws.{by_coeff, by_cases}
use Rattle.mm_poly.proofs.OrderLaws.{mono_exact, mono_same}
use Rattle.mm_poly.proofs.CutLaws.{content_divides}
use Rattle.mm_num.proofs.Ring.{mul_zero}
use Rattle.cert_kit.specs.declared.row.Op.{Op}
use Rattle.cert_kit.specs.declared.row.Op.TheVariants.{Ge, Eq}
use Rattle.cert_kit.specs.declared.row.PRow.{PRow}
use Rattle.cert_kit.specs.Cut.{cut_of}
use Rattle.cert_kit.proofs.CutTwiceLaws.{by_cut}
use Rattle.cert_kit.proofs.CutSameLaws.{cut_itself}
use Rattle.box_enum.specs.declared.reading.Reading.{Reading}
use Rattle.box_enum.specs.Box.{is_multiple_of, is_shifted, lower_by, upper_by}
use Rattle.box_enum.specs.machine.Reading.{IsLone, lower_as, upper_as, IsReading}
use Rattle.box_enum.proofs.PlainLaws.{number_itself, number_not}

-- ---- as many terms that aren't constant

pub constant_out : (f : ℤ) (us : List Term) → without_constant (with_coeff f [] us) ≡ without_constant us
constant_out f us = by_coeff f [] us (λ r. without_constant r ≡ without_constant us) (λ e. refl) (λ n. refl)

zero_times : (g f c : ℤ) → g *ℤ f ≡ c → f ≡ pos 0 → c ≡ pos 0
zero_times g f c e z = sym e ∙ ap (λ a. g *ℤ a) z ∙ mul_zero g

same_step : (c : ℤ) (m : List (ℕ × ℕ)) (g : ℕ) (ts us : List Term) → 0 < g → (c ≡ pos 0 → ⊥)
    → (DividesAll g (without_constant ts) → length (without_constant us) ≡ length (without_constant ts))
    → DividesAll g (cond (is_constant m) (without_constant ts) (record { coeff = c; mono = m } ∷ without_constant ts))
    → length (without_constant (with_coeff (floor_by c g) m us)) ≡ length (cond (is_constant m) (without_constant ts) (record { coeff = c; mono = m } ∷ without_constant ts))
same_step c [] g ts us h n rest d = ap length (constant_out (floor_by c g) us) ∙ rest d
same_step c (f ∷ fs) g ts us h n rest d =
    by_coeff (floor_by c g) (f ∷ fs) us (λ r. length (without_constant r) ≡ length (record { coeff = c; mono = f ∷ fs } ∷ without_constant ts))
    (λ e. absurd (n (zero_times (pos g) (floor_by c g) c (floor_exact c g h d.0) e)))
    (λ k. let r : length (without_constant us) ≡ length (without_constant ts) = rest d.1 in omega arith)

same_length : (g : ℕ) (ts : List Term) → 0 < g → IsPoly ts → DividesAll g (without_constant ts)
    → length (without_constant (floor_divided g ts)) ≡ length (without_constant ts)
same_length g [] h p d = refl
same_length g (t ∷ ts) h p d = same_step t.coeff t.mono g ts (floor_divided g ts) h p.0 (same_length g ts h p.2) d

-- ---- no bound

not_multiple : (x : ℕ) (c : ℤ) (ts : List Term) → (length ts ≡ 1 → ⊥) → is_multiple_of x c ts ≡ false
not_multiple x c [] n = refl
not_multiple x c (t ∷ []) n = absurd (n refl)
not_multiple x c (t ∷ u ∷ us) n = refl

pub by_tests : (x : ℕ) (o : Op) (p : List Term) → lower_by x o p ≡ lower_as (is_shifted x (pos 1) p) (is_shifted x (negsuc 0) p) o (constant_part p)
by_tests x Ge p = refl
by_tests x Eq p = refl

pub by_tests_above : (x : ℕ) (o : Op) (p : List Term) → upper_by x o p ≡ upper_as (is_shifted x (pos 1) p) (is_shifted x (negsuc 0) p) o (constant_part p)
by_tests_above x Ge p = refl
by_tests_above x Eq p = refl

no_lower : (o : Op) (k : ℤ) → lower_as false false o k ≡ None
no_lower Ge k = refl
no_lower Eq k = refl

no_upper : (o : Op) (k : ℤ) → upper_as false false o k ≡ None
no_upper Ge k = refl
no_upper Eq k = refl

-- what is read where it was found to be no variable, or one
some_lower : (b p q : Bool) (o : Op) (k : ℤ) → lower_as (b && p) (b && q) o k ≡ cond b (lower_as p q o k) None
some_lower true p q o k = refl
some_lower false p q o k = no_lower o k

some_upper : (b p q : Bool) (o : Op) (k : ℤ) → upper_as (b && p) (b && q) o k ≡ cond b (upper_as p q o k) None
some_upper true p q o k = refl
some_upper false p q o k = no_upper o k

pub none_is : (r : PRow) → IsLone r.poly None → IsReading r None
none_is r l = record {
  lower = λ x. by_tests x r.op r.poly ∙ ap (λ b. lower_as b (is_shifted x (negsuc 0) r.poly) r.op (constant_part r.poly)) (l x (pos 1))
      ∙ ap (λ b. lower_as false b r.op (constant_part r.poly)) (l x (negsuc 0)) ∙ no_lower r.op (constant_part r.poly);
  upper = λ x. by_tests_above x r.op r.poly ∙ ap (λ b. upper_as b (is_shifted x (negsuc 0) r.poly) r.op (constant_part r.poly)) (l x (pos 1))
      ∙ ap (λ b. upper_as false b r.op (constant_part r.poly)) (l x (negsuc 0)) ∙ no_upper r.op (constant_part r.poly);
  rising = tt;
}

pub some_is : (r : PRow) (v : ℕ) (d : ℤ) (rising : Bool) (low high : Option ℤ) → IsLone r.poly (Some (v, d)) → rising ≡ int_eq d (pos 1)
    → low ≡ lower_as (int_eq d (pos 1)) (int_eq d (negsuc 0)) r.op (constant_part r.poly)
    → high ≡ upper_as (int_eq d (pos 1)) (int_eq d (negsuc 0)) r.op (constant_part r.poly)
    → IsReading r (Some (record { variable = v; rising = rising; low = low; high = high }))
some_is r v d rising low high l g e f = record {
  lower = λ x. by_tests x r.op r.poly ∙ ap (λ b. lower_as b (is_shifted x (negsuc 0) r.poly) r.op (constant_part r.poly)) (l x (pos 1))
      ∙ ap (λ b. lower_as (nat_eq v x && int_eq d (pos 1)) b r.op (constant_part r.poly)) (l x (negsuc 0))
      ∙ some_lower (nat_eq v x) (int_eq d (pos 1)) (int_eq d (negsuc 0)) r.op (constant_part r.poly)
      ∙ ap (λ k. cond (nat_eq v x) k None) (sym e);
  upper = λ x. by_tests_above x r.op r.poly ∙ ap (λ b. upper_as b (is_shifted x (negsuc 0) r.poly) r.op (constant_part r.poly)) (l x (pos 1))
      ∙ ap (λ b. upper_as (nat_eq v x && int_eq d (pos 1)) b r.op (constant_part r.poly)) (l x (negsuc 0))
      ∙ some_upper (nat_eq v x) (int_eq d (pos 1)) (int_eq d (negsuc 0)) r.op (constant_part r.poly)
      ∙ ap (λ k. cond (nat_eq v x) k None) (sym f);
  rising = l v (pos 1) ∙ ap (λ b. b && int_eq d (pos 1)) (number_itself v) ∙ sym g;
}

-- ---- rows

not_lone : (p : List Term) → (length (without_constant p) ≡ 1 → ⊥) → IsLone p None
not_lone p n x c = not_multiple x c (without_constant p) n

pub nothing_read : (r : PRow) (us : List Term) → Fits r.poly → us ≡ without_constant r.poly → (length us ≡ 1 → ⊥) → IsReading (cut_of r) None
nothing_read r us f is m = let n : length (without_constant r.poly) ≡ 1 → ⊥ = λ l. m (ap length is ∙ l) in none_is (cut_of r) (by_cut r f.order (λ q. IsLone q.poly None)
    (λ e. not_lone r.poly n)
    (λ h k. not_lone (floor_divided (content r.poly) r.poly) (λ e. n (sym (same_length (content r.poly) r.poly h f.order (content_divides r.poly)) ∙ e)))
    (λ h e x c. refl))

pub cut_read : (r : PRow) (o : Option Reading) → Fits r.poly → content r.poly < 2 → IsReading r o → IsReading (cut_of r) o
cut_read r o f h i = subst (λ (q : PRow). IsReading q o) (sym (cut_itself r f (omega arith))) i

-- ---- one term

pub many_terms : (p us : List Term) → us ≡ without_constant p → (length us ≡ 1 → ⊥) → IsLone p None
many_terms p us e n = not_lone p (λ l. n (ap length e ∙ l))

mono_other : (m : List (ℕ × ℕ)) (x : ℕ) → ((v : ℕ) → m ≡ (v, 1) ∷ [] → ⊥) → is_eq (mono_cmp m ((x, 1) ∷ [])) ≡ false
mono_other m x n = by_cases (mono_cmp m ((x, 1) ∷ [])) (λ h. ap is_eq h) (λ h. absurd (n x (mono_exact m ((x, 1) ∷ []) h))) (λ h. ap is_eq h)

number_is : (x v : ℕ) → nat_eq v x ≡ true → v ≡ x
number_is x v h = grind arith

abbrev single : ℕ → List (ℕ × ℕ)
single v = (v, 1) ∷ []

variable_in : List (ℕ × ℕ) → ℕ
variable_in [] = 0
variable_in (f ∷ fs) = f.0

first_is : (a b : ℕ) → single a ≡ single b → a ≡ b
unfolding variable_in
first_is a b e = ap variable_in e

mono_single : (v x : ℕ) → is_eq (mono_cmp ((v, 1) ∷ []) ((x, 1) ∷ [])) ≡ nat_eq v x
mono_single v x = by_cases (mono_cmp ((v, 1) ∷ []) ((x, 1) ∷ []))
    (λ h. ap is_eq h ∙ sym (number_not x v (λ e. differ h e Less (λ k. cc))))
    (λ h. ap is_eq h ∙ sym (number_same (first_is v x (mono_exact ((v, 1) ∷ []) ((x, 1) ∷ []) h))))
    (λ h. ap is_eq h ∙ sym (number_not x v (λ e. differ h e Greater (λ k. cc))))
  where
    number_same : v ≡ x → nat_eq v x ≡ true
    number_same e = grind arith

    differ : {o : Ordering} → mono_cmp ((v, 1) ∷ []) ((x, 1) ∷ []) ≡ o → v ≡ x → (w : Ordering) → (Equal ≡ o → ⊥) → ⊥
    differ {o = o} h e w n = n (sym (mono_same ((x, 1) ∷ [])) ∙ ap (λ (k : ℕ). mono_cmp ((k, 1) ∷ []) ((x, 1) ∷ [])) (sym e) ∙ h)

pub other_term : (p us : List Term) (t : Term) → us ≡ without_constant p → us ≡ t ∷ [] → ((v : ℕ) → t.mono ≡ (v, 1) ∷ [] → ⊥) → IsLone p None
other_term p us t e f n x c = ap (is_multiple_of x c) (sym e ∙ f) ∙ ap (λ b. b && int_eq t.coeff c) (mono_other t.mono x n)

pub one_term : (p us : List Term) (t : Term) (v : ℕ) → us ≡ without_constant p → us ≡ t ∷ [] → t.mono ≡ (v, 1) ∷ [] → IsLone p (Some (v, t.coeff))
one_term p us t v e f m x c =
    ap (is_multiple_of x c) (sym e ∙ f) ∙ ap (λ (k : List (ℕ × ℕ)). is_eq (mono_cmp k ((x, 1) ∷ [])) && int_eq t.coeff c) m ∙ ap (λ b. b && int_eq t.coeff c) (mono_single v x)

pub alone : (us : List Term) (t : Term) → length us ≡ 1 → t ≡ get_or us 0 t → us ≡ t ∷ []
alone [] t h e = absurd (omega arith)
alone (u ∷ []) t h e = ap (λ (k : Term). k ∷ []) (sym e)
alone (u ∷ v ∷ us) t h e = absurd (omega arith)

pub single_is : (m : List (ℕ × ℕ)) (v e : ℕ) → length m ≡ 1 → slice_get m 0 ≡ Some (v, e) → e ≡ 1 → m ≡ (v, 1) ∷ []
single_is [] v e h g i = absurd (omega arith)
single_is (f ∷ []) v e h g i = let p : f ≡ (v, e) = cc in ap (λ (k : ℕ × ℕ). k ∷ []) p ∙ ap (λ (k : ℕ). (v, k) ∷ []) i
single_is (f ∷ k ∷ ks) v e h g i = absurd (omega arith)

pub bounds_as : (f : Bool → Bool → Op → ℤ → Option ℤ) (a b up down : Bool) (o : Op) (k m : ℤ) (r : Option ℤ) → r ≡ f a b o k → a ≡ up → b ≡ down → k ≡ m → r ≡ f up down o m
bounds_as f a b up down o k m r e p q i = e ∙ ap (λ c. f c b o k) p ∙ ap (λ c. f up c o k) q ∙ ap (λ n. f up down o n) i
