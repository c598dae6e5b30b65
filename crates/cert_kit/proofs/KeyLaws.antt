-- Integers, monomials, polynomials and rows are read as they are spelled.
use Rattle.std.proofs.Common.{◌≡◌, ℕ, zero, suc, ◌^◌, ◌<◌, ◌≤◌, true, false, cond, List, [], ◌∷◌, ◌++◌, length, Some, None, refl, sym, ap, subst, ◌∙◌, arith, ltb-true, lt-ltb}
use Rattle.std.specs.Prelude.{ℤ, pos, negsuc, unsigned_abs, nat_lt}
use Rattle.std.specs.List.{AllByRecursion}
use Rattle.std.specs.Int.{w32, w128, to_le_bytes}
use Rattle.std.proofs.lemmas.Int.{to_z-of_z, of_z-to_z, ints}
use Rattle.std.proofs.lemmas.Option.{same_Some}
use mir.Val.{SFits, of_z, to_z}
use Rattle.mm_num.specs.Small.{IsSmall}
use Rattle.mm_num.proofs.OptionLaws.{bind_some}
use Rattle.mm_poly.specs.declared.term.Term.{Term}
use Rattle.mm_poly.specs.Mono.{IsMonomial, VarsBelow, mono_degree}
use Rattle.mm_poly.specs.Poly.{Fits, EachMono, norm}
use Rattle.mm_poly.specs.Tests.{is_monomial, is_polynomial}
use Rattle.mm_poly.proofs.TestLaws.{monomial_given, monomial_from, fits_given, fits_from}
use Rattle.mm_poly.proofs.MonoLaws.{length_small}
use Rattle.mm_poly.proofs.EachLaws.{all_monomials}
use Rattle.cert_kit.specs.declared.row.Op.{Op}
use Rattle.cert_kit.specs.declared.row.Op.TheVariants.{Ge, Eq}
use Rattle.cert_kit.specs.declared.row.PRow.{PRow}
use Rattle.cert_kit.specs.Codec.{IsCodec, IsMaking, byte_at, number_at, both_at, counted_at, number_bytes, counted_bytes}
use Rattle.cert_kit.specs.Bytes.{integer_bytes, factor_bytes, mono_bytes, term_bytes, poly_bytes, op_byte, op_bytes, row_bytes, rows_bytes, factor_at, rising, mono_at, small_integer, integer_at, term_of, term_at, fitting, poly_at, op_of, row_of, row_at, rows_at, AreRows}
use Rattle.cert_kit.proofs.CodecLaws.{one_value, byte_codec, u32_codec, number_codec, both_codec, counted_codec, made_codec}
use Rattle.cert_kit.proofs.LittleEndianLaws.{wide128}

-- a value that passes a test
passed : {A : Type 0} (b : _) (x y : A) → cond b (Some x) None ≡ Some y → (b ≡ true) × (x ≡ y)
passed true x y e = (refl, same_Some x y e)
passed false x y e = absurd cc

-- ---- integers

integer_made : (n : ℕ) (z : ℤ) → n < 2 ^ 128 → small_integer n ≡ Some z → (of_z w128 z ≡ n) × IsSmall z
integer_made n z lt e =
    let p = passed (nat_lt (unsigned_abs (to_z w128 n)) (2 ^ 126)) (to_z w128 n) z e in
    subst (λ y. (of_z w128 y ≡ n) × IsSmall y) p.1 (of_z-to_z w128 n lt, ltb-true (unsigned_abs (to_z w128 n)) (2 ^ 126) p.0)

below_bits : (z : ℤ) → IsSmall z → of_z w128 z < 2 ^ 128
below_bits (pos n) small = omega (arith, ints)
below_bits (negsuc n) small = omega (arith, ints)

in_bits : (z : ℤ) → IsSmall z → SFits w128 z
in_bits (pos n) small = record { sfits = omega arith }
in_bits (negsuc n) small = record { sfits = omega arith }

integer_again : (z : ℤ) → IsSmall z → small_integer (of_z w128 z) ≡ Some z
integer_again z small = rw (to_z-of_z w128 z (in_bits z small)) (rw (lt-ltb (unsigned_abs z) (2 ^ 126) small) refl)

-- what `to_le_bytes` answers
pub integer_is : (z : ℤ) (bytes : List ℕ) → SFits w128 z → bytes ≡ to_le_bytes w128 (of_z w128 (to_z w128 (of_z w128 z))) → bytes ≡ integer_bytes z
unfolding integer_bytes
integer_is z bytes fits e = e ∙ ap (λ n. to_le_bytes w128 (of_z w128 n)) (to_z-of_z w128 z fits)

integer_making : IsMaking small_integer (of_z w128) (λ n. n < 2 ^ 128) IsSmall
integer_making = record { made = integer_made; again = λ z small. (below_bits z small, integer_again z small) }

pub integer_codec : IsCodec integer_at integer_bytes IsSmall
unfolding integer_at integer_bytes
integer_codec = made_codec (number_at w128) small_integer (to_le_bytes w128) (of_z w128) (λ n. n < 2 ^ 128) IsSmall (number_codec w128 (2 ^ 128) wide128) integer_making

-- ---- monomials

abbrev IsFactor : ℕ × ℕ → Type 0
IsFactor f = (f.0 < 2 ^ 32) × (f.1 < 256)

factor_codec : IsCodec factor_at factor_bytes IsFactor
factor_codec = both_codec (number_at w32) byte_at number_bytes (λ b. b ∷ []) (λ n. n < 2 ^ 32) (λ b. b < 256) u32_codec byte_codec

factors_of : (fs : List (ℕ × ℕ)) → mono_degree fs ≤ 255 → VarsBelow (2 ^ 32) fs → AllByRecursion IsFactor fs
factors_of [] flat room = tt
factors_of (f ∷ fs) flat room = ((room.0, omega arith), factors_of fs (omega arith) room.1)

mono_making : IsMaking rising (λ fs. fs) (λ fs. (length fs < 2 ^ 32) × AllByRecursion IsFactor fs) IsMonomial
mono_making = record {
  made = λ fs gs good e.
      let p = passed (is_monomial fs) fs gs e in
      (sym p.1, subst IsMonomial p.1 (monomial_given fs p.0));
  again = λ fs m. ((omega (arith, length_small fs m), factors_of fs m.degree m.room), rw (monomial_from fs m) refl);
}

pub mono_codec : IsCodec mono_at mono_bytes IsMonomial
unfolding mono_at
mono_codec = made_codec (counted_at factor_at) rising (counted_bytes factor_bytes) (λ fs. fs) (λ fs. (length fs < 2 ^ 32) × AllByRecursion IsFactor fs) IsMonomial (counted_codec factor_at factor_bytes IsFactor factor_codec) mono_making

-- ---- terms and polynomials

abbrev IsTerm : Term → Type 0
IsTerm t = IsSmall t.coeff × IsMonomial t.mono

term_making : IsMaking term_of (λ t. (t.coeff, t.mono)) (λ p. IsSmall p.0 × IsMonomial p.1) IsTerm
term_making = record {
  made = λ p t good e. subst (λ (u : Term). ((u.coeff, u.mono) ≡ p) × IsTerm u) (same_Some (record { coeff = p.0; mono = p.1 }) t e) (refl, good);
  again = λ t good. (good, refl);
}

pub term_codec : IsCodec term_at term_bytes IsTerm
unfolding term_at
term_codec = made_codec (both_at integer_at mono_at) term_of (λ p. integer_bytes p.0 ++ mono_bytes p.1) (λ t. (t.coeff, t.mono)) (λ p. IsSmall p.0 × IsMonomial p.1) IsTerm
    (both_codec integer_at mono_at integer_bytes mono_bytes IsSmall IsMonomial integer_codec mono_codec) term_making

terms_of : (ts : List Term) → EachMono IsMonomial ts → norm ts < 2 ^ 126 → AllByRecursion IsTerm ts
terms_of [] monos small = tt
terms_of (t ∷ ts) monos small = ((omega arith, monos.0), terms_of ts monos.1 (omega arith))

poly_making : IsMaking fitting (λ ts. ts) (λ ts. (length ts < 2 ^ 32) × AllByRecursion IsTerm ts) Fits
poly_making = record {
  made = λ ts us good e.
      let p = passed (is_polynomial ts) ts us e in
      (sym p.1, subst Fits p.1 (fits_given ts p.0));
  again = λ ts f. ((omega (arith, f.spread), terms_of ts (all_monomials ts f.monos f.room f.degree) f.norm), rw (fits_from ts f) refl);
}

pub poly_codec : IsCodec poly_at poly_bytes Fits
unfolding poly_at
poly_codec = made_codec (counted_at term_at) fitting (counted_bytes term_bytes) (λ ts. ts) (λ ts. (length ts < 2 ^ 32) × AllByRecursion IsTerm ts) Fits (counted_codec term_at term_bytes IsTerm term_codec) poly_making

-- ---- rows

op_again : (o : Op) → op_of (op_byte o) ≡ Some o
op_again Ge = refl
op_again Eq = refl

op_made : (n : ℕ) (o : Op) → op_of n ≡ Some o → op_byte o ≡ n
op_made zero o e = ap op_byte (sym (same_Some Ge o e))
op_made (suc zero) o e = ap op_byte (sym (same_Some Eq o e))
op_made (suc (suc n)) o e = absurd cc

op_small : (o : Op) → op_byte o < 256
op_small Ge = omega arith
op_small Eq = omega arith

row_made : (p : ℕ × List Term) (r : PRow) → Fits p.1 → row_of p ≡ Some r → ((op_byte r.op, r.poly) ≡ p) × Fits r.poly
row_made p r fits e =
    let b = bind_some (op_of p.0) (λ o. Some (record { poly = p.1; op = o })) r e in
    subst (λ (s : PRow). ((op_byte s.op, s.poly) ≡ p) × Fits s.poly) (same_Some (record { poly = p.1; op = b.0 }) r b.2) (ap (λ n. (n, p.1)) (op_made p.0 b.0 b.1), fits)

row_making : IsMaking row_of (λ r. (op_byte r.op, r.poly)) (λ p. (p.0 < 256) × Fits p.1) (λ r. Fits r.poly)
row_making = record {
  made = λ p r good e. row_made p r good.1 e;
  again = λ r fits. ((op_small r.op, fits), rw (op_again r.op) refl);
}

pub row_codec : IsCodec row_at row_bytes (λ r. Fits r.poly)
unfolding row_at op_bytes
row_codec = made_codec (both_at byte_at poly_at) row_of (λ p. (p.0 ∷ []) ++ poly_bytes p.1) (λ r. (op_byte r.op, r.poly)) (λ p. (p.0 < 256) × Fits p.1) (λ r. Fits r.poly)
    (both_codec byte_at poly_at (λ b. b ∷ []) poly_bytes (λ b. b < 256) Fits byte_codec poly_codec) row_making

pub rows_codec : IsCodec rows_at rows_bytes AreRows
unfolding rows_at
rows_codec = counted_codec row_at row_bytes (λ r. Fits r.poly) row_codec

pub one_key : (rows others : List PRow) (a b : List ℕ) → AreRows rows → AreRows others → rows_bytes rows ++ a ≡ rows_bytes others ++ b → (rows ≡ others) × (a ≡ b)
one_key = one_value rows_at rows_bytes AreRows rows_codec
