-- The name of a key is 16 hexadecimal digits.
use Rattle.std.proofs.Common.{◌≡◌, ℕ, zero, suc, ◌+◌, ◌/◌, ◌%◌, ◌<◌, ◌≤◌, Bool, true, false, List, [], ◌∷◌, ◌++◌, map, length, get_or, refl, sym, ap, subst, ◌∙◌, arith}
use Rattle.std.specs.Prelude.{nat_le, nat_lt, ◌==◌, ◌&&◌, ◌||◌, slice_index, if◌then◌else◌}
use Rattle.std.specs.List.{AllByRecursion, range_with_len}
use Rattle.std.proofs.lemmas.List.{length-map}
use Rattle.std.proofs.lemmas.List.FromFn.{length-range_with_len}
use Rattle.std.proofs.lemmas.Bool.Decides.{nat_tests}
use Rattle.std.specs.Int.{to_be_bytes, w32}
use Rattle.sha2.specs.Sha256.{sha256, digest_bytes, final_hash, initial_hash_256}
use Rattle.mm_num.proofs.ListLaws.{all_join}
use Rattle.cert_kit.specs.declared.row.Clause.{Clause}
use Rattle.cert_kit.specs.Bytes.{rows_bytes}
use Rattle.clause_form.specs.Key.{hex_digit, hex_digit_at}
use Rattle.goal_serve.specs.KeyName.{key_name}
use Rattle.report_text.specs.Line.{is_hex, IsKeyName}

-- ---- bytes

abbrev IsByte : ℕ → Type 0
IsByte n = n < 256

joined : (xs ys : List ℕ) → AllByRecursion IsByte xs → AllByRecursion IsByte ys → AllByRecursion IsByte (xs ++ ys)
joined = all_join IsByte

word_bytes : (n : ℕ) → AllByRecursion IsByte (to_be_bytes w32 n)
word_bytes n = (omega arith, (omega arith, (omega arith, (omega arith, tt))))

digest_of_bytes : (h : List ℕ) (n : ℕ) → AllByRecursion IsByte (digest_bytes h n)
unfolding digest_bytes
digest_of_bytes h zero = tt
digest_of_bytes h (suc n) = joined (digest_bytes h n) (to_be_bytes w32 (slice_index h n)) (digest_of_bytes h n) (word_bytes (slice_index h n))

sha_bytes : (m : List ℕ) → AllByRecursion IsByte (sha256 m)
unfolding sha256
sha_bytes m = digest_of_bytes (final_hash initial_hash_256 m) 8

at_place : (bytes : List ℕ) (i : ℕ) → AllByRecursion IsByte bytes → slice_index bytes i < 256
at_place [] i all = omega arith
at_place (b ∷ bytes) zero all = all.0
at_place (b ∷ bytes) (suc i) all = at_place bytes i all.1

-- ---- digits

low_digit : (n : ℕ) → n < 10 → is_hex (48 + n) ≡ true
low_digit n less = grind (arith, nat_tests)

high_digit : (n : ℕ) → 10 ≤ n → n < 16 → is_hex (87 + n) ≡ true
high_digit n least less = grind (arith, nat_tests)

digit : (n : ℕ) → n < 16 → is_hex (hex_digit n) ≡ true
digit n less = by_test (nat_lt n 10) refl
  where
    by_test : (b : Bool) → nat_lt n 10 ≡ b → is_hex (if b then 48 + n else 87 + n) ≡ true
    by_test true e = low_digit n (grind (arith, nat_tests))
    by_test false e = high_digit n (grind (arith, nat_tests)) less

digit_at : (bytes : List ℕ) (k : ℕ) → AllByRecursion IsByte bytes → is_hex (hex_digit_at bytes k) ≡ true
digit_at bytes k all = by_test (k % 2 == 0)
  where
    by_test : (b : Bool) → is_hex (if b then hex_digit (slice_index bytes (k / 2) / 16) else hex_digit (slice_index bytes (k / 2) % 16)) ≡ true
    by_test true = let less = at_place bytes (k / 2) all in digit (slice_index bytes (k / 2) / 16) (omega (arith, less))
    by_test false = digit (slice_index bytes (k / 2) % 16) (omega arith)

digits_at : (bytes ks : List ℕ) → AllByRecursion IsByte bytes → AllByRecursion (λ c. is_hex c ≡ true) (map (hex_digit_at bytes) ks)
digits_at bytes [] all = tt
digits_at bytes (k ∷ ks) all = (digit_at bytes k all, digits_at bytes ks all)

pub is_key_name : (c : Clause) → IsKeyName (key_name c)
unfolding key_name
is_key_name c =
    let digest = sha256 (rows_bytes c.rows) in
    record {
      sixteen = length-map (range_with_len 0 16) (hex_digit_at digest) ∙ length-range_with_len 0 16;
      digits = digits_at digest (range_with_len 0 16) (sha_bytes (rows_bytes c.rows));
    }
