-- The bytes of a number, the least first, and the number of bytes.
use Rattle.std.proofs.Common.{◌≡◌, ℕ, zero, suc, ◌+◌, ◌*◌, ◌^◌, ◌/◌, ◌%◌, ◌<◌, List, [], ◌∷◌, length, get_or, refl, sym, ap, ◌∙◌, arith}
use Rattle.std.proofs.Math.Nat.{div-div-eq-div-mul, pow-suc}
use Rattle.std.specs.Int.{Width, w32, w128, byte_len, byte_at, byte_worth, bytes_low_first, sum_through, from_le_bytes, to_le_bytes}
use Rattle.cert_kit.specs.Codec.{IsBytes}

abbrev low_bytes : ℕ → ℕ → List ℕ
low_bytes zero n = []
low_bytes (suc k) n = n % 256 ∷ low_bytes k (n / 256)

abbrev number_of : List ℕ → ℕ
number_of [] = 0
number_of (b ∷ bs) = b + 256 * number_of bs

byte_is : (i n : ℕ) → byte_at i n ≡ n / 256 ^ i % 256
byte_is zero n = omega arith
byte_is (suc i) n = refl

next_byte : (i n : ℕ) → n / 256 ^ i / 256 ≡ n / 256 ^ suc i
next_byte i n = div-div-eq-div-mul n (256 ^ i) 256 ∙ ap (λ m. n / m) (sym (pow-suc 256 i))

bytes_are : (i k n : ℕ) → bytes_low_first i k n ≡ low_bytes k (n / 256 ^ i)
bytes_are i zero n = refl
bytes_are i (suc k) n =
    let first = byte_is i n in
    let others : bytes_low_first (suc i) k n ≡ low_bytes k (n / 256 ^ i / 256) = bytes_are (suc i) k n ∙ ap (low_bytes k) (sym (next_byte i n)) in
    λ j. first j ∷ others j

written_as : (w : Width) (n : ℕ) → to_le_bytes w n ≡ low_bytes (byte_len w) n
written_as w n = bytes_are 0 (byte_len w) n ∙ ap (low_bytes (byte_len w)) (omega arith)

sum_of : ℕ → List ℕ → ℕ
sum_of k bs = sum_through (λ i. byte_worth i (get_or bs i 0)) k

worth_more : (x p q b s t : ℕ) → q ≡ p * 256 → s ≡ b + 256 * t → s + x * q ≡ b + 256 * (t + x * p)
worth_more x p q b s t e f = rw (e, f) (omega arith)

sum_more : (k b : ℕ) (bs : List ℕ) → sum_through (λ i. byte_worth i (get_or (b ∷ bs) i 0)) (suc k) ≡ b + 256 * sum_through (λ i. byte_worth i (get_or bs i 0)) k
sum_more zero b bs = omega arith
sum_more (suc k) b bs = worth_more (get_or bs (suc k) 0) (256 ^ suc k) (256 ^ suc (suc k)) b _ _ (pow-suc 256 (suc k)) (sum_more k b bs)

sum_is : (b : ℕ) (bs : List ℕ) → sum_through (λ i. byte_worth i (get_or (b ∷ bs) i 0)) (length bs) ≡ number_of (b ∷ bs)
sum_is b [] = omega arith
sum_is b (c ∷ cs) = sum_more (length cs) b (c ∷ cs) ∙ ap (λ n. b + 256 * n) (sum_is c cs)

rest_fit : (b : ℕ) (bs : List ℕ) → IsBytes (b ∷ bs) → IsBytes bs
rest_fit b bs fits i = fits (suc i)

bytes_back : (bs : List ℕ) → IsBytes bs → low_bytes (length bs) (number_of bs) ≡ bs
bytes_back [] fits = refl
bytes_back (b ∷ bs) fits =
    let small : b < 256 = fits 0 in
    let first : (b + 256 * number_of bs) % 256 ≡ b = omega arith in
    let rest : (b + 256 * number_of bs) / 256 ≡ number_of bs = omega arith in
    let others : low_bytes (length bs) ((b + 256 * number_of bs) / 256) ≡ bs = ap (low_bytes (length bs)) rest ∙ bytes_back bs (rest_fit b bs fits) in
    λ j. first j ∷ others j

number_back : (k n : ℕ) → n < 256 ^ k → number_of (low_bytes k n) ≡ n
number_back zero n lt = omega arith
number_back (suc k) n lt = omega (arith, number_back k (n / 256) (omega (arith, pow-suc 256 k)))

number_below : (bs : List ℕ) → IsBytes bs → number_of bs < 256 ^ length bs
number_below [] fits = omega arith
number_below (b ∷ bs) fits = omega (arith, fits 0, number_below bs (rest_fit b bs fits), pow-suc 256 (length bs))

length-low : (k n : ℕ) → length (low_bytes k n) ≡ k
length-low zero n = refl
length-low (suc k) n = ap suc (length-low k (n / 256))

from_is : (w : Width) (k : ℕ) (bs : List ℕ) → byte_len w ≡ suc k → length bs ≡ byte_len w → from_le_bytes w bs ≡ number_of bs
from_is w k [] is long = absurd (omega arith)
from_is w k (b ∷ bs) is long = ap (sum_through (λ i. byte_worth i (get_or (b ∷ bs) i 0))) (omega arith) ∙ sum_is b bs

-- a width whose numbers and lists of bytes stand for one another
pub record IsWide (w : Width) (limit : ℕ) : Type 0 where
  pub len : (n : ℕ) → length (to_le_bytes w n) ≡ byte_len w
  pub back : (bytes : List ℕ) → length bytes ≡ byte_len w → IsBytes bytes → to_le_bytes w (from_le_bytes w bytes) ≡ bytes
  pub again : (n : ℕ) → n < limit → from_le_bytes w (to_le_bytes w n) ≡ n
  pub below : (bytes : List ℕ) → length bytes ≡ byte_len w → IsBytes bytes → from_le_bytes w bytes < limit

wide : (w : Width) (k : ℕ) → byte_len w ≡ suc k → IsWide w (256 ^ byte_len w)
wide w k is = record {
  len = λ n. ap length (written_as w n) ∙ length-low (byte_len w) n;
  back = λ bytes long fits. written_as w (from_le_bytes w bytes) ∙ ap (low_bytes (byte_len w)) (from_is w k bytes is long) ∙ ap (λ m. low_bytes m (number_of bytes)) (sym long) ∙ bytes_back bytes fits;
  again = λ n lt. let long : length (to_le_bytes w n) ≡ byte_len w = ap length (written_as w n) ∙ length-low (byte_len w) n in from_is w k (to_le_bytes w n) is long ∙ ap number_of (written_as w n) ∙ number_back (byte_len w) n lt;
  below = λ bytes long fits. omega (arith, from_is w k bytes is long, number_below bytes fits, ap (λ m. 256 ^ m) long);
}

pub wide32 : IsWide w32 (2 ^ 32)
wide32 = wide w32 3 refl

pub wide128 : IsWide w128 (2 ^ 128)
wide128 = wide w128 15 refl
