-- The tokens of bytes, from left to right, each with the place of its first byte.
use Rattle.std.specs.Prelude.{◌≡◌, ◌≤◌, ◌≤ℤ◌, ℕ, zero, suc, ◌+◌, ◌-◌, ◌*◌, ◌^◌, pos, List, [], ◌∷◌, length, take, drop, Option, Some, None, unwrap_or, Bool, false, nat_le, nat_lt, ◌&&◌, ◌||◌, ◌==◌, if◌then◌else◌}
use Rattle.std.specs.List.{prefix_len, AllByRecursion}
use Rattle.std.specs.Option.{option_map_or}
use Rattle.mm_num.specs.Small.{IsSmall}
use Rattle.goal_token.specs.declared.token.Sign.{Sign}
use Rattle.goal_token.specs.declared.token.Token.{Token}
use Rattle.goal_token.specs.declared.token.Token.TheVariants as token
use Rattle.goal_token.specs.declared.token.Placed.{Placed}
use Rattle.goal_token.specs.Words.{lookup, words, signs_of_3, signs_of_2, signs_of_1}

-- space, tab, CR, LF
abbrev pub is_blank : ℕ → Bool
is_blank c = c == 32 || c == 9 || c == 13 || c == 10

-- 0 to 9
abbrev pub is_digit : ℕ → Bool
is_digit c = nat_le 48 c && nat_le c 57

-- an ASCII letter or _
abbrev pub begins_name : ℕ → Bool
begins_name c = (nat_le 65 c && nat_le c 90) || (nat_le 97 c && nat_le c 122) || c == 95

-- an ASCII letter, a digit, _ or '
abbrev pub is_name_byte : ℕ → Bool
is_name_byte c = begins_name c || is_digit c || c == 39

-- ---- comments

-- an opening (*
abbrev pub is_opening : ℕ → ℕ → Bool
is_opening c d = c == 40 && d == 42

-- a closing *)
abbrev pub is_closing : ℕ → ℕ → Bool
is_closing c d = c == 42 && d == 41

-- what follows so many open comments, where all of them are closed
abbrev pub after_comment : ℕ → List ℕ → Option (List ℕ)
after_comment zero bytes = Some bytes
after_comment (suc depth) [] = None
after_comment (suc depth) (c ∷ []) = None
after_comment (suc depth) (c ∷ d ∷ bytes) = if is_opening c d then after_comment (suc (suc depth)) bytes
    else if is_closing c d then after_comment depth bytes
    else after_comment (suc depth) (d ∷ bytes)

-- whether a comment begins here
abbrev pub begins_comment : List ℕ → Bool
begins_comment [] = false
begins_comment (c ∷ []) = false
begins_comment (c ∷ d ∷ bytes) = is_opening c d

-- ---- one token, and how many bytes it has

-- a token of this many bytes
abbrev pub Sized : Type 0
Sized = Token × ℕ

-- the number that digits stand for, after digits of this value
abbrev pub number_after : ℕ → List ℕ → ℕ
number_after value [] = value
number_after value (c ∷ digits) = number_after (10 * value + (c - 48)) digits

-- a number, where it is below 2^126
abbrev pub literal : ℕ → Token
literal n = if nat_lt n (2 ^ 126) then token.Literal (pos n) else token.Wrong

-- the digits at the front
unfoldable pub literal_at : List ℕ → Sized
literal_at bytes = let n = prefix_len is_digit bytes in (literal (number_after 0 (take n bytes)), n)

-- how long the name at the front is
abbrev pub name_length : List ℕ → ℕ
name_length bytes = prefix_len is_name_byte bytes

-- how long a dot and the name after it are
abbrev pub dotted_length : List ℕ → ℕ
dotted_length [] = 0
dotted_length (c ∷ bytes) = if c == 46 then 1 + name_length bytes else 0

-- how long two names at the front are that a dot joins, or the name where no dot follows it
abbrev pub joined_length : List ℕ → ℕ
joined_length bytes = name_length bytes + dotted_length (drop (name_length bytes) bytes)

-- a word of the table, or else a name
unfoldable pub word : List ℕ → Token
word text = unwrap_or (lookup text words) (token.Name (record { bytes = text }))

-- the two names at the front where they are a word together, or else the name at the front
unfoldable pub word_at : List ℕ → Sized
word_at bytes =
    option_map_or (λ t. (t, joined_length bytes)) (lookup (take (joined_length bytes) bytes) words) (word (take (name_length bytes) bytes), name_length bytes)

-- a sign of this many bytes, or else another token
abbrev pub sign_or : ℕ → Option Sign → Sized → Sized
sign_or n found other = option_map_or (λ s. (token.Sign s, n)) found other

-- the longest sign at the front, or one byte that begins no token
unfoldable pub sign_at : List ℕ → Sized
sign_at bytes =
    sign_or 3 (lookup (take 3 bytes) signs_of_3) (sign_or 2 (lookup (take 2 bytes) signs_of_2) (sign_or 1 (lookup (take 1 bytes) signs_of_1) (token.Wrong, 1)))

-- the token at the front of bytes that begin with this byte, where neither a blank nor a comment stands there
unfoldable pub token_at : ℕ → List ℕ → Sized
token_at c bytes = if is_digit c then literal_at (c ∷ bytes) else if begins_name c then word_at (c ∷ bytes) else sign_at (c ∷ bytes)

-- ---- all tokens

-- a token at a place
abbrev pub placed : Token → ℕ → Placed
placed t place = record { token = t; at = place }

-- the tokens of bytes from a place on, after so many bytes that have been read
abbrev pub tokens_after : ℕ → ℕ → List ℕ → List Placed
tokens_after read place [] = []
tokens_after (suc read) place (c ∷ bytes) = tokens_after read (place + 1) bytes
tokens_after zero place (c ∷ bytes) = if is_blank c then tokens_after zero (place + 1) bytes
    else if begins_comment (c ∷ bytes)
    then elim (after_comment 1 (drop 1 bytes)) [
      | Some rest ↦ tokens_after (length bytes - length rest) (place + 1) bytes
      | None ↦ placed token.Wrong (place + length (c ∷ bytes)) ∷ []
    ]
    else placed (token_at c bytes).0 place ∷ tokens_after ((token_at c bytes).1 - 1) (place + 1) bytes

-- the tokens of bytes from a place on
abbrev pub tokens_at : ℕ → List ℕ → List Placed
tokens_at place bytes = tokens_after zero place bytes

-- the tokens of bytes
abbrev pub tokens_of : List ℕ → List Placed
tokens_of bytes = tokens_at 0 bytes

-- a token begins here, or nothing is left
abbrev pub BeginsToken : List ℕ → Type 0
BeginsToken [] = Unit {0}
BeginsToken (c ∷ bytes) = (is_blank c ≡ false) × (begins_comment (c ∷ bytes) ≡ false)

-- this token stands before those that are left after; there is none only where none was left
abbrev pub IsTaken : Option Placed → List Placed → List Placed → Type 0
IsTaken None before after = (before ≡ []) × (after ≡ [])
IsTaken (Some t) before after = before ≡ t ∷ after

-- places from least on, each above the one before, and below the end; what is at the end itself is no token
abbrev pub PlacesRise : ℕ → ℕ → List Placed → Type 0
PlacesRise least end [] = Unit {0}
PlacesRise least end (t ∷ ts) = (least ≤ t.at) × (t.at ≤ end) × (t.at ≡ end → t.token ≡ token.Wrong) × PlacesRise (t.at + 1) end ts

-- a literal from 0 and below 2^126, or no literal
abbrev pub IsSmallToken : Token → Type 0
IsSmallToken (token.Literal z) = (pos 0 ≤ℤ z) × IsSmall z
IsSmallToken other = Unit {0}

-- each literal is from 0 and below 2^126
abbrev pub AreSmall : List Placed → Type 0
AreSmall ts = AllByRecursion (λ t. IsSmallToken t.token) ts
