-- Codecs: a way to read a value from the front of bytes, and the one spelling of each value.
use Rattle.std.specs.Prelude.{◌≡◌, ℕ, zero, suc, ◌<◌, List, [], ◌∷◌, ◌++◌, length, take, drop, Option, Some, None, nat_lt, slice_index, if◌then◌else◌}
use Rattle.std.specs.List.{flat_map}
use Rattle.std.specs.Int.{Width, w32, byte_len, from_le_bytes, to_le_bytes}
use Rattle.mm_num.specs.Option.{◌>>=◌}

-- each number is a byte
abbrev pub IsBytes : List ℕ → Type 0
IsBytes bytes = (i : ℕ) → slice_index bytes i < 256

-- what was taken from the front of bytes, and what was left
pub record Takes (bytes spelled rest : List ℕ) : Type 0 where
  pub parts : bytes ≡ spelled ++ rest
  pub rest_fits : IsBytes rest

-- a value from the front of bytes, and the bytes after it
abbrev pub Reader : Type 0 → Type 0
Reader X = List ℕ → Option (X × List ℕ)

-- what is read is spelled so, and what is spelled so is read again
pub record IsCodec {X : Type 0} (read : Reader X) (spelling : X → List ℕ) (Good : X → Type 0) : Type 0 where
  pub takes : (bytes : List ℕ) (x : X) (rest : List ℕ) → IsBytes bytes → read bytes ≡ Some (x, rest) → Takes bytes (spelling x) rest × Good x
  pub again : (x : X) (rest : List ℕ) → Good x → read (spelling x ++ rest) ≡ Some (x, rest)

-- ---- numbers

-- a byte
abbrev pub byte_at : Reader ℕ
byte_at [] = None
byte_at (b ∷ bytes) = Some (b, bytes)

-- a number of this width, the least byte first
abbrev pub number_at : Width → Reader ℕ
number_at w bytes = if nat_lt (length bytes) (byte_len w) then None else Some (from_le_bytes w (take (byte_len w) bytes), drop (byte_len w) bytes)

-- a number below 2^32: four bytes
unfoldable pub number_bytes : ℕ → List ℕ
number_bytes n = to_le_bytes w32 n

-- ---- one after the other

abbrev pub both_at : {X Y : Type 0} → Reader X → Reader Y → Reader (X × Y)
both_at first second bytes = do
  x ← first bytes
  y ← second x.1
  Some ((x.0, y.0), y.1)

-- this many, one after the other
abbrev pub items_at : {X : Type 0} → Reader X → ℕ → Reader (List X)
items_at item zero bytes = Some ([], bytes)
items_at item (suc n) bytes = do
  first ← item bytes
  others ← items_at item n first.1
  Some (first.0 ∷ others.0, others.1)

-- how many, and then each
abbrev pub counted_at : {X : Type 0} → Reader X → Reader (List X)
counted_at item bytes = do
  n ← number_at w32 bytes
  items_at item n.0 n.1

abbrev pub counted_bytes : {X : Type 0} → (X → List ℕ) → List X → List ℕ
counted_bytes spelling xs = number_bytes (length xs) ++ flat_map spelling xs

-- a value made of what is read, where one is made of it
abbrev pub made_at : {X Y : Type 0} → Reader X → (X → Option Y) → Reader Y
made_at read make bytes = do
  x ← read bytes
  y ← make x.0
  Some (y, x.1)

-- what is made of good parts is good and has these parts, and is made of its parts again
pub record IsMaking {X Y : Type 0} (make : X → Option Y) (parts : Y → X) (Good : X → Type 0) (Fine : Y → Type 0) : Type 0 where
  pub made : (x : X) (y : Y) → Good x → make x ≡ Some y → (parts y ≡ x) × Fine y
  pub again : (y : Y) → Fine y → Good (parts y) × (make (parts y) ≡ Some y)
