-- What is taken from the front of bytes, a piece at a time.
use Rattle.std.proofs.Common.{◌≡◌, ℕ, ◌+◌, ◌-◌, ◌<◌, ◌≤◌, min, List, [], ◌++◌, length, take, drop, Option, sym, arith}
use Rattle.std.proofs.lemmas.List.{drop-drop, drop_all, length-append, length-take, take-append-drop, take_rest}
use Rattle.std.proofs.Math.Seq.{take-add}
use Rattle.std.proofs.KnownBytes.{Appends-trans, Consumes-trans}
use Rattle.std.specs.Io.KnownBytes.{Appends, Consumes}
use Rattle.mm_io.specs.Reading.{TakesAtMost}

-- A copied front and what lies behind it are all.
pub copied_front : (left bytes buf : List ℕ) (place n : ℕ) → left ≡ drop place bytes → take n buf ≡ take n (drop place bytes)
    → left ≡ take n buf ++ drop (place + n) bytes
copied_front left bytes buf place n l e =
    rw (l, e, ← drop-drop n place bytes) (sym (take-append-drop n (drop place bytes)))

-- Where there was room and nothing was copied, nothing lies behind.
pub nothing_behind : (bytes buf : List ℕ) (place n : ℕ) → n ≡ min (length buf) (length bytes - place) → n ≡ 0
    → 0 < length buf → drop (place + n) bytes ≡ []
nothing_behind bytes buf place n e z h = drop_all (place + n) bytes (omega arith)

-- Where a front was appended and then a piece of the rest, the longer front was.
pub appends_more : (old mid new : Option (List ℕ)) (bytes : List ℕ) (done n : ℕ) → Appends old mid (take done bytes)
    → Appends mid new (take n (take (length bytes - done) (drop done bytes))) → Appends old new (take (done + n) bytes)
appends_more old mid new bytes done n p q =
    rw take-add (Appends-trans old mid new _ _ p (rw take_rest at q))

-- Where some was taken and then the front of a buffer, at most as much as both were taken.
pub takes_more : (old mid new : Option (List ℕ)) (bytes buf : List ℕ) (n most : ℕ) → Consumes old mid bytes
    → Consumes mid new (take n buf) → length bytes + n ≤ most → TakesAtMost most old new
takes_more old mid new bytes buf n most p q h =
    (bytes ++ take n buf, Consumes-trans old mid new bytes (take n buf) p q, omega (arith, length-append bytes (take n buf), length-take n buf))
