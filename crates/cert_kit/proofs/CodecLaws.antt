-- Codecs of parts make codecs of what is made of them.
use Rattle.std.proofs.Common.{◌≡◌, ℕ, zero, suc, ◌+◌, ◌^◌, ◌<◌, ◌≤◌, false, ltb, List, [], ◌∷◌, ◌++◌, length, take, drop, Option, Some, None, refl, sym, ap, subst, ◌∙◌, append_assoc, arith, inl, inr}
use Rattle.std.specs.List.{flat_map, AllByRecursion}
use Rattle.std.specs.Int.{Width, w32, byte_len, from_le_bytes, to_le_bytes}
use Rattle.std.proofs.lemmas.Bool.{cases_lt, ltb-false, le-ltb}
use Rattle.std.proofs.lemmas.List.{take_at, drop_at, take-append-drop, length-append, length-take, get_or-drop, get_or-take, get_or_past}
use Rattle.std.proofs.lemmas.Option.{same_Some}
use Rattle.mm_num.specs.Option.{◌>>=◌}
use Rattle.cert_kit.specs.Codec.{IsBytes, Takes, Reader, IsCodec, byte_at, number_at, both_at, items_at, counted_at, counted_bytes, number_bytes, made_at, IsMaking}
use Rattle.mm_num.proofs.OptionLaws.{bind_some, test_some}
use Rattle.cert_kit.proofs.LittleEndianLaws.{IsWide, wide32}

-- equal bytes stand for equal values, whatever follows: no spelling is the beginning of another
pub one_value : {X : Type 0} (read : Reader X) (spelling : X → List ℕ) (Good : X → Type 0) → IsCodec read spelling Good → (x y : X) (a b : List ℕ) → Good x → Good y → spelling x ++ a ≡ spelling y ++ b → (x ≡ y) × (a ≡ b)
one_value read spelling Good codec x y a b p q e =
    let same = same_Some (x, a) (y, b) (sym (codec.again x a p) ∙ ap read e ∙ codec.again y b q) in
    (ap (λ r. r.0) same, ap (λ r. r.1) same)

takes_then : (a x b y c : List ℕ) → Takes a x b → Takes b y c → Takes a (x ++ y) c
takes_then a x b y c p q = record { parts = p.parts ∙ ap (λ (t : List ℕ). x ++ t) q.parts ∙ sym (append_assoc x y c); rest_fits = q.rest_fits }

-- ---- numbers

fits_drop : (n : ℕ) (bytes : List ℕ) → IsBytes bytes → IsBytes (drop n bytes)
fits_drop n bytes h i = rw get_or-drop (h (n + i))

fits_take : (n : ℕ) (bytes : List ℕ) → IsBytes bytes → IsBytes (take n bytes)
fits_take n bytes h i =
    elim (cases_lt i n) [
      | inl lt ↦ rw (get_or-take n bytes i 0 lt) (h i)
      | inr le ↦ rw (get_or_past (take n bytes) i 0 (omega (arith, length-take n bytes))) (omega arith)
    ]

number_takes : (w : Width) (limit : ℕ) (wide : IsWide w limit) (bytes : List ℕ) (n : ℕ) (rest : List ℕ) → IsBytes bytes → number_at w bytes ≡ Some (n, rest) → Takes bytes (to_le_bytes w n) rest × (n < limit)
number_takes w limit wide bytes n rest fits e =
    elim (test_some (ltb (length bytes) (byte_len w)) None (Some (from_le_bytes w (take (byte_len w) bytes), drop (byte_len w) bytes)) (n, rest) e) [
      | inl h ↦ absurd (cc h.1)
      | inr h ↦
          let long : byte_len w ≤ length bytes = ltb-false _ _ h.0 in
          let front : List ℕ = take (byte_len w) bytes in
          let len : length front ≡ byte_len w = omega (arith, length-take (byte_len w) bytes) in
          let front_fits : IsBytes front = fits_take (byte_len w) bytes fits in
          let whole : Takes bytes (to_le_bytes w (from_le_bytes w front)) (drop (byte_len w) bytes) = record { parts = rw (wide.back front len front_fits) (sym (take-append-drop (byte_len w) bytes)); rest_fits = fits_drop (byte_len w) bytes fits } in
          subst (λ (p : ℕ × List ℕ). Takes bytes (to_le_bytes w p.0) p.1 × (p.0 < limit)) (same_Some (from_le_bytes w front, drop (byte_len w) bytes) (n, rest) h.1) (whole, wide.below front len front_fits)
    ]

number_again : (w : Width) (limit : ℕ) (wide : IsWide w limit) (n : ℕ) (rest : List ℕ) → n < limit → number_at w (to_le_bytes w n ++ rest) ≡ Some (n, rest)
number_again w limit wide n rest lt =
    let len = wide.len n in
    let long : ltb (length (to_le_bytes w n ++ rest)) (byte_len w) ≡ false = le-ltb _ _ (omega (arith, length-append (to_le_bytes w n) rest)) in
    rw (long, take_at (to_le_bytes w n) rest (byte_len w) len, drop_at (to_le_bytes w n) rest (byte_len w) len, wide.again n lt) refl

pub number_codec : (w : Width) (limit : ℕ) → IsWide w limit → IsCodec (number_at w) (to_le_bytes w) (λ n. n < limit)
number_codec w limit wide = record { takes = number_takes w limit wide; again = number_again w limit wide }

pub u32_codec : IsCodec (number_at w32) number_bytes (λ n. n < 2 ^ 32)
unfolding number_bytes
u32_codec = number_codec w32 (2 ^ 32) wide32

byte_takes : (bytes : List ℕ) (b : ℕ) (rest : List ℕ) → IsBytes bytes → byte_at bytes ≡ Some (b, rest) → Takes bytes (b ∷ []) rest × (b < 256)
byte_takes [] b rest fits e = absurd cc
byte_takes (c ∷ bytes) b rest fits e = subst (λ (p : ℕ × List ℕ). Takes (c ∷ bytes) (p.0 ∷ []) p.1 × (p.0 < 256)) (same_Some (c, bytes) (b, rest) e) (record { parts = refl; rest_fits = λ i. fits (suc i) }, fits 0)

pub byte_codec : IsCodec byte_at (λ b. b ∷ []) (λ b. b < 256)
byte_codec = record { takes = byte_takes; again = λ b rest small. refl }

-- ---- one after the other

pub both_codec : {X Y : Type 0} (first : Reader X) (second : Reader Y) (one : X → List ℕ) (two : Y → List ℕ) (Good : X → Type 0) (Fine : Y → Type 0) → IsCodec first one Good → IsCodec second two Fine
    → IsCodec (both_at first second) (λ p. one p.0 ++ two p.1) (λ p. Good p.0 × Fine p.1)
both_codec first second one two Good Fine c d = record {
  takes = λ bytes p rest fits e.
      let a = bind_some (first bytes) (λ x. second x.1 >>= λ y. Some ((x.0, y.0), y.1)) (p, rest) e in
      let b = bind_some (second a.0.1) (λ y. Some ((a.0.0, y.0), y.1)) (p, rest) a.2 in
      let s = c.takes bytes a.0.0 a.0.1 fits a.1 in
      let t = d.takes a.0.1 b.0.0 b.0.1 s.0.rest_fits b.1 in
      subst (λ q. Takes bytes (one q.0.0 ++ two q.0.1) q.1 × (Good q.0.0 × Fine q.0.1)) (same_Some ((a.0.0, b.0.0), b.0.1) (p, rest) b.2)
      (takes_then bytes (one a.0.0) a.0.1 (two b.0.0) b.0.1 s.0 t.0, (s.1, t.1));
  again = λ p rest good.
      ap (both_at first second) (append_assoc (one p.0) (two p.1) rest) ∙ rw (c.again p.0 (two p.1 ++ rest) good.0) (rw (d.again p.1 rest good.1) refl);
}

items_take : {X : Type 0} (item : Reader X) (spelling : X → List ℕ) (Good : X → Type 0) → IsCodec item spelling Good
    → (n : ℕ) (bytes : List ℕ) (xs : List X) (rest : List ℕ) → IsBytes bytes → items_at item n bytes ≡ Some (xs, rest)
    → Takes bytes (flat_map spelling xs) rest × ((length xs ≡ n) × AllByRecursion Good xs)
items_take item spelling Good codec zero bytes xs rest fits e =
    subst (λ p. Takes bytes (flat_map spelling p.0) p.1 × ((length p.0 ≡ zero) × AllByRecursion Good p.0)) (same_Some ([], bytes) (xs, rest) e) (record { parts = refl; rest_fits = fits }, (refl, tt))
items_take item spelling Good codec (suc n) bytes xs rest fits e =
    let a = bind_some (item bytes) (λ first. items_at item n first.1 >>= λ others. Some (first.0 ∷ others.0, others.1)) (xs, rest) e in
    let b = bind_some (items_at item n a.0.1) (λ others. Some (a.0.0 ∷ others.0, others.1)) (xs, rest) a.2 in
    let s = codec.takes bytes a.0.0 a.0.1 fits a.1 in
    let t = items_take item spelling Good codec n a.0.1 b.0.0 b.0.1 s.0.rest_fits b.1 in
    subst (λ p. Takes bytes (flat_map spelling p.0) p.1 × ((length p.0 ≡ suc n) × AllByRecursion Good p.0)) (same_Some (a.0.0 ∷ b.0.0, b.0.1) (xs, rest) b.2)
    (takes_then bytes (spelling a.0.0) a.0.1 (flat_map spelling b.0.0) b.0.1 s.0 t.0, (ap suc t.1.0, (s.1, t.1.1)))

items_again : {X : Type 0} (item : Reader X) (spelling : X → List ℕ) (Good : X → Type 0) → IsCodec item spelling Good
    → (xs : List X) (rest : List ℕ) → AllByRecursion Good xs → items_at item (length xs) (flat_map spelling xs ++ rest) ≡ Some (xs, rest)
items_again item spelling Good codec [] rest good = refl
items_again item spelling Good codec (x ∷ xs) rest good =
    ap (items_at item (suc (length xs))) (append_assoc (spelling x) (flat_map spelling xs) rest) ∙ rw (codec.again x (flat_map spelling xs ++ rest) good.0) (rw (items_again item spelling Good codec xs rest good.1) refl)

pub counted_codec : {X : Type 0} (item : Reader X) (spelling : X → List ℕ) (Good : X → Type 0) → IsCodec item spelling Good
    → IsCodec (counted_at item) (counted_bytes spelling) (λ xs. (length xs < 2 ^ 32) × AllByRecursion Good xs)
unfolding number_bytes
counted_codec item spelling Good codec = record {
  takes = λ bytes xs rest fits e.
      let a = bind_some (number_at w32 bytes) (λ n. items_at item n.0 n.1) (xs, rest) e in
      let s = number_takes w32 (2 ^ 32) wide32 bytes a.0.0 a.0.1 fits a.1 in
      let t = items_take item spelling Good codec a.0.0 a.0.1 xs rest s.0.rest_fits a.2 in
      let count : to_le_bytes w32 a.0.0 ≡ to_le_bytes w32 (length xs) = ap (to_le_bytes w32) (sym t.1.0) in
      (subst (λ c. Takes bytes (c ++ flat_map spelling xs) rest) count (takes_then bytes (to_le_bytes w32 a.0.0) a.0.1 (flat_map spelling xs) rest s.0 t.0), (omega (arith, s.1, t.1.0), t.1.1));
  again = λ xs rest good.
      ap (counted_at item) (append_assoc (to_le_bytes w32 (length xs)) (flat_map spelling xs) rest)
      ∙ rw (number_again w32 (2 ^ 32) wide32 (length xs) (flat_map spelling xs ++ rest) good.0) (items_again item spelling Good codec xs rest good.1);
}

-- ---- what is made of parts

pub made_codec : {X Y : Type 0} (read : Reader X) (make : X → Option Y) (spelling : X → List ℕ) (parts : Y → X) (Good : X → Type 0) (Fine : Y → Type 0) → IsCodec read spelling Good → IsMaking make parts Good Fine
    → IsCodec (made_at read make) (λ y. spelling (parts y)) Fine
made_codec read make spelling parts Good Fine codec making = record {
  takes = λ bytes y rest fits e.
      let a = bind_some (read bytes) (λ x. make x.0 >>= λ z. Some (z, x.1)) (y, rest) e in
      let b = bind_some (make a.0.0) (λ z. Some (z, a.0.1)) (y, rest) a.2 in
      let s = codec.takes bytes a.0.0 a.0.1 fits a.1 in
      let m = making.made a.0.0 b.0 s.1 b.1 in
      let t : Takes bytes (spelling (parts b.0)) a.0.1 = subst (λ x. Takes bytes (spelling x) a.0.1) (sym m.0) s.0 in
      subst (λ p. Takes bytes (spelling (parts p.0)) p.1 × Fine p.0) (same_Some (b.0, a.0.1) (y, rest) b.2) (t, m.1);
  again = λ y rest fine.
      let m = making.again y fine in
      rw (codec.again (parts y) rest m.0) (rw m.1 refl);
}
