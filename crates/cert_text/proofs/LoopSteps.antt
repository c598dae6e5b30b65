-- Reading items one after the other, as a loop does.
use Rattle.std.proofs.Common.{◌≡◌, ℕ, zero, suc, ◌-◌, ◌+◌, ◌≤◌, ◌<◌, List, [], ◌∷◌, ◌++◌, Option, Some, None, refl, sym, ap, ◌∙◌, append_assoc, arith}
use Rattle.std.proofs.lemmas.List.{append-nil}
use Rattle.mm_num.specs.Option.{◌>>=◌}
use Rattle.cert_text.specs.declared.fail.TextFail.{TextFail}
use Rattle.cert_text.specs.declared.fail.TextFail.TheVariants.{Bad, NoMemory}
use Rattle.cert_kit.specs.declared.row.PRow.{PRow}
use Rattle.cert_text.specs.Reading.{Fails, many_at, row_at, rows_at}

-- what was read before, and what is still read
abbrev pub with_front : {X : Type 0} → List X → Option (List X × List ℕ) → Option (List X × List ℕ)
with_front front read = read >>= λ x. Some (front ++ x.0, x.1)

regroup : {X : Type 0} (front : List X) (x : X) (read : Option (List X × List ℕ)) → with_front front (read >>= λ y. Some (x ∷ y.0, y.1)) ≡ with_front (front ++ x ∷ []) read
regroup front x (Some y) = ap (λ xs. Some (xs, y.1)) (sym (append_assoc front (x ∷ []) y.0))
regroup front x None = refl

pub goes_on : {M X : Type 0} (mark : List ℕ → Option M) (item : M → Option (X × List ℕ)) (front : List X) (count i : ℕ) (bytes : List ℕ) (m : M) (x : X) (after : List ℕ) (total : Option (List X × List ℕ))
    → i < count → mark bytes ≡ Some m → item m ≡ Some (x, after) → with_front front (many_at mark item (count - i) bytes) ≡ total → with_front (front ++ x ∷ []) (many_at mark item (count - (i + 1)) after) ≡ total
unfolding many_at
goes_on mark item front count i bytes m x after total lt marked read so_far =
    let k : count - i ≡ suc (count - (i + 1)) = omega arith in
    let one : with_front front (many_at mark item (count - i) bytes) ≡ with_front (front ++ x ∷ []) (many_at mark item (count - (i + 1)) after) =
    rw k (rw (marked, many_at) (rw read (regroup front x (many_at mark item (count - (i + 1)) after)))) in
    sym one ∙ so_far

pub fails : {M X : Type 0} (e : TextFail) (mark : List ℕ → Option M) (item : M → Option (X × List ℕ)) (front : List X) (count i : ℕ) (bytes : List ℕ) (m : M) (total : Option (List X × List ℕ))
    → i < count → mark bytes ≡ Some m → Fails e (item m) → with_front front (many_at mark item (count - i) bytes) ≡ total → Fails e total
unfolding many_at
fails NoMemory mark item front count i bytes m total lt marked failed so_far = tt
fails Bad mark item front count i bytes m total lt marked failed so_far =
    let k : count - i ≡ suc (count - (i + 1)) = omega arith in
    let none : item m ≡ None = failed in
    let one : with_front front (many_at mark item (count - i) bytes) ≡ None = rw k (rw (marked, many_at) (rw none refl)) in
    sym so_far ∙ one

pub stops : {M X : Type 0} (mark : List ℕ → Option M) (item : M → Option (X × List ℕ)) (front : List X) (count i : ℕ) (bytes : List ℕ) (total : Option (List X × List ℕ))
    → mark bytes ≡ None → with_front front (many_at mark item (count - i) bytes) ≡ total → total ≡ Some (front, bytes)
unfolding many_at
stops {M} {X} mark item front count i bytes total none so_far =
    let one : (n : ℕ) → with_front front (many_at mark item n bytes) ≡ Some (front, bytes) = λ n.
    elim n as (λ n. with_front front (many_at mark item n bytes) ≡ Some (front, bytes)) [
      | zero ↦ ap (λ (xs : List X). Some (xs, bytes)) (append-nil front)
      | suc k ↦ rw (none, many_at) (ap (λ (xs : List X). Some (xs, bytes)) (append-nil front))
    ] in
    sym so_far ∙ one (count - i)

pub is_done : {M X : Type 0} (mark : List ℕ → Option M) (item : M → Option (X × List ℕ)) (front : List X) (count i : ℕ) (bytes : List ℕ) (total : Option (List X × List ℕ))
    → count ≤ i → with_front front (many_at mark item (count - i) bytes) ≡ total → total ≡ Some (front, bytes)
unfolding many_at
is_done {M} {X} mark item front count i bytes total le so_far =
    let k : count - i ≡ 0 = omega arith in
    let one : with_front front (many_at mark item (count - i) bytes) ≡ Some (front, bytes) = rw k (ap (λ (xs : List X). Some (xs, bytes)) (append-nil front)) in
    sym so_far ∙ one

-- ---- lines of rows, as many as there are

-- what was read before, and what is still read
abbrev pub rows_before : List PRow → List PRow × List ℕ → List PRow × List ℕ
rows_before front read = (front ++ read.0, read.1)

pub row_goes_on : (front : List PRow) (count i : ℕ) (bytes : List ℕ) (r : PRow) (after : List ℕ) (total : List PRow × List ℕ)
    → i < count → row_at bytes ≡ Some (r, after) → rows_before front (rows_at (count - i) bytes) ≡ total → rows_before (front ++ r ∷ []) (rows_at (count - (i + 1)) after) ≡ total
unfolding rows_at
row_goes_on front count i bytes r after total lt read so_far =
    let k : count - i ≡ suc (count - (i + 1)) = omega arith in
    let others = rows_at (count - (i + 1)) after in
    let one : rows_before front (rows_at (count - i) bytes) ≡ rows_before (front ++ r ∷ []) others =
    rw k (rw (read, rows_at) (ap (λ (rows : List PRow). (rows, others.1)) (sym (append_assoc front (r ∷ []) others.0)))) in
    sym one ∙ so_far

pub rows_stop : (front : List PRow) (count i : ℕ) (bytes : List ℕ) (total : List PRow × List ℕ) → row_at bytes ≡ None → rows_before front (rows_at (count - i) bytes) ≡ total → (front, bytes) ≡ total
unfolding rows_at
rows_stop front count i bytes total none so_far =
    let one : (n : ℕ) → rows_before front (rows_at n bytes) ≡ (front, bytes) = λ n.
    elim n as (λ n. rows_before front (rows_at n bytes) ≡ (front, bytes)) [
      | zero ↦ ap (λ (rows : List PRow). (rows, bytes)) (append-nil front)
      | suc k ↦ rw (none, rows_at) (ap (λ (rows : List PRow). (rows, bytes)) (append-nil front))
    ] in
    sym (one (count - i)) ∙ so_far

pub rows_done : (front : List PRow) (count i : ℕ) (bytes : List ℕ) (total : List PRow × List ℕ) → count ≤ i → rows_before front (rows_at (count - i) bytes) ≡ total → (front, bytes) ≡ total
unfolding rows_at
rows_done front count i bytes total le so_far =
    let k : count - i ≡ 0 = omega arith in
    let one : rows_before front (rows_at (count - i) bytes) ≡ (front, bytes) = rw k (ap (λ (rows : List PRow). (rows, bytes)) (append-nil front)) in
    sym one ∙ so_far
