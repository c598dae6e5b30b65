-- The whole text: what is read is spelled so, what is spelled so is read, and what isn't has one place.
use Rattle.std.proofs.Common.{◌≡◌, ◌≢◌, ℕ, ◌-◌, ◌^◌, ◌≤◌, true, false, cond, eqb, ◌⊎◌, inl, inr, List, [], ◌∷◌, ◌++◌, length, length-append, Some, None, Result, Ok, Err, refl, sym, ap, subst, ◌∙◌, append_assoc, arith}
use Rattle.std.specs.Prelude.{IfOk, IfErr}
use Rattle.std.specs.List.{flat_map}
use Rattle.std.proofs.lemmas.List.{append-nil}
use Rattle.std.proofs.lemmas.Bool.{ne_eqb}
use Rattle.cert_kit.specs.declared.row.PRow.{PRow}
use Rattle.cert_kit.specs.declared.row.Clause.{Clause}
use Rattle.cert_kit.specs.declared.cert.Cert.{Cert}
use Rattle.cert_text.specs.declared.fail.CheckText.{CheckText}
use Rattle.cert_text.specs.declared.fail.CheckText.TheVariants.{Bad, NoMemory}
use Rattle.cert_text.specs.Text.{row_line, cert_line, check_text}
use Rattle.cert_text.specs.Check.{AreRows, IsCheck}
use Rattle.cert_text.specs.Place.{IsNoCheck, BeginsRow, IsBadAt, IsBad}
use Rattle.cert_text.specs.Reading.{row_at, rows_at, cert_line_at}
use Rattle.cert_text.specs.Whole.{whole_at, last_at, check_at, CheckGives}
use Rattle.cert_text.proofs.RowLaws.{TakesRows, no_row_at, rows_take, rows_again}
use Rattle.cert_text.proofs.CertLaws.{cert_line_takes, cert_line_again, no_cert_at, not_read}

-- ---- what is read

-- the lines of rows, and what is read after them
abbrev IsRead : List ℕ → Result (List PRow × Cert) ℕ → Type 0
IsRead bytes (Ok p) = IsCheck p.0 p.1 × (bytes ≡ check_text p.0 p.1)
IsRead bytes (Err at) = IsBadAt bytes at

empty_is : {A : Type 0} (xs : List A) → eqb (length xs) 0 ≡ true → xs ≡ []
empty_is [] e = refl
empty_is (x ∷ xs) e = absurd (let k : length (x ∷ xs) ≡ 0 = grind arith in omega arith)

not_empty : {A : Type 0} (xs : List A) → eqb (length xs) 0 ≡ false → xs ≢ []
not_empty [] e same = cc
not_empty (x ∷ xs) e same = cc

-- the place where what follows begins
place_is : (bytes front rest : List ℕ) → bytes ≡ front ++ rest → length bytes - length rest ≡ length front
place_is bytes front rest e = omega (arith, ap length e, length-append front rest)

whole_takes : (bytes : List ℕ) (rows : List PRow) (c : Cert) (rest : List ℕ) → IsCheck rows c → bytes ≡ check_text rows c ++ rest → IsRead bytes (whole_at bytes rows (c, rest))
whole_takes bytes rows c rest is text = elim (eqb (length rest) 0) as (λ b. eqb (length rest) 0 ≡ b → IsRead bytes (cond b (Ok (rows, c)) (Err (length bytes - length rest)))) [
  | true ↦ λ e. (is, text ∙ ap (λ t. check_text rows c ++ t) (empty_is rest e) ∙ append-nil (check_text rows c))
  | false ↦ λ e. inr (record { rows = rows; cert = c; rest = rest; split = text; good = is; more = not_empty rest e; place = place_is bytes (check_text rows c) rest text })
] refl

-- fewer than 2^32 rows
few_rows : (bytes : List ℕ) (read : List PRow × List ℕ) → TakesRows (2 ^ 32 - 1) bytes read → AreRows read.0
few_rows bytes read t = let few = t.few in (t.good, omega arith)

last_takes : (bytes : List ℕ) (read : List PRow × List ℕ) → TakesRows (2 ^ 32 - 1) bytes read → IsRead bytes (last_at bytes read)
last_takes bytes read t = elim (cert_line_at read.1) as (λ o. cert_line_at read.1 ≡ o → IsRead bytes (elim o [ None ↦ Err (length bytes - length read.1) | Some c ↦ whole_at bytes read.0 c ])) [
  | None ↦ λ e. inl (record {
    rows = read.0;
    rest = read.1;
    split = t.text;
    good = few_rows bytes read t;
    no_row = t.last;
    no_cert = no_cert_at read.1 e;
    place = place_is bytes (flat_map row_line read.0) read.1 t.text;
  })
  | Some c ↦ λ e.
      let k = cert_line_takes read.1 c.0 c.1 e in
      let text : bytes ≡ check_text read.0 c.0 ++ c.1 = t.text ∙ ap (λ b. flat_map row_line read.0 ++ b) k.0 ∙ sym (append_assoc (flat_map row_line read.0) (cert_line c.0) c.1) in
      whole_takes bytes read.0 c.0 c.1 (record { all_rows = few_rows bytes read t; certificate = k.1 }) text
] refl

check_takes : (bytes : List ℕ) → IsRead bytes (check_at bytes)
unfolding check_at
check_takes bytes = last_takes bytes (rows_at (2 ^ 32 - 1) bytes) (rows_take (2 ^ 32 - 1) bytes)

-- ---- reading again

-- no row's line begins as a certificate's line does
no_row : (c : Cert) (rest : List ℕ) → BeginsRow (cert_line c ++ rest) → ⊥
unfolding row_at
no_row c rest begins = no_row_at (cert_line c ++ rest) refl begins

rows_then : (rows : List PRow) (rest : List ℕ) → AreRows rows → (length rows ≡ 2 ^ 32 - 1) ⊎ (BeginsRow rest → ⊥) → rows_at (2 ^ 32 - 1) (flat_map row_line rows ++ rest) ≡ (rows, rest)
rows_then rows rest are last = rows_again (2 ^ 32 - 1) rows rest are.0 (omega (arith, are.1)) last

check_then : (rows : List PRow) (c : Cert) (rest : List ℕ) → IsCheck rows c → check_at (check_text rows c ++ rest) ≡ whole_at (check_text rows c ++ rest) rows (c, rest)
unfolding check_at
check_then rows c rest is =
    let text : check_text rows c ++ rest ≡ flat_map row_line rows ++ (cert_line c ++ rest) = append_assoc (flat_map row_line rows) (cert_line c) rest in
    let read : rows_at (2 ^ 32 - 1) (check_text rows c ++ rest) ≡ (rows, cert_line c ++ rest) = ap (rows_at (2 ^ 32 - 1)) text ∙ rows_then rows (cert_line c ++ rest) is.all_rows (inr (no_row c rest)) in
    ap (last_at (check_text rows c ++ rest)) read ∙ rw (cert_line_again c rest is.certificate, last_at) refl

pub check_again : (rows : List PRow) (c : Cert) → IsCheck rows c → check_at (check_text rows c) ≡ Ok (rows, c)
check_again rows c is =
    let none = append-nil (check_text rows c) in
    ap check_at (sym none) ∙ check_then rows c [] is

-- the place of what is no check is the one that reading gives
bad_again : (bytes : List ℕ) (at : ℕ) → IsBadAt bytes at → check_at bytes ≡ Err at
unfolding check_at
bad_again bytes at (inl h) =
    let read : rows_at (2 ^ 32 - 1) bytes ≡ (h.rows, h.rest) = ap (rows_at (2 ^ 32 - 1)) h.split ∙ rows_then h.rows h.rest h.good h.no_row in
    let place : length bytes - length h.rest ≡ at = place_is bytes (flat_map row_line h.rows) h.rest h.split ∙ sym h.place in
    let none : cert_line_at h.rest ≡ None = not_read h.rest h.no_cert in
    ap (last_at bytes) read ∙ rw (none, last_at) (ap (λ n. Err n) place)
bad_again bytes at (inr h) =
    let place : length bytes - length h.rest ≡ at = place_is bytes (check_text h.rows h.cert) h.rest h.split ∙ sym h.place in
    let goes_on : whole_at bytes h.rows (h.cert, h.rest) ≡ Err (length bytes - length h.rest) = not_whole bytes h.rows h.cert h.rest h.more in
    ap check_at h.split ∙ check_then h.rows h.cert h.rest h.good ∙ ap (λ b. whole_at b h.rows (h.cert, h.rest)) (sym h.split) ∙ goes_on ∙ ap (λ n. Err n) place
  where
    not_whole : (bytes : List ℕ) (rows : List PRow) (c : Cert) (rest : List ℕ) → rest ≢ [] → whole_at bytes rows (c, rest) ≡ Err (length bytes - length rest)
    not_whole bytes rows c [] more = absurd (more refl)
    not_whole bytes rows c (b ∷ rest) more = let some : eqb (length (b ∷ rest)) 0 ≡ false = ne_eqb (length (b ∷ rest)) 0 (λ same. omega arith) in rw some refl

-- ---- laws

pub no_check_there : (bytes : List ℕ) (at : ℕ) → IsBadAt bytes at → IsNoCheck bytes
no_check_there bytes at is_bad rows c is same =
    let read : check_at bytes ≡ Ok (rows, c) = ap check_at same ∙ check_again rows c is in
    let bad : check_at bytes ≡ Err at = bad_again bytes at is_bad in
    cc

pub same_place : (bytes : List ℕ) (m n : ℕ) → IsBadAt bytes m → IsBadAt bytes n → m ≡ n
same_place bytes m n first second =
    let a : check_at bytes ≡ Err m = bad_again bytes m first in
    let b : check_at bytes ≡ Err n = bad_again bytes n second in
    cc

ok_is : {A B : Type 0} (x y : A) (r : Result A B) → r ≡ Ok x → r ≡ Ok y → x ≡ y
ok_is x y r a b = cc

-- a text has at most one reading
pub same_reading : (rows others : List PRow) (c d : Cert) → IsCheck rows c → IsCheck others d → check_text rows c ≡ check_text others d → (rows ≡ others) × (c ≡ d)
same_reading rows others c d is is_other same =
    let both = ok_is (rows, c) (others, d) (check_at (check_text rows c)) (check_again rows c is) (ap check_at same ∙ check_again others d is_other) in
    (ap (λ (p : List PRow × Cert). p.0) both, ap (λ (p : List PRow × Cert). p.1) both)

-- ---- what a reader of the whole text gives

pub check_found : (bytes : List ℕ) (r : Result (Clause × Cert) CheckText) → CheckGives r (check_at bytes) → IfOk r (λ r. IsCheck r.0.rows r.1 × (bytes ≡ check_text r.0.rows r.1))
check_found bytes (Ok r) given = subst (IsRead bytes) given (check_takes bytes)
check_found bytes (Err e) given = tt

pub check_bad : (bytes : List ℕ) (r : Result (Clause × Cert) CheckText) → CheckGives r (check_at bytes) → IfErr r (IsBad bytes)
check_bad bytes (Ok r) given = tt
check_bad bytes (Err (Bad at)) given =
    let is_bad : IsBadAt bytes at = subst (IsRead bytes) given (check_takes bytes) in
    (no_check_there bytes at is_bad, is_bad)
check_bad bytes (Err NoMemory) given = tt

-- ---- the bytes that are left

pub rows_short : (n : ℕ) (bytes : List ℕ) → length (rows_at n bytes).1 ≤ length bytes
rows_short n bytes =
    let t = rows_take n bytes in
    omega (arith, ap length t.text, length-append (flat_map row_line (rows_at n bytes).0) (rows_at n bytes).1)

pub line_short : (bytes : List ℕ) (c : Cert) (rest : List ℕ) → cert_line_at bytes ≡ Some (c, rest) → length rest ≤ length bytes
line_short bytes c rest read =
    let t = cert_line_takes bytes c rest read in
    omega (arith, ap length t.0, length-append (cert_line c) rest)
