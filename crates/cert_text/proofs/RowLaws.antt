-- A row that is read is spelled so, and a row that is spelled so is read.
use Rattle.std.proofs.Common.{◌≡◌, ℕ, zero, suc, ◌^◌, ◌<◌, ◌≤◌, true, ◌⊎◌, inl, inr, List, [], ◌∷◌, ◌++◌, length, Some, None, refl, sym, ap, subst, ◌∙◌, append_assoc, arith}
use Rattle.std.specs.Prelude.{unsigned_abs, codes}
use Rattle.std.specs.List.{flat_map, AllByRecursion}
use Rattle.std.proofs.lemmas.Option.{same_Some}
use Rattle.mm_num.specs.Option.{◌>>=◌}
use Rattle.mm_num.proofs.OptionLaws.{bind_some, choice_some}
use Rattle.mm_poly.specs.declared.term.Term.{Term}
use Rattle.mm_poly.specs.Poly.{Fits, IsPoly, AllMono, HasPlaces, norm, degree}
use Rattle.cert_kit.specs.declared.row.Op.{Op}
use Rattle.cert_kit.specs.declared.row.Op.TheVariants.{Ge, Eq}
use Rattle.cert_kit.specs.declared.row.PRow.{PRow}
use Rattle.cert_text.specs.Text.{first_sign, term_text, more_terms, poly_text, op_text, row_text, row_line}
use Rattle.cert_text.specs.Check.{IsRow}
use Rattle.mm_poly.specs.Tests.{is_polynomial}
use Rattle.cert_text.specs.Place.{BeginsRow}
use Rattle.cert_text.specs.Reading.{after, first_sign_at, next_sign_at, next_term_at, more_terms_at, terms_at, fitting, poly_at, op_at, row_at, with_row, rows_at}
use Rattle.cert_text.proofs.WordLaws.{guard_some, after_takes}
use Rattle.mm_poly.proofs.TestLaws.{fits_given, fits_from}
use Rattle.cert_text.proofs.ManyLaws.{many_take, many_again, many_follow}
use Rattle.cert_text.proofs.MonoLaws.{ends_term}
use Rattle.cert_text.proofs.TermLaws.{IsGood, TermEnds, first_text, next_text, first_takes, next_taken, first_again, first_not_zero, next_read, more_terms-flat}

-- the terms of a polynomial can stand in a text where they do one by one
good_from_terms : (ts : List Term) → AllMono ts → HasPlaces (2 ^ 32) ts → IsPoly ts → norm ts < 2 ^ 126 → degree ts ≤ 255 → AllByRecursion IsGood ts
good_from_terms [] monos room order small flat = tt
good_from_terms (t ∷ ts) monos room order small flat = (
  record { not_zero = order.0; small = omega arith; written = record { order = monos.0; degree = omega arith; room = room.0 } },
  good_from_terms ts monos.1 room.1 order.2 (omega arith) (omega arith),
)

poly_text-cons : (t : Term) (ts : List Term) (rest : List ℕ) → poly_text (t ∷ ts) ++ rest ≡ first_text t ++ (flat_map next_text ts ++ rest)
poly_text-cons t ts rest =
    let sign = first_sign t.coeff in
    let term = term_text (unsigned_abs t.coeff) t.mono in
    ap (λ b. b ++ rest) (sym (append_assoc sign term (more_terms ts))) ∙ append_assoc (sign ++ term) (more_terms ts) rest ∙ ap (λ b. (sign ++ term) ++ (b ++ rest)) (more_terms-flat ts)

-- what is read of a polynomial
pub record TakesPoly (bytes : List ℕ) (ts : List Term) (rest : List ℕ) : Type 0 where
  pub text : bytes ≡ poly_text ts ++ rest
  pub fits : Fits ts

no_terms_fit : Fits []
no_terms_fit = record { order = tt; monos = tt; room = tt; norm = omega arith; spread = omega arith; degree = omega arith }

terms_take : (bytes : List ℕ) (ts : List Term) (rest : List ℕ) → terms_at bytes ≡ Some (ts, rest) → Fits ts → TakesPoly bytes ts rest
unfolding terms_at
terms_take bytes ts rest e =
    let a = bind_some (next_term_at (first_sign_at bytes)) (λ first. more_terms_at 65536 first.1 >>= λ others. Some (first.0 ∷ others.0, others.1)) (ts, rest) e in
    let b = bind_some (more_terms_at 65536 a.0.1) (λ others. Some (a.0.0 ∷ others.0, others.1)) (ts, rest) a.2 in
    let first = first_takes bytes a.0.0 a.0.1 a.1 in
    let others = many_take next_sign_at next_term_at next_text IsGood next_taken 65536 a.0.1 b.0.0 b.0.1 b.1 in
    let text : bytes ≡ poly_text (a.0.0 ∷ b.0.0) ++ b.0.1 = first.0 ∙ ap (λ t. first_text a.0.0 ++ t) others.0 ∙ sym (poly_text-cons a.0.0 b.0.0 b.0.1) in
    subst (λ (p : List Term × List ℕ). Fits p.0 → TakesPoly bytes p.0 p.1) (same_Some (a.0.0 ∷ b.0.0, b.0.1) (ts, rest) b.2)
    (λ fits. record { text = text; fits = fits })

pub poly_takes : (bytes : List ℕ) (ts : List Term) (rest : List ℕ) → poly_at bytes ≡ Some (ts, rest) → TakesPoly bytes ts rest
unfolding poly_at
poly_takes bytes ts rest e =
    elim (choice_some (after (codes "0") bytes) (λ r. Some ([], r)) (terms_at bytes >>= λ terms. fitting terms.0 >>= λ p. Some (p, terms.1)) (ts, rest) e) [
      | inl h ↦
          subst (λ (p : List Term × List ℕ). TakesPoly bytes p.0 p.1) (same_Some ([], h.0) (ts, rest) h.2)
          (record { text = after_takes (codes "0") bytes h.0 h.1; fits = no_terms_fit })
      | inr h ↦
          let a = bind_some (terms_at bytes) (λ terms. fitting terms.0 >>= λ p. Some (p, terms.1)) (ts, rest) h.1 in
          let b = bind_some (fitting a.0.0) (λ p. Some (p, a.0.1)) (ts, rest) a.2 in
          let g = guard_some (is_polynomial a.0.0) (Some a.0.0) b.0 b.1 in
          let same : a.0.0 ≡ b.0 = same_Some a.0.0 b.0 g.1 in
          subst (λ (p : List Term × List ℕ). TakesPoly bytes p.0 p.1) (ap (λ p. (p, a.0.1)) same ∙ same_Some (b.0, a.0.1) (ts, rest) b.2) (terms_take bytes a.0.0 a.0.1 a.1 (fits_given a.0.0 g.0))
    ]

op_takes : (bytes : List ℕ) (o : Op) (rest : List ℕ) → op_at bytes ≡ Some (o, rest) → bytes ≡ op_text o ++ 10 ∷ rest
unfolding op_at
op_takes bytes o rest e =
    elim (choice_some (after (codes " >= 0" ++ 10 ∷ []) bytes) (λ r. Some (Ge, r)) (elim (after (codes " = 0" ++ 10 ∷ []) bytes) [ Some r ↦ Some (Eq, r) | None ↦ None ]) (o, rest) e) [
      | inl h ↦ subst (λ (p : Op × List ℕ). bytes ≡ op_text p.0 ++ 10 ∷ p.1) (same_Some (Ge, h.0) (o, rest) h.2) (after_takes (codes " >= 0" ++ 10 ∷ []) bytes h.0 h.1)
      | inr h ↦ elim (choice_some (after (codes " = 0" ++ 10 ∷ []) bytes) (λ r. Some (Eq, r)) None (o, rest) h.1) [
        | inl k ↦ subst (λ (p : Op × List ℕ). bytes ≡ op_text p.0 ++ 10 ∷ p.1) (same_Some (Eq, k.0) (o, rest) k.2) (after_takes (codes " = 0" ++ 10 ∷ []) bytes k.0 k.1)
        | inr k ↦ absurd (let e = k.1 in cc)
      ]
    ]

row_line_text : (r : PRow) (rest : List ℕ) → row_line r ++ rest ≡ codes "row " ++ (poly_text r.poly ++ (op_text r.op ++ 10 ∷ rest))
row_line_text r rest =
    ap (λ b. codes "row " ++ b) (append_assoc (row_text r) (10 ∷ []) rest ∙ append_assoc (poly_text r.poly) (op_text r.op) (10 ∷ rest))

pub row_takes : (bytes : List ℕ) (r : PRow) (rest : List ℕ) → row_at bytes ≡ Some (r, rest) → (bytes ≡ row_line r ++ rest) × IsRow r
unfolding row_at
row_takes bytes r rest e =
    let w = bind_some (after (codes "row ") bytes) (λ line. poly_at line >>= λ p. op_at p.1 >>= λ o. Some (record { poly = p.0; op = o.0 }, o.1)) (r, rest) e in
    let a = bind_some (poly_at w.0) (λ p. op_at p.1 >>= λ o. Some (record { poly = p.0; op = o.0 }, o.1)) (r, rest) w.2 in
    let b = bind_some (op_at a.0.1) (λ o. Some (record { poly = a.0.0; op = o.0 }, o.1)) (r, rest) a.2 in
    let p = poly_takes w.0 a.0.0 a.0.1 a.1 in
    let fits = p.fits in
    let made : PRow = record { poly = a.0.0; op = b.0.0 } in
    let text : bytes ≡ row_line made ++ b.0.1 =
    after_takes (codes "row ") bytes w.0 w.1 ∙ ap (λ t. codes "row " ++ t) (p.text ∙ ap (λ t. poly_text a.0.0 ++ t) (op_takes a.0.1 b.0.0 b.0.1 b.1)) ∙ sym (row_line_text made b.0.1) in
    subst (λ (q : PRow × List ℕ). (bytes ≡ row_line q.0 ++ q.1) × IsRow q.0) (same_Some (made, b.0.1) (r, rest) b.2) (text, record { fits = fits })

-- ---- reading again

terms_again : (t : Term) (ts : List Term) (rest : List ℕ) → AllByRecursion IsGood (t ∷ ts) → length ts ≤ 65536 → TermEnds rest → next_sign_at rest ≡ None → terms_at (poly_text (t ∷ ts) ++ rest) ≡ Some (t ∷ ts, rest)
unfolding terms_at
terms_again t ts rest good few ends no_sign =
    let more = flat_map next_text ts ++ rest in
    let others : more_terms_at 65536 more ≡ Some (ts, rest) = many_again next_sign_at next_term_at next_text IsGood TermEnds next_read 65536 ts rest few good.1 ends no_sign in
    let first : next_term_at (first_sign_at (first_text t ++ more)) ≡ Some (t, more) = first_again t more good.0 (many_follow next_sign_at next_term_at next_text IsGood TermEnds next_read ts rest good.1 ends) in
    ap terms_at (poly_text-cons t ts rest) ∙ rw first (rw others refl)

pub poly_again : (ts : List Term) (rest : List ℕ) → Fits ts → ends_term rest ≡ true → next_sign_at rest ≡ None → poly_at (poly_text ts ++ rest) ≡ Some (ts, rest)
unfolding poly_at
poly_again [] rest fits ends no_sign = refl
poly_again (t ∷ ts) rest fits ends no_sign =
    let spread_is = fits.spread in
    let good = good_from_terms (t ∷ ts) fits.monos fits.room fits.order fits.norm fits.degree in
    let few : length ts ≤ 65536 = omega arith in
    let plain : after (codes "0") (poly_text (t ∷ ts) ++ rest) ≡ None = ap (after (codes "0")) (poly_text-cons t ts rest) ∙ first_not_zero t (flat_map next_text ts ++ rest) good.0 in
    let read : terms_at (poly_text (t ∷ ts) ++ rest) ≡ Some (t ∷ ts, rest) = terms_again t ts rest good few ends no_sign in
    let fitted : is_polynomial (t ∷ ts) ≡ true = fits_from (t ∷ ts) fits in
    rw (plain, poly_at) (rw read (rw fitted refl))

op_again : (o : Op) (rest : List ℕ) → op_at (op_text o ++ 10 ∷ rest) ≡ Some (o, rest)
unfolding op_at
op_again Ge rest = refl
op_again Eq rest = refl

op_ends : (o : Op) (rest : List ℕ) → (ends_term (op_text o ++ 10 ∷ rest) ≡ true) × (next_sign_at (op_text o ++ 10 ∷ rest) ≡ None)
op_ends Ge rest = (refl, refl)
op_ends Eq rest = (refl, refl)

pub row_again : (r : PRow) (rest : List ℕ) → IsRow r → row_at (row_line r ++ rest) ≡ Some (r, rest)
unfolding row_at
row_again r rest is =
    let ends = op_ends r.op rest in
    let p = poly_again r.poly (op_text r.op ++ 10 ∷ rest) is.fits ends.0 ends.1 in
    ap row_at (row_line_text r rest) ∙ rw p (rw (op_again r.op rest) refl)

-- ---- lines of rows

-- no row's line is read where none stands, and none stands where none is read
pub no_row_at : (bytes : List ℕ) → row_at bytes ≡ None → BeginsRow bytes → ⊥
no_row_at bytes none (r, rest, is, text) =
    let read : row_at bytes ≡ Some (r, rest) = ap row_at text ∙ row_again r rest is in
    cc

not_read : (bytes : List ℕ) → (BeginsRow bytes → ⊥) → row_at bytes ≡ None
not_read bytes other = elim (row_at bytes) as (λ o. row_at bytes ≡ o → o ≡ None) [
  | None ↦ λ e. refl
  | Some x ↦ λ e. absurd (let t = row_takes bytes x.0 x.1 e in other (x.0, x.1, t.1, t.0))
] refl

-- the lines of rows at the front of the bytes, at most n
pub record TakesRows (n : ℕ) (bytes : List ℕ) (read : List PRow × List ℕ) : Type 0 where
  pub text : bytes ≡ flat_map row_line read.0 ++ read.1
  pub good : AllByRecursion IsRow read.0
  pub few : length read.0 ≤ n
  pub last : (length read.0 ≡ n) ⊎ (BeginsRow read.1 → ⊥)

more_rows : (n : ℕ) (bytes more : List ℕ) (r : PRow) (read : List PRow × List ℕ) → (bytes ≡ row_line r ++ more) × IsRow r → TakesRows n more read → TakesRows (suc n) bytes (with_row r read)
more_rows n bytes more r read first others =
    let few = others.few in
    record {
      text = first.0 ∙ ap (λ t. row_line r ++ t) others.text ∙ sym (append_assoc (row_line r) (flat_map row_line read.0) read.1);
      good = (first.1, others.good);
      few = omega arith;
      last = elim (others.last) [ inl full ↦ inl (ap suc full) | inr ends ↦ inr ends ];
    }

pub rows_take : (n : ℕ) (bytes : List ℕ) → TakesRows n bytes (rows_at n bytes)
unfolding rows_at
rows_take zero bytes = record { text = refl; good = tt; few = omega arith; last = inl refl }
rows_take (suc n) bytes = elim (row_at bytes) as (λ o. row_at bytes ≡ o → TakesRows (suc n) bytes (elim o [ None ↦ ([], bytes) | Some r ↦ with_row r.0 (rows_at n r.1) ])) [
  | None ↦ λ e. record { text = refl; good = tt; few = omega arith; last = inr (no_row_at bytes e) }
  | Some x ↦ λ e. more_rows n bytes x.1 x.0 (rows_at n x.1) (row_takes bytes x.0 x.1 e) (rows_take n x.1)
] refl

pub rows_again : (n : ℕ) (rows : List PRow) (rest : List ℕ) → AllByRecursion IsRow rows → length rows ≤ n → (length rows ≡ n) ⊎ (BeginsRow rest → ⊥) → rows_at n (flat_map row_line rows ++ rest) ≡ (rows, rest)
unfolding rows_at
rows_again zero [] rest good few last = refl
rows_again zero (r ∷ rows) rest good few last = absurd (omega arith)
rows_again (suc n) [] rest good few (inl full) = absurd (omega arith)
rows_again (suc n) [] rest good few (inr ends) = rw (not_read rest ends, rows_at) refl
rows_again (suc n) (r ∷ rows) rest good few last =
    let first = row_again r (flat_map row_line rows ++ rest) good.0 in
    let ends : (length rows ≡ n) ⊎ (BeginsRow rest → ⊥) = elim last as (λ _. (length rows ≡ n) ⊎ (BeginsRow rest → ⊥)) [ inl full ↦ inl (omega arith) | inr other ↦ inr other ] in
    let others = rows_again n rows rest good.1 (omega arith) ends in
    ap (rows_at (suc n)) (append_assoc (row_line r) (flat_map row_line rows) rest) ∙ rw (first, rows_at) (ap (with_row r) others)
