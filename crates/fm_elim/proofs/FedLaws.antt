-- From the rows that were to come to those that are still to come.
use Rattle.std.specs.Prelude.{◌≡◌, ℕ, List, [], ◌∷◌, ◌++◌, map, Bool, true, false, Result, Err}
use Rattle.std.proofs.Common.{sym, subst, append_assoc, append-nil}
use Rattle.mm_poly.specs.declared.term.Term.{Term}
use Rattle.cert_kit.specs.declared.row.PRow.{PRow}
use Rattle.fm_elim.specs.declared.kept.Kept.{Kept}
use Rattle.fm_elim.specs.Tidy.{End, Contra}
use Rattle.fm_elim.specs.machine.Tidying.{Stands, Feeds, IsTidying, Goes, then_tidied}
use Rattle.fm_elim.specs.Steps.{substituted, solve_has_room, solved}
use Rattle.fm_elim.proofs.GoingLaws.{begin, found as was_found, taken}

-- with the first rows to come before, the second are to come now
abbrev pub Toward : Kept → Kept → List PRow → List PRow → Type 0
Toward before now all left = (answer : Result (List PRow) End) (rest : List PRow) → IsTidying answer before (all ++ rest) → IsTidying answer now (left ++ rest)

pub toward_step : (a b d : Kept) (all left : List PRow) (r : PRow) → Toward a b all (r ∷ left) → Feeds false b d (r ∷ []) → Toward a d all left
toward_step a b d all left r w f answer rest t = taken answer b d r (left ++ rest) f (w answer rest t)

pub toward_found : (a b d : Kept) (all left : List PRow) (r : PRow) → Toward a b all (r ∷ left) → Feeds true b d (r ∷ []) → Goes true a d all
toward_found a b d all left r w f = λ answer rest t. was_found answer b d r (left ++ rest) f (w answer rest t)

-- a step on the rest that is still to come

pub rest_taken : (answer : Result (List PRow) End) (a b : Kept) (found : Bool) (r : PRow) (rest : List PRow) → found ≡ false → Feeds found a b (r ∷ []) → IsTidying answer a (r ∷ rest) → IsTidying answer b rest
rest_taken answer a b true r rest e f t = absurd cc
rest_taken answer a b false r rest e f t = taken answer a b r rest f t

pub rest_found : (answer : Result (List PRow) End) (a b : Kept) (found : Bool) (r : PRow) (rest : List PRow) → found ≡ true → Feeds found a b (r ∷ []) → IsTidying answer a (r ∷ rest) → answer ≡ Err Contra
rest_found answer a b true r rest e f t = was_found answer a b r rest f t
rest_found answer a b false r rest e f t = absurd cc

-- several rows

pub goes_found : (answer : Result (List PRow) End) (a b : Kept) (found : Bool) (rows rest : List PRow) → found ≡ true → Goes found a b rows → IsTidying answer a (rows ++ rest) → answer ≡ Err Contra
goes_found answer a b true rows rest e g t = g answer rest t
goes_found answer a b false rows rest e g t = absurd cc

pub goes_taken : (answer : Result (List PRow) End) (a b : Kept) (found : Bool) (rows rest : List PRow) → found ≡ false → Goes found a b rows → IsTidying answer a (rows ++ rest) → IsTidying answer b rest
goes_taken answer a b true rows rest e g t = absurd cc
goes_taken answer a b false rows rest e g t = g answer rest t

pub toward_goes : (a b d : Kept) (all rows left : List PRow) (found : Bool) → Toward a b all (rows ++ left) → found ≡ true → Goes found b d rows → Goes true a d all
toward_goes a b d all rows left found w e g = λ answer rest t.
    goes_found answer b d found rows (left ++ rest) e g (subst (IsTidying answer b) (append_assoc rows left rest) (w answer rest t))

pub toward_next : (a b d : Kept) (all left : List PRow) (r : PRow) (found : Bool) → Toward a b all (r ∷ left) → found ≡ false → Feeds found b d (r ∷ []) → Toward a d all left
toward_next a b d all left r true w e f = absurd cc
toward_next a b d all left r false w e f = toward_step a b d all left r w f

pub toward_more : (a b d : Kept) (all rows left : List PRow) (found : Bool) → Toward a b all (rows ++ left) → found ≡ false → Goes found b d rows → Toward a d all left
toward_more a b d all rows left found w e g = λ answer rest t.
    goes_taken answer b d found rows (left ++ rest) e g (subst (IsTidying answer b) (append_assoc rows left rest) (w answer rest t))

-- two rows
pub goes_two : (a b d : Kept) (before found : Bool) (r s : PRow) → before ≡ false → Feeds before a b (r ∷ []) → Feeds found b d (s ∷ []) → Goes found a d (r ∷ s ∷ [])
goes_two a b d true found r s e f g = absurd cc
goes_two a b d false true r s e f g = λ answer rest t. was_found answer b d s rest g (taken answer a b r (s ∷ rest) f t)
goes_two a b d false false r s e f g = λ answer rest t. taken answer b d s rest g (taken answer a b r (s ∷ rest) f t)

pub with_none : (answer : Result (List PRow) End) (a : Kept) (rows : List PRow) → IsTidying answer a rows → IsTidying answer a (rows ++ [])
with_none answer a rows t = subst (IsTidying answer a) (sym (append-nil rows)) t

-- the rows after a step by an equality
pub solve_begin : (u : List (ℕ × ℕ)) (p : List Term) (rows : List PRow) (kept : Kept) → solve_has_room u p rows ≡ true → Stands kept.is_over kept.rows.items []
    → IsTidying (then_tidied (solved u p rows)) kept (map (substituted u p) rows)
solve_begin u p rows kept e s = rw e (begin kept (map (substituted u p) rows) s)

-- the first of two rows
pub goes_first : (a b : Kept) (found : Bool) (r s : PRow) → found ≡ true → Feeds found a b (r ∷ []) → Goes true a b (r ∷ s ∷ [])
goes_first a b true r s e f = λ answer rest t. was_found answer a b r (s ∷ rest) f t
goes_first a b false r s e f = absurd cc
