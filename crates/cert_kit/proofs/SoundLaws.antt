-- No integer point solves rows over which the rules accept a certificate.
use Rattle.std.specs.Prelude.{◌≡◌, ℕ, ◌-◌, ℤ, pos, ◌+ℤ◌, ◌≤ℤ◌, ◌<ℤ◌, List, [], ◌∷◌, length, map, Bool, true, false, ◌==◌, refl, Option, Some, None, slice_get}
use Rattle.std.proofs.Common.{ap, sym, ◌∙◌, subst, arith}
use Rattle.std.proofs.lemmas.Int.{ints, by_lt_z}
use Rattle.std.proofs.lemmas.List.{length-map}
use Rattle.std.specs.Option.{option_map_or}
use Rattle.std.proofs.lemmas.Option.{same_Some}
use Rattle.std.proofs.lemmas.Bool.{and_parts}
use Rattle.mm_num.proofs.OptionLaws.{bind_some}
use Rattle.mm_poly.specs.declared.term.Term.{Term}
use Rattle.mm_poly.specs.Poly.{value, without_constant, constant_part}
use Rattle.mm_poly.proofs.CutLaws.{value_parts}
use Rattle.cert_kit.specs.declared.row.Op.{Op}
use Rattle.cert_kit.specs.declared.row.Op.TheVariants.{Ge, Eq}
use Rattle.cert_kit.specs.declared.row.PRow.{PRow}
use Rattle.cert_kit.specs.declared.cert.Psatz.{Psatz}
use Rattle.cert_kit.specs.declared.cert.Step.{Step}
use Rattle.cert_kit.specs.declared.cert.Step.TheVariants.{Rat, Cut}
use Rattle.cert_kit.specs.declared.cert.Cert.{Cert}
use Rattle.cert_kit.specs.declared.cert.Close.{Close}
use Rattle.cert_kit.specs.declared.cert.Close.TheOpen.{Close-F, Cert-F}
use Rattle.cert_kit.specs.declared.cert.Close.TheViews.{roll-Close, roll-Cert}
use Rattle.cert_kit.specs.declared.cert.Close.TheFolds.{map-Close, map-Cert, fold-Close, fold-roll-Cert, fold-roll-Close, ind-Cert}
use Rattle.cert_kit.specs.Row.{Compares, Holds, Solves, HasNoSolution, has_no_terms, is_false}
use Rattle.cert_kit.specs.Cut.{cut_of}
use Rattle.cert_kit.specs.Meaning.{meaning, at_least_0}
use Rattle.cert_kit.specs.Acceptance.{with_row, step_row, rows_after, ends_false, below_0, Range, range_by, values_of, value_row, Accepting, all_accept, accepts_range, enum_range, accepting_close, accepting_cert, accepts}
use Rattle.cert_kit.proofs.RowLaws.{false_constant}
use Rattle.cert_kit.proofs.MeaningLaws.{row_holds, meaning_holds}
use Rattle.cert_kit.proofs.RangeLaws.{IsIn, in_between, count_reaches, value_row_holds, below_holds}
use Rattle.cert_kit.proofs.CutLaws.{cut_holds, cut_of_least}
use Rattle.mm_num.proofs.TestLaws.{is_number}

-- one more row that holds
pub solves_more : (x : ℕ → ℤ) (rows : List PRow) (r : PRow) → Solves x rows → Holds x r → Solves x (with_row rows r)
solves_more x [] r s h = (h, tt)
solves_more x (q ∷ rows) r s h = (s.0, solves_more x rows r s.1 h)

step_holds : (x : ℕ → ℤ) (s : Step) (rows : List PRow) (r : PRow) → Solves x rows → step_row s rows ≡ Some r → Holds x r
step_holds x (Rat e) rows r h p = meaning_holds e rows x r h p
step_holds x (Cut e) rows r h p =
    let b = bind_some (meaning e rows) _ r p in
    subst (λ (k : PRow). Holds x k) (same_Some _ r b.2) (cut_holds x b.0 (meaning_holds e rows x b.0 h b.1))

-- the rows after the steps hold wherever the rows do
pub steps_hold : (x : ℕ → ℤ) (steps : List Step) (rows after : List PRow) → Solves x rows → rows_after steps rows ≡ Some after → Solves x after
steps_hold x [] rows after h p = subst (Solves x) (same_Some rows after p) h
steps_hold x (s ∷ steps) rows after h p =
    let b = bind_some (step_row s rows) _ after p in
    steps_hold x steps (with_row rows b.0) after (solves_more x rows b.0 h (step_holds x s rows b.0 h b.1)) b.2

no_terms : (x : ℕ → ℤ) (ts : List Term) → has_no_terms ts ≡ true → value x ts ≡ pos 0
no_terms x [] h = refl
no_terms x (t ∷ ts) h = absurd (cc)

-- a false constant row holds nowhere
pub false_holds : (x : ℕ → ℤ) (r : PRow) → is_false r ≡ true → Holds x r → ⊥
false_holds x r h k =
    let b = and_parts _ _ h in
    let e : value x r.poly ≡ constant_part r.poly =
    value_parts x r.poly ∙ ap (λ n. n +ℤ constant_part r.poly) (no_terms x (without_constant r.poly) b.0) ∙ zero_sum _ in
    false_constant r.op (constant_part r.poly) b.1 (subst (Compares r.op) e k)
  where
    zero_sum : (n : ℤ) → pos 0 +ℤ n ≡ n
    zero_sum n = omega (arith, ints)

-- a map-or that is true comes of a value
pub map_or_true : {A : Type 0} (f : A → Bool) (o : Option A) → option_map_or f o false ≡ true → (y : A) × (o ≡ Some y) × (f y ≡ true)
map_or_true f None h = absurd (cc)
map_or_true f (Some y) h = (y, refl, h)

done_sound : (rows : List PRow) → ends_false rows ≡ true → HasNoSolution rows
done_sound rows h x s =
    let b = map_or_true is_false (slice_get rows (length rows - 1)) h in
    false_holds x b.0 b.2 (row_holds x rows (length rows - 1) b.0 s b.1)

abbrev pub IsSoundCert : Cert → Type 0
IsSoundCert c = (rows : List PRow) → accepts c rows ≡ true → HasNoSolution rows

abbrev accepts_close : Close → Accepting
accepts_close = fold-Close Accepting Accepting accepting_close accepting_cert

abbrev pub IsSoundClose : Close → Type 0
IsSoundClose c = (rows : List PRow) → accepts_close c rows ≡ true → HasNoSolution rows

abbrev SoundCert : Type 0
SoundCert = (c : Cert) × IsSoundCert c

abbrev SoundClose : Type 0
SoundClose = (c : Close) × IsSoundClose c

split_sound : (rows : List PRow) (p : List Term) → HasNoSolution (with_row rows (at_least_0 p)) → HasNoSolution (with_row rows (at_least_0 (below_0 p)))
    → HasNoSolution rows
split_sound rows p a b x s = by_lt_z (value x p) (pos 0)
    (λ h. b x (solves_more x rows (at_least_0 (below_0 p)) s (below_holds x p h)))
    (λ h. a x (solves_more x rows (at_least_0 p) s h))

members_sound : (cs : List SoundCert) (q : List Term) (v : ℤ) (rows : List PRow) (x : ℕ → ℤ)
    → all_accept q v (map accepts (map (λ c. c.0) cs)) rows ≡ true → Solves x rows → v ≤ℤ value x q → value x q <ℤ (v +ℤ pos (length cs)) → ⊥
members_sound [] q v rows x h s low high = omega (arith, ints)
members_sound (c ∷ cs) q v rows x h s low high =
    let b = and_parts _ _ h in
    by_lt_z v (value x q)
    (λ l. members_sound cs q (v +ℤ pos 1) rows x b.1 s (omega (arith, ints)) (omega (arith, ints)))
    (λ l. c.1 (with_row rows (value_row q v)) b.0 x (solves_more x rows (value_row q v) s (value_row_holds x q v (omega (arith, ints)))))

-- what an inequality's cut is at least
cut_least : (x : ℕ → ℤ) (r : PRow) → r.op ≡ Ge → Holds x r → pos 0 ≤ℤ value x (cut_of r).poly
cut_least x r e h = subst (λ o. Compares o (value x (cut_of r).poly)) (cut_of_least r e) (cut_holds x r h)

in_range : (x : ℕ → ℤ) (o o' : Op) (r s : PRow) (found : Range) → Holds x r → Holds x s
    → r.op ≡ o → s.op ≡ o' → range_by o o' r s ≡ Some found → IsIn (value x found.poly) found
in_range x Ge Ge r s found h k p q e = in_between x (cut_of r).poly (cut_of s).poly found (cut_least x r p h) (cut_least x s q k) e
in_range x Ge Eq r s found h k p q e = absurd (cc)
in_range x Eq o r s found h k p q e = absurd (cc)

enum_sound : (e f : Psatz) (cs : List SoundCert) (rows : List PRow)
    → option_map_or (accepts_range (map accepts (map (λ c. c.0) cs)) rows) (enum_range e f rows) false ≡ true → HasNoSolution rows
enum_sound e f cs rows h x s =
    let b = map_or_true (accepts_range (map accepts (map (λ c. c.0) cs)) rows) (enum_range e f rows) h in
    let m = bind_some (meaning e rows) _ b.0 b.1 in
    let n = bind_some (meaning f rows) _ b.0 m.2 in
    let t = and_parts _ _ b.2 in
    let within : IsIn (value x b.0.poly) b.0 =
    in_range x m.0.op n.0.op m.0 n.0 b.0 (meaning_holds e rows x m.0 s m.1) (meaning_holds f rows x n.0 s n.1) refl refl n.2 in
    let count : length cs ≡ values_of b.0 =
    sym (length-map (map (λ c. c.0) cs) accepts ∙ length-map cs (λ c. c.0)) ∙ is_number _ _ t.0 in
    members_sound cs b.0.poly b.0.low rows x t.1 s within.least
    (subst (λ (k : ℕ). value x b.0.poly <ℤ (b.0.low +ℤ pos k)) (sym count) (count_reaches b.0 (value x b.0.poly) within))

level_close : (y : Close-F SoundClose SoundCert) (rows : List PRow)
    → accepting_close (map-Close Close Cert Accepting Accepting accepts_close accepts (map-Close SoundClose SoundCert Close Cert (λ c. c.0) (λ c. c.0) y)) rows ≡ true
    → HasNoSolution rows
level_close Close-F.Done rows h = done_sound rows h
level_close (Close-F.Split p c d) rows h =
    let b = and_parts _ _ h in
    split_sound rows p (c.1 (with_row rows (at_least_0 p)) b.0) (d.1 (with_row rows (at_least_0 (below_0 p))) b.1)
level_close (Close-F.Enum b cs) rows h = enum_sound b.lower b.upper cs rows h

level_cert : (y : Cert-F SoundClose SoundCert) (rows : List PRow)
    → accepting_cert (map-Cert Close Cert Accepting Accepting accepts_close accepts (map-Cert SoundClose SoundCert Close Cert (λ c. c.0) (λ c. c.0) y)) rows ≡ true
    → HasNoSolution rows
level_cert y rows h x s =
    let b = map_or_true (accepts_close y.close.0) (rows_after y.steps rows) h in
    y.close.1 b.0 b.2 x (steps_hold x y.steps rows b.0 s b.1)

-- the law of soundness
pub accepted_sound : (c : Cert) → IsSoundCert c
accepted_sound = ind-Cert IsSoundClose IsSoundCert
    (λ d y q. subst (λ (z : Close-F Close Cert). IsSoundClose (roll-Close z)) q (close_step y))
    (λ d y q. subst (λ (z : Cert-F Close Cert). IsSoundCert (roll-Cert z)) q (cert_step y))
  where
    close_step : (y : Close-F SoundClose SoundCert) → IsSoundClose (roll-Close (map-Close SoundClose SoundCert Close Cert (λ c. c.0) (λ c. c.0) y))
    close_step y rows h = level_close y rows
        (sym (ap (λ f. f rows) (fold-roll-Close Accepting Accepting accepting_close accepting_cert (map-Close SoundClose SoundCert Close Cert (λ c. c.0) (λ c. c.0) y))) ∙ h)

    cert_step : (y : Cert-F SoundClose SoundCert) → IsSoundCert (roll-Cert (map-Cert SoundClose SoundCert Close Cert (λ c. c.0) (λ c. c.0) y))
    cert_step y rows h = level_cert y rows
        (sym (ap (λ f. f rows) (fold-roll-Cert Accepting Accepting accepting_close accepting_cert (map-Cert SoundClose SoundCert Close Cert (λ c. c.0) (λ c. c.0) y))) ∙ h)
