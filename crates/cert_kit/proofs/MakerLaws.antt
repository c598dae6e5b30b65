-- How good certificates are put and_from.
use Rattle.std.specs.Prelude.{◌≡◌, ◌-◌, ℤ, pos, ◌+ℤ◌, List, [], ◌∷◌, ◌++◌, length, map, true, false, ◌&&◌, ◌==◌, refl, Option, Some, None, slice_get}
use Rattle.std.proofs.Common.{ap, sym, ◌∙◌, subst, arith, eq-eqb, length-append}
use Rattle.std.proofs.lemmas.List.{length-map}
use Rattle.std.proofs.lemmas.Bool.{and_parts, and_from}
use Rattle.std.specs.Option.{option_map_or}
use Rattle.std.proofs.lemmas.Option.{same_Some}
use Rattle.mm_num.proofs.OptionLaws.{bind_some}
use Rattle.mm_poly.specs.declared.term.Term.{Term}
use Rattle.cert_kit.specs.declared.row.PRow.{PRow}
use Rattle.cert_kit.specs.declared.cert.Psatz.{Psatz}
use Rattle.cert_kit.specs.declared.cert.Step.{Step}
use Rattle.cert_kit.specs.declared.cert.Step.TheVariants.{Rat, Cut}
use Rattle.cert_kit.specs.declared.cert.Cert.{Cert}
use Rattle.cert_kit.specs.declared.cert.Close.{Close}
use Rattle.cert_kit.specs.declared.cert.Close.TheOpen.{Close-F, Cert-F}
use Rattle.cert_kit.specs.declared.cert.Close.TheViews.{roll-Close}
use Rattle.cert_kit.specs.declared.cert.Close.TheVariants.{Done, Split, Enum, rolls-Done, rolls-Split, rolls-Enum}
use Rattle.cert_kit.specs.declared.cert.Close.TheFolds.{map-Close, fold-Close, fold-Cert, fold-roll-Close, fold_out-Cert}
use Rattle.cert_kit.specs.Row.{is_false}
use Rattle.cert_kit.specs.Cut.{cut_of}
use Rattle.cert_kit.specs.Meaning.{meaning, measure, own_bounds, are_within, at_least_0}
use Rattle.cert_kit.specs.Acceptance.{with_row, step_row, rows_after, ends_false, below_0, below_bounds, Range, range_of, values_of, value_row, Accepting, all_accept, accepts_range, enum_range, accepting_close, accepting_cert, accepts, step_within, steps_within, all_within, within_close, within_cert, is_within, IsGood}
use Rattle.cert_kit.specs.Making.{ends, Makes, AreGood}

-- steps one after another

pub makes_none : (rows : List PRow) → Makes rows [] rows
makes_none rows = record { made = refl; within = refl }

-- one more step in front
pub makes_step : (rows after : List PRow) (s : Step) (steps : List Step) (r : PRow) → step_row s rows ≡ Some r → step_within s rows ≡ true
    → Makes (with_row rows r) steps after → Makes rows (s ∷ steps) after
makes_step rows after s steps r e w m = record {
  made = rw e m.made;
  within = and_from (step_within s rows) (option_map_or (λ (q : PRow). steps_within steps (with_row rows q)) (step_row s rows) true) w (rw e m.within);
}

pub makes_rat : (rows : List PRow) (e : Psatz) (r : PRow) → meaning e rows ≡ Some r → (measure e rows).within ≡ true → Makes rows (Rat e ∷ []) (with_row rows r)
makes_rat rows e r m w = makes_step rows (with_row rows r) (Rat e) [] r m w (makes_none (with_row rows r))

pub makes_cut : (rows : List PRow) (e : Psatz) (r : PRow) → meaning e rows ≡ Some r → (measure e rows).within ≡ true → Makes rows (Cut e ∷ []) (with_row rows (cut_of r))
makes_cut rows e r m w = makes_step rows (with_row rows (cut_of r)) (Cut e) [] (cut_of r) (rw m refl) w (makes_none (with_row rows (cut_of r)))

pub rows_after_both : (s t : List Step) (given rows : List PRow) → rows_after s given ≡ Some rows → rows_after (s ++ t) given ≡ rows_after t rows
rows_after_both [] t given rows e = ap (rows_after t) (same_Some given rows e)
rows_after_both (a ∷ s) t given rows e =
    let b = bind_some (step_row a given) (λ r. rows_after s (with_row given r)) rows e in
    rw b.1 (rows_after_both s t (with_row given b.0) rows b.2)

pub within_both : (s t : List Step) (given rows : List PRow) → rows_after s given ≡ Some rows → steps_within s given ≡ true → steps_within t rows ≡ true
    → steps_within (s ++ t) given ≡ true
within_both [] t given rows e w v = subst (λ (q : List PRow). steps_within t q ≡ true) (sym (same_Some given rows e)) v
within_both (a ∷ s) t given rows e w v =
    let b = bind_some (step_row a given) (λ r. rows_after s (with_row given r)) rows e in
    let p = and_parts (step_within a given) (option_map_or (λ (q : PRow). steps_within s (with_row given q)) (step_row a given) true) w in
    and_from (step_within a given) (option_map_or (λ (q : PRow). steps_within (s ++ t) (with_row given q)) (step_row a given) true) p.0
    (rw b.1 (within_both s t (with_row given b.0) rows b.2 (rest a s given b.0 b.1 p.1) v))
  where
    rest : (a : Step) (s : List Step) (given : List PRow) (r : PRow) → step_row a given ≡ Some r
        → option_map_or (λ (q : PRow). steps_within s (with_row given q)) (step_row a given) true ≡ true → steps_within s (with_row given r) ≡ true
    rest a s given r e h = subst (λ (o : Option PRow). option_map_or (λ (q : PRow). steps_within s (with_row given q)) o true ≡ true) e h

-- steps after steps
pub makes_both : (given rows after : List PRow) (s t : List Step) → Makes given s rows → Makes rows t after → Makes given (s ++ t) after
makes_both given rows after s t m n = record {
  made = rows_after_both s t given rows m.made ∙ n.made;
  within = within_both s t given rows m.made m.within n.within;
}

-- what is asked of a close

abbrev pub close_accepts : Close → Accepting
close_accepts = fold-Close Accepting Accepting accepting_close accepting_cert

abbrev pub close_is_within : Close → Accepting
close_is_within = fold-Close Accepting Accepting within_close within_cert

pub accepts_is : (c : Cert) (rows : List PRow) → accepts c rows ≡ option_map_or (close_accepts c.close) (rows_after c.steps rows) false
accepts_is c rows = ap (λ f. f rows) (fold_out-Cert Accepting Accepting accepting_close accepting_cert c)

pub within_is : (c : Cert) (rows : List PRow) → is_within c rows ≡ (steps_within c.steps rows && option_map_or (close_is_within c.close) (rows_after c.steps rows) true)
within_is c rows = ap (λ f. f rows) (fold_out-Cert Accepting Accepting within_close within_cert c)

close_folds : (A A' : Type 0) (close : Close-F A A' → A) (cert : Cert-F A A' → A') (d : Close-F Close Cert) (k : Close) → roll-Close d ≡ k
    → fold-Close A A' close cert k ≡ close (map-Close Close Cert A A' (fold-Close A A' close cert) (fold-Cert A A' close cert) d)
close_folds A A' close cert d k p = ap (fold-Close A A' close cert) (sym p) ∙ fold-roll-Close A A' close cert d

close_accepted : (d : Close-F Close Cert) (k : Close) → roll-Close d ≡ k → (rows : List PRow)
    → close_accepts k rows ≡ accepting_close (map-Close Close Cert Accepting Accepting close_accepts accepts d) rows
close_accepted d k p rows = ap (λ f. f rows) (close_folds Accepting Accepting accepting_close accepting_cert d k p)

close_within : (d : Close-F Close Cert) (k : Close) → roll-Close d ≡ k → (rows : List PRow)
    → close_is_within k rows ≡ within_close (map-Close Close Cert Accepting Accepting close_is_within is_within d) rows
close_within d k p rows = ap (λ f. f rows) (close_folds Accepting Accepting within_close within_cert d k p)

-- steps and a close that is accepted after them
pub good_by : (given rows : List PRow) (steps : List Step) (k : Close) → Makes given steps rows → close_accepts k rows ≡ true → close_is_within k rows ≡ true
    → IsGood given (record { steps = steps; close = k })
good_by given rows steps k m a w =
    let c : Cert = record { steps = steps; close = k } in
    record {
      accepted = accepts_is c given ∙ subst (λ (o : Option (List PRow)). option_map_or (close_accepts k) o false ≡ true) (sym m.made) a;
      within = within_is c given ∙ and_from (steps_within steps given) (option_map_or (close_is_within k) (rows_after steps given) true) m.within
          (subst (λ (o : Option (List PRow)). option_map_or (close_is_within k) o true ≡ true) (sym m.made) w);
    }

-- what a good certificate asks of its steps and its close
accepted_parts : (k : Close) (o : Option (List PRow)) → option_map_or (close_accepts k) o false ≡ true → (rows : List PRow) × (o ≡ Some rows) × (close_accepts k rows ≡ true)
accepted_parts k None h = absurd cc
accepted_parts k (Some rows) h = (rows, refl, h)

pub good_parts : (given : List PRow) (steps : List Step) (k : Close) → IsGood given (record { steps = steps; close = k })
    → (rows : List PRow) × Makes given steps rows × (close_accepts k rows ≡ true) × (close_is_within k rows ≡ true)
good_parts given steps k g =
    let c : Cert = record { steps = steps; close = k } in
    let a = accepted_parts k (rows_after steps given) (sym (accepts_is c given) ∙ g.accepted) in
    let w = and_parts (steps_within steps given) (option_map_or (close_is_within k) (rows_after steps given) true) (sym (within_is c given) ∙ g.within) in
    let inside : close_is_within k a.0 ≡ true = subst (λ (o : Option (List PRow)). option_map_or (close_is_within k) o true ≡ true) a.1 w.1 in
    (a.0, record { made = a.1; within = w.0 }, a.2, inside)

-- more steps in front of a good certificate
pub good_after : (given rows : List PRow) (first steps : List Step) (k : Close) → Makes given first rows → IsGood rows (record { steps = steps; close = k })
    → IsGood given (record { steps = first ++ steps; close = k })
good_after given rows first steps k m g =
    let p = good_parts rows steps k g in
    good_by given p.0 (first ++ steps) k (makes_both given rows p.0 first steps m p.1) p.2 p.3

-- the closes

pub good_done : (given rows : List PRow) (steps : List Step) → Makes given steps rows → ends_false rows ≡ true → IsGood given (record { steps = steps; close = Done })
good_done given rows steps m h =
    good_by given rows steps Done m (close_accepted Close-F.Done Done rolls-Done rows ∙ h) (close_within Close-F.Done Done rolls-Done rows)

pub good_split : (given rows : List PRow) (steps : List Step) (p : List Term) (c d : Cert) → Makes given steps rows
    → are_within (own_bounds p) ≡ true → are_within (below_bounds p) ≡ true
    → IsGood (with_row rows (at_least_0 p)) c → IsGood (with_row rows (at_least_0 (below_0 p))) d
    → IsGood given (record { steps = steps; close = Split p c d })
good_split given rows steps p c d m o b g h =
    good_by given rows steps (Split p c d) m
    (close_accepted (Close-F.Split p c d) (Split p c d) (rolls-Split p c d) rows
    ∙ and_from (accepts c (with_row rows (at_least_0 p))) (accepts d (with_row rows (at_least_0 (below_0 p)))) g.accepted h.accepted)
    (close_within (Close-F.Split p c d) (Split p c d) (rolls-Split p c d) rows
    ∙ and_from (are_within (own_bounds p) && are_within (below_bounds p)) (is_within c (with_row rows (at_least_0 p)) && is_within d (with_row rows (at_least_0 (below_0 p))))
    (and_from (are_within (own_bounds p)) (are_within (below_bounds p)) o b)
    (and_from (is_within c (with_row rows (at_least_0 p))) (is_within d (with_row rows (at_least_0 (below_0 p)))) g.within h.within))

all_accepted : (q : List Term) (v : ℤ) (cs : List Cert) (rows : List PRow) → AreGood q v cs rows → all_accept q v (map accepts cs) rows ≡ true
all_accepted q v [] rows g = refl
all_accepted q v (c ∷ cs) rows g =
    and_from (accepts c (with_row rows (value_row q v))) (all_accept q (v +ℤ pos 1) (map accepts cs) rows) g.0.accepted (all_accepted q (v +ℤ pos 1) cs rows g.1)

all_are_within : (q : List Term) (v : ℤ) (cs : List Cert) (rows : List PRow) → AreGood q v cs rows → all_within q v (map is_within cs) rows ≡ true
all_are_within q v [] rows g = refl
all_are_within q v (c ∷ cs) rows g =
    and_from (is_within c (with_row rows (value_row q v))) (all_within q (v +ℤ pos 1) (map is_within cs) rows) g.0.within (all_are_within q (v +ℤ pos 1) cs rows g.1)

range_found : (e f : Psatz) (rows : List PRow) (r s : PRow) → meaning e rows ≡ Some r → meaning f rows ≡ Some s → enum_range e f rows ≡ range_of r s
range_found e f rows r s m n = rw (m, n) refl

pub good_enum : (given rows : List PRow) (steps : List Step) (e f : Psatz) (r s : PRow) (found : Range) (cs : List Cert) → Makes given steps rows
    → meaning e rows ≡ Some r → meaning f rows ≡ Some s → range_of r s ≡ Some found → length cs ≡ values_of found
    → (measure e rows).within ≡ true → (measure f rows).within ≡ true → AreGood found.poly found.low cs rows
    → IsGood given (record { steps = steps; close = Enum (ends e f) cs })
good_enum given rows steps e f r s found cs m a b is count v w g =
    let range : enum_range e f rows ≡ Some found = range_found e f rows r s a b ∙ is in
    let counted : (length (map accepts cs) == values_of found) ≡ true = eq-eqb _ _ (length-map cs accepts ∙ count) in
    good_by given rows steps (Enum (ends e f) cs) m
    (close_accepted (Close-F.Enum (ends e f) cs) (Enum (ends e f) cs) (rolls-Enum (ends e f) cs) rows
    ∙ subst (λ (o : Option Range). option_map_or (accepts_range (map accepts cs) rows) o false ≡ true) (sym range)
    (and_from (length (map accepts cs) == values_of found) (all_accept found.poly found.low (map accepts cs) rows) counted (all_accepted found.poly found.low cs rows g)))
    (close_within (Close-F.Enum (ends e f) cs) (Enum (ends e f) cs) (rolls-Enum (ends e f) cs) rows
    ∙ and_from ((measure e rows).within && (measure f rows).within) (option_map_or (λ (q : Range). all_within q.poly q.low (map is_within cs) rows) (enum_range e f rows) true)
    (and_from (measure e rows).within (measure f rows).within v w)
    (subst (λ (o : Option Range). option_map_or (λ (q : Range). all_within q.poly q.low (map is_within cs) rows) o true ≡ true) (sym range)
    (all_are_within found.poly found.low cs rows g)))

-- the last of rows with one more
last_row : (rows : List PRow) (r : PRow) → slice_get (with_row rows r) (length rows) ≡ Some r
last_row [] r = refl
last_row (q ∷ rows) r = last_row rows r

pub ends_with : (rows : List PRow) (r : PRow) → ends_false (with_row rows r) ≡ is_false r
ends_with rows r =
    let n : length (with_row rows r) - 1 ≡ length rows = last_place rows r in
    ap (λ o. option_map_or is_false o false) (ap (slice_get (with_row rows r)) n ∙ last_row rows r)
  where
    last_place : (rows : List PRow) (r : PRow) → length (with_row rows r) - 1 ≡ length rows
    last_place rows r = let e = length-append rows (r ∷ []) in omega (arith, e)
