-- A certificate has no fault exactly where the rules accept it and each of its nodes is within its bounds.
use Rattle.std.specs.Prelude.{◌≡◌, ℤ, pos, ◌+ℤ◌, List, [], ◌∷◌, length, map, Bool, true, false, ◌&&◌, refl, Option, Some, None, Result, Ok, Err}
use Rattle.std.proofs.Common.{ap, sym, ◌∙◌, subst}
use Rattle.std.proofs.lemmas.List.{length-map}
use Rattle.std.specs.Option.{option_map_or}
use Rattle.mm_num.specs.Result.{◌>>=◌ as ◌>>>◌}
use Rattle.mm_num.specs.Option.{◌>>=◌}
use Rattle.mm_num.proofs.BoolLaws.{never}
use Rattle.mm_poly.specs.declared.term.Term.{Term}
use Rattle.cert_kit.specs.declared.node.Fault.{Fault}
use Rattle.cert_kit.specs.declared.node.Fault.TheVariants.{Rule, Bound}
use Rattle.cert_kit.specs.declared.node.Node.{Node}
use Rattle.cert_kit.specs.declared.row.PRow.{PRow}
use Rattle.cert_kit.specs.declared.cert.Step.{Step}
use Rattle.cert_kit.specs.declared.cert.Step.TheVariants.{Rat, Cut}
use Rattle.cert_kit.specs.declared.cert.Cert.{Cert}
use Rattle.cert_kit.specs.declared.cert.Close.{Close}
use Rattle.cert_kit.specs.declared.cert.Close.TheOpen.{Close-F, Cert-F}
use Rattle.cert_kit.specs.declared.cert.Close.TheViews.{roll-Close, roll-Cert}
use Rattle.cert_kit.specs.declared.cert.Close.TheFolds.{map-Close, map-Cert, fold-Close, fold-roll-Cert, fold-roll-Close, ind-Cert}
use Rattle.cert_kit.specs.Cut.{cut_of}
use Rattle.cert_kit.specs.Meaning.{Measure, meaning, measure, own_bounds, are_within, at_least_0}
use Rattle.cert_kit.specs.Acceptance.{with_row, step_row, rows_after, ends_false, below_0, below_bounds, Range, range_of, value_row, Accepting, all_accept, accepts_range, accepting_close, accepting_cert, accepts, step_within, steps_within, all_within, within_close, within_cert, is_within, IsGood}
use Rattle.cert_kit.specs.FirstFault.{walk, step_walk, steps_walk, Faulting, or_else, unless, first_of_all, after_walk, range_fault, fault_close, fault_cert, first_fault}
use Rattle.cert_kit.proofs.WalkLaws.{FailsBy, Agrees, walk_agrees}

-- no fault where both tests hold; one of a rule where the first fails, one of a bound where the second does
abbrev pub Decides : Option Fault → Bool → Bool → Type 0
Decides None a w = (a ≡ true) × (w ≡ true)
Decides (Some Rule) a w = a ≡ false
Decides (Some Bound) a w = w ≡ false

-- the rows after steps, and whether the steps are within their bounds
abbrev pub StepsAgree : Result (List PRow) Fault → Option (List PRow) → Bool → Type 0
StepsAgree (Ok rows) o w = (o ≡ Some rows) × (w ≡ true)
StepsAgree (Err f) o w = FailsBy f o w

abbrev StepAgrees : Result PRow Fault → Option PRow → Bool → Type 0
StepAgrees (Ok r) o w = (o ≡ Some r) × (w ≡ true)
StepAgrees (Err f) o w = FailsBy f o w

rat_agrees : (v : Result Node Fault) (m : Option PRow) (k : Measure) → Agrees v m k → StepAgrees (v >>> λ a. Ok a.row) m k.within
rat_agrees (Ok n) m k h = (h.0, ap (λ z. z.within) h.1)
rat_agrees (Err f) m k h = h

cut_agrees : (v : Result Node Fault) (m : Option PRow) (k : Measure) → Agrees v m k → StepAgrees (v >>> λ a. Ok (cut_of a.row)) (m >>= λ r. Some (cut_of r)) k.within
cut_agrees (Ok n) m k h = (rw (h.0) refl, ap (λ z. z.within) h.1)
cut_agrees (Err Rule) m k h = rw h refl
cut_agrees (Err Bound) m k h = h

step_agrees : (s : Step) (rows : List PRow) → StepAgrees (step_walk s rows) (step_row s rows) (step_within s rows)
step_agrees (Rat e) rows = rat_agrees (walk e rows) (meaning e rows) (measure e rows) (walk_agrees e rows)
step_agrees (Cut e) rows = cut_agrees (walk e rows) (meaning e rows) (measure e rows) (walk_agrees e rows)

next_agrees : (v : Result PRow Fault) (o : Option PRow) (w : Bool) (walks : PRow → Result (List PRow) Fault) (after : PRow → Option (List PRow)) (within : PRow → Bool)
    → StepAgrees v o w → ((r : PRow) → StepsAgree (walks r) (after r) (within r))
    → StepsAgree (v >>> walks) (o >>= after) (w && option_map_or within o true)
next_agrees (Ok r) o w walks after within h k = rw (h.0, h.1) (k r)
next_agrees (Err Rule) o w walks after within h k = rw h refl
next_agrees (Err Bound) o w walks after within h k = rw h refl

pub steps_agree : (steps : List Step) (rows : List PRow) → StepsAgree (steps_walk steps rows) (rows_after steps rows) (steps_within steps rows)
steps_agree [] rows = (refl, refl)
steps_agree (s ∷ steps) rows = next_agrees (step_walk s rows) (step_row s rows) (step_within s rows)
    (λ r. steps_walk steps (with_row rows r)) (λ r. rows_after steps (with_row rows r)) (λ r. steps_within steps (with_row rows r))
    (step_agrees s rows) (λ r. steps_agree steps (with_row rows r))

-- two decisions, the first one first
or_decides : (f g : Option Fault) (a b v w : Bool) → Decides f a v → Decides g b w → Decides (or_else f g) (a && b) (v && w)
or_decides None None a b v w h k = rw (h.0, h.1) k
or_decides None (Some Rule) a b v w h k = rw (h.0, k) refl
or_decides None (Some Bound) a b v w h k = rw (h.1, k) refl
or_decides (Some Rule) g a b v w h k = rw h refl
or_decides (Some Bound) g a b v w h k = rw h refl

rule_decides : (a : Bool) → Decides (unless a Rule) a true
rule_decides true = (refl, refl)
rule_decides false = refl

bound_decides : (w : Bool) → Decides (unless w Bound) true w
bound_decides true = (refl, refl)
bound_decides false = refl

abbrev pub CertDecides : Cert → Type 0
CertDecides c = (rows : List PRow) → Decides (first_fault c rows) (accepts c rows) (is_within c rows)

abbrev accepts_close : Close → Accepting
accepts_close = fold-Close Accepting Accepting accepting_close accepting_cert

abbrev close_within : Close → Accepting
close_within = fold-Close Accepting Accepting within_close within_cert

abbrev close_fault : Close → Faulting
close_fault = fold-Close Faulting Faulting fault_close fault_cert

abbrev pub CloseDecides : Close → Type 0
CloseDecides c = (rows : List PRow) → Decides (close_fault c rows) (accepts_close c rows) (close_within c rows)

abbrev KnownCert : Type 0
KnownCert = (c : Cert) × CertDecides c

abbrev KnownClose : Type 0
KnownClose = (c : Close) × CloseDecides c

abbrev certs_of : List KnownCert → List Cert
certs_of cs = map (λ c. c.0) cs

all_decide : (cs : List KnownCert) (q : List Term) (v : ℤ) (rows : List PRow)
    → Decides (first_of_all q v (map first_fault (certs_of cs)) rows) (all_accept q v (map accepts (certs_of cs)) rows) (all_within q v (map is_within (certs_of cs)) rows)
all_decide [] q v rows = (refl, refl)
all_decide (c ∷ cs) q v rows = or_decides _ _ _ _ _ _ (c.1 (with_row rows (value_row q v))) (all_decide cs q (v +ℤ pos 1) rows)

abbrev lengths : (cs : List KnownCert) → length (map first_fault (certs_of cs)) ≡ length (map accepts (certs_of cs))
lengths cs = length-map (certs_of cs) first_fault ∙ sym (length-map (certs_of cs) accepts)

range_decides : (cs : List KnownCert) (rows : List PRow) (o : Option Range)
    → Decides (range_fault (map first_fault (certs_of cs)) rows o) (option_map_or (accepts_range (map accepts (certs_of cs)) rows) o false)
    (option_map_or (λ (r : Range). all_within r.poly r.low (map is_within (certs_of cs)) rows) o true)
range_decides cs rows None = refl
range_decides cs rows (Some r) = rw (lengths cs) (or_decides _ _ _ _ _ _ (rule_decides _) (all_decide cs r.poly r.low rows))

-- two walks, and what comes after them
walks_decide : (v w : Result Node Fault) (m n : Option PRow) (j k : Measure) (fault : Option Range → Option Fault) (accept within : Option Range → Bool)
    → Agrees v m j → Agrees w n k → ((o : Option Range) → Decides (fault o) (accept o) (within o)) → accept None ≡ false
    → Decides (after_walk v (λ a. after_walk w (λ b. fault (range_of a.row b.row))))
    (accept (m >>= λ r. n >>= λ s. range_of r s)) ((j.within && k.within) && within (m >>= λ r. n >>= λ s. range_of r s))
walks_decide (Ok a) (Ok b) m n j k fault accept within h i d none = rw (h.0, h.1, i.0, i.1) (d (range_of a.row b.row))
walks_decide (Err Rule) w m n j k fault accept within h i d none = rw h none
walks_decide (Err Bound) w m n j k fault accept within h i d none = rw h refl
walks_decide (Ok a) (Err Rule) m n j k fault accept within h i d none = rw (h.0, i) none
walks_decide (Ok a) (Err Bound) m n j k fault accept within h i d none = rw (h.1, i) refl

level_close : (y : Close-F KnownClose KnownCert) (rows : List PRow)
    → Decides (fault_close (map-Close Close Cert Faulting Faulting close_fault first_fault (map-Close KnownClose KnownCert Close Cert (λ c. c.0) (λ c. c.0) y)) rows)
    (accepting_close (map-Close Close Cert Accepting Accepting accepts_close accepts (map-Close KnownClose KnownCert Close Cert (λ c. c.0) (λ c. c.0) y)) rows)
    (within_close (map-Close Close Cert Accepting Accepting close_within is_within (map-Close KnownClose KnownCert Close Cert (λ c. c.0) (λ c. c.0) y)) rows)
level_close Close-F.Done rows = rule_decides (ends_false rows)
level_close (Close-F.Split p c d) rows =
    or_decides _ _ true _ _ _ (bound_decides (are_within (own_bounds p) && are_within (below_bounds p)))
    (or_decides _ _ _ _ _ _ (c.1 (with_row rows (at_least_0 p))) (d.1 (with_row rows (at_least_0 (below_0 p)))))
level_close (Close-F.Enum b cs) rows =
    walks_decide (walk b.lower rows) (walk b.upper rows) (meaning b.lower rows) (meaning b.upper rows) (measure b.lower rows) (measure b.upper rows)
    (range_fault (map first_fault (certs_of cs)) rows)
    (λ o. option_map_or (accepts_range (map accepts (certs_of cs)) rows) o false)
    (λ o. option_map_or (λ (r : Range). all_within r.poly r.low (map is_within (certs_of cs)) rows) o true)
    (walk_agrees b.lower rows) (walk_agrees b.upper rows) (range_decides cs rows) refl

after_decides : (v : Result (List PRow) Fault) (o : Option (List PRow)) (w : Bool) (fault : Faulting) (accept within : Accepting)
    → StepsAgree v o w → ((rows : List PRow) → Decides (fault rows) (accept rows) (within rows))
    → Decides (after_walk v fault) (option_map_or accept o false) (w && option_map_or within o true)
after_decides (Ok rows) o w fault accept within h d = rw (h.0, h.1) (d rows)
after_decides (Err Rule) o w fault accept within h d = rw h refl
after_decides (Err Bound) o w fault accept within h d = rw h refl

level_cert : (y : Cert-F KnownClose KnownCert) (rows : List PRow)
    → Decides (fault_cert (map-Cert Close Cert Faulting Faulting close_fault first_fault (map-Cert KnownClose KnownCert Close Cert (λ c. c.0) (λ c. c.0) y)) rows)
    (accepting_cert (map-Cert Close Cert Accepting Accepting accepts_close accepts (map-Cert KnownClose KnownCert Close Cert (λ c. c.0) (λ c. c.0) y)) rows)
    (within_cert (map-Cert Close Cert Accepting Accepting close_within is_within (map-Cert KnownClose KnownCert Close Cert (λ c. c.0) (λ c. c.0) y)) rows)
level_cert y rows = after_decides (steps_walk y.steps rows) (rows_after y.steps rows) (steps_within y.steps rows)
    (close_fault y.close.0) (accepts_close y.close.0) (close_within y.close.0) (steps_agree y.steps rows) y.close.1

-- the first fault, or none, of each certificate
pub fault_decides : (c : Cert) → CertDecides c
fault_decides = ind-Cert CloseDecides CertDecides
    (λ d y q. subst (λ (z : Close-F Close Cert). CloseDecides (roll-Close z)) q (close_step y))
    (λ d y q. subst (λ (z : Cert-F Close Cert). CertDecides (roll-Cert z)) q (cert_step y))
  where
    close_step : (y : Close-F KnownClose KnownCert) → CloseDecides (roll-Close (map-Close KnownClose KnownCert Close Cert (λ c. c.0) (λ c. c.0) y))
    close_step y rows =
        let z = map-Close KnownClose KnownCert Close Cert (λ c. c.0) (λ c. c.0) y in
        let f = ap (λ g. g rows) (fold-roll-Close Faulting Faulting fault_close fault_cert z) in
        let a = ap (λ g. g rows) (fold-roll-Close Accepting Accepting accepting_close accepting_cert z) in
        let w = ap (λ g. g rows) (fold-roll-Close Accepting Accepting within_close within_cert z) in
        rw (f, a, w) (level_close y rows)

    cert_step : (y : Cert-F KnownClose KnownCert) → CertDecides (roll-Cert (map-Cert KnownClose KnownCert Close Cert (λ c. c.0) (λ c. c.0) y))
    cert_step y rows =
        let z = map-Cert KnownClose KnownCert Close Cert (λ c. c.0) (λ c. c.0) y in
        let f = ap (λ g. g rows) (fold-roll-Cert Faulting Faulting fault_close fault_cert z) in
        let a = ap (λ g. g rows) (fold-roll-Cert Accepting Accepting accepting_close accepting_cert z) in
        let w = ap (λ g. g rows) (fold-roll-Cert Accepting Accepting within_close within_cert z) in
        rw (f, a, w) (level_cert y rows)

none_good : (o : Option Fault) (a w : Bool) → Decides o a w → o ≡ None → (a ≡ true) × (w ≡ true)
none_good None a w d e = d
none_good (Some f) a w d e = absurd (cc)

good_none : (o : Option Fault) (a w : Bool) → Decides o a w → a ≡ true → w ≡ true → o ≡ None
good_none None a w d p q = refl
good_none (Some Rule) a w d p q = never (sym d ∙ p)
good_none (Some Bound) a w d p q = never (sym d ∙ q)

-- no fault is the same as good
pub no_fault_good : (c : Cert) (rows : List PRow) → first_fault c rows ≡ None → IsGood rows c
no_fault_good c rows e = let p = none_good _ _ _ (fault_decides c rows) e in record { accepted = p.0; within = p.1 }

pub good_no_fault : (c : Cert) (rows : List PRow) → IsGood rows c → first_fault c rows ≡ None
good_no_fault c rows g = good_none _ _ _ (fault_decides c rows) g.accepted g.within

-- what a fault of each kind says

by_rule : (o : Option Fault) (a w : Bool) → Decides o a w → o ≡ Some Rule → a ≡ false
by_rule None a w d e = absurd (cc)
by_rule (Some Rule) a w d e = d
by_rule (Some Bound) a w d e = absurd (cc)

by_bound : (o : Option Fault) (a w : Bool) → Decides o a w → o ≡ Some Bound → w ≡ false
by_bound None a w d e = absurd (cc)
by_bound (Some Rule) a w d e = absurd (cc)
by_bound (Some Bound) a w d e = d

pub rule_not_accepted : (c : Cert) (rows : List PRow) → first_fault c rows ≡ Some Rule → accepts c rows ≡ false
rule_not_accepted c rows e = by_rule _ _ _ (fault_decides c rows) e

pub bound_not_within : (c : Cert) (rows : List PRow) → first_fault c rows ≡ Some Bound → is_within c rows ≡ false
bound_not_within c rows e = by_bound _ _ _ (fault_decides c rows) e
