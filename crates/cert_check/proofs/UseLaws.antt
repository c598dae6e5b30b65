-- The times of the last uses: each use is noted, and what is noted stays.
use Rattle.std.specs.Prelude.{◌≡◌, ℕ, zero, suc, ◌+◌, ◌-◌, ◌<◌, ◌≤◌, max, List, [], ◌∷◌, ◌++◌, length, drop, map, Bool, true, false, nat_le, refl, slice_get, slice_set, slice_index_or, if◌then◌else◌}
use Rattle.std.proofs.Common.{ap, sym, ◌∙◌, subst, arith, le-leb, get_or, add-one, drop-cons}
use Rattle.std.proofs.lemmas.Bool.{leb-true, lt-leb}
use Rattle.cert_kit.specs.declared.cert.Psatz.{Psatz}
use Rattle.cert_kit.specs.declared.cert.Psatz.TheOpen.{Psatz-F}
use Rattle.cert_kit.specs.declared.cert.Psatz.TheVariants.{Mul, Add, rolls-Mul, rolls-Add}
use Rattle.cert_kit.specs.declared.cert.Ends.{Ends}
use Rattle.cert_kit.specs.declared.cert.Step.{Step}
use Rattle.cert_kit.specs.declared.cert.Cert.{Cert}
use Rattle.cert_kit.specs.declared.cert.Close.{Close}
use Rattle.cert_kit.specs.declared.cert.Close.TheOpen.{Close-F}
use Rattle.cert_kit.specs.declared.cert.Close.TheVariants.{Split, Enum, rolls-Split, rolls-Enum}
use Rattle.cert_kit.specs.declared.cert.Close.TheFolds.{fold-roll-Close, fold_out-Cert}
use Rattle.cert_kit.specs.Making.{numbers_step, numbers_of}
use Rattle.cert_kit.proofs.FormLaws.{folds}
use Rattle.mm_poly.specs.declared.term.Term.{Term}
use Rattle.cert_check.proofs.MemberLaws.{member_front}
use Rattle.cert_check.specs.Uses.{step_numbers, steps_numbers, all_numbers, close_numbers_level, cert_numbers_level, close_numbers, cert_numbers, KnowsUses, raised, noted_row, noted, steps_noted, reaches, IsReached, AreReached, StepsReached}

-- ---- a time raised

reached_more : (s t x : ℕ) → nat_le s x ≡ true → nat_le s (max x t) ≡ true
reached_more s t x h = le-leb s (max x t) (omega (arith, leb-true s x h))

reached_here : (t x : ℕ) → nat_le t (max x t) ≡ true
reached_here t x = le-leb t (max x t) (omega arith)

stays_raised : (times : List ℕ) (t i s k : ℕ) → reaches s (slice_get times k) ≡ true → reaches s (slice_get (raised t i times) k) ≡ true
stays_raised [] t i s k h = h
stays_raised (x ∷ times) t zero s zero h = reached_more s t x h
stays_raised (x ∷ times) t zero s (suc k) h = h
stays_raised (x ∷ times) t (suc i) s zero h = h
stays_raised (x ∷ times) t (suc i) s (suc k) h = stays_raised times t i s k h

is_raised : (times : List ℕ) (t i : ℕ) → reaches t (slice_get (raised t i times) i) ≡ true
is_raised [] t i = refl
is_raised (x ∷ times) t zero = reached_here t x
is_raised (x ∷ times) t (suc i) = is_raised times t i

-- each place that reached a time still does
abbrev pub Stays : List ℕ → List ℕ → Type 0
Stays old new = (s k : ℕ) → reaches s (slice_get old k) ≡ true → reaches s (slice_get new k) ≡ true

by_first : (first n : ℕ) (P : List ℕ → Type 0) (a b : List ℕ) → P a → P b → P (if nat_le first n then a else b)
by_first first n P a b h k = by_test (nat_le first n)
  where
    by_test : (t : Bool) → P (if t then a else b)
    by_test true = h
    by_test false = k

row_stays : (first t n : ℕ) (times : List ℕ) → Stays times (noted_row first t n times)
row_stays first t n times = by_first first n (Stays times) (raised t (n - first) times) times (λ s k h. stays_raised times t (n - first) s k h) (λ s k h. h)

row_reached : (first t n : ℕ) (times : List ℕ) → IsReached first (noted_row first t n times) t n
row_reached first t n times h = rw (le-leb first n h) (is_raised times t (n - first))

noted_stays : (first t : ℕ) (ns : List ℕ) (times : List ℕ) → Stays times (noted first t ns times)
noted_stays first t [] times s k h = h
noted_stays first t (n ∷ ns) times s k h = noted_stays first t ns (noted_row first t n times) s k (row_stays first t n times s k h)

all_stay : (first : ℕ) (old new : List ℕ) (t : ℕ) (ns : List ℕ) → Stays old new → AreReached first old t ns → AreReached first new t ns
all_stay first old new t [] s h = tt
all_stay first old new t (n ∷ ns) s h = (λ l. s t (n - first) (h.0 l), all_stay first old new t ns s h.1)

pub noted_reached : (first t : ℕ) (ns : List ℕ) (times : List ℕ) → AreReached first (noted first t ns times) t ns
noted_reached first t [] times = tt
noted_reached first t (n ∷ ns) times =
    (λ l. noted_stays first t ns (noted_row first t n times) t (n - first) (row_reached first t n times l), noted_reached first t ns (noted_row first t n times))

steps_stay : (first t : ℕ) (steps : List Step) (times : List ℕ) → Stays times (steps_noted first t steps times)
steps_stay first t [] times s k h = h
steps_stay first t (p ∷ steps) times s k h =
    steps_stay first (suc t) steps (noted first t (step_numbers p) times) s k (noted_stays first t (step_numbers p) times s k h)

steps_noted_reached : (first t : ℕ) (steps : List Step) (times : List ℕ) → StepsReached first (steps_noted first t steps times) t steps
steps_noted_reached first t [] times = tt
steps_noted_reached first t (p ∷ steps) times =
    let here = noted first t (step_numbers p) times in (
      all_stay first here (steps_noted first (suc t) steps here) t (step_numbers p) (steps_stay first (suc t) steps here) (noted_reached first t (step_numbers p) times),
      steps_noted_reached first (suc t) steps here,
    )

steps_keep : (first : ℕ) (old new : List ℕ) (t : ℕ) (steps : List Step) → Stays old new → StepsReached first old t steps → StepsReached first new t steps
steps_keep first old new t [] s h = tt
steps_keep first old new t (p ∷ steps) s h = (all_stay first old new t (step_numbers p) s h.0, steps_keep first old new (suc t) steps s h.1)

-- the uses by the steps, and then those by the close
pub steps_then : (first t : ℕ) (steps : List Step) (u : ℕ) (ns times : List ℕ) → StepsReached first (noted first u ns (steps_noted first t steps times)) t steps
steps_then first t steps u ns times =
    let here = steps_noted first t steps times in
    steps_keep first here (noted first u ns here) t steps (noted_stays first u ns here) (steps_noted_reached first t steps times)

-- without times all is reached
pub none_reached : (first t : ℕ) (ns : List ℕ) → AreReached first [] t ns
none_reached first t [] = tt
none_reached first t (n ∷ ns) = (λ l. refl, none_reached first t ns)

pub no_step_reached : (first t : ℕ) (steps : List Step) → StepsReached first [] t steps
no_step_reached first t [] = tt
no_step_reached first t (p ∷ steps) = (none_reached first t (step_numbers p), no_step_reached first (suc t) steps)

noted_append : (first t : ℕ) (ns ms times : List ℕ) → noted first t (ns ++ ms) times ≡ noted first t ms (noted first t ns times)
noted_append first t [] ms times = refl
noted_append first t (n ∷ ns) ms times = noted_append first t ns ms (noted_row first t n times)

-- ---- a time in its list

pub raised_within : (times : List ℕ) (t i d : ℕ) → i < length times → slice_set times i (max (slice_index_or times i d) t) ≡ raised t i times
raised_within [] t i d h = absurd (omega arith)
raised_within (x ∷ times) t zero d h = refl
raised_within (x ∷ times) t (suc i) d h = ap (λ (ts : List ℕ). x ∷ ts) (raised_within times t i d (omega arith))

pub raised_past : (times : List ℕ) (t i : ℕ) → length times ≤ i → raised t i times ≡ times
raised_past [] t i h = refl
raised_past (x ∷ times) t zero h = absurd (omega arith)
raised_past (x ∷ times) t (suc i) h = ap (λ (ts : List ℕ). x ∷ ts) (raised_past times t i (omega arith))

-- ---- a row's use

pub row_early : (first t n : ℕ) (times : List ℕ) → n < first → times ≡ noted_row first t n times
row_early first t n times l = rw (lt-leb first n l) refl

pub row_past : (first t n : ℕ) (times : List ℕ) → first ≤ n → length times ≤ n - first → times ≡ noted_row first t n times
row_past first t n times l h = rw (le-leb first n l) (sym (raised_past times t (n - first) h))

pub row_within : (first t n d m : ℕ) (times : List ℕ) → first ≤ n → n - first < length times → m ≡ max (slice_index_or times (n - first) d) t → slice_set times (n - first) m ≡ noted_row first t n times
row_within first t n d m times l h e = rw (le-leb first n l) (ap (slice_set times (n - first)) e ∙ raised_within times t (n - first) d h)

-- ---- the uses of the parts

both_noted : (first t : ℕ) (ns ms old mid new : List ℕ) → mid ≡ noted first t ns old → new ≡ noted first t ms mid → new ≡ noted first t (ns ++ ms) old
both_noted first t ns ms old mid new e f = f ∙ ap (noted first t ms) e ∙ sym (noted_append first t ns ms old)

pub mul_noted : (first t : ℕ) (d e : Psatz) (old mid new : List ℕ) → mid ≡ noted first t (numbers_of d) old → new ≡ noted first t (numbers_of e) mid → new ≡ noted first t (numbers_of (Mul d e)) old
mul_noted first t d e old mid new h k =
    both_noted first t (numbers_of d) (numbers_of e) old mid new h k
    ∙ ap (λ ns. noted first t ns old) (sym (folds (List ℕ) numbers_step (Psatz-F.Mul d e) (Mul d e) (rolls-Mul d e)))

pub add_noted : (first t : ℕ) (d e : Psatz) (old mid new : List ℕ) → mid ≡ noted first t (numbers_of d) old → new ≡ noted first t (numbers_of e) mid → new ≡ noted first t (numbers_of (Add d e)) old
add_noted first t d e old mid new h k =
    both_noted first t (numbers_of d) (numbers_of e) old mid new h k
    ∙ ap (λ ns. noted first t ns old) (sym (folds (List ℕ) numbers_step (Psatz-F.Add d e) (Add d e) (rolls-Add d e)))

pub cert_noted : (first t : ℕ) (c : Cert) (old mid new : List ℕ) → mid ≡ noted first t (steps_numbers c.steps) old → new ≡ noted first t (close_numbers c.close) mid → new ≡ noted first t (cert_numbers c) old
cert_noted first t c old mid new h k =
    both_noted first t (steps_numbers c.steps) (close_numbers c.close) old mid new h k
    ∙ ap (λ ns. noted first t ns old) (sym (fold_out-Cert (List ℕ) (List ℕ) close_numbers_level cert_numbers_level c))

pub split_noted : (first t : ℕ) (p : List Term) (c d : Cert) (old mid new : List ℕ) → mid ≡ noted first t (cert_numbers c) old → new ≡ noted first t (cert_numbers d) mid → new ≡ noted first t (close_numbers (Split p c d)) old
split_noted first t p c d old mid new h k =
    both_noted first t (cert_numbers c) (cert_numbers d) old mid new h k
    ∙ ap (λ ns. noted first t ns old) (sym (ap close_numbers (sym (rolls-Split p c d)) ∙ fold-roll-Close (List ℕ) (List ℕ) close_numbers_level cert_numbers_level (Close-F.Split p c d)))

pub enum_noted : (first t : ℕ) (b : Ends) (cs : List Cert) (old mid next new : List ℕ) → mid ≡ noted first t (numbers_of b.lower) old → next ≡ noted first t (numbers_of b.upper) mid
    → new ≡ noted first t (all_numbers (map cert_numbers cs)) next → new ≡ noted first t (close_numbers (Enum b cs)) old
enum_noted first t b cs old mid next new h j k =
    both_noted first t (numbers_of b.lower ++ numbers_of b.upper) (all_numbers (map cert_numbers cs)) old next new
    (both_noted first t (numbers_of b.lower) (numbers_of b.upper) old mid next h j) k
    ∙ ap (λ ns. noted first t ns old) (sym (ap close_numbers (sym (rolls-Enum b cs)) ∙ fold-roll-Close (List ℕ) (List ℕ) close_numbers_level cert_numbers_level (Close-F.Enum b cs)))

-- the step at a place begins what is left there
pub step_front : (steps : List Step) (t : ℕ) (s : Step) → t < length steps → s ≡ get_or steps t s → drop t steps ≡ s ∷ drop (t + 1) steps
step_front steps t s h is = rw add-one (drop-cons steps t s h ∙ ap (λ (d : Step). d ∷ drop (suc t) steps) (sym is))

-- one more step
pub step_noted : (first t : ℕ) (steps : List Step) (i : ℕ) (s : Step) (now new whole : List ℕ) → i < length steps → s ≡ get_or steps i s → new ≡ noted first t (step_numbers s) now
    → noted first t (steps_numbers (drop i steps)) now ≡ whole → noted first t (steps_numbers (drop (i + 1) steps)) new ≡ whole
step_noted first t steps i s now new whole l is e inv =
    ap (noted first t (steps_numbers (drop (i + 1) steps))) e
    ∙ sym (noted_append first t (step_numbers s) (steps_numbers (drop (i + 1) steps)) now)
    ∙ ap (λ ss. noted first t (steps_numbers ss) now) (sym (step_front steps i s l is))
    ∙ inv

-- one more member
pub member_noted : (first t : ℕ) (cs : List Cert) (i : ℕ) (c : Cert) (now new whole : List ℕ) → i < length cs → c ≡ get_or cs i c → new ≡ noted first t (cert_numbers c) now
    → noted first t (all_numbers (map cert_numbers (drop i cs))) now ≡ whole → noted first t (all_numbers (map cert_numbers (drop (i + 1) cs))) new ≡ whole
member_noted first t cs i c now new whole l is e inv =
    ap (noted first t (all_numbers (map cert_numbers (drop (i + 1) cs)))) e
    ∙ sym (noted_append first t (cert_numbers c) (all_numbers (map cert_numbers (drop (i + 1) cs))) now)
    ∙ ap (λ ds. noted first t (all_numbers (map cert_numbers ds)) now) (sym (member_front cs i c l is))
    ∙ inv

-- ---- what is known in the end

pub none_known : (first : ℕ) (times : List ℕ) → times ≡ [] → (steps : List Step) (close : Close) → KnowsUses first times steps close
none_known first times e steps close = subst (λ ts. KnowsUses first ts steps close) (sym e) (record {
  by_steps = no_step_reached first 0 steps;
  by_close = none_reached first (length steps) (close_numbers close);
})

pub uses_known : (first : ℕ) (steps : List Step) (close : Close) (zeros mid new : List ℕ) → mid ≡ steps_noted first 0 steps zeros → new ≡ noted first (length steps) (close_numbers close) mid → KnowsUses first new steps close
uses_known first steps close zeros mid new e f =
    let whole : new ≡ noted first (length steps) (close_numbers close) (steps_noted first 0 steps zeros) = f ∙ ap (noted first (length steps) (close_numbers close)) e in
    subst (λ ts. KnowsUses first ts steps close) (sym whole) (record {
      by_steps = steps_then first 0 steps (length steps) (close_numbers close) zeros;
      by_close = noted_reached first (length steps) (close_numbers close) (steps_noted first 0 steps zeros);
    })
