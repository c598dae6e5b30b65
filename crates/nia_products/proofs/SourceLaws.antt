-- Expressions that mean rows are steps that make these rows.
use Rattle.std.specs.Prelude.{◌≡◌, ℕ, ◌≤◌, max, List, [], ◌∷◌, ◌++◌, map, Bool, true, ◌&&◌, Option, Some, refl}
use Rattle.std.specs.List.{AllByRecursion}
use Rattle.std.proofs.Common.{ap, sym, ◌∙◌, subst, arith, append-nil, append_assoc}
use Rattle.std.proofs.lemmas.Bool.{and_from, and_parts}
use Rattle.cert_kit.specs.declared.row.PRow.{PRow}
use Rattle.cert_kit.specs.declared.cert.Psatz.{Psatz}
use Rattle.cert_kit.specs.declared.cert.Step.{Step}
use Rattle.cert_kit.specs.declared.cert.Step.TheVariants.{Rat}
use Rattle.cert_kit.specs.declared.cert.Cert.{Cert}
use Rattle.cert_kit.specs.declared.cert.Close.{Close}
use Rattle.cert_kit.specs.declared.cert.Close.TheFolds.{fold_out-Cert}
use Rattle.cert_kit.specs.Meaning.{meaning, measure, Measure}
use Rattle.cert_kit.specs.Acceptance.{with_row}
use Rattle.cert_kit.specs.Depth.{psatz_depth, has_constants_in_range, step_depth, steps_depth, step_in_range, steps_in_range, close_level, cert_level, cert_depth, close_depth, MakesCert}
use Rattle.cert_kit.specs.Making.{Makes}
use Rattle.cert_kit.proofs.MakerLaws.{makes_none, makes_step}
use Rattle.cert_kit.proofs.NumberingLaws.{appended}
use Rattle.cert_kit.proofs.FlatLaws.{IsFlat}

-- ---- sources

pub record IsSource (given : List PRow) (e : Psatz) (r : PRow) : Type 0 where
  pub means : meaning e given ≡ Some r
  pub within : (measure e given).within ≡ true

-- each expression is the source of the row at its place
abbrev pub AreSources : List PRow → List Psatz → List PRow → Type 0
AreSources given [] [] = Unit {0}
AreSources given [] (r ∷ rows) = ⊥
AreSources given (e ∷ es) [] = ⊥
AreSources given (e ∷ es) (r ∷ rows) = IsSource given e r × AreSources given es rows

pub sources_join : (given : List PRow) (es fs : List Psatz) (rows more : List PRow) → AreSources given es rows → AreSources given fs more → AreSources given (es ++ fs) (rows ++ more)
sources_join given [] fs [] more a b = b
sources_join given [] fs (r ∷ rows) more a b = absurd a
sources_join given (e ∷ es) fs [] more a b = absurd a
sources_join given (e ∷ es) fs (r ∷ rows) more a b = (a.0, sources_join given es fs rows more a.1 b)

-- of each element an expression and its row are made
pub sources_made : {A : Type 0} → (given : List PRow) (P : A → Type 0) (source : A → Psatz) (row : A → PRow) → ((x : A) → P x → IsSource given (source x) (row x))
    → (xs : List A) → AllByRecursion P xs → AreSources given (map source xs) (map row xs)
sources_made given P source row f [] h = tt
sources_made given P source row f (x ∷ xs) h = (f x h.0, sources_made given P source row f xs h.1)

pub meanings_of : (given : List PRow) (es : List Psatz) (rows : List PRow) → AreSources given es rows → map (λ e. meaning e given) es ≡ map (λ r. Some r) rows
meanings_of given [] [] a = refl
meanings_of given [] (r ∷ rows) a = absurd a
meanings_of given (e ∷ es) [] a = absurd a
meanings_of given (e ∷ es) (r ∷ rows) a =
    ap (λ (o : Option PRow). o ∷ map (λ e. meaning e given) es) a.0.means ∙ ap (λ (os : List (Option PRow)). Some r ∷ os) (meanings_of given es rows a.1)

pub all_within : (given : List PRow) (es : List Psatz) (rows : List PRow) → AreSources given es rows → AllByRecursion (λ e. (measure e given).within ≡ true) es
all_within given [] rows a = tt
all_within given (e ∷ es) [] a = absurd a
all_within given (e ∷ es) (r ∷ rows) a = (a.0.within, all_within given es rows a.1)

-- more rows behind change nothing
source_still : (given more : List PRow) (e : Psatz) (r : PRow) → IsSource given e r → IsSource (given ++ more) e r
source_still given more e r s =
    let k = appended e given more r s.means in
    record { means = k.0; within = ap (λ (x : Measure). x.within) k.1 ∙ s.within }

sources_still : (given more : List PRow) (es : List Psatz) (rows : List PRow) → AreSources given es rows → AreSources (given ++ more) es rows
sources_still given more [] [] a = tt
sources_still given more [] (r ∷ rows) a = absurd a
sources_still given more (e ∷ es) [] a = absurd a
sources_still given more (e ∷ es) (r ∷ rows) a = (source_still given more e r a.0, sources_still given more es rows a.1)

-- ---- steps

abbrev pub steps_of : List Psatz → List Step
steps_of es = map Rat es

pub makes_rows : (es : List Psatz) (given rows : List PRow) → AreSources given es rows → Makes given (steps_of es) (given ++ rows)
makes_rows [] given [] a = subst (λ (q : List PRow). Makes given [] q) (sym (append-nil given)) (makes_none given)
makes_rows [] given (r ∷ rows) a = absurd a
makes_rows (e ∷ es) given [] a = absurd a
makes_rows (e ∷ es) given (r ∷ rows) a =
    let rest = makes_rows es (with_row given r) rows (sources_still given (r ∷ []) es rows a.1) in
    makes_step given (given ++ r ∷ rows) (Rat e) (steps_of es) r a.0.means a.0.within (subst (λ (q : List PRow). Makes (with_row given r) (steps_of es) q) (append_assoc given (r ∷ []) rows) rest)

-- ---- certificates

pub shallow_steps : (es : List Psatz) → AllByRecursion (IsFlat 1) es → steps_depth (steps_of es) ≤ 1
shallow_steps [] h = omega arith
shallow_steps (e ∷ es) h = let a = h.0.depth in let b = shallow_steps es h.1 in most (psatz_depth e) (steps_depth (steps_of es)) a b
  where
    most : (m n : ℕ) → m ≤ 1 → n ≤ 1 → max m n ≤ 1
    most m n a b = omega arith

pub steps_range : (es : List Psatz) → AllByRecursion (IsFlat 1) es → steps_in_range (steps_of es) ≡ true
steps_range [] h = refl
steps_range (e ∷ es) h = and_from (has_constants_in_range e) (steps_in_range (steps_of es)) h.0.constants (steps_range es h.1)

depth_both : (s t : List Step) → steps_depth (s ++ t) ≡ max (steps_depth s) (steps_depth t)
depth_both [] t = omega arith
depth_both (a ∷ s) t = let h = depth_both s t in step (step_depth a) (steps_depth (s ++ t)) (steps_depth s) (steps_depth t) h
  where
    step : (a b c d : ℕ) → b ≡ max c d → max a b ≡ max (max a c) d
    step a b c d h = omega arith

range_both : (s t : List Step) → steps_in_range s ≡ true → steps_in_range t ≡ true → steps_in_range (s ++ t) ≡ true
range_both [] t a b = b
range_both (q ∷ s) t a b = let p = parts (step_in_range q) (steps_in_range s) a in and_from (step_in_range q) (steps_in_range (s ++ t)) p.0 (range_both s t p.1 b)
  where
    parts : (b c : Bool) → (b && c) ≡ true → (b ≡ true) × (c ≡ true)
    parts b c h = and_parts b c h

pub makes_both : (es : List Psatz) (steps : List Step) (k : Close) → AllByRecursion (IsFlat 1) es → MakesCert steps k → MakesCert (steps_of es ++ steps) k
makes_both es steps k h m = record {
  flat_steps = (let a = shallow_steps es h in let b = m.flat_steps in let c = depth_both (steps_of es) steps in omega (arith, a, b, c));
  flat_close = m.flat_close;
  step_constants = range_both (steps_of es) steps (steps_range es h) m.step_constants;
  close_constants = m.close_constants;
}

depth_is : (c : Cert) → cert_depth c ≡ max (steps_depth c.steps) (close_depth c.close)
depth_is c = fold_out-Cert ℕ ℕ close_level cert_level c

pub depth_after : (es : List Psatz) (steps : List Step) (k : Close) → AllByRecursion (IsFlat 1) es
    → cert_depth (record { steps = steps_of es ++ steps; close = k }) ≤ max 1 (cert_depth (record { steps = steps; close = k }))
depth_after es steps k h =
    let c : Cert = record { steps = steps; close = k } in
    let d : Cert = record { steps = steps_of es ++ steps; close = k } in
    by_parts (steps_depth (steps_of es)) (steps_depth steps) (steps_depth (steps_of es ++ steps)) (close_depth k) (cert_depth d) (cert_depth c) (shallow_steps es h) (depth_both (steps_of es) steps) (depth_is d) (depth_is c)
  where
    by_parts : (a b s k d c : ℕ) → a ≤ 1 → s ≡ max a b → d ≡ max s k → c ≡ max b k → d ≤ max 1 c
    by_parts a b s k d c h i j l = omega arith
