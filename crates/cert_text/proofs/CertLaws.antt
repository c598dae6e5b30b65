-- A certificate that is read is spelled so, and one that is spelled so is read.
use Rattle.std.proofs.Common.{◌≡◌, ℕ, zero, suc, ◌+◌, ◌-◌, ◌^◌, ◌<◌, ◌≤◌, max, Bool, true, false, ltb, inl, inr, List, [], ◌∷◌, ◌++◌, length, map, length-append, Option, Some, None, refl, sym, ap, subst, ◌∙◌, append_assoc, arith}
use Rattle.std.specs.Prelude.{◌&&◌, codes}
use Rattle.std.specs.List.{flat_map, AllByRecursion}
use Rattle.std.proofs.lemmas.Bool.{ltb-true, lt-ltb, and_parts, and_from}
use Rattle.std.proofs.lemmas.List.{length-map}
use Rattle.std.proofs.lemmas.Option.{same_Some}
use Rattle.mm_num.specs.Option.{◌>>=◌}
use Rattle.mm_num.proofs.OptionLaws.{bind_some, choice_some}
use Rattle.mm_poly.specs.declared.term.Term.{Term}
use Rattle.cert_kit.specs.declared.cert.Psatz.{Psatz}
use Rattle.cert_kit.specs.declared.cert.Step.{Step}
use Rattle.cert_kit.specs.declared.cert.Step.TheVariants.{Rat, Cut}
use Rattle.cert_kit.specs.declared.cert.Cert.{Cert}
use Rattle.cert_kit.specs.Making.{ends}
use Rattle.cert_kit.specs.declared.cert.Close.{Close}
use Rattle.cert_kit.specs.declared.cert.Close.TheOpen.{Close-F}
use Rattle.cert_kit.specs.declared.cert.Close.TheViews.{roll-Close}
use Rattle.cert_kit.specs.declared.cert.Close.TheVariants.{Done, Split, Enum, rolls-Done, rolls-Split, rolls-Enum}
use Rattle.cert_kit.specs.declared.cert.Close.TheFolds.{map-Close, fold-roll-Close, fold_out-Cert, ind-Close}
use Rattle.cert_kit.specs.Depth.{has_constants_in_range, step_depth, steps_depth, step_in_range, steps_in_range, deepest, all_in_range, close_level, close_in_range, close_depth, close_has_constants_in_range, cert_level, cert_in_range, cert_depth, cert_constants}
use Rattle.mm_poly.specs.Tests.{is_polynomial}
use Rattle.cert_text.specs.Text.{poly_text, psatz_text, step_text, more_members, close_spelling, cert_spelling, close_text, cert_text, cert_line}
use Rattle.cert_text.specs.Check.{is_psatz_within, is_step_within, are_steps_within, close_level_within, cert_level_within, is_close_within, is_cert_within, IsCert}
use Rattle.cert_text.specs.Place.{BeginsCert}
use Rattle.cert_text.specs.Reading.{after, poly_at, pair_at, psatz_at, step_word_at, step_of, step_at, steps_at, done_at, split_at, members_at, enum_at, end_at, parts_at, cert_at, cert_line_at}
use Rattle.cert_text.proofs.WordLaws.{after_takes}
use Rattle.mm_poly.specs.Poly.{Fits}
use Rattle.mm_poly.proofs.TestLaws.{fits_given, fits_from}
use Rattle.cert_text.proofs.NumberLaws.{begins_digit}
use Rattle.cert_text.proofs.ManyLaws.{AreTaken, AreRead, many_take, many_again}
use Rattle.cert_text.proofs.RowLaws.{poly_takes, poly_again}
use Rattle.cert_text.proofs.PsatzLaws.{Within, beside, apart, deeper, part_of, PsatzWithin, psatz_takes, pair_takes, pair_read, psatz_again}

-- ---- steps

abbrev pub StepWithin : ℕ → Step → Type 0
StepWithin d s = Within d (step_depth s) (step_in_range s) (is_step_within s)

abbrev StepsWithin : ℕ → List Step → Type 0
StepsWithin d steps = Within d (steps_depth steps) (steps_in_range steps) (are_steps_within steps)

steps_from : (d : ℕ) (steps : List Step) → AllByRecursion (StepWithin d) steps → StepsWithin d steps
steps_from d [] are = record { flat = omega arith; in_range = refl; inside = refl }
steps_from d (s ∷ steps) are =
    beside d (step_depth s) (steps_depth steps) (step_in_range s) (steps_in_range steps) (is_step_within s) (are_steps_within steps) are.0 (steps_from d steps are.1)

steps_each : (d : ℕ) (steps : List Step) → StepsWithin d steps → AllByRecursion (StepWithin d) steps
steps_each d [] within = tt
steps_each d (s ∷ steps) within =
    let parts = apart d (step_depth s) (steps_depth steps) (step_in_range s) (steps_in_range steps) (is_step_within s) (are_steps_within steps) within in
    (parts.0, steps_each d steps parts.1)

abbrev step_word : Bool → List ℕ
step_word false = codes "rat "
step_word true = codes "cut "

step_of_text : (cut : Bool) (e : Psatz) (rest : List ℕ) → step_text (step_of cut e) ++ rest ≡ step_word cut ++ (psatz_text e ++ (codes "; " ++ rest))
step_of_text false e rest = ap (λ t. codes "rat " ++ t) (append_assoc (psatz_text e) (codes "; ") rest)
step_of_text true e rest = ap (λ t. codes "cut " ++ t) (append_assoc (psatz_text e) (codes "; ") rest)

step_of_within : (d : ℕ) (cut : Bool) (e : Psatz) → PsatzWithin d e → StepWithin d (step_of cut e)
step_of_within d false e within = within
step_of_within d true e within = within

word_takes : (bytes : List ℕ) (w : Bool × List ℕ) → step_word_at bytes ≡ Some w → bytes ≡ step_word w.0 ++ w.1
word_takes bytes w e =
    elim (choice_some (after (codes "rat ") bytes) (λ r. Some (false, r)) (elim (after (codes "cut ") bytes) [ Some r ↦ Some (true, r) | None ↦ None ]) w e) [
      | inl h ↦ subst (λ (w : Bool × List ℕ). bytes ≡ step_word w.0 ++ w.1) (same_Some (false, h.0) w h.2) (after_takes (codes "rat ") bytes h.0 h.1)
      | inr h ↦ elim (choice_some (after (codes "cut ") bytes) (λ r. Some (true, r)) None w h.1) [
        | inl k ↦ subst (λ (w : Bool × List ℕ). bytes ≡ step_word w.0 ++ w.1) (same_Some (true, k.0) w k.2) (after_takes (codes "cut ") bytes k.0 k.1)
        | inr k ↦ absurd (let e = k.1 in cc)
      ]
    ]

step_takes : (d : ℕ) (bytes : List ℕ) (w : Bool × List ℕ) (s : Step) (rest : List ℕ) → step_word_at bytes ≡ Some w → step_at d w ≡ Some (s, rest) → (bytes ≡ step_text s ++ rest) × StepWithin d s
unfolding step_at
step_takes d bytes w s rest marked read =
    let a = bind_some (psatz_at d w.1) (λ e. after (codes "; ") e.1 >>= λ r. Some (step_of w.0 e.0, r)) (s, rest) read in
    let b = bind_some (after (codes "; ") a.0.1) (λ r. Some (step_of w.0 a.0.0, r)) (s, rest) a.2 in
    let e = psatz_takes d w.1 a.0.0 a.0.1 a.1 in
    let text : bytes ≡ step_text (step_of w.0 a.0.0) ++ b.0 =
    word_takes bytes w marked ∙ ap (λ t. step_word w.0 ++ t) (e.text ∙ ap (λ t. psatz_text a.0.0 ++ t) (after_takes (codes "; ") a.0.1 b.0 b.1)) ∙ sym (step_of_text w.0 a.0.0 b.0) in
    subst (λ (p : Step × List ℕ). (bytes ≡ step_text p.0 ++ p.1) × StepWithin d p.0) (same_Some (step_of w.0 a.0.0, b.0) (s, rest) b.2) (text, step_of_within d w.0 a.0.0 e.within)

steps_taken : (d : ℕ) → AreTaken step_word_at (step_at d) step_text (StepWithin d)
steps_taken d = record { takes = step_takes d }

step_read : (d : ℕ) (cut : Bool) (e : Psatz) (rest : List ℕ) → PsatzWithin d e → step_at d (cut, psatz_text e ++ (codes "; " ++ rest)) ≡ Some (step_of cut e, rest)
unfolding step_at
step_read d cut e rest within = let p = psatz_again d e (codes "; " ++ rest) within refl in rw p refl

step_again : (d : ℕ) (s : Step) (rest : List ℕ) → StepWithin d s → Unit {0} → (w : Bool × List ℕ) × (step_word_at (step_text s ++ rest) ≡ Some w) × (step_at d w ≡ Some (s, rest))
step_again d (Rat e) rest within follows = ((false, psatz_text e ++ (codes "; " ++ rest)), ap step_word_at (step_of_text false e rest), step_read d false e rest within)
step_again d (Cut e) rest within follows = ((true, psatz_text e ++ (codes "; " ++ rest)), ap step_word_at (step_of_text true e rest), step_read d true e rest within)

steps_read : (d : ℕ) → AreRead step_word_at (step_at d) step_text (StepWithin d) (λ _. Unit {0})
steps_read d = record { again = step_again d; goes_on = λ s rest within. tt }

-- a step takes bytes
length-steps : (steps : List Step) (rest : List ℕ) → length steps ≤ length (flat_map step_text steps ++ rest)
length-steps [] rest = omega arith
length-steps (Rat e ∷ steps) rest =
    omega (arith, length-steps steps rest, ap length (append_assoc (step_text (Rat e)) (flat_map step_text steps) rest), length-append (psatz_text e ++ codes "; ") (flat_map step_text steps ++ rest))
length-steps (Cut e ∷ steps) rest =
    omega (arith, length-steps steps rest, ap length (append_assoc (step_text (Cut e)) (flat_map step_text steps) rest), length-append (psatz_text e ++ codes "; ") (flat_map step_text steps ++ rest))

-- ---- the limits of a close and of a certificate

abbrev pub CertWithin : ℕ → Cert → Type 0
CertWithin d c = Within d (cert_depth c) (cert_constants c) (is_cert_within c)

abbrev CloseWithin : ℕ → Close → Type 0
CloseWithin d k = Within d (close_depth k) (close_has_constants_in_range k) (is_close_within k)

abbrev LevelWithin : ℕ → Close-F Close Cert → Type 0
LevelWithin d y = Within d (close_level (map-Close Close Cert ℕ ℕ close_depth cert_depth y))
    (close_in_range (map-Close Close Cert Bool Bool close_has_constants_in_range cert_constants y))
    (close_level_within (map-Close Close Cert Bool Bool is_close_within is_cert_within y))

rolled : (d : ℕ) (y : Close-F Close Cert) → LevelWithin d y → CloseWithin d (roll-Close y)
rolled d y within = record {
  flat = subst (λ n. n ≤ d) (sym (fold-roll-Close ℕ ℕ close_level cert_level y)) within.flat;
  in_range = fold-roll-Close Bool Bool close_in_range cert_in_range y ∙ within.in_range;
  inside = fold-roll-Close Bool Bool close_level_within cert_level_within y ∙ within.inside;
}

opened : (d : ℕ) (y : Close-F Close Cert) → CloseWithin d (roll-Close y) → LevelWithin d y
opened d y within = record {
  flat = subst (λ n. n ≤ d) (fold-roll-Close ℕ ℕ close_level cert_level y) within.flat;
  in_range = sym (fold-roll-Close Bool Bool close_in_range cert_in_range y) ∙ within.in_range;
  inside = sym (fold-roll-Close Bool Bool close_level_within cert_level_within y) ∙ within.inside;
}

abbrev PartsWithin : ℕ → Cert → Type 0
PartsWithin d c = Within d (max (steps_depth c.steps) (close_depth c.close)) (steps_in_range c.steps && close_has_constants_in_range c.close) (are_steps_within c.steps && is_close_within c.close)

cert_from : (d : ℕ) (c : Cert) → StepsWithin d c.steps → CloseWithin d c.close → CertWithin d c
cert_from d c steps close =
    let parts : PartsWithin d c = beside d (steps_depth c.steps) (close_depth c.close) (steps_in_range c.steps) (close_has_constants_in_range c.close) (are_steps_within c.steps) (is_close_within c.close) steps close in
    record {
      flat = subst (λ n. n ≤ d) (sym (fold_out-Cert ℕ ℕ close_level cert_level c)) parts.flat;
      in_range = fold_out-Cert Bool Bool close_in_range cert_in_range c ∙ parts.in_range;
      inside = fold_out-Cert Bool Bool close_level_within cert_level_within c ∙ parts.inside;
    }

cert_parts : (d : ℕ) (c : Cert) → CertWithin d c → StepsWithin d c.steps × CloseWithin d c.close
cert_parts d c within =
    let parts : PartsWithin d c = record {
      flat = subst (λ n. n ≤ d) (fold_out-Cert ℕ ℕ close_level cert_level c) within.flat;
      in_range = sym (fold_out-Cert Bool Bool close_in_range cert_in_range c) ∙ within.in_range;
      inside = sym (fold_out-Cert Bool Bool close_level_within cert_level_within c) ∙ within.inside;
    } in
    apart d (steps_depth c.steps) (close_depth c.close) (steps_in_range c.steps) (close_has_constants_in_range c.close) (are_steps_within c.steps) (is_close_within c.close) parts

-- members, one by one
abbrev MembersWithin : ℕ → List Cert → Type 0
MembersWithin d cs = Within d (deepest (map cert_depth cs)) (all_in_range (map cert_constants cs)) (all_in_range (map is_cert_within cs))

members_from : (d : ℕ) (cs : List Cert) → AllByRecursion (CertWithin d) cs → MembersWithin d cs
members_from d [] are = record { flat = omega arith; in_range = refl; inside = refl }
members_from d (c ∷ cs) are =
    beside d (cert_depth c) (deepest (map cert_depth cs)) (cert_constants c) (all_in_range (map cert_constants cs)) (is_cert_within c) (all_in_range (map is_cert_within cs)) are.0 (members_from d cs are.1)

members_each : (d : ℕ) (cs : List Cert) → MembersWithin d cs → AllByRecursion (CertWithin d) cs
members_each d [] within = tt
members_each d (c ∷ cs) within =
    let parts = apart d (cert_depth c) (deepest (map cert_depth cs)) (cert_constants c) (all_in_range (map cert_constants cs)) (is_cert_within c) (all_in_range (map is_cert_within cs)) within in
    (parts.0, members_each d cs parts.1)

-- ---- texts

abbrev spelled : Close-F Close Cert → List ℕ
spelled y = close_spelling (map-Close Close Cert (List ℕ) (List ℕ) close_text cert_text y)

text_of : (y : Close-F Close Cert) → close_text (roll-Close y) ≡ spelled y
text_of y = fold-roll-Close (List ℕ) (List ℕ) close_spelling cert_spelling y

-- a certificate's text, nested to the right
cert_on : (c : Cert) (rest : List ℕ) → cert_text c ++ rest ≡ flat_map step_text c.steps ++ (close_text c.close ++ rest)
cert_on c rest = ap (λ t. t ++ rest) (fold_out-Cert (List ℕ) (List ℕ) close_spelling cert_spelling c) ∙ append_assoc (flat_map step_text c.steps) (close_text c.close) rest

three_on : (first second third rest : List ℕ) → (first ++ (codes ", " ++ (second ++ (codes ", " ++ (third ++ codes ")"))))) ++ rest ≡ first ++ (codes ", " ++ (second ++ (codes ", " ++ (third ++ (codes ")" ++ rest)))))
three_on first second third rest =
    append_assoc first (codes ", " ++ (second ++ (codes ", " ++ (third ++ codes ")")))) rest
    ∙ ap (λ t. first ++ (codes ", " ++ t)) (append_assoc second (codes ", " ++ (third ++ codes ")")) rest ∙ ap (λ t. second ++ (codes ", " ++ t)) (append_assoc third (codes ")") rest))

members_on : (first second members rest : List ℕ) → (first ++ (codes ", " ++ (second ++ (members ++ codes ")")))) ++ rest ≡ first ++ (codes ", " ++ (second ++ (members ++ (codes ")" ++ rest))))
members_on first second members rest =
    append_assoc first (codes ", " ++ (second ++ (members ++ codes ")"))) rest
    ∙ ap (λ t. first ++ (codes ", " ++ t)) (append_assoc second (members ++ codes ")") rest ∙ ap (λ t. second ++ t) (append_assoc members (codes ")") rest))

abbrev next_member : Cert → List ℕ
next_member c = codes ", " ++ cert_text c

members_flat : (cs : List Cert) → more_members (map cert_text cs) ≡ flat_map next_member cs
members_flat [] = refl
members_flat (c ∷ cs) = ap (λ t. codes ", " ++ (cert_text c ++ t)) (members_flat cs)

-- ---- what is read

pub record TakesCert (d : ℕ) (bytes : List ℕ) (c : Cert) (rest : List ℕ) : Type 0 where
  pub text : bytes ≡ cert_text c ++ rest
  pub within : CertWithin d c

record TakesClose (d : ℕ) (bytes : List ℕ) (k : Close) (rest : List ℕ) : Type 0 where
  pub text : bytes ≡ close_text k ++ rest
  pub within : CloseWithin d k

made : (d : ℕ) (bytes : List ℕ) (y : Close-F Close Cert) (k : Close) (rest : List ℕ) → roll-Close y ≡ k → bytes ≡ spelled y ++ rest → LevelWithin d y → TakesClose d bytes k rest
made d bytes y k rest is text within =
    subst (λ k. TakesClose d bytes k rest) is (record { text = text ∙ ap (λ t. t ++ rest) (sym (text_of y)); within = rolled d y within })

done_takes : (d : ℕ) (bytes : List ℕ) (k : Close) (rest : List ℕ) → done_at bytes ≡ Some (k, rest) → TakesClose d bytes k rest
done_takes d bytes k rest read =
    let a = bind_some (after (codes "done") bytes) (λ r. Some (Done, r)) (k, rest) read in
    subst (λ (p : Close × List ℕ). TakesClose d bytes p.0 p.1) (same_Some (Done, a.0) (k, rest) a.2)
    (made d bytes Close-F.Done Done a.0 rolls-Done (after_takes (codes "done") bytes a.0 a.1) (record { flat = omega arith; in_range = refl; inside = refl }))

abbrev Takes : ℕ → Type 0
Takes d = (bytes : List ℕ) (c : Cert) (rest : List ℕ) → cert_at d bytes ≡ Some (c, rest) → TakesCert d bytes c rest

split_within : (d : ℕ) (p : List Term) (c e : Cert) → Fits p → CertWithin d c → CertWithin d e → LevelWithin (suc d) (Close-F.Split p c e)
split_within d p c e are first second =
    let both = deeper d (max (cert_depth c) (cert_depth e)) (cert_constants c && cert_constants e) (is_cert_within c && is_cert_within e)
    (beside d (cert_depth c) (cert_depth e) (cert_constants c) (cert_constants e) (is_cert_within c) (is_cert_within e) first second) in
    record { flat = both.flat; in_range = both.in_range; inside = and_from (is_polynomial p) (is_cert_within c && is_cert_within e) (fits_from p are) both.inside }

split_takes : (d : ℕ) → Takes d → (bytes line : List ℕ) (k : Close) (rest : List ℕ) → bytes ≡ codes "split(" ++ line → split_at (cert_at d) line ≡ Some (k, rest) → TakesClose (suc d) bytes k rest
split_takes d takes bytes line k rest opens read =
    let a = bind_some (poly_at line) (λ p. after (codes ", ") p.1 >>= λ r. cert_at d r >>= λ c. after (codes ", ") c.1 >>= λ s. cert_at d s >>= λ e. after (codes ")") e.1 >>= λ end. Some (Split p.0 c.0 e.0, end)) (k, rest) read in
    let b = bind_some (after (codes ", ") a.0.1) (λ r. cert_at d r >>= λ c. after (codes ", ") c.1 >>= λ s. cert_at d s >>= λ e. after (codes ")") e.1 >>= λ end. Some (Split a.0.0 c.0 e.0, end)) (k, rest) a.2 in
    let c = bind_some (cert_at d b.0) (λ c. after (codes ", ") c.1 >>= λ s. cert_at d s >>= λ e. after (codes ")") e.1 >>= λ end. Some (Split a.0.0 c.0 e.0, end)) (k, rest) b.2 in
    let s = bind_some (after (codes ", ") c.0.1) (λ s. cert_at d s >>= λ e. after (codes ")") e.1 >>= λ end. Some (Split a.0.0 c.0.0 e.0, end)) (k, rest) c.2 in
    let e = bind_some (cert_at d s.0) (λ e. after (codes ")") e.1 >>= λ end. Some (Split a.0.0 c.0.0 e.0, end)) (k, rest) s.2 in
    let z = bind_some (after (codes ")") e.0.1) (λ end. Some (Split a.0.0 c.0.0 e.0.0, end)) (k, rest) e.2 in
    let p = poly_takes line a.0.0 a.0.1 a.1 in
    let first = takes b.0 c.0.0 c.0.1 c.1 in
    let second = takes s.0 e.0.0 e.0.1 e.1 in
    let from_second : s.0 ≡ cert_text e.0.0 ++ (codes ")" ++ z.0) = second.text ∙ ap (λ t. cert_text e.0.0 ++ t) (after_takes (codes ")") e.0.1 z.0 z.1) in
    let from_first : b.0 ≡ cert_text c.0.0 ++ (codes ", " ++ (cert_text e.0.0 ++ (codes ")" ++ z.0))) = first.text ∙ ap (λ t. cert_text c.0.0 ++ t) (after_takes (codes ", ") c.0.1 s.0 s.1 ∙ ap (λ t. codes ", " ++ t) from_second) in
    let text : bytes ≡ spelled (Close-F.Split a.0.0 c.0.0 e.0.0) ++ z.0 =
    opens ∙ ap (λ t. codes "split(" ++ t) (p.text ∙ ap (λ t. poly_text a.0.0 ++ t) (after_takes (codes ", ") a.0.1 b.0 b.1 ∙ ap (λ t. codes ", " ++ t) from_first) ∙ sym (three_on (poly_text a.0.0) (cert_text c.0.0) (cert_text e.0.0) z.0)) in
    subst (λ (q : Close × List ℕ). TakesClose (suc d) bytes q.0 q.1) (same_Some (Split a.0.0 c.0.0 e.0.0, z.0) (k, rest) z.2)
    (made (suc d) bytes (Close-F.Split a.0.0 c.0.0 e.0.0) (Split a.0.0 c.0.0 e.0.0) z.0 (rolls-Split a.0.0 c.0.0 e.0.0) text (split_within d a.0.0 c.0.0 e.0.0 p.fits first.within second.within))

members_taken : (d : ℕ) → Takes d → AreTaken (after (codes ", ")) (cert_at d) next_member (CertWithin d)
members_taken d takes = record { takes = λ bytes m c rest marked read. let t = takes m c rest read in (after_takes (codes ", ") bytes m marked ∙ ap (λ b. codes ", " ++ b) t.text, t.within) }

enum_within : (d : ℕ) (e f : Psatz) (cs : List Cert) → PsatzWithin d e → PsatzWithin d f → length cs < 2 ^ 32 → MembersWithin d cs → LevelWithin (suc d) (Close-F.Enum (ends e f) cs)
enum_within d e f cs first second few members =
    let x = first.flat in
    let y = second.flat in
    let z = members.flat in
    record {
      flat = omega arith;
      in_range = and_from (has_constants_in_range e) (has_constants_in_range f && all_in_range (map cert_constants cs)) first.in_range
          (and_from (has_constants_in_range f) (all_in_range (map cert_constants cs)) second.in_range members.in_range);
      inside = and_from (is_psatz_within e && is_psatz_within f) (ltb (length (map is_cert_within cs)) (2 ^ 32) && all_in_range (map is_cert_within cs))
          (and_from (is_psatz_within e) (is_psatz_within f) first.inside second.inside)
          (and_from (ltb (length (map is_cert_within cs)) (2 ^ 32)) (all_in_range (map is_cert_within cs)) (lt-ltb (length (map is_cert_within cs)) (2 ^ 32) (omega (arith, length-map cs is_cert_within))) members.inside);
    }

enum_takes : (d : ℕ) → Takes d → (bytes line : List ℕ) (k : Close) (rest : List ℕ) → bytes ≡ codes "enum(" ++ line → enum_at (psatz_at d) (cert_at d) line ≡ Some (k, rest) → TakesClose (suc d) bytes k rest
enum_takes d takes bytes line k rest opens read =
    let a = bind_some (pair_at (psatz_at d) line) (λ p. members_at (cert_at d) p.1 >>= λ cs. after (codes ")") cs.1 >>= λ end. Some (Enum (ends p.0.0 p.0.1) cs.0, end)) (k, rest) read in
    let b = bind_some (members_at (cert_at d) a.0.1) (λ cs. after (codes ")") cs.1 >>= λ end. Some (Enum (ends a.0.0.0 a.0.0.1) cs.0, end)) (k, rest) a.2 in
    let z = bind_some (after (codes ")") b.0.1) (λ end. Some (Enum (ends a.0.0.0 a.0.0.1) b.0.0, end)) (k, rest) b.2 in
    let p = pair_takes d (psatz_takes d) line a.0.0 a.0.1 a.1 in
    let m = many_take (after (codes ", ")) (cert_at d) next_member (CertWithin d) (members_taken d takes) (2 ^ 32 - 1) a.0.1 b.0.0 b.0.1 b.1 in
    let flat : flat_map next_member b.0.0 ++ b.0.1 ≡ more_members (map cert_text b.0.0) ++ (codes ")" ++ z.0) =
    ap (λ t. t ++ b.0.1) (sym (members_flat b.0.0)) ∙ ap (λ t. more_members (map cert_text b.0.0) ++ t) (after_takes (codes ")") b.0.1 z.0 z.1) in
    let text : bytes ≡ spelled (Close-F.Enum (ends a.0.0.0 a.0.0.1) b.0.0) ++ z.0 =
    opens ∙ ap (λ t. codes "enum(" ++ t) (p.text ∙ ap (λ t. psatz_text a.0.0.0 ++ (codes ", " ++ (psatz_text a.0.0.1 ++ t))) (m.0 ∙ flat)
    ∙ sym (members_on (psatz_text a.0.0.0) (psatz_text a.0.0.1) (more_members (map cert_text b.0.0)) z.0)) in
    subst (λ (q : Close × List ℕ). TakesClose (suc d) bytes q.0 q.1) (same_Some (Enum (ends a.0.0.0 a.0.0.1) b.0.0, z.0) (k, rest) z.2)
    (made (suc d) bytes (Close-F.Enum (ends a.0.0.0 a.0.0.1) b.0.0) (Enum (ends a.0.0.0 a.0.0.1) b.0.0) z.0 (rolls-Enum (ends a.0.0.0 a.0.0.1) b.0.0) text
    (enum_within d a.0.0.0 a.0.0.1 b.0.0 p.first p.second (omega (arith, m.2)) (members_from d b.0.0 m.1)))

end_takes : (d : ℕ) → Takes d → (bytes : List ℕ) (k : Close) (rest : List ℕ) → end_at (psatz_at d) (cert_at d) bytes ≡ Some (k, rest) → TakesClose (suc d) bytes k rest
unfolding end_at
end_takes d takes bytes k rest read =
    elim (choice_some (after (codes "split(") bytes) (split_at (cert_at d)) (elim (after (codes "enum(") bytes) [ Some r ↦ enum_at (psatz_at d) (cert_at d) r | None ↦ done_at bytes ]) (k, rest) read) [
      | inl h ↦ split_takes d takes bytes h.0 k rest (after_takes (codes "split(") bytes h.0 h.1) h.2
      | inr h ↦ elim (choice_some (after (codes "enum(") bytes) (enum_at (psatz_at d) (cert_at d)) (done_at bytes) (k, rest) h.1) [
        | inl h ↦ enum_takes d takes bytes h.0 k rest (after_takes (codes "enum(") bytes h.0 h.1) h.2
        | inr h ↦ done_takes (suc d) bytes k rest h.1
      ]
    ]

parts_take : (d : ℕ) (close : List ℕ → Option (Close × List ℕ)) → ((bytes : List ℕ) (k : Close) (rest : List ℕ) → close bytes ≡ Some (k, rest) → TakesClose d bytes k rest)
    → (bytes : List ℕ) (c : Cert) (rest : List ℕ) → parts_at d close bytes ≡ Some (c, rest) → TakesCert d bytes c rest
parts_take d close close_takes bytes c rest read =
    let a = bind_some (steps_at d (length bytes) bytes) (λ s. close s.1 >>= λ k. Some (record { steps = s.0; close = k.0 }, k.1)) (c, rest) read in
    let b = bind_some (close a.0.1) (λ k. Some (record { steps = a.0.0; close = k.0 }, k.1)) (c, rest) a.2 in
    let s = many_take step_word_at (step_at d) step_text (StepWithin d) (steps_taken d) (length bytes) bytes a.0.0 a.0.1 a.1 in
    let k = close_takes a.0.1 b.0.0 b.0.1 b.1 in
    let whole : Cert = record { steps = a.0.0; close = b.0.0 } in
    let text : bytes ≡ cert_text whole ++ b.0.1 = s.0 ∙ ap (λ t. flat_map step_text a.0.0 ++ t) k.text ∙ sym (cert_on whole b.0.1) in
    subst (λ (p : Cert × List ℕ). TakesCert d bytes p.0 p.1) (same_Some (whole, b.0.1) (c, rest) b.2) (record { text = text; within = cert_from d whole (steps_from d a.0.0 s.1) k.within })

pub cert_takes : (d : ℕ) → Takes d
unfolding cert_at
cert_takes zero bytes c rest read = parts_take zero done_at (done_takes zero) bytes c rest read
cert_takes (suc d) bytes c rest read =
    parts_take (suc d) (end_at (psatz_at d) (cert_at d)) (end_takes d (λ bytes c rest read. cert_takes d bytes c rest read)) bytes c rest read

-- ---- reading again

-- the text of each certificate within the limits is read as that certificate
abbrev Reads : ℕ → Type 0
Reads d = (c : Cert) (rest : List ℕ) → CertWithin d c → cert_at d (cert_text c ++ rest) ≡ Some (c, rest)

-- a close is one of the forms
shape : (k : Close) → (y : Close-F Close Cert) × (roll-Close y ≡ k)
shape = ind-Close (λ k. (y : Close-F Close Cert) × (roll-Close y ≡ k)) (λ _. Unit {0}) (λ d y is. (d, refl)) (λ d y is. tt)

level_no_step : (y : Close-F Close Cert) (rest : List ℕ) → step_word_at (spelled y ++ rest) ≡ None
level_no_step Close-F.Done rest = refl
level_no_step (Close-F.Split p c e) rest = refl
level_no_step (Close-F.Enum b cs) rest = refl

-- no step begins where the close stands
no_step : (k : Close) (rest : List ℕ) → step_word_at (close_text k ++ rest) ≡ None
no_step k rest =
    let s = shape k in
    subst (λ k. step_word_at (close_text k ++ rest) ≡ None) s.1 (ap (λ t. step_word_at (t ++ rest)) (text_of s.0) ∙ level_no_step s.0 rest)

parts_read : (d : ℕ) (close : List ℕ → Option (Close × List ℕ)) (c : Cert) (rest : List ℕ) → CertWithin d c → (CloseWithin d c.close → close (close_text c.close ++ rest) ≡ Some (c.close, rest))
    → parts_at d close (cert_text c ++ rest) ≡ Some (c, rest)
parts_read d close c rest within close_read =
    let w = cert_parts d c within in
    let bytes = flat_map step_text c.steps ++ (close_text c.close ++ rest) in
    let steps : steps_at d (length bytes) bytes ≡ Some (c.steps, close_text c.close ++ rest) =
    many_again step_word_at (step_at d) step_text (StepWithin d) (λ _. Unit {0}) (steps_read d) (length bytes) c.steps (close_text c.close ++ rest) (length-steps c.steps (close_text c.close ++ rest))
    (steps_each d c.steps w.0) tt (no_step c.close rest) in
    let end = close_read w.1 in
    ap (parts_at d close) (cert_on c rest) ∙ rw steps (rw end refl)

done_read : (rest : List ℕ) → done_at (codes "done" ++ rest) ≡ Some (Done, rest)
done_read rest = refl

done_ends : (d : ℕ) (rest : List ℕ) → end_at (psatz_at d) (cert_at d) (codes "done" ++ rest) ≡ Some (Done, rest)
unfolding end_at
done_ends d rest = refl

split_read : (d : ℕ) → Reads d → (p : List Term) (c e : Cert) (rest : List ℕ) → Fits p → CertWithin d c → CertWithin d e
    → end_at (psatz_at d) (cert_at d) (codes "split(" ++ (poly_text p ++ (codes ", " ++ (cert_text c ++ (codes ", " ++ (cert_text e ++ (codes ")" ++ rest))))))) ≡ Some (Split p c e, rest)
unfolding end_at
split_read d reads p c e rest are first second =
    let q = poly_again p (codes ", " ++ (cert_text c ++ (codes ", " ++ (cert_text e ++ (codes ")" ++ rest))))) are refl refl in
    let a = reads c (codes ", " ++ (cert_text e ++ (codes ")" ++ rest))) first in
    let b = reads e (codes ")" ++ rest) second in
    rw q (rw a (rw b refl))

members_read : (d : ℕ) → Reads d → AreRead (after (codes ", ")) (cert_at d) next_member (CertWithin d) (λ _. Unit {0})
members_read d reads = record { again = λ c rest within follows. (cert_text c ++ rest, refl, reads c rest within); goes_on = λ c rest within. tt }

members_again : (d : ℕ) → Reads d → (cs : List Cert) (rest : List ℕ) → length cs < 2 ^ 32 → MembersWithin d cs → members_at (cert_at d) (more_members (map cert_text cs) ++ (codes ")" ++ rest)) ≡ Some (cs, codes ")" ++ rest)
members_again d reads cs rest few within =
    ap (λ t. members_at (cert_at d) (t ++ (codes ")" ++ rest))) (members_flat cs)
    ∙ many_again (after (codes ", ")) (cert_at d) next_member (CertWithin d) (λ _. Unit {0}) (members_read d reads) (2 ^ 32 - 1) cs (codes ")" ++ rest) (omega arith) (members_each d cs within) tt refl

-- members begin with a comma or the end
members_stop : (cs : List Cert) (rest : List ℕ) → begins_digit (more_members (map cert_text cs) ++ (codes ")" ++ rest)) ≡ false
members_stop [] rest = refl
members_stop (c ∷ cs) rest = refl

enum_read : (d : ℕ) → Reads d → (e f : Psatz) (cs : List Cert) (rest : List ℕ) → PsatzWithin d e → PsatzWithin d f → length cs < 2 ^ 32 → MembersWithin d cs
    → end_at (psatz_at d) (cert_at d) (codes "enum(" ++ (psatz_text e ++ (codes ", " ++ (psatz_text f ++ (more_members (map cert_text cs) ++ (codes ")" ++ rest)))))) ≡ Some (Enum (ends e f) cs, rest)
unfolding end_at
enum_read d reads e f cs rest first second few members =
    let p = pair_read d (psatz_again d) e f (more_members (map cert_text cs) ++ (codes ")" ++ rest)) first second (members_stop cs rest) in
    let m = members_again d reads cs rest few members in
    rw p (rw m refl)

level_deep : (d : ℕ) → Reads d → (y : Close-F Close Cert) (rest : List ℕ) → LevelWithin (suc d) y → end_at (psatz_at d) (cert_at d) (spelled y ++ rest) ≡ Some (roll-Close y, rest)
level_deep d reads Close-F.Done rest w = done_ends d rest ∙ ap (λ k. Some (k, rest)) (sym rolls-Done)
level_deep d reads (Close-F.Split p c e) rest w =
    let parts = and_parts (is_polynomial p) (is_cert_within c && is_cert_within e) w.inside in
    let both : Within (suc d) (max (cert_depth c) (cert_depth e) + 1) (cert_constants c && cert_constants e) (is_cert_within c && is_cert_within e) = record { flat = w.flat; in_range = w.in_range; inside = parts.1 } in
    let each = apart d (cert_depth c) (cert_depth e) (cert_constants c) (cert_constants e) (is_cert_within c) (is_cert_within e)
    (part_of d (max (cert_depth c) (cert_depth e)) (cert_constants c && cert_constants e) (is_cert_within c && is_cert_within e) both) in
    ap (λ t. end_at (psatz_at d) (cert_at d) (codes "split(" ++ t)) (three_on (poly_text p) (cert_text c) (cert_text e) rest)
    ∙ split_read d reads p c e rest (fits_given p parts.0) each.0 each.1 ∙ ap (λ k. Some (k, rest)) (sym (rolls-Split p c e))
level_deep d reads (Close-F.Enum b cs) rest w =
    let x = w.flat in
    let range = and_parts (has_constants_in_range b.lower) (has_constants_in_range b.upper && all_in_range (map cert_constants cs)) w.in_range in
    let range_f = and_parts (has_constants_in_range b.upper) (all_in_range (map cert_constants cs)) range.1 in
    let inside = and_parts (is_psatz_within b.lower && is_psatz_within b.upper) (ltb (length (map is_cert_within cs)) (2 ^ 32) && all_in_range (map is_cert_within cs)) w.inside in
    let inside_pair = and_parts (is_psatz_within b.lower) (is_psatz_within b.upper) inside.0 in
    let inside_members = and_parts (ltb (length (map is_cert_within cs)) (2 ^ 32)) (all_in_range (map is_cert_within cs)) inside.1 in
    let few : length cs < 2 ^ 32 = omega (arith, ltb-true (length (map is_cert_within cs)) (2 ^ 32) inside_members.0, length-map cs is_cert_within) in
    let first : PsatzWithin d b.lower = record { flat = omega arith; in_range = range.0; inside = inside_pair.0 } in
    let second : PsatzWithin d b.upper = record { flat = omega arith; in_range = range_f.0; inside = inside_pair.1 } in
    let members : MembersWithin d cs = record { flat = omega arith; in_range = range_f.1; inside = inside_members.1 } in
    ap (λ t. end_at (psatz_at d) (cert_at d) (codes "enum(" ++ t)) (members_on (psatz_text b.lower) (psatz_text b.upper) (more_members (map cert_text cs)) rest)
    ∙ enum_read d reads b.lower b.upper cs rest first second few members ∙ ap (λ k. Some (k, rest)) (sym (rolls-Enum b cs))

level_flat : (y : Close-F Close Cert) (rest : List ℕ) → LevelWithin 0 y → done_at (spelled y ++ rest) ≡ Some (roll-Close y, rest)
level_flat Close-F.Done rest w = done_read rest ∙ ap (λ k. Some (k, rest)) (sym rolls-Done)
level_flat (Close-F.Split p c e) rest w = absurd (let k = w.flat in omega arith)
level_flat (Close-F.Enum b cs) rest w = absurd (let k = w.flat in omega arith)

-- what holds of each level holds of the close
from_level : (d : ℕ) (close : List ℕ → Option (Close × List ℕ)) (k : Close) (rest : List ℕ) → ((y : Close-F Close Cert) → LevelWithin d y → close (spelled y ++ rest) ≡ Some (roll-Close y, rest))
    → CloseWithin d k → close (close_text k ++ rest) ≡ Some (k, rest)
from_level d close k rest level within =
    let s = shape k in
    subst (λ k. CloseWithin d k → close (close_text k ++ rest) ≡ Some (k, rest)) s.1 (λ w. ap (λ t. close (t ++ rest)) (text_of s.0) ∙ level s.0 (opened d s.0 w)) within

pub cert_again : (d : ℕ) → Reads d
unfolding cert_at
cert_again zero c rest within = parts_read zero done_at c rest within (from_level zero done_at c.close rest (λ y w. level_flat y rest w))
cert_again (suc d) c rest within =
    parts_read (suc d) (end_at (psatz_at d) (cert_at d)) c rest within
    (from_level (suc d) (end_at (psatz_at d) (cert_at d)) c.close rest (λ y w. level_deep d (λ c rest within. cert_again d c rest within) y rest w))

-- ---- a certificate's line

line_on : (c : Cert) (rest : List ℕ) → cert_line c ++ rest ≡ codes "cert " ++ (cert_text c ++ 10 ∷ rest)
line_on c rest = ap (λ t. codes "cert " ++ t) (append_assoc (cert_text c) (10 ∷ []) rest)

pub cert_line_takes : (bytes : List ℕ) (c : Cert) (rest : List ℕ) → cert_line_at bytes ≡ Some (c, rest) → (bytes ≡ cert_line c ++ rest) × IsCert c
unfolding cert_line_at
cert_line_takes bytes c rest read =
    let w = bind_some (after (codes "cert ") bytes) (λ line. cert_at 4096 line >>= λ c. after (10 ∷ []) c.1 >>= λ r. Some (c.0, r)) (c, rest) read in
    let a = bind_some (cert_at 4096 w.0) (λ c. after (10 ∷ []) c.1 >>= λ r. Some (c.0, r)) (c, rest) w.2 in
    let b = bind_some (after (10 ∷ []) a.0.1) (λ r. Some (a.0.0, r)) (c, rest) a.2 in
    let t = cert_takes 4096 w.0 a.0.0 a.0.1 a.1 in
    let within = t.within in
    let text : bytes ≡ cert_line a.0.0 ++ b.0 = after_takes (codes "cert ") bytes w.0 w.1 ∙ ap (λ t. codes "cert " ++ t) (t.text ∙ ap (λ t. cert_text a.0.0 ++ t) (after_takes (10 ∷ []) a.0.1 b.0 b.1)) ∙ sym (line_on a.0.0 b.0) in
    subst (λ (p : Cert × List ℕ). (bytes ≡ cert_line p.0 ++ p.1) × IsCert p.0) (same_Some (a.0.0, b.0) (c, rest) b.2) (text, record { depth = within.flat; constants = within.in_range; parts = within.inside })

pub cert_line_again : (c : Cert) (rest : List ℕ) → IsCert c → cert_line_at (cert_line c ++ rest) ≡ Some (c, rest)
unfolding cert_line_at
cert_line_again c rest is =
    let read = cert_again 4096 c (10 ∷ rest) (record { flat = is.depth; in_range = is.constants; inside = is.parts }) in
    ap cert_line_at (line_on c rest) ∙ rw read refl

-- no line of a certificate is read where none stands, and none stands where none is read
pub no_cert_at : (bytes : List ℕ) → cert_line_at bytes ≡ None → BeginsCert bytes → ⊥
no_cert_at bytes none (c, rest, is, text) =
    let read : cert_line_at bytes ≡ Some (c, rest) = ap cert_line_at text ∙ cert_line_again c rest is in
    cc

pub not_read : (bytes : List ℕ) → (BeginsCert bytes → ⊥) → cert_line_at bytes ≡ None
not_read bytes other = elim (cert_line_at bytes) as (λ o. cert_line_at bytes ≡ o → o ≡ None) [
  | None ↦ λ e. refl
  | Some x ↦ λ e. absurd (let t = cert_line_takes bytes x.0 x.1 e in other (x.0, x.1, t.1, t.0))
] refl
