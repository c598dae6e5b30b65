-- An exchange done line by line.
use Rattle.std.specs.Prelude.{◌≡◌, ◌≢◌, ℕ, zero, suc, ◌<◌, List, [], ◌∷◌, length, map, ℤ, pos, neg_ℤ, unsigned_abs, ◌^◌, ◌<ℤ◌, ◌≤ℤ◌, int_lt, true, false, if◌then◌else◌, refl}
use Rattle.std.proofs.Common.{ap, sym, ◌∙◌, subst, inl, inr, arith}
use Rattle.std.proofs.lemmas.Int.{ints}
use Rattle.std.proofs.lemmas.List.Elements.{All-map, All-weaker}
use Rattle.std.specs.List.{insert, remove}
use Rattle.simplex_core.specs.Form.{at, Among, Distinct, Line, basis_of}
use Rattle.simplex_core.specs.Walk.{AreNarrow}
use Rattle.simplex_core.specs.machine.Tableau.{negated, turned, moved, pivoted, line_at, swept_by, swept_all}
use Rattle.simplex_core.proofs.DotLaws.{length-negated}
use Rattle.simplex_core.proofs.ExchangeLaws.{Among-basis_of}
use Rattle.simplex_core.proofs.PivotLaws.{by_sign}
use Rattle.simplex_core.proofs.FormLaws.{moved_same, moved_other}
use Rattle.simplex_core.proofs.ChoiceLaws.{Among-get_or}

pub length-turned : (e : ℕ) (cs : List ℤ) → length (turned e cs) ≡ length cs
length-turned e cs = by_sign (λ ds. length ds ≡ length cs) (at cs e) (negated cs) cs (λ _. length-negated cs) (λ _. refl)

abs_neg : (c : ℤ) → unsigned_abs c < 2 ^ 30 → unsigned_abs (neg_ℤ c) < 2 ^ 30
abs_neg c h = omega (arith, ints, h)

pub negated_narrow : (cs : List ℤ) → AreNarrow cs → AreNarrow (negated cs)
negated_narrow cs h =
    All-map (λ c. unsigned_abs c < 2 ^ 30) neg_ℤ cs (All-weaker (λ c. unsigned_abs c < 2 ^ 30) (λ c. unsigned_abs (neg_ℤ c) < 2 ^ 30) abs_neg cs h)

pub turned_narrow : (e : ℕ) (cs : List ℤ) → AreNarrow cs → AreNarrow (turned e cs)
turned_narrow e cs h = by_sign AreNarrow (at cs e) (negated cs) cs (λ _. negated_narrow cs h) (λ _. h)

-- lines of other variables are swept
map_other : (s e : ℕ) (p : List ℤ) (form : List Line) → (Among s (basis_of form) → ⊥) → map (moved s e p) form ≡ map (swept_by e p) form
map_other s e p [] h = refl
map_other s e p (l ∷ form) h =
    ap (λ x. x ∷ map (moved s e p) form) (moved_other s e p l (λ z. h (inl (sym z))))
    ∙ ap (λ xs. swept_by e p l ∷ xs) (map_other s e p form (λ m. h (inr m)))

pub exchanged_at : (form : List Line) (i e : ℕ) (p : List ℤ) → i < length form → Distinct (basis_of form)
    → insert (swept_all e p (remove form i)) i (e, p) ≡ pivoted (line_at form i).0 e p form
exchanged_at [] i e p h d = absurd (omega arith)
exchanged_at (l ∷ form) zero e p h d =
    ap (λ xs. (e, p) ∷ xs) (sym (map_other l.0 e p form d.0)) ∙ ap (λ x. x ∷ map (moved l.0 e p) form) (sym (moved_same l.0 e p l refl))
exchanged_at (l ∷ form) (suc i) e p h d =
    let other : l.0 ≢ (line_at form i).0 = λ z. d.0 (subst (λ (x : ℕ). Among x (basis_of form)) (sym z)
    (Among-basis_of (line_at form i) form (Among-get_or form i (0, []) (omega arith)))) in
    ap (λ xs. swept_by e p l ∷ xs) (exchanged_at form i e p (omega arith) d.1)
    ∙ ap (λ x. x ∷ pivoted (line_at form i).0 e p form) (sym (moved_other (line_at form i).0 e p l other))

turned_test : (c : ℤ) → c <ℤ pos 0 → int_lt c (pos 0) ≡ true
turned_test c h = grind (arith, ints)

pub turned_below : (e : ℕ) (cs : List ℤ) → at cs e <ℤ pos 0 → turned e cs ≡ negated cs
turned_below e cs h = ap (λ t. if t then negated cs else cs) (turned_test (at cs e) h)

unturned_test : (c : ℤ) → pos 0 ≤ℤ c → int_lt c (pos 0) ≡ false
unturned_test c h = grind (arith, ints)

pub turned_above : (e : ℕ) (cs : List ℤ) → pos 0 ≤ℤ at cs e → turned e cs ≡ cs
turned_above e cs h = ap (λ t. if t then negated cs else cs) (unturned_test (at cs e) h)
