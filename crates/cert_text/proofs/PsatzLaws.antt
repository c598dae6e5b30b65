-- An expression that is read is spelled so, and an expression that is spelled so is read.
use Rattle.std.proofs.Common.{◌≡◌, ℕ, zero, suc, ◌+◌, ◌^◌, ◌<◌, ◌≤◌, max, Bool, true, false, ltb, inl, inr, List, ◌++◌, Some, None, refl, sym, ap, subst, ◌∙◌, append_assoc, arith}
use Rattle.std.specs.Prelude.{◌&&◌, ℤ, pos, negsuc, int_le, codes, decimal}
use Rattle.std.proofs.lemmas.Bool.{ltb-true, leb-true, lt-ltb, le-leb, and_parts, and_from}
use Rattle.std.proofs.lemmas.Option.{same_Some}
use Rattle.mm_num.specs.Option.{◌>>=◌}
use Rattle.mm_num.proofs.OptionLaws.{bind_some, choice_some}
use Rattle.mm_poly.specs.declared.term.Term.{Term}
use Rattle.cert_kit.specs.declared.cert.Psatz.{Psatz, roll-Psatz, map-Psatz}
use Rattle.cert_kit.specs.declared.cert.Psatz.TheOpen.{Psatz-F}
use Rattle.cert_kit.specs.declared.cert.Psatz.TheVariants.{Hyp, Square, MulPoly, Mul, Add, Const, Zero, rolls-Hyp, rolls-Square, rolls-MulPoly, rolls-Mul, rolls-Add, rolls-Const, rolls-Zero}
use Rattle.cert_kit.specs.declared.cert.Psatz.TheFolds.{fold-roll-Psatz, ind-Psatz}
use Rattle.cert_kit.specs.Depth.{psatz_depth, psatz_level, has_constants_in_range, psatz_in_range, is_constant_in_range}
use Rattle.mm_poly.specs.Tests.{is_polynomial}
use Rattle.cert_text.specs.Text.{poly_text, psatz_text, psatz_spelling}
use Rattle.cert_text.specs.Check.{is_psatz_within, psatz_level_within}
use Rattle.cert_text.specs.Reading.{after, number_at, positive_at, poly_at, hyp_at, const_at, leaf_at, square_at, mulp_at, pair_at, of_pair_at, node_at, psatz_at}
use Rattle.cert_text.proofs.WordLaws.{after_takes}
use Rattle.cert_text.proofs.NumberLaws.{room, small, number_takes, number_again, positive_takes, positive_again, begins_digit}
use Rattle.mm_poly.specs.Poly.{Fits}
use Rattle.mm_poly.proofs.TestLaws.{fits_given, fits_from}
use Rattle.cert_text.proofs.RowLaws.{poly_takes, poly_again}

-- ---- the limits, level by level

-- at most d deep, with constants and parts within their limits
pub record Within (d depth : ℕ) (constants parts : Bool) : Type 0 where
  pub flat : depth ≤ d
  pub in_range : constants ≡ true
  pub inside : parts ≡ true

-- two parts, side by side
pub beside : (d m n : ℕ) (a b p q : Bool) → Within d m a p → Within d n b q → Within d (max m n) (a && b) (p && q)
beside d m n a b p q first second =
    let x = first.flat in
    let y = second.flat in
    record { flat = omega arith; in_range = and_from a b first.in_range second.in_range; inside = and_from p q first.inside second.inside }

pub apart : (d m n : ℕ) (a b p q : Bool) → Within d (max m n) (a && b) (p && q) → Within d m a p × Within d n b q
apart d m n a b p q both =
    let x = both.flat in
    let r = and_parts a b both.in_range in
    let s = and_parts p q both.inside in
    (record { flat = omega arith; in_range = r.0; inside = s.0 }, record { flat = omega arith; in_range = r.1; inside = s.1 })

-- one level more
pub deeper : (d n : ℕ) (a p : Bool) → Within d n a p → Within (suc d) (n + 1) a p
deeper d n a p within = let x = within.flat in record { flat = omega arith; in_range = within.in_range; inside = within.inside }

pub part_of : (d n : ℕ) (a p : Bool) → Within (suc d) (n + 1) a p → Within d n a p
part_of d n a p within = let x = within.flat in record { flat = omega arith; in_range = within.in_range; inside = within.inside }

-- an expression of at most this depth
abbrev pub PsatzWithin : ℕ → Psatz → Type 0
PsatzWithin d e = Within d (psatz_depth e) (has_constants_in_range e) (is_psatz_within e)

abbrev pub LevelWithin : ℕ → Psatz-F Psatz → Type 0
LevelWithin d y = Within d (psatz_level (map-Psatz Psatz ℕ psatz_depth y)) (psatz_in_range (map-Psatz Psatz Bool has_constants_in_range y)) (psatz_level_within (map-Psatz Psatz Bool is_psatz_within y))

rolled : (d : ℕ) (y : Psatz-F Psatz) → LevelWithin d y → PsatzWithin d (roll-Psatz y)
rolled d y within = record {
  flat = subst (λ n. n ≤ d) (sym (fold-roll-Psatz ℕ psatz_level y)) within.flat;
  in_range = fold-roll-Psatz Bool psatz_in_range y ∙ within.in_range;
  inside = fold-roll-Psatz Bool psatz_level_within y ∙ within.inside;
}

opened : (d : ℕ) (y : Psatz-F Psatz) → PsatzWithin d (roll-Psatz y) → LevelWithin d y
opened d y within = record {
  flat = subst (λ n. n ≤ d) (fold-roll-Psatz ℕ psatz_level y) within.flat;
  in_range = sym (fold-roll-Psatz Bool psatz_in_range y) ∙ within.in_range;
  inside = sym (fold-roll-Psatz Bool psatz_level_within y) ∙ within.inside;
}

abbrev spelled : Psatz-F Psatz → List ℕ
spelled y = psatz_spelling (map-Psatz Psatz (List ℕ) psatz_text y)

text_of : (y : Psatz-F Psatz) → psatz_text (roll-Psatz y) ≡ spelled y
text_of y = fold-roll-Psatz (List ℕ) psatz_spelling y

-- two parts and the end after them, nested to the right
two_on : (first second rest : List ℕ) → (first ++ (codes ", " ++ (second ++ codes ")"))) ++ rest ≡ first ++ (codes ", " ++ (second ++ (codes ")" ++ rest)))
two_on first second rest = append_assoc first (codes ", " ++ (second ++ codes ")")) rest ∙ ap (λ t. first ++ (codes ", " ++ t)) (append_assoc second (codes ")") rest)

-- ---- what is read

pub record TakesPsatz (d : ℕ) (bytes : List ℕ) (e : Psatz) (rest : List ℕ) : Type 0 where
  pub text : bytes ≡ psatz_text e ++ rest
  pub within : PsatzWithin d e

made : (d : ℕ) (bytes : List ℕ) (y : Psatz-F Psatz) (e : Psatz) (rest : List ℕ) → roll-Psatz y ≡ e → bytes ≡ spelled y ++ rest → LevelWithin d y → TakesPsatz d bytes e rest
made d bytes y e rest is text within =
    subst (λ e. TakesPsatz d bytes e rest) is (record { text = text ∙ ap (λ t. t ++ rest) (sym (text_of y)); within = rolled d y within })

hyp_takes : (d : ℕ) (bytes line : List ℕ) (e : Psatz) (rest : List ℕ) → bytes ≡ codes "in " ++ line → hyp_at line ≡ Some (e, rest) → TakesPsatz d bytes e rest
hyp_takes d bytes line e rest opens read =
    let b = bind_some (number_at (2 ^ 32) line) (λ n. Some (Hyp n.0, n.1)) (e, rest) read in
    let n = number_takes (2 ^ 32) line b.0.0 b.0.1 room b.1 in
    let text : bytes ≡ spelled (Psatz-F.Hyp b.0.0) ++ b.0.1 = opens ∙ ap (λ t. codes "in " ++ t) n.text in
    subst (λ (p : Psatz × List ℕ). TakesPsatz d bytes p.0 p.1) (same_Some (Hyp b.0.0, b.0.1) (e, rest) b.2)
    (made d bytes (Psatz-F.Hyp b.0.0) (Hyp b.0.0) b.0.1 (rolls-Hyp b.0.0) text (record { flat = omega arith; in_range = refl; inside = lt-ltb b.0.0 (2 ^ 32) n.below }))

const_takes : (d : ℕ) (bytes line : List ℕ) (e : Psatz) (rest : List ℕ) → bytes ≡ codes "const " ++ line → const_at line ≡ Some (e, rest) → TakesPsatz d bytes e rest
const_takes d bytes line e rest opens read =
    let b = bind_some (positive_at (2 ^ 126) line) (λ n. Some (Const (pos n.0), n.1)) (e, rest) read in
    let n = positive_takes (2 ^ 126) line b.0.0 b.0.1 small b.1 in
    let number = n.0 in
    let text : bytes ≡ spelled (Psatz-F.Const (pos b.0.0)) ++ b.0.1 = opens ∙ ap (λ t. codes "const " ++ t) number.text in
    let range : is_constant_in_range (pos b.0.0) ≡ true = and_from (int_le (pos 1) (pos b.0.0)) (ltb b.0.0 (2 ^ 126)) (le-leb 1 b.0.0 (omega (arith, n.1))) (lt-ltb b.0.0 (2 ^ 126) number.below) in
    subst (λ (p : Psatz × List ℕ). TakesPsatz d bytes p.0 p.1) (same_Some (Const (pos b.0.0), b.0.1) (e, rest) b.2)
    (made d bytes (Psatz-F.Const (pos b.0.0)) (Const (pos b.0.0)) b.0.1 (rolls-Const (pos b.0.0)) text (record { flat = omega arith; in_range = range; inside = refl }))

zero_takes : (d : ℕ) (bytes rest : List ℕ) → bytes ≡ codes "zero" ++ rest → TakesPsatz d bytes Zero rest
zero_takes d bytes rest opens = made d bytes Psatz-F.Zero Zero rest rolls-Zero opens (record { flat = omega arith; in_range = refl; inside = refl })

leaf_takes : (d : ℕ) (bytes : List ℕ) (e : Psatz) (rest : List ℕ) → leaf_at bytes ≡ Some (e, rest) → TakesPsatz d bytes e rest
unfolding leaf_at
leaf_takes d bytes e rest read =
    elim (choice_some (after (codes "in ") bytes) hyp_at (elim (after (codes "const ") bytes) [ Some r ↦ const_at r | None ↦ elim (after (codes "zero") bytes) [ Some r ↦ Some (Zero, r) | None ↦ None ] ]) (e, rest) read) [
      | inl h ↦ hyp_takes d bytes h.0 e rest (after_takes (codes "in ") bytes h.0 h.1) h.2
      | inr h ↦ elim (choice_some (after (codes "const ") bytes) const_at (elim (after (codes "zero") bytes) [ Some r ↦ Some (Zero, r) | None ↦ None ]) (e, rest) h.1) [
        | inl k ↦ const_takes d bytes k.0 e rest (after_takes (codes "const ") bytes k.0 k.1) k.2
        | inr k ↦ elim (choice_some (after (codes "zero") bytes) (λ r. Some (Zero, r)) None (e, rest) k.1) [
          | inl z ↦ subst (λ (p : Psatz × List ℕ). TakesPsatz d bytes p.0 p.1) (same_Some (Zero, z.0) (e, rest) z.2) (zero_takes d bytes z.0 (after_takes (codes "zero") bytes z.0 z.1))
          | inr z ↦ absurd (let none = z.1 in cc)
        ]
      ]
    ]

square_takes : (d : ℕ) (bytes line : List ℕ) (e : Psatz) (rest : List ℕ) → bytes ≡ codes "square(" ++ line → square_at line ≡ Some (e, rest) → TakesPsatz (suc d) bytes e rest
square_takes d bytes line e rest opens read =
    let a = bind_some (poly_at line) (λ p. after (codes ")") p.1 >>= λ r. Some (Square p.0, r)) (e, rest) read in
    let b = bind_some (after (codes ")") a.0.1) (λ r. Some (Square a.0.0, r)) (e, rest) a.2 in
    let p = poly_takes line a.0.0 a.0.1 a.1 in
    let text : bytes ≡ spelled (Psatz-F.Square a.0.0) ++ b.0 =
    opens ∙ ap (λ t. codes "square(" ++ t) (p.text ∙ ap (λ t. poly_text a.0.0 ++ t) (after_takes (codes ")") a.0.1 b.0 b.1) ∙ sym (append_assoc (poly_text a.0.0) (codes ")") b.0)) in
    subst (λ (q : Psatz × List ℕ). TakesPsatz (suc d) bytes q.0 q.1) (same_Some (Square a.0.0, b.0) (e, rest) b.2)
    (made (suc d) bytes (Psatz-F.Square a.0.0) (Square a.0.0) b.0 (rolls-Square a.0.0) text (record { flat = omega arith; in_range = refl; inside = fits_from a.0.0 p.fits }))

-- reading with this depth takes what is spelled
abbrev pub Takes : ℕ → Type 0
Takes d = (bytes : List ℕ) (e : Psatz) (rest : List ℕ) → psatz_at d bytes ≡ Some (e, rest) → TakesPsatz d bytes e rest

mulp_takes : (d : ℕ) → Takes d → (bytes line : List ℕ) (e : Psatz) (rest : List ℕ) → bytes ≡ codes "mulp(" ++ line → mulp_at (psatz_at d) line ≡ Some (e, rest) → TakesPsatz (suc d) bytes e rest
mulp_takes d takes bytes line e rest opens read =
    let a = bind_some (poly_at line) (λ p. after (codes ", ") p.1 >>= λ r. psatz_at d r >>= λ e. after (codes ")") e.1 >>= λ end. Some (MulPoly p.0 e.0, end)) (e, rest) read in
    let b = bind_some (after (codes ", ") a.0.1) (λ r. psatz_at d r >>= λ e. after (codes ")") e.1 >>= λ end. Some (MulPoly a.0.0 e.0, end)) (e, rest) a.2 in
    let c = bind_some (psatz_at d b.0) (λ e. after (codes ")") e.1 >>= λ end. Some (MulPoly a.0.0 e.0, end)) (e, rest) b.2 in
    let k = bind_some (after (codes ")") c.0.1) (λ end. Some (MulPoly a.0.0 c.0.0, end)) (e, rest) c.2 in
    let p = poly_takes line a.0.0 a.0.1 a.1 in
    let q = takes b.0 c.0.0 c.0.1 c.1 in
    let text : bytes ≡ spelled (Psatz-F.MulPoly a.0.0 c.0.0) ++ k.0 =
    opens ∙ ap (λ t. codes "mulp(" ++ t) (p.text ∙ ap (λ t. poly_text a.0.0 ++ t) (after_takes (codes ", ") a.0.1 b.0 b.1 ∙ ap (λ t. codes ", " ++ t) (q.text ∙ ap (λ t. psatz_text c.0.0 ++ t) (after_takes (codes ")") c.0.1 k.0 k.1)))
    ∙ sym (two_on (poly_text a.0.0) (psatz_text c.0.0) k.0)) in
    let part = deeper d (psatz_depth c.0.0) (has_constants_in_range c.0.0) (is_psatz_within c.0.0) q.within in
    subst (λ (q : Psatz × List ℕ). TakesPsatz (suc d) bytes q.0 q.1) (same_Some (MulPoly a.0.0 c.0.0, k.0) (e, rest) k.2)
    (made (suc d) bytes (Psatz-F.MulPoly a.0.0 c.0.0) (MulPoly a.0.0 c.0.0) k.0 (rolls-MulPoly a.0.0 c.0.0) text
    (record { flat = part.flat; in_range = part.in_range; inside = and_from (is_polynomial a.0.0) (is_psatz_within c.0.0) (fits_from a.0.0 p.fits) part.inside }))

-- two expressions, one after the other
pub record TakesPair (d : ℕ) (bytes : List ℕ) (p : Psatz × Psatz) (rest : List ℕ) : Type 0 where
  pub text : bytes ≡ psatz_text p.0 ++ (codes ", " ++ (psatz_text p.1 ++ rest))
  pub first : PsatzWithin d p.0
  pub second : PsatzWithin d p.1

pub pair_takes : (d : ℕ) → Takes d → (bytes : List ℕ) (p : Psatz × Psatz) (rest : List ℕ) → pair_at (psatz_at d) bytes ≡ Some (p, rest) → TakesPair d bytes p rest
pair_takes d takes bytes p rest read =
    let a = bind_some (psatz_at d bytes) (λ e. after (codes ", ") e.1 >>= λ r. psatz_at d r >>= λ f. Some ((e.0, f.0), f.1)) (p, rest) read in
    let b = bind_some (after (codes ", ") a.0.1) (λ r. psatz_at d r >>= λ f. Some ((a.0.0, f.0), f.1)) (p, rest) a.2 in
    let c = bind_some (psatz_at d b.0) (λ f. Some ((a.0.0, f.0), f.1)) (p, rest) b.2 in
    let e = takes bytes a.0.0 a.0.1 a.1 in
    let f = takes b.0 c.0.0 c.0.1 c.1 in
    let text : bytes ≡ psatz_text a.0.0 ++ (codes ", " ++ (psatz_text c.0.0 ++ c.0.1)) =
    e.text ∙ ap (λ t. psatz_text a.0.0 ++ t) (after_takes (codes ", ") a.0.1 b.0 b.1 ∙ ap (λ t. codes ", " ++ t) f.text) in
    subst (λ (q : (Psatz × Psatz) × List ℕ). TakesPair d bytes q.0 q.1) (same_Some ((a.0.0, c.0.0), c.0.1) (p, rest) c.2) (record { text = text; first = e.within; second = f.within })

both_within : (d : ℕ) (e f : Psatz) → PsatzWithin d e → PsatzWithin d f → LevelWithin (suc d) (Psatz-F.Add e f)
both_within d e f first second =
    deeper d (max (psatz_depth e) (psatz_depth f)) (has_constants_in_range e && has_constants_in_range f) (is_psatz_within e && is_psatz_within f)
    (beside d (psatz_depth e) (psatz_depth f) (has_constants_in_range e) (has_constants_in_range f) (is_psatz_within e) (is_psatz_within f) first second)

-- the parts of a pair and the end after it
two_take : (d : ℕ) (make : Psatz → Psatz → Psatz) → Takes d → (line : List ℕ) (e : Psatz) (rest : List ℕ) → of_pair_at make (psatz_at d) line ≡ Some (e, rest)
    → (p : Psatz × Psatz) × (line ≡ (psatz_text p.0 ++ (codes ", " ++ (psatz_text p.1 ++ codes ")"))) ++ rest) × LevelWithin (suc d) (Psatz-F.Add p.0 p.1) × (make p.0 p.1 ≡ e)
two_take d make takes line e rest read =
    let a = bind_some (pair_at (psatz_at d) line) (λ p. after (codes ")") p.1 >>= λ r. Some (make p.0.0 p.0.1, r)) (e, rest) read in
    let b = bind_some (after (codes ")") a.0.1) (λ r. Some (make a.0.0.0 a.0.0.1, r)) (e, rest) a.2 in
    let p = pair_takes d takes line a.0.0 a.0.1 a.1 in
    let same = same_Some (make a.0.0.0 a.0.0.1, b.0) (e, rest) b.2 in
    let follows : b.0 ≡ rest = ap (λ (q : Psatz × List ℕ). q.1) same in
    let text : line ≡ (psatz_text a.0.0.0 ++ (codes ", " ++ (psatz_text a.0.0.1 ++ codes ")"))) ++ rest =
    p.text ∙ ap (λ t. psatz_text a.0.0.0 ++ (codes ", " ++ (psatz_text a.0.0.1 ++ t))) (after_takes (codes ")") a.0.1 b.0 b.1 ∙ ap (λ t. codes ")" ++ t) follows) ∙ sym (two_on (psatz_text a.0.0.0) (psatz_text a.0.0.1) rest) in
    (a.0.0, text, both_within d a.0.0.0 a.0.0.1 p.first p.second, ap (λ (q : Psatz × List ℕ). q.0) same)

node_takes : (d : ℕ) → Takes d → (bytes : List ℕ) (e : Psatz) (rest : List ℕ) → node_at (psatz_at d) bytes ≡ Some (e, rest) → TakesPsatz (suc d) bytes e rest
unfolding node_at
node_takes d takes bytes e rest read =
    let part = psatz_at d in
    elim (choice_some (after (codes "add(") bytes) (of_pair_at Add part) (elim (after (codes "mul(") bytes) [
      | Some r ↦ of_pair_at Mul part r
      | None ↦ elim (after (codes "mulp(") bytes) [
        | Some r ↦ mulp_at part r
        | None ↦ elim (after (codes "square(") bytes) [ Some r ↦ square_at r | None ↦ leaf_at bytes ]
      ]
    ]) (e, rest) read) [
      | inl h ↦
          let t = two_take d Add takes h.0 e rest h.2 in
          made (suc d) bytes (Psatz-F.Add t.0.0 t.0.1) e rest (rolls-Add t.0.0 t.0.1 ∙ t.3) (after_takes (codes "add(") bytes h.0 h.1 ∙ ap (λ t. codes "add(" ++ t) t.1) t.2
      | inr h ↦ elim (choice_some (after (codes "mul(") bytes) (of_pair_at Mul part) (elim (after (codes "mulp(") bytes) [
        | Some r ↦ mulp_at part r
        | None ↦ elim (after (codes "square(") bytes) [ Some r ↦ square_at r | None ↦ leaf_at bytes ]
      ]) (e, rest) h.1) [
        | inl h ↦
            let t = two_take d Mul takes h.0 e rest h.2 in
            made (suc d) bytes (Psatz-F.Mul t.0.0 t.0.1) e rest (rolls-Mul t.0.0 t.0.1 ∙ t.3) (after_takes (codes "mul(") bytes h.0 h.1 ∙ ap (λ t. codes "mul(" ++ t) t.1) t.2
        | inr h ↦ elim (choice_some (after (codes "mulp(") bytes) (mulp_at part) (elim (after (codes "square(") bytes) [ Some r ↦ square_at r | None ↦ leaf_at bytes ]) (e, rest) h.1) [
          | inl h ↦ mulp_takes d takes bytes h.0 e rest (after_takes (codes "mulp(") bytes h.0 h.1) h.2
          | inr h ↦ elim (choice_some (after (codes "square(") bytes) square_at (leaf_at bytes) (e, rest) h.1) [
            | inl h ↦ square_takes d bytes h.0 e rest (after_takes (codes "square(") bytes h.0 h.1) h.2
            | inr h ↦ leaf_takes (suc d) bytes e rest h.1
          ]
        ]
      ]
    ]

pub psatz_takes : (d : ℕ) → Takes d
unfolding psatz_at
psatz_takes zero bytes e rest read = leaf_takes zero bytes e rest read
psatz_takes (suc d) bytes e rest read = node_takes d (λ bytes e rest read. psatz_takes d bytes e rest read) bytes e rest read

-- ---- reading again

hyp_read : (d n : ℕ) (rest : List ℕ) → n < 2 ^ 32 → begins_digit rest ≡ false → psatz_at d (codes "in " ++ (decimal n ++ rest)) ≡ Some (Hyp n, rest)
unfolding psatz_at node_at leaf_at
hyp_read d n rest below stop =
    let number = number_again (2 ^ 32) n rest room below stop in
    let again : leaf_at (codes "in " ++ (decimal n ++ rest)) ≡ Some (Hyp n, rest) = rw number refl in
    elim d as (λ d. psatz_at d (codes "in " ++ (decimal n ++ rest)) ≡ Some (Hyp n, rest)) [ zero ↦ again | suc k ↦ again ]

const_read : (d n : ℕ) (rest : List ℕ) → 0 < n → n < 2 ^ 126 → begins_digit rest ≡ false → psatz_at d (codes "const " ++ (decimal n ++ rest)) ≡ Some (Const (pos n), rest)
unfolding psatz_at node_at leaf_at
const_read d n rest positive below stop =
    let number = positive_again (2 ^ 126) n rest small positive below stop in
    let again : leaf_at (codes "const " ++ (decimal n ++ rest)) ≡ Some (Const (pos n), rest) = rw number refl in
    elim d as (λ d. psatz_at d (codes "const " ++ (decimal n ++ rest)) ≡ Some (Const (pos n), rest)) [ zero ↦ again | suc k ↦ again ]

zero_read : (d : ℕ) (rest : List ℕ) → psatz_at d (codes "zero" ++ rest) ≡ Some (Zero, rest)
unfolding psatz_at node_at leaf_at
zero_read d rest = elim d as (λ d. psatz_at d (codes "zero" ++ rest) ≡ Some (Zero, rest)) [ zero ↦ refl | suc k ↦ refl ]

square_read : (d : ℕ) (p : List Term) (rest : List ℕ) → Fits p → psatz_at (suc d) (codes "square(" ++ (poly_text p ++ (codes ")" ++ rest))) ≡ Some (Square p, rest)
unfolding psatz_at node_at
square_read d p rest are = let q = poly_again p (codes ")" ++ rest) are refl refl in rw q refl

-- the text of each expression within the limits is read as that expression
abbrev pub Reads : ℕ → Type 0
Reads d = (e : Psatz) (rest : List ℕ) → PsatzWithin d e → begins_digit rest ≡ false → psatz_at d (psatz_text e ++ rest) ≡ Some (e, rest)

mulp_read : (d : ℕ) → Reads d → (p : List Term) (e : Psatz) (rest : List ℕ) → Fits p → PsatzWithin d e
    → psatz_at (suc d) (codes "mulp(" ++ (poly_text p ++ (codes ", " ++ (psatz_text e ++ (codes ")" ++ rest))))) ≡ Some (MulPoly p e, rest)
unfolding psatz_at node_at
mulp_read d reads p e rest are within =
    let q = poly_again p (codes ", " ++ (psatz_text e ++ (codes ")" ++ rest))) are refl refl in
    let part = reads e (codes ")" ++ rest) within refl in
    rw q (rw part refl)

pub pair_read : (d : ℕ) → Reads d → (e f : Psatz) (rest : List ℕ) → PsatzWithin d e → PsatzWithin d f → begins_digit rest ≡ false
    → pair_at (psatz_at d) (psatz_text e ++ (codes ", " ++ (psatz_text f ++ rest))) ≡ Some ((e, f), rest)
pair_read d reads e f rest first second stop =
    let a = reads e (codes ", " ++ (psatz_text f ++ rest)) first refl in
    let b = reads f rest second stop in
    rw a (rw b refl)

add_read : (d : ℕ) → Reads d → (e f : Psatz) (rest : List ℕ) → PsatzWithin d e → PsatzWithin d f
    → psatz_at (suc d) (codes "add(" ++ (psatz_text e ++ (codes ", " ++ (psatz_text f ++ (codes ")" ++ rest))))) ≡ Some (Add e f, rest)
unfolding psatz_at node_at
add_read d reads e f rest first second =
    let a = reads e (codes ", " ++ (psatz_text f ++ (codes ")" ++ rest))) first refl in
    let b = reads f (codes ")" ++ rest) second refl in
    rw a (rw b refl)

mul_read : (d : ℕ) → Reads d → (e f : Psatz) (rest : List ℕ) → PsatzWithin d e → PsatzWithin d f
    → psatz_at (suc d) (codes "mul(" ++ (psatz_text e ++ (codes ", " ++ (psatz_text f ++ (codes ")" ++ rest))))) ≡ Some (Mul e f, rest)
unfolding psatz_at node_at
mul_read d reads e f rest first second =
    let a = reads e (codes ", " ++ (psatz_text f ++ (codes ")" ++ rest))) first refl in
    let b = reads f (codes ")" ++ rest) second refl in
    rw a (rw b refl)

-- a constant in its range is a number from 1
const_of : (d : ℕ) (c : ℤ) (rest : List ℕ) → is_constant_in_range c ≡ true → begins_digit rest ≡ false → psatz_at d (spelled (Psatz-F.Const c) ++ rest) ≡ Some (Const c, rest)
const_of d (pos n) rest range stop =
    let parts = and_parts (int_le (pos 1) (pos n)) (ltb n (2 ^ 126)) range in
    const_read d n rest (omega (arith, leb-true 1 n parts.0)) (ltb-true n (2 ^ 126) parts.1) stop
const_of d (negsuc n) rest range stop = absurd (cc)

-- the text of a level is read as that level
abbrev ReadsLevel : ℕ → Psatz-F Psatz → List ℕ → Type 0
ReadsLevel d y rest = psatz_at d (spelled y ++ rest) ≡ Some (roll-Psatz y, rest)

level_flat : (y : Psatz-F Psatz) (rest : List ℕ) → LevelWithin 0 y → begins_digit rest ≡ false → ReadsLevel 0 y rest
level_flat (Psatz-F.Hyp n) rest w stop = hyp_read 0 n rest (ltb-true n (2 ^ 32) w.inside) stop ∙ ap (λ e. Some (e, rest)) (sym (rolls-Hyp n))
level_flat (Psatz-F.Const c) rest w stop = const_of 0 c rest w.in_range stop ∙ ap (λ e. Some (e, rest)) (sym (rolls-Const c))
level_flat Psatz-F.Zero rest w stop = zero_read 0 rest ∙ ap (λ e. Some (e, rest)) (sym rolls-Zero)
level_flat (Psatz-F.Square p) rest w stop = absurd (let k = w.flat in omega arith)
level_flat (Psatz-F.MulPoly p e) rest w stop = absurd (let k = w.flat in omega arith)
level_flat (Psatz-F.Mul e f) rest w stop = absurd (let k = w.flat in omega arith)
level_flat (Psatz-F.Add e f) rest w stop = absurd (let k = w.flat in omega arith)

pair_parts : (d : ℕ) (e f : Psatz) → LevelWithin (suc d) (Psatz-F.Add e f) → PsatzWithin d e × PsatzWithin d f
pair_parts d e f w =
    apart d (psatz_depth e) (psatz_depth f) (has_constants_in_range e) (has_constants_in_range f) (is_psatz_within e) (is_psatz_within f)
    (part_of d (max (psatz_depth e) (psatz_depth f)) (has_constants_in_range e && has_constants_in_range f) (is_psatz_within e && is_psatz_within f) w)

level_deep : (d : ℕ) → Reads d → (y : Psatz-F Psatz) (rest : List ℕ) → LevelWithin (suc d) y → begins_digit rest ≡ false → ReadsLevel (suc d) y rest
level_deep d reads (Psatz-F.Hyp n) rest w stop = hyp_read (suc d) n rest (ltb-true n (2 ^ 32) w.inside) stop ∙ ap (λ e. Some (e, rest)) (sym (rolls-Hyp n))
level_deep d reads (Psatz-F.Const c) rest w stop = const_of (suc d) c rest w.in_range stop ∙ ap (λ e. Some (e, rest)) (sym (rolls-Const c))
level_deep d reads Psatz-F.Zero rest w stop = zero_read (suc d) rest ∙ ap (λ e. Some (e, rest)) (sym rolls-Zero)
level_deep d reads (Psatz-F.Square p) rest w stop =
    ap (λ t. psatz_at (suc d) (codes "square(" ++ t)) (append_assoc (poly_text p) (codes ")") rest) ∙ square_read d p rest (fits_given p w.inside) ∙ ap (λ e. Some (e, rest)) (sym (rolls-Square p))
level_deep d reads (Psatz-F.MulPoly p e) rest w stop =
    let parts = and_parts (is_polynomial p) (is_psatz_within e) w.inside in
    let flat = w.flat in
    let part : PsatzWithin d e = record { flat = omega arith; in_range = w.in_range; inside = parts.1 } in
    ap (λ t. psatz_at (suc d) (codes "mulp(" ++ t)) (two_on (poly_text p) (psatz_text e) rest) ∙ mulp_read d reads p e rest (fits_given p parts.0) part ∙ ap (λ e. Some (e, rest)) (sym (rolls-MulPoly p e))
level_deep d reads (Psatz-F.Mul e f) rest w stop =
    let parts = pair_parts d e f w in
    ap (λ t. psatz_at (suc d) (codes "mul(" ++ t)) (two_on (psatz_text e) (psatz_text f) rest) ∙ mul_read d reads e f rest parts.0 parts.1 ∙ ap (λ e. Some (e, rest)) (sym (rolls-Mul e f))
level_deep d reads (Psatz-F.Add e f) rest w stop =
    let parts = pair_parts d e f w in
    ap (λ t. psatz_at (suc d) (codes "add(" ++ t)) (two_on (psatz_text e) (psatz_text f) rest) ∙ add_read d reads e f rest parts.0 parts.1 ∙ ap (λ e. Some (e, rest)) (sym (rolls-Add e f))

-- an expression is one of the forms
shape : (e : Psatz) → (y : Psatz-F Psatz) × (roll-Psatz y ≡ e)
shape = ind-Psatz (λ e. (y : Psatz-F Psatz) × (roll-Psatz y ≡ e)) (λ d y is. (d, refl))

from_level : (d : ℕ) (e : Psatz) (rest : List ℕ) → ((y : Psatz-F Psatz) → LevelWithin d y → ReadsLevel d y rest) → PsatzWithin d e → psatz_at d (psatz_text e ++ rest) ≡ Some (e, rest)
from_level d e rest level within =
    let s = shape e in
    subst (λ e. PsatzWithin d e → psatz_at d (psatz_text e ++ rest) ≡ Some (e, rest)) s.1 (λ w. ap (λ t. psatz_at d (t ++ rest)) (text_of s.0) ∙ level s.0 (opened d s.0 w)) within

pub psatz_again : (d : ℕ) → Reads d
psatz_again zero e rest within stop = from_level zero e rest (λ y w. level_flat y rest w stop) within
psatz_again (suc d) e rest within stop = from_level (suc d) e rest (λ y w. level_deep d (λ e rest within stop. psatz_again d e rest within stop) y rest w stop) within
