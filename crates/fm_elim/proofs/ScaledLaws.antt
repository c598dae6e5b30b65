-- A multiple by 1, and a row with its unknown taken out.
use Rattle.std.specs.Prelude.{◌≡◌, ℕ, ◌+◌, ◌*◌, ◌^◌, ◌<◌, ◌≤◌, ℤ, pos, ◌*ℤ◌, neg_ℤ, unsigned_abs, List, [], ◌∷◌, Bool, true, false, ◌||◌, nat_lt, nat_le, refl}
use Rattle.std.proofs.Common.{ap, sym, ◌∙◌, arith}
use Rattle.std.specs.Ordering.{int_eq}
use Rattle.std.proofs.lemmas.Bool.{and_parts}
use Rattle.mm_num.proofs.TestLaws.{is_int}
use Rattle.mm_poly.specs.declared.term.Term.{Term}
use Rattle.mm_poly.specs.Poly.{norm, spread, coeff_of, plus, scaled}
use Rattle.cert_kit.specs.declared.row.PRow.{PRow}
use Rattle.fm_elim.specs.Unknowns.{coeff_in}
use Rattle.fm_elim.specs.Steps.{has_room, substituted, solve_has_room}

-- the room that the limits leave for a row with the unknown
pub record HasRoomFor (r : PRow) (c : ℤ) (p : List Term) : Type 0 where
  pub norm_room : norm r.poly * 1 + norm p * unsigned_abs c < 2 ^ 126
  pub spread_room : spread r.poly + spread p ≤ 65536

pub room_for : (u : List (ℕ × ℕ)) (p : List Term) (r : PRow) → solve_has_room u p (r ∷ []) ≡ true → int_eq (coeff_in u r) (pos 0) ≡ false → HasRoomFor r (coeff_in u r) p
room_for u p r e n =
    let b = and_parts (int_eq (coeff_in u r) (pos 0) || has_room 1 r.poly (unsigned_abs (coeff_in u r)) p) true e in
    let room = ap (λ b. b || has_room 1 r.poly (unsigned_abs (coeff_in u r)) p) (sym n) ∙ b.0 in
    let parts = and_parts (nat_lt (norm r.poly * 1 + norm p * unsigned_abs (coeff_in u r)) (2 ^ 126)) (nat_le (spread r.poly + spread p) 65536) room in
    record { norm_room = below _ _ parts.0; spread_room = at_most _ _ parts.1 }
  where
    below : (m n : ℕ) → nat_lt m n ≡ true → m < n
    below m n e = grind arith

    at_most : (m n : ℕ) → nat_le m n ≡ true → m ≤ n
    at_most m n e = grind arith

pub taken_out : (u : List (ℕ × ℕ)) (p : List Term) (r : PRow) (times : ℤ) → int_eq (coeff_in u r) (pos 0) ≡ false → times ≡ neg_ℤ (coeff_of r.poly u *ℤ coeff_of p u)
    → substituted u p r ≡ record { poly = plus r.poly (scaled times p); op = r.op }
taken_out u p r times n e = rw n (ap (λ k. let a : PRow = record { poly = plus r.poly (scaled k p); op = r.op } in a) (sym e))

pub nonzero_test : (c : ℤ) → (c ≡ pos 0 → ⊥) → int_eq c (pos 0) ≡ false
nonzero_test c h = by_test (int_eq c (pos 0)) refl
  where
    by_test : (b : Bool) → int_eq c (pos 0) ≡ b → b ≡ false
    by_test true e = absurd (h (is_int c (pos 0) e))
    by_test false e = refl
