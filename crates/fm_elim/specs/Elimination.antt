-- The elimination: tidy rows, and one rule after another until no unknown is left.
use Rattle.std.specs.Prelude.{ℕ, zero, suc, ◌+◌, max, List, [], ◌∷◌, Bool, true, false, Result, Ok, Err}
use Rattle.std.specs.List.{remove}
use Rattle.mm_num.specs.Result.{◌>>=◌}
use Rattle.mm_poly.specs.Poly.{norm, spread}
use Rattle.cert_kit.specs.declared.row.PRow.{PRow}
use Rattle.fm_elim.specs.declared.rule.Rule.{Rule}
use Rattle.fm_elim.specs.declared.rule.Rule.TheVariants.{Finished, Solve, Halve, Exact, Inexact}
use Rattle.fm_elim.specs.declared.removal.Removal.{Removal}
use Rattle.fm_elim.specs.declared.removal.Removal.TheVariants.{Solved, Bounded}
use Rattle.fm_elim.specs.Unknowns.{lowers, uppers}
use Rattle.fm_elim.specs.Tidy.{End, Point, Grey, Over, tidied}
use Rattle.fm_elim.specs.Steps.{rule_of, poly_at, solved, halved, eliminated}

-- how it ends, what gave or bounds the unknowns that exact steps removed, in order, and the greatest norm of a tidy row
pub record Outcome : Type 0 where
  pub end : End
  pub removed : List Removal
  pub norm : ℕ

abbrev pub stopped : End → Outcome
stopped e = record { end = e; removed = []; norm = 0 }

abbrev pub removing : Removal → Outcome → Outcome
removing r o = record { end = o.end; removed = r ∷ o.removed; norm = o.norm }

abbrev pub greatest_norm : List PRow → ℕ
greatest_norm [] = 0
greatest_norm (r ∷ rows) = max (norm r.poly) (greatest_norm rows)

abbrev pub standing : List PRow → Outcome → Outcome
standing rows o = record { end = o.end; removed = o.removed; norm = max (greatest_norm rows) o.norm }

abbrev pub next : (List PRow → Outcome) → Result (List PRow) End → Outcome
next go (Ok rows) = go rows
next go (Err e) = stopped e

abbrev pub end_of : Bool → End
end_of true = Point
end_of false = Grey

-- what comes of a rule, where `go` is what comes of the tidy rows after it; only rule 4 clears `exact`
abbrev pub by_rule : (Bool → List PRow → Outcome) → Bool → List PRow → Rule → Outcome
by_rule go exact rows Finished = stopped (end_of exact)
by_rule go exact rows (Solve k u) = removing (Solved u (poly_at k rows)) (next (go exact) (solved u (poly_at k rows) (remove rows k) >>= tidied))
by_rule go exact rows (Halve k) = next (go exact) (tidied (halved k rows))
by_rule go exact rows (Exact u) = removing (Bounded u (lowers u rows) (uppers u rows)) (next (go exact) (eliminated u rows >>= tidied))
by_rule go exact rows (Inexact u) = next (go false) (eliminated u rows >>= tidied)

-- at most n steps from tidy rows
abbrev pub outcome_in : ℕ → Bool → List PRow → Outcome
outcome_in zero exact rows = stopped Over
outcome_in (suc n) exact rows = standing rows (by_rule (outcome_in n) exact rows (rule_of rows))

-- there are fewer steps than terms and rows together: each removes an unknown or an equality
abbrev pub enough_steps : List PRow → ℕ
enough_steps [] = 1
enough_steps (r ∷ rows) = spread r.poly + 1 + enough_steps rows

abbrev pub outcome : List PRow → Outcome
outcome rows = next (λ kept. outcome_in (enough_steps kept) true kept) (tidied rows)

-- how the elimination of rows ends
abbrev pub elimination : List PRow → End
elimination rows = (outcome rows).end
