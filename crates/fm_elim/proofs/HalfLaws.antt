-- The rows with one of them in two halves.
use Rattle.std.specs.Prelude.{◌≡◌, ℕ, zero, suc, ◌+◌, ◌<◌, ◌==◌, List, [], ◌∷◌, length, true, false, refl}
use Rattle.std.proofs.Common.{ap, ◌∙◌, arith}
use Rattle.cert_kit.specs.declared.row.PRow.{PRow}
use Rattle.fm_elim.specs.Steps.{halved}
use Rattle.fm_elim.specs.machine.Halves.{half_of, other_half_of, halved_from}

past : (rows : List PRow) (k n : ℕ) → k < n → halved_from rows k n ≡ rows
past [] k n h = refl
past (r ∷ rows) k n h =
    let e : (n == k) ≡ false = grind arith in
    rw e (ap (λ (q : List PRow). r ∷ q) (past rows k (n + 1) (omega arith)))

-- the one at k from n on
from : (rows : List PRow) (k n : ℕ) → k < length rows → halved_from rows (n + k) n ≡ halved k rows
from [] k n h = absurd (omega arith)
from (r ∷ rows) zero n h =
    let e : (n == n + 0) ≡ true = grind arith in
    rw e (ap (λ (q : List PRow). half_of r ∷ other_half_of r ∷ q) (past rows (n + 0) (n + 1) (omega arith)))
from (r ∷ rows) (suc k) n h =
    let e : (n == n + suc k) ≡ false = grind arith in
    let s : n + suc k ≡ n + 1 + k = omega arith in
    rw e (ap (λ (q : List PRow). r ∷ q) (ap (λ m. halved_from rows m (n + 1)) s ∙ from rows k (n + 1) (omega arith)))

pub halved_is : (rows : List PRow) (k : ℕ) → k < length rows → halved_from rows k 0 ≡ halved k rows
halved_is rows k h = let e : k ≡ 0 + k = omega arith in ap (λ m. halved_from rows m 0) e ∙ from rows k 0 h
