-- The alternative at a place, found by the numbers in a plan.
use Rattle.std.specs.Prelude.{ℕ, ◌-◌, ◌/◌, ◌%◌, ◌==◌, nat_lt, List, [], ◌∷◌, ◌++◌, map, Bool, true, false, not, slice_get, if◌then◌else◌}
use Rattle.std.specs.Borrow.{Bor}
use Rattle.std.specs.Option.{option_to_list}
use Rattle.cert_kit.specs.declared.row.PRow.{PRow}
use Rattle.clause_form.specs.declared.tally.Tally.{Tally}
use Rattle.clause_form.specs.declared.plan.Plan.{Plan}
use Rattle.clause_form.specs.declared.plan.Part.{Part}
use Rattle.clause_form.specs.declared.plan.Plan.TheOpen.{Plan-F}
use Rattle.clause_form.specs.declared.plan.Plan.TheFolds.{fold-Plan}
use Rattle.clause_form.specs.Alternatives.{Sides}
use Rattle.clause_form.specs.machine.Tally.{product}

-- rows that are lent
abbrev pub lent : List (Bor PRow) → List PRow
lent rows = map (λ r. r.now) rows

abbrev pub Walk : Type 0
Walk = Bool → ℕ → List PRow

abbrev pub side_of : Tally → Bool → ℕ
side_of t true = t.holds
side_of t false = t.fails

abbrev pub side : Bool → Sides → List (List PRow)
side true s = s.holds
side false s = s.fails

abbrev pub quotient : ℕ → ℕ → ℕ
quotient k n = if n == 0 then 0 else k / n

abbrev pub remainder : ℕ → ℕ → ℕ
remainder k n = if n == 0 then 0 else k % n

-- each of one part with each of the other
abbrev pub walk_pairs : Tally → Walk → Walk → Bool → Bool → ℕ → List PRow
walk_pairs u p q s r k = p s (quotient k (side_of u r)) ++ q r (remainder k (side_of u r))

abbrev pub walk_both : Tally → Tally → Walk → Walk → Walk
walk_both t u p q true k = walk_pairs u p q true true k
walk_both t u p q false k = if nat_lt k t.fails then p false k else q false (k - t.fails)

abbrev pub walk_same : Tally → Tally → Walk → Walk → Walk
walk_same t u p q s k =
    if nat_lt k (product t.holds (side_of u s)) then walk_pairs u p q true s k else walk_pairs u p q false (not s) (k - product t.holds (side_of u s))

abbrev pub row_at : List PRow → ℕ → List PRow
row_at rows k = option_to_list (slice_get rows k)

abbrev pub walk_rows : List PRow → List PRow → Walk
walk_rows h f true k = row_at h k
walk_rows h f false k = row_at f k

abbrev pub walk_level : Plan-F Walk → Walk
walk_level (Plan-F.Constant b) s k = []
walk_level (Plan-F.Rows h f) s k = walk_rows h f s k
walk_level (Plan-F.Not p) s k = p (not s) k
walk_level (Plan-F.Both t u p q) s k = walk_both t u p q s k
walk_level (Plan-F.Same t u p q) s k = walk_same t u p q s k

abbrev pub walk : Plan → Walk
walk = fold-Plan Walk walk_level

-- of all parts together
abbrev pub walk_all : List Part → ℕ → List PRow
walk_all [] k = []
walk_all (p ∷ ps) k = walk p.plan true (quotient k p.others) ++ walk_all ps (remainder k p.others)
