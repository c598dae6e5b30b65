-- Bytes whose lines end are a report, or go wrong there.
use Rattle.std.proofs.Common.{◌≡◌, ℕ, ◌-◌, ◌≤◌, List, [], length, Some, None, sym, ap, subst, length-append, arith}
use Rattle.goal_ast.specs.declared.goal.Bound.{Bound}
use Rattle.report_text.specs.declared.lines.Line.{Line}
use Rattle.report_text.specs.declared.progress.Due.TheVariants.{Nothing}
use Rattle.report_text.specs.declared.progress.Progress.{Progress}
use Rattle.report_text.specs.Line.{report_lines_text}
use Rattle.report_text.specs.Report.{report_lines}
use Rattle.report_text.specs.Place.{IsReadTo}
use Rattle.report_text.specs.Progress.{expect_of, reading_of, vars_after, ReadsNext, FindsNext}
use Rattle.report_text.specs.Whole.{WrongAt}
use Rattle.report_text.proofs.NextLaws.{nothing_is_due}
use Rattle.report_text.proofs.PlaceLaws.{not_all}
use Rattle.report_text.proofs.RunLaws.{report_fits}
use Rattle.report_text.proofs.SoFarLaws.{no_more, all_read, read_more}
use Rattle.report_text.proofs.UniqueLaws.{alone}

pub ends_well : (bytes rest : List ℕ) (vars : List Bound) (p : Progress) → IsReadTo bytes rest (reading_of vars p) → rest ≡ [] → p.due ≡ Nothing → WrongAt bytes None
ends_well bytes rest vars p so_far none over = all_read bytes (reading_of vars p) (subst (λ r. IsReadTo bytes r (reading_of vars p)) none so_far)
    (ap (expect_of vars) over)

pub ends_badly : (bytes rest : List ℕ) (vars : List Bound) (p : Progress) → IsReadTo bytes rest (reading_of vars p) → FindsNext (reading_of vars p) vars rest None
    → (rest ≡ [] → p.due ≡ Nothing → ⊥) → WrongAt bytes (Some (length bytes - length rest))
ends_badly bytes rest vars p so_far none other =
    let ends = no_more bytes rest (reading_of vars p) vars so_far none (λ over e. other e (nothing_is_due vars p.due over)) in
    (ends, λ r is. not_all alone bytes (length bytes - length rest) (report_lines r) ends (report_fits r is))

-- what is left is no longer than all
pub rest_within : (bytes rest : List ℕ) (vars : List Bound) (p : Progress) → IsReadTo bytes rest (reading_of vars p) → length rest ≤ length bytes
rest_within bytes rest vars p so_far = omega (arith, ap length so_far.split, length-append (report_lines_text so_far.lines) rest)

-- a line more that was read
pub goes_on : (bytes rest more : List ℕ) (vars others : List Bound) (p q : Progress) (read : Line) → IsReadTo bytes rest (reading_of vars p) → ReadsNext
    (reading_of vars p) vars rest read more q
    → others ≡ vars_after vars read → IsReadTo bytes more (reading_of others q)
goes_on bytes rest more vars others p q read so_far next same = subst (λ w. IsReadTo bytes more (reading_of w q)) (sym same)
    (read_more bytes rest more vars p q read so_far next)
