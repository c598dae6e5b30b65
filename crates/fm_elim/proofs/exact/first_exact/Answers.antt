use Rattle.std.proofs.Common.{List, [], ◌∙◌, ap}
use Rattle.std.specs.Borrow.{Bor}
use Rattle.mm_poly.specs.declared.term.Term.{Term}
use Rattle.fm_elim.specs.Unknowns.{with_unknowns}
use Rattle.fm_elim.specs.machine.Choice.{lent, first_exact_in}
use Rattle.fm_elim.specs.machine.Tidying.{rows_of}
use Rattle.fm_elim.proofs.ExactLaws.{found_in_terms}
use Rattle.fm_elim.proofs.exact.first_exact.Goals as goal

pub returns : goal.returns
returns c =
    c.in_ok-found.ensures ∙ ap (λ (ts : List (Bor Term)). first_exact_in (lent ts) (with_unknowns (lent ts) [])) c.deref.ensures.value
    ∙ found_in_terms (rows_of c.args.rows.now) (lent c.in_ok-terms.terms.items) c.are_polys.ensures c.in_ok-terms.ensures
