use Rattle.std.proofs.Common.{◌≡◌, ◌∙◌, List, ap, map, sym, subst}
use Rattle.std.specs.Prelude.{◌↔◌, true}
use Rattle.std.specs.List.{AllByRecursion}
use Rattle.cert_kit.specs.declared.row.PRow.{PRow}
use Rattle.cert_kit.specs.declared.cert.Psatz.{Psatz}
use Rattle.cert_kit.specs.Row.{Solves}
use Rattle.cert_kit.specs.Meaning.{meaning, measure}
use Rattle.cert_kit.specs.Making.{Makes}
use Rattle.nia_products.specs.Enriching.{added, sources, AreFit}
use Rattle.nia_products.proofs.SourceLaws.{steps_of, meanings_of, all_within}
use Rattle.nia_products.proofs.EnrichingLaws.{are_sources, makes_enriched, same_solutions, sources_are, rows_are}
use Rattle.nia_products.proofs.enriching.enrich.Goals as goal

pub returns : goal.returns
returns c =
    let given = c.args.clause.now.rows in
    let fit : AreFit c.args.clause.now.rows = subst AreFit c.as_slice-rows.ensures c.have_bounds.ensures in
    let rows = rows_are given c.as_slice-rows.result.now _ _ _ c.as_slice-rows.ensures c.in_ok-enriched.ensures.rows c.in_ok-add_squares.ensures.rows c.in_ok-add_products.ensures.rows in
    let es = sources_are given c.as_slice-rows.result.now _ _ _ c.as_slice-rows.ensures c.in_ok-enriched.ensures.sources c.in_ok-add_squares.ensures.sources c.in_ok-add_products.ensures.sources in
    record {
      clause = rows;
      sources = es;
      means = ap (λ (q : List Psatz). map (λ e. meaning e given) q) es ∙ meanings_of given (sources given) (added given) (are_sources given fit);
      within = subst (λ (q : List Psatz). AllByRecursion (λ e. (measure e given).within ≡ true) q) (sym es) (all_within given (sources given) (added given) (are_sources given fit));
      makes = subst (λ (q : List Psatz). Makes given (steps_of q) c.add_products.new.enriched.clause.rows) (sym es)
          (subst (λ (q : List PRow). Makes given (steps_of (sources given)) q) (sym rows) (makes_enriched given fit));
      solutions = λ x. subst (λ (q : List PRow). Solves x given ↔ Solves x q) (sym rows) (same_solutions x given fit);
    }
