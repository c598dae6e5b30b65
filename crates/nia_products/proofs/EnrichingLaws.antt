-- The sources of enriched rows.
use Rattle.std.specs.Prelude.{◌≡◌, ◌↔◌, ℕ, ℤ, List, [], ◌∷◌, ◌++◌, map}
use Rattle.std.specs.List.{AllByRecursion}
use Rattle.std.proofs.Common.{ap, ◌∙◌, append_assoc}
use Rattle.mm_num.proofs.ListLaws.{all_join, all_split}
use Rattle.cert_kit.specs.declared.row.PRow.{PRow}
use Rattle.cert_kit.specs.declared.cert.Psatz.{Psatz}
use Rattle.cert_kit.specs.declared.cert.Psatz.TheVariants.{Hyp}
use Rattle.cert_kit.specs.declared.cert.Step.{Step}
use Rattle.cert_kit.specs.declared.cert.Close.{Close}
use Rattle.cert_kit.specs.Row.{Holds, Solves}
use Rattle.cert_kit.specs.Acceptance.{IsGood}
use Rattle.cert_kit.specs.Making.{Makes}
use Rattle.cert_kit.proofs.MakerLaws.{good_after}
use Rattle.cert_kit.proofs.SoundLaws.{steps_hold}
use Rattle.cert_kit.proofs.FlatLaws.{IsFlat, flat_hyp, flat_mul, flat_square}
use Rattle.nia_products.specs.Squares.{squares_of, half_of, poly_of, square_row, square_source}
use Rattle.nia_products.specs.Products.{Factor, products_of, pair_row, pair_source}
use Rattle.nia_products.specs.Enriching.{added, sources, enriched, source_steps, AreFit}
use Rattle.nia_products.proofs.SquareLaws.{IsSquare, square_is, square_within, squares_are}
use Rattle.nia_products.proofs.ProductLaws.{IsProduct, product_bounded, products_are}
use Rattle.nia_products.proofs.SourceLaws.{IsSource, AreSources, sources_join, sources_made, makes_rows}

square_sources : (rows : List PRow) (m : List (ℕ × ℕ)) → IsSquare m → IsSource rows (square_source m) (square_row m)
square_sources rows m h = record { means = square_is rows m h.0 h.1; within = square_within rows m h.0 h.1 }

pair_sources : (rows : List PRow) (p : Factor × Factor) → IsProduct rows p → IsSource rows (pair_source p) (pair_row p)
pair_sources rows p h = let b = product_bounded rows p h in record { means = b.means; within = b.within }

pub are_sources : (rows : List PRow) → AreFit rows → AreSources rows (sources rows) (added rows)
are_sources rows f =
    sources_join rows (map square_source (squares_of rows)) (map pair_source (products_of rows)) (map square_row (squares_of rows)) (map pair_row (products_of rows))
    (sources_made rows IsSquare square_source square_row (square_sources rows) (squares_of rows) (squares_are rows f))
    (sources_made rows (IsProduct rows) pair_source pair_row (pair_sources rows) (products_of rows) (products_are rows f))

pub makes_enriched : (rows : List PRow) → AreFit rows → Makes rows (source_steps rows) (enriched rows)
makes_enriched rows f = makes_rows (sources rows) rows (added rows) (are_sources rows f)

pub good_of_enriched : (rows : List PRow) (steps : List Step) (k : Close) → AreFit rows → IsGood (enriched rows) (record { steps = steps; close = k })
    → IsGood rows (record { steps = source_steps rows ++ steps; close = k })
good_of_enriched rows steps k f g = good_after rows (enriched rows) (source_steps rows) steps k (makes_enriched rows f) g

-- the same integer solutions
pub same_solutions : (x : ℕ → ℤ) (rows : List PRow) → AreFit rows → Solves x rows ↔ Solves x (enriched rows)
same_solutions x rows f = (λ s. steps_hold x (source_steps rows) rows (enriched rows) s (makes_enriched rows f).made, λ s. (all_split (Holds x) rows (added rows) s).0)

flat_squares : (ms : List (List (ℕ × ℕ))) → AllByRecursion (IsFlat 1) (map square_source ms)
flat_squares [] = tt
flat_squares (m ∷ ms) = (flat_square (poly_of (half_of m)), flat_squares ms)

flat_pairs : (ps : List (Factor × Factor)) → AllByRecursion (IsFlat 1) (map pair_source ps)
flat_pairs [] = tt
flat_pairs (p ∷ ps) = (flat_mul (Hyp p.0.number) (Hyp p.1.number) 0 (flat_hyp p.0.number 0) (flat_hyp p.1.number 0), flat_pairs ps)

pub flat_sources : (rows : List PRow) → AllByRecursion (IsFlat 1) (sources rows)
flat_sources rows = all_join (IsFlat 1) (map square_source (squares_of rows)) (map pair_source (products_of rows)) (flat_squares (squares_of rows)) (flat_pairs (products_of rows))

-- ---- how the code makes them

pub sources_are : (given rows : List PRow) (none squares all : List Psatz) → rows ≡ given → none ≡ [] → squares ≡ none ++ map square_source (squares_of rows)
    → all ≡ squares ++ map pair_source (products_of rows) → all ≡ sources given
sources_are given rows none squares all r n s a =
    a ∙ ap (λ (q : List Psatz). q ++ map pair_source (products_of rows)) (s ∙ ap (λ (q : List Psatz). q ++ map square_source (squares_of rows)) n) ∙ ap sources r

pub rows_are : (given rows none squares all : List PRow) → rows ≡ given → none ≡ given → squares ≡ none ++ map square_row (squares_of rows)
    → all ≡ squares ++ map pair_row (products_of rows) → all ≡ enriched given
rows_are given rows none squares all r n s a =
    a ∙ ap (λ (q : List PRow). q ++ map pair_row (products_of rows)) (s ∙ ap (λ (q : List PRow). q ++ map square_row (squares_of rows)) n)
    ∙ append_assoc given (map square_row (squares_of rows)) (map pair_row (products_of rows)) ∙ ap (λ (q : List PRow). given ++ added q) r
