use Rattle.nia_products.proofs.EnrichingLaws.{makes_enriched, good_of_enriched, flat_sources}
use Rattle.nia_products.proofs.SourceLaws.{makes_both, depth_after}
use Rattle.nia_products.specs.Enriching.{sources}
use Rattle.nia_products.proofs.law.certificates.Goals as goal

pub returns-clause-makes : goal.returns-clause-makes
returns-clause-makes c = makes_enriched

pub returns-clause-good : goal.returns-clause-good
returns-clause-good c = good_of_enriched

pub returns-clause-parts : goal.returns-clause-parts
returns-clause-parts c = λ rows steps k. makes_both (sources rows) steps k (flat_sources rows)

pub returns-clause-depth : goal.returns-clause-depth
returns-clause-depth c = λ rows steps k. depth_after (sources rows) steps k (flat_sources rows)
