use Rattle.nia_products.proofs.EnrichingLaws.{same_solutions}
use Rattle.nia_products.proofs.law.solutions.Goals as goal

pub returns : goal.returns
returns c = same_solutions
