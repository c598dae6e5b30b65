use Rattle.box_enum.proofs.WithinLaws.{within, no_solution, first_solves}
use Rattle.box_enum.proofs.law.boxes.Goals as goal

pub returns-clause-within : goal.returns-clause-within
returns-clause-within c = within

pub returns-clause-none : goal.returns-clause-none
returns-clause-none c = no_solution

pub returns-clause-first : goal.returns-clause-first
returns-clause-first c = first_solves
