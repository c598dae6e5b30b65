use Rattle.box_enum.proofs.CubePointLaws.{cube_falsifies, cube_misses_none}
use Rattle.box_enum.proofs.cube_law.cubes.Goals as goal

pub returns-clause-found : goal.returns-clause-found
returns-clause-found c = cube_falsifies

pub returns-clause-none : goal.returns-clause-none
returns-clause-none c = cube_misses_none
