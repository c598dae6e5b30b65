-- How an elimination ended.
use Rattle.std.specs.Prelude.{◌≡◌, ◌⊎◌, List}
use Rattle.cert_kit.specs.declared.row.PRow.{PRow}
use Rattle.fm_elim.specs.declared.ending.Ending.{Ending}
use Rattle.fm_elim.specs.declared.ending.Ending.TheVariants as ending
use Rattle.fm_elim.specs.Tidy.{Contra, Point, Grey, Over}
use Rattle.fm_elim.specs.Elimination.{elimination}
use Rattle.fm_elim.specs.Points.{point_of, IsTame}

-- each end exactly where the elimination ends so; a point that isn't tame counts as over
abbrev pub IsEnded : List PRow → Ending → Type 0
IsEnded rows ending.Contra = elimination rows ≡ Contra
IsEnded rows (ending.Point values) = (elimination rows ≡ Point) × IsTame rows × (values.items ≡ point_of rows)
IsEnded rows ending.Grey = elimination rows ≡ Grey
IsEnded rows ending.Over = (elimination rows ≡ Over) ⊎ ((elimination rows ≡ Point) × (IsTame rows → ⊥))
