-- The trunk of the certificate of an empty box: the variables of a single value, before the others.
use Rattle.std.specs.Prelude.{◌≡◌, ℕ, ◌+◌, ◌^◌, ◌<◌, ◌≤◌, ℤ, nat_eq, List, [], ◌∷◌, ◌++◌, map, length, take, true}
use Rattle.std.specs.List.{AllByRecursion, IsDistinct}
use Rattle.mm_poly.specs.Poly.{variable_of}
use Rattle.cert_kit.specs.declared.row.PRow.{PRow}
use Rattle.cert_kit.specs.declared.cert.Step.{Step}
use Rattle.cert_kit.specs.declared.cert.Cert.{Cert}
use Rattle.cert_kit.specs.Row.{HasNoSolution}
use Rattle.cert_kit.specs.Acceptance.{value_row}
use Rattle.cert_kit.specs.Depth.{steps_depth, steps_in_range}
use Rattle.cert_kit.specs.Making.{Makes}
use Rattle.box_enum.specs.declared.numbered.Choice.{Choice}
use Rattle.box_enum.specs.declared.numbered.Numbered.{Numbered}
use Rattle.box_enum.specs.declared.standing.Standing.{Standing}
use Rattle.box_enum.specs.declared.wall.Wall.{Wall}
use Rattle.box_enum.specs.Box.{Side}
use Rattle.box_enum.specs.machine.Putting.{IsTame, StandsNumbered, put_all}
use Rattle.box_enum.specs.machine.Places.{StandsWall, IsBounded, AreNamed, choice_at}

abbrev pub IsSingle : Wall → Type 0
IsSingle w = w.low ≡ w.high

-- the row that the only value of a variable appends
abbrev pub single_row : Wall → PRow
single_row w = value_row (variable_of w.variable) w.low

-- the choice of each least value, whose rows are numbered from n on
abbrev pub choices_from : ℕ → List Wall → List Choice
choices_from n [] = []
choices_from n (w ∷ ws) = choice_at n w w.low ∷ choices_from (n + 1) ws

abbrev pub side_of_wall : Wall → Side
side_of_wall w = record { low = w.low; high = w.high }

abbrev pub wall_variables : List Wall → List ℕ
wall_variables ws = map (λ (w : Wall). w.variable) ws

-- rows without a solution, and a wall for each of their variables
pub record IsWalled (rows : List PRow) (reach : ℕ) (walls : List Wall) : Type 0 where
  pub tame : AllByRecursion (λ (r : PRow). IsTame reach r.poly) rows
  pub named : AllByRecursion (λ (r : PRow). AreNamed (wall_variables walls) r.poly) rows
  pub distinct : IsDistinct nat_eq (wall_variables walls)
  pub bounds : AllByRecursion (StandsWall rows) walls
  pub bounded : AllByRecursion (IsBounded reach) walls
  pub none : HasNoSolution rows
  pub small : reach < 2 ^ 126
  pub few : length walls ≤ 2048
  pub room : length rows + 4096 < 2 ^ 32

-- the row with the choices' values put for their variables
abbrev pub put_row : List Choice → PRow → PRow
put_row cs r = record { poly = put_all cs r.poly; op = r.op }

-- the first rows with the choices' values put into them stand where the steps have made more rows of the given ones
pub record ArePut (rows given : List PRow) (cs : List Choice) (n : ℕ) (steps : List Step) (standing : List Standing) : Type 0 where
  pub same : map (λ (s : Standing). s.numbered.row) standing ≡ map (put_row cs) (take n rows)
  pub flat : steps_depth steps ≤ 2
  pub constants : steps_in_range steps ≡ true
  pub more : List PRow
  pub makes : Makes given steps (given ++ more)
  pub counted : length (given ++ more) ≡ length given + length steps
  pub numbered : AllByRecursion (λ (s : Standing). StandsNumbered (given ++ more) s.numbered) standing

-- the rows, and those that the only values append
abbrev pub with_singles : List PRow → List Wall → List PRow
with_singles rows ws = rows ++ map single_row ws

abbrev pub numbered_row : PRow → ℕ → Numbered
numbered_row r n = record { row = r; number = n }

abbrev pub after_steps : List Step → Cert → Cert
after_steps steps c = record { steps = steps ++ c.steps; close = c.close }
