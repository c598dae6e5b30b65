-- The sides of a box as they are held.
use Rattle.std.specs.Prelude.{ℤ, List, [], ◌∷◌, map}
use Rattle.mm_num.specs.Small.{IsSmall}
use Rattle.box_enum.specs.declared.edge.Edge.{Edge}
use Rattle.box_enum.specs.Box.{Side}

abbrev pub side_at : Edge → Side
side_at e = record { low = e.low; high = e.high }

abbrev pub sides_at : List Edge → List Side
sides_at edges = map side_at edges

-- a least value and a greatest one each
abbrev pub edges_of : List ℤ → List ℤ → List Edge
edges_of [] highs = []
edges_of (a ∷ lows) [] = []
edges_of (a ∷ lows) (b ∷ highs) = record { low = a; high = b } ∷ edges_of lows highs

abbrev pub IsSmallEdge : Edge → Type 0
IsSmallEdge e = IsSmall e.low × IsSmall e.high
