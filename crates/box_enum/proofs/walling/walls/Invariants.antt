use Rattle.cert_kit.specs.Variables.{variables_of}
use Rattle.box_enum.proofs.WallingLaws.{AreHeld}
use Rattle.box_enum.proofs.walling.walls.Given as goal

-- the walls after the rows from here on
abbrev pub invariant-loop-n : goal.invariant-loop-n
invariant-loop-n l = AreHeld l.rows l.n (variables_of l.rows) l.edges l.walls.items
