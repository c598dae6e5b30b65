use Rattle.std.proofs.Common.{◌≡◌, drop}
use Rattle.mm_poly.specs.Renaming.{renamed_mono}
use Rattle.cert_kit.specs.Variables.{place_of}
use Rattle.box_enum.proofs.waiting.placed_mono.Given as goal

-- the factors from here on
abbrev pub invariant-loop-n : goal.invariant-loop-n
invariant-loop-n l = l.placed ≡ renamed_mono (place_of l.vars) (drop l.n l.factors)
