use Rattle.std.proofs.Common.{◌≡◌, ◌-◌, ◌^◌, min, max, drop, map}
use Rattle.cert_kit.specs.Depth.{deepest, cert_depth}
use Rattle.cert_kit.proofs.nesting.+depth.Given as goal

-- the deepest so far with what is left is the deepest of all
abbrev pub invariant-deepest_of-loop-member : goal.invariant-deepest_of-loop-member
invariant-deepest_of-loop-member l = max l.most (min (deepest (map cert_depth (drop l.member-index l.members))) (2 ^ 32 - 1))
    ≡ min (deepest (map cert_depth l.members)) (2 ^ 32 - 1)
