use Rattle.std.specs.Prelude.{◌≡◌, drop, map}
use Rattle.cert_kit.specs.Depth.{all_in_range}
use Rattle.cert_text.specs.Check.{is_cert_within, has_few_members}
use Rattle.cert_text.proofs.grammar.+few.Given as goal

-- the members that are left decide
abbrev pub invariant-all_have_few-loop-member : goal.invariant-all_have_few-loop-member
invariant-all_have_few-loop-member l = (all_in_range (map has_few_members (drop l.member-index l.members)) ≡ all_in_range (map has_few_members l.members))
    × (all_in_range (map is_cert_within (drop l.member-index l.members)) ≡ all_in_range (map is_cert_within l.members))
