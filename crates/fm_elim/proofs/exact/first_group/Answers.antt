use Rattle.std.proofs.Common.{◌∙◌}
use Rattle.fm_elim.proofs.ExactLaws.{group_first}
use Rattle.fm_elim.proofs.exact.first_group.Goals as goal

pub returns : goal.returns
returns c =
    let e = c.new.ensures in
    group_first c.args.term.now _ c.requires e.unknown (e.lower ∙ c.is_at_most_1.ensures) (e.upper ∙ c.is_at_least_minus_1.ensures) e.later
