use Rattle.std.proofs.Common.{◌≡◌, ◌&&◌, Bool, ap, ◌∙◌, arith}
use Rattle.std.proofs.lemmas.Grind.{common_steps}
use Rattle.fm_elim.proofs.ExactLaws.{group_same, group_next}
use Rattle.fm_elim.proofs.group.Group.with.Goals as goal

pub returns-then-same : goal.returns-then-same
returns-then-same c =
    let e = c.new.ensures in
    let low : c.if-lower_one.lower_ones ≡ (c.is_at_most_1-lower_one.result && c.args.self.lower_ones) = grind (arith, common_steps) in
    let high : c.if-upper_one.upper_ones ≡ (c.is_at_least_minus_1-upper_one.result && c.args.self.upper_ones) = grind (arith, common_steps) in
    λ terms o g.
    group_same c.args.term.now terms c.args.self c.new.result o (c.same.ensures.0 c.if-same.true) e.unknown
    (e.lower ∙ low ∙ ap (λ (b : Bool). b && c.args.self.lower_ones) c.is_at_most_1-lower_one.ensures)
    (e.upper ∙ high ∙ ap (λ (b : Bool). b && c.args.self.upper_ones) c.is_at_least_minus_1-upper_one.ensures) e.later g

pub returns : goal.returns
returns c =
    let e = c.new-2.ensures in
    λ terms o g.
    group_next c.args.term.now terms c.args.self c.new-2.result o (λ s. let t = c.same.ensures.1 s in let f = c.if-same.false in absurd cc) e.unknown
    (e.lower ∙ c.is_at_most_1-lower_one.ensures) (e.upper ∙ c.is_at_least_minus_1-upper_one.ensures) (e.later ∙ c.first_exact.ensures) g
