use Rattle.goal_print.specs.Text.{formula_part}
use Rattle.goal_print.proofs.PartLaws.{bare, in_parentheses}
use Rattle.goal_print.proofs.formula.+formula.Goals as goal

pub push_formula-returns-then-level-highest : goal.push_formula-returns-then-level-highest
push_formula-returns-then-level-highest t c =
    bare c.push_bare.result c.args.out.now.items c.push_bare.new.out.items c.args.highest c.level.result (formula_part c.args.vars.now c.args.f.now)
    (c.level.ensures c.args.vars.now) c.if-level-highest.true c.push_bare.ensures

pub push_formula-returns-in_ok-push_bare : goal.push_formula-returns-in_ok-push_bare
push_formula-returns-in_ok-push_bare t c =
    in_parentheses c.push-else-level-highest.result c.args.out.now.items c.push.new.out.items c.push_bare-else-level-highest.new.out.items c.push-else-level-highest.new.out.items
    c.args.highest c.level.result (formula_part c.args.vars.now c.args.f.now)
    (c.level.ensures c.args.vars.now) c.if-level-highest.false c.in_ok-push.ensures c.in_ok-push_bare.ensures c.push-else-level-highest.ensures
