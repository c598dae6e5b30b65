use Rattle.std.proofs.Common.{◌++◌, codes, decimal, ap, ◌∙◌}
use Rattle.goal_serve.specs.KeyName.{key_name}
use Rattle.goal_serve.specs.Line.{origin_text}
use Rattle.goal_serve.proofs.PushLaws.{five_pushed}
use Rattle.goal_serve.proofs.lines.push_clause.Goals as goal

pub returns : goal.returns
returns c =
    five_pushed c.push_origin.result c.args.out.now.items (codes "clause ") (decimal c.args.number) (codes " ") (key_name c.args.clause.now) (codes " " ++ (origin_text c.args.origin ++ codes "\n"))
    c.push.new.out.items c.push_number.new.out.items c.push-2.new.out.items c.push-3.new.out.items c.push_origin.new.out.items
    c.in_ok-push.ensures c.in_ok-push_number.ensures c.in_ok-push-2.ensures (c.in_ok-push-3.ensures ∙ ap (λ name. c.push-2.new.out.items ++ name) c.in_ok-name.ensures) c.push_origin.ensures
