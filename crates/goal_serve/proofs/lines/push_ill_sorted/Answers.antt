use Rattle.std.proofs.Common.{codes, decimal}
use Rattle.goal_serve.proofs.PushLaws.{three_pushed}
use Rattle.goal_serve.proofs.lines.push_ill_sorted.Goals as goal

pub returns : goal.returns
returns c =
    three_pushed c.push-2.result c.args.out.now.items (codes "ill-sorted ") (decimal c.args.at) (codes "\n") c.push.new.out.items c.push_number.new.out.items c.push-2.new.out.items
    c.in_ok-push.ensures c.in_ok-push_number.ensures c.push-2.ensures
