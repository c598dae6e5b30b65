use Rattle.std.proofs.Common.{◌++◌, codes}
use Rattle.goal_print.specs.ReadsBack.{mode_text}
use Rattle.goal_serve.specs.Line.{counted}
use Rattle.goal_serve.proofs.PushLaws.{five_pushed}
use Rattle.goal_serve.proofs.lines.push_cache.Goals as goal

pub returns : goal.returns
returns c =
    five_pushed c.push.result c.args.out.now.items (codes "cache " ++ mode_text c.args.mode) (counted (codes "opened") c.args.opened) (counted (codes "stored") c.args.stored) (counted (codes "saved") c.args.saved) (codes "\n")
    c.push_cached.new.out.items c.push_count.new.out.items c.push_count-2.new.out.items c.push_count-3.new.out.items c.push.new.out.items
    c.in_ok-push_cached.ensures c.in_ok-push_count.ensures c.in_ok-push_count-2.ensures c.in_ok-push_count-3.ensures c.push.ensures
