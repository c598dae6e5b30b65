use Rattle.std.proofs.Common.{sym, ◌∙◌}
use Rattle.fm_elim.specs.machine.Pruning.{new_number}
use Rattle.fm_elim.proofs.MarkLaws.{not_none}
use Rattle.fm_elim.proofs.pruned.Pruned.moved.Goals as goal

pub unreachable-requires : goal.unreachable-requires
unreachable-requires c = not_none (new_number c.args.given c.args.self.now.places.items) c.args.combination c.requires (sym c.renumbered.ensures ∙ c.in-None.is)
