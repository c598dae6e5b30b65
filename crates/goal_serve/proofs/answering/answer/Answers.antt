use Rattle.goal_serve.proofs.AnswerLaws.{proved_valid, refuted_invalid, never_ill_sorted, ok_on}
use Rattle.goal_serve.proofs.answering.answer.Goals as goal

pub returns-clause-proved : goal.returns-clause-proved
returns-clause-proved g c = ok_on c.answered.result (λ a m. proved_valid c.args.goal.now c.args.turns a c.requires m) c.answered.ensures

pub returns-clause-refuted : goal.returns-clause-refuted
returns-clause-refuted g c = ok_on c.answered.result (λ a m. refuted_invalid c.args.goal.now c.args.turns a m) c.answered.ensures

pub returns-clause-sorted : goal.returns-clause-sorted
returns-clause-sorted g c = ok_on c.answered.result (λ a m. never_ill_sorted c.args.goal.now c.args.turns a m) c.answered.ensures
