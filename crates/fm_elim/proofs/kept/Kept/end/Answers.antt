use Rattle.fm_elim.proofs.GoingLaws.{ends_over, ends_rows}
use Rattle.fm_elim.proofs.kept.Kept.end.Goals as goal

pub returns-then-self-clause-steps : goal.returns-then-self-clause-steps
returns-then-self-clause-steps c = λ answer t. ends_over answer c.args.self c.if-self.true t

pub returns-else-self-clause-steps : goal.returns-else-self-clause-steps
returns-else-self-clause-steps c = λ answer t. ends_rows answer c.args.self c.if-self.false c.args.self.few t
