use Rattle.goal_ast.specs.Range.{point_of}
use Rattle.goal_ast.proofs.AnswerLaws.{when_big, when_true, when_false}
use Rattle.goal_ast.proofs.judge.eval.Goals as goal

pub returns-clause-big : goal.returns-clause-big
returns-clause-big c = when_big c.answer_of.result (point_of c.args.a.now.values) c.args.goal.now.body (cc (c.answer_of.ensures, c.truth.ensures, c.as_slice.ensures))

pub returns-clause-holds : goal.returns-clause-holds
returns-clause-holds c = when_true c.answer_of.result (point_of c.args.a.now.values) c.args.goal.now.body (cc (c.answer_of.ensures, c.truth.ensures, c.as_slice.ensures))

pub returns-clause-fails : goal.returns-clause-fails
returns-clause-fails c = when_false c.answer_of.result (point_of c.args.a.now.values) c.args.goal.now.body (cc (c.answer_of.ensures, c.truth.ensures, c.as_slice.ensures))
