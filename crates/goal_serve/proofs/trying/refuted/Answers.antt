use Rattle.std.proofs.Common.{rules, ◌≡◌, Some, None}
use Rattle.zify.specs.Translation.{translated}
use Rattle.clause_form.specs.Clauses.{clauses_of}
use Rattle.box_enum.specs.Cube.{cube_of}
use Rattle.goal_serve.specs.declared.answers.Answer.TheVariants as answers
use Rattle.goal_serve.proofs.AnswerLaws.{with_cube, without_cube}
use Rattle.goal_serve.proofs.trying.refuted.Goals as goal

pub returns-in-Some : goal.returns-in-Some
returns-in-Some c =
    let first : cube_of c.args.goal.now ≡ Some c.in-Some.first = search rules in
    λ turns cs n r. with_cube c.args.goal.now turns (clauses_of (translated c.args.goal.now)) c.in-Some.first first

pub returns-in-None : goal.returns-in-None
returns-in-None c =
    let lacks : cube_of c.args.goal.now ≡ None = search rules in
    λ turns cs n r. without_cube c.args.goal.now turns (clauses_of (translated c.args.goal.now)) (answers.Refuted c.args.a) lacks r
