use Rattle.std.proofs.Common.{List, sym, subst}
use Rattle.zify.specs.Translation.{translated}
use Rattle.clause_form.specs.Clauses.{clauses_of}
use Rattle.box_enum.specs.Cube.{cube_of}
use Rattle.goal_serve.specs.declared.answers.Shown.{Shown}
use Rattle.goal_serve.specs.declared.answers.Answer.TheVariants as answers
use Rattle.goal_serve.specs.declared.trying.Tried.{Tried}
use Rattle.goal_serve.specs.Answering.{MeetsTests}
use Rattle.goal_serve.specs.machine.Trying.{IsTried}
use Rattle.goal_serve.proofs.AnswerLaws.{all_shown}
use Rattle.goal_serve.proofs.trying.answer_of.Goals as goal

pub returns-in-All : goal.returns-in-All
returns-in-All c = λ goal turns w t none. subst (λ (xs : List Shown). MeetsTests (cube_of goal) goal turns (clauses_of (translated goal)) (answers.Proved xs)) (sym c.from_vec.ensures)
    (all_shown goal turns c.in-All.all.items w (subst (λ (x : Tried). IsTried goal turns (clauses_of (translated goal)) x) c.in-All.is t))
