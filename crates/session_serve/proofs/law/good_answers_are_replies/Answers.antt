use Rattle.session_serve.proofs.ServingLaws.{replies}
use Rattle.session_serve.proofs.law.good_answers_are_replies.Goals as goal

pub returns : goal.returns
returns c = replies c.sorting_gives.ensures
