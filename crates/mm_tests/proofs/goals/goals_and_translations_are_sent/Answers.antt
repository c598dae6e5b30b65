use denote.Param.Send.{sendable}
use Rattle.goal_ast.proofs.SendLaws.{goal_send}
use Rattle.zify.proofs.SendLaws.{goal_send as translation_send}
use Rattle.mm_tests.proofs.goals.goals_and_translations_are_sent.Goals as goal

pub sent-goal-requires-send-T : goal.sent-goal-requires-send-T
sent-goal-requires-send-T g c κs = search (sendable, goal_send)

pub sent-z-requires-send-T : goal.sent-z-requires-send-T
sent-z-requires-send-T g c κs = search (sendable, translation_send)
