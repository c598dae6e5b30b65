-- Translated goals may go to another thread. Where a bound `Send` of a formula or a goal is left open, these answer it.
use denote.Param.Send.{IsSend, sendable, recorded_send, struct_send}
use denote.Struct.Declared.{shape}
use Rattle.sqlite_items.proofs.boxed.Boxed.TheSendSync as boxed
use Rattle.sqlite_items.proofs.items.Items.TheSendSync as items
use Rattle.goal_ast.proofs.formula.Cmp.TheSendSync as cmp
use Rattle.zify.specs.contracts.term.ZTerm.{the_field as term_field, the_row as term_row}
use Rattle.zify.specs.contracts.form.ZForm.{the_field as form_field, the_row as form_row}
use Rattle.zify.specs.contracts.goal.ZGoal.{the_row as goal_row, the_type as goal_type, the_field as goal_field}
use Rattle.zify.proofs.term.ZTerm.TheLaws.TheKnot.{send-ZTerm}
use Rattle.zify.proofs.form.ZForm.TheLaws.TheKnot.{send-ZForm}
use Rattle.goal_ast.proofs.SendLaws.{boxed_send, boxed_field_send, items_field_send}

pub term_send : IsSend term_field.row
term_send = send-ZTerm (search sendable) (search sendable) boxed_send

term_row_send : IsSend term_row
term_row_send = search (sendable, term_send)

pub form_send : IsSend form_field.row
form_send = send-ZForm cmp.the_field_send (boxed_field_send _ term_row_send) boxed_send

form_row_send : IsSend form_row
form_row_send = search (sendable, form_send)

pub goal_send : IsSend goal_row
goal_send = recorded_send goal_field.row _ _ goal_type.to_one (struct_send (shape goal_type) (search sendable, (search sendable, (items_field_send _ form_row_send, (form_send, tt)))))
