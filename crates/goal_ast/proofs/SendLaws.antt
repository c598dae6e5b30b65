-- Goals may go to another thread. Where a bound `Send` of a formula or a goal is left open, these answer it.
use denote.RattleType.{RattleType}
use denote.Param.Send.{IsSend, sendable, recorded_send, struct_send}
use denote.Struct.Declared.{shape}
use Rattle.sqlite_items.specs.contracts.boxed.Boxed.{the_row as boxed_row, the_field as boxed_field}
use Rattle.sqlite_items.specs.contracts.items.Items.{the_field as items_field}
use Rattle.sqlite_items.proofs.boxed.Boxed.TheSendSync as boxed
use Rattle.sqlite_items.proofs.items.Items.TheSendSync as items
use Rattle.goal_ast.specs.contracts.term.Term.{the_field as term_field, the_row as term_row}
use Rattle.goal_ast.specs.contracts.formula.BTerm.{the_field as bool_field, the_row as bool_row}
use Rattle.goal_ast.specs.contracts.formula.Formula.{the_field as formula_field}
use Rattle.goal_ast.specs.contracts.goal.Goal.{the_row as goal_row, the_type as goal_type, the_field as goal_field}
use Rattle.goal_ast.proofs.term.Sort.TheSendSync as sort
use Rattle.goal_ast.proofs.term.Fn1.TheSendSync as one
use Rattle.goal_ast.proofs.term.Fn2.TheSendSync as two
use Rattle.goal_ast.proofs.formula.Cmp.TheSendSync as cmp
use Rattle.goal_ast.proofs.formula.BCmp.TheSendSync as test
use Rattle.goal_ast.proofs.formula.BFn.TheSendSync as call
use Rattle.goal_ast.proofs.goal.Mode.TheSendSync as mode
use Rattle.goal_ast.proofs.goal.Bound.TheSendSync as bound
use Rattle.goal_ast.proofs.term.Term.TheLaws.TheKnot.{send-Term}
use Rattle.goal_ast.proofs.formula.BTerm.TheLaws.TheKnot.{send-BTerm}
use Rattle.goal_ast.proofs.formula.Formula.TheLaws.TheKnot.{send-Formula}

pub boxed_send : (R : RattleType) → IsSend R → IsSend (boxed_row R)
boxed_send R s = boxed.the_send R s

pub boxed_field_send : (R : RattleType) → IsSend R → IsSend (boxed_field R).row
boxed_field_send R s = search (sendable, boxed_send, s)

pub term_send : IsSend term_field.row
term_send = send-Term (search sendable) (search sendable) boxed_send sort.the_field_send one.the_field_send two.the_field_send

term_row_send : IsSend term_row
term_row_send = search (sendable, term_send)

pub bool_send : IsSend bool_field.row
bool_send = send-BTerm (search sendable) test.the_field_send (boxed_field_send _ term_row_send) boxed_send call.the_field_send

bool_row_send : IsSend bool_row
bool_row_send = search (sendable, bool_send)

pub formula_send : IsSend formula_field.row
formula_send = send-Formula cmp.the_field_send (boxed_field_send _ term_row_send) (boxed_field_send _ bool_row_send) boxed_send

pub items_field_send : (R : RattleType) → IsSend R → IsSend (items_field R).row
items_field_send R s = search (sendable, items.the_send, s)

pub goal_send : IsSend goal_row
goal_send = recorded_send goal_field.row _ _ goal_type.to_one (struct_send (shape goal_type) (mode.the_field_send, (items_field_send _ bound.the_send, (formula_send, tt))))
