use Rattle.std.proofs.Common.{subst, List, ℕ, Bor}
use Rattle.std.specs.Option.{option_map}
use Rattle.goal_ast.specs.declared.goal.Name.{Name}
use Rattle.report_text.specs.machine.Kinds.{ReadsNamed}
use Rattle.report_text.proofs.BetweenLaws.{session_no_number, session_no_name, session_found}
use Rattle.report_text.proofs.between.session_line.Goals as goal

pub returns-in_default : goal.returns-in_default
returns-in_default c = session_no_number c.args.number c.args.bytes.now c.in_default.ensures

pub returns-in-None : goal.returns-in-None
returns-in-None c =
    session_no_name c.args.number c.args.bytes.now c.in-Some.rest.now c.in-Some.ensures
    (subst (λ o. ReadsNamed c.in-Some.rest.now (option_map (λ (x : Name × Bor (List ℕ)). (x.0, x.1.now)) o)) c.in-None.is c.in_ok-name.ensures)

pub returns-in-Some-2 : goal.returns-in-Some-2
returns-in-Some-2 c =
    session_found c.args.number c.args.bytes.now c.in-Some.rest.now c.in-Some-2.rest.now c.in-Some-2.name c.in-Some.ensures
    (subst (λ o. ReadsNamed c.in-Some.rest.now (option_map (λ (x : Name × Bor (List ℕ)). (x.0, x.1.now)) o)) c.in-Some-2.is c.in_ok-name.ensures)
