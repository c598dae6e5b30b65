use Rattle.std.proofs.Common.{subst, sym}
use Rattle.report_text.specs.Progress.{reading_of, FindsNext}
use Rattle.report_text.proofs.NextLaws.{begin_next, answer_next, place_next, clause_next, call_next, gives_between, gives_row}
use Rattle.report_text.proofs.next.by_due.Goals as goal

pub returns-in-Begin : goal.returns-in-Begin
returns-in-Begin c =
    subst (FindsNext (reading_of c.args.vars.now c.args.progress) c.args.vars.now c.args.bytes.now) (sym c.begun.ensures)
    (begin_next c.args.vars.now c.args.progress c.args.bytes.now c.in-Begin.is)

pub returns-in-Between : goal.returns-in-Between
returns-in-Between c = gives_between c.args.vars.now c.args.progress c.args.bytes.now c.between.result c.in-Between.is c.between.ensures

pub returns-in-Answer : goal.returns-in-Answer
returns-in-Answer c =
    subst (FindsNext (reading_of c.args.vars.now c.args.progress) c.args.vars.now c.args.bytes.now) (sym c.answered.ensures)
    (answer_next c.args.vars.now c.args.progress c.args.bytes.now c.in-Answer.is)

pub returns-in-Place : goal.returns-in-Place
returns-in-Place c =
    subst (FindsNext (reading_of c.args.vars.now c.args.progress) c.args.vars.now c.args.bytes.now) (sym c.placed.ensures)
    (place_next c.args.vars.now c.args.progress c.args.bytes.now c.in-Place.is)

pub returns-in-Clause : goal.returns-in-Clause
returns-in-Clause c =
    subst (FindsNext (reading_of c.args.vars.now c.args.progress) c.args.vars.now c.args.bytes.now) (sym c.claused.ensures)
    (clause_next c.args.vars.now c.args.progress c.args.bytes.now c.in-Clause.number c.in-Clause.last c.in-Clause.is)

pub returns-in-Row : goal.returns-in-Row
returns-in-Row c = gives_row c.args.vars.now c.args.progress c.args.bytes.now c.in-Row.number c.in-Row.rows c.in-Row.last c.rowed.result c.in-Row.is c.rowed.ensures

pub returns-in-Call : goal.returns-in-Call
returns-in-Call c =
    subst (FindsNext (reading_of c.args.vars.now c.args.progress) c.args.vars.now c.args.bytes.now) (sym c.called.ensures)
    (call_next c.args.vars.now c.args.progress c.args.bytes.now c.in-Call.mode c.in-Call.stores c.in-Call.is)
