use Rattle.zify.proofs.StepLaws.{power_walks, quotient_walks, remainder_walks, call_walks, found_part, found_table}
use Rattle.zify.proofs.walk.+term.Goals as goal

pub returns-in_ok-a-in-Pow-clause-part : goal.returns-in_ok-a-in-Pow-clause-part
returns-in_ok-a-in-Pow-clause-part t c =
    found_part _ c.raise.result _ _
    (power_walks c.args.bound c.get-in-Pow.result.now c.in-Pow.k c.args.t.now c.in_ok-a-in-Pow.a c.args.table.now c.term-in-Pow.new.table (cc (c.get-in-Pow.ensures, c.in-Pow.is)) c.in_ok-a-in-Pow.ensures.part
    c.in_ok-a-in-Pow.ensures.table)
    c.raise.ensures.part

pub returns-in_ok-a-in-Div-clause-part : goal.returns-in_ok-a-in-Div-clause-part
returns-in_ok-a-in-Div-clause-part t c =
    found_part _ c.divide.result _ _
    (quotient_walks c.args.bound c.get-in-Div.result.now c.in-Div.k c.args.t.now c.in_ok-a-in-Div.a c.args.table.now c.term-in-Div.new.table (cc (c.get-in-Div.ensures, c.in-Div.is)) c.in_ok-a-in-Div.ensures.part
    c.in_ok-a-in-Div.ensures.table)
    c.divide.ensures.part

pub returns-in_ok-a-in-Div-clause-table : goal.returns-in_ok-a-in-Div-clause-table
returns-in_ok-a-in-Div-clause-table t c =
    found_table _ _ c.divide.result c.divide.new.table _ _
    (quotient_walks c.args.bound c.get-in-Div.result.now c.in-Div.k c.args.t.now c.in_ok-a-in-Div.a c.args.table.now c.term-in-Div.new.table (cc (c.get-in-Div.ensures, c.in-Div.is)) c.in_ok-a-in-Div.ensures.part
    c.in_ok-a-in-Div.ensures.table)
    c.divide.ensures.table

pub returns-in_ok-a-in-Rem-clause-part : goal.returns-in_ok-a-in-Rem-clause-part
returns-in_ok-a-in-Rem-clause-part t c =
    found_part _ c.reduce.result _ _
    (remainder_walks c.args.bound c.get-in-Rem.result.now c.in-Rem.k c.args.t.now c.in_ok-a-in-Rem.a c.args.table.now c.term-in-Rem.new.table (cc (c.get-in-Rem.ensures, c.in-Rem.is)) c.in_ok-a-in-Rem.ensures.part
    c.in_ok-a-in-Rem.ensures.table)
    c.reduce.ensures.part

pub returns-in_ok-a-in-Rem-clause-table : goal.returns-in_ok-a-in-Rem-clause-table
returns-in_ok-a-in-Rem-clause-table t c =
    found_table _ _ c.reduce.result c.reduce.new.table _ _
    (remainder_walks c.args.bound c.get-in-Rem.result.now c.in-Rem.k c.args.t.now c.in_ok-a-in-Rem.a c.args.table.now c.term-in-Rem.new.table (cc (c.get-in-Rem.ensures, c.in-Rem.is)) c.in_ok-a-in-Rem.ensures.part
    c.in_ok-a-in-Rem.ensures.table)
    c.reduce.ensures.table

pub returns-in_ok-b-in-Call2-clause-part : goal.returns-in_ok-b-in-Call2-clause-part
returns-in_ok-b-in-Call2-clause-part t c =
    found_part _ c.call_two.result _ _
    (call_walks c.args.bound c.in-Call2.f c.get-in-Call2.result.now c.get-in-Call2-2.result.now c.args.t.now c.in_ok-a-in-Call2.a c.in_ok-b-in-Call2.b c.args.table.now c.term-in-Call2.new.table c.term-in-Call2-2.new.table
    (cc (c.get-in-Call2.ensures, c.get-in-Call2-2.ensures, c.in-Call2.is)) c.in_ok-a-in-Call2.ensures.part c.in_ok-a-in-Call2.ensures.table c.in_ok-b-in-Call2.ensures.part c.in_ok-b-in-Call2.ensures.table)
    c.call_two.ensures.part

pub returns-in_ok-b-in-Call2-clause-table : goal.returns-in_ok-b-in-Call2-clause-table
returns-in_ok-b-in-Call2-clause-table t c =
    found_table _ _ c.call_two.result c.call_two.new.table _ _
    (call_walks c.args.bound c.in-Call2.f c.get-in-Call2.result.now c.get-in-Call2-2.result.now c.args.t.now c.in_ok-a-in-Call2.a c.in_ok-b-in-Call2.b c.args.table.now c.term-in-Call2.new.table c.term-in-Call2-2.new.table
    (cc (c.get-in-Call2.ensures, c.get-in-Call2-2.ensures, c.in-Call2.is)) c.in_ok-a-in-Call2.ensures.part c.in_ok-a-in-Call2.ensures.table c.in_ok-b-in-Call2.ensures.part c.in_ok-b-in-Call2.ensures.table)
    c.call_two.ensures.table
