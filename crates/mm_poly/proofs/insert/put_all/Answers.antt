use Rattle.std.proofs.Common.{List, sym, subst}
use Rattle.mm_poly.specs.declared.term.Term.{Term}
use Rattle.mm_poly.proofs.InsertionLaws.{At, put_next, term_small}
use Rattle.mm_poly.proofs.insert.put_all.Goals as goal

pub put-requires-clause-small : goal.put-requires-clause-small
put-requires-clause-small c = term_small c.pop.new.self.items c.in-Some.term c.loop-term.many.items c.args.few.items c.args.many.items
    (subst (λ (ts : List Term). At ts c.loop-term.many.items c.args.few.items c.args.many.items) c.in-Some.ensures.items c.loop-term.invariant)

pub loop-term-preserved : goal.loop-term-preserved
loop-term-preserved c =
    subst (λ (ts : List Term). At c.pop.new.self.items ts c.args.few.items c.args.many.items) (sym c.in_ok-put.ensures)
    (put_next c.pop.new.self.items c.in-Some.term c.loop-term.many.items c.args.few.items c.args.many.items
    (subst (λ (ts : List Term). At ts c.loop-term.many.items c.args.few.items c.args.many.items) c.in-Some.ensures.items c.loop-term.invariant))
