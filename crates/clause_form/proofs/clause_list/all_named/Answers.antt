use Rattle.std.proofs.Common.{◌^◌, List, subst, sym, ◌+◌, ◌<◌, ◌≤◌, length, refl, ap, ◌∙◌, arith}
use Rattle.std.specs.List.{All}
use Rattle.std.proofs.lemmas.List.Elements.{All-push}
use Rattle.clause_form.specs.declared.named.Named.{Named}
use Rattle.clause_form.specs.declared.plan.Part.{Part}
use Rattle.clause_form.specs.Clauses.{named, clauses_of}
use Rattle.clause_form.specs.machine.Walk.{walk_all}
use Rattle.clause_form.proofs.GoalPlanLaws.{next_clause}
use Rattle.clause_form.proofs.clause_list.all_named.Goals as goal

pub loop-place-preserved : goal.loop-place-preserved
loop-place-preserved c = record {
  first = c.in_ok-push.ensures.items
      ∙ next_clause c.args.goal.now c.in_ok-parts.parts.items c.loop-place.list.items c.in_ok-named_at.field-0 c.loop-place.place (c.loop-place.place + 1)
      c.in_ok-parts.ensures
      (let l : length (clauses_of c.args.goal.now) ≤ 4096 = omega arith in l)
      (let l : c.loop-place.place < length (clauses_of c.args.goal.now) = omega arith in l)
      c.loop-place.invariant.first
      (c.in_ok-named_at.ensures.made ∙ ap (λ (ps : List Part). named (walk_all ps c.loop-place.place)) c.deref.ensures.value)
      refl;
  short = subst (λ (ns : List Named). All (λ (n : Named). length n.clause.rows < 2 ^ 32) ns) (sym c.in_ok-push.ensures.items)
      (All-push (λ (n : Named). length n.clause.rows < 2 ^ 32) c.loop-place.list.items c.in_ok-named_at.field-0 c.loop-place.invariant.short c.in_ok-named_at.ensures.short);
}
