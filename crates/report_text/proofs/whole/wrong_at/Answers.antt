use Rattle.std.proofs.Common.{◌≤◌, [], refl, sym, ap, subst, ◌∙◌, arith}
use Rattle.std.specs.Prelude.{IfSome}
use Rattle.std.specs.Option.{option_map}
use Rattle.report_text.specs.declared.next.Next.{Next}
use Rattle.report_text.specs.Place.{IsReadTo}
use Rattle.report_text.specs.Progress.{reading_of, vars_after, FindsNext}
use Rattle.report_text.specs.Whole.{vars_in}
use Rattle.report_text.proofs.SoFarLaws.{started, fewer_left}
use Rattle.report_text.proofs.WholeLaws.{ends_well, ends_badly, rest_within, goes_on}
use Rattle.report_text.proofs.whole.wrong_at.Goals as goal

pub lines-init : goal.lines-init
lines-init c = record {
  so_far = subst (IsReadTo c.args.bytes.now c.args.bytes.now) (sym (c.new-progress.ensures.reading []))
      (started c.args.bytes.now);
  counted = c.new-progress.ensures.counted;
}

pub lines-smaller : goal.lines-smaller
lines-smaller c =
    fewer_left (reading_of c.vars_of.result.now c.lines.progress) c.vars_of.result.now c.lines.rest.now c.in-Some.next.rest.now c.in-Some.next.line c.in-Some.next.progress
    (subst (λ o. FindsNext (reading_of c.vars_of.result.now c.lines.progress) c.vars_of.result.now c.lines.rest.now
    (option_map (λ (x : Next). (x.line, x.rest.now, x.progress)) o)) c.in-Some.is c.in_ok-next.ensures.next)

pub lines-preserved : goal.lines-preserved
lines-preserved c = record {
  so_far = goes_on c.args.bytes.now c.lines.rest.now c.in-Some.next.rest.now c.vars_of.result.now
      (vars_in c.goal_after-goal.result) c.lines.progress c.in-Some.next.progress c.in-Some.next.line
      (subst (λ v. IsReadTo c.args.bytes.now c.lines.rest.now (reading_of v c.lines.progress)) (sym c.vars_of.ensures) c.lines.invariant.so_far)
      (subst (λ o. FindsNext (reading_of c.vars_of.result.now c.lines.progress) c.vars_of.result.now c.lines.rest.now
      (option_map (λ (x : Next). (x.line, x.rest.now, x.progress)) o)) c.in-Some.is c.in_ok-next.ensures.next)
      (c.goal_after-goal.ensures ∙ ap (λ v. vars_after v c.in-Some.next.line) (sym c.vars_of.ensures));
  counted = subst (λ o. IfSome o (λ (x : Next). x.progress.here ≤ x.progress.goals)) c.in-Some.is c.in_ok-next.ensures.counted;
}

pub returns-then-is_ended : goal.returns-then-is_ended
returns-then-is_ended c =
    let e = c.if-is_ended.ensures.0 refl in
    ends_well c.args.bytes.now c.lines.rest.now (vars_in c.lines.goal) c.lines.progress c.lines.invariant.so_far e.0 e.1

pub overflow_sub-result : goal.overflow_sub-result
overflow_sub-result c = let within = rest_within c.args.bytes.now c.lines.rest.now (vars_in c.lines.goal) c.lines.progress c.lines.invariant.so_far in omega
    (arith, within)

pub returns : goal.returns
returns c =
    ends_badly c.args.bytes.now c.lines.rest.now c.vars_of.result.now c.lines.progress
    (subst (λ v. IsReadTo c.args.bytes.now c.lines.rest.now (reading_of v c.lines.progress)) (sym c.vars_of.ensures) c.lines.invariant.so_far)
    (subst (λ o. FindsNext (reading_of c.vars_of.result.now c.lines.progress) c.vars_of.result.now c.lines.rest.now
    (option_map (λ (x : Next). (x.line, x.rest.now, x.progress)) o)) c.in_default.is c.in_ok-next.ensures.next)
    (λ e over. absurd (let t = c.if-is_ended.ensures.1 (e, over) in cc))
