use Rattle.std.proofs.Common.{◌≤◌, [], Some, None, refl, sym, subst}
use Rattle.std.specs.Prelude.{IfSome}
use Rattle.std.specs.Option.{option_map}
use Rattle.report_text.specs.declared.next.Next.{Next}
use Rattle.report_text.specs.Progress.{reading_of, FindsNext}
use Rattle.report_text.specs.Whole.{vars_in}
use Rattle.report_check.specs.declared.judging.Judged.TheVariants.{Good}
use Rattle.report_check.specs.Goodness.{Rechecks}
use Rattle.report_check.proofs.LineLaws.{IsJudgedTo, origin, started, goes_on}
use Rattle.report_check.proofs.RightLaws.{read_formed}
use Rattle.report_check.proofs.VerdictLaws.{ends_well, ends_ill, left_within}
use Rattle.report_check.proofs.checking.recheck.Goals as goal

pub lines-init : goal.lines-init
lines-init c = record {
  so_far = subst (λ r. IsJudgedTo c.args.bytes.now c.args.bytes.now r None origin Good) (sym (c.new-progress.ensures.reading []))
      (started c.args.bytes.now);
  formed = tt;
  counted = c.new-progress.ensures.counted;
}

pub lines-preserved : goal.lines-preserved
lines-preserved c =
    let found = subst (λ o. FindsNext (reading_of c.vars_of.result.now c.lines.progress) c.vars_of.result.now c.lines.rest.now
    (option_map (λ (x : Next). (x.line, x.rest.now, x.progress)) o)) c.in-Some.is c.in_ok-next.ensures.next in
    let next = subst (λ v. FindsNext (reading_of v c.lines.progress) v c.lines.rest.now
    (option_map (λ (x : Next). (x.line, x.rest.now, x.progress)) (Some c.in-Some.next))) c.vars_of.ensures found in
    record {
      so_far = goes_on c.args.bytes.now c.lines.rest.now c.in-Some.next.rest.now c.lines.progress c.in-Some.next.progress c.in-Some.next.line
          c.lines.goal c.goal_after-goal.result c.lines.place c.place_after-place.result c.lines.judged c.in_ok-judged.judged
          c.lines.invariant.so_far next c.in_ok-judged.ensures c.goal_after-goal.ensures c.place_after-place.ensures;
      formed = read_formed c.lines.goal c.goal_after-goal.result (reading_of (vars_in c.lines.goal) c.lines.progress) (vars_in c.lines.goal)
          c.lines.rest.now c.in-Some.next.rest.now c.in-Some.next.line c.in-Some.next.progress next c.goal_after-goal.ensures c.lines.invariant.formed;
      counted = subst (λ o. IfSome o (λ (x : Next). x.progress.here ≤ x.progress.goals)) c.in-Some.is c.in_ok-next.ensures.counted;
    }

pub returns-then-is_ended : goal.returns-then-is_ended
returns-then-is_ended c =
    let e = c.if-is_ended.ensures.0 refl in
    subst (Rechecks c.args.bytes.now) (sym c.verdict.ensures)
    (ends_well c.args.bytes.now c.lines.rest.now (vars_in c.lines.goal) c.lines.progress c.lines.goal c.lines.place c.lines.judged c.lines.invariant.so_far e.0 e.1)

pub overflow_sub-result : goal.overflow_sub-result
overflow_sub-result c =
    left_within c.args.bytes.now c.lines.rest.now (vars_in c.lines.goal) c.lines.progress c.lines.goal c.lines.place c.lines.judged c.lines.invariant.so_far

pub returns : goal.returns
returns c =
    let none = subst (λ o. FindsNext (reading_of c.vars_of.result.now c.lines.progress) c.vars_of.result.now c.lines.rest.now
    (option_map (λ (x : Next). (x.line, x.rest.now, x.progress)) o)) c.in_default.is c.in_ok-next.ensures.next in
    ends_ill c.args.bytes.now c.lines.rest.now (vars_in c.lines.goal) c.lines.progress c.lines.goal c.lines.place c.lines.judged c.lines.invariant.so_far
    (subst (λ v. FindsNext (reading_of v c.lines.progress) v c.lines.rest.now None) c.vars_of.ensures none)
    (λ e over. absurd (let t = c.if-is_ended.ensures.1 (e, over) in cc))
