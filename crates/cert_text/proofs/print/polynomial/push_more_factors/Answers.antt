use Rattle.std.proofs.Common.{◌+◌, ◌++◌, ℕ, List, sym, ap, ◌∙◌, drop, arith}
use Rattle.std.proofs.lemmas.List.{append-nil}
use Rattle.cert_text.specs.Text.{more_factors}
use Rattle.cert_text.proofs.PrintSteps.{factor_step, nothing_left}
use Rattle.cert_text.proofs.print.polynomial.push_more_factors.Goals as goal

pub loop-n-preserved : goal.loop-n-preserved
loop-n-preserved c =
    ap (λ (out : List ℕ). out ++ more_factors (drop (c.loop-n.n + 1) c.args.mono.now)) c.in_ok-push_next_factor.ensures
    ∙ factor_step c.loop-n.out.items c.args.mono.now c.loop-n.n c.factor.result c.factor.ensures ∙ c.loop-n.invariant

pub returns : goal.returns
returns c =
    sym (append-nil c.loop-n.out.items) ∙ ap (λ xs. c.loop-n.out.items ++ more_factors xs) (sym (nothing_left c.loop-n.n c.args.mono.now (omega arith))) ∙ c.loop-n.invariant
