use Rattle.std.proofs.Common.{◌+◌, ◌++◌, ℕ, List, sym, ap, ◌∙◌, drop, arith}
use Rattle.std.proofs.lemmas.List.{append-nil}
use Rattle.cert_text.specs.Text.{more_terms}
use Rattle.cert_text.proofs.PrintSteps.{term_step, nothing_left}
use Rattle.cert_text.proofs.print.polynomial.push_more_terms.Goals as goal

pub loop-n-preserved : goal.loop-n-preserved
loop-n-preserved c =
    ap (λ (out : List ℕ). out ++ more_terms (drop (c.loop-n.n + 1) c.args.poly.now)) c.in_ok-push_next_term.ensures
    ∙ term_step c.loop-n.out.items c.args.poly.now c.loop-n.n c.term.result.now c.term.ensures ∙ c.loop-n.invariant

pub returns : goal.returns
returns c =
    sym (append-nil c.loop-n.out.items) ∙ ap (λ xs. c.loop-n.out.items ++ more_terms xs) (sym (nothing_left c.loop-n.n c.args.poly.now (omega arith))) ∙ c.loop-n.invariant
