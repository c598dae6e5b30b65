use Rattle.std.proofs.Common.{◌≡◌, ◌≢◌, ◌==◌, false, rules, List, length, ap, sym, ◌∙◌, arith}
use Rattle.mm_poly.specs.declared.term.Term.{Term}
use Rattle.cert_kit.specs.Row.{is_false}
use Rattle.cert_kit.proofs.FalseLaws.{lone, not_lone}
use Rattle.cert_kit.proofs.row.false_row.Goals as goal

pub returns-then-spread-eq1 : goal.returns-then-spread-eq1
returns-then-spread-eq1 c =
    let one : length c.args.row.now.poly ≡ 1 = omega arith in
    c.is_false_term.ensures
    ∙ ap (λ (p : List Term). is_false (record { poly = p; op = c.args.row.now.op })) (sym (lone _ _ one c.term.ensures))

pub returns-else-spread-eq1 : goal.returns-else-spread-eq1
returns-else-spread-eq1 c =
    let differs : length c.args.row.now.poly ≢ 1 = λ e. c.if-spread-eq1.false (c.spread.ensures.value ∙ e) in
    let test : (c.spread.result == 1) ≡ false = search rules in
    test ∙ sym (not_lone _ _ c.spread.ensures.fits.order differs)
