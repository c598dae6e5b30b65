use Rattle.std.proofs.Common.{◌∙◌, ap}
use Rattle.cert_kit.specs.Making.{numbers_of}
use Rattle.cert_check.specs.Uses.{noted}
use Rattle.cert_check.proofs.UseLaws.{mul_noted, add_noted}
use Rattle.cert_check.proofs.uses.+note_expression.Goals as goal

pub returns-in-Mul : goal.returns-in-Mul
returns-in-Mul t c =
    mul_noted c.args.first c.args.time c.get-in-Mul.result.now c.get-in-Mul-2.result.now c.args.times.now.items _ _ c.note_expression-in-Mul.ensures c.note_expression-in-Mul-2.ensures
    ∙ ap (λ e. noted c.args.first c.args.time (numbers_of e) c.args.times.now.items) cc

pub returns-in-Add : goal.returns-in-Add
returns-in-Add t c =
    add_noted c.args.first c.args.time c.get-in-Add.result.now c.get-in-Add-2.result.now c.args.times.now.items _ _ c.note_expression-in-Add.ensures c.note_expression-in-Add-2.ensures
    ∙ ap (λ e. noted c.args.first c.args.time (numbers_of e) c.args.times.now.items) cc
