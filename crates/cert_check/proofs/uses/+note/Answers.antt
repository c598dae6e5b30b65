use Rattle.std.proofs.Common.{◌∙◌, ap, arith}
use Rattle.cert_check.specs.Uses.{steps_numbers, close_numbers, noted}
use Rattle.cert_check.proofs.UseLaws.{cert_noted, split_noted, enum_noted, member_noted}
use Rattle.cert_check.proofs.uses.+note.Goals as goal

pub note_cert-returns : goal.note_cert-returns
note_cert-returns t c =
    cert_noted c.args.first c.args.time c.args.cert.now c.args.times.now.items _ _
    (c.note_steps.ensures ∙ ap (λ ss. noted c.args.first c.args.time (steps_numbers ss) c.args.times.now.items) c.as_slice.ensures) c.note_close.ensures

pub note_certs-loop-member-preserved : goal.note_certs-loop-member-preserved
note_certs-loop-member-preserved t c =
    member_noted c.args.first c.args.time c.args.members.now c.loop-member.member-index c.member-item.result c.loop-member.times.items _ _
    (omega arith) c.member-item.is c.note_cert.ensures c.loop-member.invariant

pub note_close-returns-in-Split : goal.note_close-returns-in-Split
note_close-returns-in-Split t c =
    split_noted c.args.first c.args.time c.in-Split.field-0 c.get.result.now c.get-in-Split.result.now c.args.times.now.items _ _ c.note_cert.ensures c.note_cert-in-Split.ensures
    ∙ ap (λ k. noted c.args.first c.args.time (close_numbers k) c.args.times.now.items) cc

pub note_close-returns-in-Enum : goal.note_close-returns-in-Enum
note_close-returns-in-Enum t c =
    enum_noted c.args.first c.args.time c.get-ends.result.now c.as_slice.result.now c.args.times.now.items _ _ _ c.note_expression.ensures c.note_expression-in-Enum.ensures c.note_certs.ensures
    ∙ ap (λ k. noted c.args.first c.args.time (close_numbers k) c.args.times.now.items) cc
