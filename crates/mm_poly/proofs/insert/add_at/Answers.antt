use Rattle.std.proofs.Common.{◌≡◌, ◌∙◌, ap, arith}
use Rattle.std.proofs.lemmas.Int.{ints}
use Rattle.mm_poly.specs.declared.term.Term.{Term}
use Rattle.mm_poly.proofs.ContentLaws.{coeff_within}
use Rattle.mm_poly.proofs.InsertionLaws.{gone, stays, one_at}
use Rattle.mm_poly.proofs.insert.add_at.Goals as goal

pub overflow_add-coeff : goal.overflow_add-coeff
overflow_add-coeff c =
    let s = coeff_within c.args.terms.now.items c.args.n c.index.result.now c.requires.place c.index.ensures in
    omega (arith, ints, s, c.requires.small)

pub returns-then-coeff-eq0 : goal.returns-then-coeff-eq0
returns-then-coeff-eq0 c =
    let s = coeff_within c.args.terms.now.items c.args.n c.index.result.now c.requires.place c.index.ensures in
    c.remove.ensures.items
    ∙ gone c.args.c c.args.terms.now.items c.args.n c.index.result.now c.requires.place c.index.ensures
    (omega (arith, ints, s, c.requires.small, c.if-coeff-eq0.true))

pub returns-else-coeff-eq0 : goal.returns-else-coeff-eq0
returns-else-coeff-eq0 c =
    let us = c.args.terms.now.items in
    let s = coeff_within us c.args.n c.index.result.now c.requires.place c.index.ensures in
    let same : c.index_mut.result.now ≡ c.index.result.now = one_at us c.args.n c.index_mut.result.now c.index.result.now c.requires.place c.index_mut.ensures.value c.index.ensures in
    let coeff : c.index_mut.result.now.coeff ≡ c.index.result.now.coeff = ap (λ (t : Term). t.coeff) same in
    stays c.args.c _ us c.args.n c.index_mut.result.now c.requires.place c.index_mut.ensures.value
    (omega (arith, ints, s, coeff, c.requires.small)) (λ z. absurd (omega (arith, ints, s, c.requires.small, c.if-coeff-eq0.false, z)))
