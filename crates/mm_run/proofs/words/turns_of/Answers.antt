use Rattle.std.proofs.Common.{◌≡◌, ℕ, Ok, sym, ◌∙◌, subst}
use Rattle.mm_run.specs.Words.{NamesTurns}
use Rattle.mm_run.proofs.WordLaws.{parsed}
use Rattle.mm_run.proofs.words.turns_of.Goals as goal

pub returns-in_default-clause-other : goal.returns-in_default-clause-other
returns-in_default-clause-other c = λ z n h.
    let e : c.parse.result ≡ Ok n = parsed c.args.word.now n c.parse.result c.parse.ensures.value.0 h in
    let f = c.in_default.is in
    absurd cc

pub returns-else-names-clause-other : goal.returns-else-names-clause-other
returns-else-names-clause-other c = λ z n h.
    let e : c.parse.result ≡ Ok n = parsed c.args.word.now n c.parse.result c.parse.ensures.value.0 h in
    let f = c.in-Ok.is in
    let same : n ≡ c.in-Ok.turns = cc in
    let t = c.names.ensures.1 (subst (λ (k : ℕ). NamesTurns c.args.word.now k) same h) in
    let b = c.if-names.false in
    absurd cc
