use Rattle.std.proofs.Common.{◌≡◌, ◌≤◌, ◌<◌, ℕ, List, length}
use Rattle.std.specs.Prelude.{ℤ}
use Rattle.std.specs.List.{AllByRecursion}
use Rattle.mm_num.specs.Small.{IsSmall}
use Rattle.mm_poly.specs.Point.{point_of}
use Rattle.cert_kit.specs.Row.{Solves}
use Rattle.cert_kit.specs.Acceptance.{IsGood}
use Rattle.cert_kit.specs.Depth.{cert_depth, MakesCert}
use Rattle.cert_kit.specs.Variables.{variables_of}
use Rattle.clause_engine.specs.Settled.{IsSettled, HasPoint, clause_point, WhyOf, IsReason, IsPromised}
use Rattle.clause_engine.proofs.EngineLaws.{of_cert, of_point, of_left, ok_on}
use Rattle.clause_engine.proofs.engine.prove_clause.Goals as goal

pub returns-clause-good : goal.returns-clause-good
returns-clause-good g c = ok_on c.decided.result (of_cert c.args.mode c.args.turns c.args.clause.now.rows (IsGood c.args.clause.now.rows) (λ x d. d.good)) c.decided.ensures

pub returns-clause-makes : goal.returns-clause-makes
returns-clause-makes g c = ok_on c.decided.result (of_cert c.args.mode c.args.turns c.args.clause.now.rows (λ x. MakesCert x.steps x.close) (λ x d. d.makes)) c.decided.ensures

pub returns-clause-shallow : goal.returns-clause-shallow
returns-clause-shallow g c = ok_on c.decided.result (of_cert c.args.mode c.args.turns c.args.clause.now.rows (λ x. cert_depth x ≤ 4000) (λ x d. d.shallow)) c.decided.ensures

pub returns-clause-pointless : goal.returns-clause-pointless
returns-clause-pointless g c = ok_on c.decided.result (of_cert c.args.mode c.args.turns c.args.clause.now.rows (λ x. HasPoint c.args.mode c.args.turns c.args.clause.now.rows → ⊥) (λ x d. d.pointless)) c.decided.ensures

pub returns-clause-one_each : goal.returns-clause-one_each
returns-clause-one_each g c = ok_on c.decided.result (of_point c.args.mode c.args.turns c.args.clause.now.rows (λ zs y. length zs ≡ length (variables_of c.args.clause.now.rows)) (λ zs y d. d.one_each)) c.decided.ensures

pub returns-clause-values : goal.returns-clause-values
returns-clause-values g c = ok_on c.decided.result (of_point c.args.mode c.args.turns c.args.clause.now.rows (λ zs y. HasPoint c.args.mode c.args.turns c.args.clause.now.rows → (v : ℕ) → v < length zs → point_of zs v ≡ clause_point c.args.mode c.args.turns c.args.clause.now.rows v) (λ zs y d. d.values)) c.decided.ensures

pub returns-clause-small : goal.returns-clause-small
returns-clause-small g c = ok_on c.decided.result (of_point c.args.mode c.args.turns c.args.clause.now.rows (λ zs y. AllByRecursion IsSmall zs) (λ zs y d. d.small)) c.decided.ensures

pub returns-clause-solves : goal.returns-clause-solves
returns-clause-solves g c = ok_on c.decided.result (of_point c.args.mode c.args.turns c.args.clause.now.rows (λ zs y. Solves (point_of zs) c.args.clause.now.rows) (λ zs y d. d.solves)) c.decided.ensures

pub returns-clause-reason : goal.returns-clause-reason
returns-clause-reason g c = ok_on c.decided.result (of_point c.args.mode c.args.turns c.args.clause.now.rows (λ zs y. IsReason c.args.mode c.args.turns c.args.clause.now.rows y) (λ zs y d. d.reason)) c.decided.ensures

pub returns-clause-unsettled : goal.returns-clause-unsettled
returns-clause-unsettled g c = ok_on c.decided.result (of_left c.args.mode c.args.turns c.args.clause.now.rows (λ y. IsSettled c.args.mode c.args.turns c.args.clause.now.rows → ⊥) (λ y d. d.0.unsettled)) c.decided.ensures

pub returns-clause-why : goal.returns-clause-why
returns-clause-why g c = ok_on c.decided.result (of_left c.args.mode c.args.turns c.args.clause.now.rows (WhyOf c.args.mode c.args.turns c.args.clause.now.rows) (λ y d. d.0.reason)) c.decided.ensures

pub returns-clause-promised : goal.returns-clause-promised
returns-clause-promised g c = ok_on c.decided.result (of_left c.args.mode c.args.turns c.args.clause.now.rows (λ y. IsPromised c.args.turns c.args.clause.now.rows → ⊥) (λ y d. d.1)) c.decided.ensures
