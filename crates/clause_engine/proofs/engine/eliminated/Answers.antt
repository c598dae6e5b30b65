use Rattle.std.proofs.Common.{rules, ◌≡◌, ◌≤◌, List, subst}
use Rattle.cert_kit.specs.Acceptance.{IsGood}
use Rattle.cert_kit.specs.Depth.{cert_depth, MakesCert}
use Rattle.fm_elim.specs.Tidy.{Contra, Point}
use Rattle.fm_elim.specs.Elimination.{elimination}
use Rattle.fm_elim.specs.Points.{point_of, IsTame, AreLinear}
use Rattle.fm_elim.specs.Answers.{Ends, IfContra}
use Rattle.clause_engine.proofs.EngineLaws.{contradicted, tame_solved}
use Rattle.clause_engine.proofs.engine.eliminated.Goals as goal

pub returns-in-Contra-clause-refuted : goal.returns-in-Contra-clause-refuted
returns-in-Contra-clause-refuted c =
    let ends : elimination c.args.rows.now ≡ Contra = subst (Ends c.args.rows.now) c.in-Contra.is c.in_ok-cert.ensures.ends in
    let good : IsGood c.args.rows.now c.in-Contra.cert = subst (IfContra (IsGood c.args.rows.now)) c.in-Contra.is c.in_ok-cert.ensures.good in
    let makes : MakesCert c.in-Contra.cert.steps c.in-Contra.cert.close = subst (IfContra (λ x. MakesCert x.steps x.close)) c.in-Contra.is c.in_ok-cert.ensures.makes in
    let shallow : cert_depth c.in-Contra.cert ≤ 4000 = subst (IfContra (λ x. cert_depth x ≤ 4000)) c.in-Contra.is c.in_ok-cert.ensures.shallow in
    contradicted c.args.mode c.args.turns c.args.rows.now c.in-Contra.cert ends good makes shallow

pub returns-then-are_linear-clause-unboxed : goal.returns-then-are_linear-clause-unboxed
returns-then-are_linear-clause-unboxed c =
    let ends : (elimination c.args.rows.now ≡ Point) × IsTame c.args.rows.now = subst (Ends c.args.rows.now) c.in-Point.is c.in_ok-cert.ensures.ends in
    let same : c.from_vec.result ≡ point_of c.args.rows.now = search rules in
    let linear : AreLinear c.args.rows.now = search rules in
    tame_solved c.args.mode c.args.turns c.args.rows.now c.from_vec.result c.requires.numbered c.are_rows.ensures linear ends same
