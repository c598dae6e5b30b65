use Rattle.std.proofs.Common.{◌≡◌, length, subst}
use Rattle.std.specs.List.{AllByRecursion}
use Rattle.mm_num.specs.Small.{IsSmall}
use Rattle.cert_kit.specs.Row.{Solves}
use Rattle.cert_kit.specs.Variables.{variables_of, point_over}
use Rattle.box_enum.specs.Ends.{EndsBox, IfPoint}
use Rattle.clause_engine.proofs.EngineLaws.{box_solved}
use Rattle.clause_engine.proofs.engine.enumerated.Goals as goal

pub returns-in-Point : goal.returns-in-Point
returns-in-Point c =
    let ends = subst (EndsBox c.args.turns c.args.rows.now) c.in-Point.is c.in_ok-cert.ensures.ends in
    let one_each = subst (IfPoint (λ zs. length zs ≡ length (variables_of c.args.rows.now))) c.in-Point.is c.in_ok-cert.ensures.one_each in
    let small = subst (IfPoint (AllByRecursion IsSmall)) c.in-Point.is c.in_ok-cert.ensures.small in
    let solves = subst (IfPoint (λ zs. Solves (point_over (variables_of c.args.rows.now) zs) c.args.rows.now)) c.in-Point.is c.in_ok-cert.ensures.solves in
    box_solved c.args.mode c.args.turns c.args.rows.now c.in-Point.values c.requires.numbered ends one_each small solves
