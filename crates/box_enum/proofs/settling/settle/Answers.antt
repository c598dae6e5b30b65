use Rattle.std.proofs.Common.{sym, ◌∙◌, arith}
use Rattle.box_enum.specs.Box.{box_of}
use Rattle.box_enum.specs.machine.Edges.{sides_at}
use Rattle.box_enum.proofs.EdgeLaws.{boxed_as}
use Rattle.box_enum.proofs.PointLaws.{box_small, too_wide, not_too_wide, point_one_each, point_each_small, point_solves}
use Rattle.box_enum.proofs.WallLaws.{shallow_makes}
use Rattle.box_enum.proofs.settling.settle.Goals as goal

pub is_box_within-requires : goal.is_box_within-requires
is_box_within-requires c =
    let b = boxed_as (box_of c.args.rows.now) c.args.bounds.now c.deref.result.now _ c.requires.bounds c.in_ok-edges.ensures c.deref.ensures.value in
    box_small c.args.rows.now c.deref.result.now c.are_rows.ensures b

pub returns-then-not-is_box_within-clause-ends : goal.returns-then-not-is_box_within-clause-ends
returns-then-not-is_box_within-clause-ends c =
    let b = boxed_as (box_of c.args.rows.now) c.args.bounds.now c.deref.result.now _ c.requires.bounds c.in_ok-edges.ensures c.deref.ensures.value in
    too_wide c.args.turns c.args.rows.now (sides_at c.deref.result.now) b c.if-not-is_box_within.ensures

pub search_box-requires-clause-boxed : goal.search_box-requires-clause-boxed
search_box-requires-clause-boxed c = boxed_as (box_of c.args.rows.now) c.args.bounds.now c.deref-2.result.now _ c.requires.bounds c.in_ok-edges.ensures c.deref-2.ensures.value

pub search_box-requires-clause-small : goal.search_box-requires-clause-small
search_box-requires-clause-small c =
    let b = boxed_as (box_of c.args.rows.now) c.args.bounds.now c.deref-2.result.now _ c.requires.bounds c.in_ok-edges.ensures c.deref-2.ensures.value in
    box_small c.args.rows.now c.deref-2.result.now c.are_rows.ensures b

pub returns-in-Some-clause-ends : goal.returns-in-Some-clause-ends
returns-in-Some-clause-ends c =
    let b = boxed_as (box_of c.args.rows.now) c.args.bounds.now c.deref.result.now _ c.requires.bounds c.in_ok-edges.ensures c.deref.ensures.value in
    (not_too_wide c.args.turns c.args.rows.now (sides_at c.deref.result.now) b c.if-not-is_box_within.ensures, sym c.in_ok-found.ensures ∙ c.in-Some.is)

pub returns-in-Some-clause-one_each : goal.returns-in-Some-clause-one_each
returns-in-Some-clause-one_each c =
    let b = boxed_as (box_of c.args.rows.now) c.args.bounds.now c.deref.result.now _ c.requires.bounds c.in_ok-edges.ensures c.deref.ensures.value in
    point_one_each c.args.rows.now c.deref.result.now _ b (sym c.in_ok-found.ensures ∙ c.in-Some.is)

pub returns-in-Some-clause-small : goal.returns-in-Some-clause-small
returns-in-Some-clause-small c =
    let b = boxed_as (box_of c.args.rows.now) c.args.bounds.now c.deref.result.now _ c.requires.bounds c.in_ok-edges.ensures c.deref.ensures.value in
    point_each_small c.args.rows.now c.deref.result.now _ b (box_small c.args.rows.now c.deref.result.now c.are_rows.ensures b) (sym c.in_ok-found.ensures ∙ c.in-Some.is)

pub returns-in-Some-clause-solves : goal.returns-in-Some-clause-solves
returns-in-Some-clause-solves c =
    let b = boxed_as (box_of c.args.rows.now) c.args.bounds.now c.deref.result.now _ c.requires.bounds c.in_ok-edges.ensures c.deref.ensures.value in
    point_solves c.args.rows.now c.deref.result.now _ b (sym c.in_ok-found.ensures ∙ c.in-Some.is)

pub certificate-requires-clause-boxed : goal.certificate-requires-clause-boxed
certificate-requires-clause-boxed c = boxed_as (box_of c.args.rows.now) c.args.bounds.now c.deref-in-None.result.now _ c.requires.bounds c.in_ok-edges.ensures c.deref-in-None.ensures.value

pub certificate-requires-clause-small : goal.certificate-requires-clause-small
certificate-requires-clause-small c =
    let b = boxed_as (box_of c.args.rows.now) c.args.bounds.now c.deref-in-None.result.now _ c.requires.bounds c.in_ok-edges.ensures c.deref-in-None.ensures.value in
    box_small c.args.rows.now c.deref-in-None.result.now c.are_rows.ensures b

pub returns-clause-ends : goal.returns-clause-ends
returns-clause-ends c =
    let b = boxed_as (box_of c.args.rows.now) c.args.bounds.now c.deref.result.now _ c.requires.bounds c.in_ok-edges.ensures c.deref.ensures.value in
    (not_too_wide c.args.turns c.args.rows.now (sides_at c.deref.result.now) b c.if-not-is_box_within.ensures, sym c.in_ok-found.ensures ∙ c.in-None.is)

pub returns-clause-makes : goal.returns-clause-makes
returns-clause-makes c = shallow_makes 2050 c.in_ok-cert-in-None.cert (omega arith) c.in_ok-cert-in-None.ensures.shallow

pub returns-clause-shallow : goal.returns-clause-shallow
returns-clause-shallow c = omega (arith, c.in_ok-cert-in-None.ensures.shallow.depth)
