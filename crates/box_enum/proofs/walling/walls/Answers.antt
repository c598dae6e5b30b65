use Rattle.std.proofs.Common.{◌∙◌, ℕ, List, length, ap, sym, refl, arith}
use Rattle.box_enum.specs.machine.Walling.{bare_walls}
use Rattle.box_enum.proofs.BoundLaws.{rising}
use Rattle.box_enum.proofs.PointLaws.{box_length}
use Rattle.box_enum.proofs.WallingLaws.{bare_held, row_held, row_passed, walls_stand}
use Rattle.box_enum.proofs.walling.walls.Goals as goal

pub bare_walls-requires : goal.bare_walls-requires
bare_walls-requires c = omega (
  arith,
  ap (λ (xs : List ℕ). length xs) c.deref.ensures.value,
  ap (λ (xs : List ℕ). length xs) c.in_ok-vars.ensures,
  box_length c.args.rows.now c.args.edges.now c.requires.boxed,
)

pub loop-n-init : goal.loop-n-init
loop-n-init c =
    bare_held c.args.rows.now (length c.args.rows.now) _ c.args.edges.now _ (omega arith) (sym (box_length c.args.rows.now c.args.edges.now c.requires.boxed))
    (c.in_ok-walls.ensures ∙ ap (λ (xs : List ℕ). bare_walls xs c.args.edges.now) (c.deref.ensures.value ∙ c.in_ok-vars.ensures))

pub witness-requires-clause-rising : goal.witness-requires-clause-rising
witness-requires-clause-rising c = rising c.args.rows.now c.deref-in-Some.result.now (c.deref-in-Some.ensures.value ∙ c.in_ok-vars.ensures)

pub witness-requires-clause-each : goal.witness-requires-clause-each
witness-requires-clause-each c = c.loop-n.invariant.variables ∙ sym (c.deref-in-Some.ensures.value ∙ c.in_ok-vars.ensures)

pub loop-n-preserved-in-Some : goal.loop-n-preserved-in-Some
loop-n-preserved-in-Some c =
    row_held c.args.rows.now c.loop-n.n _ c.index-rows-n.result _ _ _ _ _ _ _ (omega arith) (omega arith) refl c.index-rows-n.is refl c.requires.fits c.in-Some.is c.in_ok-reading.ensures c.witness.ensures c.loop-n.invariant

pub loop-n-preserved : goal.loop-n-preserved
loop-n-preserved c =
    row_passed c.args.rows.now c.loop-n.n _ c.index-rows-n.result _ _ _ _ (omega arith) (omega arith) refl c.index-rows-n.is c.in_default.not-Some c.in_ok-reading.ensures c.loop-n.invariant

pub returns-clause-standing : goal.returns-clause-standing
returns-clause-standing c = walls_stand c.args.rows.now c.loop-n.n _ _ _ (omega arith) refl c.requires.boxed c.loop-n.invariant
