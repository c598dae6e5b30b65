use Rattle.std.specs.Prelude.{[], ◌∷◌, ◌++◌, Bool, if◌then◌else◌}
use Rattle.std.proofs.Common.{◌∙◌, ap}
use Rattle.zify.specs.machine.Walking.{same_shape}
use Rattle.zify.proofs.ShapeLaws.{shapes_tested, any_same, position_same}
use Rattle.zify.proofs.shape.place.Goals as goal

pub returns-in-Ok-clause-place : goal.returns-in-Ok-clause-place
returns-in-Ok-clause-place c = c.in-Ok.ensures.index ∙ position_same _ (same_shape c.args.shape) (shapes_tested c.args.shape) c.args.shapes.now.keys

pub returns-in-Ok-clause-shapes : goal.returns-in-Ok-clause-shapes
returns-in-Ok-clause-shapes c =
    let ss = c.args.shapes.now.keys in
    c.in-Ok.ensures.keys ∙ ap (λ (b : Bool). if b then ss else ss ++ c.args.shape ∷ []) (any_same _ (same_shape c.args.shape) (shapes_tested c.args.shape) ss)
