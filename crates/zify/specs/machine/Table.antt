-- What the walk over a goal has found so far.
use Rattle.std.specs.Prelude.{ℕ, List}
use Rattle.zify.specs.declared.form.ZForm.{ZForm}
use Rattle.zify.specs.declared.shape.Shape.{Shape}

-- the distinct nodes, by their operators and the numbers of their parts; the numbers of those that are operations, in the
-- order of their first places; and the conditions of these
pub record State : Type 0 where
  pub shapes : List Shape
  pub operations : List ℕ
  pub conditions : List ZForm
