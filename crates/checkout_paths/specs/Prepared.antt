-- What the object of a path is prepared to.
use Rattle.std.specs.Prelude.{◌≡◌, ℕ, List, Ok}
use Rattle.edge_kit.specs.Told.{Told}
use Rattle.object_dir.specs.Object.{Gives}
use Rattle.tree_encoding.specs.declared.prepared.Prepared.{Prepared}
use Rattle.convert_plan.specs.Prepared.{prepared}
use Rattle.checkout_plan.specs.declared.path_plan.PathPlan.{PathPlan}

-- by what is told of the object, its content is right, and its conversion gives this
pub record IsPreparedTo (told : Told) (p : PathPlan) (ready : Prepared) : Type 0 where
  pub content : List ℕ
  pub object : Gives told p.object (Ok content)
  pub is : ready ≡ prepared p.conversion p.object content
