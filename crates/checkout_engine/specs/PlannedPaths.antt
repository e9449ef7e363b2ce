-- What holds of each path of a plan that was read.
use Rattle.std.specs.Prelude.{◌≡◌, List, length}
use Rattle.std.specs.List.{AllByRecursion}
use Rattle.edge_kit.specs.Told.{RepoTold}
use Rattle.checkout_plan.specs.declared.path_plan.PathPlan.{PathPlan}
use Rattle.checkout_plan.specs.declared.path_plan.Plan.{Plan}
use Rattle.checkout_paths.specs.Cards.{AreTexts}
use Rattle.checkout_sources.specs.Sources.{IsPlanned}

-- Each path that is read and written is text of 1 to 4,096 bytes, and each object's name has 20 bytes.
pub record AreSized (paths : List PathPlan) : Type 0 where
  pub texts : AreTexts paths
  pub names : AllByRecursion (λ p. length p.object ≡ 20) paths

abbrev pub PlannedPathsAreSized : Type 0
PlannedPathsAreSized = (told : RepoTold) (plan : Plan) → IsPlanned told plan → AreSized plan.paths
