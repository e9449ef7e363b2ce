-- What the reading of a plan leaves where memory runs out after it, and where it is refused.
use Rattle.edge_kit.specs.Seen.{RepoSeen}
use Rattle.edge_kit.specs.Told.{RepoTold}
use Rattle.checkout_plan.specs.declared.path_plan.Plan.{Plan}
use Rattle.checkout_sources.specs.declared.stop.Refusal.{Refusal}
use Rattle.checkout_sources.specs.Causes.{IsPlanRead, IsRefusedFor, IsCutShort, IsRepoSteady}

-- A plan that was read, and a reading that was refused, leave what a reading leaves that memory cut short. No read
-- failed where a reading is refused or cut short.
pub record ReadingsLeaveParts : Type 0 where
  pub after_plan : (told : RepoTold) (plan : Plan) (old new : RepoSeen) → IsPlanRead told plan old new
      → IsCutShort told old new
  pub after_refusal : (told : RepoTold) (r : Refusal) (old new : RepoSeen) → IsRefusedFor told r old new
      → IsCutShort told old new
  pub refused_steady : (told : RepoTold) (r : Refusal) (old new : RepoSeen) → IsRefusedFor told r old new
      → IsRepoSteady old new
  pub cut_short_steady : (told : RepoTold) (old new : RepoSeen) → IsCutShort told old new → IsRepoSteady old new
