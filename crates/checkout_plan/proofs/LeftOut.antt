-- A path that its entry may leave out.
use Rattle.std.proofs.Common.{Bool, true, false}
use Rattle.std.specs.Prelude.{if◌then◌else◌}
use Rattle.git_index.specs.declared.entry.Entry.{Entry}
use Rattle.checkout_core.specs.declared.verdict.Verdict.TheVariants as verdict
use Rattle.checkout_core.specs.declared.verdict.SkipCause.{SkipCause}
use Rattle.checkout_core.specs.declared.verdict.SkipCause.TheVariants as skip
use Rattle.checkout_plan.specs.declared.path_plan.PathPlan.{PathPlan}
use Rattle.checkout_plan.specs.Paths.{closed, unless_left_out}

-- what holds of a path and where it is skipped holds where its entry may leave it out
pub left_out_by : (P : PathPlan → Type 0) (e : Entry) (p : PathPlan) → ((c : SkipCause) → P (closed e (verdict.Skipped c))) → P p → P (unless_left_out e p)
left_out_by P e p out here = by e.sparse e.intent
  where
    by : (a b : Bool) → P (if a then closed e (verdict.Skipped skip.Sparse) else if b then closed e (verdict.Skipped skip.Intent) else p)
    by true b = out skip.Sparse
    by false true = out skip.Intent
    by false false = here
