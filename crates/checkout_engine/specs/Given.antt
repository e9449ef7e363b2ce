-- What a checkout with drivers shows of the starts that are told of them.
use Rattle.std.specs.Prelude.{◌≡◌, ℕ, Bool, true, List, Option, Some, slice_get}
use Rattle.edge_kit.specs.Starters.{Starts}
use Rattle.edge_kit.specs.Told.{RepoTold}
use Rattle.settings_view.specs.declared.view.Driver.{Driver}
use Rattle.checkout_core.specs.declared.verdict.Verdict.TheVariants.{Written}
use Rattle.checkout_core.specs.States.{is_at}
use Rattle.checkout_plan.specs.declared.path_plan.PathPlan.{PathPlan}
use Rattle.checkout_engine.specs.Alike.{TellAll, IsUndisturbed}
use Rattle.checkout_engine.specs.Complete.{GivesAll}
use Rattle.checkout_engine.specs.Ends.{Seen, IsCheckedOut}
use Rattle.checkout_paths.specs.Outcome.{Outcome}

-- each path of a driver was written
abbrev pub AreWritten : List PathPlan → List Outcome → Type 0
AreWritten ps outcomes = (n d : ℕ) (p : PathPlan) (o : Outcome) → slice_get ps n ≡ Some p
    → is_at d p.start ≡ true → slice_get outcomes n ≡ Some o
    → (unencoded : Bool) × (o.verdict ≡ Written unencoded)

-- Where the repository tells all, and a checkout that wasn't disturbed wrote each path of a driver,
-- what is told of the drivers' starts gives these paths: its own talks show it.
abbrev pub WrittenIsGiven : Type 0
WrittenIsGiven = (told : RepoTold) (ahead : List ℕ → Starts) (asked : Option ℕ) (old new : Seen)
    → TellAll told ahead → (c : IsCheckedOut told ahead asked old new) → IsUndisturbed c
    → AreWritten c.plan.paths c.outcomes → (d : ℕ) (driver : Driver)
    → slice_get c.plan.drivers d ≡ Some driver → GivesAll ahead c.plan.paths d driver
