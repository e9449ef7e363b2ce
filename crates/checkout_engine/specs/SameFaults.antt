-- What two checkouts have in common in which leaves or links failed, if the same came of their drivers' starts and of
-- their leaves.
use Rattle.std.specs.Prelude.{◌≡◌, ◌≢◌, ℕ, false, List, map, Option, Some, slice_get}
use Rattle.std.specs.List.{AllZip}
use Rattle.std.specs.Option.{option_map}
use Rattle.edge_kit.specs.Starters.{Starts}
use Rattle.edge_kit.specs.Told.{RepoTold}
use Rattle.checkout_core.specs.declared.verdict.Verdict.TheVariants as verdict
use Rattle.checkout_core.specs.declared.verdict.FailCause.TheVariants as fail
use Rattle.checkout_engine.specs.Alike.{RepoTellsAll, DifferInWorkers}
use Rattle.checkout_engine.specs.Ends.{Seen, IsCheckedOut, verdicts_of}
use Rattle.checkout_paths.specs.Outcome.{Outcome}
use Rattle.run_report.specs.Rows.{report}
use Rattle.checkout_engine.specs.Report.{lacks_memory}
use Rattle.checkout_paths.specs.Talks.{DriverTalk, IsTalkBy}

-- The same came of a driver's starts in both: the same starts failed, and the sessions are equal. What a session sent
-- and took, told or not, its two counts and whether it was shut are the same.
abbrev pub HaveSameItems : (List ℕ → Starts) → (List ℕ → Starts) → ℕ → DriverTalk → DriverTalk → Type 0
HaveSameItems ahead ahead' d t u =
    (one : IsTalkBy (ahead t.command) d t) × (two : IsTalkBy (ahead' u.command) d u) × (one.full ≡ two.full)

-- how often the leaf of each path failed, if the path has one
abbrev pub leaf_counts : List Outcome → List (Option ℕ)
leaf_counts outcomes = map (λ o. option_map (λ leaf. leaf.1) o.leaf) outcomes

-- The same came of the starts of each driver and of the leaf of each path. There was memory for each path.
pub record HaveSameFaults {told told' : RepoTold} {ahead ahead' : List ℕ → Starts} {a b : Option ℕ}
    {old new before after : Seen} (c : IsCheckedOut told ahead a old new)
    (e : IsCheckedOut told' ahead' b before after) : Type 0 where
  pub starts : (d : ℕ) (t u : DriverTalk) → slice_get c.talks d ≡ Some t
      → slice_get e.talks d ≡ Some u → HaveSameItems ahead ahead' d t u
  pub leaves : leaf_counts c.outcomes ≡ leaf_counts e.outcomes
  pub first_memory : lacks_memory (verdicts_of c.outcomes) ≡ false
  pub second_memory : lacks_memory (verdicts_of e.outcomes) ≡ false

-- a path has the same file in both, unless its leaf failed
abbrev pub HaveSameFile : Outcome → Outcome → Type 0
HaveSameFile o q = o.verdict ≢ verdict.Failed fail.WriteFailed → o.file ≡ q.file

-- The two have the same plan, the same verdict for each path and the same report. Each path whose leaf didn't fail has
-- the same file.
pub record HaveSameVerdicts {told told' : RepoTold} {ahead ahead' : List ℕ → Starts} {a b : Option ℕ}
    {old new before after : Seen} (c : IsCheckedOut told ahead a old new)
    (e : IsCheckedOut told' ahead' b before after) : Type 0 where
  pub plan : c.plan ≡ e.plan
  pub verdicts : verdicts_of c.outcomes ≡ verdicts_of e.outcomes
  pub report : report c.plan.paths (verdicts_of c.outcomes)
      ≡ report e.plan.paths (verdicts_of e.outcomes)
  pub files : AllZip HaveSameFile c.outcomes e.outcomes

-- Two checkouts of repositories that tell all and hold the same, but for the number of workers and the threshold, have
-- the same verdicts if the same came of their starts and leaves. It doesn't matter what is told of the starts.
abbrev pub SameFaultsChangeNothing : Type 0
SameFaultsChangeNothing = (told told' : RepoTold) (ahead ahead' : List ℕ → Starts) (a b : Option ℕ)
    (old new before after : Seen) → RepoTellsAll told → DifferInWorkers told told'
    → (c : IsCheckedOut told ahead a old new) → (e : IsCheckedOut told' ahead' b before after)
    → HaveSameFaults c e → HaveSameVerdicts c e
