-- What is told of single runs of commands, and how a run ends.
use Rattle.std.specs.Prelude.{◌≡◌, ◌<◌, ◌≤◌, ◌&&◌, ℕ, Bool, List, [], ◌∷◌, length, Result, Ok, Err, if◌then◌else◌}
use Rattle.std.specs.Str.{bytes_eq}
use Rattle.edge_kit.specs.Links.{RunTold}
use Rattle.edge_kit.specs.declared.faults.TakeFault.{TakeFault}
use Rattle.edge_kit.specs.declared.faults.TakeFault.TheVariants as take
use Rattle.one_shot.specs.declared.once.OnceEnd.{OnceEnd}

-- what is told of one run: its output and whether its exit status is 0, that it fails, or nothing
pub data OnceTold : Type 0 where
  Ended : (output : List ℕ) → (zero : Bool) → OnceTold
  Failing : OnceTold
  Untold : OnceTold

-- what is told of the runs of commands: nothing, or each of these, and that every other run fails
pub data RunsTold : Type 0 where
  RunsUntold : RunsTold
  RunsListed : List RunTold → RunsTold

-- the first run of this command with this input
abbrev pub run_in : List RunTold → List ℕ → List ℕ → OnceTold
run_in [] command input = Failing
run_in (r ∷ rs) command input =
    if bytes_eq r.command command && bytes_eq r.input input then Ended r.output r.zero else run_in rs command input

-- what is told of the run of a command with an input
abbrev pub told_of : RunsTold → List ℕ → List ℕ → OnceTold
told_of RunsUntold command input = Untold
told_of (RunsListed runs) command input = run_in runs command input

-- this end is what is told, if anything is
abbrev pub TellsEnd : OnceTold → OnceEnd → Type 0
TellsEnd (Ended output zero) e = (e.output ≡ output) × (e.zero ≡ zero)
TellsEnd Failing e = ⊥
TellsEnd Untold e = Unit {0}

-- an output that is longer than the limit is what is told, if anything is
abbrev pub TellsLong : OnceTold → ℕ → Type 0
TellsLong (Ended output zero) limit = limit < length output
TellsLong Failing limit = ⊥
TellsLong Untold limit = Unit {0}

-- that the run fails is what is told, if anything is
abbrev pub MayFail : OnceTold → Type 0
MayFail (Ended output zero) = ⊥
MayFail Failing = Unit {0}
MayFail Untold = Unit {0}

-- what a run with this limit answers
abbrev pub EndsSo : OnceTold → ℕ → Result OnceEnd TakeFault → Type 0
EndsSo told limit (Ok e) = TellsEnd told e × (length e.output ≤ limit)
EndsSo told limit (Err take.TooLong) = TellsLong told limit
EndsSo told limit (Err take.Failed) = MayFail told
EndsSo told limit (Err take.NoMemory) = Unit {0}
