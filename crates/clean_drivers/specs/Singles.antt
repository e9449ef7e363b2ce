-- A command that runs once for each content.
use Rattle.std.specs.Prelude.{◌≡◌, ℕ, List, Result, Ok, Err, if◌then◌else◌}
use Rattle.edge_kit.specs.Faults.{AfterTake}
use Rattle.edge_kit.specs.declared.faults.TakeFault.{TakeFault}
use Rattle.edge_kit.specs.declared.faults.TakeFault.TheVariants as take
use Rattle.one_shot.specs.Commands.{once_command}
use Rattle.one_shot.specs.Onces.{RunsTold, told_of, EndsSo}
use Rattle.one_shot.specs.declared.once.OnceEnd.{OnceEnd}
use Rattle.clean_drivers.specs.declared.cause.CleanCause.TheVariants as cause
use Rattle.clean_drivers.specs.declared.cause.CleanFault.{CleanFault}
use Rattle.clean_drivers.specs.declared.cause.CleanFault.TheVariants.{Refused, NoMemory}

-- the most bytes that a run may write
abbrev pub most_output : ℕ
most_output = 536000000

-- a run that failed, that wrote too much or whose exit status isn't 0 refuses its path
abbrev pub run_answer : Result OnceEnd TakeFault → Result (List ℕ) CleanFault
run_answer (Ok e) = if e.zero then Ok e.output else Err (Refused cause.Error)
run_answer (Err take.Failed) = Err (Refused cause.Error)
run_answer (Err take.TooLong) = Err (Refused cause.Error)
run_answer (Err take.NoMemory) = Err NoMemory

-- the command for the path was run, or memory ran out
abbrev pub RunsSingle : RunsTold → List ℕ → List ℕ → List ℕ → ℕ → ℕ → Result (List ℕ) CleanFault → Type 0
RunsSingle told command path content before after answer =
    (end : Result OnceEnd TakeFault) × EndsSo (told_of told (once_command command path) content) most_output end
    × AfterTake before after end × (answer ≡ run_answer end)
